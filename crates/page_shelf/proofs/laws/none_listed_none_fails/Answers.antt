use Rattle.page_shelf.proofs.Counting.{none_listed_none_fails}
use Rattle.page_shelf.proofs.laws.none_listed_none_fails.Goals as goal

pub returns : goal.returns
returns c = none_listed_none_fails
