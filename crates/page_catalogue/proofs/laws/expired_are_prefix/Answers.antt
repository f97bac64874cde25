use Rattle.page_catalogue.proofs.TimeFacts.{expired_before}
use Rattle.page_catalogue.proofs.laws.expired_are_prefix.Goals as goal

pub returns : goal.returns
returns c = expired_before
