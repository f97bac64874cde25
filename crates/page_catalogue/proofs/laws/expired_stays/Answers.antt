use Rattle.page_catalogue.proofs.TimeFacts.{expired_later}
use Rattle.page_catalogue.proofs.laws.expired_stays.Goals as goal

pub returns : goal.returns
returns c = expired_later
