use Rattle.page_catalogue.proofs.TimeFacts.{window_has}
use Rattle.page_catalogue.proofs.laws.window_has_page.Goals as goal

pub returns : goal.returns
returns c = window_has
