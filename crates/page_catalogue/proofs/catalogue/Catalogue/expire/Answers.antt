use Rattle.page_catalogue.proofs.Windows.{are_expired}
use Rattle.page_catalogue.proofs.catalogue.Catalogue.expire.Goals as goal

pub returns-then-gone-first-clause-exact : goal.returns-then-gone-first-clause-exact
returns-then-gone-first-clause-exact c = are_expired _ _ _ _ c.gone_by-gone.ensures.exact

pub returns-clause-exact : goal.returns-clause-exact
returns-clause-exact c = are_expired _ _ _ _ c.gone_by-gone.ensures.exact
