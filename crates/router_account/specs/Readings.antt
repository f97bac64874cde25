-- What a query's reading of a router's shelved pages says of the shelf.
use Rattle.std.specs.Prelude.{◌≡◌}
use Rattle.std.specs.List.{Contains}
use Rattle.spie_base.specs.declared.Rules.{Rules}
use Rattle.router_account.specs.Account.{Account, held}
use Rattle.router_account.specs.Records.{AreTold, IsCause}
use Rattle.router_account.specs.Shelves.{ShelfView}
use Rattle.router_account.specs.Sights.{GotPage, Reading, UnreadPage}

-- what was read from a shelf, by the shelf before the first page was asked and after the last: each page that could not
-- be read has its cause, and what was read of a page is what was recorded in it, where the shelf tells both true records
pub record IsReadFrom (rules : Rules) (a : Account) (before after : ShelfView) (reading : Reading) : Type 0 where
  pub causes : (x : UnreadPage) → Contains reading.unread x → IsCause rules a x.page before after x.cause
  pub told : (x : GotPage) → Contains reading.got x → AreTold rules a x.page before → x.held ≡ held rules a x.page
