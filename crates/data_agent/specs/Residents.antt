-- A page in memory. No public clause cites this module.
use Rattle.std.specs.Prelude.{ℕ, ◌≡◌, Bool}
use Rattle.spie_base.specs.Shapes.{shape_of}
use Rattle.spie_base.specs.declared.Rules.{Rules}
use Rattle.spie_base.specs.declared.Sig.{Sig}
use Rattle.hash_family.specs.Positions.{family_of, positions_by}
use Rattle.bloom_page.specs.Sets.{PageSet, are_in}
use Rattle.router_account.specs.Account.{Account, page_set}
use Rattle.data_agent.specs.declared.resident.Resident.{Resident}

-- a page of a router that has these bits
pub record IsRead (rules : Rules) (router page : ℕ) (bits : PageSet) (r : Resident) : Type 0 where
  pub family : r.family.value ≡ family_of (shape_of rules router) page
  pub bits_are : r.page ≡ bits

-- whether a page has all marks of a signature
abbrev pub shows : Resident → Sig → Bool
shows r sig = are_in r.page.members (positions_by r.family.value sig)

-- a page has its family, and exactly the marks of what was recorded in it
pub record IsResident (rules : Rules) (a : Account) (page : ℕ) (r : Resident) : Type 0 where
  pub family : r.family.value ≡ family_of (shape_of rules a.router) page
  pub page_is : r.page ≡ page_set rules a page
