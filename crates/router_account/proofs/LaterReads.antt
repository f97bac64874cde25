-- What is said of reads stays true by the shelf as it was earlier, and as it is later.
use Rattle.std.proofs.Common.{ℕ, ◌≡◌, ◌≤◌, ◌∙◌, true, sym, arith}
use Rattle.spie_base.specs.Causes.{Rose}
use Rattle.spie_base.specs.declared.Rules.{Rules}
use Rattle.page_shelf.specs.Shelves.{IsSame}
use Rattle.router_account.specs.declared.words.Cause.{Cause}
use Rattle.router_account.specs.declared.words.Cause.TheVariants.{Failed, Other, Absent, Broken}
use Rattle.router_account.specs.Account.{Account}
use Rattle.router_account.specs.Readings.{IsReadFrom}
use Rattle.router_account.specs.Records.{AreTold, IsCause, name_of}
use Rattle.router_account.specs.Shelves.{ShelfView}
use Rattle.router_account.specs.Sights.{Reading}

-- a shelf that told the same before
module _ (rules : Rules) (a : Account) (x y z : ShelfView) (later : x.faults ≤ y.faults) (still : y.tells ≡ x.tells) (same : x.tells ≡ true → IsSame x.contents y.contents) where
  pub told_since : (page : ℕ) → AreTold rules a page x → AreTold rules a page y
  told_since page told = (still ∙ told.0, λ part. same told.0 (name_of a.router page part) ∙ told.1 part)

  pub cause_since : (page : ℕ) (cause : Cause) → IsCause rules a page y z cause → IsCause rules a page x z cause
  cause_since page Failed is = let q : Rose y.faults z.faults = is in omega (arith, later)
  cause_since page (Other kept found) is = (is.0, is.1, λ told. is.2 (told_since page told))
  cause_since page Absent is = ((is.0.0, λ t. sym (same t (name_of a.router page is.0.0)) ∙ is.0.1 (still ∙ t)), λ told. is.1 (told_since page told))
  cause_since page Broken is = (is.0, λ told. is.1 (told_since page told))

  pub read_since : (reading : Reading) → IsReadFrom rules a y z reading → IsReadFrom rules a x z reading
  read_since reading is = record {
    causes = λ u has. cause_since u.page u.cause (is.causes u has);
    told = λ g has told. is.told g has (told_since g.page told);
  }

-- a shelf that was asked further
module _ (rules : Rules) (a : Account) (x y z : ShelfView) (later : y.faults ≤ z.faults) where
  pub cause_to : (page : ℕ) (cause : Cause) → IsCause rules a page x y cause → IsCause rules a page x z cause
  cause_to page Failed is = let q : Rose x.faults y.faults = is in omega (arith, later)
  cause_to page (Other kept found) is = is
  cause_to page Absent is = is
  cause_to page Broken is = is

  pub read_to : (reading : Reading) → IsReadFrom rules a x y reading → IsReadFrom rules a x z reading
  read_to reading is = record { causes = λ u has. cause_to u.page u.cause (is.causes u has); told = is.told }
