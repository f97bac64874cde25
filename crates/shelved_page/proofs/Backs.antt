-- A page read back: its two records, one behind the other.
use Rattle.std.proofs.Common.{ℕ, ◌≡◌, ◌≤◌, ◌∙◌, List, true, Some, sym, arith}
use Rattle.spie_base.specs.Causes.{Rose}
use Rattle.spie_base.specs.declared.Rules.{Rules}
use Rattle.page_shelf.specs.declared.ShelfName.{ShelfName}
use Rattle.page_shelf.specs.declared.ShelfPart.TheVariants.{Bits, Rows}
use Rattle.router_account.specs.declared.words.Cause.{Cause}
use Rattle.router_account.specs.declared.words.Cause.TheVariants.{Failed, Other, Absent, Broken}
use Rattle.router_account.specs.Account.{Account}
use Rattle.router_account.specs.Records.{IsCause, AreTold, name_of, true_text}
use Rattle.router_account.specs.Shelves.{ShelfView}
use Rattle.archive_record.specs.Spelling.{spelled_rows}
use Rattle.shelved_page.specs.declared.reading.Content.{Content}
use Rattle.shelved_page.specs.declared.reading.BitsBack.TheVariants.{GotBits}
use Rattle.shelved_page.specs.declared.reading.RowsBack.TheVariants.{GotRows}
use Rattle.shelved_page.specs.Reading.{Gets, IsTold, IsLost, IsBitsBack, IsRowsBack, IsGot, IsTrue, true_rows}

pub gets_then : (x y z : ShelfView) → Gets x y → Gets y z → Gets x z
gets_then x y z a b = record {
  still = b.still ∙ a.still;
  same = λ t name. b.same (a.still ∙ t) name ∙ a.same t name;
  later = let p : x.faults ≤ y.faults = a.later in let q : y.faults ≤ z.faults = b.later in omega arith;
}

pub cause_of_bits : (rules : Rules) (a : Account) (page : ℕ) (x y : ShelfView) (cause : Cause) → IsLost (name_of a.router page Bits) (true_text rules a page Bits) x y cause → IsCause rules a page x y cause
cause_of_bits rules a page x y Failed h = h
cause_of_bits rules a page x y (Other kept found) h = ((Bits, h.0), h.1, λ told. h.2 (told.0, told.1 Bits))
cause_of_bits rules a page x y Absent h = ((Bits, h.0), λ told. h.1 (told.0, told.1 Bits))
cause_of_bits rules a page x y Broken h = ((Bits, h.0.0, h.0.1, h.0.2, h.0.3), λ told. h.1 (told.0, told.1 Bits))

-- what was told before a get is told after it
told_still : (name : ShelfName) (text : List ℕ) (x y : ShelfView) → Gets x y → x.tells ≡ true → x.contents name ≡ Some text → IsTold name text y
told_still name text x y g t c = (g.still ∙ t, g.same t name ∙ c)

abbrev rows_true : Account → (page : ℕ) → List ℕ
rows_true a page = spelled_rows (true_rows a page)

pub cause_of_rows : (rules : Rules) (a : Account) (page : ℕ) (x y z : ShelfView) (cause : Cause) → Gets x y → IsLost (name_of a.router page Rows) (spelled_rows (true_rows a page)) y z cause → IsCause rules a page x z cause
cause_of_rows rules a page x y z Failed g h = let p : x.faults ≤ y.faults = g.later in let q : Rose y.faults z.faults = h in omega arith
cause_of_rows rules a page x y z (Other kept found) g h = ((Rows, h.0), h.1, λ told. h.2 (told_still (name_of a.router page Rows) (rows_true a page) x y g told.0 (told.1 Rows)))
cause_of_rows rules a page x y z Absent g h = ((Rows, λ t. sym (g.same t (name_of a.router page Rows)) ∙ h.0 (g.still ∙ t)), λ told. h.1 (told_still (name_of a.router page Rows) (rows_true a page) x y g told.0 (told.1 Rows)))
cause_of_rows rules a page x y z Broken g h = ((Rows, h.0.0, h.0.1, h.0.2, h.0.3), λ told. h.1 (told_still (name_of a.router page Rows) (rows_true a page) x y g told.0 (told.1 Rows)))

pub true_back : (rules : Rules) (a : Account) (page : ℕ) (c : Content) (x y z : ShelfView) → Gets x y → IsBitsBack rules a page x y (GotBits c.bits) → IsRowsBack a page y z (GotRows c.rows)
    → IsGot rules a page c × (AreTold rules a page x → IsTrue rules a page c)
true_back rules a page c x y z g got_b got_r = (
  record { bits = got_b.0; rows = got_r.0 },
  λ told. record {
    bits = got_b.1 (told.0, told.1 Bits);
    rows = got_r.1 (told_still (name_of a.router page Rows) (rows_true a page) x y g told.0 (told.1 Rows));
  },
)
