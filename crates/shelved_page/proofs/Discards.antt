-- What both discards do to the names of a page.
use Rattle.std.proofs.Common.{ℕ, ◌≡◌, ◌≤◌, ◌∙◌, Bool, true, false, not, ◌&&◌, None, sym, ap, arith}
use Rattle.std.proofs.lemmas.Bool.{false≢true}
use Rattle.std.specs.Option.{is_some}
use Rattle.spie_base.specs.Causes.{Rose, RoseBy}
use Rattle.page_shelf.specs.Shelves.{Contents, IsSet}
use Rattle.page_shelf.specs.declared.ShelfName.{ShelfName}
use Rattle.page_shelf.specs.declared.ShelfPart.{ShelfPart}
use Rattle.page_shelf.specs.declared.ShelfPart.TheVariants.{Bits, Rows}
use Rattle.router_account.specs.Records.{name_of}
use Rattle.router_account.specs.Shelves.{ShelfView}
use Rattle.shelved_page.specs.Shelving.{IsDiscard, Clears, count_if, names_there}

pub rows_not_bits : (r p s q : ℕ) → name_of r p Bits ≡ name_of s q Rows → ⊥
rows_not_bits r p s q e = let parts : Bits ≡ Rows = ap (λ n. n.part) e in cc

both_gone : (router page : ℕ) (x y z : Contents) → IsSet (name_of router page Bits) None x y → IsSet (name_of router page Rows) None y z → (part : ShelfPart) → z (name_of router page part) ≡ None
both_gone router page x y z a b Bits = b.others (name_of router page Bits) (rows_not_bits router page router page) ∙ a.here
both_gone router page x y z a b Rows = b.here

count_one : (b : Bool) → count_if b ≤ 1
count_one true = omega arith
count_one false = omega arith

-- what a discard left under its name is there for a fault
there_one : (name : ShelfName) (x y : ShelfView) (done : Bool) → IsDiscard name x y done → x.tells ≡ true → RoseBy (count_if (is_some (y.contents name))) x.faults y.faults
there_one name x y true h t = let none : is_some (y.contents name) ≡ false = ap is_some (h.2 t).here in let zero : count_if (is_some (y.contents name)) ≡ 0 = ap count_if none in let same : y.faults ≡ x.faults = h.1 in omega arith
there_one name x y false h t = let one = count_one (is_some (y.contents name)) in let rose : Rose x.faults y.faults = h.1 in omega arith

-- it left the other names as they were
keeps_other : (name other : ShelfName) (x y : ShelfView) (done : Bool) → (other ≡ name → ⊥) → IsDiscard name x y done → x.tells ≡ true → y.contents other ≡ x.contents other
keeps_other name other x y true ne h t = (h.2 t).others other ne
keeps_other name other x y false ne h t = h.2 t other

there_both : (router page : ℕ) (x y z : ShelfView) (bits rows : Bool) → IsDiscard (name_of router page Bits) x y bits → IsDiscard (name_of router page Rows) y z rows → y.tells ≡ x.tells → x.tells ≡ true
    → RoseBy (names_there router page z.contents) x.faults z.faults
there_both router page x y z bits rows a b still t =
    let one = there_one (name_of router page Bits) x y bits a t in
    let two = there_one (name_of router page Rows) y z rows b (still ∙ t) in
    let same : count_if (is_some (z.contents (name_of router page Bits))) ≡ count_if (is_some (y.contents (name_of router page Bits))) = ap (λ c. count_if (is_some c)) (keeps_other (name_of router page Rows) (name_of router page Bits) y z rows (rows_not_bits router page router page) b (still ∙ t)) in
    omega arith

pub cleared : (router page : ℕ) (x y z : ShelfView) (bits rows : Bool) → IsDiscard (name_of router page Bits) x y bits → IsDiscard (name_of router page Rows) y z rows → Clears router page (not (bits && rows)) x z
cleared router page x y z true true a b = record {
  still = b.0 ∙ a.0;
  rose = let p : y.faults ≡ x.faults = a.1 in let q : z.faults ≡ y.faults = b.1 in omega arith;
  there = there_both router page x y z true true a b a.0;
  away = λ t e. both_gone router page x.contents y.contents z.contents (a.2 t) (b.2 (a.0 ∙ t));
  others = λ t name ne. (b.2 (a.0 ∙ t)).others name (ne Rows) ∙ (a.2 t).others name (ne Bits);
}
cleared router page x y z true false a b = record {
  still = b.0 ∙ a.0;
  rose = let p : y.faults ≡ x.faults = a.1 in let q : Rose y.faults z.faults = b.1 in omega arith;
  there = there_both router page x y z true false a b a.0;
  away = λ t e. absurd (false≢true (sym e));
  others = λ t name ne. b.2 (a.0 ∙ t) name ∙ (a.2 t).others name (ne Bits);
}
cleared router page x y z false true a b = record {
  still = b.0 ∙ a.0;
  rose = let p : Rose x.faults y.faults = a.1 in let q : z.faults ≡ y.faults = b.1 in omega arith;
  there = there_both router page x y z false true a b a.0;
  away = λ t e. absurd (false≢true (sym e));
  others = λ t name ne. (b.2 (a.0 ∙ t)).others name (ne Rows) ∙ a.2 t name;
}
cleared router page x y z false false a b = record {
  still = b.0 ∙ a.0;
  rose = let p : Rose x.faults y.faults = a.1 in let q : Rose y.faults z.faults = b.1 in omega arith;
  there = there_both router page x y z false false a b a.0;
  away = λ t e. absurd (false≢true (sym e));
  others = λ t name ne. b.2 (a.0 ∙ t) name ∙ a.2 t name;
}
