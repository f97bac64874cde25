-- The rows of a page in a table.
use Rattle.std.proofs.Common.{ℕ, ◌≡◌, ◌≢◌, ◌≤◌, ◌+◌, ◌∷◌, [], ◌∙◌, ◌&&◌, Bool, true, false, not, cond, List, filter, map, nat_le, nat_lt, ◌==◌, ap, sym, refl, subst, inl, inr, arith}
use Rattle.spie_base.proofs.Booleans.{both_hold, and_false}
use Rattle.std.proofs.lemmas.Bool.{cases_eq, cases_lt, eq-eqb, ne_eqb, le-leb, lt-leb, lt-ltb, le-ltb}
use Rattle.spie_base.specs.declared.PageNo.{PageNo}
use Rattle.packet_signature.specs.declared.Row.{Row}
use Rattle.transform_table.specs.Tables.{rows_of_page, without_page, is_of_page}

abbrev rest_of : (page : ℕ) → List (PageNo × Row) → (dropped : Bool) → (pair : PageNo × Row) → List (PageNo × Row)
rest_of page table dropped pair = cond (not dropped) (pair ∷ without_page page table) (without_page page table)

both_have : (page other : ℕ) (pair : PageNo × Row) (table : List (PageNo × Row)) (here : Bool) → rows_of_page other (without_page page table) ≡ rows_of_page other table
    → map (λ (p : PageNo × Row). p.1) (cond here (pair ∷ filter (is_of_page other) (without_page page table)) (filter (is_of_page other) (without_page page table)))
    ≡ map (λ (p : PageNo × Row). p.1) (cond here (pair ∷ filter (is_of_page other) table) (filter (is_of_page other) table))
both_have page other pair table true e = ap (λ rows. pair.1 ∷ rows) e
both_have page other pair table false e = e

-- without one page, the others have their rows
pub rows_without : (page other : ℕ) (table : List (PageNo × Row)) → page ≢ other → rows_of_page other (without_page page table) ≡ rows_of_page other table
rows_without page other [] ne = refl
rows_without page other (pair ∷ table) ne =
    elim (cases_eq pair.0.number page) [
      | inl gone ↦
          let elsewhere : (pair.0.number == other) ≡ false = ne_eqb pair.0.number other (λ e. ne (sym gone ∙ e)) in
          ap (λ b. rows_of_page other (rest_of page table b pair)) (eq-eqb pair.0.number page gone)
          ∙ rows_without page other table ne
          ∙ ap (λ b. map (λ (p : PageNo × Row). p.1) (cond b (pair ∷ filter (is_of_page other) table) (filter (is_of_page other) table))) (sym elsewhere)
      | inr stays ↦
          ap (λ b. rows_of_page other (rest_of page table b pair)) (ne_eqb pair.0.number page stays)
          ∙ both_have page other pair table (pair.0.number == other) (rows_without page other table ne)
    ]

abbrev no_such : (page : ℕ) → List (PageNo × Row) → (here : Bool) → (pair : PageNo × Row) → List Row
no_such page table here pair = map (λ (p : PageNo × Row). p.1) (cond here (pair ∷ filter (is_of_page page) table) (filter (is_of_page page) table))

-- and that page has none
pub rows_left : (page : ℕ) (table : List (PageNo × Row)) → rows_of_page page (without_page page table) ≡ []
rows_left page [] = refl
rows_left page (pair ∷ table) =
    elim (cases_eq pair.0.number page) [
      | inl gone ↦ ap (λ b. rows_of_page page (rest_of page table b pair)) (eq-eqb pair.0.number page gone) ∙ rows_left page table
      | inr stays ↦
          ap (λ b. rows_of_page page (rest_of page table b pair)) (ne_eqb pair.0.number page stays)
          ∙ ap (λ b. no_such page (without_page page table) b pair) (ne_eqb pair.0.number page stays)
          ∙ rows_left page table
    ]

-- rows without those of the pages from a first one, and before another
abbrev pub rows_outside : (first bound page : ℕ) → List Row → List Row
rows_outside first bound page rows = cond (nat_le first page && nat_lt page bound) [] rows

outside_some : (first bound page : ℕ) (rows : List Row) → (nat_le first page && nat_lt page bound) ≡ true → rows_outside first bound page rows ≡ []
outside_some first bound page rows is = ap (λ b. cond b [] rows) is

outside_none : (first bound page : ℕ) (rows : List Row) → (nat_le first page && nat_lt page bound) ≡ false → rows_outside first bound page rows ≡ rows
outside_none first bound page rows is = ap (λ b. cond b [] rows) is

next_same : (page bound : ℕ) → page ≢ bound → nat_lt page bound ≡ nat_lt page (bound + 1)
next_same page bound ne = elim (cases_lt page bound) [
  | inl lt ↦ lt-ltb page bound lt ∙ sym (lt-ltb page (bound + 1) (omega arith))
  | inr ge ↦ le-ltb page bound ge ∙ sym (le-ltb page (bound + 1) (omega arith))
]

-- one page more
pub rows_drop : (first bound : ℕ) (before table : List (PageNo × Row)) → first ≤ bound → ((page : ℕ) → rows_of_page page table ≡ rows_outside first bound page (rows_of_page page before))
    → (page : ℕ) → rows_of_page page (without_page bound table) ≡ rows_outside first (bound + 1) page (rows_of_page page before)
rows_drop first bound before table le so_far page =
    elim (cases_eq page bound) [
      | inl here ↦
          subst (λ p. rows_of_page p (without_page bound table) ≡ rows_outside first (bound + 1) p (rows_of_page p before)) (sym here)
          (rows_left bound table ∙ sym (outside_some first (bound + 1) bound (rows_of_page bound before) (both_hold (nat_le first bound) (nat_lt bound (bound + 1)) (le-leb first bound le) (lt-ltb bound (bound + 1) (omega arith)))))
      | inr elsewhere ↦
          rows_without bound page table (λ e. elsewhere (sym e)) ∙ so_far page
          ∙ ap (λ b. cond (nat_le first page && b) [] (rows_of_page page before)) (next_same page bound elsewhere)
    ]

pub rows_start : (first : ℕ) (table : List (PageNo × Row)) (page : ℕ) → rows_of_page page table ≡ rows_outside first first page (rows_of_page page table)
rows_start first table page =
    elim (cases_lt page first) [
      | inl before ↦ sym (outside_none first first page (rows_of_page page table) (ap (λ b. b && nat_lt page first) (lt-leb first page before)))
      | inr behind ↦ sym (outside_none first first page (rows_of_page page table) (ap (λ b. nat_le first page && b) (le-ltb page first behind) ∙ and_false (nat_le first page)))
    ]
