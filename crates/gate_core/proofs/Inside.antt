-- How many are inside a slot, by its gate and by the keeper's count.
use Rattle.std.proofs.Common.{◌≡◌, ℕ, ◌+◌, ◌<◌, ◌≤◌, List, [], ◌∷◌, get_or, set, sym, refl, ap, ⊎_elim, arith, ◌≢◌, cond, eqb}
use mathlib.Core.Option.{some}
use lib.ListN.{get_elem?}
use Rattle.spie_base.specs.declared.PageShape.{PageShape}
use Rattle.spie_base.specs.declared.types.Entry.{Entry}
use Rattle.gate_core.specs.declared.states.PassState.{PassState}
use Rattle.gate_core.specs.declared.states.PassState.TheVariants.{Idle, Looked, Inside, Visiting}
use Rattle.gate_core.specs.Views.{Role, Spent, Pass, Keeper, Duties, View, blank, slot_at}
use Rattle.gate_core.specs.Acts.{inside_of, gate_place, busy, seal_of, page_of}
use Rattle.gate_core.specs.Invariant.{total, counts_in, in_slot, pass_role, is_pass, is_keeper, keeper_role, seal_bit, PlaneFits}
use Rattle.gate_core.proofs.Lists.{at_set, total-set, total_le, term_le, terms_le}
use Rattle.gate_core.proofs.Gates.{gate_inside, sealed_two, gate_seal, gate_page, tested}

-- ---- how many can be inside

pub one_at_most : (s : ℕ) (st : PassState) → counts_in s st ≤ 1
one_at_most s Idle = omega arith
one_at_most s (Looked t) = omega arith
one_at_most s (Inside t page sig m) = tested (λ x. x ≤ 1) t s 1 0 (λ _. omega arith) (λ _. omega arith)
one_at_most s (Visiting t gate) = tested (λ x. x ≤ 1) t s 1 0 (λ _. omega arith) (λ _. omega arith)

counted : (s : ℕ) (role : Role) (st : PassState) → (role ≡ Spent → st ≡ Idle) → counts_in s st ≤ pass_role role + keeper_role role
counted s Spent st idle = let e : counts_in s st ≡ 0 = ap (counts_in s) (idle refl) in omega arith
counted s Pass st idle = one_at_most s st
counted s Keeper st idle = one_at_most s st

pub crowd : (shape : PageShape) (words : List ℕ) (views : List View) (d : Duties) (mine : List Entry) → PlaneFits shape words views d mine → (s : ℕ) → total (in_slot s) views ≤ 17
crowd shape words views d mine f s = let a = total_le (in_slot s) is_pass is_keeper views (λ j v at. let k = f.actors j v at in counted s v.role v.state (λ e. ap (λ (u : View). u.state) (k.gone e))) in let b = f.out in let c = f.few in let e = f.one_keeper in omega arith

-- whether the actor of one slot is counted in another
abbrev pub hit : ℕ → ℕ → ℕ
hit t s = cond (eqb t s) 1 0

pub hit_one : (t s : ℕ) → t ≡ s → hit t s ≡ 1
hit_one t s e = tested (λ x. x ≡ 1) t s 1 0 (λ _. refl) (λ ne. absurd (ne e))

pub hit_none : (s o : ℕ) → o ≢ s → hit s o ≡ 0
hit_none s o ne = tested (λ x. x ≡ 0) s o 1 0 (λ e. absurd (ne (sym e))) (λ _. refl)

-- ---- by the gate, and by the keeper's count

busy_counts : (s : ℕ) (st : PassState) → counts_in s st ≤ busy st
busy_counts s Idle = omega arith
busy_counts s (Looked t) = omega arith
busy_counts s (Inside t page sig m) = one_at_most s (Inside t page sig m)
busy_counts s (Visiting t gate) = one_at_most s (Visiting t gate)

-- the gate counts those that are Inside or Visiting the slot
pub gate_counts : (shape : PageShape) (words : List ℕ) (views : List View) (d : Duties) (mine : List Entry) → PlaneFits shape words views d mine → (s : ℕ) → s < 4 → inside_of (get_or words (gate_place s) 0) ≡ total (in_slot s) views
gate_counts shape words views d mine f s near = let c = crowd shape words views d mine f s in gate_inside (total (in_slot s) views) (seal_bit (slot_at d s).phase) (slot_at d s).page (get_or words (gate_place s) 0) (omega arith) (sealed_two (slot_at d s).phase) (f.gates s near)

-- the parts of a gate word, and what it is at most
module _ (shape : PageShape) (words : List ℕ) (views : List View) (d : Duties) (mine : List Entry) (f : PlaneFits shape words views d mine) (s : ℕ) (near : s < 4) where
  abbrev gate : ℕ
  gate = get_or words (gate_place s) 0

  pub gate_parts : (inside_of gate ≡ total (in_slot s) views) × (seal_of gate ≡ seal_bit (slot_at d s).phase) × (page_of gate ≡ (slot_at d s).page)
  gate_parts = let g = f.gates s near in let a : ℕ = total (in_slot s) views in let c = crowd shape words views d mine f s in let few : a < 65536 = omega arith in let two = sealed_two (slot_at d s).phase in
      (gate_inside a (seal_bit (slot_at d s).phase) (slot_at d s).page gate few two g, gate_seal a (seal_bit (slot_at d s).phase) (slot_at d s).page gate few two g, gate_page a (seal_bit (slot_at d s).phase) (slot_at d s).page gate few two g)

  pub gate_small : gate + 1 < 18446744073709551616
  gate_small = let g = f.gates s near in let c = crowd shape words views d mine f s in let two = sealed_two (slot_at d s).phase in let p = f.slots.page_within s near in let top = f.slots.fits in omega arith

module _ (shape : PageShape) (words : List ℕ) (views : List View) (id : ℕ) (v : View) (there : get_elem? views id ≡ some v) (role : v.role ≡ Keeper) (f : PlaneFits shape words views v.duties v.entries) (s : ℕ) where
  -- of those inside, all but the keeper are passes
  one_seat : (o : Role) (u : View) → u.role ≡ o → (u.role ≡ Spent → u ≡ blank) → ¬ (o ≡ Keeper) → in_slot s u ≤ pass_role u.role + 0
  one_seat Spent u e gone no_keeper = let z : counts_in s u.state ≡ 0 = ap (λ (x : View). counts_in s x.state) (gone e) in omega arith
  one_seat Pass u e gone no_keeper = let a = one_at_most s u.state in let b : pass_role u.role ≡ 1 = ap pass_role e in omega arith
  one_seat Keeper u e gone no_keeper = absurd (no_keeper refl)

  others_pass : (j : ℕ) (u : View) → get_elem? (set views id blank) j ≡ some u → in_slot s u ≤ is_pass u + 0
  others_pass j u at = ⊎_elim (λ x. let z : counts_in s u.state ≡ 0 = ap (λ (y : View). counts_in s y.state) (sym x.1) in omega arith)
      (λ x. one_seat u.role u refl (f.actors j u x.1).gone (λ e. let a = terms_le is_keeper views id j v u x.0 there x.1 in let b : is_keeper v ≡ 1 = ap keeper_role role in let c : is_keeper u ≡ 1 = ap keeper_role e in let o = f.one_keeper in absurd (omega arith)))
      (at_set views id j blank u at)

  none_zero : (l : List View) → total (λ _. 0) l ≡ 0
  none_zero [] = refl
  none_zero (x ∷ xs) = omega (arith, none_zero xs)

  -- each of them is a pass that is out, or the keeper in a record of its own
  pub few_inside : total (in_slot s) views ≤ v.duties.out + busy v.state
  few_inside = let a = total-set (in_slot s) views id v blank there in let b = total-set is_pass views id v blank there in let c = total_le (in_slot s) is_pass (λ _. 0) (set views id blank) others_pass in let z = none_zero (set views id blank) in
      let k = busy_counts s v.state in let o = f.out in let p : is_pass v ≡ 0 = ap pass_role role in omega arith

  -- with no pass out and no record of the keeper begun, nobody is inside
  pub none_counted : v.duties.out ≡ 0 → counts_in s v.state ≡ 0 → total (in_slot s) views ≡ 0
  none_counted none_out idle = let a = total-set (in_slot s) views id v blank there in let b = total-set is_pass views id v blank there in let c = total_le (in_slot s) is_pass (λ _. 0) (set views id blank) others_pass in let z = none_zero (set views id blank) in
      let o = f.out in let p : is_pass v ≡ 0 = ap pass_role role in omega arith

-- where a sum is 0, each of its parts is
pub nobody_counted : (g : View → ℕ) (views : List View) → total g views ≡ 0 → (j : ℕ) (u : View) → get_elem? views j ≡ some u → g u ≡ 0
nobody_counted g views none j u at = let a = term_le g views j u at in omega arith
