-- What the reads of a signature's marks tell.
use Rattle.std.proofs.Common.{◌≡◌, ◌↔◌, ℕ, zero, suc, ◌+◌, ◌<◌, ◌==◌, ◌%◌, Bool, true, false, List, [], ◌∷◌, ◌++◌, length, map, refl, sym, ap, ◌∙◌, subst, ⊎_elim, arith, append_assoc}
use Rattle.std.specs.Prelude.{IsTrue}
use Rattle.std.specs.Int.{bit_at}
use Rattle.std.specs.List.{range_with_len}
use Rattle.std.proofs.lemmas.Bool.{cases_lt}
use Rattle.std.proofs.lemmas.List.{map-append}
use mathlib.Core.Option.{some}
use lib.ListN.{get_elem?}
use Rattle.spie_base.specs.declared.PageShape.{PageShape}
use Rattle.spie_base.specs.declared.Sig.{Sig}
use Rattle.bloom_page.proofs.Ranges.{range-more}
use Rattle.hash_family.specs.Positions.{position}
use Rattle.hash_family.specs.Entries.{IsMarked}
use Rattle.gate_core.specs.declared.states.PassState.TheVariants.{Idle}
use Rattle.gate_core.specs.declared.states.SlotPhase.{SlotPhase}
use Rattle.gate_core.specs.declared.states.SlotPhase.TheVariants.{Free, Open, Sealed, Quiet}
use Rattle.gate_core.specs.declared.steps.Act.TheVariants.{Probe}
use Rattle.gate_core.specs.declared.view.Probed.{Probed}
use Rattle.gate_core.specs.declared.view.View.{View}
use Rattle.gate_core.specs.declared.view.Role.TheVariants.{Spent, Keeper}
use Rattle.gate_core.specs.Marks.{size}
use Rattle.gate_core.specs.Views.{slot_at}
use Rattle.gate_core.specs.Acts.{CanProbe, CanLook, Enabled, view_after}
use Rattle.gate_core.specs.Invariant.{HasPage, taken}
use Rattle.gate_core.proofs.Alone.{met_alone}
use Rattle.gate_core.proofs.Lists.{at_last, at_longer, at_within}
use Rattle.gate_core.proofs.Readings.{met_fits}
use Rattle.page_gate.specs.Pages.{CanRead}
use Rattle.page_gate.specs.Probes.{noting_more, read_of, set_reads, ReadsTell, HaveAllMarks}
use Rattle.page_gate.specs.Steps.{IsMet}
use Rattle.page_gate.proofs.KeptSlots.{alive}

-- ---- one read

can_probe : (ph : SlotPhase) → HasPage ph → taken ph ≡ 0 → CanProbe ph
can_probe Free stands none = absurd stands
can_probe Open stands none = tt
can_probe Sealed stands none = tt
can_probe (Quiet next) stands none = none

-- after any reads, a bit may be read
pub can_read : (shape : PageShape) (v u : View) (page s p : ℕ) (more : List Probed) → CanRead v page s → u ≡ noting_more v more → p < size shape → Enabled shape (Probe s p) u × ¬ (u.role ≡ Spent)
can_read shape v u page s p more k is small = subst (λ (w : View). Enabled shape (Probe s p) w × ¬ (w.role ≡ Spent)) (sym is)
    ((k.role, k.near, small, can_probe (slot_at v.duties s).phase k.stands k.whole), alive v.role k.role)

-- it is noted behind them
pub read_next : (shape : PageShape) (v u w : View) (page s p n : ℕ) (more : List Probed) (x : Probed) → u ≡ noting_more v more → w ≡ view_after shape (Probe s p) u n → record { page = (slot_at v.duties s).page; at = p; bit = bit_at n (p % 64) == 1; known = length v.entries } ≡ x
    → w ≡ noting_more v (more ++ x ∷ [])
read_next shape v u w page s p n more x was now seen =
    now ∙ ap (λ (y : View). view_after shape (Probe s p) y n) was
    ∙ ap (λ (ps : List Probed). record v { duties = record v.duties { probes = ps } }) (append_assoc v.duties.probes more _)
    ∙ ap (λ (y : Probed). noting_more v (more ++ y ∷ [])) seen

module _ (shape : PageShape) (page : ℕ) (sig : Sig) (known : ℕ) where
  pub set_reads_more : (i : ℕ) → set_reads shape page sig known (i + 1) ≡ set_reads shape page sig known i ++ read_of shape page sig known i true ∷ []
  set_reads_more i =
      let e : i + 1 ≡ suc i = omega arith in
      let f : ℕ → Probed = λ j. read_of shape page sig known j true in
      ap (set_reads shape page sig known) e ∙ ap (map f) (range-more i) ∙ map-append f (range_with_len 0 i) (i ∷ [])

  pub seen_is : (p i n q : ℕ) (b : Bool) → q ≡ page → p ≡ position shape page sig i → (bit_at n (p % 64) == 1) ≡ b → record { page = q; at = p; bit = bit_at n (p % 64) == 1; known = known } ≡ read_of shape page sig known i b
  seen_is p i n q b here at bit = λ k. record { page = here k; at = at k; bit = bit k; known = known }

  -- a read mark stands among the reads
  reads_at : (count i : ℕ) → i < count → (j : ℕ) × (get_elem? (set_reads shape page sig known count) j ≡ some (read_of shape page sig known i true))
  reads_at zero i lt = absurd (omega arith)
  reads_at (suc count) i lt =
      let last : Probed = read_of shape page sig known count true in
      let more : set_reads shape page sig known (suc count) ≡ set_reads shape page sig known count ++ last ∷ [] = (let e : suc count ≡ count + 1 = omega arith in ap (set_reads shape page sig known) e) ∙ set_reads_more count in
      ⊎_elim
      (λ less. let (j, at) = reads_at count i less in (j, ap (λ xs. get_elem? xs j) more ∙ at_longer (set_reads shape page sig known count) (last ∷ []) j (read_of shape page sig known i true) at))
      (λ le. let e : count ≡ i = omega arith in let before = set_reads shape page sig known count in
      (length before, ap (λ xs. get_elem? xs (length before)) more ∙ at_last before last ∙ ap (λ (m : ℕ). some (read_of shape page sig known m true)) e))
      (cases_lt i count)

-- what stands in the second list stands in both together
at_back : (xs ys : List Probed) (i : ℕ) (x : Probed) → get_elem? ys i ≡ some x → (j : ℕ) × (get_elem? (xs ++ ys) j ≡ some x)
at_back [] ys i x e = (i, e)
at_back (y ∷ xs) ys i x e = let (j, at) = at_back xs ys i x e in (suc j, at)

-- ---- all reads

module _ (shape : PageShape) (v w : View) (page : ℕ) (sig : Sig) (more : List Probed) (role : v.role ≡ Keeper) (met : IsMet shape w) (is : w ≡ noting_more v more) where
  role' : w.role ≡ Keeper
  role' = ap (λ (u : View). u.role) is ∙ role

  noted : (i : ℕ) (x : Probed) → get_elem? more i ≡ some x → (j : ℕ) × (get_elem? w.duties.probes j ≡ some x)
  noted i x e = let (j, at) = at_back v.duties.probes more i x e in (j, ap (λ (u : View). get_elem? u.duties.probes j) is ∙ at)

  -- a mark that was read as not set is none of the keeper's entries
  pub missing : (answer : Bool) → ReadsTell shape page sig (length v.entries) more answer → answer ≡ false → HaveAllMarks shape v.entries page sig → ⊥
  missing true tells unset all = cc
  missing false (i, lt, reads) unset all =
      let x : Probed = read_of shape page sig (length v.entries) i false in
      let before = set_reads shape page sig (length v.entries) i in
      let (j, at) = noted (length before) x (ap (λ xs. get_elem? xs (length before)) reads ∙ at_last before x) in
      let (n, e, there, of, among) = all i lt in
      let there' = ap (λ (u : View). get_elem? u.entries n) is ∙ there in
      ((met_fits shape w role' met.0 met.1 met.2).probes j x at).unseen refl n e (at_within v.entries n e there) there' of among

  -- with no pass out, a mark that was read as set is one of the keeper's entries
  held : v.duties.out ≡ 0 → v.state ≡ Idle → more ≡ set_reads shape page sig (length v.entries) shape.k → HaveAllMarks shape v.entries page sig
  held none_out idle reads i lt =
      let (n, at) = reads_at shape page sig (length v.entries) shape.k i lt in
      let x : Probed = read_of shape page sig (length v.entries) i true in
      let (j, there) = noted n x (ap (λ xs. get_elem? xs n) reads ∙ at) in
      let can : CanLook w.state = subst CanLook (sym (ap (λ (u : View). u.state) is ∙ idle)) tt in
      let alone = met_alone shape w met.0 met.1 met.2 role' (ap (λ (u : View). u.duties.out) is ∙ none_out) can in
      subst (λ (u : View). IsMarked shape u.entries page (position shape page sig i)) is (alone.probed j x there refl)

  pub answers : v.duties.out ≡ 0 → v.state ≡ Idle → (answer : Bool) → ReadsTell shape page sig (length v.entries) more answer → IsTrue answer ↔ HaveAllMarks shape v.entries page sig
  answers none_out idle true tells = ((λ _. held none_out idle tells), (λ _. refl))
  answers none_out idle false tells = ((λ told. cc), (λ all. absurd (missing false tells refl all)))
