-- `set`: the next mark of a record, into a word of its slot.
use Rattle.std.proofs.Common.{◌≡◌, ℕ, ◌+◌, ◌/◌, ◌%◌, ◌^◌, ◌<◌, ◌≤◌, ◌⊎◌, bit_or, List, [], length, get_or, set, sym, refl, ap, ◌∙◌, subst, inl, inr, ⊎_elim, arith, length-set, get_or-set_other}
use mathlib.Core.Option.{some}
use mathlib.Core.Logic.{dite}
use native.Mathlib.Decide.{ℕ_discrete}
use lib.ListN.{get_elem?}
use Rattle.spie_base.specs.declared.Sig.{Sig}
use Rattle.spie_base.specs.declared.PageNo.{PageNo}
use Rattle.spie_base.specs.declared.PageShape.{PageShape}
use Rattle.gate_core.specs.declared.steps.Act.TheVariants.{Set}
use Rattle.gate_core.specs.declared.states.PassState.{PassState}
use Rattle.gate_core.specs.declared.states.PassState.TheVariants.{Idle, Looked, Inside, Visiting}
use Rattle.hash_family.specs.Positions.{position}
use Rattle.gate_core.specs.Marks.{size}
use Rattle.hash_family.specs.Entries.{IsAmong, IsMarked}
use Rattle.gate_core.specs.Views.{Spent, Duties, View, slot_at}
use Rattle.gate_core.specs.Acts.{gate_place, bit_place, moved_to, after_set, CanSet, mask_of, record_word}
use Rattle.gate_core.specs.Invariant.{counts_in, in_slot, IsLive, HasSet, StateFits, IsLast, PlaneInvariant}
use Rattle.gate_core.specs.declared.steps.StepAnswer.TheVariants as answer
use Rattle.gate_core.specs.declared.core_data.CoreData.{CoreData}
use Rattle.gate_core.specs.Kept.{notes_of, view_of, Holds, DoesAct}
use Rattle.gate_core.specs.Writes.{seat_at, Writes}
use Rattle.gate_core.proofs.Lists.{set_here, some_unset, total-set}
use Rattle.gate_core.proofs.Bits.{position_below, other_word, one_bit_more}
use Rattle.gate_core.proofs.Inside.{hit}
use Rattle.gate_core.proofs.Frame.{Turns, marked_still, acted, turned, restaged}
use Rattle.gate_core.proofs.MachineSteps.{KeepsPlane}
use Rattle.gate_core.proofs.RecordSteps.{stays, record_does, bare}
use Rattle.gate_core.proofs.RecordPlane.{marks_fit}

-- ---- the act keeps the plane invariant

module _ (shape : PageShape) (words : List ℕ) (views : List View) (r : PlaneInvariant shape words views) (id : ℕ) (v : View) (there : get_elem? views id ≡ some v) (alive : ¬ (v.role ≡ Spent)) where
  abbrev d : Duties
  d = r.head.duties

  module _ (s : ℕ) (page : PageNo) (sig : Sig) (m : ℕ) (is : v.state ≡ Inside s page sig m) (more : m < shape.k) where
    abbrev q : ℕ
    q = position shape page.number sig m

    abbrev further_on : View
    further_on = moved_to v (Inside s page sig (m + 1))

    abbrev fuller : List ℕ
    fuller = set words (bit_place shape s (q / 64)) (bit_or (get_or words (bit_place shape s (q / 64)) 0) (2 ^ (q % 64)))

    inside_fit : StateFits shape d v.floor (Inside s page sig m)
    inside_fit = let k = r.fits.actors id v there in subst (StateFits shape d v.floor) is k.state

    q_below : q < size shape
    q_below = position_below shape page.number sig m r.fits.in_range

    step_on : Turns shape d v further_on
    step_on = let k = r.fits.actors id v there in let fit = inside_fit in
        restaged shape d v (Inside s page sig (m + 1)) k (fit.0, fit.1, fit.2, fit.3, fit.4, omega arith)
        (λ role. let least : IsLast v.entries (Inside s page sig m) = subst (IsLast v.entries) is (k.last role) in least)
        alive
        (λ o p h. let h' : HasSet shape (Inside s page sig m) o p = subst (λ (st : PassState). HasSet shape st o p) is h in (h'.0, (h'.1.0, (let a = h'.1.1 in omega arith), h'.1.2)))

    -- a mark after the step was one before, or is the new bit
    new_mark : (o p : ℕ) → IsMarked shape further_on.entries (slot_at d o).page p ⊎ HasSet shape further_on.state o p → (IsMarked shape v.entries (slot_at d o).page p ⊎ HasSet shape v.state o p) ⊎ ((o ≡ s) × (p ≡ q))
    new_mark o p x = ⊎_elim (λ old. inl (inl old)) (λ (h : (s ≡ o) × IsAmong shape page.number sig (m + 1) p). dite (ℕ_discrete h.1.0 m)
        (λ e. inr (sym h.0, sym h.1.2 ∙ ap (position shape page.number sig) e))
        (λ ne. inl (inr (subst (λ (st : PassState). HasSet shape st o p) (sym is) (h.0, (h.1.0, (let a = h.1.1 in omega arith), h.1.2)))))) x

    sets_at : PlaneInvariant shape fuller (set views id further_on)
    sets_at = let fit = inside_fit in let f = r.fits in turned shape words fuller views r id v further_on there step_on (λ mine' first longer.
        acted shape words fuller views d r.head.entries mine' id v further_on f there step_on (length-set words (bit_place shape s (q / 64)) (bit_or (get_or words (bit_place shape s (q / 64)) 0) (2 ^ (q % 64))))
        (get_or-set_other words (bit_place shape s (q / 64)) 0 (bit_or (get_or words (bit_place shape s (q / 64)) 0) (2 ^ (q % 64))) 0 (λ e. omega arith))
        (λ o small. let a = total-set (in_slot o) views id v further_on there in let b : in_slot o v ≡ hit s o = ap (counts_in o) is in let c = f.gates o small in
        get_or-set_other words (bit_place shape s (q / 64)) (gate_place o) (bit_or (get_or words (bit_place shape s (q / 64)) 0) (2 ^ (q % 64))) 0 (λ e. omega arith) ∙ (c ∙ (omega arith)))
        (λ o i small lt dead. other_word shape words d s q f.slots fit.0 fit.4 f.long q_below o i lt (inl (λ e. dead (subst (λ (k : ℕ). IsLive (slot_at d k).phase) (sym e) fit.4))))
        (λ o small stands p within. let told = one_bit_more shape words d s q f.slots fit.0 fit.4 f.long q_below o p within in let old = f.slot_words o small stands p within in (
          (λ one. ⊎_elim (λ b. marked_still shape words fuller views d r.head.entries mine' id v further_on f there step_on o p small stands (old.0 b))
              (λ n. (id, further_on, set_here views id further_on v there, inr (sym n.0, (m, (let g : m < m + 1 = omega arith in g), sym n.1)))) (told.0 one)),
          λ marked. told.1 (⊎_elim (λ x. inl (old.1 x)) (λ n. inr n)
              (some_unset (λ u. IsMarked shape u.entries (slot_at d o).page p ⊎ HasSet shape u.state o p) (λ u. IsMarked shape u.entries (slot_at d o).page p ⊎ HasSet shape u.state o p) ((o ≡ s) × (p ≡ q)) views id v further_on there (λ u x. x) (new_mark o p) marked)),
        ))
        first longer)

  sets_from : (st : PassState) → v.state ≡ st → CanSet shape st → PlaneInvariant shape (set words (record_word shape st) (bit_or (get_or words (record_word shape st) 0) (mask_of shape st))) (set views id (after_set v st))
  sets_from Idle is can = absurd can
  sets_from (Looked s) is can = absurd can
  sets_from (Inside s page sig m) is can = sets_at s page sig m is can
  sets_from (Visiting s gate) is can = absurd can

  pub sets : CanSet shape v.state → PlaneInvariant shape (set words (record_word shape v.state) (bit_or (get_or words (record_word shape v.state) 0) (mask_of shape v.state))) (set views id (after_set v v.state))
  sets can = sets_from v.state refl can

-- the same, whoever does it
pub set_keeps : KeepsPlane Set
set_keeps shape words views r id v there alive can = sets shape words views r id v there alive can

-- ---- the act of the machine, from what it wrote

pub cannot_set : (shape : PageShape) (st : PassState) → ((s : ℕ) (page : PageNo) (sig : Sig) (k : ℕ) → ¬ (st ≡ Inside s page sig k)) → ¬ CanSet shape st
cannot_set shape Idle a = λ h. h
cannot_set shape (Looked s) a = λ h. h
cannot_set shape (Inside s page sig k) a = λ _. a s page sig k refl
cannot_set shape (Visiting s gate) a = λ h. h

module _ (m m' : CoreData) (place : ℕ) (holds : Holds m) (within : place < length m.seats.items) (spare : 1 ≤ m.room) where
  module _ (slot : ℕ) (page : PageNo) (sig : Sig) (k : ℕ) (is : Inside slot page sig k ≡ (seat_at m place).state) where
    abbrev u : View
    u = view_of (notes_of m) place (Inside slot page sig k)

    pub mark_set : k < m.shape.k → (mark at word : ℕ) → mark ≡ position m.shape page.number sig k → at ≡ bit_place m.shape slot (mark / 64) → word ≡ bit_or (get_or m.words.items at 0) (2 ^ (mark % 64))
        → Writes m m' at word place (record (seat_at m place) { state = Inside slot page sig (k + 1) }) → m'.entries ≡ m.entries → m'.visits ≡ m.visits → DoesAct m m' place Set answer.Set
    mark_set below mark at word mark_is at_is word_is writes entries visits =
        record_does m m' at word place (Inside slot page sig k) (record (seat_at m place) { state = Inside slot page sig (k + 1) }) [] []
        holds within (sym is) writes (stays m.entries m'.entries place entries) (stays m.visits m'.visits place visits) Set set_keeps answer.Set spare below refl
        (at_is ∙ ap (λ (p : ℕ). bit_place m.shape slot (p / 64)) mark_is) (word_is ∙ ap (λ (p : ℕ). bit_or (get_or m.words.items at 0) (2 ^ (p % 64))) mark_is)
        (bare u (Inside slot page sig (k + 1))) (marks_fit m holds place within (Inside slot page sig k) is) (omega arith) (omega arith) refl
