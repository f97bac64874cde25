-- A closed page is settled.
use Rattle.std.proofs.Common.{◌≡◌, ℕ, ◌+◌, ◌<◌, ◌≤◌, Bool, true, cond, length, eq-eqb, ne_eqb, refl, sym, ap, ap₂, ◌∙◌, subst, arith}
use mathlib.Core.Logic.{dite}
use native.Mathlib.Decide.{ℕ_discrete}
use Rattle.spie_base.specs.declared.PageShape.{PageShape}
use Rattle.gate_core.specs.declared.states.PassState.TheVariants.{Idle}
use Rattle.gate_core.specs.declared.states.SlotPhase.{SlotPhase}
use Rattle.gate_core.specs.declared.states.SlotPhase.TheVariants.{Free, Open, Sealed, Quiet}
use Rattle.gate_core.specs.declared.steps.Act.TheVariants.{Settle}
use Rattle.gate_core.specs.declared.view.Duties.{Duties}
use Rattle.gate_core.specs.declared.view.View.{View}
use Rattle.gate_core.specs.declared.view.Role.TheVariants.{Keeper}
use Rattle.gate_core.specs.Views.{slot_at}
use Rattle.gate_core.specs.Acts.{IsQuiet, IsSealed, in_phase, inside_of, busy, after_settle, view_after}
use Rattle.gate_core.proofs.Readings.{met_fits}
use Rattle.gate_core.specs.Invariant.{HasPage}
use Rattle.page_gate.specs.declared.settle.Settled.{Settled}
use Rattle.page_gate.specs.declared.settle.Settled.TheVariants as settled
use Rattle.page_gate.specs.Held.{Home, Held}
use Rattle.page_gate.specs.Pages.{slot_with, phase_with}
use Rattle.page_gate.specs.Settled.{settled_by, SettledNow}
use Rattle.page_gate.specs.Slots.{is_waiting}
use Rattle.page_gate.specs.Steps.{IsMet}
use Rattle.page_gate.proofs.SlotWith.{page_with, phased_with}

pub sealed_is : (ph : SlotPhase) → ph ≡ Sealed → IsSealed ph
sealed_is ph e = subst IsSealed (sym e) tt

pub waiting_quiet : (ph : SlotPhase) → is_waiting ph ≡ true → ¬ (ph ≡ Sealed) → IsQuiet ph
waiting_quiet Free w n = cc
waiting_quiet Open w n = cc
waiting_quiet Sealed w n = absurd (n refl)
waiting_quiet (Quiet next) w n = tt

pub quiet_not_sealed : (ph : SlotPhase) → IsQuiet ph → ph ≡ Sealed → ⊥
quiet_not_sealed ph q e = subst IsQuiet e q

-- what a settle makes of the keeper's view
module _ (v : View) (s gate : ℕ) where
  abbrev pub noting : Duties
  noting = record v.duties { noted = gate; noted_with = v.duties.out + busy v.state }

  pub quiet_is : inside_of gate ≡ 0 → after_settle v s gate ≡ record v { duties = in_phase noting s (Quiet 0) }
  quiet_is e = ap (λ (b : Bool). record v { duties = cond b (in_phase noting s (Quiet 0)) noting }) (eq-eqb (inside_of gate) 0 e)

  pub pending_is : ¬ (inside_of gate ≡ 0) → after_settle v s gate ≡ record v { duties = noting }
  pending_is ne = ap (λ (b : Bool). record v { duties = cond b (in_phase noting s (Quiet 0)) noting }) (ne_eqb (inside_of gate) 0 ne)

-- the gate that was noted counts at most the passes that are out
pub noted_few : (shape : PageShape) (v w : View) (s gate : ℕ) → v.role ≡ Keeper → v.state ≡ Idle → w ≡ view_after shape (Settle s) v gate → IsMet shape w → inside_of gate ≤ v.duties.out
noted_few shape v w s gate role idle is (at, word, m) = dite (ℕ_discrete (inside_of gate) 0)
    (λ e. omega arith)
    (λ ne. let x = is ∙ pending_is v s gate ne in
    let a : inside_of w.duties.noted ≡ inside_of gate = ap (λ (u : View). inside_of u.duties.noted) x in
    let b : w.duties.noted_with ≡ v.duties.out + busy v.state = ap (λ (u : View). u.duties.noted_with) x in
    let c : busy v.state ≡ 0 = ap busy idle in
    let h = (met_fits shape w (ap (λ (u : View). u.role) x ∙ role) at word m).noted in
    omega arith)

-- the gate is the noted word
pub noted_is : (v : View) (s gate : ℕ) → (after_settle v s gate).duties.noted ≡ gate
noted_is v s gate = dite (ℕ_discrete (inside_of gate) 0) (λ e. ap (λ (u : View). u.duties.noted) (quiet_is v s gate e)) (λ ne. ap (λ (u : View). u.duties.noted) (pending_is v s gate ne))

-- so the keeper's view afterwards names it
pub settled_view : (shape : PageShape) (v w : View) (s t gate : ℕ) → s ≡ t → w ≡ view_after shape (Settle s) v gate → w ≡ after_settle v t w.duties.noted
settled_view shape v w s t gate same is = is ∙ ap (λ (k : ℕ). after_settle v k gate) same ∙ sym (ap (after_settle v t) (ap (λ (u : View). u.duties.noted) is ∙ noted_is v s gate))

-- what is answered

pub pending_by : (n m : ℕ) → m ≡ n → ¬ (m ≡ 0) → settled.Pending m ≡ settled_by n
pending_by n m e ne = ap settled.Pending e ∙ sym (ap (λ (b : Bool). cond b settled.Quiet (settled.Pending n)) (ne_eqb n 0 (λ z. ne (e ∙ z))))

pub quiet_by : (n m : ℕ) → m ≡ n → m ≡ 0 → settled.Quiet ≡ settled_by n
quiet_by n m e z = sym (ap (λ (b : Bool). cond b settled.Quiet (settled.Pending n)) (eq-eqb n 0 (sym e ∙ z)))

pub settles_now : (shape : PageShape) (table table' : Home) (v w : View) (page s gate : ℕ) (t : Settled) → table' ≡ table → v.role ≡ Keeper → v.state ≡ Idle → s ≡ slot_with v.duties page → w ≡ view_after shape (Settle s) v gate → IsMet shape w → t ≡ settled_by (inside_of gate)
    → SettledNow (record { table = table; view = v }) (record { table = table'; view = w }) page t
settles_now shape table table' v w page s gate t here role idle at is met answer =
    let noted : w.duties.noted ≡ gate = ap (λ (u : View). u.duties.noted) is ∙ noted_is v s gate in record {
      keeper = ap₂ (λ (h : Home) (u : View). record { table = h; view = u }) here (settled_view shape v w s (slot_with v.duties page) gate at is);
      answers = answer ∙ sym (ap (λ (n : ℕ). settled_by (inside_of n)) noted);
      few = subst (λ (n : ℕ). inside_of n ≤ v.duties.out) (sym noted) (noted_few shape v w s gate role idle is met);
    }

-- the slot of a page that is sealed
pub sealed_near : (d : Duties) (page s : ℕ) → length d.slots ≡ 4 → s ≡ slot_with d page → phase_with d page ≡ Sealed → (s < 4) × ((slot_at d s).phase ≡ Sealed)
sealed_near d page s four at is =
    let here : (slot_at d s).phase ≡ Sealed = ap (λ (k : ℕ). (slot_at d k).phase) at ∙ is in
    let found = page_with d page (subst HasPage (sym is) tt) in
    let low = found.0 in (omega arith, here)

-- where nobody was inside, the page is quiet
pub settled_quiet : (before after : Held) (page : ℕ) (t : Settled) → length before.view.duties.slots ≡ 4 → phase_with before.view.duties page ≡ Sealed → SettledNow before after page t → t ≡ settled.Quiet → IsQuiet (phase_with after.view.duties page)
settled_quiet before after page t four is k quiet =
    let v = before.view in
    let gate : ℕ = after.view.duties.noted in
    let s : ℕ = slot_with v.duties page in
    let none : inside_of gate ≡ 0 = dite (ℕ_discrete (inside_of gate) 0) (λ e. e) (λ ne. absurd (let e : settled.Quiet ≡ settled.Pending (inside_of gate) = sym quiet ∙ k.answers ∙ sym (pending_by (inside_of gate) (inside_of gate) refl ne) in cc)) in
    let view : after.view ≡ record v { duties = in_phase (noting v s gate) s (Quiet 0) } = ap (λ (h : Held). h.view) k.keeper ∙ quiet_is v s gate none in
    let ph = phased_with v.duties page (Quiet 0) four (subst HasPage (sym is) tt) tt in
    subst IsQuiet (sym (ap (λ (u : View). phase_with u.duties page) view ∙ ph)) tt
