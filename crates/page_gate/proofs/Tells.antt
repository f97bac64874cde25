-- What a record's steps together tell.
use Rattle.std.proofs.Common.{◌≡◌, ℕ, ◌<◌, eqb, cond, [], ◌∷◌, ◌++◌, length, ap, ◌∙◌, subst}
use Rattle.spie_base.specs.declared.Sig.{Sig}
use Rattle.spie_base.specs.declared.PageShape.{PageShape}
use Rattle.gate_core.specs.declared.steps.Act.TheVariants.{Look, Enter, Leave}
use Rattle.gate_core.specs.declared.states.PassState.TheVariants.{Looked, Inside, Visiting}
use Rattle.gate_core.specs.declared.states.SlotPhase.TheVariants.{Open}
use Rattle.gate_core.specs.declared.view.Role.TheVariants.{Keeper}
use Rattle.gate_core.specs.declared.view.View.{View}
use Rattle.gate_core.specs.declared.view.Visit.{Visit}
use Rattle.gate_core.specs.Views.{slot_at}
use Rattle.gate_core.specs.Acts.{seal_of, page_of, moved_to, numbered, view_after}
use Rattle.gate_core.specs.Invariant.{seal_bit}
use Rattle.gate_core.proofs.Lists.{at_last}
use Rattle.gate_core.proofs.Readings.{looks_at_pointed, gate_met}
use Rattle.page_gate.specs.Steps.{IsMet, Found}
use Rattle.page_gate.specs.Tried.{Visited}

pub sealed_tells : (shape : PageShape) (sig : Sig) (v v1 v2 w : View) (slot gate : ℕ) → v1 ≡ view_after shape Look v slot → v2 ≡ view_after shape (Enter sig) v1 gate → seal_of gate ≡ 1 → IsMet shape v2 → w ≡ view_after shape Leave v2 0 → Visited shape v w gate
sealed_tells shape sig v v1 v2 w slot gate looked came shut met gone =
    let x : Visit = record { slot = slot; gate = gate } in
    let there : View = record v { state = Visiting slot gate; visits = v.visits ++ x ∷ [] } in
    let is : v2 ≡ there = came ∙ (ap (λ (u : View). view_after shape (Enter sig) u gate) looked ∙ ap (λ (b : ℕ). cond (eqb b 0) (moved_to v (Inside slot (numbered (page_of gate)) sig 0)) there) shut) in
    let m = (subst (IsMet shape) is met).2 in (
      slot,
      gone ∙ ap (λ (u : View). view_after shape Leave u 0) is,
      record {
        plane = record { words = m.words; views = m.views };
        rule = m.rule;
        visit = (m.rule.fits.actors m.id there m.mine).visits (length v.visits) x (at_last v.visits x);
      },
    )

-- an unsealed gate: Inside its page, with no mark set
pub open_tells : (shape : PageShape) (sig : Sig) (v v1 v2 : View) (slot gate : ℕ) → v1 ≡ view_after shape Look v slot → v2 ≡ view_after shape (Enter sig) v1 gate → seal_of gate ≡ 0 → v2 ≡ moved_to v (Inside slot (numbered (page_of gate)) sig 0)
open_tells shape sig v v1 v2 slot gate looked came clear =
    let x : Visit = record { slot = slot; gate = gate } in
    came ∙ (ap (λ (u : View). view_after shape (Enter sig) u gate) looked ∙ ap (λ (b : ℕ). cond (eqb b 0) (moved_to v (Inside slot (numbered (page_of gate)) sig 0)) (record v { state = Visiting slot gate; visits = v.visits ++ x ∷ [] })) clear)

-- the keeper's own look and enter, where the slot at which it pointed is open: Inside the open page
module _ (shape : PageShape) (sig : Sig) (v v1 v2 : View) (slot gate : ℕ) (role : v.role ≡ Keeper) (near : slot < 4) (is_open : (slot_at v.duties v.duties.pointed).phase ≡ Open) (look_found : Found shape Look v slot) (looked : v1 ≡ view_after shape Look v slot) (enter_found : Found shape (Enter sig) v1 gate) where
  pointed : slot ≡ v.duties.pointed
  pointed = looks_at_pointed shape v role slot look_found

  read : (seal_of gate ≡ seal_bit (slot_at v.duties slot).phase) × (page_of gate ≡ (slot_at v.duties slot).page)
  read = gate_met shape (moved_to v (Looked slot)) role slot gate (subst (λ (u : View). Found shape (Enter sig) u gate) looked enter_found) near

  pub own_page : page_of gate ≡ (slot_at v.duties v.duties.pointed).page
  own_page = read.1 ∙ ap (λ (s : ℕ). (slot_at v.duties s).page) pointed

  clear : seal_of gate ≡ 0
  clear = read.0 ∙ ap (λ (s : ℕ). seal_bit (slot_at v.duties s).phase) pointed ∙ ap seal_bit is_open

  pub own_inside : v2 ≡ view_after shape (Enter sig) v1 gate → v2 ≡ moved_to v (Inside slot (numbered (page_of gate)) sig 0)
  own_inside came = open_tells shape sig v v1 v2 slot gate looked came clear
