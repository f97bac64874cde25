-- What a pass is told.
use Rattle.std.proofs.Common.{◌≡◌, ℕ, List, [], ◌∷◌, ◌++◌, sym, ap, ap₂, ◌∙◌, subst, append_assoc, append-nil}
use Rattle.std.proofs.lemmas.List.Elements.{All-nil, All-cons, All-append}
use Rattle.spie_base.specs.declared.PageShape.{PageShape}
use Rattle.spie_base.specs.declared.PageNo.{PageNo}
use Rattle.spie_base.specs.declared.Sig.{Sig}
use Rattle.spie_base.specs.declared.types.Entry.{Entry}
use Rattle.atomic_table.specs.declared.shared.Seat.{Seat}
use Rattle.gate_core.specs.declared.view.Role.TheVariants.{Pass}
use Rattle.gate_core.specs.declared.view.View.{View}
use Rattle.gate_core.specs.declared.view.Visit.{Visit}
use Rattle.gate_core.specs.Invariant.{IsRising}
use Rattle.gate_core.proofs.Readings as readings
use Rattle.page_gate.specs.declared.record.Tried.{Tried}
use Rattle.page_gate.specs.declared.record.Tried.TheVariants.{Entered, Sealed}
use Rattle.page_gate.specs.Steps.{Nothing, IsMet}
use Rattle.page_gate.specs.Held.{PassHeld, held_of}
use Rattle.page_gate.specs.Tried.{Tells, PassTells, SealedThen, WereSealed, PassRetried, PassRecorded}

pub rises : (shape : PageShape) (v : View) → IsMet shape v → v.role ≡ Pass → IsRising v.floor v.entries
rises shape v (at, word, m) role = readings.rises shape v at word m role

-- what a seat was told is what its pass tells
pub pass_tells : (shape : PageShape) (sig : Sig) (before after : Seat Nothing View) (t : Tried) → Tells shape sig before after t → PassTells shape sig (held_of before.table_id before.me.0) (held_of after.table_id after.me.0) t
pass_tells shape sig before after (Entered page) k = ap₂ held_of k.0 k.3
pass_tells shape sig before after (Sealed gate) k = (k.3.0, ap₂ held_of k.0 k.3.1, k.3.2)

-- ---- several tries, one after another

module _ (shape : PageShape) where
  abbrev was_sealed : ℕ → Visit → Type 0
  was_sealed floor x = SealedThen shape floor x.slot x.gate

  -- no try yet
  pub retried_none : (a : PassHeld) → PassRetried shape a a
  retried_none a = record { more = []; sealed = All-nil (was_sealed a.floor); held = ap (λ (vs : List Visit). record a { visits = vs }) (sym (append-nil a.visits)) }

  -- a try more, at a sealed gate
  pub retried_more : (sig : Sig) (a b c : PassHeld) (gate : ℕ) → PassRetried shape a b → PassTells shape sig b c (Sealed gate) → PassRetried shape a c
  retried_more sig a b c gate was told =
      let x : Visit = record { slot = told.0; gate = gate } in
      let here : SealedThen shape a.floor told.0 gate = subst (λ (h : PassHeld). SealedThen shape h.floor told.0 gate) was.held told.2 in record {
        more = was.more ++ x ∷ [];
        sealed = All-append (was_sealed a.floor) was.more (x ∷ []) was.sealed (All-cons (was_sealed a.floor) x [] here (All-nil (was_sealed a.floor)));
        held = told.1 ∙ ap (λ (h : PassHeld). record h { visits = h.visits ++ x ∷ [] }) was.held ∙ ap (λ (vs : List Visit). record a { visits = vs }) (append_assoc a.visits was.more (x ∷ []));
      }

  -- a record behind tries at sealed gates
  pub retried_recorded : (sig : Sig) (a b c : PassHeld) (page : PageNo) → PassRetried shape a b → PassRecorded shape sig b c page → PassRecorded shape sig a c page
  retried_recorded sig a b c page was then =
      let e : Entry = record { page = page; sig = sig } in
      let rest : WereSealed shape a.floor then.more = subst (λ (h : PassHeld). WereSealed shape h.floor then.more) was.held then.sealed in record {
        more = was.more ++ then.more;
        sealed = All-append (was_sealed a.floor) was.more then.more was.sealed rest;
        held = then.held ∙ ap (λ (h : PassHeld). record h { entries = h.entries ++ e ∷ []; visits = h.visits ++ then.more }) was.held ∙ ap (λ (vs : List Visit). record a { entries = a.entries ++ e ∷ []; visits = vs }) (append_assoc a.visits was.more then.more);
      }
