-- A quiet page is collected.
use Rattle.std.proofs.Common.{◌≡◌, ℕ, ◌<◌, List, [], length, get_or, set, sym, ap, ◌∙◌, subst, arith, get_or-set_same}
use Rattle.spie_base.specs.declared.PageShape.{PageShape}
use Rattle.bloom_page.specs.Bits.{bit_in, members_of}
use Rattle.bloom_page.proofs.BitFacts.{Contains-members_of}
use Rattle.spie_base.specs.Shapes.{IsShape}
use Rattle.gate_core.specs.declared.states.PassState.TheVariants.{Idle}
use Rattle.gate_core.specs.declared.states.SlotPhase.{SlotPhase}
use Rattle.gate_core.specs.declared.states.SlotPhase.TheVariants.{Free, Open, Sealed, Quiet}
use Rattle.gate_core.specs.declared.view.Duties.{Duties}
use Rattle.gate_core.specs.declared.view.View.{View}
use Rattle.gate_core.specs.declared.view.Role.TheVariants.{Keeper}
use Rattle.gate_core.specs.Marks.{width}
use Rattle.gate_core.specs.Views.{slot_at, collected_of}
use Rattle.gate_core.specs.Acts.{IsQuiet}
use Rattle.gate_core.specs.Invariant.{HasPage, IsCollected}
use Rattle.gate_core.proofs.Alone.{met_whole}
use Rattle.gate_core.proofs.Drawn.{quiet_stands}
use Rattle.gate_core.proofs.Duty.{the_keeper}
use Rattle.gate_core.proofs.Readings.{met_fits}
use Rattle.page_gate.specs.Held.{Held}
use Rattle.page_gate.specs.Pages.{slot_with, phase_with, AreKept, CanRead, collected_held, AreAllMarks}
use Rattle.page_gate.specs.Probes.{marked_set}
use Rattle.page_gate.specs.Steps.{IsMet}
use Rattle.page_gate.proofs.SlotWith.{page_with}
use Rattle.page_gate.proofs.WholeWords.{bits_set}

-- a page that stands in a slot has its list of words
pub has_list : (d : Duties) (page : ℕ) → AreKept d → HasPage (phase_with d page) → (slot_with d page < 4) × ((slot_at d (slot_with d page)).page ≡ page) × (page < d.next) × (page < length d.collected)
has_list d page k stands =
    let s : ℕ = slot_with d page in
    let found = page_with d page stands in
    let four = k.fit.four in
    let lt = found.0 in
    let near : s < 4 = omega arith in
    let below = k.fit.used_below s near (k.fit.stands_used s near stands) in
    let is = found.1 in
    let list = k.fit.one_list in
    (near, is, (let g : page < d.next = omega arith in g), (let g : page < length d.collected = omega arith in g))

-- so its bits can be read
pub readable : (v : View) (page s : ℕ) → v.role ≡ Keeper → v.state ≡ Idle → AreKept v.duties → HasPage (phase_with v.duties page) → s ≡ slot_with v.duties page → CanRead v page s
readable v page s role idle k stands at = let found = has_list v.duties page k stands in subst (CanRead v page) (sym at) (record {
  role = role;
  idle = idle;
  near = found.0;
  stands = stands;
  whole = k.whole (slot_with v.duties page) found.0;
  here = found.1;
})

pub quiet_shut : (ph : SlotPhase) → IsQuiet ph → ¬ (ph ≡ Open)
quiet_shut Free quiet e = quiet
quiet_shut Open quiet e = quiet
quiet_shut Sealed quiet e = quiet
quiet_shut (Quiet next) quiet e = cc

-- the page was collected
module _ (shape : PageShape) (before after : Held) (page : ℕ) (ws : List ℕ) (role : before.view.role ≡ Keeper) (k : AreKept before.view.duties) (quiet : IsQuiet (phase_with before.view.duties page)) (is : after ≡ collected_held before page ws) where
  abbrev d : Duties
  d = before.view.duties

  at_page : (slot_with d page < 4) × ((slot_at d (slot_with d page)).page ≡ page) × (page < d.next) × (page < length d.collected)
  at_page = has_list d page k (quiet_stands (phase_with d page) quiet)

  pub words_there : collected_of after.view.duties page ≡ ws
  words_there =
      ap (λ (h : Held). collected_of h.view.duties page) is
      ∙ ap (λ (n : ℕ). get_or (set d.collected n ws) page []) at_page.1
      ∙ get_or-set_same d.collected page ws [] at_page.3

  pub keeper_then : after ≡ collected_held before page (collected_of after.view.duties page)
  keeper_then = is ∙ ap (collected_held before page) (sym words_there)

  module _ (met : IsMet shape after.view) (many : length ws ≡ width shape) where
    pub collected_then : IsCollected shape after.view.duties page
    collected_then = ap length words_there ∙ many

    role' : after.view.role ≡ Keeper
    role' = ap (λ (h : Held). h.view.role) is ∙ role

    below : page < after.view.duties.next
    below = subst (λ (n : ℕ). page < n) (sym (ap (λ (h : Held). h.view.duties.next) is)) at_page.2

    pub all_marks : AreAllMarks shape after.view page (members_of ws)
    all_marks = let m = met.2 in record {
      plane = record { words = m.words; views = m.views };
      rule = m.rule;
      keeper = the_keeper shape m.words m.views m.rule m.id after.view m.mine role';
      marks = λ p small.
          let a = (met_fits shape after.view role' met.0 met.1 m).collected_words page below collected_then p small in
          let b = Contains-members_of ws p in
          let e : bit_in (collected_of after.view.duties page) p ≡ bit_in ws p = ap (λ (xs : List ℕ). bit_in xs p) words_there in
          ((λ has. a.0 (e ∙ b.0 has)), (λ r. b.1 (sym e ∙ a.1 r)));
    }

    pub alone_set : after.view.duties.out ≡ 0 → record { n = shape.n; members = members_of ws } ≡ marked_set shape after.view.entries page
    alone_set none_out =
        let fit : IsShape shape = (met_fits shape after.view role' met.0 met.1 met.2).in_range in
        bits_set shape after.view.entries page ws fit many (λ p small.
        let a = (met_whole shape after.view met.0 met.1 met.2 role' none_out).collected page below collected_then p small in
        let e : bit_in (collected_of after.view.duties page) p ≡ bit_in ws p = ap (λ (xs : List ℕ). bit_in xs p) words_there in
        ((λ one. a.0 (e ∙ one)), (λ r. sym e ∙ a.1 r)))
