use Rattle.std.proofs.Common.{◌≡◌, ℕ, ◌/◌, get_or, sym, ap, ◌∙◌, subst, arith}
use Rattle.atomic_table.specs.Table.{Me}
use Rattle.hash_family.specs.Positions.{position}
use Rattle.gate_core.specs.declared.view.View.{View}
use Rattle.gate_core.specs.Acts.{bit_place}
use Rattle.gate_core.specs.Invariant.{Met}
use Rattle.page_gate.specs.Steps.{Nothing}
use Rattle.page_gate.proofs.Places.{mark_within}
use Rattle.page_gate.proofs.Repeating.{known_more}
use Rattle.page_gate.proofs.words.Words.are_known.Goals as goal

pub attest-requires-clause-word : goal.attest-requires-clause-word
attest-requires-clause-word c = let r = c.requires in let shape = c.args.self.now.shape in let page = c.args.page.number in let sig = c.args.sig.now in let i : ℕ = c.loop-i.i in
    let p : ℕ = get_or c.args.marks.now.at c.from.result 0 in
    let at : p ≡ position shape page sig i = ap (λ (n : ℕ). get_or c.args.marks.now.at n 0) c.from.ensures ∙ r.marks i c.loop-i-test.true in
    let within = mark_within shape c.args.slot page sig i p c.args.self.now.in_range r.slot.near at in let place = c.bits_at.ensures in let wide = c.args.self.now.wide in
    omega arith

pub loop-i-preserved : goal.loop-i-preserved
loop-i-preserved c = let r = c.requires in let shape = c.args.self.now.shape in let v = c.args.seat.now.me.0 in let page = c.args.page.number in let sig = c.args.sig.now in let i : ℕ = c.loop-i.i in
    let inv = c.loop-i.invariant in let e = c.attest.ensures in
    let p : ℕ = get_or c.args.marks.now.at c.from.result 0 in
    let at : p ≡ position shape page sig i = ap (λ (n : ℕ). get_or c.args.marks.now.at n 0) c.from.ensures ∙ r.marks i c.loop-i-test.true in
    let same = e.same.2 ∙ ap (λ (m : Me Nothing View). (m.0, m.1)) inv.seat.2 in
    let view = ap (λ (m : Me Nothing View). m.0) same in
    let met = subst (λ (u : View). Met shape u (bit_place shape c.args.slot (p / 64)) c.attest.result) view (subst (λ (n : ℕ). Met shape c.attest.new.seat.me.0 n c.attest.result) c.bits_at.ensures e.met) in record {
      seat = (e.same.0 ∙ inv.seat.0, e.same.1 ∙ inv.seat.1, same);
      known = known_more shape v page c.args.slot sig i p c.attest.result c.args.self.now.in_range r.slot r.alone at met (sym c.is_set.ensures ∙ c.if-not-is_set.false) inv.known;
    }
