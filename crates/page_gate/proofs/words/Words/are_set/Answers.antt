use Rattle.std.proofs.Common.{◌≡◌, ◌<◌, ◌++◌, ℕ, [], ◌∷◌, length, get_or, refl, true, false, sym, ap, ap₂, ◌∙◌, subst}
use Rattle.atomic_table.specs.Table.{Me}
use Rattle.hash_family.specs.Positions.{position}
use Rattle.gate_core.specs.declared.view.View.{View}
use Rattle.gate_core.specs.Marks.{size}
use Rattle.gate_core.proofs.Bits.{position_below}
use Rattle.page_gate.specs.Probes.{noting_more, set_reads, read_of}
use Rattle.page_gate.specs.Steps.{Nothing}
use Rattle.page_gate.proofs.Probing.{can_read, read_next, set_reads_more, seen_is}
use Rattle.page_gate.proofs.words.Words.are_set.Goals as goal

pub probe-requires-clause-seat : goal.probe-requires-clause-seat
probe-requires-clause-seat c = let r = c.requires in let shape = c.args.self.now.shape in let v = c.args.seat.now.me.0 in let page = c.args.page.number in let sig = c.args.sig.now in let known : ℕ = length v.entries in let i : ℕ = c.loop-i.i in
    let inv = c.loop-i.invariant.seat in let was = ap (λ (m : Me Nothing View). m.0) inv.2 in
    let at : get_or c.args.marks.now.at c.from.result 0 ≡ position shape page sig i = ap (λ (n : ℕ). get_or c.args.marks.now.at n 0) c.from.ensures ∙ r.marks i c.loop-i-test.true in
    can_read shape v c.loop-i.seat.me.0 page c.args.slot (get_or c.args.marks.now.at c.from.result 0) (set_reads shape page sig known i) r.slot was (subst (λ (p : ℕ). p < size shape) (sym at) (position_below shape page sig i c.args.self.now.in_range))

pub returns-then-not-is_set-clause-reads : goal.returns-then-not-is_set-clause-reads
returns-then-not-is_set-clause-reads c = let r = c.requires in let shape = c.args.self.now.shape in let v = c.args.seat.now.me.0 in let page = c.args.page.number in let sig = c.args.sig.now in let known : ℕ = length v.entries in let i : ℕ = c.loop-i.i in
    let inv = c.loop-i.invariant.seat in let was = ap (λ (m : Me Nothing View). m.0) inv.2 in
    let at : get_or c.args.marks.now.at c.from.result 0 ≡ position shape page sig i = ap (λ (n : ℕ). get_or c.args.marks.now.at n 0) c.from.ensures ∙ r.marks i c.loop-i-test.true in
    let p : ℕ = get_or c.args.marks.now.at c.from.result 0 in let e = c.probe.ensures.acted in let n : ℕ = c.probe.result in
    let seen = seen_is shape page sig known p i n _ false r.slot.here at (sym c.is_set.ensures ∙ c.if-not-is_set.true) in
    let now = read_next shape v c.loop-i.seat.me.0 c.probe.new.seat.me.0 page c.args.slot p n (set_reads shape page sig known i) (read_of shape page sig known i false) was e.view seen in (
      set_reads shape page sig known i ++ read_of shape page sig known i false ∷ [],
      (e.table ∙ inv.0, e.id ∙ inv.1, ap₂ (λ (u : View) xs. (u, xs)) now (e.slots ∙ ap (λ (m : Me Nothing View). m.1) inv.2)),
      (i, c.loop-i-test.true, refl),
    )

pub loop-i-preserved : goal.loop-i-preserved
loop-i-preserved c = let r = c.requires in let shape = c.args.self.now.shape in let v = c.args.seat.now.me.0 in let page = c.args.page.number in let sig = c.args.sig.now in let known : ℕ = length v.entries in let i : ℕ = c.loop-i.i in
    let inv = c.loop-i.invariant.seat in let was = ap (λ (m : Me Nothing View). m.0) inv.2 in
    let at : get_or c.args.marks.now.at c.from.result 0 ≡ position shape page sig i = ap (λ (n : ℕ). get_or c.args.marks.now.at n 0) c.from.ensures ∙ r.marks i c.loop-i-test.true in
    let p : ℕ = get_or c.args.marks.now.at c.from.result 0 in let e = c.probe.ensures.acted in let n : ℕ = c.probe.result in
    let seen = seen_is shape page sig known p i n _ true r.slot.here at (sym c.is_set.ensures ∙ c.if-not-is_set.false) in
    let now = read_next shape v c.loop-i.seat.me.0 c.probe.new.seat.me.0 page c.args.slot p n (set_reads shape page sig known i) (read_of shape page sig known i true) was e.view seen ∙ ap (noting_more v) (sym (set_reads_more shape page sig known i)) in record {
      seat = (e.table ∙ inv.0, e.id ∙ inv.1, ap₂ (λ (u : View) xs. (u, xs)) now (e.slots ∙ ap (λ (m : Me Nothing View). m.1) inv.2));
      met = λ _. e.met;
    }
