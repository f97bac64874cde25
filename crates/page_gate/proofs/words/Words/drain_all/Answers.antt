use Rattle.std.proofs.Common.{◌≡◌, ◌<◌, ◌+◌, ◌++◌, [], ◌∷◌, length, sym, ap, ap₂, ◌∙◌, arith}
use Rattle.atomic_table.specs.Table.{Me}
use Rattle.gate_core.specs.declared.view.View.{View}
use Rattle.gate_core.specs.Acts.{drained_to, phase_taken}
use Rattle.gate_core.proofs.Drains.{word_more}
use Rattle.page_gate.specs.Steps.{Nothing}
use Rattle.page_gate.proofs.words.Words.drain_all.Goals as goal

pub loop-next-preserved : goal.loop-next-preserved
loop-next-preserved c = let was = c.loop-next.invariant in let v = c.args.seat.now.me.0 in let q = c.requires.quiet in let shape = c.args.self.now.shape in let s = c.args.slot in let n = c.loop-next.next in let d = c.drain-word in let grown = c.push_reserved.ensures.items in
    let within : s < length v.duties.slots = let a = q.four in let b = q.near in omega arith in let low = c.loop-next-test.true in let wide = c.width-width.ensures.exact in
    let more : d.new.seat.me.0 ≡ drained_to v s (phase_taken shape (n + 1)) (c.loop-next.words.items ++ d.result ∷ []) =
    word_more shape v s within q.page c.loop-next.seat.me.0 d.new.seat.me.0 n d.result c.loop-next.words.items (omega arith) (ap (λ (m : Me Nothing View). m.0) was.seat.2) d.ensures.view in record {
      seat = (
        d.ensures.table ∙ was.seat.0,
        d.ensures.id ∙ was.seat.1,
        ap₂ (λ (u : View) xs. (u, xs)) (more ∙ ap (drained_to v s (phase_taken shape (n + 1))) (sym grown)) (d.ensures.slots ∙ ap (λ (m : Me Nothing View). m.1) was.seat.2),
      );
      taken = let a = c.push_reserved.ensures.len in let b = was.taken in omega arith;
      room = let a = c.push_reserved.ensures.capacity in let b = was.room in omega arith;
      met = λ _. d.ensures.met;
    }
