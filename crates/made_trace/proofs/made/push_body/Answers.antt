use Rattle.std.proofs.Common.{suc, ◌≡◌, ◌∙◌, ◌++◌, ◌+◌, List, ℕ, arith, ap}
use Rattle.hash_family.specs.SplitMix.{grown}
use Rattle.made_trace.specs.Draws.{draw_of, state_at}
use Rattle.made_trace.specs.Lines.{lines_text}
use Rattle.made_trace.specs.Made.{body, draw_at, number_at, packet_lines, used}
use Rattle.made_trace.specs.declared.draws.Draw.{Draw}
use Rattle.made_trace.proofs.Numbers.{used_most}
use Rattle.made_trace.proofs.Texts.{text_more}
use Rattle.made_trace.proofs.made.push_body.Goals as goal

pub loop-i-preserved : goal.loop-i-preserved
loop-i-preserved c =
    let seed = c.args.seed in
    let at = c.loop-i in
    let out = c.args.out.now.items in
    let one : suc at.i ≡ at.i + 1 = omega arith in
    let drawn : c.draw_next-drawn.result ≡ draw_at seed at.i = c.draw_next-drawn.ensures.drawn ∙ ap draw_of at.invariant.state in
    let count = c.in_ok-number.ensures.used in
    let most = used_most c.draw_next-drawn.result in
    let few = at.invariant.few in
    record {
      state = c.draw_next-drawn.ensures.after ∙ ap (λ (s : ℕ). grown (grown (grown s))) at.invariant.state ∙ ap (state_at seed) one;
      number = ap (λ (n : ℕ). at.number + n) (count ∙ ap used drawn) ∙ ap (λ (n : ℕ). n + used (draw_at seed at.i)) at.invariant.number ∙ ap (number_at seed) one;
      few = omega (arith, count, most, few);
      text = c.in_ok-number.ensures.lines
          ∙ ap (λ (t : List ℕ). t ++ lines_text (packet_lines at.i at.number c.draw_next-drawn.result)) at.invariant.text
          ∙ ap (λ (d : Draw). (out ++ lines_text (body seed at.i)) ++ lines_text (packet_lines at.i at.number d)) drawn
          ∙ ap (λ (n : ℕ). (out ++ lines_text (body seed at.i)) ++ lines_text (packet_lines at.i n (draw_at seed at.i))) at.invariant.number
          ∙ text_more out (body seed at.i) (packet_lines at.i (number_at seed at.i) (draw_at seed at.i))
          ∙ ap (λ (n : ℕ). out ++ lines_text (body seed n)) one;
    }
