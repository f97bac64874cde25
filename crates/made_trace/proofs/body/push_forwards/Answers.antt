use Rattle.std.proofs.Common.{suc, arith, ◌≡◌, ◌∙◌, ◌+◌, ◌*◌, ◌%◌, ◌++◌, ℕ, List, ap}
use Rattle.trace_format.specs.Said as said
use Rattle.made_trace.specs.Draws.{first_hop, stride}
use Rattle.made_trace.specs.Lines.{lines_text, said_line}
use Rattle.made_trace.specs.Made.{forward_at, forwards, router_name}
use Rattle.made_trace.proofs.Texts.{text_last}
use Rattle.made_trace.proofs.body.push_forwards.Goals as goal

pub loop-j-preserved : goal.loop-j-preserved
loop-j-preserved c =
    let d = c.args.draw.now in
    let at = c.loop-j in
    let from = c.args.from in
    let packet = c.args.packet in
    let hop : c.hop_at.result ≡ (first_hop d + (from + at.j) * stride d) % 12 =
    c.hop_at.ensures ∙ ap (λ (n : ℕ). (n + (from + at.j) * c.args.route.now.stride) % 12) c.requires.first ∙ ap (λ (n : ℕ). (first_hop d + (from + at.j) * n) % 12) c.requires.stride in
    let line : said_line (said.Fwd (router_name c.hop_at.result) packet) ≡ said_line (forward_at d packet (from + at.j)) = ap (λ (n : ℕ). said_line (said.Fwd (router_name n) packet)) hop in
    record {
      text = c.in_ok-push_fwd.ensures
          ∙ ap (λ (t : List ℕ). at.out.items ++ t) line
          ∙ ap (λ (t : List ℕ). t ++ said_line (forward_at d packet (from + at.j))) at.invariant.text
          ∙ text_last c.args.out.now.items (forwards d packet from at.j) (forward_at d packet (from + at.j))
          ∙ ap (λ (n : ℕ). c.args.out.now.items ++ lines_text (forwards d packet from n)) (let one : suc at.j ≡ at.j + 1 = omega arith in one);
    }
