use Rattle.std.proofs.Common.{◌∙◌, ◌++◌, ◌∷◌, [], List, ℕ, append_assoc, sym, ap, codes}
use Rattle.trace_format.specs.Said as said
use Rattle.made_trace.specs.Lines.{lines_text}
use Rattle.made_trace.specs.Made.{body, head}
use Rattle.made_trace.proofs.Texts.{text_append}
use Rattle.made_trace.proofs.made.make_trace.Goals as goal

pub returns : goal.returns
returns c =
    let seed = c.args.seed in
    let lines = body seed c.args.packets in
    record {
      text = c.in_ok-push.ensures.text
          ∙ ap (λ (t : List ℕ). t ++ codes "end\n") (c.in_ok-push_body.ensures ∙ ap (λ (t : List ℕ). t ++ lines_text lines) (c.in_ok-push_head.ensures ∙ ap (λ (t : List ℕ). t ++ lines_text (head seed)) c.new-out.ensures.items))
          ∙ append_assoc (lines_text (head seed)) (lines_text lines) (codes "end\n")
          ∙ ap (λ (t : List ℕ). lines_text (head seed) ++ t) (sym (text_append lines (said.End ∷ [])))
          ∙ sym (text_append (head seed) (lines ++ said.End ∷ []));
    }
