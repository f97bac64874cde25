use Rattle.std.proofs.Common.{◌∙◌, ◌++◌, List, ℕ, append_assoc, sym, ap}
use Rattle.std.specs.Int.{w64, to_be_bytes}
use Rattle.hex.specs.Hex.{encode_lower}
use Rattle.made_trace.proofs.HeadTexts.{front_text, head_text, network_text}
use Rattle.made_trace.proofs.made.push_head.Goals as goal

pub returns : goal.returns
returns c =
    let out = c.args.out.now.items in
    let digits = encode_lower (to_be_bytes w64 c.args.seed) in
    c.in_ok-push-2.ensures.text
    ∙ ap (λ (t : List ℕ). t ++ network_text) (c.in_ok-push_word.ensures ∙ ap (λ (t : List ℕ). t ++ digits) c.in_ok-push.ensures.text)
    ∙ append_assoc (out ++ front_text) digits network_text
    ∙ append_assoc out front_text (digits ++ network_text)
    ∙ ap (λ (t : List ℕ). out ++ t) (sym (head_text c.args.seed))
