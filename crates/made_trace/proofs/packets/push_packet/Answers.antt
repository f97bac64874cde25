use Rattle.std.proofs.Common.{◌∙◌, ◌++◌, ◌∷◌, [], List, ℕ, append_assoc, append-nil, sym, ap, codes, take}
use Rattle.std.specs.Int.{w64, to_be_bytes}
use Rattle.hex.specs.Hex.{encode_lower}
use Rattle.made_trace.specs.Made.{made_header}
use Rattle.made_trace.specs.Draws.{destination}
use Rattle.ipv4_header.specs.Spelling.{spelled}
use Rattle.made_trace.proofs.Digits.{encode_append}
use Rattle.made_trace.proofs.packets.push_packet.Goals as goal

pub returns : goal.returns
returns c =
    let out = c.args.out.now.items in
    let word = codes "packet " in
    let header = spelled (made_header c.args.i c.args.source (destination c.args.draw.now)) in
    let payload = to_be_bytes w64 c.args.draw.now.payload in
    let both = encode_lower header ++ encode_lower payload in
    c.in_ok-push-2.ensures.text
    ∙ ap (λ (t : List ℕ). t ++ 10 ∷ []) (c.in_ok-push_word.ensures ∙ ap (λ (t : List ℕ). t ++ encode_lower payload) (c.in_ok-push_header.ensures
    ∙ ap (λ (t : List ℕ). t ++ encode_lower (take 20 c.header_bytes-header.result)) c.in_ok-push.ensures.text ∙ ap (λ (t : List ℕ). (out ++ word) ++ encode_lower t) c.header_bytes-header.ensures.bytes))
    ∙ ap (λ (t : List ℕ). t ++ 10 ∷ []) (append_assoc (out ++ word) (encode_lower header) (encode_lower payload) ∙ append_assoc out word both)
    ∙ append_assoc out (word ++ both) (10 ∷ [])
    ∙ ap (λ (t : List ℕ). out ++ ((word ++ t) ++ 10 ∷ [])) (sym (encode_append header payload) ∙ sym (append-nil (encode_lower (header ++ payload))))
