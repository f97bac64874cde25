use Rattle.std.proofs.Common.{◌∙◌, ◌≤◌, [], not, arith, ap, sym, length}
use Rattle.std.proofs.lemmas.List.Sums.{position_or_len_is}
use Rattle.agent_wire.specs.Accepting.{open_request}
use Rattle.agent_wire.specs.Union.{is_open}
use Rattle.agent_wire.specs.declared.requests.Asked.{Asked}
use Rattle.agent_wire.proofs.graphs.first_open.Goals as goal

pub returns-then-is_none : goal.returns-then-is_none
returns-then-is_none c =
    let d = c.index-made-place.result in
    let below : c.loop-place.place ≤ length c.args.made.now = (let l = c.loop-place-test.true in omega (arith, l)) in
    sym (position_or_len_is is_open c.args.made.now c.loop-place.place d below (λ k h. c.loop-place.invariant k d h) (λ _. ap not c.is_none.ensures ∙ ap (λ b. not (not b)) c.if-is_none.true))

pub returns : goal.returns
returns c =
    let d : Asked = open_request 0 [] in
    let end = c.loop-place-test.false in
    let most = c.loop-place.auto.place-end in
    sym (position_or_len_is is_open c.args.made.now (length c.args.made.now) d (omega arith) (λ k h. c.loop-place.invariant k d (omega (arith, h, end, most))) (λ h. absurd (omega (arith, h))))
