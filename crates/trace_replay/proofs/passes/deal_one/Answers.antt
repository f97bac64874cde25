use Rattle.std.proofs.Common.{◌∙◌, length, ap, arith}
use Rattle.std.proofs.lemmas.List.{length-replicate}
use Rattle.data_agent.specs.Beside.{fresh_pass}
use Rattle.trace_replay.proofs.PassesBack.{all_alike}
use Rattle.trace_replay.proofs.passes.deal_one.Goals as goal

pub returns-clause-got : goal.returns-clause-got
returns-clause-got c =
    let p = fresh_pass c.args.plane.now c.args.agent.now in
    c.spread.ensures.got p (all_alike c.in_ok-column.column.items c.args.workers p c.in_ok-column.ensures.passes)

pub returns-clause-column : goal.returns-clause-column
returns-clause-column c =
    let v = c.in_ok-column.column in
    let p = fresh_pass c.args.plane.now c.args.agent.now in
    let long = ap length c.in_ok-column.ensures.passes ∙ length-replicate c.args.workers p in
    let room = c.spread.ensures.capacity in
    let e = v.ok.0 in
    let l = v.ok.1 in
    (c.spread.new.column, c.in_ok-push.ensures.items, record { none = c.spread.ensures.none; room = omega (arith, long, room, e, l) })
