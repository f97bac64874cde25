use Rattle.std.proofs.Common.{get_or, arith}
use Rattle.data_agent.specs.Standing.{StandsFor}
use Rattle.trace_replay.proofs.Beside.{beside_set}
use Rattle.trace_replay.proofs.Sums.{some_of}
use Rattle.trace_replay.proofs.RowsAdded.{router_in, change_near, change_adds}
use Rattle.trace_replay.proofs.conclude.change_row.Goals as goal

pub transform-requires : goal.transform-requires
transform-requires c = record {
  near = change_near StandsFor c.args.trace.now c.args.line.now c.args.page.number c.args.agents.now c.index-agents-at.result c.index-agents-at.result c.args.router c.args.kind c.args.old c.args.new c.sig_of-before.result c.sig_of-sig.result _
      c.requires.is c.sig_of-before.ensures c.sig_of-sig.ensures c.row.ensures.exact c.requires.ready;
}

pub returns-clause-row : goal.returns-clause-row
returns-clause-row c =
    change_adds StandsFor c.args.trace.now c.args.line.now c.args.page.number c.args.agents.now c.index-agents-at.result c.transform.new.self c.args.router c.args.kind c.args.old c.args.new c.sig_of-before.result c.sig_of-sig.result _
    c.requires.is c.sig_of-before.ensures c.sig_of-sig.ensures c.row.ensures.exact c.requires.ready c.in_ok-transform.ensures.changed

pub returns-clause-beside : goal.returns-clause-beside
returns-clause-beside c = λ planes so.
    let x = c.index-agents-at.result in
    let within = router_in StandsFor c.args.trace.now c.args.line.now c.args.page.number c.args.agents.now x c.transform.new.self c.args.router c.args.kind c.args.old c.args.new c.sig_of-before.result c.sig_of-sig.result _
    c.requires.is c.sig_of-before.ensures c.sig_of-sig.ensures c.row.ensures.exact c.requires.ready in
    let n = so.count in
    let p = some_of planes c.args.router.number (omega (arith, n, within)) in
    beside_set planes c.args.agents.now c.args.router.number p c.transform.new.self within so (c.transform.ensures.own (get_or planes c.args.router.number p) (so.own c.args.router.number p x within))
