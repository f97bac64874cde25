use Rattle.agent_wire.proofs.runs.wire_run.Goals as goal

pub returns-clause-flood : goal.returns-clause-flood
returns-clause-flood g c = c.in_ok-graph.ensures.finished.flood _ c.args.topology.now c.args.start.now (c.in_ok-graph.ensures.kept.link c.args.start.now (c.in_ok-drawn.ensures.kept.link c.args.start.now (c.in_ok-state.ensures.link _))).requests
