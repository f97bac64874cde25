use Rattle.evidence_check.proofs.judging.first_failing.Goals as goal

pub judge_edges-requires-clause-marked : goal.judge_edges-requires-clause-marked
judge_edges-requires-clause-marked g c = c.in_ok-in_nodes.ensures.marked c.in-None.is

pub judge_left-requires-clause-marked : goal.judge_left-requires-clause-marked
judge_left-requires-clause-marked g c = c.in_ok-in_nodes.ensures.marked c.in-None.is

pub judge_end-requires-clause-kept : goal.judge_end-requires-clause-kept
judge_end-requires-clause-kept g c = c.in_ok-in_left-in-None-in_edges.ensures.kept c.in-None-in_left.is
