use Rattle.std.proofs.Common.{subst}
use Rattle.trace_workers.specs.Dealing.{HaveTurns}
use Rattle.trace_workers.proofs.Shareable.{shares_of}
use Rattle.trace_workers.proofs.dealing.deal_out.Goals as goal

pub returns-clause-shares : goal.returns-clause-shares
returns-clause-shares c = let from = c.args.from in let to = c.args.to in let jobs = c.deal_lines.new.jobs in
    let turns = subst (λ ls. HaveTurns ls from to jobs) c.items.ensures c.in_ok-deal_lines.ensures.turns in
    shares_of c.args.trace.now from to jobs c.reserve_all.new.jobs c.requires.begins c.requires.ends c.requires.sound turns c.in_ok-reserve_all.ensures.room
