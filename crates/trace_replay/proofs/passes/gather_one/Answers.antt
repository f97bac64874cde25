use Rattle.std.proofs.Common.{◌∙◌}
use Rattle.trace_replay.proofs.PassesBack.{last_is}
use Rattle.trace_replay.proofs.passes.gather_one.Goals as goal

pub gather-requires-clause-passes : goal.gather-requires-clause-passes
gather-requires-clause-passes c = λ k d l.
    let ready = c.requires.ready in
    (last_is c.args.plane.now.table ready.3.since c.args.jobs.now c.draw.new.jobs c.draw.new.column.items c.draw.ensures.given ready.6 k d l).0

pub gather-requires-clause-away : goal.gather-requires-clause-away
gather-requires-clause-away c =
    let ready = c.requires.ready in (
      ready.0,
      ready.1,
      ready.2,
      ready.3,
      ready.4,
      c.draw.new.column.ok.0 ∙ c.draw.ensures.given.taken ∙ ready.5,
      λ k d l. (last_is c.args.plane.now.table ready.3.since c.args.jobs.now c.draw.new.jobs c.draw.new.column.items c.draw.ensures.given ready.6 k d l).1,
    )
