use Rattle.std.proofs.Common.{arith, ap}
use Rattle.spie_base.specs.Shapes.{shape_of}
use Rattle.data_agent.specs.Standing.{standing}
use Rattle.data_agent.proofs.Leaving.{keeps_same, keeps_then}
use Rattle.data_agent.proofs.Minding.{some_waits}
use Rattle.data_agent.proofs.agent.Agent.make_room.Goals as goal

pub is_oldest_quiet-requires-clause-some : goal.is_oldest_quiet-requires-clause-some
is_oldest_quiet-requires-clause-some c =
    let old = c.args.self.now in
    some_waits (shape_of old.rules old.router.number) old.keeper (standing old) old.page.number c.requires.minds.minding (omega (arith, c.free.ensures, c.if-free-gt0.false))

pub collect_oldest-requires-clause-some : goal.collect_oldest-requires-clause-some
collect_oldest-requires-clause-some c =
    let old = c.args.self.now in
    let some = some_waits (shape_of old.rules old.router.number) old.keeper (standing old) old.page.number c.requires.minds.minding (omega (arith, c.free.ensures, c.if-free-gt0.false)) in
    let here = c.is_oldest_quiet.ensures.standing in
    let page = ap (λ n. n.number) c.is_oldest_quiet.ensures.keeps.rest.page in
    omega arith

pub collect_oldest-requires-clause-quiet : goal.collect_oldest-requires-clause-quiet
collect_oldest-requires-clause-quiet c = c.is_oldest_quiet.ensures.quiet (c.is_oldest_quiet.ensures.alone c.requires.alone)

pub returns-then-free-gt0-clause-keeps : goal.returns-then-free-gt0-clause-keeps
returns-then-free-gt0-clause-keeps c = keeps_same c.args.self.now

pub returns-clause-keeps : goal.returns-clause-keeps
returns-clause-keeps c = keeps_then c.args.self.now c.is_oldest_quiet.new.self c.collect_oldest.new.self c.is_oldest_quiet.ensures.keeps c.collect_oldest.ensures.keeps
