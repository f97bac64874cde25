use Rattle.std.proofs.Common.{ap, List, length, arith}
use Rattle.trace_history.specs.Workers.{YardView}
use Rattle.trace_replay.proofs.Beside.{length_views}
use Rattle.trace_replay.proofs.yard.Yard.routers.Goals as goal

pub returns : goal.returns
returns c =
    let inside = c.self.inside in
    let seen = length_views inside.planes.items inside.agents.items c.self.invariant.beside.count in
    let is = ap (λ (xs : List YardView). length xs) c.self.view_is in
    omega (arith, seen, is)
