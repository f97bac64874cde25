use Rattle.std.proofs.Common.{◌+◌, ◌*◌, ◌/◌, ◌≤◌}
use Rattle.gate_core.proofs.Options.{if_so}
use Rattle.gate_core.proofs.Rooms.{lists_enough}
use Rattle.gate_core.proofs.reserving.lists_for.Goals as goal

pub returns : goal.returns
returns c = if_so c.checked_add.result _ (c.args.steps / c.args.wide + 5) (λ lists. c.args.steps + 4 * c.args.wide ≤ c.args.wide * lists) c.checked_add.ensures (lists_enough c.args.steps c.args.wide c.requires)
