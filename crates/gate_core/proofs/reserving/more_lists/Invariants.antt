use Rattle.std.proofs.Common.{◌≤◌, ◌-◌, max, vec_len}
use Rattle.gate_core.specs.Sound.{AreSpare}
use Rattle.gate_core.proofs.reserving.more_lists.Given as goal

abbrev pub invariant-missing : goal.invariant-missing
invariant-missing l = record {
  kept : AreSpare l.wide l.initial.lists.items → AreSpare l.wide l.lists.items;
  more : vec_len l.initial.lists ≤ vec_len l.lists;
  most : vec_len l.lists ≤ max (vec_len l.initial.lists) l.count;
}

abbrev pub decreases-missing : goal.decreases-missing
decreases-missing l = l.count - vec_len l.lists
