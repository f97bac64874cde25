use Rattle.std.proofs.Common.{◌≡◌, ◌++◌, take}
use Rattle.std.specs.List.{flat_map}
use Rattle.data_agent.specs.Looking.{undone_by}
use Rattle.data_agent.proofs.sight.Sight.undo_read.Given as goal

-- what the pages so far say was added
abbrev pub invariant-loop-look : goal.invariant-loop-look
invariant-loop-look l = record {
  sig : l.origins.sig ≡ l.fn.origins.sig;
  more : l.origins.olds ≡ l.fn.origins.olds ++ flat_map (undone_by l.fn.origins.sig) (take l.look-index l.self.looks.items);
}
