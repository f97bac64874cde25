use Rattle.std.proofs.Common.{◌≡◌, take}
use Rattle.data_agent.specs.Looking.{used_of}
use Rattle.data_agent.proofs.looking.used_pages.Given as goal

-- those of the pages so far
abbrev pub invariant-loop-look : goal.invariant-loop-look
invariant-loop-look l = l.used.items ≡ used_of (take l.look-index l.looks)
