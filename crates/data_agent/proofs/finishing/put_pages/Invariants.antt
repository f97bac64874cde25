use Rattle.std.proofs.Common.{◌≡◌, take}
use Rattle.data_agent.specs.Finishing.{pages_put}
use Rattle.data_agent.proofs.finishing.put_pages.Given as goal

-- those of the settled pages so far
abbrev pub invariant-loop-one : goal.invariant-loop-one
invariant-loop-one l = l.pages.items ≡ pages_put (take l.one-index l.settled)
