use Rattle.std.proofs.Common.{◌≡◌, take, false}
use Rattle.std.specs.List.{list_any}
use Rattle.data_agent.specs.Looking.{look_shows}
use Rattle.data_agent.proofs.sight.SightSighting.hit.Given as goal

-- no page so far shows the signature
abbrev pub invariant-loop-look : goal.invariant-loop-look
invariant-loop-look l = list_any (λ look. look_shows look l.sig) (take l.look-index l.self.looks.items) ≡ false
