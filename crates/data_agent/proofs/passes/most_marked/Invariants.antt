use Rattle.std.proofs.Common.{ℕ, ◌<◌, get_or}
use Rattle.page_gate.specs.Held.{PassHeld}
use Rattle.data_agent.specs.Beside.{AreBelow}
use Rattle.data_agent.proofs.passes.most_marked.Given as goal

-- none of the passes so far recorded in the page
abbrev pub invariant-loop-pass : goal.invariant-loop-pass
invariant-loop-pass l = (k : ℕ) (d : PassHeld) → k < l.pass-index → AreBelow l.page.number (get_or l.passes k d).entries
