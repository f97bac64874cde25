use Rattle.std.proofs.Common.{ℕ, ◌<◌, get_or}
use Rattle.gate_core.specs.Invariant.{IsRising}
use Rattle.page_gate.specs.Held.{PassHeld}
use Rattle.data_agent.proofs.slots.rise.Given as goal

-- the passes so far rise
abbrev pub invariant-loop-pass : goal.invariant-loop-pass
invariant-loop-pass l = (k : ℕ) (d : PassHeld) → k < l.pass-index → IsRising (get_or l.passes k d).floor (get_or l.passes k d).entries
