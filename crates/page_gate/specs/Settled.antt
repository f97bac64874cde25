-- What a settle tells.
use Rattle.std.specs.Prelude.{◌≡◌, ℕ, ◌≤◌, ◌==◌, if◌then◌else◌}
use Rattle.gate_core.specs.Acts.{inside_of}
use Rattle.page_gate.specs.declared.settle.Settled.{Settled}
use Rattle.page_gate.specs.declared.settle.Settled.TheVariants as settled
use Rattle.page_gate.specs.Held.{Held}
use Rattle.page_gate.specs.Pages.{settled_held}

-- what is answered where the gate counts so many
abbrev pub settled_by : (inside : ℕ) → Settled
settled_by inside = if inside == 0 then settled.Quiet else settled.Pending inside

-- the gate of the page was read; the keeper's view notes which word it was
pub record SettledNow (before after : Held) (page : ℕ) (answer : Settled) : Type 0 where
  -- it is noted, and nothing else is changed but the page's phase
  pub keeper : after ≡ settled_held before page after.view.duties.noted
  -- Quiet exactly where it counts nobody, else how many it counts
  pub answers : answer ≡ settled_by (inside_of after.view.duties.noted)
  -- it counts no more than the passes that are out
  pub few : inside_of after.view.duties.noted ≤ before.view.duties.out
