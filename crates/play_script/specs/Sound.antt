-- What holds of every script.
use Rattle.std.specs.Prelude.{◌+◌, ◌^◌, ◌<◌, ◌≤◌, ◌≡◌, length, count_by, IsTrue}
use Rattle.std.specs.List.{list_all}
use Rattle.spie_base.specs.Shapes.{IsShape}
use Rattle.gate_core.specs.Play.{is_step, opens_page}
use Rattle.play_script.specs.Limits.{most_steps}
use Rattle.play_script.specs.declared.script.PlayScript.{PlayScript}
use Rattle.gate_core.specs.declared.limits.TheConstants.{MOST_PASSES}
use Rattle.play_script.specs.declared.script.TheConstants.{CORE_N_MOST}

-- what holds of every script: its numbers are in their ranges, and its steps can be played
pub record IsSound (script : PlayScript) : Type 0 where
  pub in_range : IsShape script.shape
  pub n_most : script.shape.n ≤ CORE_N_MOST
  pub router : script.shape.router.number ≡ 0
  pub some_pass : 1 ≤ script.passes
  pub few_passes : script.passes ≤ MOST_PASSES
  -- actors, slots and positions exist, and the keeper's acts are the keeper's
  pub each : IsTrue (list_all (is_step script.shape script.passes) script.steps)
  pub few : length script.steps ≤ most_steps
  pub pages : count_by opens_page script.steps + 1 < 2 ^ 32
