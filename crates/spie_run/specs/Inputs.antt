-- What comes of reading an input. No public clause cites this module.
use Rattle.std.specs.Prelude.{ℕ, ◌≡◌, ◌≤◌, List, length, Some, true, false}
use Rattle.spie_base.specs.declared.Status.{Status}
use Rattle.router_account.specs.Shelves.{ShelfView}
use Rattle.trace_format.specs.Limits.{most_bytes}
use Rattle.trace_history.specs.Workers.{YardView}
use Rattle.spie_run.specs.Run.{Ran, Told, IsReadWhole, views}
use Rattle.spie_run.specs.Words.{reads}
use Rattle.spie_run.specs.declared.words.Command.{Command}

-- a command's input was read to its end, and the source did not fail; or the command reads none
pub record IsInput (command : Command) (before after : Told) (text : List ℕ) : Type 0 where
  pub read : IsReadWhole command before after text
  pub short : length text ≤ most_bytes
  pub faults : after.faults ≡ before.faults
  pub unread : reads command ≡ false → after ≡ before

-- whatever the arguments asked for that reads an input, a run ends with this status, and leaves shelf and yard alone
abbrev pub EndsUnread : (source_before sink_before source_after sink_after : Told) → Status → Type 0
EndsUnread source_before sink_before source_after sink_after status =
    (command : Command) (name : List ℕ) (shelf : ShelfView) (yard : List YardView) → reads command ≡ true
    → Ran (Some command) name (views source_before sink_before shelf yard) (views source_after sink_after shelf yard) status
