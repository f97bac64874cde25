-- What is known of a text that is not replayed. No public clause cites this module.
use Rattle.std.specs.Prelude.{ℕ, ◌≡◌, List}
use Rattle.spie_base.specs.declared.Status.TheVariants as status
use Rattle.trace_format.specs.declared.TraceRefused.{TraceRefused}
use Rattle.spie_run.specs.Later.{IsUnreplayed}
use Rattle.spie_run.specs.Refusals.{fault_text}
use Rattle.spie_run.specs.declared.replies.Unread.{Unread}
use Rattle.spie_run.specs.declared.replies.Unread.TheVariants as unread

-- where there is memory for it, the reply says that the text has this fault
abbrev pub IsRefusalOf : TraceRefused → Unread → Type 0
IsRefusalOf fault unread.NoMemory = Unit {0}
IsRefusalOf fault (unread.Refused reply) = (reply.status ≡ status.TraceRefused) × (reply.text.items ≡ fault_text fault)

-- where there is memory for it, the reply says which fault the text has
abbrev pub IsUnread : (input : List ℕ) → Unread → Type 0
IsUnread input unread.NoMemory = Unit {0}
IsUnread input (unread.Refused reply) = (reply.status ≡ status.TraceRefused) × (fault : TraceRefused) × IsUnreplayed input fault × (reply.text.items ≡ fault_text fault)
