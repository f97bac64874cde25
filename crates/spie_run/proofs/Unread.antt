-- Why a text is not replayed.
use Rattle.std.proofs.Common.{ℕ, List}
use Rattle.trace_format.specs.declared.TraceRefused.{TraceRefused}
use Rattle.spie_run.specs.Later.{IsUnreplayed}
use Rattle.spie_run.specs.Replies.{IsRefusalOf, IsUnread}
use Rattle.spie_run.specs.declared.replies.Unread.{Unread}
use Rattle.spie_run.specs.declared.replies.Unread.TheVariants as unread

-- what says that a text has a fault says why the text is not replayed
pub unread_by : (input : List ℕ) (fault : TraceRefused) (why : Unread) → IsUnreplayed input fault → IsRefusalOf fault why → IsUnread input why
unread_by input fault unread.NoMemory h r = tt
unread_by input fault (unread.Refused reply) h r = (r.0, fault, h, r.1)
