-- A schedule of events: some that are drawn from a seed, then what is still to be done.
use Rattle.std.specs.Prelude.{◌≡◌, ◌<◌, ◌+◌, ◌/◌, ◌%◌, ◌==◌, ◌||◌, ℕ, zero, suc, length, if◌then◌else◌}
use Rattle.topology.specs.Layout.{Layout}
use Rattle.reverse_flood.specs.declared.graphs.Node.{Node}
use Rattle.reverse_flood.specs.declared.graphs.Graph.{Graph}
use Rattle.reverse_flood.specs.Flood.{Net}
use Rattle.hash_family.specs.SplitMix.{word}
use Rattle.agent_wire.specs.declared.wire.Event.{Event}
use Rattle.agent_wire.specs.declared.wire.Event.TheVariants.{Send, Deliver}
use Rattle.agent_wire.specs.declared.wire.WireAnswer.{WireAnswer}
use Rattle.agent_wire.specs.declared.wire.WireAnswer.TheVariants as answers
use Rattle.agent_wire.specs.declared.runs.WireRun.{WireRun}
use Rattle.agent_wire.specs.Union.{AreAnswered, first_open, IsFloodOf, IsUnion}
use Rattle.agent_wire.specs.Histories.{first_link}
use Rattle.agent_wire.specs.Link.{HasStepped, IsBegun, IsLink, Link}

-- how many answers say that a reply came again
abbrev pub repeats : WireAnswer → ℕ
repeats (answers.Repeated number) = 1
repeats (answers.Sent message) = 0
repeats (answers.Answered message) = 0
repeats (answers.Accepted number) = 0
repeats (answers.NoSuch have) = 0

-- an event, with how many answers said so before it and behind it
pub record IsCounted (net : Net) (layout : Layout) (event : Event) (before : Link) (repeated : ℕ) (after : Link) (counted : ℕ) : Type 0 where
  pub result : WireAnswer
  pub stepped : HasStepped net layout event before after result
  pub counted_is : counted ≡ repeated + repeats result

-- ---- events that are drawn

-- the event of a word: a request is sent where the word is a multiple of 4 or nothing was sent, else a message delivered
abbrev pub event_of : (word : ℕ) → Link → Event
event_of x link = if x % 4 == 0 || length link.sent == 0 then Send ((x / 4) % length link.made) else Deliver ((x / 4) % length link.sent)

-- one turn behind others
pub record IsTurn (net : Net) (layout : Layout) (x : ℕ) (Before : Link → ℕ → Type 0) (after : Link) (counted : ℕ) : Type 0 where
  pub before : Link
  pub repeated : ℕ
  pub others : Before before repeated
  pub turn : IsCounted net layout (event_of x before) before repeated after counted

-- so many turns, each by the generator's next word
unfoldable pub AreTurns : Net → Layout → (seed turns : ℕ) → (before after : Link) → (counted : ℕ) → Type 0
AreTurns net layout seed zero before after counted = (after ≡ before) × (counted ≡ 0)
AreTurns net layout seed (suc turn) before after counted = IsTurn net layout (word seed turn) (AreTurns net layout seed turn before) after counted

-- ---- what is still to be done

-- the least request without a part is sent, its message is delivered, and then the reply
pub record IsRound (net : Net) (layout : Layout) (before : Link) (repeated : ℕ) (after : Link) (counted : ℕ) : Type 0 where
  pub pending : first_open before.made < length before.made
  pub sent : Link
  pub sent_counted : ℕ
  pub answered : Link
  pub answered_counted : ℕ
  pub send : IsCounted net layout (Send (first_open before.made)) before repeated sent sent_counted
  pub answer : IsCounted net layout (Deliver (length before.sent)) sent sent_counted answered answered_counted
  pub accept : IsCounted net layout (Deliver (length before.sent + 1)) answered answered_counted after counted

pub record IsRoundMore (net : Net) (layout : Layout) (Before : Link → ℕ → Type 0) (after : Link) (counted : ℕ) : Type 0 where
  pub before : Link
  pub repeated : ℕ
  pub others : Before before repeated
  pub round : IsRound net layout before repeated after counted

-- so many rounds
unfoldable pub AreRounds : Net → Layout → (rounds : ℕ) → (before : Link) → (repeated : ℕ) → (after : Link) → (counted : ℕ) → Type 0
AreRounds net layout zero before repeated after counted = (after ≡ before) × (counted ≡ repeated)
AreRounds net layout (suc round) before repeated after counted = IsRoundMore net layout (AreRounds net layout round before repeated) after counted

-- ---- the whole

-- what a link keeps of what holds of it
pub record Keeps (net : Net) (layout : Layout) (before after : Link) : Type 0 where
  pub begun : IsBegun layout before → IsBegun layout after
  pub link : (start : Node) → IsLink net layout start before → IsLink net layout start after
  pub some : 0 < length before.made → 0 < length after.made

-- rounds until no request is without its part
pub record HasFinished (net : Net) (layout : Layout) (before : Link) (repeated : ℕ) (after : Link) (counted : ℕ) (graph : Graph) : Type 0 where
  pub rounds : ℕ
  pub asked : AreRounds net layout rounds before repeated after counted
  pub answered : AreAnswered after.made
  pub union : IsUnion after.made graph
  pub flood : IsFloodOf after.made graph

-- the turns from a start, the rounds behind them, and what is told of them
pub record HasRun (net : Net) (layout : Layout) (start : Node) (seed turns : ℕ) (run : WireRun) : Type 0 where
  pub drawn : Link
  pub repeated : ℕ
  pub turned : AreTurns net layout seed turns (first_link layout start) drawn repeated
  pub after : Link
  pub finished : HasFinished net layout drawn repeated after run.repeated run.graph
  pub requests : run.requests ≡ length after.made
  pub messages : run.messages ≡ length after.sent
