-- The messages of requests and their replies, and why an agent or a manager gave none.
use Rattle.std.specs.Prelude.{◌≡◌, ℕ, List, Some, slice_get}
use Rattle.topology.specs.Layout.{Layout}
use Rattle.reverse_flood.specs.declared.graphs.Part.{Part}
use Rattle.reverse_flood.specs.Flood.{Net, IsPart, in_region}
use Rattle.regional_agent.specs.Answers.{AreHome}
use Rattle.wire_message.specs.Spelling.{IsMessage, IsPlain}
use Rattle.wire_message.specs.Reading.{message_of}
use Rattle.wire_message.specs.declared.messages.Request.{Request}
use Rattle.wire_message.specs.declared.messages.Reply.{Reply}
use Rattle.wire_message.specs.declared.messages.Message.{Message}
use Rattle.wire_message.specs.declared.messages.Message.TheVariants.{Ask, Answer}
use Rattle.std.specs.Prelude.{Err}
use Rattle.agent_wire.specs.declared.requests.Asked.{Asked}
use Rattle.agent_wire.specs.declared.agents.NoAnswer.{NoAnswer}
use Rattle.agent_wire.specs.declared.agents.NoAnswer.TheVariants as no_answer

-- the bytes spell a message, whose numbers and lists are those of a program
pub record Spells (bytes : List ℕ) (value : Message) : Type 0 where
  pub is : IsMessage bytes value
  pub plain : IsPlain value

-- the message of a request, and of a reply to it
abbrev pub ask : (number : ℕ) → Asked → Message
ask number q = Ask record { number = number; region = q.region; entries = q.entries }

abbrev pub answer : (number : ℕ) → Part → Message
answer number part = Answer record { number = number; part = part }

-- the bytes are the message of the request of a number
pub record IsRequest (made : List Asked) (number : ℕ) (bytes : List ℕ) : Type 0 where
  pub of : Asked
  pub stood : slice_get made number ≡ Some of
  pub spells : Spells bytes (ask number of)

-- the bytes are the reply to a request: the region's part of it
pub record IsReply (net : Net) (layout : Layout) (request : Request) (bytes : List ℕ) : Type 0 where
  pub part : Part
  pub is_part : IsPart net (in_region layout request.region) request.entries part
  pub spells : Spells bytes (answer request.number part)

-- a request that the agent of a region can answer
pub record IsOwn (layout : Layout) (region : ℕ) (request : Request) : Type 0 where
  pub region_is : request.region ≡ region
  pub home : AreHome layout region request.entries

-- the agent of a region answered a request
pub record HasAnswered (net : Net) (layout : Layout) (region : ℕ) (bytes reply : List ℕ) : Type 0 where
  pub request : Request
  pub asks : Spells bytes (Ask request)
  pub own : IsOwn layout region request
  pub replies : IsReply net layout request reply

-- it got a reply
pub record IsNoRequest (bytes : List ℕ) : Type 0 where
  pub reply : Reply
  pub spells : Spells bytes (Answer reply)

-- it got a request that is not for its region
pub record IsElsewhere (layout : Layout) (region : ℕ) (bytes : List ℕ) : Type 0 where
  pub request : Request
  pub asks : Spells bytes (Ask request)
  pub foreign : IsOwn layout region request → ⊥

-- why it did not answer
abbrev pub IsWhyNot : Layout → (region : ℕ) → (bytes : List ℕ) → NoAnswer → Type 0
IsWhyNot layout region bytes no_answer.NoMemory = Unit {0}
IsWhyNot layout region bytes (no_answer.Refused place) = message_of bytes ≡ Err place
IsWhyNot layout region bytes no_answer.NoRequest = IsNoRequest bytes
IsWhyNot layout region bytes no_answer.Elsewhere = IsElsewhere layout region bytes
