-- A manager and its agents over a link: which messages were sent, what an event does, and what holds whatever the
-- link loses, repeats and reorders.
use Rattle.std.specs.Prelude.{◌≡◌, ◌≤◌, ℕ, List, [], ◌∷◌, ◌++◌, length, Some, slice_get}
use Rattle.std.specs.List.{Contains}
use Rattle.topology.specs.Layout.{Layout}
use Rattle.reverse_flood.specs.declared.graphs.Node.{Node}
use Rattle.reverse_flood.specs.declared.graphs.Part.{Part}
use Rattle.reverse_flood.specs.Flood.{Net, IsPart, in_region}
use Rattle.regional_agent.specs.Answers.{AreHome}
use Rattle.wire_message.specs.declared.messages.Request.{Request}
use Rattle.wire_message.specs.declared.messages.Reply.{Reply}
use Rattle.wire_message.specs.declared.messages.Message.{Message}
use Rattle.wire_message.specs.declared.messages.Message.TheVariants.{Ask, Answer}
use Rattle.agent_wire.specs.declared.requests.Asked.{Asked}
use Rattle.agent_wire.specs.declared.wire.Event.{Event}
use Rattle.agent_wire.specs.declared.wire.Event.TheVariants as events
use Rattle.agent_wire.specs.declared.wire.WireAnswer.{WireAnswer}
use Rattle.agent_wire.specs.declared.wire.WireAnswer.TheVariants as answers
use Rattle.agent_wire.specs.Requests.{AreRequests}
use Rattle.agent_wire.specs.Accepting.{HasAccepted, IsRepeated}
use Rattle.agent_wire.specs.Messages.{Spells, answer, ask}

-- the requests that were made, and the messages that were sent, the oldest first. A sent message is never taken from
-- the list: one that is never delivered was lost, one that is delivered twice was repeated
pub record Link : Type 0 where
  pub made : List Asked
  pub sent : List (List ℕ)

-- ---- what always holds

-- the request of a number is to this region, with these entries
pub record IsAskedAt (made : List Asked) (number region : ℕ) (entries : List Node) : Type 0 where
  pub of : Asked
  pub stood : slice_get made number ≡ Some of
  pub region_is : of.region ≡ region
  pub entries_are : of.entries ≡ entries

-- a reply's request, of whose region and entries a part is what P says
pub record IsPartFor (P : ℕ → List Node → Part → Type 0) (made : List Asked) (reply : Reply) : Type 0 where
  pub region : ℕ
  pub entries : List Node
  pub asked : IsAskedAt made reply.number region entries
  pub is_part : P region entries reply.part

-- a message is that of a request, or a reply to one
abbrev pub IsOf : (ℕ → List Node → Part → Type 0) → List Asked → Message → Type 0
IsOf P made (Ask request) = IsAskedAt made request.number request.region request.entries
IsOf P made (Answer reply) = IsPartFor P made reply

-- sent bytes spell such a message
pub record IsSent (P : ℕ → List Node → Part → Type 0) (made : List Asked) (bytes : List ℕ) : Type 0 where
  pub value : Message
  pub spells : Spells bytes value
  pub from : IsOf P made value

abbrev pub AreSent : (ℕ → List Node → Part → Type 0) → Link → Type 0
AreSent P link = (bytes : List ℕ) → Contains link.sent bytes → IsSent P link.made bytes

abbrev pub IsAny : ℕ → List Node → Part → Type 0
IsAny region entries part = Unit {0}

-- a link that was begun with these routers and regions: entries lie in their regions, and each sent message is that of
-- a request or a reply to one
pub record IsBegun (layout : Layout) (link : Link) : Type 0 where
  pub home : (q : Asked) → Contains link.made q → AreHome layout q.region q.entries
  pub sent : AreSent IsAny link

-- and for the flood of a net from a start: each accepted part, and each reply that was sent, is the part of its request
pub record IsLink (net : Net) (layout : Layout) (start : Node) (link : Link) : Type 0 where
  pub requests : AreRequests net layout start link.made
  pub sent : AreSent (λ region entries part. IsPart net (in_region layout region) entries part) link

-- ---- events

-- one more message was sent, and nothing else changed
pub record HasSent (before after : Link) (message : ℕ) (value : Message) : Type 0 where
  pub bytes : List ℕ
  pub spells : Spells bytes value
  pub number : message ≡ length before.sent
  pub made : after.made ≡ before.made
  pub sent : after.sent ≡ before.sent ++ bytes ∷ []

-- the sent message of a number
pub record IsMessageAt (link : Link) (message : ℕ) (value : Message) : Type 0 where
  pub bytes : List ℕ
  pub stood : slice_get link.sent message ≡ Some bytes
  pub spells : Spells bytes value

-- a request was sent
pub record IsSending (number message : ℕ) (before after : Link) : Type 0 where
  pub of : Asked
  pub stood : slice_get before.made number ≡ Some of
  pub put : HasSent before after message (ask number of)

-- a request was delivered, and its region's agent sent its part
pub record IsAnswering (net : Net) (layout : Layout) (message reply : ℕ) (before after : Link) : Type 0 where
  pub request : Request
  pub delivered : IsMessageAt before message (Ask request)
  pub part : Part
  pub is_part : IsPart net (in_region layout request.region) request.entries part
  pub put : HasSent before after reply (answer request.number part)

-- a reply to a request without a part was delivered, and its part was accepted
pub record IsAccepting (layout : Layout) (message number : ℕ) (before after : Link) : Type 0 where
  pub reply : Reply
  pub delivered : IsMessageAt before message (Answer reply)
  pub number_is : number ≡ reply.number
  pub accepted : HasAccepted layout reply.number reply.part before.made after.made
  pub sent : after.sent ≡ before.sent

-- a reply to a request whose part is accepted was delivered, and nothing changed
pub record IsRepeating (message number : ℕ) (before after : Link) : Type 0 where
  pub reply : Reply
  pub delivered : IsMessageAt before message (Answer reply)
  pub number_is : number ≡ reply.number
  pub repeated : IsRepeated before.made reply.number
  pub same : after ≡ before

-- there are only so many, and nothing changed
pub record IsMissing (number have many : ℕ) (before after : Link) : Type 0 where
  pub have_is : have ≡ many
  pub beyond : many ≤ number
  pub same : after ≡ before

-- what becomes of a reply to a request that exists
abbrev pub HasTakenIn : Layout → Reply → (before after : Link) → WireAnswer → Type 0
HasTakenIn layout reply before after (answers.Accepted number) = (number ≡ reply.number) × HasAccepted layout reply.number reply.part before.made after.made × (after.sent ≡ before.sent)
HasTakenIn layout reply before after (answers.Repeated number) = (number ≡ reply.number) × IsRepeated before.made reply.number × (after ≡ before)
HasTakenIn layout reply before after (answers.Sent other) = ⊥
HasTakenIn layout reply before after (answers.Answered other) = ⊥
HasTakenIn layout reply before after (answers.NoSuch have) = ⊥

-- and of a request: its reply is sent
pub record HasPutReply (net : Net) (layout : Layout) (request : Request) (message : ℕ) (before after : Link) : Type 0 where
  pub part : Part
  pub is_part : IsPart net (in_region layout request.region) request.entries part
  pub put : HasSent before after message (answer request.number part)

abbrev pub HasReplied : Net → Layout → Request → (before after : Link) → WireAnswer → Type 0
HasReplied net layout request before after (answers.Answered message) = HasPutReply net layout request message before after
HasReplied net layout request before after (answers.Accepted number) = ⊥
HasReplied net layout request before after (answers.Repeated number) = ⊥
HasReplied net layout request before after (answers.Sent other) = ⊥
HasReplied net layout request before after (answers.NoSuch have) = ⊥

-- what an event answers, and does
abbrev pub HasStepped : Net → Layout → Event → (before after : Link) → WireAnswer → Type 0
HasStepped net layout (events.Send number) before after (answers.Sent message) = IsSending number message before after
HasStepped net layout (events.Send number) before after (answers.NoSuch have) = IsMissing number have (length before.made) before after
HasStepped net layout (events.Send number) before after (answers.Answered reply) = ⊥
HasStepped net layout (events.Send number) before after (answers.Accepted other) = ⊥
HasStepped net layout (events.Send number) before after (answers.Repeated other) = ⊥
HasStepped net layout (events.Deliver message) before after (answers.Answered reply) = IsAnswering net layout message reply before after
HasStepped net layout (events.Deliver message) before after (answers.Accepted number) = IsAccepting layout message number before after
HasStepped net layout (events.Deliver message) before after (answers.Repeated number) = IsRepeating message number before after
HasStepped net layout (events.Deliver message) before after (answers.NoSuch have) = IsMissing message have (length before.sent) before after
HasStepped net layout (events.Deliver message) before after (answers.Sent other) = ⊥
