-- What always holds of a link holds after each event.
use Rattle.std.proofs.Common.{◌≡◌, ◌∙◌, ◌<◌, ℕ, zero, suc, ⊎_elim, refl, sym, subst, ap, List, [], ◌∷◌, ◌++◌, Some, length, set, slice_get, false, Result, Ok, Err, IfOk}
use Rattle.std.specs.List.{Contains}
use Rattle.std.proofs.lemmas.List.Elements.{Contains-append_cases}
use Rattle.std.proofs.lemmas.Option.{none-some}
use Rattle.spie_base.proofs.Membership.{has_none, has_one}
use Rattle.topology.specs.Layout.{Layout, IsSound}
use Rattle.reverse_flood.specs.declared.graphs.Node.{Node}
use Rattle.reverse_flood.specs.declared.graphs.Part.{Part}
use Rattle.reverse_flood.specs.Flood.{Net, IsPart, in_region}
use Rattle.regional_agent.specs.Answers.{AreHome}
use Rattle.wire_message.specs.declared.messages.Request.{Request}
use Rattle.wire_message.specs.declared.messages.Reply.{Reply}
use Rattle.wire_message.specs.declared.messages.Message.{Message}
use Rattle.wire_message.specs.declared.messages.Message.TheVariants.{Ask, Answer}
use Rattle.wire_message.specs.Reading.{whole_at}
use Rattle.wire_message.specs.Spelling.{IsMessage, IsPlain}
use Rattle.wire_message.proofs.MessageFacts.{is_one, whole_again}
use Rattle.agent_wire.specs.declared.requests.Asked.{Asked}
use Rattle.agent_wire.specs.declared.wire.Event.{Event}
use Rattle.agent_wire.specs.declared.wire.Event.TheVariants as events
use Rattle.agent_wire.specs.declared.wire.WireAnswer.{WireAnswer}
use Rattle.agent_wire.specs.declared.wire.WireAnswer.TheVariants as answers
use Rattle.agent_wire.specs.Requests.{AreRequests, LeadsToRouters}
use Rattle.agent_wire.specs.Accepting.{HasAccepted, first_request, requests_for, with_part}
use Rattle.agent_wire.specs.Messages.{Spells, answer, ask}
use Rattle.agent_wire.specs.Link.{AreSent, HasSent, HasStepped, IsAccepting, IsAny, IsAskedAt, IsBegun, IsLink, IsMessageAt, IsOf, IsSent, Link}
use Rattle.agent_wire.proofs.AcceptFacts.{accepted_home, accepting_keeps, first_keeps}
use Rattle.agent_wire.proofs.EntryFacts.{some_is, stood_below, stood_has}

-- ---- bytes spell one message

pub one_value : (bytes : List ℕ) (a b : Message) → Spells bytes a → Spells bytes b → a ≡ b
one_value bytes a b s t =
    let At : List ℕ → Type 0 = λ xs. whole_at xs ≡ Ok a in
    is_one bytes a b (subst At (sym s.is.spells) (whole_again a s.is.fits s.plain)) t.plain t.is

-- ---- requests keep their numbers

got_left : (xs ys : List Asked) (i : ℕ) (q : Asked) → slice_get xs i ≡ Some q → slice_get (xs ++ ys) i ≡ Some q
got_left [] ys i q e = absurd (none-some q e)
got_left (x ∷ xs) ys zero q e = e
got_left (x ∷ xs) ys (suc i) q e = got_left xs ys i q e

got_set : (made more : List Asked) (i number : ℕ) (of q : Asked) (part : Part) → slice_get made number ≡ Some of → slice_get made i ≡ Some q
    → (r : Asked) × (slice_get (set made number (with_part of part) ++ more) i ≡ Some r) × (r.region ≡ q.region) × (r.entries ≡ q.entries)
got_set [] more i number of q part stood e = absurd (none-some q e)
got_set (x ∷ xs) more zero zero of q part stood e =
    let same : of ≡ q = sym (some_is x of stood) ∙ some_is x q e in
    (with_part of part, refl, ap (λ (a : Asked). a.region) same, ap (λ (a : Asked). a.entries) same)
got_set (x ∷ xs) more zero (suc number) of q part stood e = (q, e, refl, refl)
got_set (x ∷ xs) more (suc i) zero of q part stood e = (q, got_left xs more i q e, refl, refl)
got_set (x ∷ xs) more (suc i) (suc number) of q part stood e = got_set xs more i number of q part stood e

pub asked_later : (layout : Layout) (number : ℕ) (part : Part) (before after : List Asked) (i region : ℕ) (entries : List Node) → HasAccepted layout number part before after → IsAskedAt before i region entries → IsAskedAt after i region entries
asked_later layout number part before after i region entries a h =
    let g = got_set before (requests_for layout a.pairs) i number a.of h.of part a.stood h.stood in
    let At : List Asked → Type 0 = λ xs. slice_get xs i ≡ Some g.0 in
    record { of = g.0; stood = subst At (sym a.is) g.1; region_is = g.2 ∙ h.region_is; entries_are = g.3 ∙ h.entries_are }

of_later : (P : ℕ → List Node → Part → Type 0) (layout : Layout) (number : ℕ) (part : Part) (before after : List Asked) (value : Message) → HasAccepted layout number part before after → IsOf P before value → IsOf P after value
of_later P layout number part before after (Ask request) a h = asked_later layout number part before after request.number request.region request.entries a h
of_later P layout number part before after (Answer reply) a h =
    record { region = h.region; entries = h.entries; asked = asked_later layout number part before after reply.number h.region h.entries a h.asked; is_part = h.is_part }

-- ---- sent messages

put_sent : (P : ℕ → List Node → Part → Type 0) (before after : Link) (message : ℕ) (value : Message) → AreSent P before → HasSent before after message value → IsOf P before.made value → AreSent P after
put_sent P before after message value are put from bytes h =
    let Has : List (List ℕ) → Type 0 = λ xs. Contains xs bytes in
    let At : List Asked → Type 0 = λ xs. IsSent P xs bytes in
    subst At (sym put.made)
    (⊎_elim (λ k. are bytes k)
    (λ k. let One : List ℕ → Type 0 = λ b. IsSent P before.made b in subst One (has_one put.bytes bytes k) (record { value = value; spells = put.spells; from = from }))
    (Contains-append_cases before.sent (put.bytes ∷ []) bytes (subst Has put.sent h)))

accept_sent : (P : ℕ → List Node → Part → Type 0) (layout : Layout) (message number : ℕ) (before after : Link) → AreSent P before → IsAccepting layout message number before after → AreSent P after
accept_sent P layout message number before after are a bytes h =
    let Has : List (List ℕ) → Type 0 = λ xs. Contains xs bytes in
    let s = are bytes (subst Has a.sent h) in
    record { value = s.value; spells = s.spells; from = of_later P layout a.reply.number a.reply.part before.made after.made s.value a.accepted s.from }

-- what is known of a sent message
pub sent_of : (P : ℕ → List Node → Part → Type 0) (link : Link) (message : ℕ) (value : Message) → AreSent P link → IsMessageAt link message value → IsOf P link.made value
sent_of P link message value are at =
    let s = are at.bytes (stood_has link.sent message at.bytes at.stood) in
    let At : Message → Type 0 = λ v. IsOf P link.made v in
    subst At (one_value at.bytes s.value value s.spells at.spells) s.from

same_sent : (P : ℕ → List Node → Part → Type 0) (before after : Link) → after ≡ before → AreSent P before → AreSent P after
same_sent P before after same are = let At : Link → Type 0 = λ l. AreSent P l in subst At (sym same) are

step_sent : (P : ℕ → List Node → Part → Type 0) (net : Net) (layout : Layout) (event : Event) (before after : Link) (result : WireAnswer)
    → ((region : ℕ) (entries : List Node) (part : Part) → IsPart net (in_region layout region) entries part → P region entries part)
    → HasStepped net layout event before after result → AreSent P before → AreSent P after
step_sent P net layout (events.Send number) before after (answers.Sent message) parts s are =
    put_sent P before after message (ask number s.of) are s.put (record { of = s.of; stood = s.stood; region_is = refl; entries_are = refl })
step_sent P net layout (events.Send number) before after (answers.NoSuch have) parts s are = same_sent P before after s.same are
step_sent P net layout (events.Send number) before after (answers.Answered reply) parts s are = absurd s
step_sent P net layout (events.Send number) before after (answers.Accepted other) parts s are = absurd s
step_sent P net layout (events.Send number) before after (answers.Repeated other) parts s are = absurd s
step_sent P net layout (events.Deliver message) before after (answers.Answered reply) parts s are =
    put_sent P before after reply (answer s.request.number s.part) are s.put
    (record { region = s.request.region; entries = s.request.entries; asked = sent_of P before message (Ask s.request) are s.delivered; is_part = parts s.request.region s.request.entries s.part s.is_part })
step_sent P net layout (events.Deliver message) before after (answers.Accepted number) parts s are = accept_sent P layout message number before after are s
step_sent P net layout (events.Deliver message) before after (answers.Repeated number) parts s are = same_sent P before after s.same are
step_sent P net layout (events.Deliver message) before after (answers.NoSuch have) parts s are = same_sent P before after s.same are
step_sent P net layout (events.Deliver message) before after (answers.Sent other) parts s are = absurd s

-- ---- requests

-- the requests are as before, or a part was accepted
step_made : (Q : List Asked → Type 0) (net : Net) (layout : Layout) (event : Event) (before after : Link) (result : WireAnswer) → HasStepped net layout event before after result → Q before.made
    → ((message number : ℕ) → IsAccepting layout message number before after → Q after.made) → Q after.made
step_made Q net layout (events.Send number) before after (answers.Sent message) s q more = subst Q (sym s.put.made) q
step_made Q net layout (events.Send number) before after (answers.NoSuch have) s q more = subst Q (sym (ap (λ (l : Link). l.made) s.same)) q
step_made Q net layout (events.Send number) before after (answers.Answered reply) s q more = absurd s
step_made Q net layout (events.Send number) before after (answers.Accepted other) s q more = absurd s
step_made Q net layout (events.Send number) before after (answers.Repeated other) s q more = absurd s
step_made Q net layout (events.Deliver message) before after (answers.Answered reply) s q more = subst Q (sym s.put.made) q
step_made Q net layout (events.Deliver message) before after (answers.Accepted number) s q more = more message number s
step_made Q net layout (events.Deliver message) before after (answers.Repeated number) s q more = subst Q (sym (ap (λ (l : Link). l.made) s.same)) q
step_made Q net layout (events.Deliver message) before after (answers.NoSuch have) s q more = subst Q (sym (ap (λ (l : Link). l.made) s.same)) q
step_made Q net layout (events.Deliver message) before after (answers.Sent other) s q more = absurd s

-- ---- links

pub step_begun : (net : Net) (layout : Layout) (event : Event) (before after : Link) (result : WireAnswer) → HasStepped net layout event before after result → IsBegun layout before → IsBegun layout after
step_begun net layout event before after result s begun = record {
  home = step_made (λ made. (q : Asked) → Contains made q → AreHome layout q.region q.entries) net layout event before after result s begun.home
      (λ message number a. accepted_home layout a.reply.number a.reply.part before.made after.made a.accepted begun.home);
  sent = step_sent IsAny net layout event before after result (λ region entries part is. tt) s begun.sent;
}

pub step_link : (net : Net) (layout : Layout) (start : Node) (event : Event) (before after : Link) (result : WireAnswer) → IsSound layout → LeadsToRouters net layout
    → HasStepped net layout event before after result → IsLink net layout start before → IsLink net layout start after
step_link net layout start event before after result sound leads s link =
    let P : ℕ → List Node → Part → Type 0 = λ region entries part. IsPart net (in_region layout region) entries part in
    record {
      requests = step_made (AreRequests net layout start) net layout event before after result s link.requests
          (λ message number a.
          let from = sent_of P before message (Answer a.reply) link.sent a.delivered in
          let same : from.asked.of ≡ a.accepted.of = some_is from.asked.of a.accepted.of (sym from.asked.stood ∙ a.accepted.stood) in
          let Is : Asked → Type 0 = λ q. IsPart net (in_region layout q.region) q.entries a.reply.part in
          let R : ℕ → Type 0 = λ r. IsPart net (in_region layout r) from.entries a.reply.part in
          let N : List Node → Type 0 = λ ns. IsPart net (in_region layout from.asked.of.region) ns a.reply.part in
          let here : IsPart net (in_region layout from.asked.of.region) from.asked.of.entries a.reply.part = subst N (sym from.asked.entries_are) (subst R (sym from.asked.region_is) from.is_part) in
          accepting_keeps net layout start a.reply.number a.reply.part before.made after.made sound leads link.requests a.accepted (subst Is same here));
      sent = step_sent P net layout event before after result (λ region entries part is. is) s link.sent;
    }

none_sent : (P : ℕ → List Node → Part → Type 0) (made : List Asked) → AreSent P (record { made = made; sent = [] })
none_sent P made bytes h = absurd (has_none bytes h)

pub first_link : (net : Net) (layout : Layout) (start : Node) → start.router.number < length layout.names → IsLink net layout start (record { made = first_request layout start ∷ []; sent = [] })
first_link net layout start exists = record { requests = first_keeps net layout start exists; sent = none_sent _ _ }

pub first_begun : (layout : Layout) (start : Node) → start.router.number < length layout.names → IsBegun layout (record { made = first_request layout start ∷ []; sent = [] })
first_begun layout start exists = record { home = (first_keeps (record { hit = λ n. false; origins = λ n. []; linked = λ a b. false; missing = λ r. false }) layout start exists).home; sent = none_sent _ _ }

-- ---- delivering

pub asked_home : (layout : Layout) (link : Link) (message : ℕ) (request : Request) → IsBegun layout link → IsMessageAt link message (Ask request) → AreHome layout request.region request.entries
asked_home layout link message request begun at =
    let asked = sent_of IsAny link message (Ask request) begun.sent at in
    let R : ℕ → Type 0 = λ r. AreHome layout r asked.of.entries in
    let N : List Node → Type 0 = λ ns. AreHome layout request.region ns in
    subst N asked.entries_are (subst R asked.region_is (begun.home asked.of (stood_has link.made request.number asked.of asked.stood)))

pub answer_stood : (layout : Layout) (link : Link) (message : ℕ) (reply : Reply) → IsBegun layout link → IsMessageAt link message (Answer reply) → reply.number < length link.made
answer_stood layout link message reply begun at =
    let from = sent_of IsAny link message (Answer reply) begun.sent at in
    stood_below link.made reply.number from.asked.of from.asked.stood

pub read_at : (link : Link) (message : ℕ) (bytes : List ℕ) (got value : Message) → slice_get link.sent message ≡ Some bytes → IsMessage bytes got → IsPlain got → got ≡ value → IsMessageAt link message value
read_at link message bytes got value stood is plain same =
    let At : Message → Type 0 = λ v. Spells bytes v in
    record { bytes = bytes; stood = stood; spells = subst At same (record { is = is; plain = plain }) }

pub if_ok : {A E : Type 0} (r : Result A E) (P Q : A → Type 0) → ((x : A) → P x → Q x) → IfOk r P → IfOk r Q
if_ok (Ok x) P Q f h = f x h
if_ok (Err e) P Q f h = tt
