-- Reading from left to right. A field is read where it is wholly there and breaks no rule: what comes of it is its
-- value and the bytes behind it. Else reading stops there, and what comes of it is how many bytes are left.
use Rattle.std.specs.Prelude.{◌≡◌, ℕ, zero, suc, ◌-◌, ◌==◌, Bool, true, List, [], ◌∷◌, length, take, drop, Option, None, Some, Result, Ok, Err, nat_le, if◌then◌else◌}
use Rattle.std.specs.Int.{w32, w64, to_be_bytes}
use Rattle.std.specs.Ordering.{is_lt}
use Rattle.std.specs.declared.cmp.Ordering.{Ordering}
use Rattle.byteorder.specs.Endian.{big_number}
use Rattle.reverse_flood.specs.declared.graphs.Node.{Node}
use Rattle.reverse_flood.specs.declared.graphs.Edge.{Edge}
use Rattle.reverse_flood.specs.declared.graphs.Part.{Part}
use Rattle.reverse_flood.specs.Flood.{node_cmp, edge_cmp}
use Rattle.wire_message.specs.Spelling.{spelled_node, spelled_edge}
use Rattle.wire_message.specs.declared.messages.Message.{Message}
use Rattle.wire_message.specs.declared.messages.Message.TheVariants.{Ask, Answer}
use Rattle.wire_message.specs.declared.messages.MessageRefused.{MessageRefused}
use Rattle.wire_message.specs.declared.messages.MessageRefused.TheVariants as refusals
use Rattle.wire_message.specs.declared.stop.Stop.{Stop}
use Rattle.wire_message.specs.declared.stop.Stop.TheVariants as stops

infixl 10 ◌>>=◌
abbrev pub ◌>>=◌ : {A B : Type 0} → Result A ℕ → (A → Result B ℕ) → Result B ℕ
(Ok x) >>= f = f x
(Err left) >>= f = Err left

-- a kind of field: how many bytes it has, what its bytes are, and how it is spelled
pub record Form (X : Type 0) : Type 0 where
  pub size : ℕ
  pub of : List ℕ → X
  pub spelled : X → List ℕ

-- numbers of four and of eight bytes
abbrev pub four_form : Form ℕ
four_form = record { size = 4; of = big_number 4; spelled = to_be_bytes w32 }

abbrev pub eight_form : Form ℕ
eight_form = record { size = 8; of = big_number 8; spelled = to_be_bytes w64 }

-- the node and the edge that bytes begin with
abbrev pub node_of : List ℕ → Node
node_of bytes = record { router = record { number = big_number 4 bytes }; sig = record { bytes = take 28 (drop 4 bytes) } }

abbrev pub edge_of : List ℕ → Edge
edge_of bytes = record { down = node_of bytes; up = node_of (drop 32 bytes) }

abbrev pub node_form : Form Node
node_form = record { size = 32; of = node_of; spelled = spelled_node }

abbrev pub edge_form : Form Edge
edge_form = record { size = 64; of = edge_of; spelled = spelled_edge }

-- a field that is wholly there
abbrev pub field_in : {X : Type 0} → Form X → List ℕ → Result (X × List ℕ) ℕ
field_in form bytes = if nat_le form.size (length bytes) then Ok (form.of bytes, drop form.size bytes) else Err (length bytes)

-- an item is above the one before it, where there is one
abbrev pub is_above : {X : Type 0} → (X → X → Ordering) → Option X → X → Bool
is_above cmp None item = true
is_above cmp (Some before) item = is_lt (cmp before item)

-- the next item of a list
abbrev pub next_in : {X : Type 0} → Form X → (X → X → Ordering) → Option X → List ℕ → Result (X × List ℕ) ℕ
next_in form cmp before bytes = field_in form bytes >>= λ item. if is_above cmp before item.0 then Ok item else Err (length bytes)

unfoldable pub items_in : {X : Type 0} → Form X → (X → X → Ordering) → (count : ℕ) → Option X → List ℕ → Result (List X × List ℕ) ℕ
items_in form cmp zero before bytes = Ok ([], bytes)
items_in form cmp (suc count) before bytes = do
  first ← next_in form cmp before bytes
  others ← items_in form cmp count (Some first.0) first.1
  Ok (first.0 ∷ others.0, others.1)

-- how many items, and the items
unfoldable pub list_in : {X : Type 0} → Form X → (X → X → Ordering) → List ℕ → Result (List X × List ℕ) ℕ
list_in form cmp bytes = do
  count ← field_in eight_form bytes
  items_in form cmp count.0 None count.1

unfoldable pub request_at : List ℕ → Result (Message × List ℕ) ℕ
request_at bytes = do
  number ← field_in eight_form bytes
  region ← field_in four_form number.1
  entries ← list_in node_form node_cmp region.1
  Ok (Ask record { number = number.0; region = region.0; entries = entries.0 }, entries.1)

unfoldable pub part_at : List ℕ → Result (Part × List ℕ) ℕ
part_at bytes = do
  nodes ← list_in node_form node_cmp bytes
  edges ← list_in edge_form edge_cmp nodes.1
  unknown ← list_in node_form node_cmp edges.1
  clear ← list_in node_form node_cmp unknown.1
  exits ← list_in edge_form edge_cmp clear.1
  Ok (record { nodes = nodes.0; edges = edges.0; unknown = unknown.0; clear = clear.0; exits = exits.0 }, exits.1)

unfoldable pub reply_at : List ℕ → Result (Message × List ℕ) ℕ
reply_at bytes = do
  number ← field_in eight_form bytes
  part ← part_at number.1
  Ok (Answer record { number = number.0; part = part.0 }, part.1)

-- what stands behind `SPQ1` and `SPR1`; other bytes are no magic
abbrev pub behind_magic : (size magic : ℕ) → List ℕ → Result (Message × List ℕ) ℕ
behind_magic size magic bytes = if magic == 0x53505131 then request_at bytes else if magic == 0x53505231 then reply_at bytes else Err size

unfoldable pub message_at : List ℕ → Result (Message × List ℕ) ℕ
message_at bytes = do
  magic ← field_in four_form bytes
  behind_magic (length bytes) magic.0 magic.1

-- all of the bytes
unfoldable pub whole_at : List ℕ → Result Message ℕ
whole_at bytes = do
  found ← message_at bytes
  if length found.1 == 0 then Ok found.0 else Err (length found.1)

-- where reading stopped, from the front
abbrev pub placed : (size : ℕ) → Result Message ℕ → Result Message ℕ
placed size (Ok value) = Ok value
placed size (Err left) = Err (size - left)

-- The message that the bytes are, or the place where they are none: the offset of the first field that is not wholly
-- there or breaks a rule, and the message's length where more bytes follow.
abbrev pub message_of : List ℕ → Result Message ℕ
message_of bytes = placed (length bytes) (whole_at bytes)

-- What a private reader returned is what reading gives, unless memory ran out.
abbrev pub Stops : {Y : Type 0} → Stop → Result Y ℕ → Type 0
Stops stops.NoMemory read = Unit {0}
Stops (stops.At left) read = read ≡ Err left

abbrev pub Gives : {X Y : Type 0} → (X → Y) → Result X Stop → Result Y ℕ → Type 0
Gives view (Ok x) read = read ≡ Ok (view x)
Gives view (Err e) read = Stops e read

-- What `decode_message` returned is what the bytes are, unless memory ran out.
abbrev pub Refuses : MessageRefused → Result Message ℕ → Type 0
Refuses refusals.NoMemory read = Unit {0}
Refuses (refusals.Refused place) read = read ≡ Err place

abbrev pub Decodes : Result Message MessageRefused → Result Message ℕ → Type 0
Decodes (Ok value) read = read ≡ Ok value
Decodes (Err e) read = Refuses e read
