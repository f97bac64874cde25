-- The one spelling of a message. Numbers are big-endian.
use Rattle.std.specs.Prelude.{ℕ, ◌^◌, ◌<◌, ◌≡◌, List, [], ◌∷◌, ◌++◌, length, slice_index}
use Rattle.std.specs.List.{flat_map, All}
use Rattle.std.specs.List.Sorted.{IsStrictlySortedBy}
use Rattle.std.specs.Int.{w32, w64, to_be_bytes}
use Rattle.reverse_flood.specs.declared.graphs.Node.{Node}
use Rattle.reverse_flood.specs.declared.graphs.Edge.{Edge}
use Rattle.reverse_flood.specs.declared.graphs.Part.{Part}
use Rattle.reverse_flood.specs.Flood.{node_cmp, edge_cmp}
use Rattle.wire_message.specs.declared.messages.Request.{Request}
use Rattle.wire_message.specs.declared.messages.Reply.{Reply}
use Rattle.wire_message.specs.declared.messages.Message.{Message}
use Rattle.wire_message.specs.declared.messages.Message.TheVariants.{Ask, Answer}

-- router and signature
abbrev pub spelled_node : Node → List ℕ
spelled_node n = to_be_bytes w32 n.router.number ++ n.sig.bytes

-- the downstream node first
abbrev pub spelled_edge : Edge → List ℕ
spelled_edge e = spelled_node e.down ++ spelled_node e.up

-- how many items, and the items
abbrev pub spelled_list : {X : Type 0} → (X → List ℕ) → List X → List ℕ
spelled_list item xs = to_be_bytes w64 (length xs) ++ flat_map item xs

-- `SPQ1`
abbrev pub request_magic : List ℕ
request_magic = 0x53 ∷ 0x50 ∷ 0x51 ∷ 0x31 ∷ []

-- `SPR1`
abbrev pub reply_magic : List ℕ
reply_magic = 0x53 ∷ 0x50 ∷ 0x52 ∷ 0x31 ∷ []

unfoldable pub spelled_request : Request → List ℕ
spelled_request r = request_magic ++ (to_be_bytes w64 r.number ++ (to_be_bytes w32 r.region ++ spelled_list spelled_node r.entries))

unfoldable pub spelled_part : Part → List ℕ
spelled_part p = spelled_list spelled_node p.nodes ++ (spelled_list spelled_edge p.edges ++ (spelled_list spelled_node p.unknown ++ (spelled_list spelled_node p.clear ++ spelled_list spelled_edge p.exits)))

unfoldable pub spelled_reply : Reply → List ℕ
spelled_reply r = reply_magic ++ (to_be_bytes w64 r.number ++ spelled_part r.part)

abbrev pub spelled : Message → List ℕ
spelled (Ask r) = spelled_request r
spelled (Answer r) = spelled_reply r

-- all lists of a part are ascending, each item once
pub record IsAscending (p : Part) : Type 0 where
  pub nodes : IsStrictlySortedBy node_cmp p.nodes
  pub edges : IsStrictlySortedBy edge_cmp p.edges
  pub unknown : IsStrictlySortedBy node_cmp p.unknown
  pub clear : IsStrictlySortedBy node_cmp p.clear
  pub exits : IsStrictlySortedBy edge_cmp p.exits

-- a message that has a spelling
abbrev pub Fits : Message → Type 0
Fits (Ask r) = IsStrictlySortedBy node_cmp r.entries
Fits (Answer r) = IsAscending r.part

-- the bytes are a message, and the value is what they spell
pub record IsMessage (bytes : List ℕ) (value : Message) : Type 0 where
  pub fits : Fits value
  pub spells : bytes ≡ spelled value

-- what a value of these types always is, where a list or a number of a model need not be
abbrev pub AreBytes : List ℕ → Type 0
AreBytes bytes = (i : ℕ) → slice_index bytes i < 256

pub record IsPlainNode (n : Node) : Type 0 where
  pub router : n.router.number < 2 ^ 32
  pub size : length n.sig.bytes ≡ 28
  pub bytes : AreBytes n.sig.bytes

pub record IsPlainEdge (e : Edge) : Type 0 where
  pub down : IsPlainNode e.down
  pub up : IsPlainNode e.up

pub record IsPlainList {X : Type 0} (P : X → Type 0) (xs : List X) : Type 0 where
  pub size : length xs < 2 ^ 64
  pub items : All P xs

pub record IsPlainPart (p : Part) : Type 0 where
  pub nodes : IsPlainList IsPlainNode p.nodes
  pub edges : IsPlainList IsPlainEdge p.edges
  pub unknown : IsPlainList IsPlainNode p.unknown
  pub clear : IsPlainList IsPlainNode p.clear
  pub exits : IsPlainList IsPlainEdge p.exits

pub record IsPlainRequest (r : Request) : Type 0 where
  pub number : r.number < 2 ^ 64
  pub region : r.region < 2 ^ 32
  pub entries : IsPlainList IsPlainNode r.entries

pub record IsPlainReply (r : Reply) : Type 0 where
  pub number : r.number < 2 ^ 64
  pub part : IsPlainPart r.part

abbrev pub IsPlain : Message → Type 0
IsPlain (Ask r) = IsPlainRequest r
IsPlain (Answer r) = IsPlainReply r
