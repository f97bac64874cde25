-- The two laws: what is read is spelled so, and what is spelled so is read.
use Rattle.std.proofs.Common.{◌≡◌, ℕ, Bool, true, false, cond, eqb, List, [], ◌++◌, length, Result, Ok, Err, refl, sym, ap, subst, ◌∙◌, append_assoc, arith, ◌⊎◌, inl, inr}
use Rattle.std.specs.Int.{w32, w64, to_be_bytes}
use Rattle.std.proofs.lemmas.Bool.{eqb-true}
use Rattle.std.proofs.lemmas.List.{append-nil, nil_from_length}
use Rattle.reverse_flood.specs.declared.graphs.Node.{Node}
use Rattle.reverse_flood.specs.declared.graphs.Edge.{Edge}
use Rattle.reverse_flood.specs.declared.graphs.Part.{Part}
use Rattle.reverse_flood.specs.Flood.{node_cmp, edge_cmp}
use Rattle.reverse_flood.proofs.Orders.{nodes_total, edges_total}
use Rattle.wire_message.specs.declared.messages.Request.{Request}
use Rattle.wire_message.specs.declared.messages.Reply.{Reply}
use Rattle.wire_message.specs.declared.messages.Message.{Message}
use Rattle.wire_message.specs.declared.messages.Message.TheVariants.{Ask, Answer}
use Rattle.wire_message.specs.Spelling.{spelled_node, spelled_edge, spelled_list, request_magic, reply_magic, spelled_request, spelled_part, spelled_reply, spelled, IsAscending, Fits, IsMessage, AreBytes, IsPlainNode, IsPlainEdge, IsPlainPart, IsPlainRequest, IsPlainReply, IsPlain}
use Rattle.wire_message.specs.Reading.{◌>>=◌, four_form, eight_form, node_form, edge_form, field_in, list_in, request_at, part_at, reply_at, behind_magic, message_at, whole_at, placed, message_of}
use Rattle.wire_message.proofs.FieldFacts.{bind_ok, guard_ok, ok_is, Takes, Takes-then, field_takes, field_again, IsFour, four_is, IsEight, eight_is, node_is, edge_is}
use Rattle.wire_message.proofs.ItemFacts.{TakesList, list_takes, list_again}

-- what stands behind the magic bytes
abbrev pub body : Message → List ℕ
body (Ask r) = to_be_bytes w64 r.number ++ (to_be_bytes w32 r.region ++ spelled_list spelled_node r.entries)
body (Answer r) = to_be_bytes w64 r.number ++ spelled_part r.part

-- what a reader behind the magic bytes took
pub record TakesBody (magic bytes : List ℕ) (value : Message) (rest : List ℕ) : Type 0 where
  pub takes : Takes bytes (body value) rest
  pub fits : Fits value
  pub plain : IsPlain value
  pub spells : spelled value ≡ magic ++ body value

nodes_take : (bytes : List ℕ) (x : List Node × List ℕ) → AreBytes bytes → list_in node_form node_cmp bytes ≡ Ok x → TakesList node_form node_cmp IsPlainNode bytes x
nodes_take = list_takes node_form node_cmp IsPlainNode node_is nodes_total

edges_take : (bytes : List ℕ) (x : List Edge × List ℕ) → AreBytes bytes → list_in edge_form edge_cmp bytes ≡ Ok x → TakesList edge_form edge_cmp IsPlainEdge bytes x
edges_take = list_takes edge_form edge_cmp IsPlainEdge edge_is edges_total

-- ---- requests

abbrev pub request_made : (number region : ℕ × List ℕ) (entries : List Node × List ℕ) → Message × List ℕ
request_made number region entries = (Ask record { number = number.0; region = region.0; entries = entries.0 }, entries.1)

request_takes : (bytes : List ℕ) (x : Message × List ℕ) → AreBytes bytes → request_at bytes ≡ Ok x → TakesBody request_magic bytes x.0 x.1
unfolding request_at spelled_request
request_takes bytes x fits e =
    let a = bind_ok (field_in eight_form bytes) (λ number. field_in four_form number.1 >>= λ region. list_in node_form node_cmp region.1 >>= λ entries. Ok (request_made number region entries)) x e in
    let b = bind_ok (field_in four_form a.0.1) (λ region. list_in node_form node_cmp region.1 >>= λ entries. Ok (request_made a.0 region entries)) x a.2 in
    let c = bind_ok (list_in node_form node_cmp b.0.1) (λ entries. Ok (request_made a.0 b.0 entries)) x b.2 in
    let t0 = field_takes eight_form IsEight eight_is bytes a.0 fits a.1 in
    let t1 = field_takes four_form IsFour four_is a.0.1 b.0 t0.takes.rest_fits b.1 in
    let t2 = nodes_take b.0.1 c.0 t1.takes.rest_fits c.1 in
    let behind = Takes-then a.0.1 (to_be_bytes w32 b.0.0) b.0.1 (spelled_list spelled_node c.0.0) c.0.1 t1.takes t2.takes in
    let all = Takes-then bytes (to_be_bytes w64 a.0.0) a.0.1 (to_be_bytes w32 b.0.0 ++ spelled_list spelled_node c.0.0) c.0.1 t0.takes behind in
    subst (λ (y : Message × List ℕ). TakesBody request_magic bytes y.0 y.1) (ok_is (request_made a.0 b.0 c.0) x c.2)
    (record { takes = all; fits = t2.ascends; plain = record { number = t0.plain; region = t1.plain; entries = t2.plain }; spells = refl })

request_again : (r : Request) (rest : List ℕ) → Fits (Ask r) → IsPlainRequest r → request_at (body (Ask r) ++ rest) ≡ Ok (Ask r, rest)
unfolding request_at
request_again r rest fits plain =
    let entries = spelled_list spelled_node r.entries ++ rest in
    ap (λ (y : Result (ℕ × List ℕ) ℕ). y >>= λ number. field_in four_form number.1 >>= λ region. list_in node_form node_cmp region.1 >>= λ entries. Ok (request_made number region entries)) (field_again eight_form IsEight eight_is r.number (to_be_bytes w32 r.region ++ entries) plain.number)
    ∙ ap (λ (y : Result (ℕ × List ℕ) ℕ). y >>= λ region. list_in node_form node_cmp region.1 >>= λ entries. Ok (request_made (r.number, []) region entries)) (field_again four_form IsFour four_is r.region entries plain.region)
    ∙ ap (λ (y : Result (List Node × List ℕ) ℕ). y >>= λ entries. Ok (request_made (r.number, []) (r.region, []) entries)) (list_again node_form node_cmp IsPlainNode node_is r.entries rest plain.entries fits)

-- ---- parts

pub record TakesPart (bytes : List ℕ) (x : Part × List ℕ) : Type 0 where
  pub takes : Takes bytes (spelled_part x.0) x.1
  pub ascends : IsAscending x.0
  pub plain : IsPlainPart x.0

abbrev pub part_made : (nodes : List Node × List ℕ) (edges : List Edge × List ℕ) (unknown clear : List Node × List ℕ) (exits : List Edge × List ℕ) → Part × List ℕ
part_made nodes edges unknown clear exits = (record { nodes = nodes.0; edges = edges.0; unknown = unknown.0; clear = clear.0; exits = exits.0 }, exits.1)

part_takes : (bytes : List ℕ) (x : Part × List ℕ) → AreBytes bytes → part_at bytes ≡ Ok x → TakesPart bytes x
unfolding part_at spelled_part
part_takes bytes x fits e =
    let a = bind_ok (list_in node_form node_cmp bytes) (λ nodes. list_in edge_form edge_cmp nodes.1 >>= λ edges. list_in node_form node_cmp edges.1 >>= λ unknown. list_in node_form node_cmp unknown.1 >>= λ clear. list_in edge_form edge_cmp clear.1 >>= λ exits. Ok (part_made nodes edges unknown clear exits)) x e in
    let b = bind_ok (list_in edge_form edge_cmp a.0.1) (λ edges. list_in node_form node_cmp edges.1 >>= λ unknown. list_in node_form node_cmp unknown.1 >>= λ clear. list_in edge_form edge_cmp clear.1 >>= λ exits. Ok (part_made a.0 edges unknown clear exits)) x a.2 in
    let c = bind_ok (list_in node_form node_cmp b.0.1) (λ unknown. list_in node_form node_cmp unknown.1 >>= λ clear. list_in edge_form edge_cmp clear.1 >>= λ exits. Ok (part_made a.0 b.0 unknown clear exits)) x b.2 in
    let d = bind_ok (list_in node_form node_cmp c.0.1) (λ clear. list_in edge_form edge_cmp clear.1 >>= λ exits. Ok (part_made a.0 b.0 c.0 clear exits)) x c.2 in
    let f = bind_ok (list_in edge_form edge_cmp d.0.1) (λ exits. Ok (part_made a.0 b.0 c.0 d.0 exits)) x d.2 in
    let t0 = nodes_take bytes a.0 fits a.1 in
    let t1 = edges_take a.0.1 b.0 t0.takes.rest_fits b.1 in
    let t2 = nodes_take b.0.1 c.0 t1.takes.rest_fits c.1 in
    let t3 = nodes_take c.0.1 d.0 t2.takes.rest_fits d.1 in
    let t4 = edges_take d.0.1 f.0 t3.takes.rest_fits f.1 in
    let x4 = spelled_list spelled_edge f.0.0 in
    let x3 = spelled_list spelled_node d.0.0 ++ x4 in
    let x2 = spelled_list spelled_node c.0.0 ++ x3 in
    let x1 = spelled_list spelled_edge b.0.0 ++ x2 in
    let from3 = Takes-then c.0.1 (spelled_list spelled_node d.0.0) d.0.1 x4 f.0.1 t3.takes t4.takes in
    let from2 = Takes-then b.0.1 (spelled_list spelled_node c.0.0) c.0.1 x3 f.0.1 t2.takes from3 in
    let from1 = Takes-then a.0.1 (spelled_list spelled_edge b.0.0) b.0.1 x2 f.0.1 t1.takes from2 in
    let all = Takes-then bytes (spelled_list spelled_node a.0.0) a.0.1 x1 f.0.1 t0.takes from1 in
    subst (λ (y : Part × List ℕ). TakesPart bytes y) (ok_is (part_made a.0 b.0 c.0 d.0 f.0) x f.2)
    (record {
      takes = all;
      ascends = record { nodes = t0.ascends; edges = t1.ascends; unknown = t2.ascends; clear = t3.ascends; exits = t4.ascends };
      plain = record { nodes = t0.plain; edges = t1.plain; unknown = t2.plain; clear = t3.plain; exits = t4.plain };
    })

regrouped : (a b c d e rest : List ℕ) → (a ++ (b ++ (c ++ (d ++ e)))) ++ rest ≡ a ++ (b ++ (c ++ (d ++ (e ++ rest))))
regrouped a b c d e rest = simp append_assoc

part_again : (p : Part) (rest : List ℕ) → IsAscending p → IsPlainPart p → part_at (spelled_part p ++ rest) ≡ Ok (p, rest)
unfolding part_at spelled_part
part_again p rest ascends plain =
    let x4 = spelled_list spelled_edge p.exits ++ rest in
    let x3 = spelled_list spelled_node p.clear ++ x4 in
    let x2 = spelled_list spelled_node p.unknown ++ x3 in
    let x1 = spelled_list spelled_edge p.edges ++ x2 in
    ap part_at (regrouped (spelled_list spelled_node p.nodes) (spelled_list spelled_edge p.edges) (spelled_list spelled_node p.unknown) (spelled_list spelled_node p.clear) (spelled_list spelled_edge p.exits) rest)
    ∙ ap (λ (y : Result (List Node × List ℕ) ℕ). y >>= λ nodes. list_in edge_form edge_cmp nodes.1 >>= λ edges. list_in node_form node_cmp edges.1 >>= λ unknown. list_in node_form node_cmp unknown.1 >>= λ clear. list_in edge_form edge_cmp clear.1 >>= λ exits. Ok (part_made nodes edges unknown clear exits)) (list_again node_form node_cmp IsPlainNode node_is p.nodes x1 plain.nodes ascends.nodes)
    ∙ ap (λ (y : Result (List Edge × List ℕ) ℕ). y >>= λ edges. list_in node_form node_cmp edges.1 >>= λ unknown. list_in node_form node_cmp unknown.1 >>= λ clear. list_in edge_form edge_cmp clear.1 >>= λ exits. Ok (part_made (p.nodes, []) edges unknown clear exits)) (list_again edge_form edge_cmp IsPlainEdge edge_is p.edges x2 plain.edges ascends.edges)
    ∙ ap (λ (y : Result (List Node × List ℕ) ℕ). y >>= λ unknown. list_in node_form node_cmp unknown.1 >>= λ clear. list_in edge_form edge_cmp clear.1 >>= λ exits. Ok (part_made (p.nodes, []) (p.edges, []) unknown clear exits)) (list_again node_form node_cmp IsPlainNode node_is p.unknown x3 plain.unknown ascends.unknown)
    ∙ ap (λ (y : Result (List Node × List ℕ) ℕ). y >>= λ clear. list_in edge_form edge_cmp clear.1 >>= λ exits. Ok (part_made (p.nodes, []) (p.edges, []) (p.unknown, []) clear exits)) (list_again node_form node_cmp IsPlainNode node_is p.clear x4 plain.clear ascends.clear)
    ∙ ap (λ (y : Result (List Edge × List ℕ) ℕ). y >>= λ exits. Ok (part_made (p.nodes, []) (p.edges, []) (p.unknown, []) (p.clear, []) exits)) (list_again edge_form edge_cmp IsPlainEdge edge_is p.exits rest plain.exits ascends.exits)

-- ---- replies

abbrev pub reply_made : (number : ℕ × List ℕ) (part : Part × List ℕ) → Message × List ℕ
reply_made number part = (Answer record { number = number.0; part = part.0 }, part.1)

reply_takes : (bytes : List ℕ) (x : Message × List ℕ) → AreBytes bytes → reply_at bytes ≡ Ok x → TakesBody reply_magic bytes x.0 x.1
unfolding reply_at spelled_reply
reply_takes bytes x fits e =
    let a = bind_ok (field_in eight_form bytes) (λ number. part_at number.1 >>= λ part. Ok (reply_made number part)) x e in
    let b = bind_ok (part_at a.0.1) (λ part. Ok (reply_made a.0 part)) x a.2 in
    let t0 = field_takes eight_form IsEight eight_is bytes a.0 fits a.1 in
    let t1 = part_takes a.0.1 b.0 t0.takes.rest_fits b.1 in
    let all = Takes-then bytes (to_be_bytes w64 a.0.0) a.0.1 (spelled_part b.0.0) b.0.1 t0.takes t1.takes in
    subst (λ (y : Message × List ℕ). TakesBody reply_magic bytes y.0 y.1) (ok_is (reply_made a.0 b.0) x b.2)
    (record { takes = all; fits = t1.ascends; plain = record { number = t0.plain; part = t1.plain }; spells = refl })

reply_again : (r : Reply) (rest : List ℕ) → IsAscending r.part → IsPlainReply r → reply_at (body (Answer r) ++ rest) ≡ Ok (Answer r, rest)
unfolding reply_at
reply_again r rest fits plain =
    ap (λ (y : Result (ℕ × List ℕ) ℕ). y >>= λ number. part_at number.1 >>= λ part. Ok (reply_made number part)) (field_again eight_form IsEight eight_is r.number (spelled_part r.part ++ rest) plain.number)
    ∙ ap (λ (y : Result (Part × List ℕ) ℕ). y >>= λ part. Ok (reply_made (r.number, []) part)) (part_again r.part rest fits plain.part)

-- ---- messages

chosen : {A : Type 0} (b : Bool) (x y z : A) → cond b x y ≡ z → ((b ≡ true) × (x ≡ z)) ⊎ ((b ≡ false) × (y ≡ z))
chosen true x y z e = inl (refl, e)
chosen false x y z e = inr (refl, e)

abbrev stopped : {A : Type 0} → ℕ → Result A ℕ
stopped left = Err left

no_ok : {A : Type 0} (left : ℕ) (x : A) → stopped left ≡ Ok x → ⊥
no_ok left x e = absurd cc

pub record TakesMessage (bytes : List ℕ) (value : Message) (rest : List ℕ) : Type 0 where
  pub takes : Takes bytes (spelled value) rest
  pub fits : Fits value
  pub plain : IsPlain value

with_magic : (code : ℕ) (magic : List ℕ) → to_be_bytes w32 code ≡ magic → (bytes after rest : List ℕ) (found : ℕ) (value : Message) → found ≡ code → Takes bytes (to_be_bytes w32 found) after → TakesBody magic after value rest → TakesMessage bytes value rest
with_magic code magic spells bytes after rest found value named front behind =
    let first : Takes bytes magic after = subst (λ (t : List ℕ). Takes bytes t after) (ap (to_be_bytes w32) named ∙ spells) front in
    let all = Takes-then bytes magic after (body value) rest first behind.takes in
    record { takes = subst (λ (t : List ℕ). Takes bytes t rest) (sym behind.spells) all; fits = behind.fits; plain = behind.plain }

-- what stands behind a magic that is no request's
abbrev pub no_request : (size magic : ℕ) → List ℕ → Result (Message × List ℕ) ℕ
no_request size magic bytes = cond (eqb magic 0x53505231) (reply_at bytes) (Err size)

abbrev pub behind : (size : ℕ) (magic : ℕ × List ℕ) → Result (Message × List ℕ) ℕ
behind size magic = behind_magic size magic.0 magic.1

message_takes : (bytes : List ℕ) (x : Message × List ℕ) → AreBytes bytes → message_at bytes ≡ Ok x → TakesMessage bytes x.0 x.1
unfolding message_at
message_takes bytes x fits e =
    let a = bind_ok (field_in four_form bytes) (behind (length bytes)) x e in
    let t = field_takes four_form IsFour four_is bytes a.0 fits a.1 in
    elim (chosen (eqb a.0.0 0x53505131) (request_at a.0.1) (no_request (length bytes) a.0.0 a.0.1) (Ok x) a.2) [
      | inl p ↦ with_magic 0x53505131 request_magic refl bytes a.0.1 x.1 a.0.0 x.0 (eqb-true _ _ p.0) t.takes (request_takes a.0.1 x t.takes.rest_fits p.1)
      | inr q ↦ elim (chosen (eqb a.0.0 0x53505231) (reply_at a.0.1) (Err (length bytes)) (Ok x) q.1) [
        | inl p ↦ with_magic 0x53505231 reply_magic refl bytes a.0.1 x.1 a.0.0 x.0 (eqb-true _ _ p.0) t.takes (reply_takes a.0.1 x t.takes.rest_fits p.1)
        | inr p ↦ absurd (no_ok (length bytes) x p.1)
      ]
    ]

message_again : (value : Message) (rest : List ℕ) → Fits value → IsPlain value → message_at (spelled value ++ rest) ≡ Ok (value, rest)
unfolding message_at spelled_request spelled_reply
message_again (Ask r) rest fits plain =
    let magic : field_in four_form (request_magic ++ (body (Ask r) ++ rest)) ≡ Ok (0x53505131, body (Ask r) ++ rest) = field_again four_form IsFour four_is 0x53505131 (body (Ask r) ++ rest) (omega arith) in
    ap (λ (y : Result (ℕ × List ℕ) ℕ). y >>= behind (length (spelled_request r ++ rest))) magic ∙ request_again r rest fits plain
message_again (Answer r) rest fits plain =
    let magic : field_in four_form (reply_magic ++ (body (Answer r) ++ rest)) ≡ Ok (0x53505231, body (Answer r) ++ rest) = field_again four_form IsFour four_is 0x53505231 (body (Answer r) ++ rest) (omega arith) in
    ap (λ (y : Result (ℕ × List ℕ) ℕ). y >>= behind (length (spelled_reply r ++ rest))) magic ∙ reply_again r rest fits plain

-- ---- all of the bytes

pub whole_takes : (bytes : List ℕ) (value : Message) → AreBytes bytes → whole_at bytes ≡ Ok value → IsMessage bytes value × IsPlain value
unfolding whole_at
whole_takes bytes value fits e =
    let a = bind_ok (message_at bytes) (λ found. cond (eqb (length found.1) 0) (Ok found.0) (Err (length found.1))) value e in
    let g = guard_ok (eqb (length a.0.1) 0) (length a.0.1) a.0.0 value a.2 in
    let t = message_takes bytes a.0 fits a.1 in
    let nothing : a.0.1 ≡ [] = nil_from_length a.0.1 (eqb-true _ _ g.0) in
    let whole : bytes ≡ spelled a.0.0 = t.takes.parts ∙ ap (λ (r : List ℕ). spelled a.0.0 ++ r) nothing ∙ append-nil (spelled a.0.0) in
    subst (λ (v : Message). IsMessage bytes v × IsPlain v) g.1 (record { fits = t.fits; spells = whole }, t.plain)

pub whole_again : (value : Message) → Fits value → IsPlain value → whole_at (spelled value) ≡ Ok value
unfolding whole_at
whole_again value fits plain =
    ap (λ (r : Result (Message × List ℕ) ℕ). r >>= λ found. cond (eqb (length found.1) 0) (Ok found.0) (Err (length found.1)))
    (ap message_at (sym (append-nil (spelled value))) ∙ message_again value [] fits plain)

-- what the bytes are is what was read
pub is_one : (bytes : List ℕ) (got value : Message) → whole_at bytes ≡ Ok got → IsPlain value → IsMessage bytes value → got ≡ value
is_one bytes got value read plain is = ok_is got value (sym read ∙ ap whole_at is.spells ∙ whole_again value is.fits plain)

-- where reading stopped the bytes are no message
pub is_none : (bytes : List ℕ) (left : ℕ) (value : Message) → whole_at bytes ≡ Err left → IsPlain value → IsMessage bytes value → ⊥
is_none bytes left value read plain is = no_ok left value (sym read ∙ ap whole_at is.spells ∙ whole_again value is.fits plain)

unplaced_by : (size : ℕ) (read : Result Message ℕ) (value : Message) → placed size read ≡ Ok value → read ≡ Ok value
unplaced_by size (Ok got) value e = e
unplaced_by size (Err left) value e = absurd cc

pub unplaced : (bytes : List ℕ) (value : Message) → message_of bytes ≡ Ok value → whole_at bytes ≡ Ok value
unplaced bytes value e = unplaced_by (length bytes) (whole_at bytes) value e
