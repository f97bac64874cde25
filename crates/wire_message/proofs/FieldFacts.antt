-- A field that is read is the field that was spelled, and what was spelled is read again.
use Rattle.std.proofs.Common.{◌≡◌, ℕ, ◌+◌, ◌^◌, ◌<◌, ◌≤◌, Bool, true, false, cond, leb, List, ◌++◌, length, take, drop, Result, Ok, Err, refl, sym, ap, subst, ◌∙◌, append_assoc, arith, inl, inr}
use Rattle.std.specs.Int.{w32, w64, from_be_bytes, to_be_bytes}
use Rattle.std.proofs.Math.Seq.{take-add}
use Rattle.std.proofs.lemmas.Bool.{cases_lt, leb-true, le-leb}
use Rattle.std.proofs.lemmas.List.{take_at, drop_at, take-append-drop, length-append, length-take, length-take-le, length-drop, get_or-drop, get_or-take, get_or_past}
use Rattle.std.proofs.lemmas.Nat.{be_bytes_4, be_bytes_8}
use Rattle.byteorder.specs.Endian.{big_number}
use Rattle.byteorder.specs.Numbers.{big_from-take, big_from-lt, big_number-reads_back, length-bytes_high_first}
use Rattle.reverse_flood.specs.declared.graphs.Node.{Node}
use Rattle.reverse_flood.specs.declared.graphs.Edge.{Edge}
use Rattle.wire_message.specs.Spelling.{spelled_node, spelled_edge, AreBytes, IsPlainNode, IsPlainEdge}
use Rattle.wire_message.specs.Reading.{◌>>=◌, Form, four_form, eight_form, node_of, edge_of, node_form, edge_form, field_in}

pub AreBytes-drop : (n : ℕ) (bytes : List ℕ) → AreBytes bytes → AreBytes (drop n bytes)
AreBytes-drop n bytes h i = rw get_or-drop (h (n + i))

pub AreBytes-take : (n : ℕ) (bytes : List ℕ) → AreBytes bytes → AreBytes (take n bytes)
AreBytes-take n bytes h i =
    elim (cases_lt i n) [
      | inl lt ↦ rw (get_or-take n bytes i 0 lt) (h i)
      | inr le ↦ rw (get_or_past (take n bytes) i 0 (omega (arith, length-take n bytes))) (omega arith)
    ]

-- the value of a step that did not stop
pub bind_ok : {A B : Type 0} (r : Result A ℕ) (f : A → Result B ℕ) (y : B) → (r >>= f) ≡ Ok y → (x : A) × (r ≡ Ok x) × (f x ≡ Ok y)
bind_ok (Ok x) f y e = (x, refl, e)
bind_ok (Err left) f y e = absurd cc

-- a test that was passed
pub guard_ok : {A : Type 0} (b : Bool) (left : ℕ) (x y : A) → cond b (Ok x) (Err left) ≡ Ok y → (b ≡ true) × (x ≡ y)
guard_ok true left x y e = (refl, cc)
guard_ok false left x y e = absurd cc

abbrev done : {A : Type 0} → A → Result A ℕ
done x = Ok x

pub ok_is : {A : Type 0} (x y : A) → done x ≡ done y → x ≡ y
ok_is x y e = cc

-- what a reader took from the front
pub record Takes (bytes text rest : List ℕ) : Type 0 where
  pub parts : bytes ≡ text ++ rest
  pub rest_fits : AreBytes rest

pub Takes-then : (a x b y c : List ℕ) → Takes a x b → Takes b y c → Takes a (x ++ y) c
Takes-then a x b y c p q = record { parts = p.parts ∙ ap (λ (t : List ℕ). x ++ t) q.parts ∙ sym (append_assoc x y c); rest_fits = q.rest_fits }

-- a form whose fields are spelled as they are read, where a plain value is one that a field can have
pub record IsForm {X : Type 0} (form : Form X) (P : X → Type 0) : Type 0 where
  pub back : (bytes : List ℕ) → form.size ≤ length bytes → AreBytes bytes → form.spelled (form.of bytes) ≡ take form.size bytes
  pub plain : (bytes : List ℕ) → form.size ≤ length bytes → AreBytes bytes → P (form.of bytes)
  pub wide : (x : X) → P x → length (form.spelled x) ≡ form.size
  pub again : (x : X) (rest : List ℕ) → P x → form.of (form.spelled x ++ rest) ≡ x

pub record TakesField {X : Type 0} (form : Form X) (P : X → Type 0) (bytes : List ℕ) (x : X × List ℕ) : Type 0 where
  pub takes : Takes bytes (form.spelled x.0) x.1
  pub plain : P x.0

pub field_takes : {X : Type 0} (form : Form X) (P : X → Type 0) → IsForm form P → (bytes : List ℕ) (x : X × List ℕ) → AreBytes bytes → field_in form bytes ≡ Ok x → TakesField form P bytes x
field_takes {X} form P is bytes x fits e =
    let g = guard_ok (leb form.size (length bytes)) (length bytes) (form.of bytes, drop form.size bytes) x e in
    let long : form.size ≤ length bytes = leb-true _ _ g.0 in
    let parts : bytes ≡ form.spelled (form.of bytes) ++ drop form.size bytes = rw (is.back bytes long fits) (sym (take-append-drop form.size bytes)) in
    subst (λ (y : X × List ℕ). TakesField form P bytes y) g.1 (record { takes = record { parts = parts; rest_fits = AreBytes-drop form.size bytes fits }; plain = is.plain bytes long fits })

pub field_again : {X : Type 0} (form : Form X) (P : X → Type 0) → IsForm form P → (x : X) (rest : List ℕ) → P x → field_in form (form.spelled x ++ rest) ≡ Ok (x, rest)
field_again form P is x rest plain =
    let len : length (form.spelled x) ≡ form.size = is.wide x plain in
    let long : leb form.size (length (form.spelled x ++ rest)) ≡ true = le-leb _ _ (omega (arith, len, length-append (form.spelled x) rest)) in
    rw (long, is.again x rest plain, drop_at (form.spelled x) rest form.size len) refl

-- a field that is wholly there is read
pub field_is : {X : Type 0} (form : Form X) (bytes : List ℕ) (x : X) (rest : List ℕ) → form.size ≤ length bytes → x ≡ form.of bytes → rest ≡ drop form.size bytes → field_in form bytes ≡ Ok (x, rest)
field_is form bytes x rest long is behind = rw (le-leb form.size (length bytes) long, is, behind) refl

-- ---- numbers

abbrev pub IsFour : ℕ → Type 0
IsFour x = x < 2 ^ 32

abbrev pub IsEight : ℕ → Type 0
IsEight x = x < 2 ^ 64

pub four_is : IsForm four_form IsFour
four_is = record {
  back = λ bytes long fits. be_bytes_4 (take 4 bytes) (big_number 4 bytes) (length-take-le 4 bytes long) (AreBytes-take 4 bytes fits)
      (sym (big_from-take 0 4 4 bytes (omega arith)) ∙ (let e : big_number 4 (take 4 bytes) ≡ from_be_bytes w32 (take 4 bytes) = omega arith in e));
  plain = λ bytes long fits. big_from-lt 0 4 bytes fits;
  wide = λ x plain. length-bytes_high_first 4 x;
  again = λ x rest plain. big_number-reads_back 4 x rest plain;
}

pub eight_is : IsForm eight_form IsEight
eight_is = record {
  back = λ bytes long fits. be_bytes_8 (take 8 bytes) (big_number 8 bytes) (length-take-le 8 bytes long) (AreBytes-take 8 bytes fits)
      (sym (big_from-take 0 8 8 bytes (omega arith)) ∙ (let e : big_number 8 (take 8 bytes) ≡ from_be_bytes w64 (take 8 bytes) = omega arith in e));
  plain = λ bytes long fits. big_from-lt 0 8 bytes fits;
  wide = λ x plain. length-bytes_high_first 8 x;
  again = λ x rest plain. big_number-reads_back 8 x rest plain;
}

-- ---- nodes and edges

node_back : (bytes : List ℕ) → 32 ≤ length bytes → AreBytes bytes → spelled_node (node_of bytes) ≡ take 32 bytes
node_back bytes long fits =
    ap (λ (t : List ℕ). t ++ take 28 (drop 4 bytes)) (four_is.back bytes (omega (arith, long)) fits) ∙ sym (take-add 4 28 bytes)

node_plain : (bytes : List ℕ) → 32 ≤ length bytes → AreBytes bytes → IsPlainNode (node_of bytes)
node_plain bytes long fits = record {
  router = four_is.plain bytes (omega (arith, long)) fits;
  size = length-take-le 28 (drop 4 bytes) (omega (arith, long, length-drop 4 bytes));
  bytes = AreBytes-take 28 (drop 4 bytes) (AreBytes-drop 4 bytes fits);
}

node_wide : (n : Node) → IsPlainNode n → length (spelled_node n) ≡ 32
node_wide n plain = omega (arith, length-append (to_be_bytes w32 n.router.number) n.sig.bytes, length-bytes_high_first 4 n.router.number, plain.size)

node_again : (n : Node) (rest : List ℕ) → IsPlainNode n → node_of (spelled_node n ++ rest) ≡ n
node_again n rest plain =
    let made : ℕ → List ℕ → Node = λ r s. record { router = record { number = r }; sig = record { bytes = s } } in
    let whole : spelled_node n ++ rest ≡ to_be_bytes w32 n.router.number ++ (n.sig.bytes ++ rest) = append_assoc (to_be_bytes w32 n.router.number) n.sig.bytes rest in
    let router : big_number 4 (to_be_bytes w32 n.router.number ++ (n.sig.bytes ++ rest)) ≡ n.router.number = four_is.again n.router.number (n.sig.bytes ++ rest) plain.router in
    let behind : drop 4 (to_be_bytes w32 n.router.number ++ (n.sig.bytes ++ rest)) ≡ n.sig.bytes ++ rest = drop_at (to_be_bytes w32 n.router.number) (n.sig.bytes ++ rest) 4 (length-bytes_high_first 4 n.router.number) in
    ap node_of whole
    ∙ ap (λ r. made r (take 28 (drop 4 (to_be_bytes w32 n.router.number ++ (n.sig.bytes ++ rest))))) router
    ∙ ap (λ (t : List ℕ). made n.router.number (take 28 t)) behind
    ∙ ap (made n.router.number) (take_at n.sig.bytes rest 28 plain.size)

pub node_is : IsForm node_form IsPlainNode
node_is = record { back = node_back; plain = node_plain; wide = node_wide; again = node_again }

edge_back : (bytes : List ℕ) → 64 ≤ length bytes → AreBytes bytes → spelled_edge (edge_of bytes) ≡ take 64 bytes
edge_back bytes long fits =
    ap (λ (t : List ℕ). t ++ spelled_node (node_of (drop 32 bytes))) (node_back bytes (omega (arith, long)) fits)
    ∙ ap (λ (t : List ℕ). take 32 bytes ++ t) (node_back (drop 32 bytes) (omega (arith, long, length-drop 32 bytes)) (AreBytes-drop 32 bytes fits))
    ∙ sym (take-add 32 32 bytes)

edge_plain : (bytes : List ℕ) → 64 ≤ length bytes → AreBytes bytes → IsPlainEdge (edge_of bytes)
edge_plain bytes long fits = record {
  down = node_plain bytes (omega (arith, long)) fits;
  up = node_plain (drop 32 bytes) (omega (arith, long, length-drop 32 bytes)) (AreBytes-drop 32 bytes fits);
}

edge_wide : (e : Edge) → IsPlainEdge e → length (spelled_edge e) ≡ 64
edge_wide e plain = omega (arith, length-append (spelled_node e.down) (spelled_node e.up), node_wide e.down plain.down, node_wide e.up plain.up)

edge_again : (e : Edge) (rest : List ℕ) → IsPlainEdge e → edge_of (spelled_edge e ++ rest) ≡ e
edge_again e rest plain =
    let made : Node → Node → Edge = λ d u. record { down = d; up = u } in
    let whole : spelled_edge e ++ rest ≡ spelled_node e.down ++ (spelled_node e.up ++ rest) = append_assoc (spelled_node e.down) (spelled_node e.up) rest in
    let down : node_of (spelled_node e.down ++ (spelled_node e.up ++ rest)) ≡ e.down = node_again e.down (spelled_node e.up ++ rest) plain.down in
    let behind : drop 32 (spelled_node e.down ++ (spelled_node e.up ++ rest)) ≡ spelled_node e.up ++ rest = drop_at (spelled_node e.down) (spelled_node e.up ++ rest) 32 (node_wide e.down plain.down) in
    ap edge_of whole
    ∙ ap (λ d. made d (node_of (drop 32 (spelled_node e.down ++ (spelled_node e.up ++ rest))))) down
    ∙ ap (λ (t : List ℕ). made e.down (node_of t)) behind
    ∙ ap (made e.down) (node_again e.up rest plain.up)

pub edge_is : IsForm edge_form IsPlainEdge
edge_is = record { back = edge_back; plain = edge_plain; wide = edge_wide; again = edge_again }
