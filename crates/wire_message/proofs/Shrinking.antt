-- Reading goes from left to right: where it stops, no more bytes are left than there were.
use Rattle.std.proofs.Common.{◌≡◌, ℕ, zero, suc, ◌≤◌, Bool, true, false, cond, leb, eqb, List, length, drop, Option, None, Some, Result, Ok, Err, subst, arith}
use Rattle.std.specs.declared.cmp.Ordering.{Ordering}
use Rattle.std.proofs.lemmas.List.{length-drop}
use Rattle.reverse_flood.specs.Flood.{node_cmp, edge_cmp}
use Rattle.wire_message.specs.declared.messages.Message.{Message}
use Rattle.wire_message.specs.Reading.{◌>>=◌, Form, four_form, eight_form, node_form, edge_form, field_in, is_above, next_in, items_in, list_in, request_at, part_at, reply_at, behind_magic, message_at, whole_at}
use Rattle.wire_message.proofs.ItemFacts.{items_made}
use Rattle.wire_message.proofs.MessageFacts.{request_made, part_made, reply_made, no_request}

abbrev Shrinks : {A : Type 0} → (size : ℕ) → Result (A × List ℕ) ℕ → Type 0
Shrinks size (Ok x) = length x.1 ≤ size
Shrinks size (Err left) = left ≤ size

weaker : {A : Type 0} (small size : ℕ) (r : Result (A × List ℕ) ℕ) → small ≤ size → Shrinks small r → Shrinks size r
weaker small size (Ok x) le h = omega (arith, le, h)
weaker small size (Err left) le h = omega (arith, le, h)

and_then : {A B : Type 0} (size : ℕ) (r : Result (A × List ℕ) ℕ) (f : A × List ℕ → Result (B × List ℕ) ℕ) → Shrinks size r → ((x : A × List ℕ) → Shrinks (length x.1) (f x)) → Shrinks size (r >>= f)
and_then size (Ok x) f h each = weaker (length x.1) size (f x) h (each x)
and_then size (Err left) f h each = h

either : {A : Type 0} (b : Bool) (size : ℕ) (r s : Result (A × List ℕ) ℕ) → Shrinks size r → Shrinks size s → Shrinks size (cond b r s)
either true size r s h k = h
either false size r s h k = k

abbrev stopped : ℕ → Result Message ℕ
stopped left = Err left

err_is : (a b : ℕ) → stopped a ≡ stopped b → a ≡ b
err_is a b e = cc

same : (n : ℕ) → n ≤ n
same n = omega arith

field : {X : Type 0} (form : Form X) (bytes : List ℕ) → Shrinks (length bytes) (field_in form bytes)
field form bytes = either (leb form.size (length bytes)) (length bytes) (Ok (form.of bytes, drop form.size bytes)) (Err (length bytes)) (omega (arith, length-drop form.size bytes)) (same (length bytes))

next : {X : Type 0} (form : Form X) (cmp : X → X → Ordering) (before : Option X) (bytes : List ℕ) → Shrinks (length bytes) (next_in form cmp before bytes)
next {X} form cmp before bytes = tested (field_in form bytes) (field form bytes)
  where
    tested : (r : Result (X × List ℕ) ℕ) → Shrinks (length bytes) r → Shrinks (length bytes) (r >>= λ item. cond (is_above cmp before item.0) (Ok item) (Err (length bytes)))
    tested (Err left) h = h
    tested (Ok item) h = either (is_above cmp before item.0) (length bytes) (Ok item) (Err (length bytes)) h (same (length bytes))

items : {X : Type 0} (form : Form X) (cmp : X → X → Ordering) (count : ℕ) (before : Option X) (bytes : List ℕ) → Shrinks (length bytes) (items_in form cmp count before bytes)
unfolding items_in
items form cmp zero before bytes = same (length bytes)
items form cmp (suc count) before bytes =
    and_then (length bytes) (next_in form cmp before bytes) (λ first. items_in form cmp count (Some first.0) first.1 >>= λ others. Ok (items_made first.0 others)) (next form cmp before bytes)
    (λ first. and_then (length first.1) (items_in form cmp count (Some first.0) first.1) (λ others. Ok (items_made first.0 others)) (items form cmp count (Some first.0) first.1) (λ others. same (length others.1)))

list : {X : Type 0} (form : Form X) (cmp : X → X → Ordering) (bytes : List ℕ) → Shrinks (length bytes) (list_in form cmp bytes)
unfolding list_in
list form cmp bytes = and_then (length bytes) (field_in eight_form bytes) (λ count. items_in form cmp count.0 None count.1) (field eight_form bytes) (λ count. items form cmp count.0 None count.1)

request : (bytes : List ℕ) → Shrinks (length bytes) (request_at bytes)
unfolding request_at
request bytes =
    and_then (length bytes) (field_in eight_form bytes) (λ number. field_in four_form number.1 >>= λ region. list_in node_form node_cmp region.1 >>= λ entries. Ok (request_made number region entries)) (field eight_form bytes)
    (λ a. and_then (length a.1) (field_in four_form a.1) (λ region. list_in node_form node_cmp region.1 >>= λ entries. Ok (request_made a region entries)) (field four_form a.1)
    (λ b. and_then (length b.1) (list_in node_form node_cmp b.1) (λ entries. Ok (request_made a b entries)) (list node_form node_cmp b.1) (λ c. same (length c.1))))

part : (bytes : List ℕ) → Shrinks (length bytes) (part_at bytes)
unfolding part_at
part bytes =
    and_then (length bytes) (list_in node_form node_cmp bytes) (λ nodes. list_in edge_form edge_cmp nodes.1 >>= λ edges. list_in node_form node_cmp edges.1 >>= λ unknown. list_in node_form node_cmp unknown.1 >>= λ clear. list_in edge_form edge_cmp clear.1 >>= λ exits. Ok (part_made nodes edges unknown clear exits)) (list node_form node_cmp bytes)
    (λ a. and_then (length a.1) (list_in edge_form edge_cmp a.1) (λ edges. list_in node_form node_cmp edges.1 >>= λ unknown. list_in node_form node_cmp unknown.1 >>= λ clear. list_in edge_form edge_cmp clear.1 >>= λ exits. Ok (part_made a edges unknown clear exits)) (list edge_form edge_cmp a.1)
    (λ b. and_then (length b.1) (list_in node_form node_cmp b.1) (λ unknown. list_in node_form node_cmp unknown.1 >>= λ clear. list_in edge_form edge_cmp clear.1 >>= λ exits. Ok (part_made a b unknown clear exits)) (list node_form node_cmp b.1)
    (λ c. and_then (length c.1) (list_in node_form node_cmp c.1) (λ clear. list_in edge_form edge_cmp clear.1 >>= λ exits. Ok (part_made a b c clear exits)) (list node_form node_cmp c.1)
    (λ d. and_then (length d.1) (list_in edge_form edge_cmp d.1) (λ exits. Ok (part_made a b c d exits)) (list edge_form edge_cmp d.1) (λ x. same (length x.1))))))

reply : (bytes : List ℕ) → Shrinks (length bytes) (reply_at bytes)
unfolding reply_at
reply bytes =
    and_then (length bytes) (field_in eight_form bytes) (λ number. part_at number.1 >>= λ part. Ok (reply_made number part)) (field eight_form bytes)
    (λ a. and_then (length a.1) (part_at a.1) (λ part. Ok (reply_made a part)) (part a.1) (λ b. same (length b.1)))

behind : (size magic : ℕ) (bytes : List ℕ) → length bytes ≤ size → Shrinks size (behind_magic size magic bytes)
behind size magic bytes h =
    either (eqb magic 0x53505131) size (request_at bytes) (no_request size magic bytes) (weaker (length bytes) size (request_at bytes) h (request bytes))
    (either (eqb magic 0x53505231) size (reply_at bytes) (Err size) (weaker (length bytes) size (reply_at bytes) h (reply bytes)) (same size))

message : (bytes : List ℕ) → Shrinks (length bytes) (message_at bytes)
unfolding message_at
message bytes = by_magic (field_in four_form bytes) (field four_form bytes)
  where
    by_magic : (r : Result (ℕ × List ℕ) ℕ) → Shrinks (length bytes) r → Shrinks (length bytes) (r >>= λ magic. behind_magic (length bytes) magic.0 magic.1)
    by_magic (Err left) h = h
    by_magic (Ok magic) h = behind (length bytes) magic.0 magic.1 h

ended : (size left : ℕ) (r : Result (Message × List ℕ) ℕ) → Shrinks size r → (r >>= λ found. cond (eqb (length found.1) 0) (Ok found.0) (Err (length found.1))) ≡ Err left → left ≤ size
ended size left (Err at) h e = subst (λ (n : ℕ). n ≤ size) (err_is at left e) h
ended size left (Ok found) h e = stopped_at (eqb (length found.1) 0) found.0 (length found.1) h e
  where
    stopped_at : (b : Bool) (value : Message) (rest : ℕ) → rest ≤ size → cond b (Ok value) (Err rest) ≡ Err left → left ≤ size
    stopped_at true value rest le e = absurd cc
    stopped_at false value rest le e = subst (λ (n : ℕ). n ≤ size) (err_is rest left e) le

pub stops_within : (bytes : List ℕ) (left : ℕ) → whole_at bytes ≡ Err left → left ≤ length bytes
unfolding whole_at
stops_within bytes left e = ended (length bytes) left (message_at bytes) (message bytes) e
