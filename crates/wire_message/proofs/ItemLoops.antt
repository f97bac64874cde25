-- Reading items one after the other, as a loop does.
use Rattle.std.proofs.Common.{◌≡◌, ℕ, suc, ◌-◌, ◌+◌, ◌≤◌, ◌<◌, List, [], ◌∷◌, ◌++◌, Option, Some, Result, Ok, Err, refl, sym, ap, ◌∙◌, append_assoc, arith}
use Rattle.std.specs.declared.cmp.Ordering.{Ordering}
use Rattle.std.proofs.lemmas.List.{append-nil}
use Rattle.wire_message.specs.declared.stop.Stop.{Stop}
use Rattle.wire_message.specs.declared.stop.Stop.TheVariants as stops
use Rattle.wire_message.specs.Reading.{◌>>=◌, Form, Stops, next_in, items_in}

-- what was read before, and what is still read
abbrev pub with_front : {X : Type 0} → List X → Result (List X × List ℕ) ℕ → Result (List X × List ℕ) ℕ
with_front front read = read >>= λ x. Ok (front ++ x.0, x.1)

regroup : {X : Type 0} (front : List X) (item : X) (read : Result (List X × List ℕ) ℕ) → with_front front (read >>= λ x. Ok (item ∷ x.0, x.1)) ≡ with_front (front ++ item ∷ []) read
regroup {X} front item (Ok x) = ap (λ (items : List X). Ok (items, x.1)) (simp append_assoc)
regroup front item (Err left) = refl

pub goes_on : {X : Type 0} (form : Form X) (cmp : X → X → Ordering) (front : List X) (count i : ℕ) (before : Option X) (bytes : List ℕ) (item : X) (after : List ℕ) (total : Result (List X × List ℕ) ℕ) → i < count
    → next_in form cmp before bytes ≡ Ok (item, after) → with_front front (items_in form cmp (count - i) before bytes) ≡ total → with_front (front ++ item ∷ []) (items_in form cmp (count - (i + 1)) (Some item) after) ≡ total
unfolding items_in
goes_on form cmp front count i before bytes item after total lt h so_far =
    let k : count - i ≡ suc (count - (i + 1)) = omega arith in
    let one : with_front front (items_in form cmp (count - i) before bytes) ≡ with_front (front ++ item ∷ []) (items_in form cmp (count - (i + 1)) (Some item) after) =
    rw (k, h) (regroup front item (items_in form cmp (count - (i + 1)) (Some item) after)) in
    sym one ∙ so_far

pub ends : {X : Type 0} (e : Stop) (form : Form X) (cmp : X → X → Ordering) (front : List X) (count i : ℕ) (before : Option X) (bytes : List ℕ) (total : Result (List X × List ℕ) ℕ) → i < count
    → Stops e (next_in form cmp before bytes) → with_front front (items_in form cmp (count - i) before bytes) ≡ total → Stops e total
unfolding items_in
ends stops.NoMemory form cmp front count i before bytes total lt h so_far = tt
ends (stops.At left) form cmp front count i before bytes total lt h so_far =
    let k : count - i ≡ suc (count - (i + 1)) = omega arith in
    let one : with_front front (items_in form cmp (count - i) before bytes) ≡ Err left = rw (k, h) refl in
    sym so_far ∙ one

pub is_done : {X : Type 0} (form : Form X) (cmp : X → X → Ordering) (front : List X) (count i : ℕ) (before : Option X) (bytes : List ℕ) (total : Result (List X × List ℕ) ℕ) → count ≤ i
    → with_front front (items_in form cmp (count - i) before bytes) ≡ total → total ≡ Ok (front, bytes)
unfolding items_in
is_done {X} form cmp front count i before bytes total le so_far =
    let k : count - i ≡ 0 = omega arith in
    let one : with_front front (items_in form cmp (count - i) before bytes) ≡ Ok (front, bytes) = rw k (ap (λ (items : List X). Ok (items, bytes)) (append-nil front)) in
    sym so_far ∙ one
