-- The lines of nodes, one by one.
use Rattle.std.proofs.Common.{◌≡◌, ◌∙◌, ℕ, zero, suc, ◌+◌, ◌<◌, ◌≤◌, ◌⊎◌, inl, inr, ⊎_elim, ◌↔◌, ◌∷◌, [], Bool, true, false, cond, IsTrue, List, map, take, length, slice_get, Option, Some, None, Result, Ok, Err, IfOk, refl, sym, subst, ap, arith}
use Rattle.std.specs.List.{Contains}
use Rattle.std.proofs.lemmas.Bool.{false≢true}
use Rattle.spie_base.specs.declared.NoMemory.{NoMemory}
use Rattle.topology.specs.declared.limits.TheConstants.{ROUTERS_MOST}
use Rattle.reverse_flood.specs.declared.graphs.Node.{Node}
use Rattle.reverse_flood.specs.Flood.{Net, IsStep}
use Rattle.reverse_flood.specs.Rows.{node_eq}
use Rattle.reverse_flood.proofs.Orders.{same_node, node_laws}
use Rattle.evidence_text.specs.declared.certificates.Named.{Named}
use Rattle.evidence_check.specs.declared.pairs.Pairs.{Pairs}
use Rattle.evidence_check.specs.declared.pairs.Cell.TheVariants as cell
use Rattle.evidence_check.specs.Judging.{IsFrom, IsLed, NodeAt, NodeHolds, named_node}
use Rattle.evidence_check.specs.Pairs.{AreNoted, cell_at, is_node, is_node_cell}
use Rattle.evidence_check.proofs.Places.{before_place, earlier, none_some, some_same}

-- ---- places

pub below_or_at : (i place : ℕ) → i < place + 1 → (i < place) ⊎ (i ≡ place)
below_or_at i zero l = inr (omega (arith, l))
below_or_at zero (suc place) l = inl (omega arith)
below_or_at (suc i) (suc place) l = ⊎_elim (λ a. inl (omega (arith, a))) (λ e. inr (ap suc e)) (below_or_at i place (omega (arith, l)))

pub held_more : (P : ℕ → Type 0) (place : ℕ) → ((i : ℕ) → i < place → P i) → P place → (i : ℕ) → i < place + 1 → P i
held_more P place held here i l = ⊎_elim (λ a. held i a) (λ e. subst P (sym e) here) (below_or_at i place l)

pub taken_at : {X Y : Type 0} (f : X → Y) (xs : List X) (i place : ℕ) (x : X) → i < place → slice_get xs i ≡ Some x → slice_get (take place (map f xs)) i ≡ Some (f x)
taken_at f [] i place x l e = absurd (none_some x e)
taken_at f (y ∷ ys) i zero x l e = let no : ⊥ = omega (arith, l) in absurd no
taken_at {X} {Y} f (y ∷ ys) zero (suc place) x l e = let S : X → Option Y = λ z. Some (f z) in ap S (some_same y x e)
taken_at f (y ∷ ys) (suc i) (suc place) x l e = taken_at f ys i place x (omega (arith, l)) e

pub taken_length : {X Y : Type 0} (f : X → Y) (xs : List X) (place : ℕ) → place ≤ length xs → length (take place (map f xs)) ≡ place
taken_length f [] zero l = refl
taken_length f [] (suc place) l = let no : ⊥ = omega (arith, l) in absurd no
taken_length f (x ∷ xs) zero l = refl
taken_length f (x ∷ xs) (suc place) l = ap suc (taken_length f xs place (omega (arith, l)))

pub taken_all : {X Y : Type 0} (f : X → Y) (xs : List X) (place : ℕ) → place ≡ length xs → take place (map f xs) ≡ map f xs
taken_all f [] zero e = refl
taken_all f [] (suc place) e = refl
taken_all f (x ∷ xs) zero e = let none : ⊥ = omega (arith, e) in absurd none
taken_all {X} {Y} f (x ∷ xs) (suc place) e = let L : List Y → List Y = λ l. f x ∷ l in ap L (taken_all f xs place (omega (arith, e)))

-- ---- one line

pub from_by : (net : Net) (before : List Node) (n : Node) (from : Option ℕ) (place : ℕ) (before_it : Node) (answer : Result Bool NoMemory) → from ≡ Some place → slice_get before place ≡ Some before_it → IfOk answer (λ said. IsTrue said ↔ IsStep net before_it n) → IfOk answer (λ said. IsTrue said ↔ IsFrom net before n from)
from_by net before n from place before_it (Err e) is at h = tt
from_by net before n None place before_it (Ok said) is at h = absurd (none_some place is)
from_by net before n (Some p) place before_it (Ok said) is at h =
    let same : p ≡ place = some_same p place is in
    let here : slice_get before p ≡ Some before_it = ap (slice_get before) same ∙ at in
    let P : Node → Type 0 = λ m. IsStep net m n in (
      (λ t. (before_it, here, h.0 t)),
      (λ f. let who : f.0 ≡ before_it = some_same f.0 before_it (sym f.1 ∙ here) in h.1 (subst P who f.2)),
    )

pub led_by : (net : Net) (start : Node) (before : List Node) (x : Named) (answer : Result Bool NoMemory) → (length before ≡ 0 → ⊥) → IfOk answer (λ said. IsTrue said ↔ IsFrom net before x.node x.from) → IfOk answer (λ said. IsTrue said ↔ IsLed net start before x)
led_by net start [] x answer some h = absurd (some refl)
led_by net start (first ∷ more) x answer some h = h

-- ---- all lines

-- one node more is noted
pub noted_more : (old new : Pairs) (nodes : List Named) (place : ℕ) (x : Named) → slice_get nodes place ≡ Some x → ((n : Node) → n.router.number < ROUTERS_MOST → cell_at new n ≡ cond (node_eq x.node n) cell.Node (cell_at old n)) → AreNoted old (take place (map named_node nodes)) → AreNoted new (take (place + 1) (map named_node nodes))
noted_more old new nodes place x at writes noted n few =
    let Has : Node → Type 0 = λ m. Contains (take (place + 1) (map named_node nodes)) m in
    let by : (b : Bool) → node_eq x.node n ≡ b → (is_node new n ≡ true) ↔ Contains (take (place + 1) (map named_node nodes)) n =
    elim [
      | true ↦ λ e.
          let is : cell_at new n ≡ cell.Node = writes n few ∙ ap (λ b. cond b cell.Node (cell_at old n)) e in
          let has = subst Has (same_node x.node n e) (before_place named_node nodes place (place + 1) x (omega arith) at) in
          ((λ _. has), (λ _. ap is_node_cell is))
      | false ↦ λ e.
          let is : is_node new n ≡ is_node old n = ap is_node_cell (writes n few ∙ ap (λ b. cond b cell.Node (cell_at old n)) e) in
          let was = noted n few in (
            (λ h.
                let i = earlier named_node nodes place n (was.0 (sym is ∙ h)) in
                let below = i.below in
                subst Has i.is (before_place named_node nodes i.before (place + 1) i.item (omega (arith, below)) i.at)),
            (λ h.
                let i = earlier named_node nodes (place + 1) n h in
                let Old : Node → Type 0 = λ m. Contains (take place (map named_node nodes)) m in
                is ∙ was.1 (⊎_elim
                (λ l. subst Old i.is (before_place named_node nodes i.before place i.item l i.at))
                (λ same.
                let who : x ≡ i.item = some_same x i.item (sym at ∙ sym (ap (slice_get nodes) same) ∙ i.at) in
                let it : x.node ≡ n = ap named_node who ∙ i.is in
                let E : Node → Type 0 = λ m. node_eq x.node m ≡ true in
                absurd (false≢true (sym e ∙ subst E it (node_laws.refl x.node))))
                (below_or_at i.before place i.below))),
          )
    ] in
    by (node_eq x.node n) refl

pub node_at_more : (net : Net) (start : Node) (nodes : List Named) (place : ℕ) (x : Named) → slice_get nodes place ≡ Some x → NodeHolds net start (take place (map named_node nodes)) x → NodeAt net start nodes place
node_at_more net start nodes place x at holds = λ y e.
    let P : Named → Type 0 = λ z. NodeHolds net start (take place (map named_node nodes)) z in
    subst P (some_same x y (sym at ∙ e)) holds

pub node_fails : (net : Net) (start : Node) (nodes : List Named) (place : ℕ) (x : Named) (said : Bool) → slice_get nodes place ≡ Some x → IsTrue said ↔ NodeHolds net start (take place (map named_node nodes)) x → said ≡ false → NodeAt net start nodes place → ⊥
node_fails net start nodes place x said at is unsaid holds = false≢true (sym unsaid ∙ is.1 (holds x at))
