-- Pairs that stand in a line, one by one.
use Rattle.std.proofs.Common.{◌≡◌, ◌∙◌, ◌+◌, ◌<◌, ◌≤◌, ◌↔◌, inr, ⊎_elim, true, false, ℕ, List, length, map, slice_get, Some, sym, subst, arith}
use Rattle.std.specs.List.{Contains}
use Rattle.std.proofs.lemmas.Bool.{false≢true}
use Rattle.std.proofs.lemmas.Option.{slice_get_within}
use Rattle.spie_base.proofs.Membership.{into_map}
use Rattle.reverse_flood.specs.declared.graphs.Node.{Node}
use Rattle.reverse_flood.specs.Flood.{Net, IsStep}
use Rattle.evidence_text.specs.declared.certificates.Named.{Named}
use Rattle.evidence_check.specs.declared.pairs.Pairs.{Pairs}
use Rattle.evidence_check.specs.Judging.{IsAskedBy, named_node}
use Rattle.evidence_check.specs.Pairs.{AreListed, is_listed}
use Rattle.evidence_check.proofs.Places.{at_place, placed, some_same}
use Rattle.evidence_check.proofs.WalkFacts.{IsAskedTo, asked_more}

-- those before a place are listed
abbrev pub ListedAt : Pairs → List Node → ℕ → Type 0
ListedAt p steps place = (n : Node) → slice_get steps place ≡ Some n → is_listed p n ≡ true

pub listed_at : (p : Pairs) (steps : List Node) (place : ℕ) (x : Node) → slice_get steps place ≡ Some x → is_listed p x ≡ true → ListedAt p steps place
listed_at p steps place x at is = λ n there. let P : Node → Type 0 = λ m. is_listed p m ≡ true in subst P (some_same x n (sym at ∙ there)) is

pub listed_all : (p : Pairs) (steps : List Node) (place : ℕ) → length steps ≤ place → ((i : ℕ) → i < place → ListedAt p steps i) → AreListed p (Contains steps)
listed_all p steps place whole listed n h =
    let at = placed steps n h in
    let l : at.0 < length steps = slice_get_within steps at.0 n at.1 in
    listed at.0 (omega (arith, l, whole)) n at.1

pub unlisted : (p : Pairs) (steps : List Node) (place : ℕ) (x : Node) → slice_get steps place ≡ Some x → is_listed p x ≡ false → AreListed p (Contains steps) → ⊥
unlisted p steps place x at missing all = false≢true (sym missing ∙ all x (at_place steps place x at))

pub listed_more : (net : Net) (p : Pairs) (start : Node) (nodes : List Named) (place : ℕ) (x : Named) (S : Node → Type 0) → slice_get nodes place ≡ Some x → ((n : Node) → S n ↔ IsStep net x.node n) → AreListed p S → AreListed p (IsAskedTo net start nodes place) → AreListed p (IsAskedTo net start nodes (place + 1))
listed_more net p start nodes place x S at same here before n asked =
    let m = asked_more net start nodes place x S at same n in
    ⊎_elim (λ was. before n was) (λ has. here n has) (m.0 asked)

-- the steps from one node are asked by all
pub steps_listed : (net : Net) (p : Pairs) (start : Node) (nodes : List Named) (place : ℕ) (x : Named) (S : Node → Type 0) → slice_get nodes place ≡ Some x → ((n : Node) → S n ↔ IsStep net x.node n) → AreListed p (IsAskedBy net start (map named_node nodes)) → AreListed p S
steps_listed net p start nodes place x S at same all n has =
    let s = same n in
    all n (inr (record { from = x.node; node = into_map named_node nodes x (at_place nodes place x at); step = s.0 has }))
