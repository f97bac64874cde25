-- Steps that have an edge line, one by one.
use Rattle.std.proofs.Common.{◌≡◌, ◌∙◌, ◌<◌, ◌≤◌, ◌↔◌, Bool, false, IsTrue, ℕ, List, length, slice_get, Some, sym, subst, arith}
use Rattle.std.specs.List.{Contains}
use Rattle.std.proofs.lemmas.Bool.{false≢true}
use Rattle.std.proofs.lemmas.Option.{slice_get_within}
use Rattle.reverse_flood.specs.declared.graphs.Node.{Node}
use Rattle.reverse_flood.specs.declared.graphs.Edge.{Edge}
use Rattle.reverse_flood.specs.Flood.{Net, IsStep}
use Rattle.evidence_text.specs.declared.certificates.Named.{Named}
use Rattle.evidence_check.specs.declared.pairs.Pairs.{Pairs}
use Rattle.evidence_check.specs.Pairs.{HasWay, HaveWays, WaysAt}
use Rattle.evidence_check.proofs.Places.{at_place, placed, some_same}

abbrev pub WayAt : Pairs → List Edge → (down : Node) → List Node → ℕ → Type 0
WayAt p edges down steps place = (n : Node) → slice_get steps place ≡ Some n → HasWay p edges down n

module _ (p : Pairs) (edges : List Edge) (down : Node) (steps : List Node) where
  pub way_at : (place : ℕ) (x : Node) → slice_get steps place ≡ Some x → HasWay p edges down x → WayAt p edges down steps place
  way_at place x at is = λ n there. let P : Node → Type 0 = λ m. HasWay p edges down m in subst P (some_same x n (sym at ∙ there)) is

  pub ways_all : (place : ℕ) → length steps ≤ place → ((i : ℕ) → i < place → WayAt p edges down steps i) → HaveWays p edges down (Contains steps)
  ways_all place whole held n h =
      let at = placed steps n h in
      let l : at.0 < length steps = slice_get_within steps at.0 n at.1 in
      held at.0 (omega (arith, l, whole)) n at.1

  pub way_missing : (place : ℕ) (x : Node) (said : Bool) → slice_get steps place ≡ Some x → IsTrue said ↔ HasWay p edges down x → said ≡ false → HaveWays p edges down (Contains steps) → ⊥
  way_missing place x said at is unsaid all = false≢true (sym unsaid ∙ is.1 (all x (at_place steps place x at)))

module _ (net : Net) (p : Pairs) (edges : List Edge) (nodes : List Named) (place : ℕ) (x : Named) (S : Node → Type 0) (at : slice_get nodes place ≡ Some x) (same : (n : Node) → S n ↔ IsStep net x.node n) where
  pub ways_more : HaveWays p edges x.node S → WaysAt net p edges nodes place
  ways_more have = λ y there.
      let P : Named → Type 0 = λ z. HaveWays p edges z.node (IsStep net z.node) in
      let all : HaveWays p edges x.node (IsStep net x.node) = λ n step. let s = same n in have n (s.1 step) in
      subst P (some_same x y (sym at ∙ there)) all

  pub ways_fail : (said : Bool) → IsTrue said ↔ HaveWays p edges x.node S → said ≡ false → WaysAt net p edges nodes place → ⊥
  ways_fail said is unsaid holds = false≢true (sym unsaid ∙ is.1 (λ n has. let s = same n in holds x at n (s.0 has)))
