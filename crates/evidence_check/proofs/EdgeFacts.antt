-- The lines of edges, one by one.
use Rattle.std.proofs.Common.{◌≡◌, ◌∙◌, ℕ, ◌<◌, ◌↔◌, Bool, false, IsTrue, List, slice_get, Some, sym, subst}
use Rattle.std.proofs.lemmas.Bool.{false≢true}
use Rattle.topology.specs.declared.limits.TheConstants.{ROUTERS_MOST}
use Rattle.reverse_flood.specs.declared.graphs.Node.{Node}
use Rattle.reverse_flood.specs.declared.graphs.Edge.{Edge}
use Rattle.reverse_flood.specs.Flood.{Net, edge_cmp}
use Rattle.evidence_check.specs.declared.pairs.Pairs.{Pairs}
use Rattle.evidence_check.specs.Judging.{EdgeAt, EdgeHolds, IsAbove}
use Rattle.evidence_check.specs.Pairs.{AreNoted, IsWayIn}
use Rattle.evidence_check.proofs.Places.{some_same}

module _ (net : Net) (p : Pairs) (nodes : List Node) (edges : List Edge) (place : ℕ) (e : Edge) (at : slice_get edges place ≡ Some e) where
  pub edge_more : e.down.router.number < ROUTERS_MOST → e.up.router.number < ROUTERS_MOST → AreNoted p nodes → IsAbove edge_cmp edges place e → IsWayIn net p e → EdgeAt net nodes edges place
  edge_more down up noted above way = λ other there.
      let P : Edge → Type 0 = λ x. EdgeHolds net nodes edges place x in
      let d = noted e.down down in
      let u = noted e.up up in
      subst P (some_same e other (sym at ∙ there)) (record { above = above; down = d.0 way.down; up = u.0 way.up; step = way.step })

  pub edge_low : (said : Bool) → IsTrue said ↔ IsAbove edge_cmp edges place e → said ≡ false → EdgeAt net nodes edges place → ⊥
  edge_low said is unsaid holds = let h = holds e at in false≢true (sym unsaid ∙ is.1 h.above)

  pub edge_unfit : (said : Bool) → e.down.router.number < ROUTERS_MOST → e.up.router.number < ROUTERS_MOST → AreNoted p nodes → IsTrue said ↔ IsWayIn net p e → said ≡ false → EdgeAt net nodes edges place → ⊥
  edge_unfit said down up noted is unsaid holds =
      let h = holds e at in
      let d = noted e.down down in
      let u = noted e.up up in
      false≢true (sym unsaid ∙ is.1 (record { down = d.1 h.down; up = u.1 h.up; step = h.step }))
