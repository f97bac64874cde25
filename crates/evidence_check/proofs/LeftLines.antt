-- What is known of pairs decides the lines of those that are no hit.
use Rattle.std.proofs.Common.{◌≡◌, ◌∙◌, ◌<◌, ◌↔◌, inr, ⊎_elim, Bool, true, false, ℕ, List, refl, sym}
use Rattle.std.proofs.lemmas.Bool.{false≢true}
use Rattle.topology.specs.declared.limits.TheConstants.{ROUTERS_MOST}
use Rattle.reverse_flood.specs.declared.graphs.Node.{Node}
use Rattle.reverse_flood.specs.Flood.{Net}
use Rattle.evidence_check.specs.declared.pairs.Pairs.{Pairs}
use Rattle.evidence_check.specs.Judging.{IsAskedBy, LeftAt, LeftHolds}
use Rattle.evidence_check.specs.Lines.{Exist}
use Rattle.evidence_check.specs.Pairs.{AreAsked, AreHit, Asks, IsFresh, LeftAtIn, LeftHoldsIn, is_node}
use Rattle.evidence_check.proofs.Places.{at_place}

asked_are : (net : Net) (start : Node) (nodes : List Node) (before p : Pairs) → IsFresh before → Asks (IsAskedBy net start nodes) before p → AreAsked net start nodes p
asked_are net start nodes before p fresh asks n few none =
    let a = asks.asked n few (sym (asks.nodes n few) ∙ none) in (
      (λ h. ⊎_elim (λ was. absurd (false≢true (sym (fresh n few) ∙ was))) (λ is. is) (a.0 h)),
      (λ is. a.1 (inr is)),
    )

no_node : (net : Net) (p : Pairs) (n : Node) → AreHit net p → n.router.number < ROUTERS_MOST → net.hit n ≡ false → is_node p n ≡ false
no_node net p n hit few unseen =
    let by : (b : Bool) → is_node p n ≡ b → is_node p n ≡ false =
    elim [
      | true ↦ λ e. absurd (false≢true (sym unseen ∙ hit n few e))
      | false ↦ λ e. e
    ] in
    by (is_node p n) refl

pub left_lines : (net : Net) (start : Node) (nodes : List Node) (before p : Pairs) (misses : Bool) (left : List Node) (place : ℕ) → IsFresh before → Asks (IsAskedBy net start nodes) before p → AreHit net p → Exist ROUTERS_MOST left → LeftAtIn net p misses left place ↔ LeftAt net start nodes misses left place
left_lines net start nodes before p misses left place fresh asks hit exist =
    let asked = asked_are net start nodes before p fresh asks in (
      (λ holds. λ n at.
          let h : LeftHoldsIn net p misses left place n = holds n at in
          let few = exist n (at_place left place n at) in
          let a = asked n few (no_node net p n hit few h.is.unseen) in
          record { above = h.above; unseen = h.is.unseen; missing = h.is.missing; asked = a.0 h.is.asked }),
      (λ holds. λ n at.
          let h : LeftHolds net start nodes misses left place n = holds n at in
          let few = exist n (at_place left place n at) in
          let a = asked n few (no_node net p n hit few h.unseen) in
          record { above = h.above; is = record { unseen = h.unseen; missing = h.missing; asked = a.1 h.asked } }),
    )
