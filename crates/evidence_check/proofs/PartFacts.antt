-- The first line that fails, by the parts of an answer.
use Rattle.std.proofs.Common.{ℕ, ◌<◌, true, false, Some, length, refl, arith}
use Rattle.reverse_flood.specs.Flood.{Net}
use Rattle.evidence_text.specs.declared.certificates.Certificate.{Certificate}
use Rattle.evidence_check.specs.Judging.{AllHold, AtClear, AtEdge, AtEnd, AtNode, AtUnknown, EdgeAt, EndHolds, FailsFirst, Holds, LeftAt, NodeAt, Place, line_number, named_nodes}
use Rattle.evidence_check.specs.Lines.{IsFirstBad}

module _ (net : Net) (c : Certificate) where
  -- the parts before hold
  abbrev NodesHold : Type 0
  NodesHold = (place : ℕ) → Holds net c (AtNode place)

  abbrev EdgesHold : Type 0
  EdgesHold = (place : ℕ) → Holds net c (AtEdge place)

  abbrev UnknownHold : Type 0
  UnknownHold = (place : ℕ) → Holds net c (AtUnknown place)

  abbrev ClearHold : Type 0
  ClearHold = (place : ℕ) → Holds net c (AtClear place)

  before_node : (bad : ℕ) → bad < length c.nodes → ((place : ℕ) → place < bad → Holds net c (AtNode place)) → (other : Place) → line_number c other < line_number c (AtNode bad) → Holds net c other
  before_node bad count held (AtNode place) l = held place (omega (arith, l))
  before_node bad count held (AtEdge place) l = let none : ⊥ = omega (arith, l, count) in absurd none
  before_node bad count held (AtUnknown place) l = let none : ⊥ = omega (arith, l, count) in absurd none
  before_node bad count held (AtClear place) l = let none : ⊥ = omega (arith, l, count) in absurd none
  before_node bad count held AtEnd l = let none : ⊥ = omega (arith, l, count) in absurd none

  pub fails_node : (bad : ℕ) → IsFirstBad (length c.nodes) (NodeAt net c.start c.nodes) (Some bad) → FailsFirst net c (line_number c (AtNode bad))
  fails_node bad is = record { place = AtNode bad; fails = is.2; before = before_node bad is.0 is.1; line_is = refl }

  before_edge : (bad : ℕ) → bad < length c.edges → NodesHold → ((place : ℕ) → place < bad → Holds net c (AtEdge place)) → (other : Place) → line_number c other < line_number c (AtEdge bad) → Holds net c other
  before_edge bad count nodes held (AtNode place) l = nodes place
  before_edge bad count nodes held (AtEdge place) l = held place (omega (arith, l))
  before_edge bad count nodes held (AtUnknown place) l = let none : ⊥ = omega (arith, l, count) in absurd none
  before_edge bad count nodes held (AtClear place) l = let none : ⊥ = omega (arith, l, count) in absurd none
  before_edge bad count nodes held AtEnd l = let none : ⊥ = omega (arith, l, count) in absurd none

  pub fails_edge : (bad : ℕ) → NodesHold → IsFirstBad (length c.edges) (EdgeAt net (named_nodes c) c.edges) (Some bad) → FailsFirst net c (line_number c (AtEdge bad))
  fails_edge bad nodes is = record { place = AtEdge bad; fails = is.2; before = before_edge bad is.0 nodes is.1; line_is = refl }

  before_unknown : (bad : ℕ) → bad < length c.unknown → NodesHold → EdgesHold → ((place : ℕ) → place < bad → Holds net c (AtUnknown place)) → (other : Place) → line_number c other < line_number c (AtUnknown bad) → Holds net c other
  before_unknown bad count nodes edges held (AtNode place) l = nodes place
  before_unknown bad count nodes edges held (AtEdge place) l = edges place
  before_unknown bad count nodes edges held (AtUnknown place) l = held place (omega (arith, l))
  before_unknown bad count nodes edges held (AtClear place) l = let none : ⊥ = omega (arith, l, count) in absurd none
  before_unknown bad count nodes edges held AtEnd l = let none : ⊥ = omega (arith, l, count) in absurd none

  pub fails_unknown : (bad : ℕ) → NodesHold → EdgesHold → IsFirstBad (length c.unknown) (LeftAt net c.start (named_nodes c) true c.unknown) (Some bad) → FailsFirst net c (line_number c (AtUnknown bad))
  fails_unknown bad nodes edges is = record { place = AtUnknown bad; fails = is.2; before = before_unknown bad is.0 nodes edges is.1; line_is = refl }

  before_clear : (bad : ℕ) → bad < length c.clear → NodesHold → EdgesHold → UnknownHold → ((place : ℕ) → place < bad → Holds net c (AtClear place)) → (other : Place) → line_number c other < line_number c (AtClear bad) → Holds net c other
  before_clear bad count nodes edges unknown held (AtNode place) l = nodes place
  before_clear bad count nodes edges unknown held (AtEdge place) l = edges place
  before_clear bad count nodes edges unknown held (AtUnknown place) l = unknown place
  before_clear bad count nodes edges unknown held (AtClear place) l = held place (omega (arith, l))
  before_clear bad count nodes edges unknown held AtEnd l = let none : ⊥ = omega (arith, l, count) in absurd none

  pub fails_clear : (bad : ℕ) → NodesHold → EdgesHold → UnknownHold → IsFirstBad (length c.clear) (LeftAt net c.start (named_nodes c) false c.clear) (Some bad) → FailsFirst net c (line_number c (AtClear bad))
  fails_clear bad nodes edges unknown is = record { place = AtClear bad; fails = is.2; before = before_clear bad is.0 nodes edges unknown is.1; line_is = refl }

  pub all_hold_by : NodesHold → EdgesHold → UnknownHold → ClearHold → EndHolds net c → AllHold net c
  all_hold_by nodes edges unknown clear end (AtNode place) = nodes place
  all_hold_by nodes edges unknown clear end (AtEdge place) = edges place
  all_hold_by nodes edges unknown clear end (AtUnknown place) = unknown place
  all_hold_by nodes edges unknown clear end (AtClear place) = clear place
  all_hold_by nodes edges unknown clear end AtEnd = end

  before_end : NodesHold → EdgesHold → UnknownHold → ClearHold → (other : Place) → line_number c other < line_number c AtEnd → Holds net c other
  before_end nodes edges unknown clear (AtNode place) l = nodes place
  before_end nodes edges unknown clear (AtEdge place) l = edges place
  before_end nodes edges unknown clear (AtUnknown place) l = unknown place
  before_end nodes edges unknown clear (AtClear place) l = clear place
  before_end nodes edges unknown clear AtEnd l = let none : ⊥ = omega (arith, l) in absurd none

  pub fails_end : NodesHold → EdgesHold → UnknownHold → ClearHold → (EndHolds net c → ⊥) → FailsFirst net c (line_number c AtEnd)
  fails_end nodes edges unknown clear fails = record { place = AtEnd; fails = fails; before = before_end nodes edges unknown clear; line_is = refl }
