-- The first line that fails, part by part. No public clause cites this module.
use Rattle.std.specs.Prelude.{ℕ, ◌<◌, ◌≤◌, length}
use Rattle.std.specs.declared.option.Option.{Option}
use Rattle.std.specs.declared.option.Option.TheVariants.{None, Some}
use Rattle.topology.specs.declared.limits.TheConstants.{ROUTERS_MOST}
use Rattle.reverse_flood.specs.Flood.{Net}
use Rattle.evidence_text.specs.declared.certificates.Certificate.{Certificate}
use Rattle.evidence_check.specs.declared.failing.Failing.{Failing}
use Rattle.evidence_check.specs.declared.failing.Failing.TheVariants as failing
use Rattle.evidence_check.specs.Judging.{AtClear, AtEdge, AtEnd, AtNode, AtUnknown, FailsFirst, Holds, Place, line_number}
use Rattle.evidence_check.specs.Lines.{Exist, ExistEnds, ExistNamed}
use Rattle.evidence_check.specs.Steps.{LinksExist}

-- ---- one line

abbrev pub failing_place : Failing → Place
failing_place (failing.Node place) = AtNode place
failing_place (failing.Edge place) = AtEdge place
failing_place (failing.Unknown place) = AtUnknown place
failing_place (failing.Clear place) = AtClear place
failing_place failing.End = AtEnd

-- there is such a line
abbrev pub IsThere : Certificate → Failing → Type 0
IsThere c (failing.Node place) = place < length c.nodes
IsThere c (failing.Edge place) = place < length c.edges
IsThere c (failing.Unknown place) = place < length c.unknown
IsThere c (failing.Clear place) = place < length c.clear
IsThere c failing.End = Unit {0}

pub record IsFirstFailing (net : Net) (c : Certificate) (f : Failing) : Type 0 where
  pub there : IsThere c f
  pub first : FailsFirst net c (line_number c (failing_place f))

-- the lines of a part hold, or this one is the first of all that fails
abbrev pub Finds : Net → Certificate → (PartHolds : Type 0) → Option Failing → Type 0
Finds net c PartHolds None = PartHolds
Finds net c PartHolds (Some f) = IsFirstFailing net c f

-- ---- parts

abbrev pub NodesHold : Net → Certificate → Type 0
NodesHold net c = (place : ℕ) → Holds net c (AtNode place)

abbrev pub EdgesHold : Net → Certificate → Type 0
EdgesHold net c = (place : ℕ) → Holds net c (AtEdge place)

pub record LeftHold (net : Net) (c : Certificate) : Type 0 where
  pub unknown : (place : ℕ) → Holds net c (AtUnknown place)
  pub clear : (place : ℕ) → Holds net c (AtClear place)

-- ---- routers

-- the routers that a certificate names exist
pub record AreRouters (routers : ℕ) (c : Certificate) : Type 0 where
  pub few : routers ≤ ROUTERS_MOST
  pub start : c.start.router.number < routers
  pub nodes : ExistNamed routers c.nodes
  pub edges : ExistEnds routers c.edges
  pub unknown : Exist routers c.unknown
  pub clear : Exist routers c.clear
  pub links : LinksExist routers c.links
