-- When the last line holds.
use Rattle.std.proofs.Common.{◌≡◌, ◌∙◌, ◌↔◌, inl, inr, ℕ, sym, subst}
use Rattle.spie_base.proofs.Membership.{from_map, into_map}
use Rattle.reverse_flood.specs.declared.graphs.Node.{Node}
use Rattle.reverse_flood.specs.Flood.{Net, IsStep}
use Rattle.evidence_text.specs.declared.certificates.Certificate.{Certificate}
use Rattle.evidence_check.specs.declared.pairs.Pairs.{Pairs}
use Rattle.evidence_check.specs.Judging.{EndHolds, IsAskedBy, named_node, named_nodes}
use Rattle.evidence_check.specs.Pairs.{AreFew, AreKept, AreListed, AreNoted, HaveWays, WaysAt, is_node}
use Rattle.evidence_check.proofs.ListedFacts.{listed_decided}
use Rattle.evidence_check.proofs.Places.{at_place, placed}

-- the nodes are noted still
noted_still : (net : Net) (c : Certificate) (p : Pairs) → AreKept net c.start (named_nodes c) c.unknown c.clear p → AreNoted p (named_nodes c)
noted_still net c p kept n few =
    let same : is_node p n ≡ is_node kept.named n = kept.clear_told.nodes n few ∙ kept.unknown_told.nodes n few ∙ kept.asks.nodes n few in
    let noted = kept.noted n few in
    ((λ h. noted.0 (sym same ∙ h)), (λ h. same ∙ noted.1 h))

pub end_decided : (net : Net) (c : Certificate) (p : Pairs) → AreFew net c.start (named_nodes c) → AreKept net c.start (named_nodes c) c.unknown c.clear p → (AreListed p (IsAskedBy net c.start (named_nodes c)) × ((place : ℕ) → WaysAt net p c.edges c.nodes place)) ↔ EndHolds net c
end_decided net c p few kept = (
  (λ is. record {
    told = λ n asked. let d = listed_decided net c.start (named_nodes c) c.unknown c.clear p kept n (few n (inl asked)) in d.0 (is.0 n asked);
    edges = λ e down up step.
        let i = from_map named_node c.nodes e.down down in
        let at = placed c.nodes i.of i.has in
        let From : Node → Type 0 = λ m. HaveWays p c.edges m (IsStep net m) in
        let ways : HaveWays p c.edges e.down (IsStep net e.down) = subst From i.is (is.1 at.0 i.of at.1) in
        let noted = noted_still net c p kept e.up (few e.up (inr up)) in
        ways e.up step (noted.1 up);
  }),
  (λ (end : EndHolds net c). (
    (λ n asked. let d = listed_decided net c.start (named_nodes c) c.unknown c.clear p kept n (few n (inl asked)) in d.1 (end.told n asked)),
    (λ place x at n step node.
        let down = into_map named_node c.nodes x (at_place c.nodes place x at) in
        let noted = noted_still net c p kept n (few n (inl (inr (record { from = x.node; node = down; step = step })))) in
        end.edges (record { down = x.node; up = n }) down (noted.0 node) step),
  )),
)
