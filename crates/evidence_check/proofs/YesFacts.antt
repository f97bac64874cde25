-- What a verdict says.
use Rattle.std.proofs.Common.{◌≡◌, ◌∙◌, ◌↔◌, ℕ, ◌<◌, IsTrue, refl, sym, ap, arith}
use Rattle.std.proofs.lemmas.Bool.{false≢true}
use Rattle.reverse_flood.specs.Flood.{IsFlood, Net}
use Rattle.reverse_flood.specs.declared.graphs.Graph.{Graph}
use Rattle.reverse_flood.proofs.Unique.{flood_same}
use Rattle.evidence_text.specs.declared.certificates.Certificate.{Certificate}
use Rattle.evidence_check.specs.declared.verdicts.Verdict.{Verdict}
use Rattle.evidence_check.specs.declared.verdicts.Verdict.TheVariants.{Yes, No}
use Rattle.evidence_check.specs.Answer.{Certifies}
use Rattle.evidence_check.specs.Checking.{IsJudged, is_yes}
use Rattle.evidence_check.specs.Evidence.{stated_net}
use Rattle.evidence_check.specs.Judging.{FailsFirst}
use Rattle.evidence_check.specs.Laws.{HasLists}
use Rattle.evidence_check.proofs.Certified.{all_hold}

-- where a line fails, the lists are not those of the flood
fails_none : (net : Net) (c : Certificate) (line : ℕ) → FailsFirst net c line → Certifies net c → ⊥
fails_none net c line first is = first.fails (all_hold net c is first.place)

pub yes_certifies : (c : Certificate) (v : Verdict) → IsJudged c v → IsTrue (is_yes v) ↔ Certifies (stated_net c) c
yes_certifies c (Yes nodes edges unknown clear) is = ((λ yes. is.certifies), (λ certifies. refl))
yes_certifies c (No line) is = ((λ yes. absurd (false≢true yes)), (λ certifies. absurd (fails_none (stated_net c) c line is certifies)))

-- a line that fails is not before the first
not_before : (net : Net) (c : Certificate) (one other : ℕ) → FailsFirst net c one → FailsFirst net c other → one < other → ⊥
not_before net c one other f g l =
    let fe = f.line_is in
    let ge = g.line_is in
    f.fails (g.before f.place (omega (arith, l, fe, ge)))

first_once : (net : Net) (c : Certificate) (one other : ℕ) → FailsFirst net c one → FailsFirst net c other → one ≡ other
first_once net c one other f g =
    let a : one < other → ⊥ = not_before net c one other f g in
    let b : other < one → ⊥ = not_before net c other one g f in
    omega (arith, a, b)

pub same_verdict : (c : Certificate) (one other : Verdict) → IsJudged c one → IsJudged c other → one ≡ other
same_verdict c (Yes n e u k) (Yes n' e' u' k') is also =
    ap (λ x. Yes x e u k) (is.nodes_are ∙ sym also.nodes_are)
    ∙ ap (λ x. Yes n' x u k) (is.edges_are ∙ sym also.edges_are)
    ∙ ap (λ x. Yes n' e' x k) (is.unknown_are ∙ sym also.unknown_are)
    ∙ ap (λ x. Yes n' e' u' x) (is.clear_are ∙ sym also.clear_are)
same_verdict c (Yes n e u k) (No line) is also = absurd (fails_none (stated_net c) c line also is.certifies)
same_verdict c (No line) (Yes n e u k) is also = absurd (fails_none (stated_net c) c line is also.certifies)
same_verdict c (No line) (No line') is also = ap (λ x. No x) (first_once (stated_net c) c line line' is also)

-- with the nodes of a flood the other lists make one
pub flood_lists : (net : Net) (c : Certificate) (graph : Graph) → Certifies net c → IsFlood net c.start graph → HasLists c graph
flood_lists net c graph is flood =
    let mine : Graph = record { nodes = graph.nodes; edges = c.edges; unknown = c.unknown; clear = c.clear } in
    let same : mine ≡ graph = flood_same net c.start mine graph (record { nodes = flood.nodes; edges = is.edges; unknown = is.unknown; clear = is.clear }) flood in
    record {
      nodes = λ n.
          let a = is.nodes n in
          let b = flood.nodes.same n in ((λ h. b.1 (a.0 h)), (λ h. a.1 (b.0 h)));
      edges = ap (λ (g : Graph). g.edges) same;
      unknown = ap (λ (g : Graph). g.unknown) same;
      clear = ap (λ (g : Graph). g.clear) same;
    }
