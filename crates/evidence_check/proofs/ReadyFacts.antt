-- What the form of a certificate gives to whoever judges it.
use Rattle.std.proofs.Common.{◌≡◌, ℕ, List, Option, None, Some, length, refl, sym, subst, ap, arith}
use Rattle.std.proofs.lemmas.List.Elements.{All-contains}
use Rattle.reverse_flood.specs.Flood.{net_of}
use Rattle.bloom_page.specs.Sets.{PageSet}
use Rattle.evidence_text.specs.Judgeable.{IsJudgeable, IsKnownEdge, IsKnownLink, IsKnownNode, IsKnownPair, IsPage, IsRouterAt}
use Rattle.evidence_text.specs.declared.certificates.Certificate.{Certificate}
use Rattle.evidence_text.specs.declared.certificates.RouterPages.{RouterPages}
use Rattle.evidence_check.specs.declared.verdicts.Verdict.{Verdict}
use Rattle.evidence_check.specs.declared.verdicts.Verdict.TheVariants.{No, Yes}
use Rattle.evidence_check.specs.Checking.{IsJudged}
use Rattle.evidence_check.specs.Evidence.{stated_links, stated_net, stated_sight}
use Rattle.evidence_check.specs.Firsts.{AreRouters, Finds, IsFirstFailing, failing_place}
use Rattle.evidence_check.specs.declared.failing.Failing.{Failing}
use Rattle.evidence_check.specs.Judging.{AllHold, FailsFirst, line_number}
use Rattle.evidence_check.specs.Sights.{AreShaped}
use Rattle.evidence_check.proofs.Certified.{certified}
use Rattle.evidence_check.proofs.NearFacts.{links_exist}
use Rattle.evidence_check.proofs.Places.{placed}

module _ (c : Certificate) where
  pub shaped : IsJudgeable c → AreShaped c.routers
  shaped is = λ r has.
      let at = placed c.routers r has in
      let known : IsRouterAt at.0 r = is.routers at.0 r at.1 in
      record {
        shape = known.in_range;
        sizes = λ e in_it. let page : IsPage r.shape.n e = All-contains (IsPage r.shape.n) r.pages e known.pages in_it in ap (λ (s : PageSet). s.n) page.bits;
      }

  pub routers_are : IsJudgeable c → AreRouters (length c.routers) c
  routers_are is =
      let count : ℕ = length c.routers in
      record {
        few = is.few;
        start = is.start.0;
        nodes = λ x has. let h : IsKnownNode count x = All-contains (IsKnownNode count) c.nodes x is.nodes has in h.0.0;
        edges = record {
          down = λ e has. let h : IsKnownEdge count e = All-contains (IsKnownEdge count) c.edges e is.edges has in h.0.0;
          up = λ e has. let h : IsKnownEdge count e = All-contains (IsKnownEdge count) c.edges e is.edges has in h.1.0;
        };
        unknown = λ n has. let h : IsKnownPair count n = All-contains (IsKnownPair count) c.unknown n is.unknown has in h.0;
        clear = λ n has. let h : IsKnownPair count n = All-contains (IsKnownPair count) c.clear n is.clear has in h.0;
        links = links_exist count c.links (λ l has. let h : IsKnownLink count l = All-contains (IsKnownLink count) c.links l is.links has in (omega (arith, h.0, h.1), h.1));
      }

  pub accepts : (verdict : Verdict) (sights : List RouterPages) → verdict ≡ Yes (length c.nodes) (length c.edges) (length c.unknown) (length c.clear) → sights ≡ c.routers → (found : Option Failing) → found ≡ None → Finds (net_of stated_sight sights (stated_links c.links)) c (AllHold (net_of stated_sight sights (stated_links c.links)) c) found → IsJudged c verdict
  accepts verdict sights is same found none all =
      let P : List RouterPages → Type 0 = λ s. AllHold (net_of stated_sight s (stated_links c.links)) c in
      let F : Option Failing → Type 0 = λ f. Finds (net_of stated_sight sights (stated_links c.links)) c (P sights) f in
      let held : P sights = subst F none all in
      let J : Verdict → Type 0 = λ v. IsJudged c v in
      subst J (sym is) (record { certifies = certified (stated_net c) c (subst P same held); nodes_are = refl; edges_are = refl; unknown_are = refl; clear_are = refl })

  pub refuses : (line : ℕ) (sights : List RouterPages) (f : Failing) → sights ≡ c.routers → (found : Option Failing) → found ≡ Some f → Finds (net_of stated_sight sights (stated_links c.links)) c (AllHold (net_of stated_sight sights (stated_links c.links)) c) found → line ≡ line_number c (failing_place f) → IsJudged c (No line)
  refuses line sights f same found some finds is =
      let P : List RouterPages → Type 0 = λ s. IsFirstFailing (net_of stated_sight s (stated_links c.links)) c f in
      let F : Option Failing → Type 0 = λ o. Finds (net_of stated_sight sights (stated_links c.links)) c (AllHold (net_of stated_sight sights (stated_links c.links)) c) o in
      let failing : P sights = subst F some finds in
      let first : P c.routers = subst P same failing in
      let L : ℕ → Type 0 = λ l. FailsFirst (stated_net c) c l in
      subst L (sym is) first.first
