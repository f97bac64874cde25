-- What a certificate says is in its ranges and in its order.
use Rattle.std.proofs.Common.{ℕ, ◌≡◌, ◌≤◌, List, [], ◌∷◌, length, ap, sym, ◌∙◌, subst, arith, true}
use Rattle.std.proofs.lemmas.Bool.{eqb-true}
use Rattle.std.proofs.lemmas.List.Elements.{All-weaker}
use Rattle.std.specs.List.{All}
use Rattle.std.specs.declared.option.Option.{Option}
use Rattle.std.specs.declared.option.Option.TheVariants.{None, Some}
use Rattle.line_text.proofs.Readings.{along, few_lines}
use Rattle.line_text.specs.Language.{how_many}
use Rattle.line_text.specs.Text.{lines}
use Rattle.reverse_flood.specs.declared.graphs.Node.{Node}
use Rattle.topology.specs.declared.limits.TheConstants.{ROUTERS_MOST}
use Rattle.evidence_text.proofs.Holding.{Holds, IsSome, Started, Whole, IsLinkIn, IsNamedIn, IsEdgeIn, heads, over_is}
use Rattle.evidence_text.proofs.HoldingLines.{at_first, holds}
use Rattle.evidence_text.proofs.RouterFacts.{router_by_place}
use Rattle.evidence_text.specs.Judgeable.{IsJudgeable, IsKnownLink}
use Rattle.evidence_text.specs.Language.{IsCertificate, certificates, certificate_of, most_bytes, links_of, start_of, routers_of, nodes_of, edges_of, unknown_of, clear_of}
use Rattle.evidence_text.specs.Order.{stage_of, count_of, routers_told, is_count}
use Rattle.evidence_text.specs.Said.{Said}
use Rattle.evidence_text.specs.Spelling.{IsPair}
use Rattle.evidence_text.specs.declared.certificates.Certificate.{Certificate}
use Rattle.evidence_text.specs.declared.words.Stage.{Stage}
use Rattle.evidence_text.specs.declared.words.Stage.TheVariants as stage

count_is : (c : Option ℕ) (told : ℕ) → is_count c told ≡ true → c ≡ Some told
count_is None told e = absurd (cc)
count_is (Some count) told e = ap (λ k. Some k) (eqb-true count told e)

over_whole : (s : Stage) (c : Option ℕ) (told : ℕ) → s ≡ stage.Over → Whole s c told → is_count c told ≡ true
over_whole s c told e h = let P : Stage → Type 0 = λ z. Whole z c told in subst P e h

over_start : (s : Stage) (c : Option ℕ) (n : Node) → s ≡ stage.Over → Started s c n → IsPair c n
over_start s c n e h = let P : Stage → Type 0 = λ z. Started z c n in subst P e h

ranges : (c : Option ℕ) (count : ℕ) → c ≡ Some count → IsSome c → (1 ≤ count) × (count ≤ ROUTERS_MOST)
ranges c count e h = let P : Option ℕ → Type 0 = λ z. IsSome z in subst P e h

known_by : {X : Type 0} (R : X → Option ℕ → Type 0) (xs : List X) (c : Option ℕ) (count : ℕ) → c ≡ Some count → All (λ x. R x c) xs → All (λ x. R x (Some count)) xs
known_by R xs c count e h = let P : Option ℕ → Type 0 = λ z. All (λ x. R x z) xs in subst P e h

whole_is : (said : List Said) → Holds said → stage_of said ≡ stage.Over → how_many said ≤ most_bytes → IsJudgeable (certificate_of said)
whole_is said h over few =
    let told : count_of said ≡ Some (routers_told said) = count_is (count_of said) (routers_told said) (over_whole (stage_of said) (count_of said) (routers_told said) over h.whole) in
    let count : count_of said ≡ Some (length (routers_of said)) = told ∙ ap (λ k. Some k) (sym h.told) in
    let range = ranges (count_of said) (length (routers_of said)) count h.some in
    let all = h.read in
    let at : heads (stage_of said) ≡ 4 = ap heads over in
    let P : Option ℕ → Type 0 = λ z. IsPair z (start_of said) in
    record {
      some = range.0;
      few = range.1;
      routers = λ router r e. router_by_place router (routers_of said) r h.routers e;
      links = All-weaker (λ l. IsLinkIn (Some (length (routers_of said))) l) (λ l. IsKnownLink (length (routers_of said)) l) (λ l fits. (fits.2, fits.1)) (links_of said) (known_by (λ l c. IsLinkIn c l) (links_of said) (count_of said) (length (routers_of said)) count h.links);
      links_ascend = h.links_ascend;
      start = subst P count (over_start (stage_of said) (count_of said) (start_of said) over h.start);
      nodes = known_by (λ x c. IsNamedIn c x) (nodes_of said) (count_of said) (length (routers_of said)) count h.nodes;
      edges = known_by (λ e c. IsEdgeIn c e) (edges_of said) (count_of said) (length (routers_of said)) count h.edges;
      unknown = known_by (λ n c. IsPair c n) (unknown_of said) (count_of said) (length (routers_of said)) count h.unknown;
      clear = known_by (λ n c. IsPair c n) (clear_of said) (count_of said) (length (routers_of said)) count h.clear;
      lines = omega (arith, all, at, few);
    }

pub certificate_is_judgeable : (text : List ℕ) (c : Certificate) → IsCertificate text c → IsJudgeable c
certificate_is_judgeable text c t =
    let P : Certificate → Type 0 = λ v. IsJudgeable v in
    let h = along certificates Holds at_first holds (lines text) t.said ([] ∷ []) t.lines_say in
    let n = few_lines certificates text t.said [] [] t.lines_say in
    let fits = t.fits in
    subst P (sym t.value_is) (whole_is t.said h (over_is (stage_of t.said) t.ended) (omega (arith, n, fits)))
