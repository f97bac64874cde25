use Rattle.std.proofs.Common.{refl, ◌≡◌, ◌∙◌, ap, subst, List, length, take, arith, ⊎_elim}
use Rattle.std.specs.List.{Contains}
use Rattle.std.proofs.lemmas.List.{take_more}
use Rattle.std.proofs.Math.Seq.{take-length}
use Rattle.std.proofs.lemmas.List.Elements.{Contains-push_cases}
use Rattle.reverse_flood.specs.declared.graphs.Node.{Node}
use Rattle.regional_agent.specs.Answers.{IsHome, AreHome}
use Rattle.regional_agent.proofs.regions.lie_in.Goals as goal

pub loop-entry-preserved : goal.loop-entry-preserved
loop-entry-preserved c = λ n h.
    let xs = c.args.entries.now in
    let i = c.loop-entry.entry-index in
    let Has : List Node → Type 0 = λ l. Contains l n in
    let Home : Node → Type 0 = λ m. IsHome c.args.topology.now c.args.region m in
    ⊎_elim
    (c.loop-entry.invariant n)
    (λ e. subst Home e (c.is_home.ensures.0 c.if-not-is_home.false))
    (Contains-push_cases (take i xs) _ n (subst Has (take_more xs i _ c.loop-entry-test.true) h))

pub returns : goal.returns
returns c =
    let xs = c.args.entries.now in
    let end : c.loop-entry.entry-index ≡ length xs = omega arith in
    let whole : take c.loop-entry.entry-index xs ≡ xs = ap (λ i. take i xs) end ∙ take-length xs in
    let All : List Node → Type 0 = λ l. AreHome c.args.topology.now c.args.region l in
    ((λ _. subst All whole c.loop-entry.invariant), (λ _. refl))
