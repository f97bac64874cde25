use Rattle.std.proofs.Common.{◌≡◌, ◌∙◌, ◌<◌, [], length, slice_index_or, arith, refl, sym}
use Rattle.std.proofs.lemmas.Bool.{false≢true}
use Rattle.std.proofs.lemmas.Option.{slice_get-get_or}
use Rattle.spie_base.specs.declared.Sig.{Sig}
use Rattle.reverse_flood.specs.Leads.{pairs_with}
use Rattle.evidence_check.specs.Pairs.{HasWay}
use Rattle.evidence_check.proofs.OriginWalks.{few_steps, over_all, over_more, walked_part}
use Rattle.evidence_check.proofs.ways.origins_have_ways.Goals as goal

abbrev blank : Sig
blank = record { bytes = [] }

pub have_ways-told-requires-clause-few : goal.have_ways-told-requires-clause-few
have_ways-told-requires-clause-few c =
    let lt : c.loop-next.next < length c.args.origins.now = omega (arith, c.loop-next-test.true) in
    let sig : Sig = slice_index_or c.args.origins.now c.loop-next.next blank in
    let at = slice_get-get_or c.args.origins.now c.loop-next.next blank lt in
    let steps : c.deref.result.now ≡ pairs_with c.args.near.now sig = c.deref.ensures.value ∙ c.in_ok-steps.ensures in
    few_steps c.args.near.now sig c.deref.result.now steps c.requires.few

pub returns-then-not-told : goal.returns-then-not-told
returns-then-not-told c =
    let lt : c.loop-next.next < length c.args.origins.now = omega (arith, c.loop-next-test.true) in
    let sig : Sig = slice_index_or c.args.origins.now c.loop-next.next blank in
    let at = slice_get-get_or c.args.origins.now c.loop-next.next blank lt in
    let steps : c.deref.result.now ≡ pairs_with c.args.near.now sig = c.deref.ensures.value ∙ c.in_ok-steps.ensures in
    ((λ t. absurd (false≢true t)), (λ all. absurd (false≢true (sym c.if-not-told.true ∙ c.have_ways-told.ensures.1 (λ n has. all n (walked_part c.args.near.now c.args.origins.now c.loop-next.next sig c.deref.result.now at steps n has))))))

pub loop-next-preserved : goal.loop-next-preserved
loop-next-preserved c =
    let lt : c.loop-next.next < length c.args.origins.now = omega (arith, c.loop-next-test.true) in
    let sig : Sig = slice_index_or c.args.origins.now c.loop-next.next blank in
    let at = slice_get-get_or c.args.origins.now c.loop-next.next blank lt in
    let steps : c.deref.result.now ≡ pairs_with c.args.near.now sig = c.deref.ensures.value ∙ c.in_ok-steps.ensures in
    record {
      within = omega (arith, lt);
      ways = over_more c.args.near.now c.args.origins.now (HasWay c.args.pairs.now c.args.edges.now c.args.down.now) c.loop-next.next sig c.deref.result.now at steps c.loop-next.invariant.ways (c.have_ways-told.ensures.0 c.if-not-told.false);
    }

pub returns : goal.returns
returns c =
    let whole : c.loop-next.next ≡ length c.args.origins.now = omega (arith, c.loop-next.invariant.within, c.loop-next-test.false) in
    ((λ t. over_all c.args.near.now c.args.origins.now (HasWay c.args.pairs.now c.args.edges.now c.args.down.now) c.loop-next.next whole c.loop-next.invariant.ways), (λ all. refl))
