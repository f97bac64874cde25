use Rattle.std.proofs.Common.{◌≡◌, ◌∙◌, ◌<◌, ◌+◌, [], List, length, slice_index_or, arith, subst}
use Rattle.std.specs.List.{Contains, flat_map}
use Rattle.std.proofs.lemmas.Option.{slice_get-get_or}
use Rattle.spie_base.specs.declared.Sig.{Sig}
use Rattle.reverse_flood.specs.Leads.{pairs_with}
use Rattle.evidence_check.specs.Pairs.{Asks}
use Rattle.evidence_check.proofs.OriginWalks.{IsWalked, few_steps, walked_more}
use Rattle.evidence_check.proofs.PairFacts.{asks_join}
use Rattle.reverse_flood.proofs.WayFacts.{take_done}
use Rattle.evidence_check.proofs.walk.ask_origins.Goals as goal

abbrev blank : Sig
blank = record { bytes = [] }

pub ask_each-requires-clause-few : goal.ask_each-requires-clause-few
ask_each-requires-clause-few c =
    let lt : c.loop-next.next < length c.args.origins.now = omega (arith, c.loop-next-test.true) in
    let sig : Sig = slice_index_or c.args.origins.now c.loop-next.next blank in
    let at = slice_get-get_or c.args.origins.now c.loop-next.next blank lt in
    let steps : c.deref.result.now ≡ pairs_with c.args.near.now sig = c.deref.ensures.value ∙ c.in_ok-steps.ensures in
    few_steps c.args.near.now sig c.deref.result.now steps c.requires.few

pub loop-next-preserved : goal.loop-next-preserved
loop-next-preserved c =
    let lt : c.loop-next.next < length c.args.origins.now = omega (arith, c.loop-next-test.true) in
    let sig : Sig = slice_index_or c.args.origins.now c.loop-next.next blank in
    let at = slice_get-get_or c.args.origins.now c.loop-next.next blank lt in
    let steps : c.deref.result.now ≡ pairs_with c.args.near.now sig = c.deref.ensures.value ∙ c.in_ok-steps.ensures in
    record {
      within = omega (arith, lt);
      fine = c.in_ok-ask_each.ensures.fine;
      asks = asks_join (IsWalked c.args.near.now c.args.origins.now c.loop-next.next) (Contains c.deref.result.now) (IsWalked c.args.near.now c.args.origins.now (c.loop-next.next + 1)) c.args.pairs.now c.loop-next.pairs c.ask_each.new.pairs
          (walked_more c.args.near.now c.args.origins.now c.loop-next.next sig c.deref.result.now at steps)
          c.loop-next.invariant.asks c.in_ok-ask_each.ensures.asks;
    }

pub returns-clause-asks : goal.returns-clause-asks
returns-clause-asks c =
    let whole : c.loop-next.next ≡ length c.args.origins.now = omega (arith, c.loop-next.invariant.within, c.loop-next-test.false) in
    let P : List Sig → Type 0 = λ l. Asks (Contains (flat_map (pairs_with c.args.near.now) l)) c.args.pairs.now c.loop-next.pairs in
    subst P (take_done c.args.origins.now c.loop-next.next whole) c.loop-next.invariant.asks
