use Rattle.std.proofs.Common.{◌∙◌, ◌++◌, [], ℕ, get_or, refl, sym, ap, append-nil, arith}
use Rattle.std.proofs.lemmas.List.Elements.{Contains-get_or}
use Rattle.spie_base.specs.declared.Sig.{Sig}
use Rattle.reverse_flood.specs.Flood.{is_missing, is_within}
use Rattle.reverse_flood.specs.Told.{pairs_below, pairs_of}
use Rattle.reverse_flood.proofs.ToldFacts.{line_above, node_at, told_next, told_of, walked_done, walked_next, walked_to}
use Rattle.reverse_flood.proofs.WayFacts.{take_done}
use Rattle.reverse_flood.proofs.tells.tell_router.Goals as goal

pub loop-line-init : goal.loop-line-init
loop-line-init g c = record {
  told = told_of c.args.search.now c.args.topology.now (is_within c.args.topology.now c.args.bound) (is_missing g.S.Sighting.shown c.args.sights.now) _ _ c.args.told.now
      (sym (append-nil (pairs_below c.args.lines.now c.args.router.number))) c.requires.told;
}

pub tell_pair-requires-clause-row : goal.tell_pair-requires-clause-row
tell_pair-requires-clause-row g c = c.requires.rows _ (Contains-get_or c.args.lines.now c.loop-line.line-index _ c.loop-line-test.true)

pub loop-line-preserved : goal.loop-line-preserved
loop-line-preserved g c =
    let s = c.args.search.now in
    let t = c.args.topology.now in
    let inside = is_within t c.args.bound in
    let missing = is_missing g.S.Sighting.shown c.args.sights.now in
    let lines = c.args.lines.now in
    let router = c.args.router in
    let i = c.loop-line.line-index in
    let d : Sig × ℕ = (record { bytes = [] }, 0) in
    let new = c.in_ok-tell_pair.ensures in
    record {
      told = told_of s t inside missing _ _ c.tell_pair.new.told (walked_next lines router i d c.loop-line-test.true)
          (told_next s t inside missing (walked_to lines router i) (node_at router (get_or lines i d)) c.missing_at-missing.result c.loop-line.told c.tell_pair.new.told
          (line_above lines router i d (get_or lines i d) c.requires.ordered c.loop-line-test.true refl)
          c.missing_at-missing.ensures new.nodes new.unknown new.clear new.inner new.outer c.loop-line.invariant.told);
    }

pub returns : goal.returns
returns g c =
    let lines = c.args.lines.now in
    told_of c.args.search.now c.args.topology.now (is_within c.args.topology.now c.args.bound) (is_missing g.S.Sighting.shown c.args.sights.now) _ _ c.loop-line.told
    (ap (λ (l : _). pairs_below lines c.args.router.number ++ pairs_of l c.args.router) (take_done lines c.loop-line.line-index (omega arith)) ∙ walked_done lines c.args.router)
    c.loop-line.invariant.told
