use Rattle.std.proofs.Common.{◌≡◌, ◌∙◌, ◌+◌, ℕ, List, length, sym, subst, ap, arith}
use Rattle.std.specs.List.{Contains}
use Rattle.std.specs.List.Sorted.{IsStrictlySortedBy}
use Rattle.spie_base.specs.declared.Sig.{Sig}
use Rattle.reverse_flood.specs.Flood.{is_missing, is_within}
use Rattle.reverse_flood.specs.Told.{line_cmp, pairs_below}
use Rattle.reverse_flood.proofs.ToldFacts.{line_row, lines_ordered, told_none, told_of}
use Rattle.reverse_flood.proofs.tells.tell_all.Goals as goal

pub loop-number-init : goal.loop-number-init
loop-number-init g c = let n = c.nothing-told.ensures in record {
  told = told_none c.args.search.now c.args.topology.now (is_within c.args.topology.now c.args.bound) (is_missing g.S.Sighting.shown c.args.sights.now) c.nothing-told.result n.nodes n.unknown n.clear n.inner n.outer;
}

pub tell_router-requires-clause-rows : goal.tell_router-requires-clause-rows
tell_router-requires-clause-rows g c = λ l h.
    let P : List (Sig × ℕ) → Type 0 = λ ls. Contains ls l in
    line_row c.args.search.now c.in_ok-lines.ensures.ordered l (subst P (c.deref.ensures.value ∙ c.in_ok-lines.ensures.lines) h)

pub tell_router-requires-clause-ordered : goal.tell_router-requires-clause-ordered
tell_router-requires-clause-ordered g c =
    let P : List (Sig × ℕ) → Type 0 = λ ls. IsStrictlySortedBy line_cmp ls in
    subst P (sym (c.deref.ensures.value ∙ c.in_ok-lines.ensures.lines)) (lines_ordered c.args.search.now c.in_ok-lines.ensures.ordered)

pub tell_router-requires-clause-told : goal.tell_router-requires-clause-told
tell_router-requires-clause-told g c =
    told_of c.args.search.now c.args.topology.now (is_within c.args.topology.now c.args.bound) (is_missing g.S.Sighting.shown c.args.sights.now) _ _ c.loop-number.told
    (ap (λ (ls : List (Sig × ℕ)). pairs_below ls c.loop-number.number) (sym (c.deref.ensures.value ∙ c.in_ok-lines.ensures.lines))) c.loop-number.invariant.told

pub loop-number-preserved : goal.loop-number-preserved
loop-number-preserved g c = record {
  told = told_of c.args.search.now c.args.topology.now (is_within c.args.topology.now c.args.bound) (is_missing g.S.Sighting.shown c.args.sights.now) _ _ c.tell_router.new.told
      (ap (λ (ls : List (Sig × ℕ)). pairs_below ls (c.loop-number.number + 1)) (c.deref.ensures.value ∙ c.in_ok-lines.ensures.lines)) c.in_ok-tell_router.ensures;
}

pub returns-clause-told : goal.returns-clause-told
returns-clause-told g c =
    let all : c.loop-number.number ≡ length c.args.topology.now.names = omega arith in
    told_of c.args.search.now c.args.topology.now (is_within c.args.topology.now c.args.bound) (is_missing g.S.Sighting.shown c.args.sights.now) _ _ c.loop-number.told
    (ap (λ (k : ℕ). pairs_below c.args.search.now.rows.entries k) all) c.loop-number.invariant.told
