use Rattle.std.proofs.Common.{◌≡◌, ◌+◌, ◌<◌, ◌↔◌, ◌⊎◌, ⊎_elim, ◌++◌, ◌∷◌, [], List, length, take, slice_index_or, arith, sym, subst}
use Rattle.std.specs.List.{Contains}
use Rattle.std.proofs.lemmas.List.Elements.{Contains-append_left, Contains-get_or, Contains-push, Contains-push_cases}
use Rattle.std.proofs.lemmas.Option.{slice_get-get_or}
use Rattle.spie_base.proofs.Membership.{has_none}
use Rattle.reverse_flood.specs.declared.graphs.Node.{Node}
use Rattle.reverse_flood.proofs.WayFacts.{take_done}
use Rattle.evidence_check.specs.Pairs.{Asks}
use Rattle.evidence_check.proofs.LeftFacts.{taken_more}
use Rattle.evidence_check.proofs.PairFacts.{asks_join, asks_none}
use Rattle.evidence_check.proofs.walk.ask_each.Goals as goal

abbrev blank : Node
blank = record { router = record { number = 0 }; sig = record { bytes = [] } }

pub loop-next-init : goal.loop-next-init
loop-next-init c = record { within = omega arith; fine = c.requires.fine; asks = asks_none (Contains []) c.args.pairs.now (λ n h. has_none n h) }

pub ask-requires-clause-few : goal.ask-requires-clause-few
ask-requires-clause-few c =
    let lt : c.loop-next.next < length c.args.steps.now = omega (arith, c.loop-next-test.true) in
    c.requires.few _ (Contains-get_or c.args.steps.now c.loop-next.next blank lt)

one_more : (xs more : List Node) (x : Node) → more ≡ xs ++ x ∷ [] → (n : Node) → Contains more n ↔ (Contains xs n ⊎ (x ≡ n))
one_more xs more x is n =
    let Has : List Node → Type 0 = λ l. Contains l n in (
      (λ h. Contains-push_cases xs x n (subst Has is h)),
      (λ h. subst Has (sym is) (⊎_elim
          (λ a. Contains-append_left xs (x ∷ []) n a)
          (λ (e : x ≡ n). let P : Node → Type 0 = λ m. Contains (xs ++ x ∷ []) m in subst P e (Contains-push xs x))
          h)),
    )

pub loop-next-preserved : goal.loop-next-preserved
loop-next-preserved c =
    let lt : c.loop-next.next < length c.args.steps.now = omega (arith, c.loop-next-test.true) in
    let x : Node = slice_index_or c.args.steps.now c.loop-next.next blank in
    let at = slice_get-get_or c.args.steps.now c.loop-next.next blank lt in
    let more = taken_more c.args.steps.now c.loop-next.next x at in
    record {
      within = omega (arith, lt);
      fine = c.in_ok-ask.ensures.fine;
      asks = asks_join (Contains (take c.loop-next.next c.args.steps.now)) (λ n. x ≡ n) (Contains (take (c.loop-next.next + 1) c.args.steps.now)) c.args.pairs.now c.loop-next.pairs c.ask.new.pairs
          (one_more (take c.loop-next.next c.args.steps.now) (take (c.loop-next.next + 1) c.args.steps.now) x more)
          c.loop-next.invariant.asks c.in_ok-ask.ensures.asks;
    }

pub returns-clause-asks : goal.returns-clause-asks
returns-clause-asks c =
    let whole : c.loop-next.next ≡ length c.args.steps.now = omega (arith, c.loop-next.invariant.within, c.loop-next-test.false) in
    let P : List Node → Type 0 = λ l. Asks (Contains l) c.args.pairs.now c.loop-next.pairs in
    subst P (take_done c.args.steps.now c.loop-next.next whole) c.loop-next.invariant.asks
