use Rattle.std.proofs.Common.{◌≡◌, ◌∙◌, ◌++◌, ◌∷◌, [], List, length, sym, subst, ap, arith}
use Rattle.std.specs.Vec.{vec_len}
use Rattle.std.specs.List.{Contains, flat_map}
use Rattle.std.proofs.lemmas.Bool.Decides.{Decides-eqb}
use Rattle.std.proofs.lemmas.List.Elements.{Contains-append_right}
use Rattle.reverse_flood.specs.declared.graphs.Node.{Node}
use Rattle.reverse_flood.specs.Flood.{net_of}
use Rattle.traceback_manager.specs.Beside.{IsRound}
use Rattle.traceback_manager.proofs.JoinFacts.{first_round, next_round}
use Rattle.traceback_manager.proofs.RoundFacts.{no_items}
use Rattle.traceback_manager.proofs.joined.ask_rounds.Goals as goal

pub loop-turn-init : goal.loop-turn-init
loop-turn-init g c =
    let t = c.args.topology.now in
    let net = net_of g.S.Sighting.shown c.args.sights.now t in
    let start = c.args.start.now in
    let pushed : c.push.new.self.items ≡ start ∷ [] = c.in_ok-push.ensures.items ∙ ap (λ (l : List Node). l ++ start ∷ []) c.new-round.ensures.items in
    let Is : List Node → Type 0 = λ ns. IsRound net t start c.args.seats.now ns in
    record { round = subst Is (sym pushed) (first_round net t start c.args.seats.now c.requires.exists c.requires.blank) }

pub returns-then-is_empty : goal.returns-then-is_empty
returns-then-is_empty g c =
    let t = c.args.topology.now in
    let net = net_of g.S.Sighting.shown c.args.sights.now t in
    let round = c.loop-turn.round in
    let none = (Decides-eqb (vec_len round) 0).0 (sym c.is_empty.ensures ∙ c.if-is_empty.true) in
    let no_length : length round.items ≡ 0 = omega (arith, none) in
    let Is : List Node → Type 0 = λ ns. IsRound net t c.args.start.now c.loop-turn.seats ns in
    subst Is (no_items round.items no_length) c.loop-turn.invariant.round

pub ask_at_once-requires-clause-exist : goal.ask_at_once-requires-clause-exist
ask_at_once-requires-clause-exist g c κs within = λ n h.
    let is = c.loop-turn.invariant.round in
    let Has : List Node → Type 0 = λ ns. Contains ns n in
    is.exist n (Contains-append_right is.done c.loop-turn.round.items n (subst Has c.deref.ensures.value h))

pub loop-turn-preserved : goal.loop-turn-preserved
loop-turn-preserved g c =
    let t = c.args.topology.now in
    let net = net_of g.S.Sighting.shown c.args.sights.now t in
    let start = c.args.start.now in
    let gathered = c.in_ok-gather.ensures in
    let Was : List Node → Type 0 = λ ns. IsRound net t start c.loop-turn.seats ns in
    let Is : List Node → Type 0 = λ ns. IsRound net t start c.ask_at_once.new.seats ns in
    record {
      round = subst Is (sym gathered.round)
          (next_round net t start c.loop-turn.seats c.ask_at_once.new.seats c.deref.result.now c.topology_is_sound.ensures.few_routers
          (subst Was (sym c.deref.ensures.value) c.loop-turn.invariant.round) c.ask_at_once.ensures gathered.none_short);
    }
