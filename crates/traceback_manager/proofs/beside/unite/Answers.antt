use Rattle.std.proofs.Common.{◌≡◌, ◌∙◌, ◌+◌, ◌++◌, ◌∷◌, [], ℕ, List, length, append_assoc, append-nil, refl, sym, subst, ap, arith}
use Rattle.std.specs.Vec.Iter.{into_iter_items}
use Rattle.reverse_flood.specs.Unions.{IsAt, TakesUp}
use Rattle.traceback_manager.specs.Beside.{AreUnited, IsOwn}
use Rattle.traceback_manager.specs.declared.beside.Seat.{Seat}
use Rattle.traceback_manager.proofs.JoinFacts.{own_seat, united_blank, united_next, united_none}
use Rattle.traceback_manager.proofs.RoundFacts.{no_items}
use Rattle.traceback_manager.proofs.beside.unite.Goals as goal

pub loop-seat-init : goal.loop-seat-init
loop-seat-init c =
    let gives = c.into_iter-seat-iterator.ensures.into_iter_gives in
    let same = ap (λ (l : List Seat). length l) gives.0 in
    let long = gives.1 in
    record {
      rest = refl;
      len = omega (arith, same, long);
      fine = c.no_names-all.ensures.fine;
      united = united_none c.args.topology.now c.no_names-all.result c.no_names-all.ensures.none;
    }

pub take_up-requires-clause-other : goal.take_up-requires-clause-other
take_up-requires-clause-other c =
    let at = c.loop-seat in
    let steps : into_iter_items at.seat-iterator ≡ c.in-Some.seat ∷ into_iter_items c.next.new.self = c.in-Some.ensures.steps.0 in
    let own : IsOwn (length at.yielded) c.in-Some.seat =
    own_seat at.yielded (into_iter_items c.next.new.self) c.args.seats.items c.in-Some.seat
    (ap (λ (l : List Seat). at.yielded ++ l) (sym steps) ∙ at.invariant.rest ∙ c.into_iter-seat-iterator.ensures.into_iter_gives.0)
    c.requires in
    own.fine

pub take_up-requires-clause-blank : goal.take_up-requires-clause-blank
take_up-requires-clause-blank c = λ n here.
    let at = c.loop-seat in
    let steps : into_iter_items at.seat-iterator ≡ c.in-Some.seat ∷ into_iter_items c.next.new.self = c.in-Some.ensures.steps.0 in
    let own : IsOwn (length at.yielded) c.in-Some.seat =
    own_seat at.yielded (into_iter_items c.next.new.self) c.args.seats.items c.in-Some.seat
    (ap (λ (l : List Seat). at.yielded ++ l) (sym steps) ∙ at.invariant.rest ∙ c.into_iter-seat-iterator.ensures.into_iter_gives.0)
    c.requires in
    let t = c.args.topology.now in
    let Here : ℕ → Type 0 = λ r. IsAt t r n in
    united_blank t at.yielded at.all c.topology_is_sound.ensures.few_routers at.invariant.united n (subst Here own.region_is here)

pub loop-seat-preserved : goal.loop-seat-preserved
loop-seat-preserved c =
    let t = c.args.topology.now in
    let at = c.loop-seat in
    let seat = c.in-Some.seat in
    let steps : into_iter_items at.seat-iterator ≡ seat ∷ into_iter_items c.next.new.self = c.in-Some.ensures.steps.0 in
    let gone = c.in-Some.ensures.steps.1 in
    let short = ap (λ (l : List Seat). length l) steps in
    let was = at.invariant.len in
    let own : IsOwn (length at.yielded) seat =
    own_seat at.yielded (into_iter_items c.next.new.self) c.args.seats.items seat
    (ap (λ (l : List Seat). at.yielded ++ l) (sym steps) ∙ at.invariant.rest ∙ c.into_iter-seat-iterator.ensures.into_iter_gives.0)
    c.requires in
    let Takes : ℕ → Type 0 = λ r. TakesUp t r seat.desk.search at.all c.take_up.new.search in
    record {
      rest = append_assoc at.yielded (seat ∷ []) (into_iter_items c.next.new.self) ∙ ap (λ (l : List Seat). at.yielded ++ l) (sym steps) ∙ at.invariant.rest;
      len = omega (arith, was, gone, short);
      fine = c.in_ok-take_up.ensures.fine;
      united = united_next t at.yielded seat at.all c.take_up.new.search c.topology_is_sound.ensures.few_routers at.invariant.united (subst Takes own.region_is c.in_ok-take_up.ensures.taken);
    }

pub returns-clause-united : goal.returns-clause-united
returns-clause-united c =
    let at = c.loop-seat in
    let none = c.in-None.ensures.steps in
    let empty : into_iter_items at.seat-iterator ≡ [] = no_items (into_iter_items at.seat-iterator) (sym at.invariant.len ∙ none.0) in
    let all : at.yielded ≡ c.args.seats.items = sym (append-nil at.yielded) ∙ ap (λ (l : List Seat). at.yielded ++ l) (sym empty) ∙ at.invariant.rest ∙ c.into_iter-seat-iterator.ensures.into_iter_gives.0 in
    let Are : List Seat → Type 0 = λ ls. AreUnited c.args.topology.now ls at.all in
    subst Are all at.invariant.united
