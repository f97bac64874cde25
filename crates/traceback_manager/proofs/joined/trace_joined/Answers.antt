use Rattle.std.proofs.Common.{◌≡◌, ◌∙◌, List, length, sym, subst, arith}
use Rattle.reverse_flood.specs.Flood.{net_of}
use Rattle.traceback_manager.specs.Beside.{AreAllAsked}
use Rattle.traceback_manager.specs.declared.beside.Seat.{Seat}
use Rattle.traceback_manager.proofs.JoinFacts.{all_asked, written_back}
use Rattle.traceback_manager.proofs.joined.trace_joined.Goals as goal

pub returns : goal.returns
returns g c =
    let t = c.args.topology.now in
    let start = c.args.start.now in
    let net = net_of g.S.Sighting.shown c.args.sights.now t in
    let sound = c.topology_is_sound.ensures in
    let after = c.ask_rounds.new.seats in
    let asked = c.in_ok-ask_rounds.ensures in
    let many = asked.many in
    let opened = c.in_ok-seats.ensures.many in
    let n : length after ≡ c.in_ok-seats.seats.len = omega (arith, many, opened) in
    let Are : List Seat → Type 0 = λ seats. AreAllAsked net t start seats in
    record {
      graph = c.in_ok-graph.ensures start c.requires.exists
          (all_asked net t start _ c.in_ok-search.search sound.few_routers (λ a b joined. (sound.ends a b joined).1) sound.homes
          (subst Are (sym (written_back c.in_ok-seats.seats.len c.in_ok-seats.seats.items after n)) asked) c.in_ok-search.ensures.united);
    }
