use Rattle.std.proofs.Common.{refl, ap, arith, ◌∙◌, ◌∷◌, [], ◌++◌, ◌+◌, length}
use Rattle.spie_base.specs.Shapes.{shape_of}
use Rattle.spie_base.specs.declared.Rules.{Rules}
use Rattle.router_account.specs.Ledger.{Ledger, Unfinished}
use Rattle.data_agent.specs.declared.agent.Agent.{Agent}
use Rattle.data_agent.specs.Beside.{Away, StandsBeside}
use Rattle.page_catalogue.specs.Catalogues.{Catalogued}
use Rattle.data_agent.specs.Standing.{standing}
use Rattle.data_agent.proofs.Leaving.{minds_beside}
use Rattle.data_agent.proofs.Besides.{beside_kept, minding_by, own_minding, words_by}
use Rattle.data_agent.proofs.Minding.{knows_same}
use Rattle.data_agent.proofs.Results.{on_err}
use Rattle.data_agent.proofs.Turning.{ready_then, room_beside, times_beside, turned_beside}
use Rattle.data_agent.proofs.agent.Agent.rotate.Goals as goal

pub wait_for_room-requires-clause-minds : goal.wait_for_room-requires-clause-minds
wait_for_room-requires-clause-minds g c = let (rules, l, u, away, s, late, room) = c.requires.ready in minds_beside c.args.self.now rules l u away s

pub returns-in_err-reserve-clause-same : goal.returns-in_err-reserve-clause-same
returns-in_err-reserve-clause-same g c =
    let old = c.wait_for_room.new.self in
    let new : Agent = record old { catalogue = c.reserve.new.self } in
    let is = c.reserve.ensures.same in
    let same : (rules : Rules) (l : Ledger) (u : Unfinished) (away : Away) → StandsBeside c.args.self.now rules l u away → StandsBeside new rules l u away = λ rules l u away s0.
    let s = c.wait_for_room.ensures.keeps.beside rules l u away s0 in
    beside_kept old new rules l u away
    (record {
      rules = refl;
      router = refl;
      page = refl;
      by_rules = ap (λ (x : Catalogued). x.rules) is;
      closings = ap (λ (x : Catalogued). x.closings) is;
      gone = ap (λ (x : Catalogued). x.gone) is;
      clock = ap (λ (x : Catalogued). x.clock) is;
      table = refl;
      noted = refl;
    })
    refl s (knows_same (shape_of rules l.account.router) old.keeper) refl s.pages.minding in
    on_err _ same

pub turn_page-requires-clause-stands : goal.turn_page-requires-clause-stands
turn_page-requires-clause-stands g c =
    let (rules, l, u, away, s, late, room) = c.requires.ready in
    let old = c.wait_for_room.new.self in
    let t = c.wait_for_room.ensures.keeps.beside rules l u away s in
    (standing old, length l.account.closings, own_minding c.args.plane.now old rules l u away c.wait_for_room.ensures.own t, (omega arith))

pub returns-clause-turned : goal.returns-clause-turned
returns-clause-turned g c = λ rules l u away s.
    let plane = c.args.plane.now in
    let old = c.wait_for_room.new.self in
    let own = c.wait_for_room.ensures.own in
    let kept = c.wait_for_room.ensures.keeps.beside in
    let ready = ready_then c.args.self.now old c.args.clock kept c.requires.ready in
    let t = kept rules l u away s in
    let same = c.reserve.ensures.same in
    let is = c.turn-self.ensures.turned in
    let first = standing old in
    let last = length l.account.closings in
    turned_beside old _ rules l u away c.args.clock t (room_beside old c.args.clock ready) (times_beside old c.args.clock ready)
    (record {
      rules = refl;
      router = refl;
      by_rules = ap (λ (x : Catalogued). x.rules) is ∙ ap (λ (x : Catalogued). x.rules) same;
      closings = ap (λ (x : Catalogued). x.closings) is ∙ ap (λ (x : Catalogued). x.closings ++ c.args.clock ∷ []) same;
      gone = ap (λ (x : Catalogued). x.gone) is ∙ ap (λ (x : Catalogued). x.gone) same;
      clock_is = ap (λ (x : Catalogued). x.clock) is;
      page = c.turn-self.ensures.page ∙ ap (λ (x : Catalogued). length x.closings + 1) same;
      marked = refl;
      items = refl;
      table = refl;
      noted = refl;
    })
    (words_by plane old rules l u away own t c.turn_page.new.keeper c.turn_page.ensures.same)
    (minding_by plane old rules l u away own t c.turn_page.new.keeper first (last + 1) (c.turn_page.ensures.turned first last (own_minding plane old rules l u away own t)))
