use Rattle.std.proofs.Common.{refl, ap, arith, ◌∙◌, ◌∷◌, [], ◌++◌, ◌+◌, length}
use Rattle.page_catalogue.specs.Catalogues.{Catalogued}
use Rattle.data_agent.specs.Standing.{StillStands, standing}
use Rattle.data_agent.proofs.Leaving.{for_kept, keeps_pages, minds_amid, minds_own, none_out}
use Rattle.data_agent.proofs.Planes.{may_turn}
use Rattle.data_agent.proofs.Results.{on_err}
use Rattle.data_agent.proofs.Closings.{turned, has_room, times_turned}
use Rattle.data_agent.proofs.Staying.{still}
use Rattle.data_agent.proofs.agent.Agent.rotate_alone.Goals as goal

pub make_room-requires-clause-minds : goal.make_room-requires-clause-minds
make_room-requires-clause-minds c = let (rules, l, u, s, late, room) = c.requires.ready in minds_amid c.args.self.now rules l s.amid

pub make_room-requires-clause-alone : goal.make_room-requires-clause-alone
make_room-requires-clause-alone c = let (rules, l, u, s, late, room) = c.requires.ready in none_out c.args.self.now rules l s.amid

pub returns-in_err-make_room-clause-same : goal.returns-in_err-make_room-clause-same
returns-in_err-make_room-clause-same c = on_err _ (for_kept c.args.self.now c.make_room.new.self c.make_room.ensures.keeps)

pub returns-in_err-reserve-clause-same : goal.returns-in_err-reserve-clause-same
returns-in_err-reserve-clause-same c =
    let same : StillStands c.args.self.now (record c.make_room.new.self { catalogue = c.reserve.new.self }) = λ rules l u s.
    still c.make_room.new.self (record c.make_room.new.self { catalogue = c.reserve.new.self }) refl refl refl refl refl refl c.reserve.ensures.same refl refl rules l u (for_kept c.args.self.now c.make_room.new.self c.make_room.ensures.keeps rules l u s) in
    on_err _ same

pub turn_page_alone-requires-clause-stands : goal.turn_page_alone-requires-clause-stands
turn_page_alone-requires-clause-stands c =
    let (rules, l, u, s, late, room) = c.requires.ready in
    let old = c.make_room.new.self in
    let t = for_kept c.args.self.now old c.make_room.ensures.keeps rules l u s in
    let end = t.amid.pages.page in
    (standing old, old.page.number, minds_own c.args.plane.now old c.make_room.ensures.own c.make_room.ensures.minds, (omega arith))

pub returns-clause-page : goal.returns-clause-page
returns-clause-page c = λ rules l u s.
    c.turn-self.ensures.page ∙ ap (λ (x : Catalogued). length x.closings + 1) c.reserve.ensures.same ∙ ap (λ (x : Catalogued). length x.closings + 1) c.make_room.ensures.keeps.rest.catalogue ∙ ap (λ xs. length xs + 1) s.amid.pages.closings

pub returns-clause-turned : goal.returns-clause-turned
returns-clause-turned c = λ rules l u s.
    let old = c.make_room.new.self in
    let moved = for_kept c.args.self.now c.make_room.new.self c.make_room.ensures.keeps in
    let ready = may_turn c.args.self.now c.make_room.new.self c.args.clock moved c.requires.ready in
    let same = c.reserve.ensures.same in
    let is = c.turn-self.ensures.turned in
    let t = moved rules l u s in
    turned c.make_room.new.self _ rules l u c.args.clock t
    (has_room c.make_room.new.self c.args.clock ready)
    (times_turned c.make_room.new.self c.args.clock ready)
    refl refl
    (ap (λ (x : Catalogued). x.rules) is ∙ ap (λ (x : Catalogued). x.rules) same)
    (ap (λ (x : Catalogued). x.closings) is ∙ ap (λ (x : Catalogued). x.closings ++ c.args.clock ∷ []) same)
    (ap (λ (x : Catalogued). x.gone) is ∙ ap (λ (x : Catalogued). x.gone) same)
    (ap (λ (x : Catalogued). x.clock) is)
    (c.turn-self.ensures.page ∙ ap (λ (x : Catalogued). length x.closings + 1) same)
    refl
    refl
    (keeps_pages c.args.plane.now old c.turn_page_alone.new.keeper rules l.account _ _ c.make_room.ensures.own t.amid.pages c.turn_page_alone.ensures.same
    (c.turn_page_alone.ensures.turned (standing old) (length l.account.closings)))
    refl
    refl
