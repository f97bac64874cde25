use Rattle.std.proofs.Common.{refl, length, length-append, sym, ap, subst, arith, ◌∙◌, ◌≡◌, ◌+◌, ◌∷◌, []}
use Rattle.page_gate.specs.Held.{Held}
use Rattle.data_agent.specs.Beside.{IsMinding}
use Rattle.data_agent.specs.Standing.{standing}
use Rattle.data_agent.proofs.Leaving.{keeps_collected, keeps_same, keeps_settled, minds_at, minds_own, minds_then}
use Rattle.data_agent.proofs.Minding.{knows_same}
use Rattle.data_agent.proofs.Staying.{items_then}
use Rattle.data_agent.proofs.agent.Agent.collect_oldest.Goals as goal

pub hashes-requires : goal.hashes-requires
hashes-requires c = c.requires.minds.ranges

pub collect_page-requires-clause-stands : goal.collect_page-requires-clause-stands
collect_page-requires-clause-stands c = (c.args.self.now.page.number, minds_at c.args.plane.now c.args.self.now c.standing.result c.requires.own c.requires.minds c.standing.ensures)

pub returns-in_err-family-clause-keeps : goal.returns-in_err-family-clause-keeps
returns-in_err-family-clause-keeps c = keeps_same c.args.self.now

pub returns-in_err-reserve-clause-keeps : goal.returns-in_err-reserve-clause-keeps
returns-in_err-reserve-clause-keeps c =
    keeps_settled c.args.plane.now c.args.self.now _ c.requires.own (record { rules = refl; router = refl; page = refl; catalogue = refl; table = refl; noted = refl; marked = refl })
    (knows_same c.args.plane.now.shape c.args.self.now.keeper) c.reserve.ensures.items (λ first last m. m)

pub returns-in_err-reserve-clause-minds : goal.returns-in_err-reserve-clause-minds
returns-in_err-reserve-clause-minds c =
    let old = c.args.self.now in
    let len : length c.reserve.new.self.items ≡ length old.closed.items = ap length c.reserve.ensures.items in
    minds_then c.args.plane.now old _ (standing old) c.requires.own c.requires.minds refl refl refl (omega arith) (minds_own c.args.plane.now old c.requires.own c.requires.minds)

pub returns-in_err-bits-clause-keeps : goal.returns-in_err-bits-clause-keeps
returns-in_err-bits-clause-keeps c =
    keeps_settled c.args.plane.now c.args.self.now _ c.requires.own (record { rules = refl; router = refl; page = refl; catalogue = refl; table = refl; noted = refl; marked = refl })
    c.collect_page.ensures.same c.reserve.ensures.items
    (λ first last m. subst (λ (k : Held). IsMinding c.args.plane.now.shape k first last) (sym c.in_err-bits.ensures.unchanged) m)

pub returns-in_err-bits-clause-minds : goal.returns-in_err-bits-clause-minds
returns-in_err-bits-clause-minds c =
    let old = c.args.self.now in
    let len : length c.reserve.new.self.items ≡ length old.closed.items = ap length c.reserve.ensures.items in
    minds_then c.args.plane.now old _ (standing old) c.requires.own c.requires.minds refl refl refl (omega arith)
    (subst (λ (k : Held). IsMinding c.args.plane.now.shape k (standing old) old.page.number) (sym c.in_err-bits.ensures.unchanged) (minds_own c.args.plane.now old c.requires.own c.requires.minds))

pub returns-clause-keeps : goal.returns-clause-keeps
returns-clause-keeps c =
    keeps_collected c.args.plane.now c.args.self.now _ c.requires.own (record { rules = refl; router = refl; page = refl; catalogue = refl; table = refl; noted = refl; marked = refl })
    c.collect_page.ensures.same c.standing.result _ c.standing.ensures c.requires.some
    (items_then _ _ _ _ c.push_back_reserved.ensures.items c.reserve.ensures.items)
    c.in_ok-family.ensures.family c.in_ok-bits.ensures.collected c.in_ok-bits.ensures.bits c.in_ok-bits.ensures.gathered c.in_ok-bits.ensures.alone c.in_ok-bits.ensures.taken

pub returns-clause-minds : goal.returns-clause-minds
returns-clause-minds c =
    let old = c.args.self.now in
    let keeper = c.collect_page.new.keeper in
    let at = c.standing.ensures in
    let len : length c.push_back_reserved.new.self.items ≡ length old.closed.items + 1 =
    ap length (items_then _ _ _ _ c.push_back_reserved.ensures.items c.reserve.ensures.items) ∙ length-append old.closed.items (_ ∷ []) in
    minds_then c.args.plane.now old _ (standing old + 1) c.requires.own c.requires.minds refl refl refl (omega arith)
    (subst (λ n. IsMinding c.args.plane.now.shape keeper (n + 1) old.page.number) at
    (c.in_ok-bits.ensures.taken old.page.number (minds_at c.args.plane.now old c.standing.result c.requires.own c.requires.minds at)))
