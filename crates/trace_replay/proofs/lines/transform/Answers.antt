use Rattle.std.proofs.Common.{refl, subst, ◌∙◌}
use Rattle.data_agent.specs.Standing.{StandsFor}
use Rattle.trace_replay.specs.Yards.{by_workers}
use Rattle.packet_signature.specs.declared.Row.{Row}
use Rattle.page_catalogue.specs.Pages.{open_page}
use Rattle.router_account.specs.Ledger.{recorded_in, changed_in}
use Rattle.trace_replay.proofs.Needs.{change_stands, change_near, change_in}
use Rattle.trace_replay.proofs.Closes.{first_fits}
use Rattle.trace_replay.proofs.Within.{does_change}
use Rattle.trace_replay.proofs.Beside.{own_at, beside_at}
use Rattle.trace_replay.proofs.lines.transform.Goals as goal

pub forward-page-requires-clause-stands : goal.forward-page-requires-clause-stands
forward-page-requires-clause-stands c =
    change_stands (by_workers 1) StandsFor c.args.trace.now c.args.line.now c.args.agents.now c.index-agents-at.result c.args.state.now c.requires.ready.0 c.requires.ready.1 c.args.router c.args.kind c.args.old c.args.new c.requires.is

pub transform-requires : goal.transform-requires
transform-requires c =
    record {
      near = change_near (by_workers 1) StandsFor c.args.trace.now c.args.line.now c.args.agents.now c.index-agents-at.result c.args.state.now c.requires.ready.0 c.requires.ready.1
          c.args.router c.args.kind c.args.old c.args.new c.sig_of-before.result c.sig_of-sig.result c.forward-page.new.self c.forward-page.result.number _ c.requires.is c.row.ensures.exact c.forward-page.ensures.page c.forward-page.ensures.recorded;
    }

pub returns-clause-does : goal.returns-clause-does
returns-clause-does c = λ now.
    does_change (by_workers 1) StandsFor c.args.trace.now c.args.line.now c.args.agents.now c.index-agents-at.result c.transform.new.self c.args.state.now c.answered.new.state now now refl
    c.args.router c.args.kind c.args.old c.args.new c.sig_of-before.result c.sig_of-sig.result c.forward-page.result.number c.requires.is c.sig_of-before.ensures c.sig_of-sig.ensures
    c.forward-page.ensures.page
    (λ rules l u at.
    let l1 = recorded_in l (open_page l.account.closings) c.sig_of-sig.result in
    let P : Row → Type 0 = λ row. StandsFor c.transform.new.self rules (changed_in l1 c.forward-page.result.number row) u in
    subst P c.row.ensures.exact (c.in_ok-transform.ensures.changed rules l1 u (c.forward-page.ensures.recorded rules l u at)))
    (c.transform.ensures.entries ∙ c.forward-page.ensures.entries) c.in_ok-answered.ensures

pub forward-page-requires-clause-own : goal.forward-page-requires-clause-own
forward-page-requires-clause-own c = own_at c.args.planes.now c.args.agents.now c.args.router.number c.index-planes-at.result c.index-agents-at.result c.requires.beside (change_in (by_workers 1) StandsFor c.args.trace.now c.args.line.now c.args.agents.now c.index-agents-at.result c.args.state.now c.requires.ready.0 c.requires.ready.1 c.args.router c.args.kind c.args.old c.args.new c.requires.is) c.index-planes-at.is

pub returns-clause-beside : goal.returns-clause-beside
returns-clause-beside c = beside_at c.args.planes.now c.args.agents.now c.args.router.number c.index-planes-at.result c.transform.new.self c.requires.beside (change_in (by_workers 1) StandsFor c.args.trace.now c.args.line.now c.args.agents.now c.index-agents-at.result c.args.state.now c.requires.ready.0 c.requires.ready.1 c.args.router c.args.kind c.args.old c.args.new c.requires.is) c.index-planes-at.is (c.transform.ensures.own c.index-planes-at.result c.forward-page.ensures.own)

pub answered-requires : goal.answered-requires
answered-requires c = first_fits (by_workers 1) StandsFor c.args.trace.now c.args.line.now c.args.agents.now c.args.state.now c.requires.ready.0 c.requires.ready.1
