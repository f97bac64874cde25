use Rattle.router_account.specs.Ledger.{turned_at}
use Rattle.data_agent.proofs.Leaving.{for_kept, minds_amid, whole_kept}
use Rattle.data_agent.proofs.Kept.{for_of}
use Rattle.data_agent.proofs.Planes.{may_turn_whole, recorded_for, recorded_turned}
use Rattle.data_agent.proofs.Results.{on_err, on_ok}
use Rattle.data_agent.proofs.agent.Agent.renew.Goals as goal

pub rotate_alone-requires-clause-ready : goal.rotate_alone-requires-clause-ready
rotate_alone-requires-clause-ready c = may_turn_whole c.args.self.now c.args.clock c.requires.ready

pub returns-in_err-rotate_alone-clause-recorded : goal.returns-in_err-rotate_alone-clause-recorded
returns-in_err-rotate_alone-clause-recorded c = on_err _ (recorded_for c.args.self.now c.rotate_alone.new.self c.args.clock c.in_err-rotate_alone.ensures.same)

pub collect_quiet-requires-clause-minds : goal.collect_quiet-requires-clause-minds
collect_quiet-requires-clause-minds c =
    let (rules, l, u, s, late, room) = c.requires.ready in
    minds_amid c.rotate_alone.new.self rules (turned_at l c.args.clock) (c.in_ok-rotate_alone.ensures.turned rules l u (for_of c.args.self.now rules l u s)).amid

pub returns-clause-turned : goal.returns-clause-turned
returns-clause-turned c = on_ok c.collect_quiet.result (λ taken rules l u s.
    whole_kept c.rotate_alone.new.self c.collect_quiet.new.self c.collect_quiet.ensures.keeps taken rules (turned_at l c.args.clock) u (c.in_ok-rotate_alone.ensures.turned rules l u (for_of c.args.self.now rules l u s)))
    c.collect_quiet.ensures.alone

pub returns-clause-recorded : goal.returns-clause-recorded
returns-clause-recorded c = on_err _
    (recorded_turned c.args.self.now c.rotate_alone.new.self c.collect_quiet.new.self c.args.clock c.in_ok-rotate_alone.ensures.turned
    (for_kept c.rotate_alone.new.self c.collect_quiet.new.self c.collect_quiet.ensures.keeps))
