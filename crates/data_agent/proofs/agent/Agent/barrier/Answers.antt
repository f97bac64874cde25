use Rattle.data_agent.proofs.Leaving.{for_kept, minds_amid, whole_kept}
use Rattle.data_agent.proofs.Kept.{for_of}
use Rattle.data_agent.proofs.Passing.{recorded_same}
use Rattle.data_agent.proofs.Results.{if_ok, on_err, on_err_from, on_ok}
use Rattle.data_agent.proofs.agent.Agent.barrier.Goals as goal

pub collect_quiet-requires-clause-minds : goal.collect_quiet-requires-clause-minds
collect_quiet-requires-clause-minds g c = let (rules, l, u, s, late, room) = c.requires.ready in minds_amid c.args.self.now rules l s.amid

pub returns-in_err-collect_quiet-clause-recorded : goal.returns-in_err-collect_quiet-clause-recorded
returns-in_err-collect_quiet-clause-recorded g c = on_err _ (recorded_same c.args.self.now c.collect_quiet.new.self c.args.clock (for_kept c.args.self.now c.collect_quiet.new.self c.collect_quiet.ensures.keeps))

pub pass-requires-clause-ready : goal.pass-requires-clause-ready
pass-requires-clause-ready g c = let (rules, l, u, s, late, room) = c.requires.ready in (rules, l, u, whole_kept c.args.self.now c.collect_quiet.new.self c.collect_quiet.ensures.keeps c.in_ok-collect_quiet.ensures.alone rules l u s, late, room)

pub returns-clause-told : goal.returns-clause-told
returns-clause-told g c = if_ok c.pass.result (λ b told rules l u s. told rules l u (whole_kept c.args.self.now c.collect_quiet.new.self c.collect_quiet.ensures.keeps c.in_ok-collect_quiet.ensures.alone rules l u s)) c.pass.ensures.told

pub returns-clause-passed : goal.returns-clause-passed
returns-clause-passed g c = if_ok c.pass.result (λ b passed rules l u s. for_of c.pass.new.self rules _ _ (passed rules l u (whole_kept c.args.self.now c.collect_quiet.new.self c.collect_quiet.ensures.keeps c.in_ok-collect_quiet.ensures.alone rules l u s))) c.pass.ensures.passed

pub returns-clause-paid : goal.returns-clause-paid
returns-clause-paid g c = if_ok c.pass.result (λ b paid rules l u s. paid rules l u (whole_kept c.args.self.now c.collect_quiet.new.self c.collect_quiet.ensures.keeps c.in_ok-collect_quiet.ensures.alone rules l u s)) c.pass.ensures.paid

pub returns-clause-holds : goal.returns-clause-holds
returns-clause-holds g c = if_ok c.pass.result (λ b holds rules l u s. holds rules l u (whole_kept c.args.self.now c.collect_quiet.new.self c.collect_quiet.ensures.keeps c.in_ok-collect_quiet.ensures.alone rules l u s)) c.pass.ensures.holds

pub returns-clause-others : goal.returns-clause-others
returns-clause-others g c = on_ok c.pass.result (λ others rules l u s. others rules l u (whole_kept c.args.self.now c.collect_quiet.new.self c.collect_quiet.ensures.keeps c.in_ok-collect_quiet.ensures.alone rules l u s)) c.pass.ensures.others

pub returns-clause-untouched : goal.returns-clause-untouched
returns-clause-untouched g c = if_ok c.pass.result (λ b untouched rules l u s. untouched rules l u (whole_kept c.args.self.now c.collect_quiet.new.self c.collect_quiet.ensures.keeps c.in_ok-collect_quiet.ensures.alone rules l u s)) c.pass.ensures.untouched

pub returns-clause-recorded : goal.returns-clause-recorded
returns-clause-recorded g c = on_err_from c.pass.result (λ recorded rules l u s. recorded rules l u (whole_kept c.args.self.now c.collect_quiet.new.self c.collect_quiet.ensures.keeps c.in_ok-collect_quiet.ensures.alone rules l u s)) c.pass.ensures.recorded
