use Rattle.std.proofs.Common.{◌+◌, List, sym, subst, arith}
use Rattle.std.proofs.Math.Seq.{take_all}
use Rattle.gate_core.specs.declared.steps.Step.{Step}
use Rattle.gate_core.specs.declared.steps.StepAnswer.{StepAnswer}
use Rattle.gate_core.specs.Play.{IsPlayed}
use Rattle.gate_core.proofs.PlayFacts.{Along, begin, along_none, along_able, along_more}
use Rattle.gate_core.proofs.playing.play.Goals as goal

pub loop-step-init : goal.loop-step-init
loop-step-init c = let steps = c.args.steps.now in let first = begin c.args.shape c.args.passes steps in record {
  along = subst (λ (replies : List StepAnswer). Along first c.args.shape c.args.passes steps 0 c.reserve.new.self replies) (sym c.in_ok-answers.ensures.items)
      (along_none c.args.shape c.args.passes steps c.in_ok-state.state c.reserve.new.self c.in_ok-state.ensures c.in_ok-reserve.ensures.ok);
  place = c.in_ok-answers.ensures.len;
  capacity = c.in_ok-answers.ensures.exact;
}

pub step-requires-clause-able : goal.step-requires-clause-able
step-requires-clause-able c = along_able c.args.shape c.args.passes c.args.steps.now c.loop-step.step-index _ c.loop-step-test.true c.requires.steps c.requires.pages c.loop-step.state c.loop-step.answers.items c.loop-step.invariant.along

pub loop-step-preserved : goal.loop-step-preserved
loop-step-preserved c = let steps = c.args.steps.now in let first = begin c.args.shape c.args.passes steps in record {
  along = subst (λ (replies : List StepAnswer). Along first c.args.shape c.args.passes steps (c.loop-step.step-index + 1) c.step.new.self replies) (sym c.push_reserved.ensures.items)
      (along_more c.args.shape c.args.passes steps c.loop-step.step-index _ c.loop-step-test.true c.requires.steps c.requires.pages c.loop-step.state c.loop-step.answers.items c.loop-step.invariant.along c.step.new.self c.step.result c.step.ensures);
  place = omega arith;
  capacity = omega arith;
}

pub returns : goal.returns
returns c = let steps = c.args.steps.now in let first = begin c.args.shape c.args.passes steps in
    subst (λ (replies : List StepAnswer). IsPlayed first steps c.loop-step.state replies) (sym c.of.ensures)
    (subst (λ (ss : List Step). IsPlayed first ss c.loop-step.state c.loop-step.answers.items) (take_all c.loop-step.step-index steps c.loop-step-test.false) c.loop-step.invariant.along.played)
