use Rattle.std.proofs.Common.{sym, subst, arith, inl, inr, ◌≤◌, ⊎_elim}
use Rattle.spie_base.specs.declared.Rules.{Rules}
use Rattle.gate_core.specs.Acts.{inside_of}
use Rattle.page_gate.specs.Held.{Held}
use Rattle.router_account.specs.Ledger.{Ledger, Unfinished}
use Rattle.data_agent.specs.declared.agent.Agent.{Agent}
use Rattle.data_agent.specs.Beside.{Away, StandsBeside}
use Rattle.data_agent.specs.Standing.{StandsFor, StandsWhole}
use Rattle.data_agent.proofs.Leaving.{for_kept, in_slot, may_note, minds_note, whole_kept}
use Rattle.data_agent.proofs.CoveringBeside.{noted_before}
use Rattle.data_agent.proofs.Kept.{for_of}
use Rattle.data_agent.proofs.Planes.{noted_amid}
use Rattle.data_agent.proofs.Results.{on_err, on_err_from, on_ok}
use Rattle.data_agent.proofs.agent.Agent.archive.Goals as goal

pub collect_quiet-requires-clause-minds : goal.collect_quiet-requires-clause-minds
collect_quiet-requires-clause-minds g c = minds_note c.args.self.now c.requires.noted

pub note_closed-requires : goal.note_closed-requires
note_closed-requires g c = let needs = may_note c.args.self.now c.collect_quiet.new.self c.collect_quiet.ensures.keeps c.requires.noted in record { none = needs.0; knows = needs.1 }

pub returns-in_err-collect_quiet-clause-same : goal.returns-in_err-collect_quiet-clause-same
returns-in_err-collect_quiet-clause-same g c = on_err _ (for_kept c.args.self.now c.collect_quiet.new.self c.collect_quiet.ensures.keeps)

pub returns-clause-noted : goal.returns-clause-noted
returns-clause-noted g c = on_ok c.note_closed.result (λ (more, is, beside, rose). (
  more,
  noted_amid (StandsWhole c.collect_quiet.new.self) (StandsFor c.args.self.now) (StandsWhole c.note_closed.new.self) (StandsFor c.note_closed.new.self) more _ _ _
      (whole_kept c.args.self.now c.collect_quiet.new.self c.collect_quiet.ensures.keeps c.in_ok-collect_quiet.ensures.alone) (for_of c.note_closed.new.self) is,
  (λ away. noted_before c.args.self.now c.collect_quiet.new.self c.note_closed.new.self away more _ _ _ c.collect_quiet.ensures.keeps (beside away)),
  rose,
)) c.note_closed.ensures.noted

pub returns-clause-same : goal.returns-clause-same
returns-clause-same g c = on_err_from c.note_closed.result
    (λ is. subst (λ (agent : Agent). (rules : Rules) (l : Ledger) (u : Unfinished) → StandsFor c.args.self.now rules l u → StandsFor agent rules l u) (sym is)
    (for_kept c.args.self.now c.collect_quiet.new.self c.collect_quiet.ensures.keeps))
    c.note_closed.ensures.same

pub returns-clause-beside_same : goal.returns-clause-beside_same
returns-clause-beside_same g c = on_err_from c.note_closed.result
    (λ is. subst (λ (agent : Agent). (rules : Rules) (l : Ledger) (u : Unfinished) (away : Away) → StandsBeside c.args.self.now rules l u away → StandsBeside agent rules l u away) (sym is) c.collect_quiet.ensures.keeps.beside)
    c.note_closed.ensures.same

pub returns-clause-tried : goal.returns-clause-tried
returns-clause-tried g c = on_ok c.note_closed.result (λ deferred none page is.
    let (from, to) = deferred page is in
    let taken = c.in_ok-collect_quiet.ensures.alone none in
    absurd (omega arith)) c.note_closed.ensures.deferred

pub returns-clause-deferred : goal.returns-clause-deferred
returns-clause-deferred g c = on_ok c.note_closed.result (λ deferred page is.
    let (from, to) = deferred page is in
    in_slot c.collect_quiet.new.self c.note_closed.new.self page c.note_closed.ensures.plane.keeper c.collect_quiet.ensures.minds from to) c.note_closed.ensures.deferred

pub returns-clause-inside : goal.returns-clause-inside
returns-clause-inside g c = on_ok c.note_closed.result (λ deferred. ⊎_elim
    (λ taken. inl (c.note_closed.ensures.taken taken))
    (λ counted. inr (subst (λ (keeper : Held). 1 ≤ inside_of keeper.view.duties.noted) (sym c.note_closed.ensures.plane.keeper) counted))
    c.in_ok-collect_quiet.ensures.ends) c.note_closed.ensures.deferred
