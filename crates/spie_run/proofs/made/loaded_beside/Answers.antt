use Rattle.std.proofs.Common.{◌∙◌, ap, subst}
use Rattle.trace_format.specs.declared.Trace.{Trace}
use Rattle.trace_history.specs.Workers.{IsReplayedBy}
use Rattle.trace_replay.specs.Agents.{views_of}
use Rattle.trace_replay.specs.Summary.{load_line}
use Rattle.spie_run.proofs.made.loaded_beside.Goals as goal

pub returns-clause-answers : goal.returns-clause-answers
returns-clause-answers g c = λ name input.
    let report = c.in_ok-replayed.replayed.report in
    let totals = c.in_ok-replayed.replayed.totals in
    let made = c.in_ok-trace.ensures.made in
    let shelves = views_of g.H.Shelf.tells g.H.Shelf.contents g.H.Shelf.faults c.args.shelf.now c.replay.new.shelf in
    let IsReplay : Trace → Type 0 = λ trace. IsReplayedBy c.args.workers trace report totals shelves c.replay.new.yard in
    record {
      report = report;
      totals = totals;
      is_trace = c.read_made.ensures.text;
      replayed = subst IsReplay made c.in_ok-replayed.ensures.replayed;
      says = c.in_ok-text.ensures.line ∙ ap (λ trace. load_line c.args.made.seed c.args.made.packets trace report totals) made;
    }
