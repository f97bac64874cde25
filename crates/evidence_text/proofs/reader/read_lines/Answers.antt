use Rattle.std.proofs.Common.{◌≡◌, ◌+◌, [], ap, sym, ◌∙◌, true, false, Err}
use Rattle.line_text.proofs.NextLines.{read_over, read_bad}
use Rattle.line_text.proofs.Readings.{one_line, reached_count, reached_reads}
use Rattle.line_text.specs.Reading.{IsNext, refused}
use Rattle.line_text.specs.Text.{lines}
use Rattle.evidence_text.proofs.LineStops.{stops}
use Rattle.evidence_text.specs.Outcomes.{Ends, stopped}
use Rattle.evidence_text.specs.declared.refused.CheckWhy.TheVariants as why
use Rattle.evidence_text.proofs.OneReading.{Fit, reads_lines}
use Rattle.evidence_text.specs.Before.{known_of}
use Rattle.evidence_text.specs.Language.{certificates, refusals}
use Rattle.evidence_text.specs.Reading.{reader, read_lines}
use Rattle.evidence_text.specs.Order.{is_over}
use Rattle.evidence_text.proofs.reader.read_lines.Goals as goal

pub loop-front-preserved : goal.loop-front-preserved
unfolding read_lines
loop-front-preserved c =
    let next : IsNext reader c.loop-front.draft _ c.loop-front.rest.now c.in-Some.after.now = record {
      line = c.in-Some.front.now;
      cut = c.in-Some.ensures;
      before_end = ap is_over (sym c.stage.ensures) ∙ sym c.is_over.ensures ∙ c.if-is_over.false;
      reads = c.in-Ok.ensures;
    } in
    let h = one_line certificates refusals reader Fit reads_lines c.args.text.now _ _ _ _ c.loop-front.invariant.reached next in
    record {
      reached = h;
      goes = reached_reads certificates refusals reader Fit reads_lines _ _ _ h;
      short = reached_count certificates refusals reader Fit reads_lines _ _ _ h;
    }

pub returns-then-is_over : goal.returns-then-is_over
unfolding read_lines
returns-then-is_over c =
    let over : is_over c.loop-front.draft.stage ≡ true = ap is_over (sym c.stage.ensures) ∙ sym c.is_over.ensures ∙ c.if-is_over.true in
    let r : read_lines (known_of []) (lines c.args.text.now) ≡ Err (refused refusals reader c.loop-front.draft why.After) = sym c.loop-front.invariant.goes ∙ read_over refusals reader _ _ _ _ c.in-Some.ensures over in
    rw (c.at_line.ensures, c.next_line-line.ensures) r

pub returns-in-Err : goal.returns-in-Err
unfolding read_lines
returns-in-Err c =
    let open_yet : is_over c.loop-front.draft.stage ≡ false = ap is_over (sym c.stage.ensures) ∙ sym c.is_over.ensures ∙ c.if-is_over.false in
    let r : Ends (stopped c.in-Err.stop (c.loop-front.draft.read + 1)) (read_lines (known_of []) (lines c.args.text.now)) = rw (← c.loop-front.invariant.goes) (stops _ _ _ _ c.in-Err.ensures (λ why bad. read_bad refusals reader _ _ _ _ why c.in-Some.ensures open_yet bad)) in
    rw (c.at_line-in-Err.ensures, c.next_line-line.ensures) r
