use Rattle.std.proofs.Common.{◌≡◌, ◌+◌, length, take, get_or, sym, ap, ◌∙◌, arith}
use Rattle.std.proofs.lemmas.List.{take_more, length-map, length-take-le, length_push}
use Rattle.trace_workers.specs.Jobs.{entries_at}
use Rattle.trace_workers.specs.Records.{line_at, lines_at}
use Rattle.trace_workers.proofs.Growing.{entries_more, lines_more}
use Rattle.trace_workers.proofs.work.record_lines.Goals as goal

pub loop-i-preserved : goal.loop-i-preserved
loop-i-preserved g c = let was = c.loop-i.invariant in let i = c.loop-i.i in let ps = c.args.places.now in let pages = c.loop-i.pages.items in let lines = c.args.trace.now.lines in let sigs = c.args.trace.now.sigs in
    let small = c.loop-i-test.true in
    let place = get_or ps i 0 in let page = c.record_line-page.result in
    let grown = c.push_reserved.ensures.items in
    let long : length pages ≡ length (lines_at lines (take i ps)) = was.many ∙ sym (length-take-le i ps (omega arith)) ∙ sym (length-map (take i ps) (line_at lines)) in record {
      tables = c.record_line-page.ensures.tables ∙ was.tables;
      floors = c.record_line-page.ensures.floors ∙ was.floors;
      many = ap length grown ∙ length_push pages page ∙ ap (λ n. n + 1) was.many;
      entries = λ r. entries_more (entries_at c.args.passes.now r) (entries_at c.loop-i.passes r) (entries_at c.record_line-page.new.passes r) r sigs (lines_at lines (take i ps)) (lines_at lines (take (i + 1) ps)) pages c.push_reserved.new.self.items
          (line_at lines place) page long (lines_more lines (take i ps) (take (i + 1) ps) place (take_more ps i 0 small)) grown (was.entries r) (c.record_line-page.ensures.entries r);
      room = let q = c.push_reserved.ensures.capacity in let b = was.room in omega arith;
    }
