use Rattle.std.proofs.Common.{◌++◌, ap, ◌∙◌, append_assoc}
use Rattle.std.specs.List.{flat_map, range_with_len}
use Rattle.play_script.proofs.Counts.{pages_more}
use Rattle.play_script.specs.Report.{page_line}
use Rattle.play_script.proofs.pages.push_pages.Goals as goal

pub loop-page-preserved : goal.loop-page-preserved
loop-page-preserved c = rw (pages_more (page_line c.args.state.now) c.loop-page.page) (c.in_ok-push_page.ensures ∙ ap (λ z. z ++ page_line c.args.state.now c.loop-page.page) c.loop-page.invariant ∙ append_assoc c.args.out.now.items (flat_map (page_line c.args.state.now) (range_with_len 0 c.loop-page.page)) (page_line c.args.state.now c.loop-page.page))
