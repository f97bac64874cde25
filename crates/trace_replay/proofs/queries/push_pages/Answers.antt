use Rattle.std.proofs.Common.{◌<◌, ◌∙◌, ◌++◌, ap, sym, length, arith}
use Rattle.std.specs.Prelude.{unwrap_or, option_map}
use Rattle.std.specs.declared.option.Option.{Option}
use Rattle.report_text.specs.declared.Item.{Item}
use Rattle.report_text.specs.declared.Item.TheVariants.{Head}
use Rattle.report_text.specs.Report.{item_text}
use Rattle.data_agent.specs.declared.Sight.{Sight}
use Rattle.data_agent.specs.Seeing.{told_by}
use Rattle.trace_replay.specs.Asking.{item_at, sight_item}
use Rattle.trace_replay.proofs.Sums.{get_at}
use Rattle.trace_replay.proofs.Texts.{one_more}
use Rattle.trace_replay.proofs.queries.push_pages.Goals as goal

pub loop-router-preserved : goal.loop-router-preserved
loop-router-preserved c =
    let f = item_text c.args.topology.now.names in
    let r = c.loop-router.router in
    let n1 = c.requires in
    let n2 = c.routers-routers.ensures.count in
    let n3 = c.loop-router-test.true in
    let l : r < length c.args.sights.now = omega (arith, n1, n2, n3) in
    one_more f (item_at told_by c.args.sights.now c.args.line) c.args.out.now.items r _ _ c.loop-router.invariant
    (c.in_ok-push_item.ensures.text ∙ ap (λ (x : Item). c.loop-router.out.items ++ f x)
    (c.in_ok-item.ensures
    ∙ ap (λ (s : Sight). sight_item c.args.line r (told_by s)) c.index-sights-router.is
    ∙ sym (ap (λ (o : Option Sight). unwrap_or (option_map (λ (s : Sight). sight_item c.args.line r (told_by s)) o) Head) (get_at c.args.sights.now r c.index-sights-router.result l))))
