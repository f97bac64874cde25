-- A history has one report.
use Rattle.std.proofs.Common.{ℕ, ◌≡◌, ◌∷◌, [], ◌++◌, ◌∙◌, List, map, sym, ap}
use Rattle.std.specs.List.{flat_map}
use Rattle.reverse_flood.specs.declared.Graph.{Graph}
use Rattle.reverse_flood.proofs.Unique.{flood_same}
use Rattle.report_text.specs.declared.Item.{Item}
use Rattle.report_text.specs.declared.Item.TheVariants.{Query}
use Rattle.trace_format.specs.declared.Trace.{Trace}
use Rattle.trace_history.specs.History.{Event, recorded, rotated, archived, watched, ticked, queried, ended, History, QueryRun}
use Rattle.trace_history.specs.Laws.{ReportIsOne}
use Rattle.trace_history.specs.Report.{AreItems, AreQueryItems, left_items, pages_item, graph_items}
use Rattle.trace_history.specs.Routers.{routers, rules_of}
use Rattle.trace_history.specs.Sights.{net_at, start_of}

-- a query has one graph, and so one answer
one_query : (t : Trace) (history : History) (line : ℕ) (query : QueryRun) (left : ℕ → List ℕ) (items other : List Item) → AreQueryItems t history line query left items → AreQueryItems t history line query left other → items ≡ other
one_query t history line query left items other a b =
    let same = flood_same (net_at (rules_of t) t.topology history query) (start_of query) a.0 b.0 a.1 b.1 in
    let text : Graph → List Item = λ graph. Query line ∷ flat_map (left_items line left) (routers t) ++ map (pages_item t history line query) (routers t) ++ graph_items line graph in
    a.2 ∙ ap text same ∙ sym b.2

one_answer : (t : Trace) (before after : History) (line : ℕ) (event : Event) (items other : List Item) → AreItems t before after line event items → AreItems t before after line event other → items ≡ other
one_answer t before after line (recorded hop page) items other a b = a ∙ sym b
one_answer t before after line (rotated router page) items other a b = a ∙ sym b
one_answer t before after line (archived router put kept) items other a b = a ∙ sym b
one_answer t before after line (watched router sig answer) items other a b = a ∙ sym b
one_answer t before after line (ticked time left) items other a b = a ∙ sym b
one_answer t before after line (queried query left) items other a b = one_query t after line query left items other a b
one_answer t before after line (ended left) items other a b = a ∙ sym b

pub one_report : ReportIsOne
one_report t [] items other a b = a ∙ sym b
one_report t (moment ∷ history) items other a b =
    let front = one_report t history a.0 b.0 a.2 b.2 in
    let answer = one_answer t history (moment ∷ history) moment.line moment.event a.1 b.1 a.3 b.3 in
    a.4 ∙ ap (λ l. l ++ a.1) front ∙ ap (λ l. b.0 ++ l) answer ∙ sym b.4
