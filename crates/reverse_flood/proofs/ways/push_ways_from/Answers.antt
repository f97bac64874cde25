use Rattle.std.proofs.Common.{◌∙◌, [], refl, unwrap_or}
use Rattle.reverse_flood.specs.Found.{found_net, is_inner, is_outer}
use Rattle.reverse_flood.specs.Search.{cell_at, found_in, is_known, rows_in}
use Rattle.reverse_flood.specs.Flood.{is_within}
use Rattle.reverse_flood.proofs.CellFacts.{found_ascend}
use Rattle.reverse_flood.proofs.OriginFacts.{adds_ways, origins_ordered, row_same}
use Rattle.reverse_flood.proofs.ways.push_ways_from.Goals as goal

pub push_all_ways-requires-clause-origins : goal.push_all_ways-requires-clause-origins
push_all_ways-requires-clause-origins c =
    let s = c.args.search.now in
    row_same (rows_in s) (unwrap_or (found_in s c.args.lead.node) []) c.deref.result.now (c.deref.ensures.value ∙ c.in_ok-put_origins.ensures)

pub push_all_ways-requires-clause-ascend : goal.push_all_ways-requires-clause-ascend
push_all_ways-requires-clause-ascend c =
    let s = c.args.search.now in
    let n = c.args.lead.node in
    origins_ordered (rows_in s) (unwrap_or (found_in s n) []) c.deref.result.now (c.deref.ensures.value ∙ c.in_ok-put_origins.ensures)
    (found_ascend s.changed.items n.sig (cell_at s n) c.requires.fine.ascend)

pub returns-clause-inner : goal.returns-clause-inner
returns-clause-inner c =
    let s = c.args.search.now in
    let net = found_net (found_in s) c.args.topology.now in
    let test = is_inner (is_within c.args.topology.now c.args.bound) (is_known s) in
    adds_ways net c.args.topology.now.links test test c.args.lead.node (rows_in s) (unwrap_or (found_in s c.args.lead.node) []) c.deref.result.now _ _ refl refl (c.deref.ensures.value ∙ c.in_ok-put_origins.ensures)
    (λ n linked. refl)
    c.in_ok-push_all_ways.ensures.inner

pub returns-clause-outer : goal.returns-clause-outer
returns-clause-outer c =
    let s = c.args.search.now in
    let net = found_net (found_in s) c.args.topology.now in
    let test = is_outer (is_within c.args.topology.now c.args.bound) in
    adds_ways net c.args.topology.now.links test test c.args.lead.node (rows_in s) (unwrap_or (found_in s c.args.lead.node) []) c.deref.result.now _ _ refl refl (c.deref.ensures.value ∙ c.in_ok-put_origins.ensures)
    (λ n linked. refl)
    c.in_ok-push_all_ways.ensures.outer
