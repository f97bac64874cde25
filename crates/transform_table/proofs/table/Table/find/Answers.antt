use Rattle.std.proofs.Common.{◌∙◌, ap, arith}
use Rattle.transform_table.specs.Tables.{with_key}
use Rattle.transform_table.specs.Chained.{bucket_at}
use Rattle.transform_table.proofs.Tabled.{ids_held, key_chain}
use Rattle.transform_table.proofs.table.Table.find.Goals as goal

pub invariant_of-result : goal.invariant_of-result
invariant_of-result c = let t = c.self.inside in let f = t.filing in ids_held f.rows f.all f.buckets f.pages t.olds c.self.invariant

pub returns : goal.returns
returns c =
    let t = c.self.inside in let f = t.filing in let i = c.self.invariant in
    key_chain f.rows f.all f.buckets f.pages t.olds i c.args.key _
    (c.places.ensures.all (bucket_at f.rows) i.order i.stands.listed.distinct (omega (arith, i.stands.listed.count, c.len.ensures)) i.stands.in_buckets) ∙ ap (with_key c.args.key) c.self.view_is
