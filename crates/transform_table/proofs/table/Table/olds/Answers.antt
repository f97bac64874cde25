use Rattle.std.proofs.Common.{◌∙◌, ap}
use Rattle.transform_table.specs.Tables.{different_olds}
use Rattle.transform_table.proofs.Olds.{olds_counted}
use Rattle.transform_table.proofs.table.Table.olds.Goals as goal

pub returns : goal.returns
returns c =
    let t = c.self.inside in let f = t.filing in
    c.len.ensures.count ∙ olds_counted f.rows f.all f.buckets f.pages t.olds c.self.invariant c.len.ensures.used c.len.ensures.different ∙ ap different_olds c.self.view_is
