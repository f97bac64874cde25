use Rattle.std.proofs.Common.{◌≡◌, true, subst}
use Rattle.transform_table.specs.Rows.{keeps_id}
use Rattle.transform_table.proofs.rows.row_at.Goals as goal

pub shown-old-requires : goal.shown-old-requires
shown-old-requires c = λ id keeps. c.requires c.args.place id (subst (λ o. keeps_id id o ≡ true) c.in_ok-line.ensures keeps)
