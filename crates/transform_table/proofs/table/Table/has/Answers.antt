use Rattle.std.proofs.Common.{◌≡◌, [], ◌∷◌, ◌∙◌, subst}
use Rattle.std.specs.Prelude.{MatchOption}
use Rattle.transform_table.specs.Tables.{has_key}
use Rattle.transform_table.proofs.Olds.{first_passes}
use Rattle.transform_table.proofs.table.Table.has.Goals as goal

pub returns : goal.returns
returns c =
    let rest = c.next.new.self in
    c.is_some.ensures
    ∙ first_passes (has_key c.args.key) c.args.self.now c.next.result rest
    (subst (λ l. MatchOption c.next.result ((l ≡ []) × (rest ≡ [])) (λ x. l ≡ x ∷ rest)) c.find.ensures c.next.ensures.steps)
