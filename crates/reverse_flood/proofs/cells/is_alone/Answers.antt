use Rattle.std.proofs.Common.{◌∙◌, [], sym, arith}
use Rattle.reverse_flood.proofs.CellFacts.{one_item}
use Rattle.reverse_flood.proofs.cells.is_alone.Goals as goal

pub returns-in-len1 : goal.returns-in-len1
returns-in-len1 c = λ h.
    let least = c.in-len1.len_at_least in
    let below = c.in-len1.len_below in
    one_item c.args.origins.now c.args.sig.now (record { bytes = [] }) (omega (arith, least, below)) (sym c.eq.ensures ∙ h)
