use Rattle.std.proofs.Common.{refl, subst}
use Rattle.std.specs.Prelude.{ℕ, Err, Some, Vec}
use Rattle.std.specs.declared.alloc.Global.{Global}
use Rattle.spie_base.specs.Causes.{HasReadCause}
use Rattle.spie_base.specs.Transfer.{Took}
use Rattle.spie_base.specs.declared.ReadRefused.{ReadRefused}
use Rattle.trace_format.specs.Limits.{most_bytes}
use Rattle.spie_run.proofs.Delivery.{ran_long}
use Rattle.spie_run.proofs.top.input.Goals as goal

pub returns-in-Err-TooLong-clause-ended : goal.returns-in-Err-TooLong-clause-ended
returns-in-Err-TooLong-clause-ended g c = λ command name shelf yard yes.
    let T : ReadRefused → Type 0 = λ why. Took (g.S.Source.left c.args.source.now) (g.S.Source.left c.read_all.new.source) most_bytes (Err why) in
    let C : ReadRefused → Type 0 = λ why. HasReadCause {T = Vec ℕ Global} (g.S.Source.faults c.args.source.now) (g.S.Source.faults c.read_all.new.source) (Err why) in
    ran_long (Some command) name _ _ command refl yes c.deliver.result (subst T c.in-Err-TooLong.field-0-is (c.in-Err-TooLong.ensures).took)
    (subst C c.in-Err-TooLong.field-0-is (c.in-Err-TooLong.ensures).cause) c.deliver.ensures (refl, refl)
