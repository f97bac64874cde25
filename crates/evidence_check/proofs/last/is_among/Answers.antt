use Rattle.std.proofs.Common.{refl}
use Rattle.std.proofs.lemmas.Bool.{false≢true}
use Rattle.evidence_check.proofs.SearchFacts.{sig_found, sig_not_found}
use Rattle.evidence_check.proofs.last.is_among.Goals as goal

pub returns-in-Ok : goal.returns-in-Ok
returns-in-Ok c = ((λ t. sig_found c.args.sigs.now c.args.sig.now c.in-Ok.field-0 c.in-Ok.ensures.bound (c.in-Ok.ensures.ok c.args.sig.now)), (λ h. refl))

pub returns-in-Err : goal.returns-in-Err
returns-in-Err c = ((λ t. absurd (false≢true t)), (λ h. absurd (sig_not_found c.args.sigs.now c.args.sig.now c.in-Err.field-0 c.requires c.in-Err.ensures.position h)))
