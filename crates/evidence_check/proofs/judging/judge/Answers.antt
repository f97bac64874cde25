use Rattle.std.proofs.Common.{◌∙◌, List, length, sym, subst}
use Rattle.evidence_text.specs.declared.certificates.RouterPages.{RouterPages}
use Rattle.evidence_check.specs.Firsts.{AreRouters}
use Rattle.evidence_check.specs.Sights.{AreShaped}
use Rattle.evidence_check.specs.declared.verdicts.Verdict.TheVariants.{No}
use Rattle.evidence_check.proofs.ReadyFacts.{accepts, refuses, routers_are, shaped}
use Rattle.evidence_check.proofs.YesFacts.{yes_certifies}
use Rattle.evidence_check.proofs.judging.judge.Goals as goal

pub sights_of-requires : goal.sights_of-requires
sights_of-requires c = record { shapes = subst AreShaped (sym c.items-routers.ensures) (shaped c.args.certificate.now c.requires.judgeable) }

pub first_failing-requires-clause-routers : goal.first_failing-requires-clause-routers
first_failing-requires-clause-routers c =
    let same = c.deref.ensures.value ∙ c.in_ok-sights.ensures ∙ c.items-routers.ensures in
    subst (λ (rs : List RouterPages). AreRouters (length rs) c.args.certificate.now) (sym same) (routers_are c.args.certificate.now c.requires.judgeable)

pub returns-clause-exact : goal.returns-clause-exact
returns-clause-exact c = accepts c.args.certificate.now c.accepted.result c.deref.result.now c.accepted.ensures (c.deref.ensures.value ∙ c.in_ok-sights.ensures ∙ c.items-routers.ensures) c.in_ok-found.found c.in-None.is c.in_ok-found.ensures

pub returns-clause-yes : goal.returns-clause-yes
returns-clause-yes c = yes_certifies c.args.certificate.now c.accepted.result (returns-clause-exact c)

pub returns-in-Some-clause-exact : goal.returns-in-Some-clause-exact
returns-in-Some-clause-exact c = refuses c.args.certificate.now c.line_number.result c.deref.result.now c.in-Some.failing (c.deref.ensures.value ∙ c.in_ok-sights.ensures ∙ c.items-routers.ensures) c.in_ok-found.found c.in-Some.is c.in_ok-found.ensures c.line_number.ensures

pub returns-in-Some-clause-yes : goal.returns-in-Some-clause-yes
returns-in-Some-clause-yes c = yes_certifies c.args.certificate.now (No c.line_number.result) (returns-in-Some-clause-exact c)
