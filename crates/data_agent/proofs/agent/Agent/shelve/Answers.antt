use Rattle.std.proofs.Common.{◌-◌, ap, refl, set}
use Rattle.data_agent.specs.declared.closed_page.ClosedPage.{ClosedPage}
use Rattle.data_agent.specs.declared.closed_page.Whereabouts.TheVariants.{OnShelf}
use Rattle.std.proofs.Common.{true}
use Rattle.data_agent.proofs.Shelving.{shelved}
use Rattle.data_agent.proofs.agent.Agent.shelve.Goals as goal

pub returns-clause-shelved : goal.returns-clause-shelved
returns-clause-shelved c = λ rules l s is.
    let (rules0, l0, s0, from, to) = c.requires.closed in
    shelved c.args.self.now _ rules l c.args.page.number c.args.digests s from to is refl refl refl refl refl refl
    (ap (λ f. set c.args.self.now.closed.items (c.args.page.number - f) (let p : ClosedPage = record { place = OnShelf c.args.digests; covered = true } in p)) c.first.ensures) c.drop_page.ensures
