use Rattle.std.proofs.Common.{◌≡◌, ◌-◌, ◌^◌, ◌⊎◌, All, List, None, refl, ap, subst, sym, ◌∙◌}
use Rattle.spie_base.specs.declared.PageShape.{PageShape}
use Rattle.page_gate.specs.Held.{Held, PassHeld, WasAlone}
use Rattle.router_account.specs.Ledger.{Ledger}
use Rattle.router_account.specs.Records.{ArePageBits}
use Rattle.router_account.specs.Watches.{shows}
use Rattle.data_agent.specs.declared.agent.Agent.{Agent}
use Rattle.data_agent.specs.Beside.{AreBelow}
use Rattle.data_agent.specs.Standing.{StandsFor}
use Rattle.data_agent.proofs.Besides.{own_beside}
use Rattle.data_agent.proofs.Gathering.{gathered_home, gathered_stands, put_gathered, shown_gathered}
use Rattle.data_agent.proofs.Planes.{own_bare}
use Rattle.data_agent.proofs.agent.Agent.gather.Goals as goal

pub returns-clause-own : goal.returns-clause-own
returns-clause-own c = own_bare c.args.plane.now c.args.self.now _ c.requires.own (ap (λ (k : Held). k.table) c.gather_passes.ensures.gathered ∙ gathered_home c.args.self.now.keeper c.args.passes.items) refl refl refl

pub returns-clause-stands : goal.returns-clause-stands
returns-clause-stands c = λ rules l u away s from after g.
    let told = c.gather_passes.ensures in
    let k = c.gather_passes.new.keeper in
    let alone = subst (λ (x : PageShape). WasAlone x k.view) (own_beside c.args.plane.now c.args.self.now rules l u away c.requires.own s) told.alone in
    let new : Agent = record c.args.self.now { keeper = k; marked = c.most_marked-self.result; copied = None } in
    let bound = subst (λ (ps : List PassHeld). (c.most_marked-self.result ≡ 2 ^ 32 - 1)
    ⊎ ((c.most_marked-self.result ≡ c.args.self.now.marked) × All (λ (p : PassHeld). AreBelow c.args.self.now.page.number p.entries) ps)) c.deref.ensures.value c.most_marked-self.ensures in
    subst (λ (m : Ledger). StandsFor new rules m u) (sym g.rest)
    (gathered_stands c.args.self.now k c.args.passes.items rules l u away s told.gathered told.entries alone told.rise from after.account.entries g.members c.most_marked-self.result bound told.none_out)

pub returns-clause-bits : goal.returns-clause-bits
returns-clause-bits c = λ rules l u away s from after g.
    let told = c.gather_passes.ensures in
    let k = c.gather_passes.new.keeper in
    let alone = subst (λ (x : PageShape). WasAlone x k.view) (own_beside c.args.plane.now c.args.self.now rules l u away c.requires.own s) told.alone in
    subst (λ (m : Ledger). ArePageBits rules m.account u) (sym g.rest)
    (put_gathered c.args.self.now k c.args.passes.items rules l u away s told.gathered told.entries alone told.rise from after.account.entries g.members)

pub returns-clause-shown : goal.returns-clause-shown
returns-clause-shown c = λ rules l u away s from after g page sig read.
    let told = c.gather_passes.ensures in
    let k = c.gather_passes.new.keeper in
    let alone = subst (λ (x : PageShape). WasAlone x k.view) (own_beside c.args.plane.now c.args.self.now rules l u away c.requires.own s) told.alone in
    ap (λ (m : Ledger). shows rules m.account sig page) g.rest
    ∙ shown_gathered c.args.self.now k c.args.passes.items rules l u away s told.gathered told.entries alone told.rise from after.account.entries g.members page sig read
