use Rattle.std.proofs.Common.{◌≡◌, ◌+◌, ◌++◌, ◌∷◌, [], ◌∙◌, sym, ap, subst, arith, take, get_or, None}
use Rattle.std.proofs.lemmas.List.{take_more, take_all, get_or_default}
use Rattle.data_agent.specs.declared.finishing.Settled.{Settled}
use Rattle.page_catalogue.specs.Catalogues.{Catalogued}
use Rattle.data_agent.specs.Finishing.{settled_all}
use Rattle.data_agent.specs.Standing.{Stands}
use Rattle.data_agent.proofs.Shelving.{settled_more}
use Rattle.data_agent.proofs.Planes.{plane_then}
use Rattle.data_agent.proofs.agent.Agent.settle.Goals as goal

pub settle_one-requires : goal.settle_one-requires
settle_one-requires c =
    let one : Settled = get_or c.args.settled.now c.loop-one.one-index (record { page = record { number = 0 }; digests = None }) in
    let (rules, m, s, each) = c.requires.ready in
    let here = each one (c.loop-one.one-index, c.loop-one-test.true, get_or_default c.args.settled.now c.loop-one.one-index one (record { page = record { number = 0 }; digests = None }) c.loop-one-test.true) in
    record {
      closed = (
        rules,
        settled_all m (take c.loop-one.one-index c.args.settled.now),
        c.loop-one.invariant.settled rules m s (λ other has. (each other has).0),
        (let e : c.loop-one.self.catalogue.gone ≡ c.args.self.now.catalogue.gone = ap (λ (x : Catalogued). x.gone) c.loop-one.invariant.catalogue in let f = here.1 in omega arith),
        (let e : c.loop-one.self.page.number ≡ c.args.self.now.page.number = ap (λ p. p.number) c.loop-one.invariant.page in let f = here.2 in omega arith),
      );
    }

pub loop-one-preserved : goal.loop-one-preserved
loop-one-preserved c =
    let one : Settled = get_or c.args.settled.now c.loop-one.one-index (record { page = record { number = 0 }; digests = None }) in
    let e : take (c.loop-one.one-index + 1) c.args.settled.now ≡ take c.loop-one.one-index c.args.settled.now ++ one ∷ [] = take_more c.args.settled.now c.loop-one.one-index (record { page = record { number = 0 }; digests = None }) c.loop-one-test.true in
    record {
      catalogue = c.settle_one.ensures.rest.0 ∙ c.loop-one.invariant.catalogue;
      page = c.settle_one.ensures.rest.1 ∙ c.loop-one.invariant.page;
      noted = c.settle_one.ensures.rest.2 ∙ c.loop-one.invariant.noted;
      plane = plane_then c.args.self.now c.loop-one.self c.settle_one.new.self c.loop-one.invariant.plane c.settle_one.ensures.plane;
      settled = λ rules m s each.
          subst (λ ss. Stands c.settle_one.new.self rules (settled_all m ss)) (sym e)
          (subst (Stands c.settle_one.new.self rules) (sym (settled_more m (take c.loop-one.one-index c.args.settled.now) one))
          (c.settle_one.ensures.settled rules (settled_all m (take c.loop-one.one-index c.args.settled.now)) (c.loop-one.invariant.settled rules m s each) (each one (c.loop-one.one-index, c.loop-one-test.true, get_or_default c.args.settled.now c.loop-one.one-index one (record { page = record { number = 0 }; digests = None }) c.loop-one-test.true))));
    }

pub returns-clause-settled : goal.returns-clause-settled
returns-clause-settled c = λ rules l s each.
    subst (λ ss. Stands c.loop-one.self rules (settled_all l ss)) (take_all c.loop-one.one-index c.args.settled.now (omega (arith, c.loop-one-test.false))) (c.loop-one.invariant.settled rules l s each)
