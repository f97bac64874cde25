use Rattle.std.proofs.Common.{refl, sym, ap, ◌∙◌, ◌≡◌, ◌+◌, arith, inl, inr}
use Rattle.std.proofs.lemmas.Bool.{false≢true}
use Rattle.data_agent.specs.Standing.{standing}
use Rattle.data_agent.proofs.Leaving.{keeps_same, keeps_then}
use Rattle.data_agent.proofs.agent.Agent.collect_quiet.Goals as goal

pub pages-init : goal.pages-init
pages-init c =
    let order = c.requires.minds.minding.order in
    record {
      own = c.requires.own;
      minds = c.requires.minds;
      keeps = keeps_same c.args.self.now;
      here = sym c.standing-from.ensures;
      within = omega (arith, c.standing-from.ensures);
      out = refl;
    }

pub is_oldest_quiet-requires-clause-some : goal.is_oldest_quiet-requires-clause-some
is_oldest_quiet-requires-clause-some c =
    let page : c.pages.self.page.number ≡ c.args.self.now.page.number = ap (λ p. p.number) c.pages.invariant.keeps.rest.page in
    omega (arith, c.pages.invariant.here, c.pages-test.true)

pub collect_oldest-requires-clause-some : goal.collect_oldest-requires-clause-some
collect_oldest-requires-clause-some c =
    let before : c.pages.self.page.number ≡ c.args.self.now.page.number = ap (λ p. p.number) c.pages.invariant.keeps.rest.page in
    let after : c.is_oldest_quiet.new.self.page.number ≡ c.pages.self.page.number = ap (λ p. p.number) c.is_oldest_quiet.ensures.keeps.rest.page in
    omega (arith, c.is_oldest_quiet.ensures.standing, c.pages.invariant.here, c.pages-test.true)

pub pages-preserved : goal.pages-preserved
pages-preserved c = record {
  own = c.collect_oldest.ensures.own;
  minds = c.collect_oldest.ensures.minds;
  keeps = keeps_then c.args.self.now c.is_oldest_quiet.new.self c.collect_oldest.new.self
      (keeps_then c.args.self.now c.pages.self c.is_oldest_quiet.new.self c.pages.invariant.keeps c.is_oldest_quiet.ensures.keeps) c.collect_oldest.ensures.keeps;
  here = c.in_ok-collect_oldest.ensures.one ∙ ap (λ n. n + 1) (c.is_oldest_quiet.ensures.standing ∙ c.pages.invariant.here);
  within = omega (arith, c.pages-test.true);
  out = c.collect_oldest.ensures.out ∙ c.is_oldest_quiet.ensures.out ∙ c.pages.invariant.out;
}

pub returns-then-not-is_oldest_quiet-clause-keeps : goal.returns-then-not-is_oldest_quiet-clause-keeps
returns-then-not-is_oldest_quiet-clause-keeps c = keeps_then c.args.self.now c.pages.self c.is_oldest_quiet.new.self c.pages.invariant.keeps c.is_oldest_quiet.ensures.keeps

pub returns-in_err-collect_oldest-clause-keeps : goal.returns-in_err-collect_oldest-clause-keeps
returns-in_err-collect_oldest-clause-keeps c =
    keeps_then c.args.self.now c.is_oldest_quiet.new.self c.collect_oldest.new.self
    (keeps_then c.args.self.now c.pages.self c.is_oldest_quiet.new.self c.pages.invariant.keeps c.is_oldest_quiet.ensures.keeps) c.collect_oldest.ensures.keeps

pub returns-then-not-is_oldest_quiet-clause-ends : goal.returns-then-not-is_oldest_quiet-clause-ends
returns-then-not-is_oldest_quiet-clause-ends c = inr (c.is_oldest_quiet.ensures.inside c.if-not-is_oldest_quiet.true)

pub returns-clause-ends : goal.returns-clause-ends
returns-clause-ends c =
    let page : c.pages.self.page.number ≡ c.args.self.now.page.number = ap (λ p. p.number) c.pages.invariant.keeps.rest.page in
    let taken : standing c.pages.self ≡ c.pages.self.page.number = omega (arith, c.pages.invariant.here, c.pages.invariant.within, c.pages-test.false) in
    inl taken

pub returns-then-not-is_oldest_quiet-clause-alone : goal.returns-then-not-is_oldest_quiet-clause-alone
returns-then-not-is_oldest_quiet-clause-alone c = λ none.
    let yes = c.is_oldest_quiet.ensures.alone (c.pages.invariant.out ∙ none) in
    absurd (false≢true (sym c.if-not-is_oldest_quiet.true ∙ yes))

pub returns-clause-alone : goal.returns-clause-alone
returns-clause-alone c = λ none.
    let page : c.pages.self.page.number ≡ c.args.self.now.page.number = ap (λ p. p.number) c.pages.invariant.keeps.rest.page in
    omega (arith, c.pages.invariant.here, c.pages.invariant.within, c.pages-test.false)
