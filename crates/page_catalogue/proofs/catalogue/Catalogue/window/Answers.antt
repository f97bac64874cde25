use Rattle.std.proofs.Common.{◌≡◌, ◌-◌, rules, ap, ◌∙◌}
use Rattle.page_catalogue.proofs.Windows.{window_has, window_from, window_to, window_some, from_test, to_test}
use Rattle.page_catalogue.proofs.catalogue.Catalogue.window.Goals as goal

pub returns-clause-some : goal.returns-clause-some
returns-clause-some c =
    let v = c.args.self.now in
    let same : c.deref.result.now ≡ v.closings = c.deref.ensures.value ∙ ap (λ w. w.closings) c.self.view_is in
    let same2 : c.deref-2.result.now ≡ v.closings = c.deref-2.ensures.value ∙ ap (λ w. w.closings) c.self.view_is in
    let from : c.saturating_sub-from.result ≡ c.args.time - v.rules.width = search rules in
    let a = rw same at c.count_before-first.ensures in
    let b = rw same2 at c.count_up_to-last.ensures in
    let a2 = rw from at a in
    window_some v.rules v.closings c.args.time c.count_before-first.result c.count_up_to-last.result a2.within a2.counted b.others

pub returns-clause-exact : goal.returns-clause-exact
returns-clause-exact c =
    let v = c.args.self.now in
    let same : c.deref.result.now ≡ v.closings = c.deref.ensures.value ∙ ap (λ w. w.closings) c.self.view_is in
    let same2 : c.deref-2.result.now ≡ v.closings = c.deref-2.ensures.value ∙ ap (λ w. w.closings) c.self.view_is in
    let from : c.saturating_sub-from.result ≡ c.args.time - v.rules.width = search rules in
    let a = rw same at c.count_before-first.ensures in
    let b = rw same2 at c.count_up_to-last.ensures in
    let a2 = rw from at a in
    λ p. (
      (λ h. to_test v.rules v.closings c.args.time p (window_has v.rules v.closings c.args.time c.count_before-first.result c.count_up_to-last.result b.within a2.others b.counted p h.0 h.1)),
      (λ t. let w = from_test v.rules v.closings c.args.time p t in (window_from v.rules v.closings c.args.time c.count_before-first.result a2.within a2.counted p w, window_to v.rules v.closings c.args.time c.count_up_to-last.result b.others p w)),
    )
