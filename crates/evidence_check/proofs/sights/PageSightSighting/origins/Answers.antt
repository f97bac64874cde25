use Rattle.std.proofs.Common.{◌≡◌, ◌∙◌, ◌∷◌, List, sym, ap, subst}
use Rattle.std.specs.List.{Contains, flat_map}
use Rattle.std.specs.List.Sorted.{IsStrictlySortedBy}
use Rattle.spie_base.proofs.Membership.{has_first}
use Rattle.spie_base.specs.Ascending.{in_order}
use Rattle.spie_base.specs.Order.{sig_cmp}
use Rattle.spie_base.specs.declared.Sig.{Sig}
use Rattle.used_pages.specs.UsedPages.{origins_of, rows_undone, undone}
use Rattle.evidence_text.specs.declared.certificates.RouterPages.{RouterPages}
use Rattle.evidence_check.specs.Evidence.{stated_pages}
use Rattle.evidence_check.proofs.SightFacts.{gathered, origins_are, sigs_ascend, sigs_have}
use Rattle.evidence_check.proofs.sights.PageSightSighting.origins.Goals as goal

pub returns-clause-exact : goal.returns-clause-exact
returns-clause-exact c =
    let all : c.add_rows.new.self.olds ≡ c.args.sig.now ∷ rows_undone c.args.sig.now c.self.inside.rows =
    gathered c.args.sig.now c.in_ok-origins.origins.sig c.in_ok-origins.origins.olds c.add_rows.new.self.olds c.self.inside.rows c.in_ok-origins.ensures.sig c.in_ok-origins.ensures.itself c.in_ok-add_rows.ensures.more in
    c.into_ascending.ensures ∙ ap (in_order sig_cmp) all ∙ origins_are c.self.inside.router.now c.self.inside.rows c.args.sig.now c.self.invariant
    ∙ ap (λ (r : RouterPages). in_order sig_cmp (origins_of (stated_pages r) c.args.sig.now)) (c.self.view_is)

pub returns-clause-ascending : goal.returns-clause-ascending
returns-clause-ascending c = subst (IsStrictlySortedBy sig_cmp) (sym c.into_ascending.ensures) (sigs_ascend c.add_rows.new.self.olds)

pub returns-clause-itself : goal.returns-clause-itself
returns-clause-itself c =
    let h = sigs_have (origins_of (stated_pages c.args.self.now) c.args.sig.now) c.args.sig.now in
    subst (λ (found : List Sig). Contains found c.args.sig.now) (sym (returns-clause-exact c)) (h.1 (has_first c.args.sig.now (flat_map (undone c.args.sig.now) (stated_pages c.args.self.now))))
