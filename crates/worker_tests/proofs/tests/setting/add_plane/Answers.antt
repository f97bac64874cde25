use Rattle.std.proofs.Common.{◌≡◌, [], ◌∷◌, ◌++◌, All, refl, sym, ap, ◌∙◌, subst}
use Rattle.std.proofs.lemmas.List.Elements.{All-replicate}
use Rattle.page_gate.specs.Held.{Held, dealt_held}
use Rattle.trace_workers.specs.Columns.{HaveGot}
use Rattle.trace_workers.proofs.Readiness.{got_shares}
use Rattle.worker_tests.specs.Settings.{AreSet}
use Rattle.worker_tests.proofs.SetMore.{set_more}
use Rattle.worker_tests.proofs.tests.setting.add_plane.Goals as goal

pub returns-clause-set : goal.returns-clause-set
returns-clause-set c =
    let p = dealt_held c.in_ok-plane.keeper in
    let got : HaveGot c.args.jobs.now c.spread.new.jobs p = c.spread.ensures.got p (subst (All (λ q. q ≡ p)) (sym c.in_ok-column.ensures.passes) (All-replicate (λ q. q ≡ p) 2 p refl)) in
    let table = ap (λ (h : Held). h.table) (c.in_ok-plane.ensures.1) in
    let kept = ap (λ (h : Held). h.table) c.in_ok-column.ensures.keeper in
    subst (λ ks. AreSet c.push.new.self.items ks c.spread.new.jobs) (sym c.in_ok-push-2.ensures.items)
    (subst (λ ps. AreSet ps (c.args.keepers.now.items ++ c.deal.new.keeper ∷ []) c.spread.new.jobs) (sym c.in_ok-push.ensures.items)
    (set_more c.args.planes.now.items c.args.keepers.now.items c.args.jobs.now c.spread.new.jobs c.in_ok-plane.plane c.deal.new.keeper p c.requires.set (kept ∙ table) table got))

pub returns-clause-shares : goal.returns-clause-shares
returns-clause-shares c = λ t from to shares.
    let p = dealt_held c.in_ok-plane.keeper in
    let got : HaveGot c.args.jobs.now c.spread.new.jobs p = c.spread.ensures.got p (subst (All (λ q. q ≡ p)) (sym c.in_ok-column.ensures.passes) (All-replicate (λ q. q ≡ p) 2 p refl)) in
    got_shares t from to c.args.jobs.now c.spread.new.jobs p got shares
