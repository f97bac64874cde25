use Rattle.std.proofs.Common.{◌≡◌, ◌+◌, ◌-◌, ◌∙◌, sym, ap, subst, refl, arith, Bool, length}
use Rattle.std.proofs.lemmas.Option.{slice_get_read}
use Rattle.router_account.specs.Shelves.{ShelfView}
use Rattle.shelved_page.specs.Shelving.{view_of}
use Rattle.data_agent.specs.Expiring.{Discards, DiscardsOne, covers_at, is_covered_in}
use Rattle.data_agent.proofs.Expiry.{discards_none, discards_more, with_left}
use Rattle.data_agent.proofs.barrier.discard_pages.Goals as goal
use Rattle.data_agent.proofs.barrier.discard_pages.Goals.{then-branch+in_ok-push, else-branch}

pub pages-init : goal.pages-init
pages-init g c =
    let x : ShelfView = view_of g.H.Shelf.tells g.H.Shelf.contents g.H.Shelf.faults c.args.shelf.now in
    record {
      later = omega arith;
      still = refl;
      within = omega (arith, c.requires.some);
      discarded = subst (λ left. Discards c.args.router.number (covers_at c.args.pages.now.first.number c.args.closed.now.items) c.args.pages.now.first.number c.args.pages.now.first.number left x x) (sym c.new-left.ensures.items)
          (discards_none c.args.router.number c.args.pages.now.first.number (covers_at c.args.pages.now.first.number c.args.closed.now.items) x);
    }

pub pages-preserved : goal.pages-preserved
pages-preserved g c =
    let x : ShelfView = view_of g.H.Shelf.tells g.H.Shelf.contents g.H.Shelf.faults c.args.shelf.now in
    let y : ShelfView = view_of g.H.Shelf.tells g.H.Shelf.contents g.H.Shelf.faults c.pages.shelf in
    let z : ShelfView = view_of g.H.Shelf.tells g.H.Shelf.contents g.H.Shelf.faults c.discard_one.new.shelf in
    let covers : c.index.result.now.covered ≡ covers_at c.args.pages.now.first.number c.args.closed.now.items c.pages.number =
    sym (ap is_covered_in (slice_get_read c.args.closed.now.items (length c.args.closed.now.items) (c.pages.number - c.args.pages.now.first.number) c.index.result.now refl (omega (arith, c.requires.there, c.pages-test.true, c.requires.some)) c.index.ensures)) in
    let items : with_left c.pages.left.items (record { number = c.pages.number }) c.in_ok-discard_one.field-0 ≡ c.if-branch.left.items = elim c.if-branch.branch [
      | then-branch+in_ok-push w ↦ ap (with_left c.pages.left.items (record { number = c.pages.number })) w.if-branch.true ∙ sym w.in_ok-push.ensures.items ∙ sym (ap (λ v. v.items) w.left-is)
      | else-branch w ↦ ap (with_left c.pages.left.items (record { number = c.pages.number })) w.if-branch.false ∙ sym (ap (λ v. v.items) w.left-is)
    ] in
    record {
      later = omega (arith, c.pages.invariant.later, c.discard_one.ensures.later);
      still = c.discard_one.ensures.still ∙ c.pages.invariant.still;
      within = omega (arith, c.pages-test.true);
      discarded = subst (λ left. Discards c.args.router.number (covers_at c.args.pages.now.first.number c.args.closed.now.items) c.args.pages.now.first.number (c.pages.number + 1) left x z) items
          (discards_more c.args.router.number c.args.pages.now.first.number (covers_at c.args.pages.now.first.number c.args.closed.now.items) (record { number = c.pages.number }) c.pages.left.items c.in_ok-discard_one.field-0 x y z
          (omega (arith, c.pages.auto.number)) c.pages.invariant.discarded
          (subst (λ (b : Bool). DiscardsOne c.args.router.number c.pages.number b c.in_ok-discard_one.field-0 y z) covers c.in_ok-discard_one.ensures.discarded));
    }
