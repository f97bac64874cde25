use Rattle.std.proofs.Common.{◌≡◌, ◌+◌, ◌∙◌, sym, ap, subst, refl, arith}
use Rattle.router_account.specs.Shelves.{ShelfView}
use Rattle.shelved_page.specs.Shelving.{view_of}
use Rattle.data_agent.specs.declared.agent.Agent.{Agent}
use Rattle.data_agent.specs.Archiving.{NotesTo}
use Rattle.data_agent.proofs.Noting.{notes_none, notes_more, with_note}
use Rattle.data_agent.proofs.agent.Agent.notes.Goals as goal
use Rattle.data_agent.proofs.agent.Agent.notes.Goals.{in-Some+in_ok-push, in_default}

pub pages-init : goal.pages-init
pages-init g c =
    let agent : Agent = c.args.self.now in
    let (rules0, l0, k) = c.requires in
    let first : c.first-number.result ≡ agent.catalogue.gone = c.first-number.ensures in
    record {
      later = omega arith;
      still = refl;
      within = let w = k.within in let p = k.times.page in omega arith;
      noted = λ rules m s.
          let x : ShelfView = view_of g.H.Shelf.tells g.H.Shelf.contents g.H.Shelf.faults c.args.shelf.now in
          subst (λ n. NotesTo agent rules m agent.catalogue.gone n c.new-notes.result.items x x) (sym first)
          (subst (λ ns. NotesTo agent rules m agent.catalogue.gone agent.catalogue.gone ns x x) (sym c.new-notes.ensures.items) (notes_none agent rules m agent.catalogue.gone x));
    }

pub note-requires-clause-closed : goal.note-requires-clause-closed
note-requires-clause-closed g c =
    let agent : Agent = c.args.self.now in
    let (rules, l, k) = c.requires in
    let first : c.first-number.result ≡ agent.catalogue.gone = c.first-number.ensures in
    (omega (arith, first, c.pages.auto.number), c.pages-test.true)

pub pages-preserved : goal.pages-preserved
pages-preserved g c =
    let agent : Agent = c.args.self.now in
    let (rules0, l0, k) = c.requires in
    let first : c.first-number.result ≡ agent.catalogue.gone = c.first-number.ensures in
    let items : with_note c.pages.notes.items c.in_ok-note.field-0 ≡ c.match-branch-2.notes.items = elim c.match-branch-2.branch [
      | in-Some+in_ok-push w ↦ ap (with_note c.pages.notes.items) w.in-Some.is ∙ sym w.in_ok-push.ensures.items ∙ sym (ap (λ v. v.items) w.notes-is)
      | in_default w ↦ ap (with_note c.pages.notes.items) w.in_default.is ∙ sym (ap (λ v. v.items) w.notes-is)
    ] in
    record {
      later = omega (arith, c.pages.invariant.later, c.note.ensures.later);
      still = c.note.ensures.still ∙ c.pages.invariant.still;
      within = omega (arith, c.pages-test.true);
      noted = λ rules m s.
          let x : ShelfView = view_of g.H.Shelf.tells g.H.Shelf.contents g.H.Shelf.faults c.args.shelf.now in
          let y : ShelfView = view_of g.H.Shelf.tells g.H.Shelf.contents g.H.Shelf.faults c.pages.shelf in
          let z : ShelfView = view_of g.H.Shelf.tells g.H.Shelf.contents g.H.Shelf.faults c.note.new.shelf in
          subst (λ ns. NotesTo agent rules m agent.catalogue.gone (c.pages.number + 1) ns x z) items
          (notes_more agent rules m agent.catalogue.gone c.pages.number c.pages.notes.items c.in_ok-note.field-0 x y z (omega (arith, first, c.pages.auto.number)) (c.pages.invariant.noted rules m s) (c.in_ok-note.ensures.noted rules m s));
    }

pub returns-clause-noted : goal.returns-clause-noted
returns-clause-noted g c = λ rules m s.
    let agent : Agent = c.args.self.now in
    let x : ShelfView = view_of g.H.Shelf.tells g.H.Shelf.contents g.H.Shelf.faults c.args.shelf.now in
    let z : ShelfView = view_of g.H.Shelf.tells g.H.Shelf.contents g.H.Shelf.faults c.pages.shelf in
    let at : c.pages.number ≡ agent.page.number = omega (arith, c.pages.invariant.within, c.pages-test.false) in
    subst (λ n. NotesTo agent rules m agent.catalogue.gone n c.pages.notes.items x z) at (c.pages.invariant.noted rules m s)
