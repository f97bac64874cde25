use Rattle.std.proofs.Common.{◌≡◌, ◌+◌, ◌++◌, ◌∷◌, [], ◌∙◌, sym, subst, arith, take, get_or}
use Rattle.std.proofs.lemmas.List.{take_more, get_or_default}
use Rattle.router_account.specs.Shelves.{ShelfView}
use Rattle.shelved_page.specs.Shelving.{view_of}
use Rattle.data_agent.specs.declared.archival.Note.{Note}
use Rattle.data_agent.specs.declared.archival.NotedBits.TheVariants.{Stored}
use Rattle.data_agent.specs.Finishing.{PutsAllDeferred}
use Rattle.data_agent.proofs.Deferring.{deferred_more}
use Rattle.data_agent.proofs.agent.Agent.put_all_deferred.Goals as goal

pub loop-note-preserved : goal.loop-note-preserved
loop-note-preserved g c =
    let x : ShelfView = view_of g.H.Shelf.tells g.H.Shelf.contents g.H.Shelf.faults c.args.shelf.now in
    let y : ShelfView = view_of g.H.Shelf.tells g.H.Shelf.contents g.H.Shelf.faults c.loop-note.shelf in
    let z : ShelfView = view_of g.H.Shelf.tells g.H.Shelf.contents g.H.Shelf.faults c.put_deferred.new.shelf in
    let none : Note = record { page = record { number = 0 }; bits = Stored [] } in
    let note : Note = get_or c.args.notes.now c.loop-note.note-index none in
    let e : take (c.loop-note.note-index + 1) c.args.notes.now ≡ take c.loop-note.note-index c.args.notes.now ++ note ∷ [] = take_more c.args.notes.now c.loop-note.note-index none c.loop-note-test.true in
    record {
      later = omega (arith, c.loop-note.invariant.later, c.put_deferred.ensures.later);
      still = c.put_deferred.ensures.still ∙ c.loop-note.invariant.still;
      put = λ rules m s each.
          let here = each note (c.loop-note.note-index, c.loop-note-test.true, get_or_default c.args.notes.now c.loop-note.note-index note none c.loop-note-test.true) in
          subst (λ ns. PutsAllDeferred rules m.account ns c.push.new.self.items x z) (sym e)
          (subst (λ ss. PutsAllDeferred rules m.account (take c.loop-note.note-index c.args.notes.now ++ note ∷ []) ss x z) (sym c.in_ok-push.ensures.items)
          (deferred_more rules m.account (take c.loop-note.note-index c.args.notes.now) c.loop-note.new.items note c.in_ok-put_deferred.field-0 x y z (c.loop-note.invariant.put rules m s each)
          (c.in_ok-put_deferred.ensures.put rules m s here.0 here.1)));
    }
