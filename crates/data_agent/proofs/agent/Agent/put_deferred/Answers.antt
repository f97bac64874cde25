use Rattle.std.proofs.Common.{◌≡◌, ◌∙◌, true, sym, subst}
use Rattle.std.proofs.lemmas.Bool.{false≢true}
use Rattle.router_account.specs.Shelves.{ShelfView}
use Rattle.shelved_page.specs.Shelving.{view_of}
use Rattle.data_agent.specs.declared.agent.Agent.{Agent}
use Rattle.data_agent.specs.declared.archival.Note.{Note}
use Rattle.data_agent.specs.Archiving.{NotesOne}
use Rattle.data_agent.specs.Standing.{is_deferred}
use Rattle.data_agent.proofs.Deferring.{deferred_put}
use Rattle.data_agent.proofs.Kept.{knows_whole}
use Rattle.data_agent.proofs.agent.Agent.put_deferred.Goals as goal

pub returns-in-Some-clause-put : goal.returns-in-Some-clause-put
returns-in-Some-clause-put g c = λ rules l s unput is.
    let (rules0, l0, s0, from, to) = c.requires.closed in
    let agent : Agent = c.args.self.now in
    let note : Note = c.args.note.now in
    let x : ShelfView = view_of g.H.Shelf.tells g.H.Shelf.contents g.H.Shelf.faults c.args.shelf.now in
    let z : ShelfView = view_of g.H.Shelf.tells g.H.Shelf.contents g.H.Shelf.faults c.note.new.shelf in
    let deferred : is_deferred note ≡ true = sym c.is_deferred.ensures ∙ c.if-not-is_deferred.false in
    let one = subst (λ n. NotesOne agent rules l note.page.number n x z) c.in-Some.is (c.in_ok-new.ensures.noted rules l (knows_whole agent rules l s)) in
    deferred_put agent rules l note c.in-Some.new x z s from to deferred one

pub returns-in-None-clause-put : goal.returns-in-None-clause-put
returns-in-None-clause-put g c = λ rules l s unput is.
    let agent : Agent = c.args.self.now in
    let x : ShelfView = view_of g.H.Shelf.tells g.H.Shelf.contents g.H.Shelf.faults c.args.shelf.now in
    let z : ShelfView = view_of g.H.Shelf.tells g.H.Shelf.contents g.H.Shelf.faults c.note.new.shelf in
    let one = subst (λ n. NotesOne agent rules l c.args.note.now.page.number n x z) c.in-None.is (c.in_ok-new.ensures.noted rules l (knows_whole agent rules l s)) in
    absurd (false≢true (sym unput ∙ one.0))
