use Rattle.std.proofs.Common.{◌∙◌, ap, subst, refl, arith}
use Rattle.std.specs.List.{Contains}
use Rattle.router_account.specs.Shelves.{ShelfView}
use Rattle.shelved_page.specs.Shelving.{view_of}
use Rattle.data_agent.specs.declared.archival.Note.{Note}
use Rattle.data_agent.specs.Finishing.{FinishesTo, PutsAllDeferred, pages_kept, pages_put, settled_all}
use Rattle.data_agent.specs.Standing.{HasNotes, Stands}
use Rattle.data_agent.proofs.Deferring.{finished_behind, noted_deferred}
use Rattle.data_agent.proofs.Staying.{stands_same}
use Rattle.data_agent.proofs.Ended.{noted_needs, settled_of}
use Rattle.data_agent.proofs.agent.Agent.finish.Goals as goal

pub put_all_deferred-requires : goal.put_all_deferred-requires
put_all_deferred-requires g c = record {
  closed = λ note has.
      let (rules, l, u, s) = c.requires in
      let needs = noted_needs c.args.self.now rules l u l.closed_at_archive c.in-Some.noted note s.stands (subst (HasNotes rules l u l.closed_at_archive) c.in-Some.is s.noted) (subst (λ ns. Contains ns note) c.deref.ensures.value has) in
      (rules, l, s.stands, needs.0, needs.1);
}

pub finish_all-requires : goal.finish_all-requires
finish_all-requires g c = record {
  closed = λ note has.
      let (rules, l, u, s) = c.requires in
      let x : ShelfView = view_of g.H.Shelf.tells g.H.Shelf.contents g.H.Shelf.faults c.args.shelf.now in
      let y : ShelfView = view_of g.H.Shelf.tells g.H.Shelf.contents g.H.Shelf.faults c.put_all_deferred.new.shelf in
      let noted = subst (HasNotes rules l u l.closed_at_archive) c.in-Some.is s.noted in
      let d : PutsAllDeferred rules l.account c.in-Some.noted.items c.in_ok-notes.notes.items x y = subst (λ ns. PutsAllDeferred rules l.account ns c.in_ok-notes.notes.items x y) c.deref.ensures.value
      (c.in_ok-notes.ensures.put rules l s.stands (λ old had. let n = noted_needs c.args.self.now rules l u l.closed_at_archive c.in-Some.noted old s.stands noted (subst (λ ns. Contains ns old) c.deref.ensures.value had) in (n.2, n.3))) in
      let needs = noted_needs c.args.self.now rules l _ l.closed_at_archive c.in_ok-notes.notes note s.stands (noted_deferred rules l u l.closed_at_archive c.in-Some.noted c.in_ok-notes.notes x y noted d) (subst (λ ns. Contains ns note) c.deref-2.ensures.value has) in
      (rules, l, s.stands, needs.0, needs.1);
}

pub settle-requires : goal.settle-requires
settle-requires g c =
    let (rules, l, u, s) = c.requires in
    let x : ShelfView = view_of g.H.Shelf.tells g.H.Shelf.contents g.H.Shelf.faults c.args.shelf.now in
    let y : ShelfView = view_of g.H.Shelf.tells g.H.Shelf.contents g.H.Shelf.faults c.put_all_deferred.new.shelf in
    let noted = subst (HasNotes rules l u l.closed_at_archive) c.in-Some.is s.noted in
    let d : PutsAllDeferred rules l.account c.in-Some.noted.items c.in_ok-notes.notes.items x y = subst (λ ns. PutsAllDeferred rules l.account ns c.in_ok-notes.notes.items x y) c.deref.ensures.value
    (c.in_ok-notes.ensures.put rules l s.stands (λ old had. let n = noted_needs c.args.self.now rules l u l.closed_at_archive c.in-Some.noted old s.stands noted (subst (λ ns. Contains ns old) c.deref.ensures.value had) in (n.2, n.3))) in
    let notes = noted_deferred rules l u l.closed_at_archive c.in-Some.noted c.in_ok-notes.notes x y noted d in
    let needs = λ (note : Note) (has : Contains c.in_ok-notes.notes.items note). noted_needs c.args.self.now rules l _ l.closed_at_archive c.in_ok-notes.notes note s.stands notes has in
    let f0 = c.in_ok-settled.ensures.finished rules l s.stands
    (λ note has. let had = subst (λ ns. Contains ns note) c.deref-2.ensures.value has in let n = needs note had in (n.2, n.3, d.known note had)) in
    record {
      ready = (
        rules,
        l,
        s.stands,
        λ one has.
            let has_it = subst (λ ss. Contains ss one) c.deref-5.ensures.value has in
            let (note, noted_it, at) = settled_of c.deref-2.result.now c.in_ok-settled.settled.items one f0.pages has_it in
            let n = needs note (subst (λ ns. Contains ns note) c.deref-2.ensures.value noted_it) in
            (f0.each one has_it, (let from = n.0 in omega arith), (let to = n.1 in omega arith)),
      );
    }

pub returns-clause-finished : goal.returns-clause-finished
returns-clause-finished g c = λ rules l u s.
    let x : ShelfView = view_of g.H.Shelf.tells g.H.Shelf.contents g.H.Shelf.faults c.args.shelf.now in
    let y : ShelfView = view_of g.H.Shelf.tells g.H.Shelf.contents g.H.Shelf.faults c.put_all_deferred.new.shelf in
    let noted = subst (HasNotes rules l u l.closed_at_archive) c.in-Some.is s.noted in
    let d : PutsAllDeferred rules l.account c.in-Some.noted.items c.in_ok-notes.notes.items x y = subst (λ ns. PutsAllDeferred rules l.account ns c.in_ok-notes.notes.items x y) c.deref.ensures.value
    (c.in_ok-notes.ensures.put rules l s.stands (λ old had. let n = noted_needs c.args.self.now rules l u l.closed_at_archive c.in-Some.noted old s.stands noted (subst (λ ns. Contains ns old) c.deref.ensures.value had) in (n.2, n.3))) in
    let notes = noted_deferred rules l u l.closed_at_archive c.in-Some.noted c.in_ok-notes.notes x y noted d in
    let needs = λ (note : Note) (has : Contains c.in_ok-notes.notes.items note). noted_needs c.args.self.now rules l _ l.closed_at_archive c.in_ok-notes.notes note s.stands notes has in
    let f0 = c.in_ok-settled.ensures.finished rules l s.stands
    (λ note has. let had = subst (λ ns. Contains ns note) c.deref-2.ensures.value has in let n = needs note had in (n.2, n.3, d.known note had)) in
    let z : ShelfView = view_of g.H.Shelf.tells g.H.Shelf.contents g.H.Shelf.faults c.finish_all.new.shelf in
    let f : FinishesTo rules l.account c.in_ok-notes.notes.items c.in_ok-settled.settled.items y z = subst (λ ns. FinishesTo rules l.account ns c.in_ok-settled.settled.items y z) c.deref-2.ensures.value f0 in
    let stands : Stands c.settle.new.self rules (settled_all l c.in_ok-settled.settled.items) =
    subst (λ ss. Stands c.settle.new.self rules (settled_all l ss)) c.deref-5.ensures.value
    (c.settle.ensures.settled rules l s.stands (λ one has. f.each one (subst (λ ss. Contains ss one) c.deref-5.ensures.value has))) in
    finished_behind c.args.self.now _ rules l u l.closed_at_archive c.in-Some.noted c.in_ok-notes.notes c.in_ok-settled.settled.items _ x y z s.stands refl noted d f
    (stands_same c.settle.new.self _ rules (settled_all l c.in_ok-settled.settled.items) stands refl refl refl refl refl refl refl refl refl refl refl) refl
    (c.in_ok-put.ensures ∙ ap pages_put c.deref-3.ensures.value) (c.in_ok-kept.ensures ∙ ap pages_kept c.deref-4.ensures.value)
