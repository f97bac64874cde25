use Rattle.std.proofs.Common.{◌∙◌, ◌<◌, ℕ, sym, ap, ap₂, subst, arith}
use Rattle.gate_core.specs.declared.view.View.{View}
use Rattle.page_gate.proofs.Rotating.{after_seal, sealed_pages, after_open, rotates}
use Rattle.page_gate.proofs.words.Words.rotate.Goals as goal

pub open_next-requires-clause-seat : goal.open_next-requires-clause-seat
open_next-requires-clause-seat c = let r = c.requires in let f = r.from in let n = r.pages.1 in let small = r.pages.2 in
    after_seal c.args.self.now.shape c.args.seat.now.me.0 c.seal.new.seat.me.0 c.args.to c.seal.ensures.was r.keeper (subst (λ (n : ℕ). n < 4) f.0 f.1) r.to.0 r.to.1 (omega arith) c.seal.ensures.view

pub open_next-requires-clause-pages : goal.open_next-requires-clause-pages
open_next-requires-clause-pages c = let r = c.requires in let f = r.from in
    sealed_pages c.args.self.now.shape c.args.seat.now.me.0 c.seal.new.seat.me.0 c.args.to c.args.old c.args.next c.seal.ensures.was r.keeper (subst (λ (n : ℕ). n < 4) f.0 f.1) r.to.1 c.seal.ensures.view r.pages.0 r.pages.1

pub point-requires-clause-seat : goal.point-requires-clause-seat
point-requires-clause-seat c = let r = c.requires in
    let k = after_open c.args.self.now.shape c.seal.new.seat.me.0 c.open_next.new.seat.me.0 c.args.to c.open_next.ensures.met (ap (λ (u : View). u.role) c.seal.ensures.view ∙ r.keeper) r.to.0 c.open_next.ensures.view in
    ((k.1, subst (λ (n : ℕ). n < 4) (sym k.0) r.to.0), k.2)

pub point-requires-clause-slot : goal.point-requires-clause-slot
point-requires-clause-slot c = let r = c.requires in
    let k = after_open c.args.self.now.shape c.seal.new.seat.me.0 c.open_next.new.seat.me.0 c.args.to c.open_next.ensures.met (ap (λ (u : View). u.role) c.seal.ensures.view ∙ r.keeper) r.to.0 c.open_next.ensures.view in sym k.0

pub returns-clause-rotated : goal.returns-clause-rotated
returns-clause-rotated c = let r = c.requires in let a = c.seal.ensures in let b = c.open_next.ensures in let e = c.point.ensures in
    let k = after_open c.args.self.now.shape c.seal.new.seat.me.0 c.open_next.new.seat.me.0 c.args.to b.met (ap (λ (u : View). u.role) a.view ∙ r.keeper) r.to.0 b.view in (
      e.table ∙ (b.table ∙ a.table),
      e.id ∙ (b.id ∙ a.id),
      ap₂ (λ (u : View) xs. (u, xs)) (rotates c.args.self.now.shape c.args.seat.now.me.0 c.seal.new.seat.me.0 c.open_next.new.seat.me.0 c.point.new.seat.me.0 c.args.to a.view b.view e.view k.0) (e.slots ∙ (b.slots ∙ a.slots)),
    )
