use Rattle.std.proofs.Common.{◌≡◌, sym, ap, ap₂, ◌∙◌}
use Rattle.spie_base.specs.declared.PageNo.{PageNo}
use Rattle.gate_core.specs.declared.states.PassState.TheVariants.{Inside}
use Rattle.gate_core.specs.declared.view.View.{View}
use Rattle.gate_core.specs.Acts.{page_of, numbered}
use Rattle.page_gate.specs.Tried.{with_entry}
use Rattle.page_gate.proofs.Tells.{own_inside, own_page}
use Rattle.page_gate.proofs.words.Words.record_in_open.Goals as goal

pub finish-requires-clause-inside : goal.finish-requires-clause-inside
finish-requires-clause-inside c = let r = c.requires in let l = c.look-slot in let e = c.enter in let sig = c.args.sig.now in let v = c.args.seat.now.me.0 in
    let is = own_inside c.args.self.now.shape sig v l.new.seat.me.0 e.new.seat.me.0 l.result e.result r.keeper.1 l.ensures.slot r.open l.ensures.found l.ensures.acted.view e.ensures.found e.ensures.acted.view in
    let here = own_page c.args.self.now.shape sig v l.new.seat.me.0 e.new.seat.me.0 l.result e.result r.keeper.1 l.ensures.slot r.open l.ensures.found l.ensures.acted.view e.ensures.found in
    let page : numbered (page_of e.result) ≡ c.args.page = ap numbered (here ∙ sym r.page) in (
      ap (λ (u : View). u.state) is ∙ ap (λ (p : PageNo). Inside l.result p sig 0) page,
      l.ensures.slot,
      λ spent. r.keeper.2 (sym (ap (λ (u : View). u.role) is) ∙ spent),
    )

pub returns : goal.returns
returns c = let r = c.requires in let l = c.look-slot in let e = c.enter in let sig = c.args.sig.now in let v = c.args.seat.now.me.0 in let f = c.finish.ensures.recorded in
    let is = own_inside c.args.self.now.shape sig v l.new.seat.me.0 e.new.seat.me.0 l.result e.result r.keeper.1 l.ensures.slot r.open l.ensures.found l.ensures.acted.view e.ensures.found e.ensures.acted.view in (
      f.0 ∙ (e.ensures.acted.table ∙ l.ensures.acted.table),
      f.1 ∙ (e.ensures.acted.id ∙ l.ensures.acted.id),
      f.2 ∙ ap₂ (λ (u : View) xs. (with_entry u c.args.page sig, xs)) is (e.ensures.acted.slots ∙ l.ensures.acted.slots),
    )
