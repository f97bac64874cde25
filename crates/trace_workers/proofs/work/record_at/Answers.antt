use Rattle.std.proofs.Common.{◌<◌, [], ◌∷◌, List, length, length-append, get_or, sym, ap, ◌∙◌, subst, arith}
use Rattle.std.proofs.Math.Seq.{map-set_same}
use Rattle.std.proofs.lemmas.List.{get_or-set_same}
use Rattle.spie_base.specs.declared.Entry.{Entry}
use Rattle.page_gate.specs.Held.{PassHeld}
use Rattle.trace_workers.proofs.Growing.{fits_at, same_length, recorded}
use Rattle.trace_workers.proofs.work.record_at.Goals as goal

pub record-requires : goal.record-requires
record-requires g c = let small = c.requires.router in let e = same_length c.args.planes.now c.args.passes.now c.requires.fits in
    record { plane = fits_at c.args.planes.now c.args.passes.now c.args.router.number c.index-planes-at.result c.index-passes-at.result c.requires.fits small (omega arith) ∙ ap (λ b. b.table) (sym c.index-planes-at.is) }

pub returns-clause-tables : goal.returns-clause-tables
returns-clause-tables g c = map-set_same (λ (x : PassHeld). x.table) c.args.passes.now c.args.router.number c.record.new.pass c.index-passes-at.result c.record.ensures.plane

pub returns-clause-floors : goal.returns-clause-floors
returns-clause-floors g c = map-set_same (λ (x : PassHeld). x.floor) c.args.passes.now c.args.router.number c.record.new.pass c.index-passes-at.result (ap (λ (h : PassHeld). h.floor) c.record.ensures.recorded.held)

pub returns-clause-recorded : goal.returns-clause-recorded
returns-clause-recorded g c d = let e = same_length c.args.planes.now c.args.passes.now c.requires.fits in let small = c.requires.router in
    let there : c.args.router.number < length c.args.passes.now = omega arith in
    let p = (get_or c.args.passes.now c.args.router.number c.index-passes-at.result).entries in
    let x : Entry = record { page = c.record.result; sig = c.args.sig.now } in
    subst (λ (es : List Entry). 0 < length es) (sym (ap (λ (q : PassHeld). q.entries) (get_or-set_same c.args.passes.now c.args.router.number c.record.new.pass d there) ∙ c.record.ensures.entry)) (let a = length-append p (x ∷ []) in omega arith)

pub returns-clause-entries : goal.returns-clause-entries
returns-clause-entries g c r = let e = same_length c.args.planes.now c.args.passes.now c.requires.fits in let low = c.requires.router in
    recorded c.args.passes.now c.args.router.number c.record.result c.args.sig.now c.index-passes-at.result c.record.new.pass (omega arith) c.record.ensures.entry r
