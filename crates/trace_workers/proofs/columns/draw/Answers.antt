use Rattle.std.proofs.Common.{◌<◌, [], ◌∷◌, List, All, length, length-set, length-append, get_or, set, refl, sym, ap, subst, ◌∙◌, arith}
use Rattle.std.proofs.lemmas.List.Elements.{All-push}
use Rattle.gate_core.specs.Invariant.{IsRising}
use Rattle.page_gate.specs.Held.{PassHeld}
use Rattle.trace_workers.specs.declared.jobs.Job.{Job}
use Rattle.trace_workers.specs.Columns.{Gave}
use Rattle.trace_workers.proofs.Given.{given_more}
use Rattle.trace_workers.proofs.EachJob.{left_more}
use Rattle.trace_workers.proofs.columns.draw.Goals as goal

pub loop-i-preserved : goal.loop-i-preserved
loop-i-preserved c = let was = c.loop-i.invariant in let i = c.loop-i.i in let jobs = c.loop-i.jobs in let col = c.loop-i.column.items in let x = c.index-jobs-i.result in let one = c.take_last-one.result in let old = c.args.jobs.now in
    let next : Job = record { places = (get_or jobs i x).places; passes = c.take_last-one.new.self; pages = (get_or jobs i x).pages } in let grown = c.push_reserved.ensures.items in
    let gave : Gave (get_or jobs i x) next one = record { passes = c.take_last-one.ensures.items; room = c.take_last-one.ensures.capacity; places = refl; pages = refl } in let within : i < length jobs = omega (arith, c.loop-i-test.true, c.loop-i.auto.jobs) in record {
      done = λ w d p lt. subst (λ (ps : List PassHeld). Gave (get_or old w d) (get_or (set jobs i next) w d) (get_or ps w p)) (sym grown) (given_more old jobs col i x next one within was.taken was.left was.done gave w d p lt);
      left = left_more old jobs i x next within was.left;
      taken = ap length grown ∙ (let a = length-append col (one ∷ []) in let b = was.taken in omega arith);
      rising = subst (All (λ (q : PassHeld). IsRising q.floor q.entries)) (sym grown) (All-push (λ (q : PassHeld). IsRising q.floor q.entries) col one was.rising c.rises.ensures);
      capacity = c.push_reserved.ensures.capacity ∙ was.capacity;
      room = let a = c.push_reserved.ensures.capacity in let b = was.room in let l = length-set jobs i next in omega arith;
    }
