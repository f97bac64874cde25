use Rattle.std.proofs.Common.{◌<◌, [], ◌∷◌, length, length-set, length-append, get_or, refl, ap, subst, ◌∙◌, arith}
use Rattle.trace_workers.specs.declared.jobs.Job.{Job}
use Rattle.trace_workers.specs.Columns.{Got}
use Rattle.trace_workers.proofs.Getting.{last_alike, rest_alike}
use Rattle.trace_workers.proofs.EachJob.{each_more, left_more}
use Rattle.trace_workers.proofs.columns.spread.Goals as goal

pub loop-i-preserved : goal.loop-i-preserved
loop-i-preserved c = let was = c.loop-i.invariant in let i = c.loop-i.i in let jobs = c.loop-i.jobs in let x = c.index-jobs-i.result in let one = c.take_last-one.result in let old = c.args.jobs.now in let taken = c.take_last-one.ensures in
    let rest = c.take_last-one.new.self.items in let col = c.loop-i.column.items in
    let next : Job = record { places = (get_or jobs i x).places; passes = c.push_reserved.new.self; pages = (get_or jobs i x).pages } in let within : i < length jobs = omega (arith, c.loop-i-test.true, c.loop-i.auto.jobs) in
    let got : Got (get_or jobs i x) next one = record { passes = c.push_reserved.ensures.items; room = c.push_reserved.ensures.capacity; places = refl; pages = refl } in record {
      many = let a = ap length taken.items in let b = length-append rest (one ∷ []) in let d = was.many in let l = length-set jobs i next in omega arith;
      same = length-set jobs i next ∙ was.same;
      alike = λ p all. rest_alike p one rest col taken.items (was.alike p all);
      done = λ p all w d lt. each_more old jobs i x next within (λ a b. Got a b p) was.left (was.done p all) (subst (Got (get_or jobs i x) next) (last_alike p one rest col taken.items (was.alike p all)) got) w d lt;
      left = left_more old jobs i x next within was.left;
      capacity = taken.capacity ∙ was.capacity;
    }

pub returns-clause-got : goal.returns-clause-got
returns-clause-got c p all = let was = c.loop-i.invariant in record { many = was.same; each = λ w d lt. was.done p all w d (let a = was.same in omega (arith, c.loop-i-test.false, c.loop-i.auto.jobs)) }
