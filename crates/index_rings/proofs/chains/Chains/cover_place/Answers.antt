use Rattle.std.proofs.Common.{◌∙◌, arith}
use Rattle.index_rings.proofs.Grown.{Grown, filed_grown}
use Rattle.index_rings.proofs.chains.Chains.cover_place.Goals as goal

pub returns-in_err-add_place-clause-kept : goal.returns-in_err-add_place-clause-kept
returns-in_err-add_place-clause-kept c = λ label order was.
    let o = c.args.self.now in let f = c.loop-self.self in let i = c.loop-self.invariant in let a = c.add_place.new.self in
    let g : Grown o.rings.links.items a.links.items o.firsts.items f.firsts.items = record {
      same = λ x. c.in_err-add_place.ensures.next x ∙ i.same x;
      longer = omega (arith, i.longer, c.in_err-add_place.ensures.less);
      firsts_same = i.firsts_same;
    } in
    filed_grown o.rings.links.items a.links.items o.firsts.items f.firsts.items label order g was

pub returns-clause-kept : goal.returns-clause-kept
returns-clause-kept c = λ label order was.
    let o = c.args.self.now in let f = c.loop-self.self in
    filed_grown o.rings.links.items f.rings.links.items o.firsts.items f.firsts.items label order c.loop-self.invariant was
