use Rattle.std.proofs.Common.{◌∙◌, ◌<◌, List, arith, subst}
use Rattle.std.proofs.lemmas.List.Sums.{fails_before_first}
use Rattle.agent_wire.specs.declared.requests.Asked.{Asked}
use Rattle.agent_wire.specs.Union.{AreAnswered, is_open, IsUnion}
use Rattle.agent_wire.proofs.GraphFacts.{all_answered}
use Rattle.agent_wire.proofs.UnionFacts.{union_flood}
use Rattle.agent_wire.proofs.manager.Manager.graph.Goals as goal

pub returns-in-Ok-clause-answered : goal.returns-in-Ok-clause-answered
returns-in-Ok-clause-answered c =
    let made = c.self.inside.made.items in
    let At : List Asked → Type 0 = λ xs. AreAnswered xs in
    let counted = c.len.ensures in
    let kept = c.self.inside.made.ok.0 in
    let end = c.if-number-len.false in
    subst At c.self.view_is (all_answered made c.self.inside.pending (λ k d l. fails_before_first is_open made k d (subst (λ m. k < m) c.self.invariant.pending_is l)) (omega (arith, counted, kept, end)))

pub returns-in-Ok-clause-union : goal.returns-in-Ok-clause-union
returns-in-Ok-clause-union c = let At : List Asked → Type 0 = λ xs. IsUnion xs c.in-Ok.graph in subst At (c.deref.ensures.value ∙ c.self.view_is) c.in-Ok.ensures

pub returns-in-Ok-clause-flood : goal.returns-in-Ok-clause-flood
returns-in-Ok-clause-flood c net layout start are = union_flood net layout start c.args.self.now c.in-Ok.graph are (returns-in-Ok-clause-answered c) (returns-in-Ok-clause-union c)
