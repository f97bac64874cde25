use Rattle.std.proofs.Common.{◌≡◌, ◌∷◌, [], List, rules, subst, sym}
use Rattle.std.specs.List.Sorted.{IsStrictlySortedBy}
use Rattle.spie_base.specs.declared.Sig.{Sig}
use Rattle.spie_base.specs.Order.{sig_cmp}
use Rattle.network_tests.proofs.tests.nets.RecorderSighting.origins.Goals as goal

one_ascends : (x : Sig) (xs : List Sig) → xs ≡ x ∷ [] → IsStrictlySortedBy sig_cmp xs
unfolding IsStrictlySortedBy
one_ascends x xs e = subst (λ l. IsStrictlySortedBy sig_cmp l) (sym e) (tt, tt)

pub returns-clause-ascending : goal.returns-clause-ascending
returns-clause-ascending c =
    let one : c.push.new.self.items ≡ c.args.sig.now ∷ [] = search rules in
    one_ascends c.args.sig.now c.push.new.self.items one
