use Rattle.std.proofs.Common.{ℕ, cond, eqb, [], ◌∷◌, refl, arith}
use Rattle.transform_tests.proofs.tests.chains.linked.Goals as goal

-- the chain of each place
abbrev chain_of : ℕ → ℕ
chain_of place = cond (eqb place 0) 0 1

pub append-requires-clause-free : goal.append-requires-clause-free
append-requires-clause-free c =
    (chain_of, [], c.in_ok-cover_place.ensures.kept chain_of [] (c.in_ok-add_chain.ensures.kept chain_of [] (c.in_ok-chains.ensures.holds chain_of)), tt)

pub append-requires-2-clause-free : goal.append-requires-2-clause-free
append-requires-2-clause-free c =
    let none = c.in_ok-cover_place.ensures.kept chain_of [] (c.in_ok-add_chain.ensures.kept chain_of [] (c.in_ok-chains.ensures.holds chain_of)) in
    (chain_of, 3 ∷ [], c.append.ensures.appended chain_of [] tt tt refl none, (λ e. omega (arith, e), tt))

pub append-requires-3-clause-free : goal.append-requires-3-clause-free
append-requires-3-clause-free c =
    let none = c.in_ok-cover_place.ensures.kept chain_of [] (c.in_ok-add_chain.ensures.kept chain_of [] (c.in_ok-chains.ensures.holds chain_of)) in
    let one = c.append.ensures.appended chain_of [] tt tt refl none in
    (chain_of, 3 ∷ 0 ∷ [], c.append-2.ensures.appended chain_of (3 ∷ []) (tt, tt) (λ e. omega (arith, e), tt) refl one, (λ e. omega (arith, e), (λ e. omega (arith, e), tt)))
