-- Passes that jobs were given, and gave back.
use Rattle.std.proofs.Common.{ℕ, ◌≡◌, ◌≤◌, ◌<◌, All, List, length, get_or, sym, subst, arith}
use Rattle.std.specs.Prelude.{replicate}
use Rattle.std.proofs.lemmas.List.{get_or-replicate, length-replicate}
use Rattle.page_gate.specs.Held.{Home, PassHeld}
use Rattle.trace_workers.specs.declared.Job.{Job}
use Rattle.trace_workers.specs.Columns.{HaveGiven}
use Rattle.trace_replay.specs.Dealt.{HaveLast}
use Rattle.trace_replay.proofs.Sums.{some_of}

pub all_alike : (xs : List PassHeld) (n : ℕ) (p : PassHeld) → xs ≡ replicate n p → All (λ q. q ≡ p) xs
all_alike xs n p e = let P : List PassHeld → Type 0 = λ ys. All (λ q. q ≡ p) ys in subst P (sym e) (λ k d l. let m = length-replicate n p in get_or-replicate n k p d (omega (arith, l, m)))

module _ (table : Home) (since : ℕ) (before after : List Job) (column : List PassHeld) (given : HaveGiven before after column) (last : HaveLast table since before) where
  pub last_is : (k : ℕ) (p : PassHeld) → k < length column → ((get_or column k p).table ≡ table) × (since ≤ (get_or column k p).floor)
  last_is k p l =
      let n = given.taken in
      let within : k < length before = omega (arith, l, n) in
      let d = some_of before k within in
      last.last k d (get_or after k d).passes.items (get_or column k p) within (given.each k d p within).passes
