-- How many packet lines there are.
use Rattle.std.proofs.Common.{ℕ, zero, suc, ◌*◌, ◌≤◌, arith, Bool, true, false, cond, lit≤}
use Rattle.made_trace.specs.Draws.{is_changed}
use Rattle.made_trace.specs.Made.{draw_at, number_at, used}
use Rattle.made_trace.specs.declared.draws.Draw.{Draw}

used_by : (changed : Bool) → cond changed 2 1 ≤ 2
used_by true = lit≤ tt
used_by false = lit≤ tt

pub used_most : (d : Draw) → used d ≤ 2
used_most d = used_by (is_changed d)

pub number_most : (seed i : ℕ) → number_at seed i ≤ 2 * i
number_most seed zero = lit≤ tt
number_most seed (suc i) = let h = number_most seed i in let u = used_most (draw_at seed i) in omega (arith, h, u)
