use Rattle.std.proofs.Common.{◌<◌, ◌≤◌, ◌-◌, ◌^◌, arith}
use Rattle.std.proofs.Math.Nat.{pow-le-pow_right}
use Rattle.spie_base.specs.Shapes.{most_words}
use Rattle.spie_base.specs.declared.types.TheConstants.{N_LEAST, N_MOST}
use Rattle.archive_record.proofs.reading.count_of.Goals as goal

pub returns-clause-most : goal.returns-clause-most
returns-clause-most c =
    let some : 0 < 2 = omega arith in
    let few : c.args.n - N_LEAST ≤ N_MOST - N_LEAST = omega (arith, c.requires.high) in
    let less : 2 ^ (c.args.n - N_LEAST) ≤ most_words = pow-le-pow_right some few in
    omega (arith, less)
