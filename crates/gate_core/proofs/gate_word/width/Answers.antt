use Rattle.std.proofs.Common.{◌≤◌, ◌-◌, ◌^◌, arith}
use Rattle.std.proofs.Math.Pow.{pow_mono}
use Rattle.spie_base.specs.Shapes.{most_words}
use Rattle.spie_base.specs.declared.types.TheConstants.{N_LEAST, N_MOST}
use Rattle.gate_core.proofs.gate_word.width.Goals as goal

pub returns-clause-most : goal.returns-clause-most
returns-clause-most c =
    let few : c.args.shape.now.n - N_LEAST ≤ N_MOST - N_LEAST = omega arith in
    let small : 2 ^ (c.args.shape.now.n - N_LEAST) ≤ most_words = pow_mono few in
    omega arith
