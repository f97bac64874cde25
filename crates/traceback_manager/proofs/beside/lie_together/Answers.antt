use Rattle.std.proofs.Common.{◌≡◌, ◌<◌, ◌∙◌, sym, length, arith}
use Rattle.std.proofs.lemmas.List.Elements.{Contains-get_or}
use Rattle.traceback_manager.proofs.beside.lie_together.Goals as goal

pub region-requires : goal.region-requires
region-requires c =
    let some : 0 < length c.args.round.now = (let l = c.in-len1-up.len_at_least in omega arith) in
    c.requires.exist _ (Contains-get_or c.args.round.now 0 _ some)

-- where all lie in the region of the first, any two lie in one, and the other way round
pub returns-in-len1-up : goal.returns-in-len1-up
returns-in-len1-up c =
    let some : 0 < length c.args.round.now = (let l = c.in-len1-up.len_at_least in omega arith) in (
      (λ home a b x y. let all = c.lie_in.ensures.0 home in (all a x).here ∙ sym (all b y).here),
      (λ together. c.lie_in.ensures.1 (λ n h. record {
        exists = c.requires.exist n h;
        here = together n _ h (Contains-get_or c.args.round.now 0 _ some) ∙ sym c.region.ensures.exact;
      })),
    )
