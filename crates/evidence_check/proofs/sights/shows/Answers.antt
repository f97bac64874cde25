use Rattle.std.proofs.Common.{◌∙◌, ℕ, sym, ap}
use Rattle.bloom_page.specs.Sets.{are_in}
use Rattle.hash_family.specs.Positions.{Drawn, positions_by}
use Rattle.hash_family.proofs.PositionFacts.{marks_of-family}
use Rattle.evidence_check.proofs.sights.shows.Goals as goal

pub returns : goal.returns
returns c =
    let drawn : ℕ → Drawn = λ seed. record { seed = seed; k = c.args.shape.now.k; n = c.args.shape.now.n } in
    c.has.ensures.exact
    ∙ ap (are_in c.args.page.now.bits.members)
    (c.positions.ensures.marks ∙ ap (λ (f : Drawn). positions_by f c.args.sig.now) (c.of-family.ensures ∙ ap drawn c.page_seed-seed.ensures) ∙ sym (marks_of-family c.args.shape.now c.args.page.now.page.number c.args.sig.now))
