use Rattle.std.proofs.Common.{◌∙◌}
use Rattle.agent_wire.proofs.SearchFacts.{among}
use Rattle.agent_wire.proofs.SetFacts.{exact_order}
use Rattle.agent_wire.proofs.searching.is_among.Goals as goal

pub returns : goal.returns
returns g c =
    let o = exact_order _ _ g.met.T.Ord.total g.met.T.Eq.laws g.met.T.Ord.matches_eq c.requires.exact in
    c.is_ok.ensures.value ∙ among _ _ o g.met.T.Eq.laws c.requires.exact _ _ _ c.requires.ascending c.binary_search.ensures.bound c.binary_search.ensures.position
