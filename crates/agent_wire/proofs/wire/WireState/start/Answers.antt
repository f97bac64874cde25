use Rattle.std.proofs.Common.{◌∙◌, ℕ, ◌∷◌, [], ap, sym, subst, List}
use Rattle.agent_wire.specs.Accepting.{first_request}
use Rattle.agent_wire.specs.Link.{IsBegun, IsLink, Link}
use Rattle.agent_wire.specs.declared.requests.Asked.{Asked}
use Rattle.agent_wire.proofs.LinkFacts.{first_begun, first_link}
use Rattle.agent_wire.proofs.wire.WireState.start.Goals as goal

state_is : (c : goal.After-new) → Path Link (record { made = c.in_ok-manager.manager; sent = c.new.result.items }) (record { made = first_request c.args.topology.now c.args.start.now ∷ []; sent = [] })
state_is c =
    let F : List Asked → List (List ℕ) → Link = λ made sent. record { made = made; sent = sent } in
    ap (λ made. F made c.new.result.items) c.in_ok-manager.ensures.first ∙ ap (λ sent. F (first_request c.args.topology.now c.args.start.now ∷ []) sent) c.new.ensures.items

pub returns-clause-begun : goal.returns-clause-begun
returns-clause-begun c = let At : Link → Type 0 = λ l. IsBegun c.args.topology.now l in subst At (sym (state_is c)) (first_begun c.args.topology.now c.args.start.now c.requires.exists)

pub returns-clause-link : goal.returns-clause-link
returns-clause-link c net = let At : Link → Type 0 = λ l. IsLink net c.args.topology.now c.args.start.now l in subst At (sym (state_is c)) (first_link net c.args.topology.now c.args.start.now c.requires.exists)
