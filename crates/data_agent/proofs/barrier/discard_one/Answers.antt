use Rattle.data_agent.proofs.barrier.discard_one.Goals as goal

pub returns-clause-discarded : goal.returns-clause-discarded
returns-clause-discarded g c =
    let cleared = c.in_ok-cleared.ensures.cleared in
    record {
      covers = λ left. c.if-not-covered.false;
      still = cleared.still;
      rose = cleared.rose;
      away = λ t covered left. cleared.away t left;
      others = λ t name apart. cleared.others t name (λ part e. apart c.if-not-covered.false part e);
    }
