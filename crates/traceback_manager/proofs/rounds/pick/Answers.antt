use Rattle.std.proofs.lemmas.List.Elements.{Contains-get_or}
use Rattle.traceback_manager.proofs.rounds.pick.Goals as goal

pub region-requires : goal.region-requires
region-requires c = c.requires.exist _ (Contains-get_or c.args.leads.now c.loop-lead.lead-index _ c.loop-lead-test.true)
