use Rattle.std.proofs.Common.{◌∙◌}
use Rattle.data_agent.proofs.Ending.{rows_put_fit}
use Rattle.data_agent.proofs.agent.Agent.finish_one.Goals as goal

pub put_rows-requires : goal.put_rows-requires
put_rows-requires g c = rows_put_fit c.args.self.now c.args.note.now.page.number c.deref.result.now c.requires.closed (c.deref.ensures.value ∙ c.in_ok-rows.ensures)
