use Rattle.std.proofs.Common.{◌↔◌, List, subst}
use Rattle.std.specs.List.{Contains}
use Rattle.packet_signature.specs.declared.Row.{Row as TheRow}
use Rattle.data_agent.proofs.looking.ReadPage.of.Goals as goal

pub returns-clause-same : goal.returns-clause-same
returns-clause-same c = λ row. subst (λ (rows : List TheRow). Contains c.of.result row ↔ Contains rows row) c.into_vec.ensures (c.of.ensures row)
