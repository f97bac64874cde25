use Rattle.std.proofs.Common.{◌≡◌, ◌++◌}
use Rattle.packet_signature.specs.Row.{key_of}
use Rattle.transform_table.specs.Tables.{with_key}
use Rattle.data_agent.specs.Seeing.{undone_in}
use Rattle.data_agent.proofs.sight.Sight.undo.Given as goal

-- what was added, and what the rows to come add, is all of it
abbrev pub invariant-loop-page : goal.invariant-loop-page
invariant-loop-page l = record {
  sig : l.origins.sig ≡ l.fn.origins.sig;
  more : l.origins.olds ++ undone_in l.self.first l.self.last l.fn.origins.sig l.page-iterator
      ≡ l.fn.origins.olds ++ undone_in l.self.first l.self.last l.fn.origins.sig (with_key (key_of l.fn.origins.sig) l.self.rows.now);
}
