use Rattle.std.specs.Prelude.{None}
use Rattle.page_shelf.proofs.TreeNames.{is_set}
use Rattle.page_shelf.proofs.memory.MemShelfShelf.discard.Goals as goal

pub returns-clause-set : goal.returns-clause-set
returns-clause-set c = is_set c.args.name.now c.key_of.result c.args.self.now.kept c.remove.new.self None c.key_of.ensures c.remove.ensures.updates
