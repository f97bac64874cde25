use Rattle.std.proofs.Common.{List, ℕ, subst}
use Rattle.std.specs.Prelude.{Some}
use Rattle.page_shelf.proofs.TreeNames.{is_set}
use Rattle.page_shelf.specs.Memory.{contents_of}
use Rattle.page_shelf.specs.Shelves.{IsSet}
use Rattle.page_shelf.proofs.memory.MemShelfShelf.put.Goals as goal

pub returns-clause-set : goal.returns-clause-set
returns-clause-set c =
    let P : List ℕ → Type 0 = λ bytes. IsSet c.args.name.now (Some bytes) (contents_of c.args.self.now.kept) (contents_of c.insert.new.self) in
    subst P c.in_ok-copy.ensures.items (is_set c.args.name.now c.key_of.result c.args.self.now.kept c.insert.new.self (Some c.in_ok-copy.copy) c.key_of.ensures c.in_ok-insert.ensures.updates)
