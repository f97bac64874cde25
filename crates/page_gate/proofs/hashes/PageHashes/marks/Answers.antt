use Rattle.std.proofs.Common.{ap, ◌∙◌}
use Rattle.hash_family.specs.Positions.{Drawn, placed_by}
use Rattle.gate_core.proofs.RecordPlane.{mark_is}
use Rattle.page_gate.proofs.hashes.PageHashes.marks.Goals as goal

pub returns-clause-value : goal.returns-clause-value
returns-clause-value c i small = let hashes = c.args.self.now in let sig = c.args.sig.now in
    mark_is hashes.shape hashes.page.number sig c.positions.result i (c.positions.ensures.exact ∙ ap (λ (f : Drawn). placed_by f sig) hashes.of_page) small
