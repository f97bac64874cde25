use Rattle.std.proofs.Common.{◌≡◌, ◌++◌, map, take}
use Rattle.packet_signature.specs.Row.{inverse_of}
use Rattle.used_pages.proofs.origins.Origins.add_rows.Given as goal

-- what the rows so far say was added
abbrev pub invariant-loop-row : goal.invariant-loop-row
invariant-loop-row l = record {
  sig : l.self.sig ≡ l.fn.self.sig;
  more : l.self.olds ≡ l.fn.self.olds ++ map (λ row. inverse_of row l.fn.self.sig) (take l.row-index l.row-items);
}
