use Rattle.std.proofs.Common.{◌≡◌, ◌-◌, None}
use Rattle.wire_message.specs.Reading.{items_in}
use Rattle.wire_message.proofs.ItemLoops.{with_front}
use Rattle.wire_message.proofs.items.items_in.Given as goal

abbrev pub invariant-loop : goal.invariant-loop
invariant-loop g l = with_front l.items.items (items_in g.T.Item.form g.T.Ord.cmp (l.count - l.counter) l.before l.rest) ≡ items_in g.T.Item.form g.T.Ord.cmp l.count None l.bytes
