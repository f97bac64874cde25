use Rattle.std.proofs.Common.{arith}
use Rattle.std.proofs.lemmas.List.{take_rest}
use Rattle.wire_message.specs.Reading.{node_form}
use Rattle.wire_message.proofs.FieldFacts.{field_is}
use Rattle.wire_message.proofs.fields.NodeItem.item_in.Goals as goal

pub returns : goal.returns
returns c = field_is node_form c.args.bytes.now _ _ (omega (arith, c.if-bytes-lt-NODE_SIZE.false)) c.node_of.ensures (take_rest c.args.bytes.now 32)
