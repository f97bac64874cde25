use Rattle.std.proofs.Common.{arith, refl}
use Rattle.std.proofs.lemmas.List.{take_rest}
use Rattle.wire_message.specs.Reading.{edge_form}
use Rattle.wire_message.proofs.FieldFacts.{field_is}
use Rattle.wire_message.proofs.fields.EdgeItem.item_in.Goals as goal

pub returns : goal.returns
returns c = field_is edge_form c.args.bytes.now _ _ (omega (arith, c.if-bytes-lt-EDGE_SIZE.false)) (rw (c.node_of.ensures, c.node_of-2.ensures, take_rest c.args.bytes.now 32) refl) (take_rest c.args.bytes.now 64)
