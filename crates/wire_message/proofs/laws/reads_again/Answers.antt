use Rattle.std.proofs.Common.{length, ap}
use Rattle.wire_message.specs.Spelling.{spelled}
use Rattle.wire_message.specs.Reading.{placed}
use Rattle.wire_message.proofs.MessageFacts.{whole_again}
use Rattle.wire_message.proofs.laws.reads_again.Goals as goal

pub returns : goal.returns
returns c = λ value fits plain. ap (placed (length (spelled value))) (whole_again value fits plain)
