use Rattle.wire_message.proofs.MessageFacts.{whole_takes, unplaced}
use Rattle.wire_message.proofs.laws.has_one_spelling.Goals as goal

pub returns : goal.returns
returns c = λ bytes fits value read. (whole_takes bytes value fits (unplaced bytes value read)).0.spells
