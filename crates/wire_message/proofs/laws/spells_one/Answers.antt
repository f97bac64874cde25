use Rattle.std.proofs.Common.{◌∙◌, ap}
use Rattle.wire_message.specs.Reading.{whole_at}
use Rattle.wire_message.proofs.MessageFacts.{whole_again, is_one}
use Rattle.wire_message.proofs.laws.spells_one.Goals as goal

pub returns : goal.returns
returns c = λ bytes value other plain others is too. is_one bytes value other (ap whole_at is.spells ∙ whole_again value is.fits plain) others too
