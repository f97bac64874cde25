-- Laws of messages and their spelling.
use Rattle.std.specs.Prelude.{◌≡◌, ℕ, List, Ok}
use Rattle.wire_message.specs.declared.messages.Message.{Message}
use Rattle.wire_message.specs.Spelling.{IsMessage, Fits, IsPlain, AreBytes, spelled}
use Rattle.wire_message.specs.Reading.{message_of}

-- what was spelled is read again
abbrev pub ReadsAgain : Type 0
ReadsAgain = (value : Message) → Fits value → IsPlain value → message_of (spelled value) ≡ Ok value

-- bytes that are read as a message are its spelling
abbrev pub HasOneSpelling : Type 0
HasOneSpelling = (bytes : List ℕ) → AreBytes bytes → (value : Message) → message_of bytes ≡ Ok value → bytes ≡ spelled value

-- bytes spell one message
abbrev pub SpellsOne : Type 0
SpellsOne = (bytes : List ℕ) (value other : Message) → IsPlain value → IsPlain other → IsMessage bytes value → IsMessage bytes other → value ≡ other
