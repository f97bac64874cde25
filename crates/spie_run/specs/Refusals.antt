-- What is written where an input is refused.
use Rattle.std.specs.Prelude.{ℕ, List, [], ◌∷◌, ◌++◌, codes, decimal}
use Rattle.trace_format.specs.declared.WhyRefused.{WhyRefused}
use Rattle.trace_format.specs.declared.WhyRefused.TheVariants.{TooLong, After, Ending, Length, Word, Fields, Field, DoubleName, NoName, SelfLink, DoubleLink, NoRouter, TooMany, Short, Version, HeaderLength, TotalLength, Checksum, NoPacket, Kind, Clock, Twice}
use Rattle.trace_format.specs.declared.TraceRefused.{TraceRefused}

-- the word of a rule
abbrev pub why_word : WhyRefused → List ℕ
why_word TooLong = codes "too-long"
why_word After = codes "after"
why_word Ending = codes "ending"
why_word Length = codes "length"
why_word Word = codes "word"
why_word Fields = codes "fields"
why_word Field = codes "field"
why_word DoubleName = codes "double-name"
why_word NoName = codes "no-name"
why_word SelfLink = codes "self-link"
why_word DoubleLink = codes "double-link"
why_word NoRouter = codes "no-router"
why_word TooMany = codes "too-many"
why_word Short = codes "short"
why_word Version = codes "version"
why_word HeaderLength = codes "header-length"
why_word TotalLength = codes "total-length"
why_word Checksum = codes "checksum"
why_word NoPacket = codes "no-packet"
why_word Kind = codes "kind"
why_word Clock = codes "clock"
why_word Twice = codes "twice"

-- one line: the line of the input, and a word
abbrev pub refusal_text : (line : ℕ) → (word : List ℕ) → List ℕ
refusal_text line word = codes "refused " ++ decimal line ++ 32 ∷ word ++ 10 ∷ []

-- a text that is no trace, by its first fault
abbrev pub fault_text : TraceRefused → List ℕ
fault_text fault = refusal_text fault.line (why_word fault.why)
