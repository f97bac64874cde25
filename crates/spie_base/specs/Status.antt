-- How a run ended.
use Rattle.std.specs.Prelude.{ℕ}
use Rattle.spie_base.specs.declared.status.Status.{Status}
use Rattle.spie_base.specs.declared.status.Status.TheVariants.{Done, No, Usage, TraceRefused, ReadFault, WriteFault, NoMemory}

-- the number with which the program ends
abbrev pub code_of : Status → ℕ
code_of Done = 0
code_of No = 1
code_of Usage = 2
code_of TraceRefused = 3
code_of ReadFault = 4
code_of WriteFault = 5
code_of NoMemory = 6
