-- The text of what a script's steps answered, and of the pages behind them.
use Rattle.std.specs.Prelude.{ℕ, ◌≡◌, ◌+◌, ◌==◌, List, [], ◌∷◌, ◌++◌, Bool, true, false, length, count_by, codes, decimal, Option, Some, None}
use Rattle.std.specs.List.{flat_map, range_with_len}
use Rattle.bloom_page.specs.Bits.{members_of}
use Rattle.gate_core.specs.Acts.{page_of}
use Rattle.gate_core.specs.Core.{Core, duties_of}
use Rattle.gate_core.specs.PageWords.{phase_with, page_words}
use Rattle.gate_core.specs.Play.{IsPlayed}
use Rattle.gate_core.specs.Start.{start_of}
use Rattle.gate_core.specs.declared.states.ActorState.{ActorState}
use Rattle.gate_core.specs.declared.states.ActorState.TheVariants as actor_state
use Rattle.spie_base.specs.declared.types.Entry.{Entry}
use Rattle.gate_core.specs.declared.states.PassState.{PassState}
use Rattle.gate_core.specs.declared.states.PassState.TheVariants.{Idle, Looked, Inside, Visiting}
use Rattle.gate_core.specs.declared.states.SlotPhase.{SlotPhase}
use Rattle.gate_core.specs.declared.states.SlotPhase.TheVariants.{Free, Open, Sealed, Quiet}
use Rattle.gate_core.specs.declared.steps.StepAnswer.{StepAnswer}
use Rattle.gate_core.specs.declared.steps.StepAnswer.TheVariants as answer
use Rattle.line_text.specs.Writing.{spaced, line_text, listed}
use Rattle.play_script.specs.declared.script.PlayScript.{PlayScript}

abbrev pub pass_text : PassState → List ℕ
pass_text Idle = codes "idle"
pass_text (Looked slot) = codes "looked"
pass_text (Inside slot page sig set) = codes "inside"
pass_text (Visiting slot gate) = codes "visiting"

abbrev pub phase_text : SlotPhase → List ℕ
phase_text Free = codes "free"
phase_text Open = codes "open"
phase_text Sealed = codes "sealed"
phase_text (Quiet next) = codes "quiet"

-- where the actor is, or the phases of the slots with commas
abbrev pub state_text : ActorState → List ℕ
state_text (actor_state.Pass state) = pass_text state
state_text (actor_state.Keeper phases) = listed phase_text phases

abbrev pub bit_of : Bool → ℕ
bit_of false = 0
bit_of true = 1

-- the fields behind a line's number
abbrev pub answer_fields : StepAnswer → List (List ℕ)
answer_fields (answer.Slot slot) = codes "slot" ∷ decimal slot ∷ []
answer_fields (answer.Entered page) = codes "in" ∷ decimal page.number ∷ []
answer_fields (answer.Visiting gate) = codes "visiting" ∷ decimal (page_of gate) ∷ []
answer_fields answer.Set = codes "set" ∷ []
answer_fields answer.Left = codes "left" ∷ []
answer_fields (answer.Sealed page) = codes "sealed" ∷ decimal page.number ∷ []
answer_fields (answer.Pending inside) = codes "pending" ∷ decimal inside ∷ []
answer_fields answer.Quiet = codes "quiet" ∷ []
answer_fields answer.Drained = codes "drained" ∷ []
answer_fields (answer.Collected page) = codes "collected" ∷ decimal page.number ∷ []
answer_fields (answer.Opened page) = codes "opened" ∷ decimal page.number ∷ []
answer_fields (answer.Pointed slot) = codes "pointed" ∷ decimal slot ∷ []
answer_fields (answer.Bit set) = codes "bit" ∷ decimal (bit_of set) ∷ []
answer_fields (answer.NotEnabled state) = codes "not-enabled" ∷ state_text state ∷ []

-- the answers to the steps of a script from this line on
abbrev pub answers_text : ℕ → List StepAnswer → List ℕ
answers_text line [] = []
answers_text line (reply ∷ more) = line_text line (answer_fields reply) ++ answers_text (line + 1) more

-- the phase of the slot in which the page stands, or that its words are all collected
abbrev pub place_text : Option SlotPhase → List ℕ
place_text None = codes "collected"
place_text (Some phase) = phase_text phase

abbrev pub standing_text : Core → (page : ℕ) → List ℕ
standing_text c page = place_text (phase_with c page)

-- the finished entries of a page
abbrev pub entries_in : Core → (page : ℕ) → ℕ
entries_in c page = count_by (λ (e : Entry). e.page.number == page) c.entries

-- how many positions of a page are set
abbrev pub bits_in : Core → (page : ℕ) → ℕ
bits_in c page = length (members_of (page_words c page))

-- the line of a page
unfoldable pub page_line : Core → (page : ℕ) → List ℕ
page_line c page =
    codes "page" ++ flat_map spaced (decimal page ∷ standing_text c page ∷ codes "entries" ∷ decimal (entries_in c page) ∷ codes "bits" ∷ decimal (bits_in c page) ∷ []) ++ 10 ∷ []

-- what the steps answered, each page up to the last that was opened, and the end
unfoldable pub play_report : Core → List StepAnswer → List ℕ
play_report c replies = codes "spie-play-report 1\n" ++ answers_text 3 replies ++ flat_map (page_line c) (range_with_len 0 (duties_of c).next) ++ codes "end\n"

-- the machine after the script's steps, and what they answered
abbrev pub IsScriptPlayed : PlayScript → Core → List StepAnswer → Type 0
IsScriptPlayed script c replies = IsPlayed (record (start_of script.shape script.passes) { room = length script.steps }) script.steps c replies

-- the text of the script's steps, done in order from the start
abbrev pub IsReport : PlayScript → List ℕ → Type 0
IsReport script text = (c : Core) × (replies : List StepAnswer) × IsScriptPlayed script c replies × (text ≡ play_report c replies)
