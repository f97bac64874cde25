-- What the private functions of the reader answer, line by line. `read_play` itself is promised by `Script` and `Fault`.
use Rattle.std.specs.Prelude.{ℕ, ◌+◌, ◌^◌, List, [], ◌∷◌, ◌++◌, length, if◌then◌else◌, nat_le, nat_lt, Result, Ok, Err, codes}
use Rattle.std.specs.Str.{bytes_eq}
use Rattle.std.specs.declared.option.Option.{Option}
use Rattle.std.specs.declared.option.Option.TheVariants.{None, Some}
use Rattle.gate_core.specs.declared.steps.Act.{Act}
use Rattle.gate_core.specs.declared.steps.Act.TheVariants as act
use Rattle.gate_core.specs.declared.steps.Actor.{Actor}
use Rattle.gate_core.specs.declared.steps.Actor.TheVariants as actor
use Rattle.gate_core.specs.declared.steps.Step.{Step}
use Rattle.hex.specs.Hex.{decode_sized}
use Rattle.hex.specs.declared.error.FromHexError.{FromHexError}
use Rattle.spie_base.specs.declared.types.PageShape.{PageShape}
use Rattle.spie_base.specs.declared.types.Sig.{Sig}
use Rattle.spie_base.specs.declared.types.TheConstants.{K_MOST, N_LEAST}
use Rattle.gate_core.specs.declared.limits.TheConstants.{MOST_PASSES, SLOTS}
use Rattle.play_script.specs.declared.script.TheConstants.{CORE_N_MOST}
use Rattle.line_text.specs.Reading as texts
use Rattle.line_text.specs.Reading.{Reader}
use Rattle.play_script.specs.Fault.{refusals}
use Rattle.trace_format.specs.Limits.{most_bytes, most_line_bytes}
use Rattle.play_script.specs.Limits.{most_steps}
use Rattle.line_text.specs.Answers.{◌>>=◌}
use Rattle.trace_format.specs.Reading.{number, base_of}
use Rattle.line_text.specs.Text.{fields}
use Rattle.trace_format.specs.declared.refused.TraceRefused.{TraceRefused}
use Rattle.trace_format.specs.declared.refused.WhyRefused.{WhyRefused}
use Rattle.trace_format.specs.declared.refused.WhyRefused.TheVariants as why
use Rattle.play_script.specs.Before.{Known, known_of}
use Rattle.play_script.specs.Said.{Said}
use Rattle.play_script.specs.Said as said
use Rattle.gate_core.specs.Core.{may_do}
use Rattle.play_script.specs.Words.{word_text, is_over}
use Rattle.play_script.specs.declared.script.PlayScript.{PlayScript}
use Rattle.play_script.specs.declared.words.Stage.{Stage}
use Rattle.play_script.specs.declared.words.Stage.TheVariants as stage
use Rattle.play_script.specs.declared.words.Word.{Word}
use Rattle.play_script.specs.declared.words.Word.TheVariants as word

-- ---- fields

-- a number below a bound of at most 32 bits
unfoldable pub below : List ℕ → ℕ → Result ℕ WhyRefused
below field bound = number field 0 4294967295 >>= (λ n. if nat_lt n bound then Ok n else Err why.Field)

abbrev pub sig_by : Result (List ℕ) FromHexError → Result Sig WhyRefused
sig_by (Ok bytes) = Ok (record { bytes = bytes })
sig_by (Err e) = Err why.Field

-- 56 hex digits
unfoldable pub sig_of : List ℕ → Result Sig WhyRefused
sig_of field = sig_by (decode_sized field 28)

unfoldable pub actor_in : (passes : ℕ) → List ℕ → Result Actor WhyRefused
actor_in passes field = if bytes_eq field (codes "k") then Ok actor.Keeper else (below field passes >>= (λ n. Ok (actor.Pass n)))

unfoldable pub shape_in : (k n base : List ℕ) → Result PageShape WhyRefused
shape_in k n base = do
  k ← number k 1 K_MOST
  n ← number n N_LEAST CORE_N_MOST
  base ← base_of base
  Ok (record { k = k; n = n; base = base; router = record { number = 0 } })

-- ---- what stands behind the word of a step

unfoldable pub alone_in : Act → List (List ℕ) → Result Act WhyRefused
alone_in a [] = Ok a
alone_in a _ = Err why.Fields

unfoldable pub enter_in : List (List ℕ) → Result Act WhyRefused
enter_in (sig ∷ []) = sig_of sig >>= (λ sig. Ok (act.Enter sig))
enter_in _ = Err why.Fields

unfoldable pub slot_in : List (List ℕ) → Result ℕ WhyRefused
slot_in (slot ∷ []) = below slot SLOTS
slot_in _ = Err why.Fields

unfoldable pub probe_fields : (positions : ℕ) → (slot at : List ℕ) → Result Act WhyRefused
probe_fields positions slot at = do
  slot ← below slot SLOTS
  at ← below at positions
  Ok (act.Probe slot at)

unfoldable pub probe_in : (positions : ℕ) → List (List ℕ) → Result Act WhyRefused
probe_in positions (slot ∷ at ∷ []) = probe_fields positions slot at
probe_in positions _ = Err why.Fields

unfoldable pub act_in : (positions : ℕ) → Word → List (List ℕ) → Result Act WhyRefused
act_in positions word.Look rest = alone_in act.Look rest
act_in positions word.Enter rest = enter_in rest
act_in positions word.Set rest = alone_in act.Set rest
act_in positions word.Leave rest = alone_in act.Leave rest
act_in positions word.Seal rest = alone_in act.Seal rest
act_in positions word.Settle rest = slot_in rest >>= (λ slot. Ok (act.Settle slot))
act_in positions word.Drain rest = slot_in rest >>= (λ slot. Ok (act.Drain slot))
act_in positions word.Open rest = slot_in rest >>= (λ slot. Ok (act.Open slot))
act_in positions word.Point rest = alone_in act.Point rest
act_in positions word.Probe rest = probe_in positions rest

unfoldable pub step_of : Actor → Act → Result Step WhyRefused
step_of who a = if may_do who a then Ok (record { actor = who; act = a }) else Err why.Field

-- the number of fields is judged before any field
unfoldable pub step_in : (passes positions : ℕ) → List ℕ → Word → List (List ℕ) → Result Step WhyRefused
step_in passes positions who w rest = do
  a ← act_in positions w rest
  who ← actor_in passes who
  step_of who a

-- the word that a field is
unfoldable pub word_of : List ℕ → Option Word
word_of field =
    if bytes_eq field (word_text word.Set) then Some word.Set else
    (if bytes_eq field (word_text word.Look) then Some word.Look else
    (if bytes_eq field (word_text word.Enter) then Some word.Enter else
    (if bytes_eq field (word_text word.Leave) then Some word.Leave else
    (if bytes_eq field (word_text word.Probe) then Some word.Probe else
    (if bytes_eq field (word_text word.Drain) then Some word.Drain else
    (if bytes_eq field (word_text word.Settle) then Some word.Settle else
    (if bytes_eq field (word_text word.Seal) then Some word.Seal else
    (if bytes_eq field (word_text word.Open) then Some word.Open else
    (if bytes_eq field (word_text word.Point) then Some word.Point else None)))))))))

-- ---- lines

-- what is known with one more line
unfoldable pub grown : Known → Said → Known
grown known said.Version = record known { stage = stage.Core; read = known.read + 1 }
grown known (said.Core passes shape) = record known { stage = stage.Steps; read = known.read + 1; passes = passes; shape = shape; positions = 2 ^ shape.n }
grown known (said.Does step) = record known { stage = stage.Steps; read = known.read + 1; steps = known.steps ++ step ∷ [] }
grown known said.End = record known { stage = stage.Over; read = known.read + 1 }

unfoldable pub version_rest : Known → List (List ℕ) → Result Known WhyRefused
version_rest known (version ∷ []) = if bytes_eq version (codes "1") then Ok (grown known said.Version) else Err why.Field
version_rest known _ = Err why.Fields

unfoldable pub version_line : Known → List (List ℕ) → Result Known WhyRefused
version_line known [] = Err why.Word
version_line known (w ∷ rest) = if bytes_eq w (codes "spie-play") then version_rest known rest else Err why.Word

unfoldable pub core_fields : Known → (passes k n base : List ℕ) → Result Known WhyRefused
core_fields known passes k n base = do
  passes ← number passes 1 MOST_PASSES
  shape ← shape_in k n base
  Ok (grown known (said.Core passes shape))

unfoldable pub core_rest : Known → List (List ℕ) → Result Known WhyRefused
core_rest known (passes ∷ k ∷ n ∷ base ∷ []) = core_fields known passes k n base
core_rest known _ = Err why.Fields

unfoldable pub core_line : Known → List (List ℕ) → Result Known WhyRefused
core_line known [] = Err why.Word
core_line known (w ∷ rest) = if bytes_eq w (codes "core") then core_rest known rest else Err why.Word

-- one step more, if there is room for it
unfoldable pub pushed : Known → Step → Result Known WhyRefused
pushed known step = if nat_le most_steps (length known.steps) then Err why.TooMany else Ok (grown known (said.Does step))

unfoldable pub by_word : Known → List ℕ → Option Word → List (List ℕ) → Result Known WhyRefused
by_word known who None rest = Err why.Word
by_word known who (Some w) rest = step_in known.passes known.positions who w rest >>= (λ step. pushed known step)

unfoldable pub end_line : Known → List ℕ → Result Known WhyRefused
end_line known w = if bytes_eq w (codes "end") then Ok (grown known said.End) else Err why.Word

unfoldable pub step_line : Known → List (List ℕ) → Result Known WhyRefused
step_line known [] = Err why.Word
step_line known (w ∷ []) = end_line known w
step_line known (who ∷ w ∷ rest) = by_word known who (word_of w) rest

unfoldable pub line_at : Stage → Known → List (List ℕ) → Result Known WhyRefused
line_at stage.Version known fields = version_line known fields
line_at stage.Core known fields = core_line known fields
line_at stage.Steps known fields = step_line known fields
line_at stage.Over known fields = Err why.After

-- what is known with one more line, or the rule that the line breaks
unfoldable pub read_line : Known → List ℕ → Result Known WhyRefused
read_line known text = if nat_lt most_line_bytes (length text) then Err why.Length else line_at known.stage known (fields text)

abbrev pub script_in : Known → PlayScript
script_in known = record { shape = known.shape; passes = known.passes; steps = known.steps }

-- what is known of a script's lines, and how one more is read
abbrev pub reader : Reader Said Known WhyRefused PlayScript
reader = record {
  known_of = known_of;
  is_over = λ known. is_over known.stage;
  count = λ known. known.read;
  read_line = read_line;
  value_of = script_in;
}

-- one line after another
unfoldable pub read_lines : Known → List (List ℕ) → Result Known TraceRefused
read_lines known parts = texts.read_lines refusals reader known parts

-- the script that a text is, or its fault
unfoldable pub read_of : List ℕ → Result PlayScript TraceRefused
read_of text = texts.read_text refusals reader most_bytes text
