-- How a line is spelled.
use Rattle.std.specs.Prelude.{ℕ, ◌^◌, ◌<◌, ◌≤◌, ◌≡◌, List, [], ◌∷◌, true, codes, Ok}
use Rattle.std.specs.Fmt.{decimal}
use Rattle.hex.specs.Hex.{decode_sized}
use Rattle.gate_core.specs.Core.{may_do}
use Rattle.gate_core.specs.declared.limits.TheConstants.{MOST_PASSES, SLOTS}
use Rattle.play_script.specs.Limits.{IsCore}
use Rattle.gate_core.specs.declared.steps.Act.{Act}
use Rattle.gate_core.specs.declared.steps.Act.TheVariants as act
use Rattle.gate_core.specs.declared.steps.Actor.{Actor}
use Rattle.gate_core.specs.declared.steps.Actor.TheVariants as actor
use Rattle.spie_base.specs.declared.types.PageShape.{PageShape}
use Rattle.spie_base.specs.declared.types.Sig.{Sig}
use Rattle.trace_format.specs.Spelling.{IsBase}
use Rattle.play_script.specs.Said.{Said}
use Rattle.play_script.specs.Said as said
use Rattle.play_script.specs.declared.script.PlayScript.{PlayScript}

-- 56 hex digits, in either case, of a signature
abbrev pub IsSig : List ℕ → Sig → Type 0
IsSig digits sig = decode_sized digits 28 ≡ Ok sig.bytes

-- `k`, or a pass's number. `decimal` writes no needless zero in front
abbrev pub IsActor : (passes : ℕ) → Actor → List ℕ → Type 0
IsActor passes actor.Keeper field = field ≡ codes "k"
IsActor passes (actor.Pass number) field = (field ≡ decimal number) × (number < passes)

-- the fields behind the actor of a step that does this
abbrev pub SpellsAct : PageShape → Act → List (List ℕ) → Type 0
SpellsAct shape act.Look fields = fields ≡ codes "look" ∷ []
SpellsAct shape (act.Enter sig) fields = (digits : List ℕ) × (fields ≡ codes "enter" ∷ digits ∷ []) × IsSig digits sig
SpellsAct shape act.Set fields = fields ≡ codes "set" ∷ []
SpellsAct shape act.Leave fields = fields ≡ codes "leave" ∷ []
SpellsAct shape act.Seal fields = fields ≡ codes "seal" ∷ []
SpellsAct shape (act.Settle slot) fields = (fields ≡ codes "settle" ∷ decimal slot ∷ []) × (slot < SLOTS)
SpellsAct shape (act.Drain slot) fields = (fields ≡ codes "drain" ∷ decimal slot ∷ []) × (slot < SLOTS)
SpellsAct shape (act.Open slot) fields = (fields ≡ codes "open" ∷ decimal slot ∷ []) × (slot < SLOTS)
SpellsAct shape act.Point fields = fields ≡ codes "point" ∷ []
SpellsAct shape (act.Probe slot at) fields = (fields ≡ codes "probe" ∷ decimal slot ∷ decimal at ∷ []) × (slot < SLOTS) × (at < 2 ^ shape.n)

-- the fields of a line that says this, behind lines that say so much
abbrev pub Spells : PlayScript → Said → List (List ℕ) → Type 0
Spells far said.Version fields = fields ≡ codes "spie-play" ∷ codes "1" ∷ []
Spells far (said.Core passes shape) fields = (base : List ℕ) × (fields ≡ codes "core" ∷ decimal passes ∷ decimal shape.k ∷ decimal shape.n ∷ base ∷ []) × (1 ≤ passes) × (passes ≤ MOST_PASSES) × IsCore shape × IsBase base shape.base × (shape.router.number ≡ 0)
Spells far (said.Does step) fields = (who : List ℕ) × (rest : List (List ℕ)) × (fields ≡ who ∷ rest) × IsActor far.passes step.actor who × SpellsAct far.shape step.act rest × (may_do step.actor step.act ≡ true)
Spells far said.End fields = fields ≡ codes "end" ∷ []
