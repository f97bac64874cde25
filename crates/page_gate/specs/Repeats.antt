-- A record that changes no word, since its marks are all set already. No public clause cites this module.
use Rattle.std.specs.Prelude.{◌≡◌, ℕ, []}
use Rattle.atomic_table.specs.Table.{Me, Step}
use Rattle.spie_base.specs.declared.PageNo.{PageNo}
use Rattle.spie_base.specs.declared.PageShape.{PageShape}
use Rattle.spie_base.specs.declared.Sig.{Sig}
use Rattle.spie_base.specs.declared.types.Entry.{Entry}
use Rattle.gate_core.specs.declared.view.View.{View}
use Rattle.page_gate.specs.Pages.{CanRead}
use Rattle.page_gate.specs.Probes.{HaveAllMarks}
use Rattle.page_gate.specs.Steps.{Nothing}
use Rattle.page_gate.specs.Tried.{with_entry}

-- what no call picks
abbrev pub no_entry : Entry
no_entry = record { page = record { number = 0 }; sig = record { bytes = [] } }

-- the keeper is idle, the page stands in a slot, and each mark of the signature there is a mark of one of the keeper's entries
abbrev pub CanRepeat : PageShape → View → PageNo → Sig → Type 0
CanRepeat shape v page sig = (slot : ℕ) × CanRead v page.number slot × HaveAllMarks shape v.entries page.number sig

-- a step is the whole record of the entry
abbrev pub repeated : Entry → Step Nothing → Me Nothing View → ℕ → Me Nothing View → Type 0
repeated e st m n m' = m' ≡ (with_entry m.0 e.page e.sig, m.1)
