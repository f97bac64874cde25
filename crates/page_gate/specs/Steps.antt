-- The rule of a plane's table, and what each step on it tells. No public clause cites this module but for `IsMet`.
use Rattle.std.specs.Prelude.{◌≡◌, ℕ}
use Rattle.atomic_table.specs.Table.{State, Me, Step}
use Rattle.atomic_table.specs.declared.shared.Seat.{Seat}
use Rattle.spie_base.specs.declared.PageShape.{PageShape}
use Rattle.gate_core.specs.declared.steps.Act.{Act}
use Rattle.gate_core.specs.declared.steps.Act.TheVariants.{Look, Point}
use Rattle.gate_core.specs.declared.view.View.{View}
use Rattle.gate_core.specs.declared.view.Role.TheVariants.{Spent}
use Rattle.gate_core.specs.Views.{first_keeper}
use Rattle.gate_core.specs.Acts.{Enabled, word_of, view_after}
use Rattle.gate_core.specs.Invariant.{PlaneInvariant, Met}

abbrev pub Nothing : Type 0
Nothing = Unit {0}

-- what no call picks
abbrev pub look : Act
look = Look

abbrev pub no_shape : PageShape
no_shape = record { k = 1; n = 6; base = 0; router = record { number = 0 } }

abbrev pub Holds : PageShape → State Nothing View → Type 0
Holds shape s = PlaneInvariant shape s.words s.views

abbrev pub first_view : PageShape → View
first_view shape = first_keeper

-- at some moment the rule held, with this view among the views
abbrev pub IsMet : PageShape → View → Type 0
IsMet shape v = (at word : ℕ) × Met shape v at word

-- that moment is the act, and its word was n then; a store reads nothing
abbrev pub Found : PageShape → Act → View → ℕ → Type 0
Found shape Point v n = IsMet shape v
Found shape a v n = Met shape v (word_of shape a v) n

-- a step is the act, and the rule held before it and after it
abbrev pub did : PageShape → Act → Step Nothing → Me Nothing View → ℕ → Me Nothing View → Type 0
did shape a st m n m' = (m' ≡ (view_after shape a m.0 n, m.1)) × IsMet shape m.0 × Found shape a m.0 n × IsMet shape m'.0

-- nothing changed, the rule holds, and the word that was read was n
abbrev pub attested : PageShape → Step Nothing → Me Nothing View → ℕ → Me Nothing View → Type 0
attested shape st m n m' = (m' ≡ m) × Met shape m.0 st.word n

-- the act is enabled for the seat
abbrev pub Ready : PageShape → Act → Seat Nothing View → Type 0
Ready shape a seat = Enabled shape a seat.me.0 × ¬ (seat.me.0.role ≡ Spent)

-- the word of the act
abbrev pub place_of : PageShape → Act → Seat Nothing View → ℕ
place_of shape a seat = word_of shape a seat.me.0

-- the seat did the act, and read n
pub record Acted (shape : PageShape) (a : Act) (before after : Seat Nothing View) (n : ℕ) : Type 0 where
  pub table : after.table_id ≡ before.table_id
  pub id : after.id ≡ before.id
  pub view : after.me.0 ≡ view_after shape a before.me.0 n
  pub slots : after.me.1 ≡ before.me.1
  pub was : IsMet shape before.me.0
  pub met : IsMet shape after.me.0
