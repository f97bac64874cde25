-- What a source and a sink over memory are seen as, and what a call does to them.
use Rattle.std.specs.Prelude.{ℕ, ◌+◌, ◌-◌, ◌^◌, ◌==◌, ◌||◌, Bool, List, ◌++◌, length, take, drop, min, if◌then◌else◌}
use Rattle.std.specs.List.{list_any}

-- a counter of 64 bits after one more
abbrev pub counted : ℕ → ℕ
counted count = min (count + 1) (2 ^ 64 - 1)

-- whether a call's number is among those listed
abbrev pub is_listed : List ℕ → ℕ → Bool
is_listed listed call = list_any (λ other. other == call) listed

-- a source: what is left, how many bytes it gives at once, which calls fail, the calls and the faults so far
pub record Supply : Type 0 where
  pub rest : List ℕ
  pub step : ℕ
  pub failing : List ℕ
  pub calls : ℕ
  pub faulty : ℕ

-- how many bytes a take moves into this much room
abbrev pub taken : Supply → ℕ → ℕ
taken s room = min (min room s.step) (length s.rest)

-- after a take into this much room
abbrev pub supply_after : Supply → ℕ → Supply
supply_after s room =
    if is_listed s.failing s.calls then record s { calls = counted s.calls; faulty = counted s.faulty }
    else record s { rest = drop (taken s room) s.rest; calls = counted s.calls }

-- a sink: what was written, how many bytes it takes at once, how many in all, which calls fail, the calls and the faults so far
pub record Store : Type 0 where
  pub held : List ℕ
  pub step : ℕ
  pub room : ℕ
  pub failing : List ℕ
  pub calls : ℕ
  pub faulty : ℕ

-- how many bytes of a piece a give appends
abbrev pub given : Store → List ℕ → ℕ
given s piece = min (min (length piece) s.step) (s.room - length s.held)

-- whether the next give fails: its number is listed, or the room is used up
abbrev pub is_failing : Store → Bool
is_failing s = (length s.held == s.room) || is_listed s.failing s.calls

-- after a give of this piece
abbrev pub store_after : Store → List ℕ → Store
store_after s piece =
    if is_failing s then record s { calls = counted s.calls; faulty = counted s.faulty }
    else record s { held = s.held ++ take (given s piece) piece; calls = counted s.calls }
