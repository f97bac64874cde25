-- What holds of every trace: all that a reader of one may rest on.
use Rattle.std.specs.Prelude.{ℕ, ◌+◌, ◌≤◌, ◌<◌, ◌≡◌, ◌≢◌, ◌^◌, ◌==◌, ◌↔◌, List, [], ◌∷◌, length, Bool, true, false, slice_get, Some}
use Rattle.std.specs.List.{All, filter, list_any}
use Rattle.spie_base.specs.Shapes.{AreInRange}
use Rattle.topology.specs.Layout.{IsEachOnce}
use Rattle.topology.specs.Layout.{IsSound as IsSoundLayout}
use Rattle.trace_format.specs.Spelling.{IsFront, IsBack, IsName}
use Rattle.spie_base.specs.declared.types.Rules.{Rules}
use Rattle.spie_base.specs.declared.types.TheConstants.{N_MOST}
use Rattle.trace_format.specs.declared.items.Line.{Line}
use Rattle.trace_format.specs.declared.items.Trace.{Trace}
use Rattle.trace_format.specs.declared.items.What.{What}
use Rattle.trace_format.specs.declared.items.What.TheVariants.{Fwd, Xf, Rotate, Archive, Watch, Tick, Query, End}
use Rattle.trace_format.specs.declared.limits.TheConstants.{MOST_BYTES, MOST_PACKETS, MOST_RECORDS}

-- the names of routers are of their form, and so neither empty nor with a space, and no two are the same
pub record AreNames (names : List (List ℕ)) : Type 0 where
  pub spelled : All IsName names
  pub some : All (λ name. 0 < length name) names
  pub no_spaces : All (λ name. All (λ byte. byte ≢ 32) name) names
  pub differ : IsEachOnce names

-- the router and the packets that a line names are among so many
abbrev pub IsWithin : ℕ → ℕ → What → Type 0
IsWithin routers packets (Fwd router packet) = (router.number < routers) × (packet < packets)
IsWithin routers packets (Xf router kind old new) = (router.number < routers) × (old < packets) × (new < packets)
IsWithin routers packets (Rotate router) = router.number < routers
IsWithin routers packets (Archive router) = router.number < routers
IsWithin routers packets (Watch router packet) = (router.number < routers) × (packet < packets)
IsWithin routers packets (Tick time) = Unit {0}
IsWithin routers packets (Query router packet time) = (router.number < routers) × (packet < packets)
IsWithin routers packets End = Unit {0}

-- a time that a line names is below 2^48
abbrev pub HasTime : What → Type 0
HasTime (Tick time) = time < 2 ^ 48
HasTime (Query router packet time) = time < 2 ^ 48
HasTime _ = Unit {0}

-- a tick is above the clock, and a query is not
abbrev pub FitsClock : ℕ → What → Type 0
FitsClock clock (Tick time) = clock < time
FitsClock clock (Query router packet time) = time ≤ clock
FitsClock clock _ = Unit {0}

-- the clock after a line
abbrev pub clock_after : ℕ → What → ℕ
clock_after clock (Tick time) = time
clock_after clock _ = clock

-- the times of these lines fit a clock that is set by their ticks
abbrev pub AreTimed : ℕ → List Line → Type 0
AreTimed clock [] = Unit {0}
AreTimed clock (line ∷ more) = FitsClock clock line.what × AreTimed (clock_after clock line.what) more

-- whether a router is among those archived
abbrev pub is_archived : List ℕ → (router : ℕ) → Bool
is_archived archived r = list_any (λ q. q == r) archived

-- no router is archived that is among those archived already
abbrev pub FitsOnce : List ℕ → What → Type 0
FitsOnce archived (Archive router) = is_archived archived router.number ≡ false
FitsOnce archived _ = Unit {0}

-- the routers archived in a segment, after a line. A segment ends with a tick, a query or the end
abbrev pub archived_after : List ℕ → What → List ℕ
archived_after archived (Archive router) = router.number ∷ archived
archived_after archived (Tick time) = []
archived_after archived (Query router packet time) = []
archived_after archived End = []
archived_after archived _ = archived

-- each router is archived at most once in a segment
abbrev pub AreArchivedOnce : List ℕ → List Line → Type 0
AreArchivedOnce archived [] = Unit {0}
AreArchivedOnce archived (line ∷ more) = FitsOnce archived line.what × AreArchivedOnce (archived_after archived line.what) more

-- the numbers of these lines rise, from above this one
abbrev pub AreNumbered : ℕ → List Line → Type 0
AreNumbered number [] = Unit {0}
AreNumbered number (line ∷ more) = (number < line.number) × AreNumbered line.number more

-- whether a line puts a packet into a page
abbrev pub is_recording : What → Bool
is_recording (Fwd router packet) = true
is_recording (Xf router kind old new) = true
is_recording _ = false

-- the lines that do
abbrev pub records : List Line → List Line
records lines = filter (λ line. is_recording line.what) lines

-- there is a last line, and it alone is the end
pub record HasOneEnd (lines : List Line) : Type 0 where
  pub some : 0 < length lines
  pub last : (i : ℕ) (line : Line) → slice_get lines i ≡ Some line → (line.what ≡ End) ↔ (i + 1 ≡ length lines)

-- rules that a router may have
pub record IsFit (r : Rules) : Type 0 where
  pub front : IsFront N_MOST r
  pub back : IsBack r
  pub shape : AreInRange r.k r.n

-- what holds of every trace
pub record IsSound (t : Trace) : Type 0 where
  pub front : IsFront N_MOST t.rules
  pub back : IsBack t.rules
  pub shape : AreInRange t.rules.k t.rules.n
  pub topology : IsSoundLayout t.topology
  pub shapes : length t.shapes ≡ length t.topology.names
  pub fits : All IsFit t.shapes
  pub names : AreNames t.topology.names
  pub few_packets : length t.sigs ≤ MOST_PACKETS
  pub few_records : length (records t.lines) ≤ MOST_RECORDS
  pub few : length t.lines < MOST_BYTES
  pub within : All (λ line. IsWithin (length t.topology.names) (length t.sigs) line.what) t.lines
  pub timed : AreTimed 0 t.lines
  pub times : All (λ line. HasTime line.what) t.lines
  pub once : AreArchivedOnce [] t.lines
  pub rising : AreNumbered 0 t.lines
  pub ended : HasOneEnd t.lines
