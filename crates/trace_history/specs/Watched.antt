-- What watches are answered.
use Rattle.std.specs.Prelude.{◌≡◌, [], ◌∷◌, false, IsTrue}
use Rattle.router_account.specs.Watches.{watch_of, IsBetween}
use Rattle.trace_history.specs.History.{Event, watched, History, account, clock}
use Rattle.trace_history.specs.Receipts.{is_barrier, up_to_barrier}
use Rattle.trace_history.specs.Ledgers.{ledger}
use Rattle.trace_history.specs.Routers.{RouterRules}

-- with one worker each watch sees the records of earlier lines and no others
abbrev pub IsSequentialWatch : RouterRules → (before : History) → Event → Type 0
IsSequentialWatch rules before (watched r sig answer) = answer ≡ watch_of (rules r) (ledger rules r before) (clock before) sig
IsSequentialWatch rules before _ = Unit {0}

abbrev pub AreSequentialWatches : RouterRules → History → Type 0
AreSequentialWatches rules [] = Unit {0}
AreSequentialWatches rules (moment ∷ history) = AreSequentialWatches rules history × IsSequentialWatch rules history moment.event

-- with several: what was there at its segment's end, or was not there at its start
abbrev pub IsBetweenWatch : RouterRules → (end before : History) → Event → Type 0
IsBetweenWatch rules end before (watched r sig answer) =
    IsBetween (rules r) (ledger rules r before) (account rules r (up_to_barrier before)) (account rules r end) (clock before) sig answer
IsBetweenWatch rules end before _ = Unit {0}

-- of each watch of the segment that ends so
abbrev pub AreSegmentWatches : RouterRules → (end history : History) → Type 0
AreSegmentWatches rules end [] = Unit {0}
AreSegmentWatches rules end (moment ∷ history) =
    is_barrier moment.event ≡ false → IsBetweenWatch rules end history moment.event × AreSegmentWatches rules end history

-- of each segment that has ended
abbrev pub AreBetweenWatches : RouterRules → History → Type 0
AreBetweenWatches rules [] = Unit {0}
AreBetweenWatches rules (moment ∷ history) =
    AreBetweenWatches rules history × (IsTrue (is_barrier moment.event) → AreSegmentWatches rules history history)
