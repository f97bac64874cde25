-- A router's ledger after a history.
use Rattle.std.specs.Prelude.{ℕ, List, [], ◌++◌, ◌∷◌, ◌==◌, if◌then◌else◌, None, Some}
use Rattle.std.specs.declared.option.Option.{Option}
use Rattle.std.specs.List.{flat_map}
use Rattle.router_account.specs.Ledger.{Ledger}
use Rattle.trace_history.specs.History.{Event, archived, ticked, queried, ended, History, account, clock}
use Rattle.trace_history.specs.Receipts.{up_to_barrier}
use Rattle.trace_history.specs.Routers.{RouterRules}

-- the pages of a router that archivals put
abbrev pub put_by : (router : ℕ) → Event → List ℕ
put_by r (archived router put kept) = if router == r then put else []
put_by r _ = []

abbrev pub puts : (router : ℕ) → History → List ℕ
puts r history = flat_map (λ moment. put_by r moment.event) history

-- those that archivals covered
abbrev pub covered_by : (router : ℕ) → Event → List ℕ
covered_by r (archived router put kept) = if router == r then put ++ kept else []
covered_by r _ = []

abbrev pub covers : (router : ℕ) → History → List ℕ
covers r history = flat_map (λ moment. covered_by r moment.event) history

-- and those that barriers left on the shelf
abbrev pub left_by : (router : ℕ) → Event → List ℕ
left_by r (ticked time left) = left r
left_by r (queried query left) = left r
left_by r (ended left) = left r
left_by r _ = []

abbrev pub lefts : (router : ℕ) → History → List ℕ
lefts r history = flat_map (λ moment. left_by r moment.event) history

-- which pages were closed at the archival of a segment, where one came
abbrev pub closed_by : RouterRules → (router : ℕ) → Event → (before : History) → Option (List ℕ) → Option (List ℕ)
closed_by rules r (archived router put kept) before earlier = if router == r then Some (account rules r before).closings else earlier
closed_by rules r (ticked time left) before earlier = None
closed_by rules r (queried query left) before earlier = None
closed_by rules r (ended left) before earlier = None
closed_by rules r _ before earlier = earlier

abbrev pub closed_at_archive : RouterRules → (router : ℕ) → History → Option (List ℕ)
closed_at_archive rules r [] = None
closed_at_archive rules r (moment ∷ history) = closed_by rules r moment.event history (closed_at_archive rules r history)

-- how a segment's archival splits its pages shows in the ledger behind the next barrier
abbrev pub ledger : RouterRules → (router : ℕ) → History → Ledger
ledger rules r history = record {
  account = account rules r history;
  closings_then = (account rules r (up_to_barrier history)).closings;
  clock_then = clock (up_to_barrier history);
  put_before = puts r (up_to_barrier history);
  covered_before = covers r (up_to_barrier history);
  left_before = lefts r (up_to_barrier history);
  closed_at_archive = closed_at_archive rules r history;
}
