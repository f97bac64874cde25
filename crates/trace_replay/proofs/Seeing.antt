-- A query at one router more.
use Rattle.std.proofs.Common.{ℕ, ◌≡◌, ◌≤◌, ◌<◌, ◌+◌, ◌∷◌, [], ◌++◌, ◌∙◌, true, List, length, get_or, sym, ap, subst, arith, length-append}
use Rattle.std.specs.Prelude.{unwrap_or, option_map}
use Rattle.std.specs.declared.option.Option.{Option}
use Rattle.spie_base.specs.Causes.{RoseBy}
use Rattle.spie_base.specs.Shown.{Shown}
use Rattle.spie_base.specs.declared.Rules.{Rules}
use Rattle.page_shelf.specs.Shelves.{IsSame}
use Rattle.router_account.specs.Ledger.{Ledger, Unfinished}
use Rattle.router_account.specs.Readings.{IsReadFrom}
use Rattle.router_account.specs.Records.{Holds, AreTrue, AllFailed}
use Rattle.router_account.specs.Shelves.{ShelfView}
use Rattle.router_account.specs.Sights.{Reading, failures, no_reading}
use Rattle.router_account.proofs.LaterReads.{read_since, read_to}
use Rattle.data_agent.specs.Calls.{Told}
use Rattle.trace_history.specs.Routers.{RouterRules, sum_over}
use Rattle.trace_replay.specs.Agents.{Standing, AllStand, AllHold, IsSeenBy, SeesUpTo, reading_at}
use Rattle.trace_replay.proofs.Passing.{holds_same}
use Rattle.trace_replay.proofs.Sums.{rose_add, sum_more, each_push, slice_push_same, slice_push_other}

module _ {A S : Type 0} (stands : Standing A) (shown : S → Shown) (told : S → Told) (time i : ℕ) (agents : List A) (ss : List S) (x d0 : A) (s : S) (s0 s1 s2 : ShelfView)
    (within : i < length agents) (is : x ≡ get_or agents i d0) (so : SeesUpTo stands shown told time i agents ss s0 s1)
    (later : s1.faults ≤ s2.faults) (still : s2.tells ≡ s1.tells)
    (seen : (rules : Rules) (l : Ledger) (u : Unfinished) → stands x rules l u → IsSeenBy shown told rules l time s)
    (paid : RoseBy (failures (told s).reading) s1.faults s2.faults)
    (all_true : (rules : Rules) (l : Ledger) (u : Unfinished) → stands x rules l u → s1.tells ≡ true → Holds rules s1.contents l → AreTrue rules l.account (told s).reading)
    (only_faults : (rules : Rules) (l : Ledger) (u : Unfinished) → stands x rules l u → s1.tells ≡ true → Holds rules s1.contents l → AllFailed (told s).reading)
    (read : (rules : Rules) (l : Ledger) (u : Unfinished) → stands x rules l u → IsReadFrom rules l.account s1 s2 (told s).reading)
    (unchanged : s1.tells ≡ true → IsSame s1.contents s2.contents) where
  x_stands : (rules : RouterRules) (ls : ℕ → Ledger) (us : ℕ → Unfinished) → AllStand stands rules ls us agents → stands x (rules i) (ls i) (us i)
  x_stands rules ls us all = let P : A → Type 0 = λ y. stands y (rules i) (ls i) (us i) in subst P (sym is) (all.each i d0 within)

  each_more : (P : ℕ → S → Type 0) → ((r : ℕ) (d : S) → r < i → P r (get_or ss r d)) → P i s → (r : ℕ) (d : S) → r < i + 1 → P r (get_or (ss ++ s ∷ []) r d)
  each_more P before last = each_push P ss s i so.count before last

  -- the shelf held then what it holds now
  held_mid : (rules : RouterRules) (ls : ℕ → Ledger) (n : ℕ) → s0.tells ≡ true → AllHold n rules s0.contents ls → (r : ℕ) → r < n → Holds (rules r) s1.contents (ls r)
  held_mid rules ls n t holds r l = holds_same (rules r) s0.contents s1.contents (ls r) (so.unchanged t) (holds r l)

  pub sees_more : SeesUpTo stands shown told time (i + 1) agents (ss ++ s ∷ []) s0 s2
  sees_more = record {
    count = length-append ss (s ∷ []) ∙ ap (λ (n : ℕ). n + 1) so.count;
    later = let a = so.later in omega (arith, a, later);
    still = still ∙ so.still;
    seen = λ rules ls us all. each_more (λ r y. IsSeenBy shown told (rules r) (ls r) time y) (so.seen rules ls us all) (seen (rules i) (ls i) (us i) (x_stands rules ls us all));
    paid =
        let P : ℕ → Type 0 = λ n. RoseBy n s0.faults s2.faults in
        let sum = sum_over i (λ r. failures (reading_at told ss r)) in
        let read : Option S → Reading = λ o. unwrap_or (option_map (λ y. (told y).reading) o) no_reading in
        subst P (sym (sum_more i (λ r. failures (reading_at told (ss ++ s ∷ []) r)) (λ r. failures (reading_at told ss r)) (failures (told s).reading)
        (λ r l. let n = so.count in ap (λ o. failures (read o)) (slice_push_other ss s r (omega (arith, n)))) (ap (λ o. failures (read o)) (slice_push_same ss s i so.count))))
        (rose_add sum (failures (told s).reading) s0.faults s1.faults s2.faults so.paid paid);
    all_true = λ t rules ls us all holds. each_more (λ r y. AreTrue (rules r) (ls r).account (told y).reading) (so.all_true t rules ls us all holds)
        (all_true (rules i) (ls i) (us i) (x_stands rules ls us all) (so.still ∙ t) (held_mid rules ls (length agents) t holds i within));
    only_faults = λ t rules ls us all holds. each_more (λ r y. AllFailed (told y).reading) (so.only_faults t rules ls us all holds)
        (only_faults (rules i) (ls i) (us i) (x_stands rules ls us all) (so.still ∙ t) (held_mid rules ls (length agents) t holds i within));
    read = λ rules ls us all. each_more (λ r y. IsReadFrom (rules r) (ls r).account s0 s2 (told y).reading)
        (λ r d l. read_to (rules r) (ls r).account s0 s1 s2 later (told (get_or ss r d)).reading (so.read rules ls us all r d l))
        (read_since (rules i) (ls i).account s0 s1 s2 so.later so.still so.unchanged (told s).reading (read (rules i) (ls i) (us i) (x_stands rules ls us all)));
    unchanged = λ t name. unchanged (so.still ∙ t) name ∙ so.unchanged t name;
  }
