-- A replay that stops at a query.
use Rattle.std.proofs.Common.{ℕ, ◌≡◌, ◌<◌, ◌+◌, ◌++◌, ◌∙◌, Bool, true, false, cond, ◌==◌, List, length, get_or, take, drop, sym, ap, refl, subst, arith}
use Rattle.std.specs.Prelude.{Option, Some, None, is_some, unwrap_or}
use Rattle.std.specs.List.{All}
use Rattle.std.proofs.Math.Seq.{take-length}
use Rattle.std.proofs.lemmas.Bool.{eqb-true, false≢true}
use Rattle.std.proofs.lemmas.List.{take_more, take-append-drop, get_or-take, get_or_default, length-take, length-take-le, take-append-le}
use Rattle.spie_base.specs.Shown.{Shown}
use Rattle.spie_base.specs.declared.RouterId.{RouterId}
use Rattle.trace_format.specs.declared.Line.{Line}
use Rattle.trace_format.specs.declared.Trace.{Trace}
use Rattle.trace_format.specs.declared.What.{What}
use Rattle.trace_format.specs.declared.What.TheVariants as what
use Rattle.trace_format.specs.Sound.{IsSound, IsWithin}
use Rattle.router_account.specs.Shelves.{ShelfView}
use Rattle.data_agent.specs.declared.Barrier.{Barrier}
use Rattle.data_agent.specs.Calls.{Told}
use Rattle.trace_history.specs.Routers.{count}
use Rattle.trace_replay.specs.declared.state.State.{State}
use Rattle.trace_replay.specs.Agents.{Standing, PassesAll, SeesAll, IsPast, IsReady}
use Rattle.trace_replay.specs.Loop.{HasDone}
use Rattle.trace_replay.specs.Printing.{splits_of}
use Rattle.trace_replay.specs.Segments.{no_line}
use Rattle.trace_replay.specs.Sights.{query_time, time_at, HasQuery, AreSights}
use Rattle.trace_replay.specs.Standing.{Way, IsNext}
use Rattle.trace_replay.proofs.Asked.{agents_past, router_exists, sights_are}
use Rattle.trace_replay.proofs.Closes.{agents_ready}
use Rattle.trace_replay.proofs.Doing.{ready_at}
use Rattle.trace_replay.proofs.Sums.{get_at, some_of}

-- ---- lines with which others begin

pub first_within : {X : Type 0} (xs ys : List X) → ys ≡ take (length ys) xs → (i : ℕ) → i < length ys → i < length xs
first_within xs ys is i l = let e = ap length is ∙ length-take (length ys) xs in omega (arith, e, l)

pub first_at : {X : Type 0} (xs ys : List X) → ys ≡ take (length ys) xs → (i : ℕ) (d : X) → i < length ys → get_or ys i d ≡ get_or xs i d
first_at xs ys is i d l = ap (λ (zs : List _). get_or zs i d) is ∙ get_or-take (length ys) xs i d l

-- what a slice of a whole vector leaves in it
pub written_back : {X : Type 0} (n : ℕ) (xs ws : List X) → length ws ≡ n → take n (ws ++ drop (length ws) xs) ≡ ws
written_back n xs ws e = take-append-le n ws (drop (length ws) xs) (omega (arith, e)) ∙ ap (λ (k : ℕ). take k ws) (sym e) ∙ take-length ws

-- ---- the line of a query

pub record IsQuery (w : What) (time : ℕ) : Type 0 where
  pub router : RouterId
  pub packet : ℕ
  pub is : w ≡ what.Query router packet time

-- a line has this number and is a query
pub record IsAsked (line : ℕ) (x : Line) (time : ℕ) : Type 0 where
  pub number_is : x.number ≡ line
  pub query : IsQuery x.what time

some_same : (a b : ℕ) → Some a ≡ Some b → a ≡ b
some_same a b e = ap (λ (o : Option ℕ). unwrap_or o 0) e

no_time : {X : Type 0} (time : ℕ) → None ≡ Some time → X
no_time time e = absurd (false≢true (ap is_some e))

is_query : (w : What) (time : ℕ) → query_time w ≡ Some time → IsQuery w time
is_query (what.Query router packet t) time e = record { router = router; packet = packet; is = ap (λ (x : ℕ). what.Query router packet x) (some_same t time e) }
is_query (what.Tick t) time e = no_time time e
is_query what.End time e = no_time time e
is_query (what.Archive router) time e = no_time time e
is_query (what.Fwd router packet) time e = no_time time e
is_query (what.Xf router kind old new) time e = no_time time e
is_query (what.Rotate router) time e = no_time time e
is_query (what.Watch router packet) time e = no_time time e

by_number : (b : Bool) (o : Option ℕ) (time : ℕ) → cond b o None ≡ Some time → (b ≡ true) × (o ≡ Some time)
by_number true o time e = (refl, e)
by_number false o time e = no_time time e

some_by : (b : Bool) (o : Option ℕ) → is_some (cond b o None) ≡ true → (b ≡ true) × (is_some o ≡ true)
some_by true o e = (refl, e)
some_by false o e = absurd (false≢true e)

pub asked_line : (line : ℕ) (x : Line) (time : ℕ) → time_at line x ≡ Some time → IsAsked line x time
asked_line line x time e =
    let both = by_number (x.number == line) (query_time x.what) time e in
    record { number_is = eqb-true x.number line both.0; query = is_query x.what time both.1 }

number_tests : (n : ℕ) → (n == n) ≡ true
number_tests n = grind arith

-- a query is found where each line was looked at
pub found : (lines : List Line) (line : ℕ) → HasQuery lines line → ((j : ℕ) → j < length lines → time_at line (get_or lines j no_line) ≡ None) → ⊥
found lines line has none =
    let k = has.there.0 in
    let l = has.there.1 in
    let q = has.query in
    let e : time_at line q ≡ None = let P : Line → Type 0 = λ x. time_at line x ≡ None in subst P (get_or_default lines k no_line q l ∙ has.there.2) (none k l) in
    let t : time_at line q ≡ query_time q.what = ap (λ (n : ℕ). cond (n == line) (query_time q.what) None) has.number_is ∙ ap (λ b. cond b (query_time q.what) None) (number_tests line) in
    false≢true (sym (ap is_some (sym t ∙ e)) ∙ has.asks)

pub is_there : (lines : List Line) (line place : ℕ) → place < length lines → is_some (time_at line (get_or lines place no_line)) ≡ true → HasQuery lines line
is_there lines line place l e =
    let x = get_or lines place no_line in
    let both = some_by (x.number == line) (query_time x.what) e in
    record { query = x; there = (place, l, get_or_default lines place x no_line l); number_is = eqb-true x.number line both.0; asks = both.1 }

-- ---- behind it

module _ {A S : Type 0} (way : Way A) (stands : Standing A) (shown : S → Shown) (told : S → Told) (t : Trace) (start : ShelfView) (sound : IsSound t) (agents : List A) (s : State) (was : ShelfView)
    (lines : List Line) (is : lines ≡ t.lines) (place : ℕ) (there : place < length lines) (before : HasDone way stands t start (length (take place lines)) agents s was)
    (line time : ℕ) (asks : time_at line (get_or lines place no_line) ≡ Some time) where
  within : place < length t.lines
  within = subst (λ (xs : List Line). place < length xs) is there

  done : HasDone way stands t start place agents s was
  done =
      let D : List Line → Type 0 = λ xs. HasDone way stands t start (length (take place xs)) agents s was in
      let E : ℕ → Type 0 = λ n. HasDone way stands t start n agents s was in
      let l = within in
      subst E (length-take-le place t.lines (omega (arith, l))) (subst D is before)

  abbrev this : Line
  this = get_or t.lines place no_line

  asked : IsAsked line this time
  asked = asked_line line this time (subst (λ (xs : List Line). time_at line (get_or xs place no_line) ≡ Some time) is asks)

  ready : IsNext way stands t this agents s was
  ready = ready_at way stands t start sound place no_line agents s was within done

  pub ready_there : All (IsReady stands s.clock false) agents
  ready_there = agents_ready way stands t this agents s was ready s.clock false (omega arith) ready.3.clock_fits

  pub past_there : (after : List A) (mid : ShelfView) (barriers : List Barrier) → PassesAll stands s.clock false agents after barriers was mid → All (IsPast stands time) after
  past_there after mid barriers all =
      agents_past way stands t this agents after s was mid ready barriers all time (router_exists way stands t this agents s was asked.query.router asked.query.packet time asked.query.is ready).1

  pub sights_there : way.workers ≡ 1 → (after : List A) (mid now : ShelfView) (barriers : List Barrier) → PassesAll stands s.clock false agents after barriers was mid
      → (sights : List S) → SeesAll stands shown told time after sights mid now → AreSights shown told t line sights (record { shelf_before = start; shelf_after = now })
  sights_there alone after mid now barriers all sights sees =
      let query = asked.query in
      let W : What → Type 0 = λ w. IsWithin (count t) (length t.sigs) w in
      let has : query.packet < length t.sigs = (subst W query.is (sound.within place no_line within)).1 in
      let some = some_of t.sigs query.packet has in
      let N : ℕ → Type 0 = λ n. AreSights shown told t n sights (record { shelf_before = start; shelf_after = now }) in
      subst N asked.number_is
      (sights_are way stands shown told t start done.history done.seg agents after s was mid now done.stood barriers all time sights sees this query.router query.packet (get_or t.sigs query.packet some) query.is (get_at t.sigs query.packet some has) alone
      (take place t.lines) (take (place + 1) t.lines) (drop (place + 1) t.lines) (sym (take-append-drop (place + 1) t.lines)) (take_more t.lines place no_line within) (done.lines_are (splits_of barriers)))
