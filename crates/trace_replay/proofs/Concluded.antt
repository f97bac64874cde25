-- Rows and answers, one line after another.
use Rattle.std.proofs.Common.{ℕ, ◌≡◌, ◌≤◌, ◌<◌, ◌+◌, ◌-◌, ◌∷◌, [], ◌++◌, ◌∙◌, Bool, true, false, cond, not, ◌==◌, List, length, get_or, take, drop, drop-cons, add-one, sym, ap, refl, subst, arith, length-append, append-nil, append_assoc}
use Rattle.std.specs.List.{Contains}
use Rattle.std.proofs.lemmas.Grind.{flat_map-append}
use Rattle.std.proofs.lemmas.List.{drop_all, get_or-map, length-map}
use Rattle.std.proofs.lemmas.List.FromFn.{length-range_with_len, get_or-map-range_with_len}
use Rattle.spie_base.proofs.Membership.{has_first, has_later}
use Rattle.spie_base.specs.declared.PageNo.{PageNo}
use Rattle.spie_base.specs.declared.Sig.{Sig}
use Rattle.trace_format.specs.declared.Line.{Line}
use Rattle.trace_format.specs.declared.Trace.{Trace}
use Rattle.trace_format.specs.Sound.{IsWithin, is_recording, records}
use Rattle.router_account.specs.Account.{RowIn, below}
use Rattle.router_account.specs.Ledger.{Ledger, Unfinished}
use Rattle.trace_history.specs.History.{Origin, same, changed, rows_after}
use Rattle.trace_history.specs.Receipts.{Receipt}
use Rattle.trace_history.specs.Routers.{RouterRules}
use Rattle.trace_workers.specs.declared.Job.{Job}
use Rattle.trace_workers.specs.Jobs.{page_at, pages_of}
use Rattle.trace_workers.specs.Records.{receipts_by}
use Rattle.trace_replay.specs.declared.state.Answer.{Answer}
use Rattle.trace_replay.specs.declared.state.Answer.TheVariants.{Entered}
use Rattle.trace_replay.specs.Agents.{Standing}
use Rattle.trace_replay.specs.Concluding.{with_rows, AllThere, receipt_at, MayAddRow, AddsRow, MayAddRows, AddsSoFar, AddsRows, recorded_pages, pages_for, receipts_for, entered}
use Rattle.trace_replay.specs.Merging.{interleaved, operations}
use Rattle.trace_replay.specs.Operated.{row_by, rows_at}
use Rattle.trace_replay.proofs.RowsAdded.{no_rows}

-- ---- lines

pub lines_drop : (lines : List Line) (i : ℕ) (d : Line) → i < length lines → drop i lines ≡ get_or lines i d ∷ drop (i + 1) lines
lines_drop lines i d l = drop-cons lines i d l ∙ ap (λ k. get_or lines i d ∷ drop k lines) (sym (add-one i))

pub any_drop : {X : Type 0} (xs : List X) (i : ℕ) (d : X) → i < length xs → drop i xs ≡ get_or xs i d ∷ drop (i + 1) xs
any_drop xs i d l = drop-cons xs i d l ∙ ap (λ k. get_or xs i d ∷ drop k xs) (sym (add-one i))

pub records_at : (lines : List Line) (i : ℕ) (d : Line) (b : Bool) → i < length lines → is_recording (get_or lines i d).what ≡ b
    → records (drop i lines) ≡ cond b (get_or lines i d ∷ records (drop (i + 1) lines)) (records (drop (i + 1) lines))
records_at lines i d b l e = ap (λ (ls : List Line). records ls) (lines_drop lines i d l) ∙ ap (λ c. cond c (get_or lines i d ∷ records (drop (i + 1) lines)) (records (drop (i + 1) lines))) e

pub operations_at : (lines : List Line) (i : ℕ) (d : Line) (b : Bool) → i < length lines → is_recording (get_or lines i d).what ≡ b
    → operations (drop i lines) ≡ cond (not b) (get_or lines i d ∷ operations (drop (i + 1) lines)) (operations (drop (i + 1) lines))
operations_at lines i d b l e = ap (λ (ls : List Line). operations ls) (lines_drop lines i d l) ∙ ap (λ c. cond (not c) (get_or lines i d ∷ operations (drop (i + 1) lines)) (operations (drop (i + 1) lines))) e

-- ---- pages

pub pages_long : (jobs : List Job) (n : ℕ) → length (recorded_pages jobs n) ≡ n
pages_long jobs n = length-map (below n) (page_at (pages_of jobs)) ∙ length-range_with_len 0 n

pub page_there : (jobs : List Job) (n j : ℕ) (d : PageNo) → j < n → get_or (recorded_pages jobs n) j d ≡ page_at (pages_of jobs) j
page_there jobs n j d l = get_or-map-range_with_len (page_at (pages_of jobs)) 0 n j j d l (omega arith)

-- ---- rows

rows_long_by : (o : Origin) (page : ℕ) (sig : Sig) → length (rows_after [] page sig o) ≤ 1
rows_long_by same page sig = omega arith
rows_long_by (changed kind old) page sig = omega arith

cond_long : (b : Bool) (xs : List RowIn) → length xs ≤ 1 → length (cond b xs []) ≤ 1
cond_long true xs l = l
cond_long false xs l = omega arith

rows_long : (r : ℕ) (xs : List Receipt) → length (rows_at r xs) ≤ length xs
rows_long r [] = omega arith
rows_long r (x ∷ xs) =
    let a = length-append (row_by r x) (rows_at r xs) in
    let b = rows_long r xs in
    let c = cond_long (x.hop.router == r) (rows_after [] x.page x.hop.sig x.hop.origin) (rows_long_by x.hop.origin x.page x.hop.sig) in
    omega (arith, a, b, c)

has_behind : (xs : List Receipt) (x : Receipt) (ys : List Receipt) → Contains (xs ++ x ∷ ys) x
has_behind [] x ys = has_first x ys
has_behind (z ∷ xs) x ys = has_later z (xs ++ x ∷ ys) x (has_behind xs x ys)

module _ {A : Type 0} (stands : Standing A) (t : Trace) (line : Line) (page : ℕ) (xs more : List Receipt) (before mid after : List A) where
  abbrev x : Receipt
  x = receipt_at t line page

  -- the next row may be added
  pub may_add : (rules : RouterRules) (ls : ℕ → Ledger) (us : ℕ → Unfinished) → MayAddRows stands rules ls us xs before → AddsSoFar stands xs (x ∷ more) before mid → IsWithin (length mid) (length t.sigs) line.what
      → MayAddRow stands t line page mid
  may_add rules ls us may so within =
      let had = so.adds rules ls us may in
      let r = x.hop.router in
      let C : List Receipt → Type 0 = λ ys. Contains ys x in
      let near = may.near x (subst C had.rest (has_behind had.done x more)) in
      let n = length-append had.done (x ∷ more) in
      let m = ap (λ (ys : List Receipt). length ys) had.rest in
      let few = may.few r in
      let rows = rows_long r had.done in
      let l = length-append (ls r).account.rows (rows_at r had.done) in (
        rules,
        (λ q. with_rows (ls q) (rows_at q had.done)),
        us,
        had.there,
        within,
        record { exists = near.exists; live = near.live; unput = near.unput },
        omega (arith, n, m, few, rows, l),
      )

  pub adds_on : AddsSoFar stands xs (x ∷ more) before mid → AddsRow stands t line page mid after → AddsSoFar stands xs more before after
  adds_on so one = record {
    same = one.same ∙ so.same;
    adds = λ rules ls us may.
        let had = so.adds rules ls us may in
        let now = one.adds rules (λ q. with_rows (ls q) (rows_at q had.done)) us had.there in
        record {
          done = had.done ++ x ∷ [];
          rest = append_assoc had.done (x ∷ []) more ∙ had.rest;
          there = λ r d l.
              let set_rows : List RowIn → Ledger = λ rs. record (ls r) { account = record (ls r).account { rows = rs } } in
              let S : Ledger → Type 0 = λ k. stands (get_or after r d) (rules r) k (us r) in
              let joined : ((ls r).account.rows ++ rows_at r had.done) ++ row_by r x ≡ (ls r).account.rows ++ rows_at r (had.done ++ x ∷ []) =
              append_assoc (ls r).account.rows (rows_at r had.done) (row_by r x)
              ∙ ap (λ (rs : List RowIn). (ls r).account.rows ++ (rows_at r had.done ++ rs)) (sym (append-nil (row_by r x)))
              ∙ ap (λ (rs : List RowIn). (ls r).account.rows ++ rs) (sym (flat_map-append (row_by r) had.done (x ∷ []))) in
              subst S (ap set_rows joined) (now r d l);
        };
  }

pub adds_none : {A : Type 0} (stands : Standing A) (xs : List Receipt) (agents : List A) → AddsSoFar stands xs xs agents agents
adds_none stands xs agents = record {
  same = refl;
  adds = λ rules ls us may. record {
    done = [];
    rest = refl;
    there = λ r d l. let S : Ledger → Type 0 = λ k. stands (get_or agents r d) (rules r) k (us r) in subst S (sym (no_rows (ls r))) (may.there r d l);
  };
}

pub adds_all : {A : Type 0} (stands : Standing A) (xs left : List Receipt) (before after : List A) → left ≡ [] → AddsSoFar stands xs left before after → AddsRows stands xs before after
adds_all {A} stands xs left before after none so = record {
  same = so.same;
  adds = λ rules ls us may.
      let had = so.adds rules ls us may in
      let e : had.done ≡ xs = sym (append-nil had.done) ∙ ap (λ (ys : List Receipt). had.done ++ ys) (sym none) ∙ had.rest in
      let P : List Receipt → Type 0 = λ ys. AllThere stands rules (λ r. with_rows (ls r) (rows_at r ys)) us after in
      subst P e had.there;
}

-- what is left at a line
abbrev pub left_at : Trace → List Line → List PageNo → (i j : ℕ) → List Receipt
left_at t lines pages i j = receipts_by t.sigs (records (drop i lines)) (drop j pages)

pub left_record : (t : Trace) (lines : List Line) (pages : List PageNo) (i j : ℕ) (d : Line) (p : PageNo) → i < length lines → is_recording (get_or lines i d).what ≡ true → j < length pages
    → left_at t lines pages i j ≡ receipt_at t (get_or lines i d) (get_or pages j p).number ∷ left_at t lines pages (i + 1) (j + 1)
left_record t lines pages i j d p l is m =
    ap (λ (ls : List Line). receipts_by t.sigs ls (drop j pages)) (records_at lines i d true l is)
    ∙ ap (λ (ps : List PageNo). receipts_by t.sigs (get_or lines i d ∷ records (drop (i + 1) lines)) ps) (any_drop pages j p m)

pub left_other : (t : Trace) (lines : List Line) (pages : List PageNo) (i j : ℕ) (d : Line) → i < length lines → is_recording (get_or lines i d).what ≡ false
    → left_at t lines pages i j ≡ left_at t lines pages (i + 1) j
left_other t lines pages i j d l is = ap (λ (ls : List Line). receipts_by t.sigs ls (drop j pages)) (records_at lines i d false l is)

-- ---- one line more, and the last

by_recording : (b : Bool) (P : Bool → Type 0) → (b ≡ true → P true) → (b ≡ false → P false) → P b
by_recording true P f g = f refl
by_recording false P f g = g refl

module _ (lines : List Line) (jobs : List Job) (i j : ℕ) (d line : Line) (is : line ≡ get_or lines i d) (within : i < length lines)
    (counted : j + length (records (drop i lines)) ≡ length (records lines)) where
  abbrev pages : List PageNo
  pages = pages_for lines jobs

  abbrev rec : Bool
  rec = is_recording line.what

  here : (b : Bool) → rec ≡ b → is_recording (get_or lines i d).what ≡ b
  here b e = ap (λ (x : Line). is_recording x.what) (sym is) ∙ e

  pub page_in : rec ≡ true → j < length (records lines)
  page_in e = let r = ap (λ (ls : List Line). length ls) (records_at lines i d true within (here true e)) in omega (arith, r, counted)

  pub counted_next : (next : ℕ) → next ≡ cond rec (j + 1) j → next + length (records (drop (i + 1) lines)) ≡ length (records lines)
  counted_next next e = by_recording rec (λ b. next ≡ cond b (j + 1) j → next + length (records (drop (i + 1) lines)) ≡ length (records lines))
      (λ b k. let r = ap (λ (ls : List Line). length ls) (records_at lines i d true within (here true b)) in omega (arith, r, k, counted))
      (λ b k. let r = ap (λ (ls : List Line). length ls) (records_at lines i d false within (here false b)) in omega (arith, r, k, counted))
      e

  pub order_next : (next : ℕ) → j ≤ i → next ≡ cond rec (j + 1) j → next ≤ i + 1
  order_next next o e = by_recording rec (λ b. next ≡ cond b (j + 1) j → next ≤ i + 1) (λ b k. omega (arith, k, o)) (λ b k. omega (arith, k, o)) e

  -- ---- answers

  abbrev all_entered : List Answer
  all_entered = entered pages

  module _ (given : List Answer) (order : j ≤ i) (others : (i - j) + length (operations (drop i lines)) ≡ length given) where
    pub given_in : rec ≡ false → i - j < length given
    given_in e = let r = ap (λ (ls : List Line). length ls) (operations_at lines i d false within (here false e)) in omega (arith, r, others)

    pub others_next : (next : ℕ) → next ≡ cond rec (j + 1) j → ((i + 1) - next) + length (operations (drop (i + 1) lines)) ≡ length given
    others_next next e = by_recording rec (λ b. next ≡ cond b (j + 1) j → ((i + 1) - next) + length (operations (drop (i + 1) lines)) ≡ length given)
        (λ b k. let r = ap (λ (ls : List Line). length ls) (operations_at lines i d true within (here true b)) in omega (arith, r, k, others, order))
        (λ b k. let r = ap (λ (ls : List Line). length ls) (operations_at lines i d false within (here false b)) in omega (arith, r, k, others, order))
        e

    at_line : (b : Bool) → rec ≡ b → interleaved (drop i lines) (drop j all_entered) (drop (i - j) given)
        ≡ cond b (take 1 (drop j all_entered) ++ interleaved (drop (i + 1) lines) (drop 1 (drop j all_entered)) (drop (i - j) given))
        (take 1 (drop (i - j) given) ++ interleaved (drop (i + 1) lines) (drop j all_entered) (drop 1 (drop (i - j) given)))
    at_line b e =
        let A = drop j all_entered in
        let B = drop (i - j) given in
        ap (λ (ls : List Line). interleaved ls A B) (lines_drop lines i d within)
        ∙ ap (λ c. cond c (take 1 A ++ interleaved (drop (i + 1) lines) (drop 1 A) B) (take 1 B ++ interleaved (drop (i + 1) lines) A (drop 1 B))) (here b e)

    pub answers_next : (next : ℕ) (had now whole : List Answer) → next ≡ cond rec (j + 1) j
        → ((g : Answer) → now ≡ had ++ cond rec (Entered (page_at (pages_of jobs) j)) (get_or given (i - j) g) ∷ [])
        → had ++ interleaved (drop i lines) (drop j all_entered) (drop (i - j) given) ≡ whole
        → now ++ interleaved (drop (i + 1) lines) (drop next all_entered) (drop ((i + 1) - next) given) ≡ whole
    answers_next next had now whole e one so = by_recording rec
        (λ b. next ≡ cond b (j + 1) j → ((g : Answer) → now ≡ had ++ cond b (Entered (page_at (pages_of jobs) j)) (get_or given (i - j) g) ∷ [])
        → now ++ interleaved (drop (i + 1) lines) (drop next all_entered) (drop ((i + 1) - next) given) ≡ whole)
        (λ b k one_b.
        let n = length (records lines) in
        let l = page_in b in
        let p = page_at (pages_of jobs) j in
        let x = Entered p in
        let long = length-map pages (λ (page : PageNo). Entered page) in
        let pages_n = pages_long jobs n in
        let m : j < length all_entered = omega (arith, l, long, pages_n) in
        let m2 : j < length pages = omega (arith, l, pages_n) in
        let rest = interleaved (drop (i + 1) lines) (drop (j + 1) all_entered) (drop (i - j) given) in
        let first : get_or all_entered j x ≡ x = get_or-map (λ (page : PageNo). Entered page) pages j p x m2 ∙ ap (λ (q : PageNo). Entered q) (page_there jobs n j p l) in
        let split : drop j all_entered ≡ x ∷ drop (j + 1) all_entered = any_drop all_entered j x m ∙ ap (λ (y : Answer). y ∷ drop (j + 1) all_entered) first in
        let now_rest : interleaved (drop i lines) (drop j all_entered) (drop (i - j) given) ≡ x ∷ rest =
        at_line true b ∙ ap (λ (ys : List Answer). take 1 ys ++ interleaved (drop (i + 1) lines) (drop 1 ys) (drop (i - j) given)) split in
        let same_left : (i + 1) - next ≡ i - j = omega (arith, k, order) in
        ap (λ (q : ℕ). now ++ interleaved (drop (i + 1) lines) (drop q all_entered) (drop ((i + 1) - next) given)) k
        ∙ ap (λ (q : ℕ). now ++ interleaved (drop (i + 1) lines) (drop (j + 1) all_entered) (drop q given)) same_left
        ∙ ap (λ (ys : List Answer). ys ++ rest) (one_b x) ∙ append_assoc had (x ∷ []) rest ∙ ap (λ (ys : List Answer). had ++ ys) (sym now_rest) ∙ so)
        (λ b k one_b.
        let m = given_in b in
        let g : Answer = Entered (page_at (pages_of jobs) j) in
        let x = get_or given (i - j) g in
        let split : drop (i - j) given ≡ x ∷ drop ((i - j) + 1) given = any_drop given (i - j) g m in
        let rest = interleaved (drop (i + 1) lines) (drop j all_entered) (drop ((i - j) + 1) given) in
        let now_rest : interleaved (drop i lines) (drop j all_entered) (drop (i - j) given) ≡ x ∷ rest =
        at_line false b ∙ ap (λ (ys : List Answer). take 1 ys ++ interleaved (drop (i + 1) lines) (drop j all_entered) (drop 1 ys)) split in
        let same_left : (i + 1) - next ≡ (i - j) + 1 = omega (arith, k, order) in
        ap (λ (q : ℕ). now ++ interleaved (drop (i + 1) lines) (drop q all_entered) (drop ((i + 1) - next) given)) k
        ∙ ap (λ (q : ℕ). now ++ interleaved (drop (i + 1) lines) (drop j all_entered) (drop q given)) same_left
        ∙ ap (λ (ys : List Answer). ys ++ rest) (one_b g) ∙ append_assoc had (x ∷ []) rest ∙ ap (λ (ys : List Answer). had ++ ys) (sym now_rest) ∙ so)
        e one

module _ (t : Trace) (lines : List Line) (jobs : List Job) (i j : ℕ) (d line : Line) (is : line ≡ get_or lines i d) (within : i < length lines)
    (counted : j + length (records (drop i lines)) ≡ length (records lines)) where
  abbrev leaves : List PageNo
  leaves = pages_for lines jobs

  pub left_is : is_recording line.what ≡ true → left_at t lines leaves i j ≡ receipt_at t line (page_at (pages_of jobs) j).number ∷ left_at t lines leaves (i + 1) (j + 1)
  left_is e =
      let n = length (records lines) in
      let l = page_in lines jobs i j d line is within counted e in
      let long = pages_long jobs n in
      let p = page_at (pages_of jobs) j in
      let m : j < length leaves = omega (arith, l, long) in
      left_record t lines leaves i j d p within (here lines jobs i j d line is within counted true e) m
      ∙ ap (λ (q : PageNo). receipt_at t (get_or lines i d) q.number ∷ left_at t lines leaves (i + 1) (j + 1)) (page_there jobs n j p l)
      ∙ ap (λ (x : Line). receipt_at t x p.number ∷ left_at t lines leaves (i + 1) (j + 1)) (sym is)

  module _ {A : Type 0} (stands : Standing A) (before mid after : List A) (so : AddsSoFar stands (receipts_for t lines jobs) (left_at t lines leaves i j) before mid) where
    so_record : is_recording line.what ≡ true → AddsSoFar stands (receipts_for t lines jobs) (receipt_at t line (page_at (pages_of jobs) j).number ∷ left_at t lines leaves (i + 1) (j + 1)) before mid
    so_record e = let P : List Receipt → Type 0 = λ ys. AddsSoFar stands (receipts_for t lines jobs) ys before mid in subst P (left_is e) so

    pub may_row : (rules : RouterRules) × (ls : ℕ → Ledger) × (us : ℕ → Unfinished) × MayAddRows stands rules ls us (receipts_for t lines jobs) before → IsWithin (length before) (length t.sigs) line.what → is_recording line.what ≡ true
        → MayAddRow stands t line (page_at (pages_of jobs) j).number mid
    may_row (rules, ls, us, may) w e =
        let P : ℕ → Type 0 = λ n. IsWithin n (length t.sigs) line.what in
        may_add stands t line (page_at (pages_of jobs) j).number (receipts_for t lines jobs) (left_at t lines leaves (i + 1) (j + 1)) before mid mid rules ls us may (so_record e) (subst P (sym so.same) w)

    pub so_next : (next : ℕ) → next ≡ cond (is_recording line.what) (j + 1) j → (is_recording line.what ≡ true → AddsRow stands t line (page_at (pages_of jobs) j).number mid after) → (is_recording line.what ≡ false → after ≡ mid)
        → AddsSoFar stands (receipts_for t lines jobs) (left_at t lines leaves (i + 1) next) before after
    so_next next e one same_agents = by_recording (is_recording line.what) (λ b. next ≡ cond b (j + 1) j → AddsSoFar stands (receipts_for t lines jobs) (left_at t lines leaves (i + 1) next) before after)
        (λ b k.
        let P : ℕ → Type 0 = λ n. AddsSoFar stands (receipts_for t lines jobs) (left_at t lines leaves (i + 1) n) before after in
        subst P (sym k) (adds_on stands t line (page_at (pages_of jobs) j).number (receipts_for t lines jobs) (left_at t lines leaves (i + 1) (j + 1)) before mid after (so_record b) (one b)))
        (λ b k.
        let P : ℕ → Type 0 = λ n. AddsSoFar stands (receipts_for t lines jobs) (left_at t lines leaves (i + 1) n) before after in
        let Q : List Receipt → Type 0 = λ ys. AddsSoFar stands (receipts_for t lines jobs) ys before mid in
        let R : List A → Type 0 = λ ks. AddsSoFar stands (receipts_for t lines jobs) (left_at t lines leaves (i + 1) j) before ks in
        subst P (sym k) (subst R (sym (same_agents b)) (subst Q (left_other t lines leaves i j d within (here lines jobs i j d line is within counted false b)) so)))
        e

pub left_none : (t : Trace) (lines : List Line) (pages : List PageNo) (i j : ℕ) → length lines ≤ i → left_at t lines pages i j ≡ []
left_none t lines pages i j l = ap (λ (ls : List Line). receipts_by t.sigs (records ls) (drop j pages)) (drop_all i lines l)

pub answers_all : (lines : List Line) (xs ys had whole : List Answer) (i : ℕ) → length lines ≤ i → had ++ interleaved (drop i lines) xs ys ≡ whole → had ≡ whole
answers_all lines xs ys had whole i l e = sym (append-nil had) ∙ ap (λ (ls : List Line). had ++ interleaved ls xs ys) (sym (drop_all i lines l)) ∙ e
