-- How many rows a router has: no more than there were records.
use Rattle.std.proofs.Common.{ℕ, ◌≡◌, ◌≤◌, ◌+◌, ◌∷◌, [], Bool, true, false, cond, ◌==◌, List, length, filter, ap, refl, arith, length-append}
use Rattle.std.proofs.lemmas.List.{length-map}
use Rattle.spie_base.specs.declared.Sig.{Sig}
use Rattle.packet_signature.specs.Row.{row_of}
use Rattle.page_catalogue.specs.Pages.{open_page, is_due}
use Rattle.router_account.specs.Account.{Account, RowIn, fill, rows_in, with_closing}
use Rattle.trace_history.specs.History.{Event, recorded, rotated, archived, watched, ticked, queried, ended, Hop, Origin, same, changed, History, account, clock, rows_after, with_hop}
use Rattle.trace_history.specs.Routers.{RouterRules}
use Rattle.trace_replay.specs.Segments.{Splits, with_split, filled, count_by, record_count}
use Rattle.trace_replay.proofs.Filled.{moment_of}

one_length : (b : Bool) (x : RowIn) (ys : List RowIn) (n : ℕ) → length ys ≤ n → length (cond b (x ∷ ys) ys) ≤ n + 1
one_length true x ys n l = omega (arith, l)
one_length false x ys n l = omega (arith, l)

filter_length : (p : RowIn → Bool) (xs : List RowIn) → length (filter p xs) ≤ length xs
filter_length p [] = omega arith
filter_length p (x ∷ xs) = let l = one_length (p x) x (filter p xs) (length xs) (filter_length p xs) in omega (arith, l)

-- a page has no more rows than its router
pub rows_few : (rows : List RowIn) (page : ℕ) → length (rows_in rows page) ≤ length rows
unfolding rows_in
rows_few rows page =
    let e = length-map (filter (λ (entry : RowIn). entry.page == page) rows) (λ (entry : RowIn). entry.row) in
    let l = filter_length (λ entry. entry.page == page) rows in
    omega (arith, e, l)

one_row : (origin : Origin) (rows : List RowIn) (page : ℕ) (sig : Sig) → length (rows_after rows page sig origin) ≤ length rows + 1
one_row same rows page sig = omega arith
one_row (changed kind old) rows page sig = let row : RowIn = record { page = page; row = row_of kind old sig } in let e = length-append rows (row ∷ []) in omega (arith, e)

hop_rows : (b : Bool) (a : Account) (hop : Hop) (page : ℕ) → length (cond b (with_hop a hop page) a).rows ≤ length a.rows + 1
hop_rows true a hop page = one_row hop.origin a.rows page hop.sig
hop_rows false a hop page = omega arith

time_rows : (b : Bool) (a : Account) (time : ℕ) → (cond b (with_closing a time) a).rows ≡ a.rows
time_rows true a time = refl
time_rows false a time = refl

few_by : (rules : RouterRules) (r line : ℕ) (h : History) (e : Event) → length (account rules r h).rows ≤ record_count h → length (account rules r (moment_of line e ∷ h)).rows ≤ record_count h + count_by e
few_by rules r line h (recorded hop page) l = let m = hop_rows (hop.router == (account rules r h).router) (account rules r h) hop page in omega (arith, m, l)
few_by rules r line h (rotated q page) l = let e = ap length (time_rows (q == (account rules r h).router) (account rules r h) (clock h)) in omega (arith, e, l)
few_by rules r line h (archived q put kept) l = omega (arith, l)
few_by rules r line h (watched q sig a) l = omega (arith, l)
few_by rules r line h (ticked time left) l =
    let e = ap length (time_rows (is_due (rules r) (account rules r h).closings time (fill (rules r) (account rules r h) (open_page (account rules r h).closings))) (account rules r h) time) in omega (arith, e, l)
few_by rules r line h (queried query left) l = omega (arith, l)
few_by rules r line h (ended left) l = omega (arith, l)

pub rows_history : (rules : RouterRules) (r : ℕ) (h : History) → length (account rules r h).rows ≤ record_count h
rows_history rules r [] = omega arith
rows_history rules r (moment ∷ h) = few_by rules r moment.line h moment.event (rows_history rules r h)

count_split : (f : Splits) (e : Event) → count_by (with_split f e) ≡ count_by e
count_split f (recorded hop page) = refl
count_split f (rotated q page) = refl
count_split f (archived q put kept) = refl
count_split f (watched q sig a) = refl
count_split f (ticked time left) = refl
count_split f (queried query left) = refl
count_split f (ended left) = refl

pub records_filled : (f : Splits) (seg h : History) → record_count (filled f seg h) ≡ record_count seg + record_count h
records_filled f [] h = omega arith
records_filled f (moment ∷ seg) h = let a = records_filled f seg h in let b = count_split f moment.event in omega (arith, a, b)
