-- The ledger of a segment is that of its operator's moments, with the entries and rows of its records.
use Rattle.std.proofs.Common.{ℕ, ◌≡◌, ◌<◌, ◌∷◌, [], ◌++◌, ◌∙◌, Bool, true, false, cond, ◌==◌, List, sym, ap, refl, subst, append_assoc, append-nil}
use Rattle.std.specs.Prelude.{Some}
use Rattle.std.proofs.lemmas.Bool.{false≢true}
use Rattle.std.proofs.lemmas.Grind.{flat_map-append}
use Rattle.spie_base.specs.declared.Entry.{Entry}
use Rattle.spie_base.specs.declared.Sig.{Sig}
use Rattle.router_account.specs.Account.{RowIn, with_closing}
use Rattle.router_account.specs.Ledger.{Ledger}
use Rattle.trace_format.specs.Sound.{is_archived}
use Rattle.trace_history.specs.History.{Event, recorded, rotated, archived, watched, ticked, queried, ended, History, Hop, Origin, same, changed, account, clock, with_hop, rows_after}
use Rattle.trace_history.specs.Ledgers.{ledger, puts}
use Rattle.trace_history.specs.Receipts.{is_barrier, Receipt, receipts, openings, opened_by}
use Rattle.trace_history.specs.Routers.{RouterRules}
use Rattle.trace_history.specs.Workers.{entry_by}
use Rattle.trace_history.proofs.Sequential.{account_router}
use Rattle.trace_replay.specs.Segments.{Splits, filled, AreInner, AreOnce, archived_in}
use Rattle.trace_replay.specs.Operated.{operated, row_by, rows_at, with_records}
use Rattle.trace_replay.proofs.Filled.{moment_of, with_account, clock_filled}
use Rattle.trace_workers.specs.Records.{entries_by}

no_barrier : {X : Type 0} → true ≡ false → X
no_barrier e = absurd (false≢true (sym e))

-- ---- what the operator's moments have of a segment

inner_by : (e : Event) (line : ℕ) (seg : History) → is_barrier e ≡ false → AreInner (operated seg) → AreInner (operated (moment_of line e ∷ seg))
inner_by (recorded hop page) line seg b i = i
inner_by (rotated r page) line seg b i = (i, b)
inner_by (archived r put kept) line seg b i = (i, b)
inner_by (watched r sig a) line seg b i = (i, b)
inner_by (ticked time left) line seg b i = (i, b)
inner_by (queried query left) line seg b i = (i, b)
inner_by (ended left) line seg b i = (i, b)

pub inner_operated : (seg : History) → AreInner seg → AreInner (operated seg)
inner_operated [] i = tt
inner_operated (moment ∷ seg) i = inner_by moment.event moment.line seg i.1 (inner_operated seg i.0)

inner_back : (e : Event) (line : ℕ) (seg : History) → (AreInner (operated seg) → AreInner seg) → AreInner (operated (moment_of line e ∷ seg)) → AreInner (moment_of line e ∷ seg)
inner_back (recorded hop page) line seg ih i = (ih i, refl)
inner_back (rotated r page) line seg ih i = (ih i.0, i.1)
inner_back (archived r put kept) line seg ih i = (ih i.0, i.1)
inner_back (watched r sig a) line seg ih i = (ih i.0, i.1)
inner_back (ticked time left) line seg ih i = (ih i.0, i.1)
inner_back (queried query left) line seg ih i = (ih i.0, i.1)
inner_back (ended left) line seg ih i = (ih i.0, i.1)

-- records are no barriers
pub inner_merged : (seg : History) → AreInner (operated seg) → AreInner seg
inner_merged [] i = tt
inner_merged (moment ∷ seg) i = inner_back moment.event moment.line seg (inner_merged seg) i

archived_by_same : (e : Event) (line : ℕ) (seg : History) → archived_in (operated seg) ≡ archived_in seg → archived_in (operated (moment_of line e ∷ seg)) ≡ archived_in (moment_of line e ∷ seg)
archived_by_same (recorded hop page) line seg ih = ih
archived_by_same (rotated r page) line seg ih = ih
archived_by_same (archived r put kept) line seg ih = ap (λ (rs : List ℕ). r ∷ rs) ih
archived_by_same (watched r sig a) line seg ih = ih
archived_by_same (ticked time left) line seg ih = ih
archived_by_same (queried query left) line seg ih = ih
archived_by_same (ended left) line seg ih = ih

pub archived_operated : (seg : History) → archived_in (operated seg) ≡ archived_in seg
archived_operated [] = refl
archived_operated (moment ∷ seg) = archived_by_same moment.event moment.line seg (archived_operated seg)

once_by : (n : ℕ) (e : Event) (line : ℕ) (seg : History) → (AreOnce n (operated seg) → AreOnce n seg) → AreOnce n (operated (moment_of line e ∷ seg)) → AreOnce n (moment_of line e ∷ seg)
once_by n (recorded hop page) line seg ih o = (ih o, tt)
once_by n (rotated r page) line seg ih o = (ih o.0, tt)
once_by n (archived r put kept) line seg ih o =
    let P : List ℕ → Type 0 = λ rs. (is_archived rs r ≡ false) × (r < n) in
    (ih o.0, subst P (archived_operated seg) o.1)
once_by n (watched r sig a) line seg ih o = (ih o.0, tt)
once_by n (ticked time left) line seg ih o = (ih o.0, tt)
once_by n (queried query left) line seg ih o = (ih o.0, tt)
once_by n (ended left) line seg ih o = (ih o.0, tt)

pub once_merged : (n : ℕ) (seg : History) → AreOnce n (operated seg) → AreOnce n seg
once_merged n [] o = tt
once_merged n (moment ∷ seg) o = once_by n moment.event moment.line seg (once_merged n seg) o

openings_by : (r : ℕ) (e : Event) (line : ℕ) (seg : History) → openings r (operated seg) ≡ openings r seg → openings r (operated (moment_of line e ∷ seg)) ≡ openings r (moment_of line e ∷ seg)
openings_by r (recorded hop page) line seg ih = ih ∙ sym (append-nil (openings r seg))
openings_by r (rotated q page) line seg ih = ap (λ (xs : List ℕ). xs ++ opened_by r (rotated q page)) ih
openings_by r (archived q put kept) line seg ih = ap (λ (xs : List ℕ). xs ++ []) ih
openings_by r (watched q sig a) line seg ih = ap (λ (xs : List ℕ). xs ++ []) ih
openings_by r (ticked time left) line seg ih = ap (λ (xs : List ℕ). xs ++ []) ih
openings_by r (queried query left) line seg ih = ap (λ (xs : List ℕ). xs ++ []) ih
openings_by r (ended left) line seg ih = ap (λ (xs : List ℕ). xs ++ []) ih

pub openings_operated : (r : ℕ) (seg : History) → openings r (operated seg) ≡ openings r seg
openings_operated r [] = refl
openings_operated r (moment ∷ seg) = openings_by r moment.event moment.line seg (openings_operated r seg)

puts_by : (r : ℕ) (f : Splits) (e : Event) (line : ℕ) (seg h : History) → puts r (filled f (operated seg) h) ≡ puts r (filled f seg h) → puts r (filled f (operated (moment_of line e ∷ seg)) h) ≡ puts r (filled f (moment_of line e ∷ seg) h)
puts_by r f (recorded hop page) line seg h ih = ih
puts_by r f (rotated q page) line seg h ih = ih
puts_by r f (archived q put kept) line seg h ih = ap (λ (xs : List ℕ). cond (q == r) (f q).put [] ++ xs) ih
puts_by r f (watched q sig a) line seg h ih = ih
puts_by r f (ticked time left) line seg h ih = ap (λ (xs : List ℕ). [] ++ xs) ih
puts_by r f (queried query left) line seg h ih = ap (λ (xs : List ℕ). [] ++ xs) ih
puts_by r f (ended left) line seg h ih = ap (λ (xs : List ℕ). [] ++ xs) ih

pub puts_operated : (r : ℕ) (f : Splits) (seg h : History) → puts r (filled f (operated seg) h) ≡ puts r (filled f seg h)
puts_operated r f [] h = refl
puts_operated r f (moment ∷ seg) h = puts_by r f moment.event moment.line seg h (puts_operated r f seg h)

-- ---- what records add to a ledger

rows_from : (xs ys : List RowIn) (page : ℕ) (sig : Sig) (o : Origin) → rows_after (xs ++ ys) page sig o ≡ xs ++ (ys ++ rows_after [] page sig o)
rows_from xs ys page sig same = ap (λ (zs : List RowIn). xs ++ zs) (sym (append-nil ys))
rows_from xs ys page sig (changed kind old) = append_assoc xs ys (rows_after [] page sig (changed kind old))

-- a ledger behind one event more, by the ledger before it
abbrev after_record : Ledger → Hop → (page : ℕ) → (own : Bool) → Ledger
after_record l hop page own = with_account l (cond own (with_hop l.account hop page) l.account)

abbrev after_turn : Ledger → (clock : ℕ) → (own : Bool) → Ledger
after_turn l clock own = with_account l (cond own (with_closing l.account clock) l.account)

abbrev after_archive : Ledger → (own : Bool) → Ledger
after_archive l own = record l { closed_at_archive = cond own (Some l.account.closings) l.closed_at_archive }

abbrev entry_of : Hop → (page : ℕ) → Entry
entry_of hop page = record { page = record { number = page }; sig = hop.sig }

abbrev set_lists : Ledger → List Entry → List RowIn → Ledger
set_lists l es rs = record l { account = record l.account { entries = es; rows = rs } }

record_joins : (own : Bool) (l : Ledger) (es : List Entry) (rs : List RowIn) (hop : Hop) (page : ℕ)
    → after_record (with_records l es rs) hop page own ≡ with_records l (es ++ (cond own (entry_of hop page ∷ []) [] ++ [])) (rs ++ (cond own (rows_after [] page hop.sig hop.origin) [] ++ []))
record_joins true l es rs hop page =
    let a = l.account.entries in
    let one = entry_of hop page ∷ [] in
    let tail = rows_after [] page hop.sig hop.origin in
    ap (λ (xs : List Entry). set_lists l xs (rows_after (l.account.rows ++ rs) page hop.sig hop.origin)) (append_assoc a es one)
    ∙ ap (λ (ys : List RowIn). set_lists l (a ++ (es ++ one)) ys) (rows_from l.account.rows rs page hop.sig hop.origin ∙ ap (λ (zs : List RowIn). l.account.rows ++ (rs ++ zs)) (sym (append-nil tail)))
record_joins false l es rs hop page =
    ap (λ (xs : List Entry). with_records l xs rs) (sym (append-nil es)) ∙ ap (λ (ys : List RowIn). with_records l (es ++ []) ys) (sym (append-nil rs))

turn_joins : (own : Bool) (l : Ledger) (es : List Entry) (rs : List RowIn) (clock : ℕ) → after_turn (with_records l es rs) clock own ≡ with_records (after_turn l clock own) es rs
turn_joins true l es rs clock = refl
turn_joins false l es rs clock = refl

-- nothing more
none_more : (l : Ledger) → l ≡ with_records l [] []
none_more l = ap (λ (xs : List Entry). set_lists l xs l.account.rows) (sym (append-nil l.account.entries)) ∙ ap (λ (ys : List RowIn). set_lists l (l.account.entries ++ []) ys) (sym (append-nil l.account.rows))

-- the receipts of an event more, by those before it
entries_more : (r : ℕ) (xs ys : List Receipt) → entries_by r (xs ++ ys) ≡ entries_by r xs ++ entries_by r ys
entries_more r xs ys = flat_map-append (entry_by r) xs ys

rows_more : (r : ℕ) (xs ys : List Receipt) → rows_at r (xs ++ ys) ≡ rows_at r xs ++ rows_at r ys
rows_more r xs ys = flat_map-append (row_by r) xs ys

-- the same receipts
abbrev with_receipts : (router : ℕ) → Ledger → List Receipt → Ledger
with_receipts r l xs = with_records l (entries_by r xs) (rows_at r xs)

as_before : (r : ℕ) (l : Ledger) (xs : List Receipt) → with_receipts r l xs ≡ with_receipts r l (xs ++ [])
as_before r l xs = ap (λ (ys : List Receipt). with_receipts r l ys) (sym (append-nil xs))

module _ (rules : RouterRules) (r : ℕ) (f : Splits) (h : History) where
  abbrev F : History → History
  F seg = filled f seg h

  abbrev O : History → History
  O seg = filled f (operated seg) h

  router_is : (q : ℕ) (k : History) → (q == (account rules r k).router) ≡ (q == r)
  router_is q k = ap (λ (x : ℕ). q == x) (account_router rules r k)

  apart_by : (e : Event) (line : ℕ) (seg : History) → is_barrier e ≡ false → AreInner seg → ledger rules r (F seg) ≡ with_receipts r (ledger rules r (O seg)) (receipts seg)
      → ledger rules r (F (moment_of line e ∷ seg)) ≡ with_receipts r (ledger rules r (O (moment_of line e ∷ seg))) (receipts (moment_of line e ∷ seg))
  apart_by (recorded hop page) line seg b i ih =
      let l = ledger rules r (F seg) in
      let o = ledger rules r (O seg) in
      let xs = receipts seg in
      let x : Receipt = record { hop = hop; page = page } in
      ap (λ (own : Bool). after_record l hop page own) (router_is hop.router (F seg))
      ∙ ap (λ (k : Ledger). after_record k hop page (hop.router == r)) ih
      ∙ record_joins (hop.router == r) o (entries_by r xs) (rows_at r xs) hop page
      ∙ ap (λ (es : List Entry). with_records o es (rows_at r xs ++ rows_at r (x ∷ []))) (sym (entries_more r xs (x ∷ [])))
      ∙ ap (λ (rs : List RowIn). with_records o (entries_by r (xs ++ x ∷ [])) rs) (sym (rows_more r xs (x ∷ [])))
  apart_by (rotated q page) line seg b i ih =
      let l = ledger rules r (F seg) in
      let o = ledger rules r (O seg) in
      let xs = receipts seg in
      let same_clock : clock (F seg) ≡ clock (O seg) = clock_filled f seg h i ∙ sym (clock_filled f (operated seg) h (inner_operated seg i)) in
      ap (λ (own : Bool). after_turn l (clock (F seg)) own) (router_is q (F seg))
      ∙ ap (λ (k : Ledger). after_turn k (clock (F seg)) (q == r)) ih
      ∙ ap (λ (c : ℕ). after_turn (with_receipts r o xs) c (q == r)) same_clock
      ∙ turn_joins (q == r) o (entries_by r xs) (rows_at r xs) (clock (O seg))
      ∙ ap (λ (own : Bool). with_receipts r (after_turn o (clock (O seg)) own) xs) (sym (router_is q (O seg)))
      ∙ as_before r (ledger rules r (O (moment_of line (rotated q page) ∷ seg))) xs
  apart_by (archived q put kept) line seg b i ih =
      let o = ledger rules r (O seg) in
      let xs = receipts seg in
      ap (λ (k : Ledger). after_archive k (q == r)) ih
      ∙ as_before r (ledger rules r (O (moment_of line (archived q put kept) ∷ seg))) xs
  apart_by (watched q sig a) line seg b i ih = ih ∙ as_before r (ledger rules r (O seg)) (receipts seg)
  apart_by (ticked time left) line seg b i ih = no_barrier b
  apart_by (queried query left) line seg b i ih = no_barrier b
  apart_by (ended left) line seg b i ih = no_barrier b

  pub ledger_apart : (seg : History) → AreInner seg → ledger rules r (F seg) ≡ with_receipts r (ledger rules r (O seg)) (receipts seg)
  ledger_apart [] i = none_more (ledger rules r h)
  ledger_apart (moment ∷ seg) i = apart_by moment.event moment.line seg i.1 i.0 (ledger_apart seg i.0)
