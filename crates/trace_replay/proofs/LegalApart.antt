-- The receipts of a segment are legal.
use Rattle.std.proofs.Common.{ℕ, zero, suc, ◌≡◌, ◌≤◌, ◌<◌, ◌+◌, ◌∷◌, [], ◌++◌, ◌∙◌, ⊎_elim, ◌⊎◌, inl, inr, Bool, true, false, cond, ◌==◌, List, length, sym, ap, refl, subst, arith, length-append, append-nil}
use Rattle.std.specs.Prelude.{slice_get, Some, ◌%◌}
use Rattle.std.specs.List.{Contains}
use Rattle.std.proofs.lemmas.Bool.{false≢true, eq-eqb, eqb-true}
use Rattle.spie_base.proofs.Membership.{has_first, into_flat_map}
use Rattle.spie_base.specs.declared.Entry.{Entry}
use Rattle.router_account.specs.Account.{Account, with_closing}
use Rattle.trace_history.specs.History.{Event, recorded, rotated, archived, watched, ticked, queried, ended, History, account, clock}
use Rattle.trace_history.specs.Receipts.{is_barrier, open_at, Receipt, receipts, openings, opened_by, IsLegalFor}
use Rattle.trace_history.specs.Routers.{RouterRules}
use Rattle.trace_history.specs.Workers.{entry_by}
use Rattle.trace_history.proofs.Sequential.{account_router}
use Rattle.trace_replay.specs.Segments.{Splits, filled, AreInner}
use Rattle.trace_replay.specs.Operated.{is_record, operated, AreOperations, AreTurns}
use Rattle.trace_replay.proofs.Filled.{moment_of}
use Rattle.trace_replay.proofs.Apart.{inner_operated, openings_operated}
use Rattle.trace_replay.proofs.BetweenApart.{operations_operated}
use Rattle.trace_workers.specs.Records.{entries_by}

no_barrier : {X : Type 0} → true ≡ false → X
no_barrier e = absurd (false≢true (sym e))

none_there : {X : Type 0} (i : ℕ) (v : X) → slice_get [] i ≡ Some v → ⊥
none_there i v e = cc

-- where an item of a list with one more stands
push_cases : (xs : List ℕ) (y i v : ℕ) → slice_get (xs ++ y ∷ []) i ≡ Some v → (slice_get xs i ≡ Some v) ⊎ ((i ≡ length xs) × (v ≡ y))
push_cases [] y zero v e = inr (refl, (let same : y ≡ v = cc in sym same))
push_cases [] y (suc i) v e = absurd (none_there i v e)
push_cases (x ∷ xs) y zero v e = inl e
push_cases (x ∷ xs) y (suc i) v e =
    ⊎_elim (λ (a : slice_get xs i ≡ Some v). inl a) (λ (b : (i ≡ length xs) × (v ≡ y)). inr ((let l : i ≡ length xs = b.0 in omega arith), b.1)) (push_cases xs y i v e)

one_time : (b : Bool) (a : Account) (time page : ℕ) → length (cond b (with_closing a time) a).closings ≡ length a.closings + length (cond b (page ∷ []) [])
one_time true a time page = length-append a.closings (time ∷ [])
one_time false a time page = omega arith

-- the pages that rotations opened, numbered from a page on
abbrev AreNumbered : (from : ℕ) → List ℕ → Type 0
AreNumbered from pages = (i page : ℕ) → slice_get pages i ≡ Some page → page ≡ from + (i + 1)

numbered_more : (from : ℕ) (pages : List ℕ) (b : Bool) (page : ℕ) → AreNumbered from pages → (b ≡ true → page ≡ (from + length pages) + 1) → AreNumbered from (pages ++ cond b (page ∷ []) [])
numbered_more from pages true page all is i v e =
    ⊎_elim (λ (a : slice_get pages i ≡ Some v). all i v a)
    (λ (z : (i ≡ length pages) × (v ≡ page)). let at = is refl in let l : i ≡ length pages = z.0 in z.1 ∙ (omega (arith, at, l)))
    (push_cases pages page i v e)
numbered_more from pages false page all is i v e =
    let P : List ℕ → Type 0 = λ xs. slice_get xs i ≡ Some v in all i v (subst P (append-nil pages) e)

numbered_same : (from : ℕ) (pages : List ℕ) → AreNumbered from pages → AreNumbered from (pages ++ [])
numbered_same from pages all = numbered_more from pages false 0 all (λ e. absurd (false≢true e))

module _ (rules : RouterRules) (r : ℕ) (f : Splits) (h : History) where
  abbrev F : History → History
  F seg = filled f seg h

  -- the open page is as many pages on
  abbrev IsOn : History → Type 0
  IsOn ops = open_at rules r (F ops) ≡ open_at rules r h + length (openings r ops)

  on_same : (ops : History) → IsOn ops → open_at rules r (F ops) ≡ open_at rules r h + length (openings r ops ++ [])
  on_same ops e = e ∙ ap (λ (xs : List ℕ). open_at rules r h + length xs) (sym (append-nil (openings r ops)))

  on_by : (e : Event) (line : ℕ) (ops : History) → is_barrier e ≡ false → is_record e ≡ false → IsOn ops → IsOn (moment_of line e ∷ ops)
  on_by (recorded hop page) line ops b o ih = no_barrier o
  on_by (rotated q page) line ops b o ih =
      let a = account rules r (F ops) in
      let test : (q == a.router) ≡ (q == r) = ap (λ (x : ℕ). q == x) (account_router rules r (F ops)) in
      let one = ap (λ (x : Bool). length (cond x (with_closing a (clock (F ops))) a).closings) test ∙ one_time (q == r) a (clock (F ops)) page in
      let n = length-append (openings r ops) (opened_by r (rotated q page)) in
      omega (arith, one, n, ih)
  on_by (archived q put kept) line ops b o ih = on_same ops ih
  on_by (watched q sig w) line ops b o ih = on_same ops ih
  on_by (ticked time left) line ops b o ih = no_barrier b
  on_by (queried query left) line ops b o ih = no_barrier b
  on_by (ended left) line ops b o ih = no_barrier b

  pub opened_on : (ops : History) → AreInner ops → AreOperations ops → IsOn ops
  opened_on [] i o = omega arith
  opened_on (moment ∷ ops) i o = on_by moment.event moment.line ops i.1 o.1 (opened_on ops i.0 o.0)

  numbered_by : (e : Event) (line : ℕ) (ops : History) → is_barrier e ≡ false → is_record e ≡ false → IsOn ops → AreTurns rules f h (moment_of line e ∷ ops)
      → AreNumbered (open_at rules r h) (openings r ops) → AreNumbered (open_at rules r h) (openings r (moment_of line e ∷ ops))
  numbered_by (recorded hop page) line ops b o on turns ih = no_barrier o
  numbered_by (rotated q page) line ops b o on turns ih =
      numbered_more (open_at rules r h) (openings r ops) (q == r) page ih
      (λ same. turns.1 ∙ ap (λ (x : ℕ). open_at rules x (F ops) + 1) (eqb-true q r same) ∙ ap (λ (n : ℕ). n + 1) on)
  numbered_by (archived q put kept) line ops b o on turns ih = numbered_same (open_at rules r h) (openings r ops) ih
  numbered_by (watched q sig w) line ops b o on turns ih = numbered_same (open_at rules r h) (openings r ops) ih
  numbered_by (ticked time left) line ops b o on turns ih = no_barrier b
  numbered_by (queried query left) line ops b o on turns ih = no_barrier b
  numbered_by (ended left) line ops b o on turns ih = no_barrier b

  openings_numbered : (ops : History) → AreInner ops → AreOperations ops → AreTurns rules f h ops → AreNumbered (open_at rules r h) (openings r ops)
  openings_numbered [] i o turns = λ k page e. absurd (none_there k page e)
  openings_numbered (moment ∷ ops) i o turns = numbered_by moment.event moment.line ops i.1 o.1 (opened_on ops i.0 o.0) turns (openings_numbered ops i.0 o.0 turns.0)

  entry_in : (b : Bool) (x : Entry) → b ≡ true → Contains (cond b (x ∷ []) []) x
  entry_in true x e = has_first x []
  entry_in false x e = no_barrier (sym e)

  -- the entry of a receipt is among those of all
  pub entry_there : (xs : List Receipt) (x : Receipt) → Contains xs x → x.hop.router ≡ r → Contains (entries_by r xs) (record { page = record { number = x.page }; sig = x.hop.sig })
  entry_there xs x h e =
      let entry : Entry = record { page = record { number = x.page }; sig = x.hop.sig } in
      into_flat_map (entry_by r) xs x entry h (entry_in (x.hop.router == r) entry (eq-eqb x.hop.router r e))

  -- entries are on pages up to the open one, not before the one that was open at the start, and one worker's never fall
  pub legal_apart : (W : ℕ) (seg : History) → AreInner seg → AreTurns rules f h (operated seg)
      → ((x : Receipt) → Contains (receipts seg) x → x.hop.router ≡ r → open_at rules r h ≤ x.page)
      → ((e : Entry) → Contains (entries_by r (receipts seg)) e → e.page.number ≤ open_at rules r (F (operated seg)))
      → ((i j : ℕ) (x y : Receipt) → i < j → i % W ≡ j % W → slice_get (receipts seg) i ≡ Some x → slice_get (receipts seg) j ≡ Some y → x.hop.router ≡ r → y.hop.router ≡ r → x.page ≤ y.page)
      → IsLegalFor W r (open_at rules r h) seg
  legal_apart W seg i turns least most rising =
      let ops = operated seg in
      let j = inner_operated seg i in
      let o = operations_operated seg in
      let on = opened_on ops j o in
      let same = ap (λ (xs : List ℕ). length xs) (openings_operated r seg) in
      let P : List ℕ → Type 0 = λ xs. AreNumbered (open_at rules r h) xs in
      record {
        within = λ x there is. (least x there is, (let m = most _ (entry_there (receipts seg) x there is) in omega (arith, m, on, same)));
        counted = subst P (openings_operated r seg) (openings_numbered ops j o turns);
        rising = rising;
      }
