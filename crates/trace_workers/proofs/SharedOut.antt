-- What the jobs have is what histories call their shares.
use Rattle.std.proofs.Common.{◌≡◌, ℕ, zero, suc, ◌+◌, ◌%◌, ◌/◌, ◌<◌, ◌≤◌, ◌==◌, Bool, cond, true, false, List, [], ◌∷◌, ◌++◌, length, map, take, get_or, sym, refl, ap, ap₂, ◌∙◌, add-one, arith}
use Rattle.std.proofs.Math.Nat.{mod-lt}
use Rattle.std.proofs.lemmas.Bool.{eqb-true}
use Rattle.std.proofs.lemmas.List.{length-map, get_or-map, append-nil, take_more, take_all}
use Rattle.std.proofs.lemmas.List.FromFn.{length-map-range_with_len, map-range_with_len_more}
use Rattle.router_account.specs.Account.{below}
use Rattle.spie_base.specs.declared.PageNo.{PageNo}
use Rattle.spie_base.specs.declared.Sig.{Sig}
use Rattle.page_gate.specs.Held.{PlaneId}
use Rattle.trace_format.specs.declared.Line.{Line}
use Rattle.trace_format.specs.declared.Trace.{Trace}
use Rattle.trace_history.specs.Receipts.{Receipt}
use Rattle.trace_history.specs.Workers.{entry_by, share_of}
use Rattle.trace_workers.specs.declared.jobs.Job.{Job}
use Rattle.trace_workers.specs.Records.{hop_of, line_at, lines_at, receipts_by, entries_by, turns_of, segment_places}
use Rattle.trace_workers.specs.Jobs.{AreShares, HaveWorked, HasPageAt, entries_at, no_page, page_at, pages_of, receipts_in}
use Rattle.trace_workers.specs.Laws.{AreSharesOf}
use Rattle.trace_workers.proofs.Turns.{turns-append, turns-map, turn_count, count_at, count_above, length-turns}

-- a share is the entries of the worker's turns
by_turn : (b : Bool) (r : ℕ) (x : Receipt) (xs : List Receipt) → cond b (entry_by r x) [] ++ entries_by r xs ≡ entries_by r (cond b (x ∷ []) [] ++ xs)
by_turn true r x xs = refl
by_turn false r x xs = refl

pub share_is : (W w r from : ℕ) (xs : List Receipt) → share_of W w r from xs ≡ entries_by r (turns_of W w from xs)
share_is W w r from [] = refl
share_is W w r from (x ∷ xs) = ap (λ es. cond (from % W == w) (entry_by r x) [] ++ es) (share_is W w r (from + 1) xs) ∙ by_turn (from % W == w) r x (turns_of W w (from + 1) xs)

-- the receipts of a worker's lines and pages are its turns of the receipts
paired : (b : Bool) (sigs : List Sig) (l : Line) (p : PageNo) (ls : List Line) (ps : List PageNo)
    → receipts_by sigs (cond b (l ∷ []) [] ++ ls) (cond b (p ∷ []) [] ++ ps) ≡ cond b (record { hop = hop_of sigs l.what; page = p.number } ∷ []) [] ++ receipts_by sigs ls ps
paired true sigs l p ls ps = refl
paired false sigs l p ls ps = refl

pub receipts-turns : (W w from : ℕ) (sigs : List Sig) (ls : List Line) (ps : List PageNo) → length ps ≡ length ls
    → receipts_by sigs (turns_of W w from ls) (turns_of W w from ps) ≡ turns_of W w from (receipts_by sigs ls ps)
receipts-turns W w from sigs [] [] e = refl
receipts-turns W w from sigs [] (p ∷ ps) e = absurd (omega arith)
receipts-turns W w from sigs (l ∷ ls) [] e = absurd (omega arith)
receipts-turns W w from sigs (l ∷ ls) (p ∷ ps) e = paired (from % W == w) sigs l p (turns_of W w (from + 1) ls) (turns_of W w (from + 1) ps)
    ∙ ap (λ (xs : List Receipt). cond (from % W == w) (record { hop = hop_of sigs l.what; page = p.number } ∷ []) [] ++ xs) (receipts-turns W w (from + 1) sigs ls ps (omega arith))

-- of all pages, a worker's turns are its pages
module _ (pages : List (List PageNo)) (w n : ℕ) (lt : w < length pages) (long : turn_count (length pages) w n ≤ length (get_or pages w [])) where
  page_step : (k : ℕ) → k < n → (b : Bool) → (k % length pages == w) ≡ b → take (turn_count (length pages) w k) (get_or pages w []) ++ (cond b (page_at pages k ∷ []) [] ++ [])
      ≡ take (turn_count (length pages) w k + cond b 1 0) (get_or pages w [])
  page_step k small true is =
      let m : k % length pages ≡ w = eqb-true (k % length pages) w is in
      let c = turn_count (length pages) w k in
      let mine = get_or pages w [] in
      let within = count_above (length pages) w k n lt small m in
      let at : c ≡ k / length pages = count_at (length pages) w k lt m in
      let here : page_at pages k ≡ get_or mine c no_page = ap₂ (λ i j. get_or (get_or pages i []) j no_page) m (sym at) in
      ap (λ p. take c mine ++ p ∷ []) here ∙ sym (take_more mine c no_page (omega arith))
  page_step k small false is = append-nil (take (turn_count (length pages) w k) (get_or pages w [])) ∙ ap (λ j. take j (get_or pages w [])) (omega arith)

  pages_so_far : (k : ℕ) → k ≤ n → turns_of (length pages) w 0 (map (page_at pages) (below k)) ≡ take (turn_count (length pages) w k) (get_or pages w [])
  pages_so_far zero le = refl
  pages_so_far (suc k) le =
      let l = length-map-range_with_len (page_at pages) 0 k in
      let e : 0 + length (map (page_at pages) (below k)) ≡ k = omega (arith, l) in
      ap (λ m. turns_of (length pages) w 0 (map (page_at pages) (below m))) (sym (add-one k))
      ∙ ap (turns_of (length pages) w 0) (map-range_with_len_more (page_at pages) 0 k k (omega arith))
      ∙ turns-append (length pages) w 0 (map (page_at pages) (below k)) (page_at pages k ∷ [])
      ∙ ap₂ (λ xs j. xs ++ turns_of (length pages) w j (page_at pages k ∷ [])) (pages_so_far k (omega arith)) e
      ∙ page_step k (omega arith) (k % length pages == w) refl

  pub pages_are : length (get_or pages w []) ≡ turn_count (length pages) w n → turns_of (length pages) w 0 (map (page_at pages) (below n)) ≡ get_or pages w []
  pages_are all = pages_so_far n (omega arith) ∙ take_all (turn_count (length pages) w n) (get_or pages w []) (omega arith)

some_of : {A : Type 0} (xs : List A) → 0 < length xs → A
some_of [] small = absurd (omega arith)
some_of (x ∷ xs) small = x

module _ (t : Trace) (planes : List PlaneId) (from to : ℕ) (before after : List Job) (some : 0 < length before) (dealt : AreShares t from to before) (worked : HaveWorked t planes before after) where
  many : length (pages_of after) ≡ length before
  many = length-map after (λ (j : Job). j.pages.items) ∙ worked.many

  read_at : (w : ℕ) (d : Job) → w < length before → get_or (pages_of after) w [] ≡ (get_or after w d).pages.items
  read_at w d lt = get_or-map (λ (j : Job). j.pages.items) after w d [] (let m = worked.many in omega arith)

  long_at : (w : ℕ) (d : Job) → w < length before → length (get_or (pages_of after) w []) ≡ turn_count (length (pages_of after)) w (length (segment_places t.lines from to))
  long_at w d lt = ap length (read_at w d lt) ∙ (worked.each w d lt).grown.many ∙ ap length (dealt.each w d lt).turns ∙ length-turns (length before) w (segment_places t.lines from to)
      ∙ ap (λ n. turn_count n w (length (segment_places t.lines from to))) (sym many)

  abbrev all_pages : List PageNo
  all_pages = map (page_at (pages_of after)) (below (length (segment_places t.lines from to)))

  pages_here : (w : ℕ) (d : Job) → w < length before → (get_or after w d).pages.items ≡ turns_of (length before) w 0 all_pages
  pages_here w d lt =
      let l = long_at w d lt in
      sym (read_at w d lt) ∙ sym (pages_are (pages_of after) w (length (segment_places t.lines from to)) (let m = many in omega arith) (omega arith) l) ∙ ap (λ n. turns_of n w 0 all_pages) many

  read_all : (j : ℕ) → j < length (segment_places t.lines from to) → HasPageAt (pages_of after) j
  read_all j small =
      let m = many in
      let lt : j % length (pages_of after) < length (pages_of after) = mod-lt j (omega arith) in
      let l = long_at (j % length (pages_of after)) (some_of before some) (omega arith) in
      let c = count_above (length (pages_of after)) (j % length (pages_of after)) j (length (segment_places t.lines from to)) lt small refl in omega arith

  entries_are : (w r : ℕ) (d : Job) → w < length before → r < length planes → entries_at (get_or after w d).passes.items r
      ≡ entries_at (get_or before w d).passes.items r ++ share_of (length before) w r 0 (receipts_in t from to (pages_of after))
  entries_are w r d lt small =
      let places = segment_places t.lines from to in
      let long : length all_pages ≡ length (lines_at t.lines places) = length-map-range_with_len (page_at (pages_of after)) 0 (length places) ∙ sym (length-map places (line_at t.lines)) in
      (worked.each w d lt).grown.entries r small ∙ ap (λ es. entries_at (get_or before w d).passes.items r ++ es)
      (ap₂ (λ ps gs. entries_by r (receipts_by t.sigs (lines_at t.lines ps) gs)) (dealt.each w d lt).turns (pages_here w d lt)
      ∙ ap (λ ls. entries_by r (receipts_by t.sigs ls (turns_of (length before) w 0 all_pages))) (turns-map (line_at t.lines) (length before) w 0 places)
      ∙ ap (entries_by r) (receipts-turns (length before) w 0 t.sigs (lines_at t.lines places) all_pages long)
      ∙ sym (share_is (length before) w r 0 (receipts_by t.sigs (lines_at t.lines places) all_pages)))

  pub shared : AreSharesOf t planes from to before after
  shared = record { read = read_all; entries = entries_are }
