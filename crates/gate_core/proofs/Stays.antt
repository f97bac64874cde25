-- An entry stays: with its actor, first and in order, or with the keeper that gathered it.
use Rattle.std.proofs.Common.{◌≡◌, ℕ, ◌+◌, ◌≢◌, ◌⊎◌, List, [], ◌∷◌, ◌++◌, length, get_or, set, sym, refl, ap, ◌∙◌, subst, inl, inr, ⊎_elim, append_assoc}
use Rattle.std.proofs.lemmas.List.{append-nil}
use mathlib.Core.Option.{some}
use mathlib.Core.Logic.{dite}
use native.Mathlib.Decide.{ℕ_discrete}
use lib.ListN.{get_elem?}
use Rattle.spie_base.specs.declared.Sig.{Sig}
use Rattle.spie_base.specs.declared.PageShape.{PageShape}
use Rattle.gate_core.specs.declared.steps.Act.{Act}
use Rattle.gate_core.specs.declared.steps.Act.TheVariants.{Look, Enter, Set, Leave, Seal, Settle, Drain, Point, Probe}
use Rattle.gate_core.specs.declared.steps.Act.TheVariants as act
use Rattle.spie_base.specs.declared.types.Entry.{Entry}
use Rattle.gate_core.specs.declared.states.PassState.{PassState}
use Rattle.gate_core.specs.declared.states.PassState.TheVariants.{Idle, Looked, Inside, Visiting}
use Rattle.gate_core.specs.Views.{Spent, Pass, Keeper, View, blank}
use Rattle.gate_core.specs.Acts.{seal_of, page_of, numbered, slot_of, moved_to, after_enter, after_set, after_leave, word_of, view_after, dealer_view, dealt_view, gathered_view}
use Rattle.gate_core.specs.Invariant.{Recorded}
use Rattle.hash_family.specs.Entries.{IsMarked}
use Rattle.gate_core.specs.Moves.{Plane, Move, acts, deals, gathers, HasView, view_at, CanMove, after_move, IsRun, HasFirst, HasGathered}
use Rattle.gate_core.proofs.Lists.{set_here, set_else, at_longer, same_at}
use Rattle.gate_core.proofs.Gates.{tested}
use Rattle.gate_core.proofs.Deals.{at_joined}
use Rattle.gate_core.proofs.Runs.{at_place}

-- the same role, and entries that begin with those before
record GoesOn (v w : View) : Type 0 where
  role : w.role ≡ v.role
  rest : List Entry
  entries : w.entries ≡ v.entries ++ rest

as_before : (v w : View) → w.role ≡ v.role → w.entries ≡ v.entries → GoesOn v w
as_before v w a b = record { role = a; rest = []; entries = b ∙ sym (append-nil v.entries) }

leave_goes : (v : View) (st : PassState) → GoesOn v (after_leave v st)
leave_goes v Idle = as_before v (moved_to v Idle) refl refl
leave_goes v (Looked s) = as_before v (moved_to v Idle) refl refl
leave_goes v (Inside s page sig m) = record { role = refl; rest = record { page = page; sig = sig } ∷ []; entries = refl }
leave_goes v (Visiting s gate) = as_before v (moved_to v Idle) refl refl

set_goes : (v : View) (st : PassState) → GoesOn v (after_set v st)
set_goes v Idle = as_before v v refl refl
set_goes v (Looked s) = as_before v v refl refl
set_goes v (Inside s page sig m) = as_before v (moved_to v (Inside s page sig (m + 1))) refl refl
set_goes v (Visiting s gate) = as_before v v refl refl

enter_goes : (v : View) (s : ℕ) (sig : Sig) (n : ℕ) → GoesOn v (after_enter v s sig n)
enter_goes v s sig n = tested (GoesOn v) (seal_of n) 0 (moved_to v (Inside s (numbered (page_of n)) sig 0)) (record v { state = Visiting s n; visits = v.visits ++ record { slot = s; gate = n } ∷ [] }) (λ _. as_before v (moved_to v (Inside s (numbered (page_of n)) sig 0)) refl refl)
    (λ _. as_before v (record v { state = Visiting s n; visits = v.visits ++ record { slot = s; gate = n } ∷ [] }) refl refl)

act_goes : (shape : PageShape) (a : Act) (v : View) (n : ℕ) → GoesOn v (view_after shape a v n)
act_goes shape Look v n = as_before v (view_after shape Look v n) refl refl
act_goes shape (Enter sig) v n = enter_goes v (slot_of v.state) sig n
act_goes shape Set v n = set_goes v v.state
act_goes shape Leave v n = leave_goes v v.state
act_goes shape Seal v n = as_before v (view_after shape Seal v n) refl refl
act_goes shape (Settle s) v n = as_before v (view_after shape (Settle s) v n) refl refl
act_goes shape (Drain s) v n = as_before v (view_after shape (Drain s) v n) refl refl
act_goes shape (act.Open s) v n = as_before v (view_after shape (act.Open s) v n) refl refl
act_goes shape Point v n = as_before v (view_after shape Point v n) refl refl
act_goes shape (Probe s p) v n = as_before v (view_after shape (Probe s p) v n) refl refl

-- ---- one move

-- the view that was o goes on at the place j
abbrev Onward : List View → ℕ → View → Type 0
Onward views j o = (u : View) × (get_elem? views j ≡ some u) × GoesOn o u

-- it was a pass and is gathered: the keeper at k has its entries behind its own
abbrev Gathered : List View → ℕ → View → Type 0
Gathered views j o = (o.role ≡ Pass) × (u : View) × (get_elem? views j ≡ some u) × (u.role ≡ Spent) × (k : ℕ) × (w : View) × (get_elem? views k ≡ some w) × (w.role ≡ Keeper) × (before : List Entry) × (w.entries ≡ before ++ o.entries)

self : (o : View) → GoesOn o o
self o = as_before o o refl refl

-- one view changes, and goes on
one_goes : (views : List View) (i : ℕ) (v w : View) → get_elem? views i ≡ some v → GoesOn v w → (j : ℕ) (o : View) → get_elem? views j ≡ some o → Onward (set views i w) j o
one_goes views i v w there goes j o at = dite (ℕ_discrete j i)
    (λ e. (w, ap (get_elem? (set views i w)) e ∙ set_here views i w v there, subst (λ (x : View). GoesOn x w) (same_at views i v o there (ap (get_elem? views) (sym e) ∙ at)) goes))
    (λ ne. (o, set_else views i j w ne ∙ at, self o))

module _ (shape : PageShape) where
  moved : (plane : Plane) (m : Move) → CanMove shape plane m → (j : ℕ) (o : View) → get_elem? plane.views j ≡ some o → Onward (after_move shape plane m).views j o ⊎ Gathered (after_move shape plane m).views j o
  moved plane (acts i a) can j o at = inl (one_goes plane.views i (view_at plane i) (view_after shape a (view_at plane i) (get_or plane.words (word_of shape a (view_at plane i)) 0)) (at_place plane.views i blank can.0) (act_goes shape a (view_at plane i) (get_or plane.words (word_of shape a (view_at plane i)) 0)) j o at)
  moved plane (deals k) can j o at = let v : View = view_at plane k in
      let (u, at', goes) = one_goes plane.views k v (dealer_view v) (at_place plane.views k blank can.0) (as_before v (dealer_view v) refl refl) j o at in
      inl (u, at_longer (set plane.views k (dealer_view v)) (dealt_view v ∷ []) j u at', goes)
  moved plane (gathers k i) can j o at = let v : View = view_at plane k in let p : View = view_at plane i in let w : View = gathered_view v p in
      let apart : k ≢ i = (λ e. let q : Keeper ≡ Pass = sym can.1 ∙ (ap (λ (x : ℕ). (view_at plane x).role) e ∙ can.3) in cc) in
      let one : List View = set plane.views k w in
      let still : get_elem? one i ≡ some p = set_else plane.views k i w (λ e. apart (sym e)) ∙ at_place plane.views i blank can.2 in
      let keeps : get_elem? (set one i blank) k ≡ some w = set_else one i k blank apart ∙ set_here plane.views k w v (at_place plane.views k blank can.0) in
      dite (ℕ_discrete j i)
      (λ e. let is : p ≡ o = same_at plane.views i p o (at_place plane.views i blank can.2) (ap (get_elem? plane.views) (sym e) ∙ at) in
      inr (sym (ap (λ (y : View). y.role) is) ∙ can.3, blank, ap (get_elem? (set one i blank)) e ∙ set_here one i blank p still, refl, k, w, keeps, can.1, v.entries, ap (λ (y : View). v.entries ++ y.entries) is))
      (λ ne. let (u, at', goes) = one_goes plane.views k v w (at_place plane.views k blank can.0) (record { role = refl; rest = p.entries; entries = refl }) j o at in
      inl (u, set_else one i j blank ne ∙ at', goes))

  -- ---- many

  longer : (u v : View) (es rest : List Entry) → v.entries ≡ es ++ rest → (goes : GoesOn v u) → u.entries ≡ es ++ (rest ++ goes.rest)
  longer u v es rest is goes = goes.entries ∙ (ap (λ (x : List Entry). x ++ goes.rest) is ∙ append_assoc es rest goes.rest)

  step_first : (plane : Plane) (m : Move) → CanMove shape plane m → (i : ℕ) (es : List Entry) → HasFirst plane i es → HasFirst (after_move shape plane m) i es ⊎ HasGathered (after_move shape plane m) i es
  step_first plane m can i es (v, at, rest, is) = ⊎_elim
      (λ (u, at', goes). inl (u, at', rest ++ goes.rest, longer u v es rest is goes))
      (λ (role, u, at', spent, k, w, there, keeper, before, has). inr (u, at', spent, k, w, there, keeper, before, rest, has ∙ (ap (λ (x : List Entry). before ++ x) is ∙ sym (append_assoc before es rest))))
      (moved plane m can i v at)

  step_gathered : (plane : Plane) (m : Move) → CanMove shape plane m → (i : ℕ) (es : List Entry) → HasGathered plane i es → HasGathered (after_move shape plane m) i es
  step_gathered plane m can i es (gone, at, spent, k, v, there, keeper, before, rest, is) = ⊎_elim
      (λ (u, at', goes). ⊎_elim
      (λ (w, there', on). (u, at', goes.role ∙ spent, k, w, there', on.role ∙ keeper, before, rest ++ on.rest, longer w v (before ++ es) rest is on))
      (λ g. let q : Keeper ≡ Pass = sym keeper ∙ g.0 in cc) (moved plane m can k v there))
      (λ g. let q : Spent ≡ Pass = sym spent ∙ g.0 in cc) (moved plane m can i gone at)

  gathered_stay : (plane : Plane) (moves : List Move) (end : Plane) → IsRun shape plane moves end → (i : ℕ) (es : List Entry) → HasGathered plane i es → HasGathered end i es
  gathered_stay plane [] end run i es h = subst (λ (x : Plane). HasGathered x i es) (sym run) h
  gathered_stay plane (m ∷ ms) end run i es h = gathered_stay (after_move shape plane m) ms end run.1 i es (step_gathered plane m run.0 i es h)

  first_stay : (plane : Plane) (moves : List Move) (end : Plane) → IsRun shape plane moves end → (i : ℕ) (es : List Entry) → HasFirst plane i es → HasFirst end i es ⊎ HasGathered end i es
  first_stay plane [] end run i es h = inl (subst (λ (x : Plane). HasFirst x i es) (sym run) h)
  first_stay plane (m ∷ ms) end run i es h = ⊎_elim (λ x. first_stay (after_move shape plane m) ms end run.1 i es x) (λ x. inr (gathered_stay (after_move shape plane m) ms end run.1 i es x)) (step_first plane m run.0 i es h)

  -- An actor's entries stay with it, or with the keeper that gathered it
  pub entries_stay : (plane : Plane) (moves : List Move) (end : Plane) → IsRun shape plane moves end → (i : ℕ) (v : View) → HasView plane i v → HasFirst end i v.entries ⊎ HasGathered end i v.entries
  entries_stay plane moves end run i v at = first_stay plane moves end run i v.entries (v, at, [], sym (append-nil v.entries))

  mark_first : (v u : View) (rest : List Entry) → u.entries ≡ v.entries ++ rest → (page p : ℕ) → IsMarked shape v.entries page p → IsMarked shape u.entries page p
  mark_first v u rest is page p (i, e, at, of, among) = (i, e, ap (λ (es : List Entry). get_elem? es i) is ∙ at_longer v.entries rest i e at, of, among)

  mark_gathered : (v u : View) (before rest : List Entry) → u.entries ≡ before ++ v.entries ++ rest → (page p : ℕ) → IsMarked shape v.entries page p → IsMarked shape u.entries page p
  mark_gathered v u before rest is page p (i, e, at, of, among) = let n : ℕ = length before + i in
      (n, e, ap (λ (es : List Entry). get_elem? es n) is ∙ at_longer (before ++ v.entries) rest n e (at_joined before v.entries i n e refl at), of, among)

  -- So a mark of an entry stays one
  pub marks_stay : (plane : Plane) (moves : List Move) (end : Plane) → IsRun shape plane moves end → (page p : ℕ) → Recorded shape plane.views page p → Recorded shape end.views page p
  marks_stay plane moves end run page p (j, v, at, h) = ⊎_elim
      (λ (u, at', rest, is). (j, u, at', mark_first v u rest is page p h))
      (λ (gone, at', spent, k, u, there, keeper, before, rest, is). (k, u, there, mark_gathered v u before rest is page p h))
      (entries_stay plane moves end run j v at)
