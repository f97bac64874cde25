-- What a step leaves as it was.
use Rattle.std.proofs.Common.{◌≡◌, ℕ, ◌+◌, ◌-◌, ◌<◌, ◌≤◌, ◌⊎◌, ◌==◌, Bool, true, false, cond, List, [], ◌++◌, length, map, get_or, set, sym, refl, ap, ◌∙◌, subst, inl, inr, ⊎_elim, arith, length-set}
use Rattle.std.proofs.lemmas.Bool.{cases_lt}
use Rattle.std.proofs.lemmas.List.{get_or-set_same, get_or-set_other, append-nil}
use mathlib.Core.Logic.{dite}
use native.Mathlib.Decide.{ℕ_discrete}
use Rattle.spie_base.specs.declared.PageShape.{PageShape}
use Rattle.gate_core.specs.declared.steps.Act.{Act}
use Rattle.gate_core.specs.declared.steps.Act.TheVariants.{Look, Enter, Set, Leave, Seal, Settle, Drain, Point, Probe}
use Rattle.gate_core.specs.declared.steps.Act.TheVariants as act
use Rattle.gate_core.specs.declared.steps.StepAnswer.{StepAnswer}
use Rattle.spie_base.specs.declared.types.Entry.{Entry}
use Rattle.gate_core.specs.declared.states.PassState.{PassState}
use Rattle.gate_core.specs.declared.states.PassState.TheVariants.{Idle, Looked, Inside, Visiting}
use Rattle.gate_core.specs.declared.states.SlotPhase.{SlotPhase}
use Rattle.gate_core.specs.declared.states.SlotPhase.TheVariants.{Free, Open, Sealed, Quiet}
use Rattle.gate_core.specs.Marks.{size}
use Rattle.gate_core.specs.Views.{Role, Spent, Pass, Keeper, Duties, View, blank, slot_at}
use Rattle.gate_core.specs.Acts.{inside_of, seal_of, slot_of, open_slot, after_enter, after_set, after_leave, after_settle, word_of, view_after, CanLook, HasLooked, CanSet, CanLeave, IsSealed, IsQuiet, CanProbe, Enabled}
use Rattle.gate_core.specs.Core.{Core, view_at, duties_of, finished, after_act, Stepped}
use Rattle.gate_core.specs.Play.{is_open}

-- ---- an act is enabled or not

abbrev Known : Type 0 → Type 0
Known P = P ⊎ ¬ P

two : {A B : Type 0} → Known A → Known B → Known (A × B)
two a b = ⊎_elim (λ x. ⊎_elim (λ y. inl (x, y)) (λ n. inr (λ k. n k.1)) b) (λ n. inr (λ k. n k.0)) a

three : {A B C : Type 0} → Known A → Known B → Known C → Known (A × B × C)
three a b c = ⊎_elim (λ x. ⊎_elim (λ y. inl (x.0, x.1, y)) (λ n. inr (λ k. n k.2)) c) (λ n. inr (λ k. n (k.0, k.1))) (two a b)

four : {A B C D : Type 0} → Known A → Known B → Known C → Known D → Known (A × B × C × D)
four a b c d = ⊎_elim (λ x. ⊎_elim (λ y. inl (x.0, x.1, x.2, y)) (λ n. inr (λ k. n k.3)) d) (λ n. inr (λ k. n (k.0, k.1, k.2))) (three a b c)

five : {A B C D E : Type 0} → Known A → Known B → Known C → Known D → Known E → Known (A × B × C × D × E)
five a b c d e = ⊎_elim (λ x. ⊎_elim (λ y. inl (x.0, x.1, x.2, x.3, y)) (λ n. inr (λ k. n k.4)) e) (λ n. inr (λ k. n (k.0, k.1, k.2, k.3))) (four a b c d)

below : (m n : ℕ) → Known (m < n)
below m n = ⊎_elim inl (λ le. inr (λ lt. omega arith)) (cases_lt m n)

equal : (m n : ℕ) → Known (m ≡ n)
equal m n = dite (ℕ_discrete m n) (λ e. inl e) (λ ne. inr ne)

is_keeper_role : (r : Role) → Known (r ≡ Keeper)
is_keeper_role Spent = inr (λ e. cc)
is_keeper_role Pass = inr (λ e. cc)
is_keeper_role Keeper = inl refl

is_free : (ph : SlotPhase) → Known (ph ≡ Free)
is_free Free = inl refl
is_free Open = inr (λ e. cc)
is_free Sealed = inr (λ e. cc)
is_free (Quiet next) = inr (λ e. cc)

sealed : (ph : SlotPhase) → Known (IsSealed ph)
sealed Free = inr (λ h. h)
sealed Open = inr (λ h. h)
sealed Sealed = inl tt
sealed (Quiet next) = inr (λ h. h)

quiet : (ph : SlotPhase) → Known (IsQuiet ph)
quiet Free = inr (λ h. h)
quiet Open = inr (λ h. h)
quiet Sealed = inr (λ h. h)
quiet (Quiet next) = inl tt

probed : (ph : SlotPhase) → Known (CanProbe ph)
probed Free = inr (λ h. h)
probed Open = inl tt
probed Sealed = inl tt
probed (Quiet next) = equal next 0

can_look : (st : PassState) → Known (CanLook st)
can_look Idle = inl tt
can_look (Looked s) = inl tt
can_look (Inside s page sig m) = inr (λ h. h)
can_look (Visiting s gate) = inr (λ h. h)

has_looked : (st : PassState) → Known (HasLooked st)
has_looked Idle = inr (λ h. h)
has_looked (Looked s) = inl tt
has_looked (Inside s page sig m) = inr (λ h. h)
has_looked (Visiting s gate) = inr (λ h. h)

can_set : (shape : PageShape) (st : PassState) → Known (CanSet shape st)
can_set shape Idle = inr (λ h. h)
can_set shape (Looked s) = inr (λ h. h)
can_set shape (Inside s page sig m) = below m shape.k
can_set shape (Visiting s gate) = inr (λ h. h)

can_leave : (shape : PageShape) (st : PassState) → Known (CanLeave shape st)
can_leave shape Idle = inr (λ h. h)
can_leave shape (Looked s) = inr (λ h. h)
can_leave shape (Inside s page sig m) = equal m shape.k
can_leave shape (Visiting s gate) = inl tt

pub enabled_or_not : (shape : PageShape) (a : Act) (v : View) → Known (Enabled shape a v)
enabled_or_not shape Look v = can_look v.state
enabled_or_not shape (Enter sig) v = has_looked v.state
enabled_or_not shape Set v = can_set shape v.state
enabled_or_not shape Leave v = can_leave shape v.state
enabled_or_not shape Seal v = two (is_keeper_role v.role) (below (open_slot v.duties) 4)
enabled_or_not shape (Settle s) v = three (is_keeper_role v.role) (below s 4) (sealed (slot_at v.duties s).phase)
enabled_or_not shape (Drain s) v = three (is_keeper_role v.role) (below s 4) (quiet (slot_at v.duties s).phase)
enabled_or_not shape (act.Open s) v = five (is_keeper_role v.role) (below s 4) (is_free (slot_at v.duties s).phase) (equal (open_slot v.duties) 4) (below v.duties.next 4294967295)
enabled_or_not shape Point v = two (is_keeper_role v.role) (below (open_slot v.duties) 4)
enabled_or_not shape (Probe s p) v = four (is_keeper_role v.role) (below s 4) (below p (size shape)) (probed (slot_at v.duties s).phase)

-- ---- the next page

one_of : (b : Bool) (x y z : Duties) → x.next ≡ z.next → y.next ≡ z.next → (cond b x y).next ≡ z.next
one_of true x y z e f = e
one_of false x y z e f = f

entered : (b : Bool) (x y : View) (n : ℕ) → x.duties.next ≡ n → y.duties.next ≡ n → (cond b x y).duties.next ≡ n
entered true x y n e f = e
entered false x y n e f = f

set_next : (v : View) (st : PassState) → (after_set v st).duties.next ≡ v.duties.next
set_next v Idle = refl
set_next v (Looked s) = refl
set_next v (Inside s page sig m) = refl
set_next v (Visiting s gate) = refl

leave_next : (v : View) (st : PassState) → (after_leave v st).duties.next ≡ v.duties.next
leave_next v Idle = refl
leave_next v (Looked s) = refl
leave_next v (Inside s page sig m) = refl
leave_next v (Visiting s gate) = refl

abbrev opened : Act → ℕ
opened a = cond (is_open a) 1 0

next_then : (shape : PageShape) (a : Act) (v : View) (n : ℕ) → (view_after shape a v n).duties.next ≡ v.duties.next + opened a
next_then shape Look v n = omega arith
next_then shape (Enter sig) v n = let e : (after_enter v (slot_of v.state) sig n).duties.next ≡ v.duties.next = entered (seal_of n == 0) _ _ v.duties.next refl refl in omega arith
next_then shape Set v n = let e = set_next v v.state in omega arith
next_then shape Leave v n = let e = leave_next v v.state in omega arith
next_then shape Seal v n = omega arith
next_then shape (Settle s) v n = let e : (after_settle v s n).duties.next ≡ v.duties.next = one_of (inside_of n == 0) _ _ v.duties refl refl in omega arith
next_then shape (Drain s) v n = omega arith
next_then shape (act.Open s) v n = omega arith
next_then shape Point v n = omega arith
next_then shape (Probe s p) v n = omega arith

-- ---- a step

module _ (c : Core) (place : ℕ) (a : Act) (c' : Core) (reply : StepAnswer) (step : Stepped c place a c' reply) where
  done_or_not : (c' ≡ after_act c place a) ⊎ (c' ≡ record c { room = c.room - 1 })
  done_or_not = ⊎_elim (λ can. inl (step.done can).0) (λ not. inr (step.kept not).0) (enabled_or_not c.shape a (view_at c place))

  after : (P : Core → Type 0) → P (after_act c place a) → P (record c { room = c.room - 1 }) → P c'
  after P x y = ⊎_elim (λ e. subst P (sym e) x) (λ e. subst P (sym e) y) done_or_not

  pub shape_stays : c'.shape ≡ c.shape
  shape_stays = after (λ (k : Core). k.shape ≡ c.shape) refl refl

  pub room_falls : c'.room ≡ c.room - 1
  room_falls = after (λ (k : Core). k.room ≡ c.room - 1) refl refl

  pub actors_stay : length c'.views ≡ length c.views
  actors_stay = let v = view_at c place in let i = word_of c.shape a v in
      after (λ (k : Core). length k.views ≡ length c.views) (length-set c.views place (view_after c.shape a v (get_or c.words i 0))) refl

  -- the entries that the step finishes, if any
  pub entries_grow : (more : List Entry) × (c'.entries ≡ c.entries ++ more) × (c'.finishers ≡ c.finishers ++ map (λ _. place) more)
  entries_grow = after (λ (k : Core). (more : List Entry) × (k.entries ≡ c.entries ++ more) × (k.finishers ≡ c.finishers ++ map (λ _. place) more))
      (finished a (view_at c place), refl, refl) ([], sym (append-nil c.entries), sym (append-nil c.finishers))

  -- a page more at most
  pub next_grows : place < length c.views → (duties_of c').next ≤ (duties_of c).next + opened a
  next_grows there = let v = view_at c place in let n = get_or c.words (word_of c.shape a v) 0 in let w = view_after c.shape a v n in
      after (λ (k : Core). (duties_of k).next ≤ (duties_of c).next + opened a)
      (dite (ℕ_discrete place 0)
      (λ e. let is : get_or (set c.views place w) 0 blank ≡ w = ap (λ (i : ℕ). get_or (set c.views i w) 0 blank) e ∙ get_or-set_same c.views 0 w blank (omega arith) in
      let f : (get_or (set c.views place w) 0 blank).duties.next ≡ w.duties.next = ap (λ (u : View). u.duties.next) is in
      let g = next_then c.shape a v n in
      let h : v.duties.next ≡ (duties_of c).next = ap (λ (i : ℕ). (view_at c i).duties.next) e in omega arith)
      (λ ne. let is : get_or (set c.views place w) 0 blank ≡ get_or c.views 0 blank = get_or-set_other c.views place 0 w blank (λ e. ne (sym e)) in
      let f : (get_or (set c.views place w) 0 blank).duties.next ≡ (duties_of c).next = ap (λ (u : View). u.duties.next) is in omega arith))
      (omega arith)

-- ---- a step has one outcome

pub one_step : (c : Core) (place : ℕ) (a : Act) (x y : Core) (r q : StepAnswer) → Stepped c place a x r → Stepped c place a y q → (x ≡ y) × (r ≡ q)
one_step c place a x y r q first second = ⊎_elim
    (λ can. let (s, t) = first.done can in let (u, v) = second.done can in (s ∙ sym u, t ∙ sym v))
    (λ not. let (s, t) = first.kept not in let (u, v) = second.kept not in (s ∙ sym u, t ∙ sym v))
    (enabled_or_not c.shape a (view_at c place))
