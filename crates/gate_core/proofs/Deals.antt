-- Dealing a pass and gathering one keep the plane invariant.
use Rattle.std.proofs.Common.{◌≡◌, ℕ, suc, zero, ◌+◌, ◌-◌, ◌<◌, ◌≤◌, ◌≢◌, ◌⊎◌, ◌↔◌, List, [], ◌∷◌, ◌++◌, length, set, sym, refl, ap, ◌∙◌, subst, inl, inr, ⊎_elim, arith, le_refl, length-append}
use mathlib.Core.Option.{some, some-ne-none}
use mathlib.Core.Logic.{dite}
use native.Mathlib.Decide.{ℕ_discrete}
use lib.ListN.{get_elem?}
use Rattle.spie_base.specs.declared.PageShape.{PageShape}
use Rattle.gate_core.specs.declared.states.PassState.{PassState}
use Rattle.gate_core.specs.declared.states.PassState.TheVariants.{Idle}
use Rattle.gate_core.specs.Views.{Spent, Pass, Keeper, Duties, View, blank, slot_at}
use Rattle.gate_core.specs.Acts.{dealer_view, dealt_view, gathered_view}
use Rattle.gate_core.specs.Invariant.{total, counts_in, in_slot, pass_role, keeper_role, is_pass, is_keeper, HasSet, Recorded, SlotsFit, ActorFits, PlaneFits, PlaneInvariant}
use Rattle.hash_family.specs.Entries.{IsMarked}
use Rattle.gate_core.proofs.Lists.{at_set, set_here, set_else, at_longer, at_snoc, same_at, total-set, term_le}

total-append : (g : View → ℕ) (l m : List View) → total g (l ++ m) ≡ total g l + total g m
total-append g [] m = omega arith
total-append g (x ∷ xs) m = omega (arith, total-append g xs m)

module _ {A : Type 0} where
  at_append : (l m : List A) (j : ℕ) (a : A) → get_elem? (l ++ m) j ≡ some a → (get_elem? l j ≡ some a) ⊎ ((i : ℕ) × (j ≡ length l + i) × (get_elem? m i ≡ some a))
  at_append [] m j a e = inr (j, omega arith, e)
  at_append (x ∷ xs) m zero a e = inl e
  at_append (x ∷ xs) m (suc j) a e = ⊎_elim inl (λ (i, is, at). inr (i, omega arith, at)) (at_append xs m j a e)

  pub at_joined : (l m : List A) (i j : ℕ) (a : A) → j ≡ length l + i → get_elem? m i ≡ some a → get_elem? (l ++ m) j ≡ some a
  at_joined [] m i j a is e = ap (get_elem? m) (let g : j ≡ i = omega arith in g) ∙ e
  at_joined (x ∷ xs) m i zero a is e = absurd (omega arith)
  at_joined (x ∷ xs) m i (suc j) a is e = at_joined xs m i j a (omega arith) e

-- the slots and pages fit, however many passes were dealt and are out
pub same_slots : (shape : PageShape) (d : Duties) (a b : ℕ) → SlotsFit shape d → SlotsFit shape (record d { dealt = a; out = b })
same_slots shape d a b f = f

module _ (shape : PageShape) (words : List ℕ) (views : List View) (id : ℕ) (v : View) (there : get_elem? views id ≡ some v) (role : v.role ≡ Keeper) (f : PlaneFits shape words views v.duties v.entries) where
  abbrev d : Duties
  d = v.duties

  alive : ¬ (v.role ≡ Spent)
  alive e = let q : Keeper ≡ Spent = sym role ∙ e in cc

  seat_same : (a b : ℕ) → d.dealt ≤ a → (u : View) → ActorFits shape d u → ActorFits shape (record d { dealt = a; out = b }) u
  seat_same a b le u k = record {
    state = k.state;
    entries = k.entries;
    ordered = k.ordered;
    last = k.last;
    visits = k.visits;
    floor = k.floor;
    number = λ e. let n = k.number e in omega arith;
    base = k.base;
    gone = k.gone;
  }

  -- ---- split

  module _ (room : d.out < 16) where
    abbrev dealer : View
    dealer = dealer_view v

    abbrev dealt : View
    dealt = dealt_view v

    abbrev views' : List View
    views' = set views id dealer ++ dealt ∷ []

    total_split : (g : View → ℕ) → g dealer ≡ g v → total g views' ≡ total g views + g dealt
    total_split g e = let a = total-append g (set views id dealer) (dealt ∷ []) in let b = total-set g views id v dealer there in omega arith

    -- where a view of the new list comes from
    origin : (j : ℕ) (u : View) → get_elem? views' j ≡ some u → ((o : View) × (get_elem? views j ≡ some o) × ((u ≡ o) ⊎ ((o ≡ v) × (u ≡ dealer)))) ⊎ ((j ≡ length (set views id dealer)) × (u ≡ dealt))
    origin j u at = ⊎_elim (λ old. inl (⊎_elim (λ x. (v, ap (get_elem? views) x.0 ∙ there, inr (refl, sym x.1))) (λ x. (u, x.1, inl refl)) (at_set views id j dealer u old)))
        (λ new. inr (new.0, sym new.1)) (at_snoc (set views id dealer) dealt u j at)

    stays : (j : ℕ) (o : View) → get_elem? views j ≡ some o → (u : View) × (get_elem? views' j ≡ some u) × ((u ≡ o) ⊎ ((o ≡ v) × (u ≡ dealer)))
    stays j o at = dite (ℕ_discrete j id)
        (λ e. (dealer, at_longer (set views id dealer) (dealt ∷ []) j dealer (ap (get_elem? (set views id dealer)) e ∙ set_here views id dealer v there), inr (same_at views id o v (ap (get_elem? views) (sym e) ∙ at) there, refl)))
        (λ ne. (o, at_longer (set views id dealer) (dealt ∷ []) j o (set_else views id j dealer ne ∙ at), inl refl))

    -- a fact of entries and state is one of some view before exactly where it is one of some view after
    both_ways : (P : View → Type 0) → (P dealer → P v) → (P v → P dealer) → (P dealt → ⊥) → ((j : ℕ) × (u : View) × (get_elem? views j ≡ some u) × P u) ↔ ((j : ℕ) × (u : View) × (get_elem? views' j ≡ some u) × P u)
    both_ways P back on none = (
      (λ (j, o, at, p). let (u, at', how) = stays j o at in (j, u, at', ⊎_elim (λ e. subst P (sym e) p) (λ t. subst P (sym t.1) (on (subst P t.0 p))) how)),
      λ (j, u, at, p). ⊎_elim (λ (o, at', how). (j, o, at', ⊎_elim (λ e. subst P e p) (λ t. subst P (sym t.0) (back (subst P t.1 p))) how)) (λ t. absurd (none (subst P t.1 p))) (origin j u at),
    )

    no_mark : (page p : ℕ) → IsMarked shape dealt.entries page p → ⊥
    no_mark page p (i, e, at, of, among) = some-ne-none e (sym at)

    seat_new : ActorFits shape dealer.duties dealt
    seat_new = record {
      state = tt;
      entries = λ i e at. absurd (some-ne-none e (sym at));
      ordered = λ _ i j e g le at at'. absurd (some-ne-none e (sym at));
      last = λ _. tt;
      visits = λ i x at. absurd (some-ne-none x (sym at));
      floor = le_refl (slot_at d d.pointed).page;
      number = λ _. let g : d.dealt < d.dealt + 1 = omega arith in g;
      base = λ e. cc;
      gone = λ e. cc;
    }

    seat_left : ActorFits shape dealer.duties dealer
    seat_left = let k = seat_same (d.dealt + 1) (d.out + 1) (omega arith) v (f.actors id v there) in
        record { state = k.state; entries = k.entries; ordered = k.ordered; last = k.last; visits = k.visits; floor = k.floor; number = k.number; base = k.base; gone = λ e. absurd (alive e) }

    -- in role and number a view is the one before, or the new pass
    named : (j : ℕ) (u : View) → get_elem? views' j ≡ some u → ((o : View) × (get_elem? views j ≡ some o) × (u.role ≡ o.role) × (u.number ≡ o.number)) ⊎ ((j ≡ length (set views id dealer)) × (u ≡ dealt))
    named j u at = ⊎_elim
        (λ (o, at', how). inl (o, at', ⊎_elim (λ e. ap (λ (y : View). y.role) e) (λ t. ap (λ (y : View). y.role) t.1 ∙ ap (λ (y : View). y.role) (sym t.0)) how, ⊎_elim (λ e. ap (λ (y : View). y.number) e) (λ t. ap (λ (y : View). y.number) t.1 ∙ ap (λ (y : View). y.number) (sym t.0)) how))
        inr (origin j u at)

    numbers : (i j : ℕ) (a b : View) → get_elem? views' i ≡ some a → get_elem? views' j ≡ some b → a.role ≡ Pass → b.role ≡ Pass → a.number ≡ b.number → i ≡ j
    numbers i j a b x y p q e = ⊎_elim
        (λ (o, at, ro, nu). ⊎_elim (λ (o', at', ro', nu'). f.one_number i j o o' at at' (sym ro ∙ p) (sym ro' ∙ q) (sym nu ∙ e ∙ nu'))
        (λ t. let n = (f.actors i o at).number (sym ro ∙ p) in let z : b.number ≡ d.dealt = ap (λ (u : View). u.number) t.1 in absurd (omega arith)) (named j b y))
        (λ s. ⊎_elim (λ (o', at', ro', nu'). let n = (f.actors j o' at').number (sym ro' ∙ q) in let z : a.number ≡ d.dealt = ap (λ (u : View). u.number) s.1 in absurd (omega arith)) (λ t. s.0 ∙ sym t.0) (named j b y)) (named i a x)

    pub splits : PlaneInvariant shape words views'
    splits = record {
      place = id;
      head = dealer;
      there = at_longer (set views id dealer) (dealt ∷ []) id dealer (set_here views id dealer v there);
      keeps = role;
      fits = record {
        in_range = f.in_range;
        long = f.long;
        current_slot = f.current_slot;
        gates = λ s near. let a = total_split (in_slot s) refl in f.gates s near ∙ (omega arith);
        slots = f.slots;
        actors = λ j u at. ⊎_elim (λ (o, at', how). ⊎_elim (λ e. subst (ActorFits shape dealer.duties) (sym e) (seat_same (d.dealt + 1) (d.out + 1) (omega arith) o (f.actors j o at'))) (λ t. subst (ActorFits shape dealer.duties) (sym t.1) seat_left) how)
            (λ t. subst (ActorFits shape dealer.duties) (sym t.1) seat_new) (origin j u at);
        slot_words = λ s near stands p small. let old = f.slot_words s near stands p small in let m = both_ways (λ u. IsMarked shape u.entries (slot_at d s).page p ⊎ HasSet shape u.state s p) (λ x. x) (λ x. x) (λ x. ⊎_elim (no_mark (slot_at d s).page p) (λ h. h) x) in
            ((λ b. m.0 (old.0 b)), (λ y. old.1 (m.1 y)));
        collected_words = λ page below whole p small. let old = f.collected_words page below whole p small in let m = both_ways (λ u. IsMarked shape u.entries page p) (λ x. x) (λ x. x) (no_mark page p) in ((λ b. m.0 (old.0 b)), (λ y. old.1 (m.1 y)));
        drained_words = f.drained_words;
        free_words = f.free_words;
        probes = f.probes;
        noted = f.noted;
        out = let a = total_split is_pass refl in let b = f.out in omega arith;
        few = omega arith;
        one_number = numbers;
        one_keeper = let a = total_split is_keeper refl in let b = f.one_keeper in omega arith;
      };
    }

  -- ---- join

  module _ (other : ℕ) (p : View) (apart : ¬ (other ≡ id)) (other_there : get_elem? views other ≡ some p) (is_out : p.role ≡ Pass) (idle : p.state ≡ Idle) where
    abbrev both : View
    both = gathered_view v p

    abbrev one : List View
    one = set views id both

    abbrev gathered_views : List View
    gathered_views = set one other blank

    other_still : get_elem? one other ≡ some p
    other_still = set_else views id other both apart ∙ other_there

    total_join : (g : View → ℕ) → g both ≡ g v → g blank ≡ 0 → total g gathered_views + g p ≡ total g views
    total_join g e z = let a = total-set g views id v both there in let b = total-set g one other p blank other_still in omega arith

    abbrev Origin : ℕ → View → Type 0
    Origin j u = (get_elem? views j ≡ some u) ⊎ ((j ≡ id) × (u ≡ both)) ⊎ (u ≡ blank)

    whence : (j : ℕ) (u : View) → get_elem? gathered_views j ≡ some u → Origin j u
    whence j u at = ⊎_elim (λ t. inr (inr (sym t.1))) (λ t. ⊎_elim (λ x. inr (inl (x.0, sym x.1))) (λ x. inl x.1) (at_set views id j both u t.1)) (at_set one other j blank u at)

    -- where a view goes
    goes : (j : ℕ) (o : View) → get_elem? views j ≡ some o → ((o ≡ p) ⊎ (o ≡ v)) ⊎ ((j ≢ other) × (j ≢ id))
    goes j o at = dite (ℕ_discrete j other) (λ e. inl (inl (same_at views other o p (ap (get_elem? views) (sym e) ∙ at) other_there)))
        (λ ne. dite (ℕ_discrete j id) (λ e. inl (inr (same_at views id o v (ap (get_elem? views) (sym e) ∙ at) there))) (λ ne'. inr (ne, ne')))

    both_there : get_elem? gathered_views id ≡ some both
    both_there = set_else one other id blank (λ e. apart (sym e)) ∙ set_here views id both v there

    of_p : (page q : ℕ) → IsMarked shape p.entries page q → IsMarked shape both.entries page q
    of_p page q (i, e, at, of, among) = (length v.entries + i, e, at_joined v.entries p.entries i (length v.entries + i) e refl at, of, among)

    of_v : (page q : ℕ) → IsMarked shape v.entries page q → IsMarked shape both.entries page q
    of_v page q (i, e, at, of, among) = (i, e, at_longer v.entries p.entries i e at, of, among)

    of_both : (page q : ℕ) → IsMarked shape both.entries page q → IsMarked shape v.entries page q ⊎ IsMarked shape p.entries page q
    of_both page q (i, e, at, of, among) = ⊎_elim (λ old. inl (i, e, old, of, among)) (λ (n, is, new). inr (n, e, new, of, among)) (at_append v.entries p.entries i e at)

    module _ (R : PassState → Type 0) (none : R Idle → ⊥) (page q : ℕ) where
      abbrev Shows : View → Type 0
      Shows u = IsMarked shape u.entries page q ⊎ R u.state

      merged : ((j : ℕ) × (u : View) × (get_elem? views j ≡ some u) × Shows u) ↔ ((j : ℕ) × (u : View) × (get_elem? gathered_views j ≡ some u) × Shows u)
      merged = (
        (λ (j, o, at, x). ⊎_elim
            (λ t. (
              id,
              both,
              both_there,
              ⊎_elim
                  (λ e. let y : Shows p = subst Shows e x in ⊎_elim (λ h. inl (of_p page q h)) (λ r. absurd (none (subst R idle r))) y)
                  (λ e. let y : Shows v = subst Shows e x in ⊎_elim (λ h. inl (of_v page q h)) inr y) t,
            ))
            (λ t. (j, o, set_else one other j blank t.0 ∙ (set_else views id j both t.1 ∙ at), x)) (goes j o at)),
        λ (j, u, at, x). ⊎_elim (λ old. (j, u, old, x)) (λ t. ⊎_elim
            (λ b. let y : Shows both = subst Shows b.1 x in ⊎_elim (λ h. ⊎_elim (λ z. (id, v, there, inl z)) (λ z. (other, p, other_there, inl z)) (of_both page q h)) (λ r. (id, v, there, inr r)) y)
            (λ b. let y : Shows blank = subst Shows b x in ⊎_elim (λ (i, e, at', of, among). absurd (some-ne-none e (sym at'))) (λ r. absurd (none r)) y) t) (whence j u at),
      )

    kept_recorded : (page q : ℕ) → Recorded shape views page q ↔ Recorded shape gathered_views page q
    kept_recorded page q = let m = merged (λ _. ⊥) (λ x. x) page q in (
      (λ (j, u, at, h). let (j', u', at', h') = m.0 (j, u, at, inl h) in (j', u', at', ⊎_elim (λ x. x) (λ x. absurd x) h')),
      λ (j, u, at, h). let (j', u', at', h') = m.1 (j, u, at, inl h) in (j', u', at', ⊎_elim (λ x. x) (λ x. absurd x) h'),
    )

    out_some : 1 ≤ d.out
    out_some = let a = term_le is_pass views other p other_there in let b : is_pass p ≡ 1 = ap pass_role is_out in let c = f.out in omega arith

    seat_both : ActorFits shape both.duties both
    seat_both = let k = seat_same d.dealt (d.out - 1) (le_refl d.dealt) v (f.actors id v there) in let z = k.base role in record {
      state = k.state;
      entries = λ i e at. ⊎_elim (λ old. k.entries i e old) (λ (n, is, new). let y = (f.actors other p other_there).entries n e new in (y.0, (let g : v.floor ≤ e.page.number = omega arith in g))) (at_append v.entries p.entries i e at);
      ordered = λ e. let q : Keeper ≡ Pass = sym role ∙ e in cc;
      last = λ e. let q : Keeper ≡ Pass = sym role ∙ e in cc;
      visits = k.visits;
      floor = k.floor;
      number = λ e. let q : Keeper ≡ Pass = sym role ∙ e in cc;
      base = k.base;
      gone = λ e. absurd (alive e);
    }

    seat_blank : ActorFits shape both.duties blank
    seat_blank = record {
      state = tt;
      entries = λ i e at. absurd (some-ne-none e (sym at));
      ordered = λ _ i j e g le at at'. absurd (some-ne-none e (sym at));
      last = λ _. tt;
      visits = λ i x at. absurd (some-ne-none x (sym at));
      floor = omega arith;
      number = λ e. cc;
      base = λ e. cc;
      gone = λ e. refl;
    }

    pass_before : (j : ℕ) (u : View) → get_elem? gathered_views j ≡ some u → u.role ≡ Pass → get_elem? views j ≡ some u
    pass_before j u at is = ⊎_elim (λ x. x) (λ t. ⊎_elim (λ b. let q : Keeper ≡ Pass = sym role ∙ (ap (λ (y : View). y.role) (sym b.1) ∙ is) in cc) (λ b. let q : Spent ≡ Pass = ap (λ (y : View). y.role) (sym b) ∙ is in cc) t) (whence j u at)

    pub joins : PlaneInvariant shape words gathered_views
    joins = record {
      place = id;
      head = both;
      there = both_there;
      keeps = role;
      fits = record {
        in_range = f.in_range;
        long = f.long;
        current_slot = f.current_slot;
        gates = λ s near. let a = total_join (in_slot s) refl refl in let b : in_slot s p ≡ 0 = ap (counts_in s) idle in f.gates s near ∙ (omega arith);
        slots = f.slots;
        actors = λ j u at. ⊎_elim (λ old. seat_same d.dealt (d.out - 1) (le_refl d.dealt) u (f.actors j u old)) (λ t. ⊎_elim (λ b. subst (ActorFits shape both.duties) (sym b.1) seat_both) (λ b. subst (ActorFits shape both.duties) (sym b) seat_blank) t) (whence j u at);
        slot_words = λ s near stands q small. let old = f.slot_words s near stands q small in let m = merged (λ st. HasSet shape st s q) (λ x. x) (slot_at d s).page q in ((λ b. m.0 (old.0 b)), (λ y. old.1 (m.1 y)));
        collected_words = λ page below whole q small. let old = f.collected_words page below whole q small in let m = kept_recorded page q in ((λ b. m.0 (old.0 b)), (λ y. old.1 (m.1 y)));
        drained_words = f.drained_words;
        free_words = f.free_words;
        probes = λ i x at. let k = f.probes i x at in record {
          page_below = k.page_below;
          at_below = k.at_below;
          known = let a = k.known in omega (arith, length-append v.entries p.entries);
          seen = k.seen;
          unseen = λ none n e lt at' of. k.unseen none n e lt (⊎_elim (λ y. y) (λ (o, is, y). let a = k.known in absurd (omega arith)) (at_append v.entries p.entries n e at')) of;
        };
        noted = f.noted;
        out = let a = total_join is_pass refl refl in let b : is_pass p ≡ 1 = ap pass_role is_out in let c = f.out in omega arith;
        few = let a = f.few in omega arith;
        one_number = λ i j a b x y pa pb e. f.one_number i j a b (pass_before i a x pa) (pass_before j b y pb) pa pb e;
        one_keeper = let a = total_join is_keeper refl refl in let b : is_keeper p ≡ 0 = ap keeper_role is_out in let c = f.one_keeper in omega arith;
      };
    }
