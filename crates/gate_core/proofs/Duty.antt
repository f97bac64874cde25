-- What an act of the keeper alone leaves as it was: each actor's entries and state.
use Rattle.std.proofs.Common.{◌≡◌, ℕ, ◌+◌, ◌*◌, ◌<◌, ◌≤◌, ◌⊎◌, ◌↔◌, List, length, get_or, set, sym, refl, ap, ◌∙◌, subst, inl, ⊎_elim, arith}
use mathlib.Core.Option.{some}
use mathlib.Core.Logic.{dite}
use native.Mathlib.Decide.{ℕ_discrete}
use lib.ListN.{get_elem?}
use Rattle.spie_base.specs.declared.PageShape.{PageShape}
use Rattle.gate_core.specs.Views.{Spent, Pass, Keeper, Duties, View, slot_at, collected_of}
use Rattle.gate_core.specs.Acts.{with_duties}
use Rattle.gate_core.specs.declared.states.SlotPhase.TheVariants.{Free}
use Rattle.bloom_page.specs.Bits.{bit_in}
use Rattle.gate_core.specs.Marks.{width, size}
use Rattle.gate_core.specs.Views.{Probed}
use Rattle.gate_core.specs.Acts.{inside_of, gate_place, bit_place}
use Rattle.gate_core.specs.Invariant.{total, in_slot, is_pass, seal_bit, HasPage, taken, page_bit, IsCollected, ProbeFits, SlotsFit, keeper_role, is_keeper, HasSet, Recorded, Marked, ActorFits, PlaneFits, PlaneInvariant}
use Rattle.hash_family.specs.Entries.{IsMarked}
use Rattle.gate_core.proofs.Lists.{at_set, set_here, same_at, some_set, some_unset, total-set, terms_le}

-- whose role is the keeper's is the keeper
pub the_keeper : (shape : PageShape) (words : List ℕ) (views : List View) (r : PlaneInvariant shape words views) (id : ℕ) (v : View) → get_elem? views id ≡ some v → v.role ≡ Keeper → r.head ≡ v
the_keeper shape words views r id v there role = dite (ℕ_discrete r.place id)
    (λ e. same_at views id r.head v (subst (λ (k : ℕ). get_elem? views k ≡ some r.head) e r.there) there)
    (λ ne. let a = terms_le is_keeper views id r.place v r.head ne there r.there in let b : is_keeper v ≡ 1 = ap keeper_role role in let c : is_keeper r.head ≡ 1 = ap keeper_role r.keeps in let e = r.fits.one_keeper in absurd (omega arith))

-- and the words and the views fit its duties and its entries
pub keeper_fits : (shape : PageShape) (words : List ℕ) (views : List View) (r : PlaneInvariant shape words views) (id : ℕ) (v : View) → get_elem? views id ≡ some v → v.role ≡ Keeper → PlaneFits shape words views v.duties v.entries
keeper_fits shape words views r id v there role =
    subst (λ (u : View). PlaneFits shape words views u.duties u.entries) (the_keeper shape words views r id v there role) r.fits

module _ (shape : PageShape) (views : List View) (id : ℕ) (v : View) (d' : Duties) (there : get_elem? views id ≡ some v) where
  abbrev w : View
  w = with_duties v d'

  pub total_same : (g : View → ℕ) → g w ≡ g v → total g (set views id w) ≡ total g views
  total_same g e = let a = total-set g views id v w there in omega arith

  pub marked_same : (page s p : ℕ) → Marked shape views page s p ↔ Marked shape (set views id w) page s p
  marked_same page s p = let P : View → Type 0 = λ u. IsMarked shape u.entries page p ⊎ HasSet shape u.state s p in
      (some_set P P views id v w there (λ u x. x) (λ x. x), λ m. ⊎_elim (λ x. x) (λ x. absurd x) (some_unset P P ⊥ views id v w there (λ u x. x) (λ x. inl x) m))

  pub recorded_same : (page p : ℕ) → Recorded shape views page p ↔ Recorded shape (set views id w) page p
  recorded_same page p = let P : View → Type 0 = λ u. IsMarked shape u.entries page p in
      (some_set P P views id v w there (λ u x. x) (λ x. x), λ m. ⊎_elim (λ x. x) (λ x. absurd x) (some_unset P P ⊥ views id v w there (λ u x. x) (λ x. inl x) m))

  -- each actor fits the new duties, where it fits them by its state, entries and visits
  pub seats_then : ¬ (v.role ≡ Spent) → ((j : ℕ) (u : View) → get_elem? views j ≡ some u → ActorFits shape d' u) → (j : ℕ) (u : View) → get_elem? (set views id w) j ≡ some u → ActorFits shape d' u
  seats_then alive k j u at = ⊎_elim
      (λ x. subst (ActorFits shape d') x.1 (let f = k id v there in record { state = f.state; entries = f.entries; ordered = f.ordered; last = f.last; visits = f.visits; floor = f.floor; number = f.number; base = f.base; gone = λ e. absurd (alive e) }))
      (λ x. k j u x.1) (at_set views id j w u at)

  before : (j : ℕ) (u : View) → get_elem? (set views id w) j ≡ some u → (o : View) × (get_elem? views j ≡ some o) × (u.role ≡ o.role) × (u.number ≡ o.number)
  before j u at = ⊎_elim (λ x. (v, ap (get_elem? views) x.0 ∙ there, ap (λ (y : View). y.role) (sym x.1), ap (λ (y : View). y.number) (sym x.1))) (λ x. (u, x.1, refl, refl)) (at_set views id j w u at)

  pub numbers_then : ((i j : ℕ) (a b : View) → get_elem? views i ≡ some a → get_elem? views j ≡ some b → a.role ≡ Pass → b.role ≡ Pass → a.number ≡ b.number → i ≡ j)
      → (i j : ℕ) (a b : View) → get_elem? (set views id w) i ≡ some a → get_elem? (set views id w) j ≡ some b → a.role ≡ Pass → b.role ≡ Pass → a.number ≡ b.number → i ≡ j
  numbers_then one i j a b x y p q e = let o = before i a x in let r = before j b y in one i j o.0 r.0 o.1 r.1 (sym o.2 ∙ p) (sym r.2 ∙ q) (sym o.3 ∙ e ∙ r.3)

-- the plane invariant after an act of the keeper, from what it does to the words and to the duties
pub record Serves (shape : PageShape) (words' : List ℕ) (views : List View) (v : View) (d' : Duties) : Type 0 where
  pub long : length words' ≡ 5 + 4 * width shape
  pub current_slot : get_or words' 0 0 ≡ d'.pointed
  pub gates : (s : ℕ) → s < 4 → get_or words' (gate_place s) 0 ≡ total (in_slot s) views + seal_bit (slot_at d' s).phase * 65536 + (slot_at d' s).page * 4294967296
  pub slots : SlotsFit shape d'
  pub actors : (j : ℕ) (u : View) → get_elem? views j ≡ some u → ActorFits shape d' u
  pub slot_words : (s : ℕ) → s < 4 → HasPage (slot_at d' s).phase → (p : ℕ) → p < size shape → (page_bit shape words' d' s p ≡ 1) ↔ Marked shape views (slot_at d' s).page s p
  pub collected_words : (page : ℕ) → page < d'.next → IsCollected shape d' page → (p : ℕ) → p < size shape → (bit_in (collected_of d' page) p ≡ 1) ↔ Recorded shape views page p
  pub drained_words : (s : ℕ) → s < 4 → (i : ℕ) → i < taken (slot_at d' s).phase → get_or words' (bit_place shape s i) 0 ≡ 0
  pub free_words : (s : ℕ) → s < 4 → (slot_at d' s).phase ≡ Free → (i : ℕ) → i < width shape → get_or words' (bit_place shape s i) 0 ≡ 0
  pub probes : (i : ℕ) (x : Probed) → get_elem? d'.probes i ≡ some x → ProbeFits shape words' d' v.entries x
  pub noted : inside_of d'.noted ≤ d'.noted_with
  pub out : d'.out ≡ v.duties.out

pub duty_kept : (shape : PageShape) (words words' : List ℕ) (views : List View) (id : ℕ) (v : View) (d' : Duties) → get_elem? views id ≡ some v → v.role ≡ Keeper → PlaneFits shape words views v.duties v.entries → Serves shape words' views v d'
    → PlaneInvariant shape words' (set views id (with_duties v d'))
duty_kept shape words words' views id v d' there role f k = record {
  place = id;
  head = with_duties v d';
  there = set_here views id (with_duties v d') v there;
  keeps = role;
  fits = record {
    in_range = f.in_range;
    long = k.long;
    current_slot = k.current_slot;
    gates = λ s near. let a = total_same shape views id v d' there (in_slot s) refl in k.gates s near ∙ (omega arith);
    slots = k.slots;
    actors = seats_then shape views id v d' there (λ e. let q : Keeper ≡ Spent = sym role ∙ e in cc) k.actors;
    slot_words = λ s near stands p small. let a = k.slot_words s near stands p small in let m = marked_same shape views id v d' there (slot_at d' s).page s p in ((λ b. m.0 (a.0 b)), (λ y. a.1 (m.1 y)));
    collected_words = λ page below whole p small. let a = k.collected_words page below whole p small in let m = recorded_same shape views id v d' there page p in ((λ b. m.0 (a.0 b)), (λ y. a.1 (m.1 y)));
    drained_words = k.drained_words;
    free_words = k.free_words;
    probes = k.probes;
    noted = k.noted;
    out = total_same shape views id v d' there is_pass refl ∙ (f.out ∙ sym k.out);
    few = let a = f.few in let b = k.out in omega arith;
    one_number = numbers_then shape views id v d' there f.one_number;
    one_keeper = total_same shape views id v d' there is_keeper refl ∙ f.one_keeper;
  };
}
