-- What an act of a record leaves as it was: the keeper's duties, the other actors, the pages that are collected.
use Rattle.std.proofs.Common.{◌≡◌, ℕ, ◌+◌, ◌*◌, ◌/◌, ◌%◌, ◌^◌, ◌<◌, ◌≤◌, ◌⊎◌, ◌↔◌, cond, nat_lt, List, length, get_or, set, sym, refl, ap, ◌∙◌, subst, inl, inr, ⊎_elim, arith, ◌≢◌, le_refl, length-set, get_or-set_same, get_or-set_other}
use mathlib.Core.Option.{some}
use lib.ListN.{get_elem?}
use Rattle.spie_base.specs.declared.PageShape.{PageShape}
use Rattle.spie_base.specs.declared.types.Entry.{Entry}
use Rattle.gate_core.specs.declared.states.SlotPhase.{SlotPhase}
use Rattle.gate_core.specs.declared.states.SlotPhase.TheVariants.{Free, Open, Sealed, Quiet}
use Rattle.bloom_page.specs.Bits.{bit_in}
use Rattle.gate_core.specs.Marks.{width, size}
use Rattle.gate_core.specs.Views.{Pass, Duties, View, slot_at, collected_of, Spent}
use Rattle.gate_core.specs.Acts.{gate_place, bit_place, moved_to}
use Rattle.gate_core.specs.Invariant.{total, in_slot, pass_role, keeper_role, is_pass, is_keeper, seal_bit, HasPage, IsLive, taken, page_bit, HasSet, Recorded, Marked, IsCollected, SlotsFit, ActorFits, PlaneFits, StateFits, IsLast, PlaneInvariant}
use Rattle.hash_family.specs.Entries.{IsMarked}
use mathlib.Core.Logic.{dite}
use native.Mathlib.Decide.{ℕ_discrete}
use Rattle.gate_core.specs.declared.states.PassState.{PassState}
use Rattle.gate_core.proofs.Lists.{at_set, some_set, some_unset, total-set, set_here, set_else, same_at}

-- one actor's view becomes w, with the same duties
pub record Turns (shape : PageShape) (d : Duties) (v w : View) : Type 0 where
  pub role : w.role ≡ v.role
  pub number : w.number ≡ v.number
  pub duties : w.duties ≡ v.duties
  pub actor : ActorFits shape d w
  pub kept : (i : ℕ) (e : Entry) → get_elem? v.entries i ≡ some e → get_elem? w.entries i ≡ some e
  pub first : (i : ℕ) (e : Entry) → i < length v.entries → get_elem? w.entries i ≡ some e → get_elem? v.entries i ≡ some e
  pub longer : length v.entries ≤ length w.entries
  -- what is new is an entry of a page that stands
  pub fresh : (i : ℕ) (e : Entry) → get_elem? w.entries i ≡ some e → (get_elem? v.entries i ≡ some e) ⊎ ((s : ℕ) × (s < 4) × HasPage (slot_at d s).phase × ((slot_at d s).page ≡ e.page.number))
  pub gives : (s p : ℕ) → s < 4 → HasPage (slot_at d s).phase → IsMarked shape v.entries (slot_at d s).page p ⊎ HasSet shape v.state s p → IsMarked shape w.entries (slot_at d s).page p ⊎ HasSet shape w.state s p

pub mark_kept : (shape : PageShape) (v w : View) (page p : ℕ) → ((i : ℕ) (e : Entry) → get_elem? v.entries i ≡ some e → get_elem? w.entries i ≡ some e) → IsMarked shape v.entries page p → IsMarked shape w.entries page p
mark_kept shape v w page p kept (i, e, at, of, among) = (i, e, kept i e at, of, among)

-- a page that stands is not collected
pub not_both : (shape : PageShape) (d : Duties) (s page : ℕ) → SlotsFit shape d → s < 4 → HasPage (slot_at d s).phase → (slot_at d s).page ≡ page → IsCollected shape d page → ⊥
not_both shape d s page fit near stands is whole = let a = fit.taken_words s near stands in let b = fit.taken_short s near in
    let c : length (collected_of d (slot_at d s).page) ≡ width shape = ap (λ (x : ℕ). length (collected_of d x)) is ∙ whole in omega arith

pub page_bit_same : (shape : PageShape) (words words' : List ℕ) (d : Duties) (s p : ℕ) → get_or words' (bit_place shape s (p / 64)) 0 ≡ get_or words (bit_place shape s (p / 64)) 0 → page_bit shape words' d s p ≡ page_bit shape words d s p
page_bit_same shape words words' d s p e = ap (λ (x : ℕ). cond (nat_lt (p / 64) (length (collected_of d (slot_at d s).page))) (bit_in (collected_of d (slot_at d s).page) p) (x / 2 ^ (p % 64) % 2)) e

-- no word of a live slot is collected
dead : (ph : SlotPhase) (i : ℕ) → IsLive ph → i < taken ph → ⊥
dead Free i live lt = live
dead Open i live lt = omega arith
dead Sealed i live lt = omega arith
dead (Quiet next) i live lt = live

module _ (shape : PageShape) (words words' : List ℕ) (views : List View) (d : Duties) (mine mine' : List Entry) (id : ℕ) (v w : View) (f : PlaneFits shape words views d mine) (there : get_elem? views id ≡ some v) (t : Turns shape d v w) where
  -- a mark of a standing page is still one
  pub marked_still : (s p : ℕ) → s < 4 → HasPage (slot_at d s).phase → Marked shape views (slot_at d s).page s p → Marked shape (set views id w) (slot_at d s).page s p
  marked_still s p near stands m =
      some_set (λ u. IsMarked shape u.entries (slot_at d s).page p ⊎ HasSet shape u.state s p) (λ u. IsMarked shape u.entries (slot_at d s).page p ⊎ HasSet shape u.state s p) views id v w there (λ u x. x) (t.gives s p near stands) m

  -- the marks of a collected page are the same
  recorded_same : (page p : ℕ) → IsCollected shape d page → Recorded shape views page p ↔ Recorded shape (set views id w) page p
  recorded_same page p whole = (
    some_set (λ u. IsMarked shape u.entries page p) (λ u. IsMarked shape u.entries page p) views id v w there (λ u x. x) (mark_kept shape v w page p t.kept),
    λ r. ⊎_elim (λ x. x) (λ x. absurd x) (some_unset (λ u. IsMarked shape u.entries page p) (λ u. IsMarked shape u.entries page p) ⊥ views id v w there (λ u x. x)
        (λ (i, e, at, of, among). ⊎_elim (λ old. inl (i, e, old, of, among)) (λ (s, near, stands, is). absurd (not_both shape d s page f.slots near stands (is ∙ of) whole)) (t.fresh i e at)) r),
  )

  seats_still : (j : ℕ) (u : View) → get_elem? (set views id w) j ≡ some u → ActorFits shape d u
  seats_still j u at = ⊎_elim (λ x. subst (ActorFits shape d) x.1 t.actor) (λ x. f.actors j u x.1) (at_set views id j w u at)

  same_pass : total is_pass (set views id w) ≡ total is_pass views
  same_pass = let a = total-set is_pass views id v w there in let b : is_pass w ≡ is_pass v = ap pass_role t.role in omega arith

  same_keeper : total is_keeper (set views id w) ≡ total is_keeper views
  same_keeper = let a = total-set is_keeper views id v w there in let b : is_keeper w ≡ is_keeper v = ap keeper_role t.role in omega arith

  -- each view after the act is, in role and number, the one before
  before : (j : ℕ) (u : View) → get_elem? (set views id w) j ≡ some u → (o : View) × (get_elem? views j ≡ some o) × (u.role ≡ o.role) × (u.number ≡ o.number)
  before j u at = ⊎_elim (λ x. (v, ap (get_elem? views) x.0 ∙ there, ap (λ (y : View). y.role) (sym x.1) ∙ t.role, ap (λ (y : View). y.number) (sym x.1) ∙ t.number)) (λ x. (u, x.1, refl, refl)) (at_set views id j w u at)

  one_number_still : (i j : ℕ) (a b : View) → get_elem? (set views id w) i ≡ some a → get_elem? (set views id w) j ≡ some b → a.role ≡ Pass → b.role ≡ Pass → a.number ≡ b.number → i ≡ j
  one_number_still i j a b x y p q e = let o = before i a x in let r = before j b y in f.one_number i j o.0 r.0 o.1 r.1 (sym o.2 ∙ p) (sym r.2 ∙ q) (sym o.3 ∙ e ∙ r.3)

  -- Only bit words of live slots may change, and the standing pages' bits are again their marks
  pub acted : length words' ≡ length words → get_or words' 0 0 ≡ get_or words 0 0
      → ((s : ℕ) → s < 4 → get_or words' (gate_place s) 0 ≡ total (in_slot s) (set views id w) + seal_bit (slot_at d s).phase * 65536 + (slot_at d s).page * 4294967296)
      → ((s i : ℕ) → s < 4 → i < width shape → (IsLive (slot_at d s).phase → ⊥) → get_or words' (bit_place shape s i) 0 ≡ get_or words (bit_place shape s i) 0)
      → ((s : ℕ) → s < 4 → HasPage (slot_at d s).phase → (p : ℕ) → p < size shape → (page_bit shape words' d s p ≡ 1) ↔ Marked shape (set views id w) (slot_at d s).page s p)
      → ((i : ℕ) (e : Entry) → i < length mine → get_elem? mine' i ≡ some e → get_elem? mine i ≡ some e) → length mine ≤ length mine'
      → PlaneFits shape words' (set views id w) d mine'
  acted long zero gates still exact first longer = record {
    in_range = f.in_range;
    long = long ∙ f.long;
    current_slot = zero ∙ f.current_slot;
    gates = gates;
    slots = f.slots;
    actors = seats_still;
    slot_words = exact;
    collected_words = λ page below whole p small. let old = f.collected_words page below whole p small in let r = recorded_same page p whole in (λ b. r.0 (old.0 b), λ m. old.1 (r.1 m));
    drained_words = λ s near i lt. still s i near (let a = f.slots.taken_short s near in omega arith) (λ live. dead (slot_at d s).phase i live lt) ∙ f.drained_words s near i lt;
    free_words = λ s near free i lt. still s i near lt (λ live. subst IsLive free live) ∙ f.free_words s near free i lt;
    probes = λ i x at. let k = f.probes i x at in record {
      page_below = k.page_below;
      at_below = k.at_below;
      known = let a = k.known in omega arith;
      seen = λ one. ⊎_elim inl (λ (s, near, stands, is, bit). inr (s, near, stands, is, (exact s near stands x.at k.at_below).1 (marked_still s x.at near stands ((f.slot_words s near stands x.at k.at_below).0 bit)))) (k.seen one);
      unseen = λ none n e lt at' of. k.unseen none n e lt (first n e (let a = k.known in omega arith) at') of;
    };
    noted = f.noted;
    out = same_pass ∙ f.out;
    few = f.few;
    one_number = one_number_still;
    one_keeper = same_keeper ∙ f.one_keeper;
  }

-- ---- the plane invariant after such an act

-- the act of an actor whose duties stay, put back into the plane invariant
pub turned : (shape : PageShape) (words words' : List ℕ) (views : List View) (r : PlaneInvariant shape words views) (id : ℕ) (v w : View) → get_elem? views id ≡ some v → Turns shape r.head.duties v w
    → ((mine' : List Entry) → ((i : ℕ) (e : Entry) → i < length r.head.entries → get_elem? mine' i ≡ some e → get_elem? r.head.entries i ≡ some e) → length r.head.entries ≤ length mine' → PlaneFits shape words' (set views id w) r.head.duties mine')
    → PlaneInvariant shape words' (set views id w)
turned shape words words' views r id v w there t make = dite (ℕ_discrete r.place id)
    (λ e. let is : r.head ≡ v = same_at views id r.head v (subst (λ (k : ℕ). get_elem? views k ≡ some r.head) e r.there) there in record {
      place = id;
      head = w;
      there = set_here views id w v there;
      keeps = t.role ∙ (ap (λ (u : View). u.role) (sym is) ∙ r.keeps);
      fits = subst (λ (d : Duties). PlaneFits shape words' (set views id w) d w.entries) (ap (λ (u : View). u.duties) is ∙ sym t.duties)
          (make w.entries (subst (λ (es : List Entry). (i : ℕ) (e : Entry) → i < length es → get_elem? w.entries i ≡ some e → get_elem? es i ≡ some e) (ap (λ (u : View). u.entries) (sym is)) t.first)
          (subst (λ (es : List Entry). length es ≤ length w.entries) (ap (λ (u : View). u.entries) (sym is)) t.longer));
    })
    (λ ne. record {
      place = r.place;
      head = r.head;
      there = set_else views id r.place w ne ∙ r.there;
      keeps = r.keeps;
      fits = make r.head.entries (λ i e lt at. at) (le_refl (length r.head.entries));
    })

-- an act on a gate, or on no word: bit words stay
module _ (shape : PageShape) (words : List ℕ) (views : List View) (r : PlaneInvariant shape words views) (id : ℕ) (v w : View) (there : get_elem? views id ≡ some v) (t : Turns shape r.head.duties v w)
    (takes : (s p : ℕ) → s < 4 → HasPage (slot_at r.head.duties s).phase → IsMarked shape w.entries (slot_at r.head.duties s).page p ⊎ HasSet shape w.state s p → IsMarked shape v.entries (slot_at r.head.duties s).page p ⊎ HasSet shape v.state s p) where
  marked_back : (s p : ℕ) → s < 4 → HasPage (slot_at r.head.duties s).phase → Marked shape (set views id w) (slot_at r.head.duties s).page s p → Marked shape views (slot_at r.head.duties s).page s p
  marked_back s p near stands m = let page : ℕ = (slot_at r.head.duties s).page in ⊎_elim (λ x. x) (λ x. absurd x)
      (some_unset (λ u. IsMarked shape u.entries page p ⊎ HasSet shape u.state s p) (λ u. IsMarked shape u.entries page p ⊎ HasSet shape u.state s p) ⊥ views id v w there (λ u x. x) (λ x. inl (takes s p near stands x)) m)

  pub quiet_act : (words' : List ℕ) → length words' ≡ length words → get_or words' 0 0 ≡ get_or words 0 0 → ((i : ℕ) → 5 ≤ i → get_or words' i 0 ≡ get_or words i 0)
      → ((s : ℕ) → s < 4 → get_or words' (gate_place s) 0 ≡ total (in_slot s) (set views id w) + seal_bit (slot_at r.head.duties s).phase * 65536 + (slot_at r.head.duties s).page * 4294967296) → PlaneInvariant shape words' (set views id w)
  quiet_act words' long current bits gates = let d : Duties = r.head.duties in turned shape words words' views r id v w there t (λ mine' first longer.
      acted shape words words' views d r.head.entries mine' id v w r.fits there t long current gates (λ s i near lt dead. bits (bit_place shape s i) (omega arith))
      (λ s near stands p small. let same = page_bit_same shape words words' d s p (bits (bit_place shape s (p / 64)) (omega arith)) in let old = r.fits.slot_words s near stands p small in
      ((λ b. marked_still shape words words' views d r.head.entries mine' id v w r.fits there t s p near stands (old.0 (sym same ∙ b))), λ m. same ∙ old.1 (marked_back s p near stands m)))
      first longer)

  -- the gate of s becomes x
  pub gate_act : (s x : ℕ) → s < 4 → x ≡ total (in_slot s) (set views id w) + seal_bit (slot_at r.head.duties s).phase * 65536 + (slot_at r.head.duties s).page * 4294967296
      → ((o : ℕ) → o ≢ s → total (in_slot o) (set views id w) ≡ total (in_slot o) views) → PlaneInvariant shape (set words (gate_place s) x) (set views id w)
  gate_act s x near is others = let d : Duties = r.head.duties in quiet_act (set words (gate_place s) x) (length-set words (gate_place s) x) (get_or-set_other words (gate_place s) 0 x 0 (λ e. omega arith))
      (λ i big. get_or-set_other words (gate_place s) i x 0 (λ e. omega arith))
      (λ o small. dite (ℕ_discrete o s)
      (λ e. subst (λ (k : ℕ). get_or (set words (gate_place s) x) (gate_place k) 0 ≡ total (in_slot k) (set views id w) + seal_bit (slot_at d k).phase * 65536 + (slot_at d k).page * 4294967296) (sym e)
      (get_or-set_same words (gate_place s) x 0 (let a = r.fits.long in omega arith) ∙ is))
      (λ ne. let a = others o ne in let b = r.fits.gates o small in get_or-set_other words (gate_place s) (gate_place o) x 0 (λ e. ne (omega arith)) ∙ (b ∙ (omega arith))))

-- a new state for the actor, nothing else
pub restaged : (shape : PageShape) (d : Duties) (v : View) (st : PassState) → ActorFits shape d v → StateFits shape d v.floor st → (v.role ≡ Pass → IsLast v.entries st) → ¬ (v.role ≡ Spent)
    → ((s p : ℕ) → HasSet shape v.state s p → HasSet shape st s p) → Turns shape d v (moved_to v st)
restaged shape d v st k fits last alive gives = record {
  role = refl;
  number = refl;
  duties = refl;
  actor = record { state = fits; entries = k.entries; ordered = k.ordered; last = last; visits = k.visits; floor = k.floor; number = k.number; base = k.base; gone = λ e. absurd (alive e) };
  kept = λ i e at. at;
  first = λ i e lt at. at;
  longer = le_refl (length v.entries);
  fresh = λ i e at. inl at;
  gives = λ s p near stands x. ⊎_elim inl (λ h. inr (gives s p h)) x;
}
