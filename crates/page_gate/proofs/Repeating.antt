-- A record whose marks are all set keeps the plane invariant, and changes no word.
use Rattle.std.proofs.Common.{◌≡◌, ℕ, ◌+◌, ◌*◌, ◌/◌, ◌%◌, ◌<◌, ◌⊎◌, ◌==◌, true, List, [], ◌∷◌, set, sym, refl, ap, ◌∙◌, subst, inl, inr, ⊎_elim, arith, length-append}
use Rattle.std.specs.Int.{bit_at}
use Rattle.std.proofs.lemmas.Bool.{cases_lt, eqb-true}
use Rattle.std.proofs.lemmas.List.{set-get_or}
use mathlib.Core.Option.{some}
use lib.ListN.{get_elem?}
use Rattle.atomic_table.specs.Table.{Me, Step, keeps, Allows}
use Rattle.spie_base.specs.declared.PageNo.{PageNo}
use Rattle.spie_base.specs.declared.PageShape.{PageShape}
use Rattle.spie_base.specs.declared.Sig.{Sig}
use Rattle.spie_base.specs.declared.types.Entry.{Entry}
use Rattle.spie_base.specs.Shapes.{IsShape}
use Rattle.hash_family.specs.Positions.{position}
use Rattle.hash_family.specs.Entries.{IsAmong, IsMarked}
use Rattle.gate_core.specs.declared.view.Role.TheVariants.{Pass, Keeper}
use Rattle.gate_core.specs.declared.view.View.{View}
use Rattle.gate_core.specs.declared.states.PassState.{PassState}
use Rattle.gate_core.specs.declared.states.PassState.TheVariants.{Idle}
use Rattle.gate_core.specs.declared.states.SlotPhase.TheVariants.{Open}
use Rattle.gate_core.specs.Views.{slot_at}
use Rattle.gate_core.specs.Acts.{bit_place, open_slot}
use Rattle.gate_core.specs.Marks.{width}
use Rattle.gate_core.specs.Invariant.{total, counts_in, in_slot, HasPage, HasSet, Marked, ActorFits, PlaneFits, PlaneInvariant, Met}
use Rattle.gate_core.proofs.Lists.{set_here, some_unset, total-set, at_longer, at_snoc}
use Rattle.gate_core.proofs.Bits.{position_below}
use Rattle.gate_core.proofs.Duty.{keeper_fits}
use Rattle.gate_core.proofs.Frame.{Turns, mark_kept, marked_still, acted}
use Rattle.gate_core.proofs.Slots.{open_is}
use Rattle.page_gate.specs.Pages.{CanRead, AreKept}
use Rattle.page_gate.specs.Probes.{HaveAllMarks}
use Rattle.page_gate.specs.Repeats.{CanRepeat, repeated}
use Rattle.page_gate.specs.Slots.{HasOpen, open_page}
use Rattle.page_gate.specs.Steps.{Nothing, Holds}
use Rattle.page_gate.specs.Tried.{with_entry}
use Rattle.page_gate.proofs.KeptSlots.{alive}
use Rattle.page_gate.proofs.WholeWords.{word_met}

-- ---- the marks are known

-- one mark more is set, and so it is a mark of one of the keeper's entries
pub known_more : (shape : PageShape) (v : View) (page s : ℕ) (sig : Sig) (i p n : ℕ) → IsShape shape → CanRead v page s → v.duties.out ≡ 0 → p ≡ position shape page sig i → Met shape v (bit_place shape s (p / 64)) n → (bit_at n (p % 64) == 1) ≡ true
    → ((j : ℕ) → j < i → IsMarked shape v.entries page (position shape page sig j)) → (j : ℕ) → j < i + 1 → IsMarked shape v.entries page (position shape page sig j)
known_more shape v page s sig i p n fit k none_out is met one before j lt = ⊎_elim
    (λ less. before j less)
    (λ le. let e : i ≡ j = omega arith in
    let small = subst (λ (q : ℕ). q < 64 * width shape) (sym is) (position_below shape page sig i fit) in
    subst (λ (q : ℕ). IsMarked shape v.entries page q) (is ∙ ap (position shape page sig) e) ((word_met shape v page s (p / 64) n k none_out met p small refl).0 (eqb-true (bit_at n (p % 64)) 1 one)))
    (cases_lt j i)

-- ---- the entry

module _ (shape : PageShape) (words : List ℕ) (views : List View) (r : PlaneInvariant shape words views) (id : ℕ) (v : View) (there : get_elem? views id ≡ some v) (page : PageNo) (sig : Sig) (s : ℕ) (k : CanRead v page.number s) (all : HaveAllMarks shape v.entries page.number sig) where
  abbrev new : Entry
  new = record { page = page; sig = sig }

  abbrev w : View
  w = with_entry v page sig

  f : PlaneFits shape words views v.duties v.entries
  f = keeper_fits shape words views r id v there k.role

  actor : ActorFits shape v.duties w
  actor = let a = f.actors id v there in record {
    state = tt;
    entries = λ i e at. ⊎_elim (λ old. a.entries i e old)
        (λ newest. let q : page.number ≡ e.page.number = ap (λ (x : Entry). x.page.number) newest.1 in let here = k.here in let below = f.slots.used_below s k.near (f.slots.stands_used s k.near k.stands) in let floor = a.base k.role in ((omega arith), (omega arith)))
        (at_snoc v.entries new e i at);
    ordered = λ role. let q : Keeper ≡ Pass = sym k.role ∙ role in cc;
    last = λ _. tt;
    visits = a.visits;
    floor = a.floor;
    number = a.number;
    base = a.base;
    gone = λ e. absurd (alive v.role k.role e);
  }

  turns : Turns shape v.duties v w
  turns = record {
    role = refl;
    number = refl;
    duties = refl;
    actor = actor;
    kept = λ i e at. at_longer v.entries (new ∷ []) i e at;
    first = λ i e lt at. ⊎_elim (λ old. old) (λ newest. let a = newest.0 in absurd (omega arith)) (at_snoc v.entries new e i at);
    longer = omega (arith, length-append v.entries (new ∷ []));
    fresh = λ i e at. ⊎_elim inl (λ newest. inr (s, k.near, k.stands, k.here ∙ ap (λ (x : Entry). x.page.number) newest.1)) (at_snoc v.entries new e i at);
    gives = λ t p near stands x. ⊎_elim (λ old. inl (mark_kept shape v w (slot_at v.duties t).page p (λ i e at. at_longer v.entries (new ∷ []) i e at) old)) (λ h. absurd (subst (λ (st : PassState). HasSet shape st t p) k.idle h)) x;
  }

  -- each of its marks was one before
  takes : (t p : ℕ) → IsMarked shape w.entries (slot_at v.duties t).page p ⊎ HasSet shape w.state t p → IsMarked shape v.entries (slot_at v.duties t).page p ⊎ HasSet shape v.state t p
  takes t p x = ⊎_elim (λ (i, e, at, of, among). ⊎_elim (λ old. inl (i, e, old, of, among))
      (λ newest. let q : page.number ≡ (slot_at v.duties t).page = ap (λ (y : Entry). y.page.number) newest.1 ∙ of in
      let among' : IsAmong shape (slot_at v.duties t).page sig shape.k p = subst (λ (y : Entry). IsAmong shape (slot_at v.duties t).page y.sig shape.k p) (sym newest.1) among in
      let here : IsAmong shape page.number sig shape.k p = subst (λ (g : ℕ). IsAmong shape g sig shape.k p) (sym q) among' in
      inl (subst (λ (g : ℕ). IsMarked shape v.entries g p) q (subst (λ (z : ℕ). IsMarked shape v.entries page.number z) here.2 (all here.0 here.1))))
      (at_snoc v.entries new e i at)) (λ h. absurd h) x

  marked_back : (t p : ℕ) → Marked shape (set views id w) (slot_at v.duties t).page t p → Marked shape views (slot_at v.duties t).page t p
  marked_back t p m = let P : View → Type 0 = λ u. IsMarked shape u.entries (slot_at v.duties t).page p ⊎ HasSet shape u.state t p in
      ⊎_elim (λ x. x) (λ x. absurd x) (some_unset P P ⊥ views id v w there (λ u x. x) (λ x. inl (takes t p x)) m)

  same_inside : (t : ℕ) → total (in_slot t) (set views id w) ≡ total (in_slot t) views
  same_inside t = let a = total-set (in_slot t) views id v w there in let b : in_slot t v ≡ 0 = ap (counts_in t) k.idle in omega arith

  repeats : PlaneInvariant shape words (set views id w)
  repeats = record {
    place = id;
    head = w;
    there = set_here views id w v there;
    keeps = k.role;
    fits = acted shape words words views v.duties v.entries w.entries id v w f there turns refl refl
        (λ t near. let a = same_inside t in f.gates t near ∙ (omega arith))
        (λ t i near lt dead. refl)
        (λ t near stands p small. let old = f.slot_words t near stands p small in
        ((λ b. marked_still shape words words views v.duties v.entries w.entries id v w f there turns t p near stands (old.0 b)), λ m. old.1 (marked_back t p m)))
        turns.first
        turns.longer;
  }

pub repeat_allowed : (key : PageShape) (slots id : ℕ) (me : Me Nothing View) (e : Entry) (st : Step Nothing) → CanRepeat key me.0 e.page e.sig → Allows (Holds key) slots id me 0 (λ n. n) (repeated e st me)
repeat_allowed key slots id me e st (slot, k, all) s law long at small = let w : View = with_entry me.0 e.page e.sig in (
  w,
  keeps,
  tt,
  subst (λ (ws : List ℕ). PlaneInvariant key ws (set s.views id w)) (sym (set-get_or s.words 0 0)) (repeats key s.words s.views law id me.0 at e.page e.sig slot k all),
  refl,
)

-- ---- where it is asked

-- the open page can be read, and the keeper points at its slot
pub open_readable : (v : View) (page s : ℕ) → v.role ≡ Keeper → v.state ≡ Idle → AreKept v.duties → (HasOpen v.duties → v.duties.pointed ≡ open_slot v.duties) → HasOpen v.duties → s ≡ open_slot v.duties → page ≡ open_page v.duties
    → CanRead v page s × (v.duties.pointed ≡ s) × ((slot_at v.duties s).phase ≡ Open)
open_readable v page s role idle k pointed low at is = let d = v.duties in let open_there = open_is d k.fit.four low in
    subst (λ (j : ℕ). CanRead v page j × (d.pointed ≡ j) × ((slot_at d j).phase ≡ Open)) (sym at) (
      record { role = role; idle = idle; near = low; stands = subst HasPage (sym open_there) tt; whole = k.whole (open_slot d) low; here = sym is },
      pointed low,
      open_there,
    )
