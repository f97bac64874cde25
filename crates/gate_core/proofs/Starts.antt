-- The plane invariant holds at the start.
use Rattle.std.proofs.Common.{◌≡◌, ℕ, suc, zero, ◌+◌, ◌-◌, ◌*◌, ◌/◌, ◌%◌, ◌^◌, ◌<◌, ◌≤◌, ◌↔◌, true, List, [], ◌∷◌, length, get_or, sym, refl, ap, ◌∙◌, subst, inr, ⊎_elim, arith}
use Rattle.std.proofs.Math.Pow.{pow_pos}
use Rattle.std.proofs.lemmas.Nat.Bits.{bit_at-zero}
use mathlib.Core.Option.{some, some-ne-none, some-injective}
use lib.ListN.{get_elem?}
use Rattle.spie_base.specs.declared.PageShape.{PageShape}
use Rattle.gate_core.specs.declared.states.SlotPhase.TheVariants.{Open}
use Rattle.gate_core.specs.Marks.{width, size}
use Rattle.gate_core.specs.Views.{Duties, View, slot_at, collected_of, first_keeper}
use Rattle.gate_core.specs.Acts.{gate_place, bit_place}
use Rattle.gate_core.specs.Invariant.{total, in_slot, HasPage, IsLive, taken, page_bit, live_bit, HasSet, Marked, Recorded, IsCollected, SlotsFit, ActorFits, ProbeFits, PlaneFits, PlaneInvariant, IsFresh}
use Rattle.hash_family.specs.Entries.{IsMarked}
use Rattle.gate_core.proofs.Bits.{page_bit_live}

four_cases : (P : ℕ → Type 0) → P 0 → P 1 → P 2 → P 3 → (s : ℕ) → s < 4 → P s
four_cases P a b c e zero h = a
four_cases P a b c e (suc zero) h = b
four_cases P a b c e (suc (suc zero)) h = c
four_cases P a b c e (suc (suc (suc zero))) h = e
four_cases P a b c e (suc (suc (suc (suc n)))) h = absurd (omega arith)

only : (j : ℕ) (u : View) → get_elem? (first_keeper ∷ []) j ≡ some u → (j ≡ 0) × (first_keeper ≡ u)
only zero u at = (refl, some-injective first_keeper u at)
only (suc j) u at = absurd (some-ne-none u (sym at))

no_mark : (shape : PageShape) (u : View) (page p : ℕ) → first_keeper ≡ u → IsMarked shape u.entries page p → ⊥
no_mark shape u page p e h = let (i, x, at, of, among) = subst (λ (y : View). IsMarked shape y.entries page p) (sym e) h in some-ne-none x (sym at)

module _ (shape : PageShape) where
  abbrev d : Duties
  d = first_keeper.duties

  positive : 0 < width shape
  positive = pow_pos (shape.n - 6)

  pub slots : SlotsFit shape d
  slots = record {
    four = refl;
    pointed_slot = omega arith;
    pointed_used = refl;
    open_last = four_cases (λ s. (slot_at d s).phase ≡ Open → (slot_at d s).page + 1 ≡ d.next) (λ _. refl) (λ e. cc) (λ e. cc) (λ e. cc);
    stands_used = four_cases (λ s. HasPage (slot_at d s).phase → (slot_at d s).used ≡ true) (λ _. refl) (λ h. absurd h) (λ h. absurd h) (λ h. absurd h);
    used_below = four_cases (λ s. (slot_at d s).used ≡ true → (slot_at d s).page < d.next) (λ _. omega arith) (λ e. cc) (λ e. cc) (λ e. cc);
    used_apart = λ s t a b h k e. four_cases (λ x. (slot_at d x).used ≡ true → x ≡ 0) (λ _. refl) (λ z. cc) (λ z. cc) (λ z. cc) s a h ∙ sym (four_cases (λ x. (slot_at d x).used ≡ true → x ≡ 0) (λ _. refl) (λ z. cc) (λ z. cc) (λ z. cc) t b k);
    page_within = four_cases (λ s. (slot_at d s).page ≤ d.next) (omega arith) (omega arith) (omega arith) (omega arith);
    placed = λ page below. inr (0, omega arith, tt, omega arith);
    one_list = refl;
    taken_words = four_cases (λ s. HasPage (slot_at d s).phase → length (collected_of d (slot_at d s).page) ≡ taken (slot_at d s).phase) (λ _. refl) (λ h. absurd h) (λ h. absurd h) (λ h. absurd h);
    taken_short = four_cases (λ s. taken (slot_at d s).phase < width shape) positive positive positive positive;
    fits = omega arith;
  }

  actor : ActorFits shape d first_keeper
  actor = record {
    state = tt;
    entries = λ i e at. absurd (some-ne-none e (sym at));
    ordered = λ e. cc;
    last = λ e. cc;
    visits = λ i x at. absurd (some-ne-none x (sym at));
    floor = omega arith;
    number = λ e. cc;
    base = λ _. refl;
    gone = λ e. cc;
  }

  pub starts : (words : List ℕ) → IsFresh shape words → PlaneInvariant shape words (first_keeper ∷ [])
  starts words k = record {
    place = 0;
    head = first_keeper;
    there = refl;
    keeps = refl;
    fits = record {
      in_range = k.in_range;
      long = k.long;
      current_slot = k.current_slot;
      gates = four_cases (λ s. get_or words (gate_place s) 0 ≡ total (in_slot s) (first_keeper ∷ []) + Rattle.gate_core.specs.Invariant.seal_bit (slot_at d s).phase * 65536 + (slot_at d s).page * 4294967296)
          k.first (k.others 1 (omega arith) (omega arith)) (k.others 2 (omega arith) (omega arith)) (k.others 3 (omega arith) (omega arith));
      slots = slots;
      actors = λ j u at. subst (ActorFits shape d) (only j u at).1 actor;
      slot_words = four_cases (λ s. HasPage (slot_at d s).phase → (p : ℕ) → p < size shape → (page_bit shape words d s p ≡ 1) ↔ Marked shape (first_keeper ∷ []) (slot_at d s).page s p)
          (λ _ p small. (
            (λ b. let e : page_bit shape words d 0 p ≡ 0 = page_bit_live shape words d 0 p slots (omega arith) tt ∙ (ap (λ (x : ℕ). x / 2 ^ (p % 64) % 2) (k.rest (bit_place shape 0 (p / 64)) (omega arith)) ∙ bit_at-zero (p % 64)) in absurd (omega arith)),
            λ (j, u, at, x). absurd (⊎_elim (no_mark shape u 0 p (only j u at).1) (λ h. subst (λ (y : View). HasSet shape y.state 0 p) (sym (only j u at).1) h) x),
          ))
          (λ h. absurd h) (λ h. absurd h) (λ h. absurd h);
      collected_words = λ page below whole p small. let z : page ≡ 0 = omega arith in let none : 0 ≡ width shape = ap (λ (x : ℕ). length (collected_of d x)) (sym z) ∙ whole in let a = positive in absurd (omega arith);
      drained_words = four_cases (λ s. (i : ℕ) → i < taken (slot_at d s).phase → get_or words (bit_place shape s i) 0 ≡ 0) (λ i lt. absurd (omega arith)) (λ i lt. absurd (omega arith)) (λ i lt. absurd (omega arith)) (λ i lt. absurd (omega arith));
      free_words = λ s near free i lt. k.rest (bit_place shape s i) (omega arith);
      probes = λ i x at. absurd (some-ne-none x (sym at));
      noted = omega arith;
      out = refl;
      few = omega arith;
      one_number = λ i j a b x y p q e. (only i a x).0 ∙ sym (only j b y).0;
      one_keeper = refl;
    };
  }
