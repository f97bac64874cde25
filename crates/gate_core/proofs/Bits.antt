-- One bit more in the words of a slot.
use Rattle.std.proofs.Common.{◌≡◌, ℕ, suc, ◌+◌, ◌*◌, ◌/◌, ◌%◌, ◌^◌, ◌<◌, ◌≤◌, ◌≢◌, ◌⊎◌, ◌↔◌, max, Bool, cond, bit_or, List, length, get_or, set, sym, refl, ap, ◌∙◌, subst, inl, inr, ⊎_elim, arith, mul-le-mul_right, suc-mul, le-ltb, lt_of_not-le, get_or-set_same, get_or-set_other}
use Rattle.std.proofs.lemmas.Nat.Bits.{bit_at_or, bit_at-pow_same, bit_at-pow_other, bit_at-lt}
use mathlib.Core.Logic.{dite}
use native.Mathlib.Decide.{ℕ_discrete, dec_le}
use Rattle.spie_base.specs.declared.Sig.{Sig}
use Rattle.spie_base.specs.declared.PageShape.{PageShape}
use Rattle.gate_core.specs.declared.states.SlotPhase.{SlotPhase}
use Rattle.gate_core.specs.declared.states.SlotPhase.TheVariants.{Free, Open, Sealed, Quiet}
use Rattle.bloom_page.specs.Bits.{bit_in}
use Rattle.hash_family.specs.Positions.{position}
use Rattle.hash_family.proofs.PositionFacts.{position-below}
use Rattle.bloom_page.proofs.WordFacts.{bits_of_words}
use Rattle.gate_core.specs.Marks.{width, size}
use Rattle.spie_base.specs.Shapes.{IsShape}
use Rattle.gate_core.specs.Views.{Duties, slot_at, collected_of}
use Rattle.gate_core.specs.Acts.{bit_place}
use Rattle.gate_core.specs.Invariant.{HasPage, IsLive, taken, live_bit, page_bit, SlotsFit}
use Rattle.gate_core.proofs.Frame.{page_bit_same}

pub position_below : (shape : PageShape) (page : ℕ) (sig : Sig) (i : ℕ) → IsShape shape → position shape page sig i < size shape
position_below shape page sig i fit = let a = position-below shape page sig i in let b = bits_of_words shape.n (width shape) fit.n_least refl in omega arith

further : (x y n : ℕ) → x < y → x * n + n ≤ y * n
further x y n h = let a : suc x * n ≤ y * n = mul-le-mul_right n h in omega (arith, suc-mul x n)

-- a word belongs to one slot
pub one_slot : (n s t i j : ℕ) → i < n → j < n → 5 + s * n + i ≡ 5 + t * n + j → s ≡ t
one_slot n s t i j a b e = dite (dec_le s t) (λ le. dite (dec_le t s) (λ ge. omega arith) (λ no. let f = further s t n (lt_of_not-le no) in let x : ℕ = s * n in let y : ℕ = t * n in let f' : x + n ≤ y = f in let e' : 5 + x + i ≡ 5 + y + j = e in absurd (omega arith)))
    (λ no. let f = further t s n (lt_of_not-le no) in let x : ℕ = s * n in let y : ℕ = t * n in let f' : y + n ≤ x = f in let e' : 5 + x + i ≡ 5 + y + j = e in absurd (omega arith))

-- a live slot has a page
pub stands : (ph : SlotPhase) → IsLive ph → HasPage ph
stands Free live = live
stands Open live = tt
stands Sealed live = tt
stands (Quiet next) live = tt

none : (ph : SlotPhase) → IsLive ph → taken ph ≡ 0
none Free live = absurd live
none Open live = refl
none Sealed live = refl
none (Quiet next) live = absurd live

pub page_bit_none : (shape : PageShape) (words : List ℕ) (d : Duties) (s p : ℕ) → length (collected_of d (slot_at d s).page) ≡ 0 → page_bit shape words d s p ≡ live_bit shape words s p
page_bit_none shape words d s p e = ap (λ (b : Bool). cond b (bit_in (collected_of d (slot_at d s).page) p) (live_bit shape words s p)) (le-ltb (p / 64) (length (collected_of d (slot_at d s).page)) (let g : length (collected_of d (slot_at d s).page) ≤ p / 64 = omega arith in g))

pub page_bit_live : (shape : PageShape) (words : List ℕ) (d : Duties) (s p : ℕ) → SlotsFit shape d → s < 4 → IsLive (slot_at d s).phase → page_bit shape words d s p ≡ live_bit shape words s p
page_bit_live shape words d s p fit near live = let e = fit.taken_words s near (stands (slot_at d s).phase live) ∙ none (slot_at d s).phase live in
    ap (λ (b : Bool). cond b (bit_in (collected_of d (slot_at d s).page) p) (live_bit shape words s p)) (le-ltb (p / 64) (length (collected_of d (slot_at d s).page)) (let g : length (collected_of d (slot_at d s).page) ≤ p / 64 = omega arith in g))

two_bits : (x y : ℕ) → x < 2 → y < 2 → max x y ≡ 1 → y ≡ 0 → x ≡ 1
two_bits x y a b e f = omega arith

-- the word of the position q gets its bit: what is set then
module _ (shape : PageShape) (words : List ℕ) (d : Duties) (s q : ℕ) (fit : SlotsFit shape d) (near : s < 4) (live : IsLive (slot_at d s).phase) (long : length words ≡ 5 + 4 * width shape) (below : q < size shape) where
  abbrev at : ℕ
  at = bit_place shape s (q / 64)

  abbrev word : ℕ
  word = get_or words at 0

  abbrev fuller : List ℕ
  fuller = set words at (bit_or word (2 ^ (q % 64)))

  within : at < length words
  within = let w : ℕ = width shape in let a : q / 64 < w = omega arith in let b : s * w ≤ 3 * w = mul-le-mul_right w (let g : s ≤ 3 = omega arith in g) in let x : ℕ = s * w in let b' : x ≤ 3 * w = b in let l : length words ≡ 5 + 4 * w = long in omega arith

  pub other_word : (t i : ℕ) → i < width shape → (t ≢ s) ⊎ (i ≢ q / 64) → get_or fuller (bit_place shape t i) 0 ≡ get_or words (bit_place shape t i) 0
  other_word t i lt ne = get_or-set_other words at (bit_place shape t i) (bit_or word (2 ^ (q % 64))) 0
      (λ e. let w : ℕ = width shape in let same : t ≡ s = one_slot w t s i (q / 64) lt (let a : q / 64 < w = omega arith in a) e in ⊎_elim (λ x. x same) (λ x. x (let e' : 5 + s * w + i ≡ 5 + s * w + q / 64 = subst (λ (z : ℕ). 5 + z * w + i ≡ 5 + s * w + q / 64) same e in omega arith)) ne)

  here_word : (p : ℕ) → p / 64 ≡ q / 64 → live_bit shape fuller s p ≡ max (word / 2 ^ (p % 64) % 2) (2 ^ (q % 64) / 2 ^ (p % 64) % 2)
  here_word p e = ap (λ (i : ℕ). get_or fuller (bit_place shape s i) 0 / 2 ^ (p % 64) % 2) e ∙ (ap (λ (x : ℕ). x / 2 ^ (p % 64) % 2) (get_or-set_same words at (bit_or word (2 ^ (q % 64))) 0 within) ∙ bit_at_or word (2 ^ (q % 64)) (p % 64))

  abbrev Told : ℕ → ℕ → Type 0
  Told t p = (page_bit shape fuller d t p ≡ 1) ↔ ((page_bit shape words d t p ≡ 1) ⊎ ((t ≡ s) × (p ≡ q)))

  elsewhere : (t p : ℕ) → p < size shape → (t ≢ s) ⊎ (p / 64 ≢ q / 64) → Told t p
  elsewhere t p small ne = let same = page_bit_same shape words fuller d t p (other_word t (p / 64) (let w : ℕ = width shape in let a : p / 64 < w = omega arith in a) ne) in (
    (λ b. inl (sym same ∙ b)),
    λ x. ⊎_elim (λ b. same ∙ b) (λ y. absurd (⊎_elim (λ n. n y.0) (λ n. n (ap (λ (z : ℕ). z / 64) y.1)) ne)) x,
  )

  here : (p : ℕ) → p / 64 ≡ q / 64 → Told s p
  here p e = let new = page_bit_live shape fuller d s p fit near live in let old = page_bit_live shape words d s p fit near live ∙ ap (λ (i : ℕ). get_or words (bit_place shape s i) 0 / 2 ^ (p % 64) % 2) e in let h = here_word p e in
      let x : ℕ = word / 2 ^ (p % 64) % 2 in let y : ℕ = 2 ^ (q % 64) / 2 ^ (p % 64) % 2 in let a : x < 2 = bit_at-lt word (p % 64) in let b : y < 2 = bit_at-lt (2 ^ (q % 64)) (p % 64) in
      let new' : page_bit shape fuller d s p ≡ max x y = new ∙ h in let old' : page_bit shape words d s p ≡ x = old in (
        (λ one. dite (ℕ_discrete (p % 64) (q % 64)) (λ same. inr (refl, (let g : p ≡ q = omega arith in g)))
            (λ ne. let z : y ≡ 0 = bit_at-pow_other (q % 64) (p % 64) ne in inl (old' ∙ two_bits x y a b (sym new' ∙ one) z))),
        λ c. ⊎_elim (λ o. let o' : x ≡ 1 = sym old' ∙ o in new' ∙ (let g : max x y ≡ 1 = omega arith in g))
            (λ r. let z : y ≡ 1 = ap (λ (k : ℕ). 2 ^ (q % 64) / 2 ^ (k % 64) % 2) r.1 ∙ bit_at-pow_same (q % 64) in new' ∙ (let g : max x y ≡ 1 = omega arith in g)) c,
      )

  pub one_bit_more : (t p : ℕ) → p < size shape → Told t p
  one_bit_more t p small = dite (ℕ_discrete t s) (λ e. dite (ℕ_discrete (p / 64) (q / 64)) (λ w. subst (λ (k : ℕ). Told k p) (sym e) (here p w)) (λ ne. elsewhere t p small (inr ne))) (λ ne. elsewhere t p small (inl ne))
