-- What holds of positions and marks.
use Rattle.std.proofs.Common.{ℕ, ◌+◌, ◌-◌, ◌<◌, ◌≤◌, ◌^◌, ◌%◌, ◌/◌, ◌≡◌, ◌↔◌, length, map, sum, get_or, All, inl, inr, arith, subst, refl, sym, ◌∙◌, lit<}
use Rattle.std.specs.List.{range_with_len, Contains}
use Rattle.std.proofs.Math.Nat.{pow-le-pow_right}
use Rattle.std.proofs.lemmas.Bool.{cases_lt}
use Rattle.std.proofs.lemmas.Nat.{mod_below, shr_below, shr_le}
use Rattle.std.proofs.lemmas.List.Elements.{All-map}
use Rattle.std.proofs.lemmas.List.FromFn.{length-map-range_with_len, get_or-map-range_with_len}
use Rattle.spie_base.specs.declared.PageShape.{PageShape}
use Rattle.spie_base.specs.declared.Sig.{Sig}
use Rattle.hash_family.specs.Positions.{Drawn, sig_word, position_by, positions_by, position, marks_of, page_seed_of, family_of}
use Rattle.hash_family.specs.Rows.{row_of, weighed}

-- the top n bits of 64
pub top_below : (sum n : ℕ) → n ≤ 64 → sum < 2 ^ 64 → sum / 2 ^ (64 - n) < 2 ^ n
top_below sum n few fits =
    let e : 64 ≡ n + (64 - n) = omega arith in
    let P : ℕ → Type 0 = λ w. sum < 2 ^ w in
    shr_below sum n (64 - n) (subst P e fits)

pub top_fits : (sum n : ℕ) → n ≤ 32 → sum < 2 ^ 64 → sum / 2 ^ (64 - n) < 2 ^ 32
top_fits sum n few fits =
    let below : sum / 2 ^ (64 - n) < 2 ^ n = top_below sum n (omega arith) fits in
    let grows : 2 ^ n ≤ 2 ^ 32 = pow-le-pow_right (lit< tt) few in
    omega arith

-- the top n bits of a sum modulo 2 ^ 64, and all of it where n is past 64
top_of_sum : (total n : ℕ) → total % 2 ^ 64 / 2 ^ (64 - n) < 2 ^ n
top_of_sum total n =
    let fits : total % 2 ^ 64 < 2 ^ 64 = mod_below total (2 ^ 64) (lit< tt) in
    elim (cases_lt 64 n) [
      | inl past ↦
          let shifted : total % 2 ^ 64 / 2 ^ (64 - n) ≤ total % 2 ^ 64 = shr_le (total % 2 ^ 64) (64 - n) in
          let grows : 2 ^ 64 ≤ 2 ^ n = pow-le-pow_right (lit< tt) (let e : 64 ≤ n = omega arith in e) in
          omega arith
      | inr few ↦ top_below (total % 2 ^ 64) n few fits
    ]

-- a position of n bits is below 2 ^ n
pub position_by-below : (seed n : ℕ) (sig : Sig) (i : ℕ) → position_by seed n sig i < 2 ^ n
unfolding position_by
position_by-below seed n sig i = top_of_sum _ n

-- so is each of a family's
pub positions_by-below : (family : Drawn) (sig : Sig) → All (λ p. p < 2 ^ family.n) (positions_by family sig)
positions_by-below family sig =
    All-map (λ p. p < 2 ^ family.n) (position_by family.seed family.n sig) (range_with_len 0 family.k)
    (λ k d within. position_by-below family.seed family.n sig _)

-- a position is the weighed sum of its row
pub position_from_row : (seed n : ℕ) (sig : Sig) (i : ℕ) → weighed (row_of seed i) (map (sig_word sig) (range_with_len 1 7)) / 2 ^ (64 - n) ≡ position_by seed n sig i
unfolding weighed position_by
position_from_row seed n sig i = refl

-- a position in a page is below 2 ^ n
pub position-below : (shape : PageShape) (page : ℕ) (sig : Sig) (i : ℕ) → position shape page sig i < 2 ^ shape.n
unfolding position
position-below shape page sig i = position_by-below (page_seed_of shape.base shape.router.number page) shape.n sig i

-- the marks are what the page's family gives
pub marks_of-family : (shape : PageShape) (page : ℕ) (sig : Sig) → marks_of shape page sig ≡ positions_by (family_of shape page) sig
unfolding marks_of position
marks_of-family shape page sig = refl

-- there are k of them, the positions in order
pub length-marks_of : (shape : PageShape) (page : ℕ) (sig : Sig) → length (marks_of shape page sig) ≡ shape.k
unfolding marks_of
length-marks_of shape page sig = length-map-range_with_len (position shape page sig) 0 shape.k

pub get_or-marks_of : (shape : PageShape) (page : ℕ) (sig : Sig) (i d : ℕ) → i < shape.k → get_or (marks_of shape page sig) i d ≡ position shape page sig i
unfolding marks_of
get_or-marks_of shape page sig i d within = get_or-map-range_with_len (position shape page sig) 0 shape.k i i d within (omega arith)

pub marks_of-below : (shape : PageShape) (page : ℕ) (sig : Sig) → All (λ p. p < 2 ^ shape.n) (marks_of shape page sig)
unfolding marks_of
marks_of-below shape page sig =
    All-map (λ p. p < 2 ^ shape.n) (position shape page sig) (range_with_len 0 shape.k)
    (λ k d within. position-below shape page sig _)

-- p is a mark where it is one of the k positions
pub Contains-marks_of : (shape : PageShape) (page : ℕ) (sig : Sig) (p : ℕ) → Contains (marks_of shape page sig) p ↔ ((i : ℕ) × (i < shape.k) × (position shape page sig i ≡ p))
Contains-marks_of shape page sig p =
    let few = length-marks_of shape page sig in (
      λ (i, within, is). (i, omega arith, sym (get_or-marks_of shape page sig i p (omega arith)) ∙ is),
      λ (i, within, is). (i, omega arith, get_or-marks_of shape page sig i p within ∙ is),
    )
