-- How many bits of a page are set: one more record sets at most as many as it has marks.
use Rattle.std.proofs.Common.{ℕ, zero, suc, ◌≡◌, ◌≤◌, ◌<◌, ◌+◌, ◌^◌, ◌∙◌, ◌∷◌, [], ◌==◌, ◌||◌, Bool, true, false, cond, List, length, filter, ap, inl, inr, refl, arith, lit<}
use Rattle.std.specs.List.{range_with_len}
use Rattle.std.proofs.Math.Nat.{pow-le-pow_right}
use Rattle.std.proofs.lemmas.Bool.{cases_eq, eq-eqb, ne_eqb}
use Rattle.std.proofs.lemmas.List.FromFn.{length-range_with_len}
use Rattle.spie_base.specs.Shapes.{shape_of}
use Rattle.spie_base.specs.declared.types.TheConstants.{N_MOST}
use Rattle.spie_base.specs.declared.Rules.{Rules}
use Rattle.spie_base.specs.declared.Sig.{Sig}
use Rattle.hash_family.specs.Entries.{is_marked}
use Rattle.hash_family.proofs.PositionFacts.{length-marks_of}
use Rattle.bloom_page.specs.Sets.{is_in, set_of, united}
use Rattle.bloom_page.proofs.WordFacts.{united-set_of}
use Rattle.router_account.specs.Account.{Account, fill, marks, page_set, with_entry}
use Rattle.router_account.proofs.PageSets.{page_set_more}

either_step : (a b : Bool) (x : ℕ) (both one other : List ℕ) → length both ≤ length one + length other
    → length (cond (a || b) (x ∷ both) both) ≤ length (cond a (x ∷ one) one) + length (cond b (x ∷ other) other)
either_step true true x both one other le = omega arith
either_step true false x both one other le = omega arith
either_step false true x both one other le = omega arith
either_step false false x both one other le = le

either_few : (f g : ℕ → Bool) (xs : List ℕ) → length (filter (λ x. f x || g x) xs) ≤ length (filter f xs) + length (filter g xs)
either_few f g [] = omega arith
either_few f g (x ∷ xs) = either_step (f x) (g x) x (filter (λ y. f y || g y) xs) (filter f xs) (filter g xs) (either_few f g xs)

none_before : (first n m : ℕ) → m < first → length (filter (λ p. p == m) (range_with_len first n)) ≡ 0
none_before first zero m lt = refl
none_before first (suc n) m lt =
    ap (λ b. length (cond b (first ∷ filter (λ p. p == m) (range_with_len (first + 1) n)) (filter (λ p. p == m) (range_with_len (first + 1) n)))) (ne_eqb first m (λ e. omega arith))
    ∙ none_before (first + 1) n m (omega arith)

one_at_most : (first n m : ℕ) → length (filter (λ p. p == m) (range_with_len first n)) ≤ 1
one_at_most first zero m = omega arith
one_at_most first (suc n) m =
    let rest : List ℕ = filter (λ p. p == m) (range_with_len (first + 1) n) in
    elim (cases_eq first m) [
      | inl same ↦
          let here : length (cond (first == m) (first ∷ rest) rest) ≡ suc (length rest) = ap (λ b. length (cond b (first ∷ rest) rest)) (eq-eqb first m same) in
          let none : length rest ≡ 0 = none_before (first + 1) n m (omega arith) in
          omega arith
      | inr other ↦
          let past : length (cond (first == m) (first ∷ rest) rest) ≡ length rest = ap (λ b. length (cond b (first ∷ rest) rest)) (ne_eqb first m other) in
          let one : length rest ≤ 1 = one_at_most (first + 1) n m in
          omega arith
    ]

filter_none : (xs : List ℕ) → length (filter (λ x. false) xs) ≡ 0
filter_none [] = refl
filter_none (x ∷ xs) = filter_none xs

marks_few : (ms : List ℕ) (n : ℕ) → length (filter (is_in ms) (range_with_len 0 n)) ≤ length ms
marks_few [] n = let e : length (filter (λ x. false) (range_with_len 0 n)) ≡ 0 = filter_none (range_with_len 0 n) in omega arith
marks_few (m ∷ ms) n =
    let both : length (filter (λ p. (p == m) || is_in ms p) (range_with_len 0 n)) ≤ length (filter (λ p. p == m) (range_with_len 0 n)) + length (filter (is_in ms) (range_with_len 0 n)) =
    either_few (λ p. p == m) (is_in ms) (range_with_len 0 n) in
    let one : length (filter (λ p. p == m) (range_with_len 0 n)) ≤ 1 = one_at_most 0 n m in
    let more : length (filter (is_in ms) (range_with_len 0 n)) ≤ length ms = marks_few ms n in
    omega arith

short_step : (b : Bool) (x : ℕ) (ys xs : List ℕ) → length ys ≤ length xs → length (cond b (x ∷ ys) ys) ≤ suc (length xs)
short_step true x ys xs le = omega arith
short_step false x ys xs le = omega arith

filter_short : (p : ℕ → Bool) (xs : List ℕ) → length (filter p xs) ≤ length xs
filter_short p [] = omega arith
filter_short p (x ∷ xs) = short_step (p x) x (filter p xs) xs (filter_short p xs)

-- a page has no more bits than positions
pub fill_most : (rules : Rules) (a : Account) (page : ℕ) → rules.n ≤ N_MOST → fill rules a page ≤ 2 ^ N_MOST
unfolding set_of
fill_most rules a page few =
    let short : fill rules a page ≤ length (range_with_len 0 (2 ^ rules.n)) = filter_short (is_marked (shape_of rules a.router) a.entries page) (range_with_len 0 (2 ^ rules.n)) in
    let all : length (range_with_len 0 (2 ^ rules.n)) ≡ 2 ^ rules.n = length-range_with_len 0 (2 ^ rules.n) in
    let grows : 2 ^ rules.n ≤ 2 ^ N_MOST = pow-le-pow_right (lit< tt) few in
    omega arith

united_few : (n : ℕ) (test : ℕ → Bool) (ms : List ℕ) → length (united (set_of n test) ms).members ≤ length (set_of n test).members + length ms
unfolding set_of
united_few n test ms =
    let same : length (united (set_of n test) ms).members ≡ length (filter (λ p. test p || is_in ms p) (range_with_len 0 (2 ^ n))) = ap (λ s. length s.members) (united-set_of n test ms) in
    let both : length (filter (λ p. test p || is_in ms p) (range_with_len 0 (2 ^ n))) ≤ length (filter test (range_with_len 0 (2 ^ n))) + length (filter (is_in ms) (range_with_len 0 (2 ^ n))) =
    either_few test (is_in ms) (range_with_len 0 (2 ^ n)) in
    let few : length (filter (is_in ms) (range_with_len 0 (2 ^ n))) ≤ length ms = marks_few ms (2 ^ n) in
    omega arith

-- one more record sets k bits at most
pub fill_more : (rules : Rules) (a : Account) (page : ℕ) (sig : Sig) → fill rules (with_entry a page sig) page ≤ fill rules a page + rules.k
fill_more rules a page sig =
    let same : fill rules (with_entry a page sig) page ≡ length (united (page_set rules a page) (marks rules a.router page sig)).members = ap (λ s. length s.members) (page_set_more rules a.router page a.entries sig) in
    let few : length (united (page_set rules a page) (marks rules a.router page sig)).members ≤ fill rules a page + length (marks rules a.router page sig) =
    united_few rules.n (is_marked (shape_of rules a.router) a.entries page) (marks rules a.router page sig) in
    let k : length (marks rules a.router page sig) ≡ rules.k = length-marks_of (shape_of rules a.router) page sig in
    omega arith
