-- Words that are read one by one.
use Rattle.std.proofs.Common.{ℕ, suc, ◌≡◌, ◌-◌, ◌+◌, ◌<◌, List, [], ◌∷◌, ◌++◌, take, drop, refl, ap, arith, sym, ◌∙◌, Result, Ok, Err}
use Rattle.std.proofs.lemmas.List.{append-nil, append_assoc}
use Rattle.line_text.specs.Answers.{◌>>=◌}
use Rattle.evidence_text.specs.Reading.{some_words, word64_in}
use Rattle.evidence_text.specs.declared.refused.CheckWhy.{CheckWhy}

-- the words so far, and so many more
abbrev pub left : (words : List ℕ) → (count : ℕ) → (rest : List ℕ) → Result (List ℕ) CheckWhy
left words count rest = some_words count rest >>= (λ more. Ok (words ++ more))

again : (r : Result (List ℕ) CheckWhy) → (r >>= (λ more. Ok more)) ≡ r
again (Ok more) = refl
again (Err e) = refl

pub left_all : (count : ℕ) (rest : List ℕ) → left [] count rest ≡ some_words count rest
left_all count rest = again (some_words count rest)

pub left_none : (words rest : List ℕ) → left words 0 rest ≡ Ok words
unfolding some_words
left_none words rest = ap (λ v. Ok v) (append-nil words)

then_more : (words : List ℕ) (w : ℕ) (r : Result (List ℕ) CheckWhy) → ((r >>= (λ more. Ok (w ∷ more))) >>= (λ more. Ok (words ++ more))) ≡ (r >>= (λ more. Ok ((words ++ w ∷ []) ++ more)))
then_more words w (Ok more) = ap (λ v. Ok v) (sym (append_assoc words (w ∷ []) more))
then_more words w (Err e) = refl

one_word : (words rest : List ℕ) (w count : ℕ) → word64_in (take 16 rest) ≡ Ok w → left words (suc count) rest ≡ left (words ++ w ∷ []) count (drop 16 rest)
unfolding some_words
one_word words rest w count e = rw e (then_more words w (some_words count (drop 16 rest)))

bad_word : (words rest : List ℕ) (y : CheckWhy) (count : ℕ) → word64_in (take 16 rest) ≡ Err y → left words (suc count) rest ≡ Err y
unfolding some_words
bad_word words rest y count e = rw e refl

fewer : (count i : ℕ) → i < count → count - i ≡ suc (count - (i + 1))
fewer count i lt = omega (arith, lt)

pub left_more : (words rest : List ℕ) (w count i : ℕ) → i < count → word64_in (take 16 rest) ≡ Ok w → left (words ++ w ∷ []) (count - (i + 1)) (drop 16 rest) ≡ left words (count - i) rest
left_more words rest w count i lt e = sym (ap (λ k. left words k rest) (fewer count i lt) ∙ one_word words rest w (count - (i + 1)) e)

pub left_bad : (words rest : List ℕ) (y : CheckWhy) (count i : ℕ) → i < count → word64_in (take 16 rest) ≡ Err y → left words (count - i) rest ≡ Err y
left_bad words rest y count i lt e = ap (λ k. left words k rest) (fewer count i lt) ∙ bad_word words rest y (count - (i + 1)) e
