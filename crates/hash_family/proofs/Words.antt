-- The words of the generator, one after another.
use Rattle.std.proofs.Common.{ℕ, zero, suc, ◌+◌, ◌≡◌, refl, ap, sym, ◌∙◌, arith, add-one, add-zero}
use Rattle.rand_xoshiro.specs.SplitMix64.{mix_u64}
use Rattle.hash_family.specs.SplitMix.{grown, mixed, word, state_after}

-- the library's step is that of the published algorithm: the word, and the next state
pub published_step : (state : ℕ) → mix_u64 state ≡ (mixed (grown state), grown state)
unfolding mixed
published_step state = refl

pub word-of_state : (seed number : ℕ) → word seed number ≡ mixed (grown (state_after seed number))
unfolding word
word-of_state seed number = refl

pub state_after-more : (seed count : ℕ) → state_after seed (count + 1) ≡ grown (state_after seed count)
state_after-more seed count = rw add-one refl

-- a generator that starts where another has come to
pub state_after-add : (seed i j : ℕ) → state_after (state_after seed i) j ≡ state_after seed (i + j)
state_after-add seed i zero = rw add-zero refl
state_after-add seed i (suc j) =
    ap grown (state_after-add seed i j) ∙ sym (state_after-more seed (i + j))
    ∙ ap (state_after seed) (let e : (i + j) + 1 ≡ i + suc j = omega arith in e)

pub word-add : (seed i j : ℕ) → word (state_after seed i) j ≡ word seed (i + j)
unfolding word
word-add seed i j = ap (λ s. mixed (grown s)) (state_after-add seed i j)
