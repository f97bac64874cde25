-- The definitions give the values that are published elsewhere.
use Rattle.std.proofs.Common.{◌≡◌, ◌∷◌, [], replicate, refl}
use Rattle.hash_family.specs.SplitMix.{mixed, word}
use Rattle.hash_family.specs.Positions.{position_by, page_seed_of}

-- the first three words of the authors' C code from the state 1234567
published_words : (word 1234567 0 ∷ word 1234567 1 ∷ word 1234567 2 ∷ []) ≡ 6457827717110365317 ∷ 3203168211198807973 ∷ 9817491932198370423 ∷ []
unfolding word mixed
published_words = refl

-- the seed of the first page of the first router, where the base is 0
first_seed : page_seed_of 0 0 0 ≡ 0xE220A8397B1DCDAF
unfolding page_seed_of word mixed
first_seed = refl

-- the first position of a signature of zeros, for the seed 0
first_position : position_by 0 16 record { bytes = replicate 28 0 } 0 ≡ 57888
unfolding position_by word mixed
first_position = refl
