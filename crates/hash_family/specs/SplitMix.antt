-- SplitMix64 (Steele, Lea and Flood, "Fast splittable pseudorandom number generators", 2014). A state is one number.
use Rattle.std.specs.Prelude.{ℕ, zero, suc, ◌+◌, ◌*◌, ◌/◌, ◌%◌, ◌^◌, bit_xor}

-- the state grows by a constant at each word
abbrev pub grown : ℕ → ℕ
grown state = (state + 0x9E3779B97F4A7C15) % 2 ^ 64

-- the word of a state
unfoldable pub mixed : ℕ → ℕ
mixed state =
    let a = (bit_xor state (state / 2 ^ 30) * 0xBF58476D1CE4E5B9) % 2 ^ 64 in
    let b = (bit_xor a (a / 2 ^ 27) * 0x94D049BB133111EB) % 2 ^ 64 in
    bit_xor b (b / 2 ^ 31)

-- the state after so many words
abbrev pub state_after : (seed count : ℕ) → ℕ
state_after seed zero = seed
state_after seed (suc count) = grown (state_after seed count)

-- the word of this number, counted from 0, of the generator that starts at this state
unfoldable pub word : (seed number : ℕ) → ℕ
word seed number = mixed (grown (state_after seed number))
