-- The Internet checksum, as arithmetic on numbers.
use Rattle.std.specs.Prelude.{ℕ, ◌+◌, ◌*◌, ◌-◌, ◌%◌, ◌==◌, List, [], ◌∷◌, ◌++◌, take, drop, if◌then◌else◌}

-- adjacent bytes are paired to 16-bit words, a last byte alone with a zero byte, and the words are
-- added up (RFC 1071, section 1)
abbrev pub word_sum : List ℕ → ℕ
word_sum [] = 0
word_sum (high ∷ []) = 256 * high
word_sum (high ∷ low ∷ rest) = 256 * high + low + word_sum rest

-- what a sum comes to in ones' complement arithmetic of 16 bits. Each carry out of the word comes back
-- at its low end, which takes off 65535, and only the sum of zeros is 0 (RFC 1071, section 2)
abbrev pub ones_complement : ℕ → ℕ
ones_complement total = if total == 0 then 0 else (total - 1) % 65535 + 1

-- the ones' complement sum of the words
abbrev pub ones_sum : List ℕ → ℕ
ones_sum bytes = ones_complement (word_sum bytes)

-- the header with zero in its checksum field
abbrev pub without_checksum : List ℕ → List ℕ
without_checksum header = take 10 header ++ (0 ∷ 0 ∷ []) ++ drop 12 header

-- the header's right checksum: the ones' complement of the ones' complement sum of its words, for which
-- the checksum field is zero (RFC 791, section 3.1)
unfoldable pub checksum_of : List ℕ → ℕ
checksum_of header = 65535 - ones_sum (without_checksum header)
