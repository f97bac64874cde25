-- What the words of a page are to its set.
use Rattle.std.proofs.Common.{ℕ, ◌-◌, ◌*◌, ◌^◌, ◌<◌, ◌≡◌, ◌↔◌, ◌⊎◌, List, length, get_or, All, sym, ap, ◌∙◌}
use Rattle.std.specs.List.{Contains}
use Rattle.std.proofs.lemmas.List.Elements.{All-from_get_or}
use Rattle.bloom_page.specs.Bits.{members_of, with_bits}
use Rattle.bloom_page.specs.Sets.{HasWords, united, words_of}
use Rattle.bloom_page.proofs.BitFacts.{length-with_bits, members_of-with_bits, Contains-with_bits, members_of-below}
use Rattle.bloom_page.proofs.WordFacts.{words_of-members_of, bits_of_words}

-- positions of a page are positions of its words
pub within_words : (n : ℕ) (words ps : List ℕ) → HasWords n words → All (λ p. p < 2 ^ n) ps → All (λ p. p < 64 * length words) ps
within_words n words ps has below = rw (bits_of_words n (length words) has.n_least has.count) below

pub below_size : (n : ℕ) (words : List ℕ) → HasWords n words → All (λ p. p < 2 ^ n) (members_of words)
below_size n words has = rw (sym (bits_of_words n (length words) has.n_least has.count)) (members_of-below words)

-- words that fit give the set that gives them back
pub words_back : (n : ℕ) (words : List ℕ) → ((i : ℕ) → get_or words i 0 < 2 ^ 64) → length words ≡ 2 ^ (n - 6) → words_of record { n = n; members = members_of words } ≡ words
words_back n words fits count = words_of-members_of n words count (All-from_get_or (λ w. w < 2 ^ 64) words 0 (λ i within. fits i))

-- after marks are set
pub marked_has : (n : ℕ) (words after marks : List ℕ) → after ≡ with_bits words marks → HasWords n words → HasWords n after
marked_has n words after marks is has = record {
  n_least = has.n_least;
  n_most = has.n_most;
  count = ap length is ∙ length-with_bits words marks ∙ has.count;
}

pub marked_united : (n : ℕ) (words after marks : List ℕ) → after ≡ with_bits words marks → HasWords n words → All (λ p. p < 2 ^ n) marks → record { n = n; members = members_of after } ≡ united record { n = n; members = members_of words } marks
marked_united n words after marks is has below =
    ap (λ ws. record { n = n; members = members_of ws }) is
    ∙ members_of-with_bits n words marks (bits_of_words n (length words) has.n_least has.count) (within_words n words marks has below)

pub marked_contains : (n : ℕ) (words after marks : List ℕ) → after ≡ with_bits words marks → HasWords n words → All (λ p. p < 2 ^ n) marks → (p : ℕ) → Contains (members_of after) p ↔ (Contains (members_of words) p ⊎ Contains marks p)
marked_contains n words after marks is has below p = rw is (Contains-with_bits words marks p (within_words n words marks has below))
