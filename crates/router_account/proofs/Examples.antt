-- A worked case of what counts as read back, computed: numbers that are no bytes are refused, though they have the digest.
use Rattle.std.proofs.Common.{ℕ, zero, suc, ◌≡◌, ◌<◌, ◌+◌, ◌*◌, ◌++◌, List, [], ◌∷◌, take, drop, refl, ap, arith}
use Rattle.std.proofs.lemmas.List.Elements.{All-head}
use Rattle.sha2.specs.Sha256.{sha256, first_words, schedule, next_word, compress, add_state, rounds, hash_after, digest_bytes, initial_hash_256, padded_message}
use Rattle.spie_base.specs.declared.Rules.{Rules}
use Rattle.spie_base.specs.declared.Sig.{Sig}
use Rattle.packet_signature.specs.declared.Kind.TheVariants.{Nat}
use Rattle.packet_signature.specs.declared.Row.{Row}
use Rattle.packet_signature.specs.declared.RowData.TheVariants.{Indirect}
use Rattle.page_shelf.specs.declared.ShelfPart.TheVariants.{Rows}
use Rattle.archive_record.specs.Spelling.{spelled_rows, IsPlainRow}
use Rattle.router_account.specs.Account.{Account, rows_in}
use Rattle.router_account.specs.Records.{HasDigests, rows_text, true_text}
use Rattle.router_account.specs.Sights.{GotPage}

-- a signature whose bytes 3 and 4 are these
abbrev sig_with : (b c : ℕ) → Sig
sig_with b c = record { bytes = 69 ∷ 0 ∷ 0 ∷ b ∷ c ∷ 1 ∷ 0 ∷ 0 ∷ 0 ∷ 17 ∷ 0 ∷ 0 ∷ 10 ∷ 0 ∷ 0 ∷ 1 ∷ 10 ∷ 0 ∷ 0 ∷ 2 ∷ 1 ∷ 2 ∷ 3 ∷ 4 ∷ 5 ∷ 6 ∷ 7 ∷ 8 ∷ [] }

abbrev row_with : (b c : ℕ) → Row
row_with b c = record { key = 7; kind = Nat; old = Indirect (sig_with b c) }

abbrev some_rules : Rules
some_rules = record { k = 1; n = 6; limit = 64; span = 9; keep = 9; age = 9; width = 9; base = 0 }

-- page 0 has closed, and has one row, whose old signature has the bytes 28 and 0 there
abbrev some_account : Account
some_account = record { router = 1; entries = []; rows = record { page = 0; row = row_with 28 0 } ∷ []; closings = 0 ∷ [] }

-- what was read has 27 and 256 there
abbrev other_page : GotPage
other_page = record { page = 0; held = record { bits = []; rows = row_with 27 256 ∷ [] } }

abbrev read_text : List ℕ
read_text = rows_text some_account 0 (row_with 27 256 ∷ [])

abbrev put_text : List ℕ
put_text = rows_text some_account 0 (row_with 28 0 ∷ [])

-- SHA-256 goes by words of four bytes, and 28 * 256 + 0 is 27 * 256 + 256
schedule_same : (b d : List ℕ) (n : ℕ) → first_words b 16 ≡ first_words d 16 → schedule b n ≡ schedule d n
unfolding schedule
schedule_same b d zero e = e
schedule_same b d (suc n) e = ap (λ s. s ++ next_word s (n + 16) ∷ []) (schedule_same b d n e)

block_same : (h b d : List ℕ) → first_words b 16 ≡ first_words d 16 → compress h b ≡ compress h d
unfolding compress
block_same h b d e = ap (λ s. add_state h (rounds h s 64)) (schedule_same b d 48 e)

hash_same : (h p q : List ℕ) → first_words (take 64 (drop (0 * 64) p)) 16 ≡ first_words (take 64 (drop (0 * 64) q)) 16 → hash_after h p 1 ≡ hash_after h q 1
unfolding hash_after
hash_same h p q e = block_same h (take 64 (drop (0 * 64) p)) (take 64 (drop (0 * 64) q)) e

words_same : first_words (take 64 (drop (0 * 64) (padded_message read_text))) 16 ≡ first_words (take 64 (drop (0 * 64) (padded_message put_text))) 16
unfolding first_words spelled_rows
words_same = refl

same_text : sha256 read_text ≡ sha256 put_text
unfolding sha256 spelled_rows
same_text = ap (λ h. digest_bytes h 8) (hash_same initial_hash_256 (padded_message read_text) (padded_message put_text) words_same)

-- the digest of what was read is that of the true rows
same_digest : sha256 read_text ≡ sha256 (true_text some_rules some_account 0 Rows)
unfolding rows_in
same_digest = same_text

-- and yet it does not count as read back
no_bytes : HasDigests some_rules some_account other_page → ⊥
no_bytes h = let row = All-head IsPlainRow (row_with 27 256) [] h.rows_plain.rows in let byte : 256 < 256 = row.old.1 4 in absurd (omega arith)
