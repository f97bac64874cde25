-- Routers and signatures are read back from their fields.
use Rattle.std.proofs.Common.{◌≡◌, ◌≢◌, ℕ, zero, suc, ◌/◌, ◌%◌, List, [], ◌∷◌, slice_index, true, not, ◌==◌, ◌&&◌, refl, arith}
use Rattle.std.proofs.lemmas.Bool.{and_parts}
use Rattle.std.proofs.lemmas.Option.{slice_get-get_or}
use Rattle.std.proofs.lemmas.List.Elements.{All-head, All-tail}
use Rattle.std.specs.List.{All}
use Rattle.std.specs.Result.{result_unwrap_or}
use Rattle.hex.specs.Hex.{IsBytes, decode_of, encode_lower, encode_with, lower_digits}
use Rattle.hex.proofs.HexLemmas.{decode_of-encode_lower}
use Rattle.spie_base.specs.declared.RouterId.{RouterId}
use Rattle.spie_base.specs.declared.Sig.{Sig}
use Rattle.topology.specs.Layout.{IsEachOnce, place_of}
use Rattle.reverse_flood.specs.declared.Node.{Node}
use Rattle.spie_base.proofs.Booleans.{both_hold}
use Rattle.report_text.specs.Laws.{HasNoSpaces, IsPair}
use Rattle.report_text.specs.Report.{IsNamed, name_of, sig_text}
use Rattle.report_text.proofs.Pieces.{other_byte, lacks}

abbrev pub router_of : List (List ℕ) → List ℕ → RouterId
router_of names text = record { number = place_of names text }

pub router_back : (names : List (List ℕ)) (router : RouterId) → IsEachOnce names → IsNamed names router → router_of names (name_of names router) ≡ router
router_back names router once named =
    let e = once router.number (name_of names router) (slice_get-get_or names router.number [] named) in
    λ i. record { number = e i }

abbrev pub sig_of : List ℕ → Sig
sig_of text = record { bytes = result_unwrap_or (decode_of text) [] }

sig_back : (sig : Sig) → IsBytes sig.bytes → sig_of (sig_text sig) ≡ sig
sig_back sig bytes = λ i. record { bytes = result_unwrap_or (decode_of-encode_lower sig.bytes bytes i) [] }

abbrev pub node_of : List (List ℕ) → List ℕ → List ℕ → Node
node_of names name sig = record { router = router_of names name; sig = sig_of sig }

pub node_back : (names : List (List ℕ)) (node : Node) → IsEachOnce names → IsNamed names node.router → IsPair node → node_of names (name_of names node.router) (sig_text node.sig) ≡ node
node_back names node once named bytes = λ i. record { router = router_back names node.router once named i; sig = sig_back node.sig bytes i }

at_lacks : (c : ℕ) (t : List ℕ) (d : ℕ) → (0 ≡ c → ⊥) → lacks c t ≡ true → not (slice_index t d == c) ≡ true
at_lacks c [] d zeros e = other_byte c 0 zeros
at_lacks c (b ∷ t) zero zeros e = (and_parts (not (b == c)) (lacks c t) e).0
at_lacks c (b ∷ t) (suc d) zeros e = at_lacks c t d zeros (and_parts (not (b == c)) (lacks c t) e).1

hex_space : (d : ℕ) → not (slice_index lower_digits d == 32) ≡ true
hex_space d = at_lacks 32 lower_digits d (λ e. omega (arith, e)) refl

pub lacks-hex : (bytes : List ℕ) → lacks 32 (encode_lower bytes) ≡ true
unfolding encode_with
lacks-hex [] = refl
lacks-hex (b ∷ rest) =
    both_hold (not (slice_index lower_digits (b / 16) == 32)) (not (slice_index lower_digits (b % 16) == 32) && lacks 32 (encode_lower rest)) (hex_space (b / 16))
    (both_hold (not (slice_index lower_digits (b % 16) == 32)) (lacks 32 (encode_lower rest)) (hex_space (b % 16)) (lacks-hex rest))

lacks-word : (word : List ℕ) → All (λ byte. byte ≢ 32) word → lacks 32 word ≡ true
lacks-word [] all = refl
lacks-word (b ∷ bs) all =
    both_hold (not (b == 32)) (lacks 32 bs) (other_byte 32 b (All-head (λ byte. byte ≢ 32) b bs all)) (lacks-word bs (All-tail (λ byte. byte ≢ 32) b bs all))

pub lacks-name : (names : List (List ℕ)) (router : RouterId) → HasNoSpaces names → IsNamed names router → lacks 32 (name_of names router) ≡ true
lacks-name names router none named = lacks-word (name_of names router) (none router.number [] named)
