-- The record at the front of some bytes.
use Rattle.std.proofs.Common.{ℕ, ◌≡◌, ◌+◌, ◌-◌, ◌*◌, ◌≤◌, ◌<◌, List, [], ◌∷◌, ◌++◌, length, take, drop, refl, ap, arith, sym, ◌∙◌, slice_index, length-append, Bool, true, false, cond, nat_lt, nat_le, ◌&&◌, Result, Ok, Err}
use Rattle.std.proofs.lemmas.Bool.Decides.{nat_tests}
use Rattle.std.proofs.lemmas.List.{get_or-take, get_or-drop, length-take, length-drop, take-append-drop, take_all}
use Rattle.pcap_intake.specs.Capture.{Captured, Begins, IsFirst, number_at, captured_length, second_of, microsecond_of, header_in}
use Rattle.pcap_intake.specs.Steps.{IsNext}
use Rattle.pcap_intake.specs.declared.kind.CaptureKind.{CaptureKind}
use Rattle.pcap_intake.specs.declared.kind.Endian.{Endian}
use Rattle.pcap_intake.specs.declared.kind.Endian.TheVariants as order
use Rattle.pcap_intake.specs.declared.refused.CaptureRefused.{CaptureRefused}

byte_front : (bytes : List ℕ) (p i : ℕ) → p + i < 16 → slice_index (drop p (take 16 bytes)) i ≡ slice_index (drop p bytes) i
byte_front bytes p i lt = get_or-drop p (take 16 bytes) i 0 ∙ get_or-take 16 bytes (p + i) 0 lt ∙ sym (get_or-drop p bytes i 0)

number_front : (o : Endian) (bytes : List ℕ) (p : ℕ) → p ≤ 12 → number_at o p 4 (take 16 bytes) ≡ number_at o p 4 bytes
number_front order.Big bytes p le = rw (byte_front bytes p 0 (omega arith), byte_front bytes p 1 (omega arith), byte_front bytes p 2 (omega arith), byte_front bytes p 3 (omega arith)) refl
number_front order.Little bytes p le = rw (byte_front bytes p 0 (omega arith), byte_front bytes p 1 (omega arith), byte_front bytes p 2 (omega arith), byte_front bytes p 3 (omega arith)) refl

pub holds_by : (n count : ℕ) → 16 ≤ n → count ≤ n - 16 → (nat_le 16 n && nat_le count (n - 16)) ≡ true
holds_by n count long fits = grind (arith, nat_tests)

held_by : (n count : ℕ) → (nat_le 16 n && nat_le count (n - 16)) ≡ true → (16 ≤ n) × (count ≤ n - 16)
held_by n count e = (grind (arith, nat_tests), grind (arith, nat_tests))

-- the parts of a record that is whole
pub first_by : (kind : CaptureKind) (bytes : List ℕ) (count second microsecond : ℕ) (behind : List ℕ) → 16 ≤ length bytes → behind ≡ take (length bytes - 16) (drop 16 bytes)
    → count ≤ length behind → count ≡ captured_length kind.order bytes → second ≡ second_of kind.order bytes → microsecond ≡ microsecond_of kind bytes
    → IsFirst kind bytes second microsecond (take count behind) (take (length behind - count) (drop count behind))
first_by kind bytes count second microsecond behind long is fits counted time part =
    let all : behind ≡ drop 16 bytes = is ∙ take_all (length bytes - 16) (drop 16 bytes) (omega (arith, length-drop 16 bytes)) in
    let size : length behind ≡ length bytes - 16 = ap length all ∙ length-drop 16 bytes in
    let after : take (length behind - count) (drop count behind) ≡ drop count behind = take_all (length behind - count) (drop count behind) (omega (arith, length-drop count behind)) in
    record {
      whole = holds_by (length bytes) (captured_length kind.order bytes) long (omega (arith, size, fits, counted));
      second_is = time;
      microsecond_is = part;
      frame_is = ap (λ n. take n behind) counted ∙ ap (take (captured_length kind.order bytes)) all;
      after_is = after ∙ ap (λ n. drop n behind) counted ∙ ap (drop (captured_length kind.order bytes)) all;
    }

-- and these are its header and its frame
pub next_of : (kind : CaptureKind) (bytes : List ℕ) (second microsecond : ℕ) (frame after : List ℕ) → IsFirst kind bytes second microsecond frame after → IsNext kind.order bytes second frame after
next_of kind bytes second microsecond frame after is =
    let fits = held_by (length bytes) (captured_length kind.order bytes) is.whole in
    let long = fits.0 in
    let room = fits.1 in
    let head : length (take 16 bytes) ≡ 16 = omega (arith, length-take 16 bytes, long) in
    let size : length frame ≡ captured_length kind.order bytes = ap length is.frame_is ∙ (omega (arith, length-take (captured_length kind.order bytes) (drop 16 bytes), length-drop 16 bytes, room)) in
    let parts : frame ++ after ≡ drop 16 bytes = (λ i. is.frame_is i ++ is.after_is i) ∙ take-append-drop (captured_length kind.order bytes) (drop 16 bytes) in
    record {
      head = take 16 bytes;
      is_record = record { head = head; frame = size ∙ sym (number_front kind.order bytes 8 (omega arith)) };
      split = sym (ap (λ b. take 16 bytes ++ b) parts ∙ take-append-drop 16 bytes);
      time = is.second_is ∙ sym (number_front kind.order bytes 0 (omega arith));
    }

-- each record has 16 bytes at least
pub few_records : (o : Endian) (bytes : List ℕ) (records : List Captured) (rest : List ℕ) → Begins o bytes records rest → 16 * length records + length rest ≤ length bytes
few_records o bytes [] rest b = let e = ap length b in omega (arith, e)
few_records o bytes (r ∷ before) rest b =
    let more = few_records o bytes before (r.head ++ (r.frame ++ rest)) b.1 in
    let long = length-append r.head (r.frame ++ rest) in
    let back = length-append r.frame rest in
    let head = b.0.head in
    omega (arith, more, long, back, head)

long_by : (b : Bool) (bytes : List ℕ) (first second : Result CaptureKind CaptureRefused) (kind : CaptureKind) (why : CaptureRefused) → nat_lt (length bytes) 24 ≡ b → first ≡ Err why → cond b first second ≡ Ok kind → 24 ≤ length bytes
long_by true bytes first second kind why e f g = absurd (cc)
long_by false bytes first second kind why e f g = grind (arith, nat_tests)

-- a header that is accepted is there
pub header_long : (bytes : List ℕ) (kind : CaptureKind) → header_in bytes ≡ Ok kind → 24 ≤ length bytes
unfolding header_in
header_long bytes kind e = long_by (nat_lt (length bytes) 24) bytes _ _ kind _ refl refl e
