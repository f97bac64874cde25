-- The lines before the packets fit, and declare twelve routers.
use Rattle.std.proofs.Common.{ℕ, zero, suc, ◌≡◌, ◌∙◌, ◌*◌, ◌^◌, ◌≤◌, ◌<◌, List, [], ◌∷◌, ◌++◌, refl, sym, ap, subst, arith, length, lit<, lit≤, Bool, true, false, ◌&&◌, ◌==◌, codes, None, Some}
use Rattle.std.specs.declared.option.Option.{Option}
use Rattle.std.proofs.lemmas.Bool.Decides.{nat_tests}
use Rattle.std.proofs.lemmas.Fmt.{decimal-digits_value, decimal_digit}
use Rattle.std.proofs.lemmas.Nat.{from_be_bytes-to_be_bytes_8}
use Rattle.std.proofs.lemmas.Str.Parse.{IsNumeralModel, numerals_by_value, tells_all_ascii_digits}
use Rattle.std.specs.Char.{is_ascii_digit}
use Rattle.std.specs.Fmt.{decimal}
use Rattle.std.specs.Int.{w64, to_be_bytes}
use Rattle.std.specs.Str.{all_ascii_digits}
use Rattle.std.specs.Str.Parse.{digits_value}
use Rattle.hex.proofs.HexLemmas.{decode_of-encode_lower, decode_sized-twice, length-encode_with}
use Rattle.hex.specs.Hex.{encode_lower, lower_digits}
use Rattle.line_text.proofs.Fields.{hex_leaves}
use Rattle.line_text.specs.Text.{fields}
use Rattle.spie_base.proofs.Booleans.{both_held}
use Rattle.topology.specs.Layout.{Layout, has_name}
use Rattle.trace_format.proofs.Forwards.{name_leaves, name_short}
use Rattle.trace_format.specs.Before.{form_at, known_of, layout_of, version_of}
use Rattle.trace_format.specs.Said.{Said}
use Rattle.trace_format.specs.Said as said
use Rattle.trace_format.specs.Spelling.{IsName, SpellsLink}
use Rattle.trace_format.specs.Table.{first_broken}
use Rattle.trace_format.specs.Text.{is_name, is_name_byte}
use Rattle.trace_format.specs.Versions.{form_of}
use Rattle.trace_format.specs.Words.{may_come, stage_of}
use Rattle.trace_format.specs.declared.WhyRefused.{WhyRefused}
use Rattle.trace_format.specs.declared.version.Version.TheVariants.{First}
use Rattle.trace_format.specs.declared.words.Stage.TheVariants as stage
use Rattle.trace_format.specs.declared.words.Word.TheVariants as word
use Rattle.made_trace.specs.Fitting.{AllFit, Fits, IsFresh, Stands}
use Rattle.made_trace.specs.Lines.{joined, line_of}
use Rattle.made_trace.specs.Made.{behind, head, made_rules, network_lines, router_name}
use Rattle.made_trace.proofs.Behind.{all_fit_append}
use Rattle.made_trace.proofs.Joined.{AllLeave, fields_joined, joined_leave, plain_leaves}
use Rattle.made_trace.proofs.LineFits.{decimal_short, joined_long, number_fields}
use Rattle.made_trace.proofs.PacketFits.{number_bytes}

-- ---- the routers' names

ascii : IsNumeralModel (λ ds. all_ascii_digits ds ≡ true) (digits_value 10)
ascii = numerals_by_value _ tells_all_ascii_digits

n0 : router_name 0 ≡ codes "r0"
n0 = ap (λ (d : List ℕ). codes "r" ++ d) (decimal_digit 0 (lit< tt))

n1 : router_name 1 ≡ codes "r1"
n1 = ap (λ (d : List ℕ). codes "r" ++ d) (decimal_digit 1 (lit< tt))

n2 : router_name 2 ≡ codes "r2"
n2 = ap (λ (d : List ℕ). codes "r" ++ d) (decimal_digit 2 (lit< tt))

n3 : router_name 3 ≡ codes "r3"
n3 = ap (λ (d : List ℕ). codes "r" ++ d) (decimal_digit 3 (lit< tt))

n4 : router_name 4 ≡ codes "r4"
n4 = ap (λ (d : List ℕ). codes "r" ++ d) (decimal_digit 4 (lit< tt))

n5 : router_name 5 ≡ codes "r5"
n5 = ap (λ (d : List ℕ). codes "r" ++ d) (decimal_digit 5 (lit< tt))

n6 : router_name 6 ≡ codes "r6"
n6 = ap (λ (d : List ℕ). codes "r" ++ d) (decimal_digit 6 (lit< tt))

n7 : router_name 7 ≡ codes "r7"
n7 = ap (λ (d : List ℕ). codes "r" ++ d) (decimal_digit 7 (lit< tt))

n8 : router_name 8 ≡ codes "r8"
n8 = ap (λ (d : List ℕ). codes "r" ++ d) (decimal_digit 8 (lit< tt))

n9 : router_name 9 ≡ codes "r9"
n9 = ap (λ (d : List ℕ). codes "r" ++ d) (decimal_digit 9 (lit< tt))

n10 : router_name 10 ≡ codes "r10"
n10 = ap (λ (d : List ℕ). codes "r" ++ d) (decimal-digits_value ascii (codes "10") refl (lit< tt) (λ e. omega (arith, e)) (lit< tt))

n11 : router_name 11 ≡ codes "r11"
n11 = ap (λ (d : List ℕ). codes "r" ++ d) (decimal-digits_value ascii (codes "11") refl (lit< tt) (λ e. omega (arith, e)) (lit< tt))

-- the network of routers with these names
abbrev network : (a0 a1 a2 a3 a4 a5 a6 a7 a8 a9 a10 a11 : List ℕ) → List Said
network a0 a1 a2 a3 a4 a5 a6 a7 a8 a9 a10 a11 =
    said.Router a0 (codes "east") ∷ said.Router a1 (codes "east") ∷ said.Router a2 (codes "east") ∷ said.Router a3 (codes "east") ∷ said.Router a4 (codes "north") ∷ said.Router a5 (codes "north") ∷ said.Router a6 (codes "north") ∷ said.Router a7 (codes "north") ∷ said.Router a8 (codes "west") ∷ said.Router a9 (codes "west") ∷ said.Router a10 (codes "west") ∷ said.Router a11 (codes "west") ∷ said.Link a0 a1 0 ∷ said.Link a1 a2 0 ∷ said.Link a2 a3 0 ∷ said.Link a3 a4 0 ∷ said.Link a4 a5 0 ∷ said.Link a5 a6 0 ∷ said.Link a6 a7 0 ∷ said.Link a7 a8 0 ∷ said.Link a8 a9 0 ∷ said.Link a9 a10 0 ∷ said.Link a10 a11 0 ∷ said.Link a11 a0 0 ∷ said.Link a0 a6 0 ∷ said.Link a1 a7 0 ∷ said.Link a2 a8 0 ∷ said.Link a3 a9 0 ∷ said.Link a4 a10 0 ∷ said.Link a5 a11 0 ∷ []

abbrev pub plain_network : List Said
plain_network = network (codes "r0") (codes "r1") (codes "r2") (codes "r3") (codes "r4") (codes "r5") (codes "r6") (codes "r7") (codes "r8") (codes "r9") (codes "r10") (codes "r11")

pub network_is : network_lines ≡ plain_network
network_is = λ i. network (n0 i) (n1 i) (n2 i) (n3 i) (n4 i) (n5 i) (n6 i) (n7 i) (n8 i) (n9 i) (n10 i) (n11 i)

abbrev pub made_layout : Layout
made_layout = layout_of (behind [] plain_network)

-- the name is one, and of a router of the network
pub record IsKnown (name : List ℕ) : Type 0 where
  pub name_is : IsName name
  pub declared : has_name made_layout.names name ≡ true

pub known_at : (x : ℕ) → x < 12 → IsKnown (router_name x)
known_at zero h = subst IsKnown (sym n0) (record { name_is = refl; declared = refl })
known_at (suc zero) h = subst IsKnown (sym n1) (record { name_is = refl; declared = refl })
known_at (suc (suc zero)) h = subst IsKnown (sym n2) (record { name_is = refl; declared = refl })
known_at (suc (suc (suc zero))) h = subst IsKnown (sym n3) (record { name_is = refl; declared = refl })
known_at (suc (suc (suc (suc zero)))) h = subst IsKnown (sym n4) (record { name_is = refl; declared = refl })
known_at (suc (suc (suc (suc (suc zero))))) h = subst IsKnown (sym n5) (record { name_is = refl; declared = refl })
known_at (suc (suc (suc (suc (suc (suc zero)))))) h = subst IsKnown (sym n6) (record { name_is = refl; declared = refl })
known_at (suc (suc (suc (suc (suc (suc (suc zero))))))) h = subst IsKnown (sym n7) (record { name_is = refl; declared = refl })
known_at (suc (suc (suc (suc (suc (suc (suc (suc zero)))))))) h = subst IsKnown (sym n8) (record { name_is = refl; declared = refl })
known_at (suc (suc (suc (suc (suc (suc (suc (suc (suc zero))))))))) h = subst IsKnown (sym n9) (record { name_is = refl; declared = refl })
known_at (suc (suc (suc (suc (suc (suc (suc (suc (suc (suc zero)))))))))) h = subst IsKnown (sym n10) (record { name_is = refl; declared = refl })
known_at (suc (suc (suc (suc (suc (suc (suc (suc (suc (suc (suc zero))))))))))) h = subst IsKnown (sym n11) (record { name_is = refl; declared = refl })
known_at (suc (suc (suc (suc (suc (suc (suc (suc (suc (suc (suc (suc x)))))))))))) h = absurd (omega (arith, h))

-- ---- the first two lines

version_fits : Fits [] (said.Version First)
version_fits = record {
  short = lit≤ tt;
  whole = plain_leaves 10 (line_of (said.Version First)) refl;
  is_line = record { short = lit≤ tt; comes = refl; spelled = refl; fits = refl };
}

abbrev numbers_and : (byte : ℕ) → List (List ℕ) → Type 0
numbers_and byte more = AllLeave byte (decimal 3 ∷ decimal 16 ∷ decimal 4096 ∷ decimal 500 ∷ decimal 2 ∷ decimal 1500 ∷ decimal 300 ∷ more)

numbers_leave : (byte : ℕ) (more : List (List ℕ)) → is_ascii_digit byte ≡ false → AllLeave byte more → numbers_and byte more
numbers_leave byte more out rest =
    let g = number_fields byte 300 more out (lit< tt) rest in
    let f = number_fields byte 1500 (decimal 300 ∷ more) out (lit< tt) g in
    let e = number_fields byte 2 (decimal 1500 ∷ decimal 300 ∷ more) out (lit< tt) f in
    let d = number_fields byte 500 (decimal 2 ∷ decimal 1500 ∷ decimal 300 ∷ more) out (lit< tt) e in
    let c = number_fields byte 4096 (decimal 500 ∷ decimal 2 ∷ decimal 1500 ∷ decimal 300 ∷ more) out (lit< tt) d in
    let b = number_fields byte 16 (decimal 4096 ∷ decimal 500 ∷ decimal 2 ∷ decimal 1500 ∷ decimal 300 ∷ more) out (lit< tt) c in
    number_fields byte 3 (decimal 16 ∷ decimal 4096 ∷ decimal 500 ∷ decimal 2 ∷ decimal 1500 ∷ decimal 300 ∷ more) out (lit< tt) b

shape_fits : (seed : ℕ) → seed < 2 ^ 64 → Fits (said.Version First ∷ []) (said.Shape (made_rules seed))
shape_fits seed small =
    let base = to_be_bytes w64 seed in
    let bytes = number_bytes 8 seed in
    let digits = encode_lower base in
    let more = decimal 3 ∷ decimal 16 ∷ decimal 4096 ∷ decimal 500 ∷ decimal 2 ∷ decimal 1500 ∷ decimal 300 ∷ digits ∷ [] in
    let size = length-encode_with lower_digits base in
    let all = joined_long (codes "shape") more in
    let a = decimal_short 3 (lit< tt) in
    let b = decimal_short 16 (lit< tt) in
    let c = decimal_short 4096 (lit< tt) in
    let d = decimal_short 500 (lit< tt) in
    let e = decimal_short 2 (lit< tt) in
    let f = decimal_short 1500 (lit< tt) in
    let g = decimal_short 300 (lit< tt) in
    let long : length (joined (codes "shape" ∷ more)) ≤ 99 = omega (arith, all, size, a, b, c, d, e, f, g) in
    let twice : length digits ≡ 2 * 8 = size in
    record {
      short = long;
      whole = joined_leave (codes "shape") more (plain_leaves 10 (codes "shape") refl, numbers_leave 10 (digits ∷ []) refl (hex_leaves 10 base refl bytes, tt));
      is_line = record {
        short = omega (arith, long);
        comes = refl;
        spelled = (
          digits,
          fields_joined (codes "shape") more (plain_leaves 32 (codes "shape") refl, numbers_leave 32 (digits ∷ []) refl (hex_leaves 32 base refl bytes, tt)),
          record { k = (lit≤ tt, lit≤ tt); n = (lit≤ tt, lit≤ tt); limit = (lit≤ tt, lit≤ tt); span = (lit≤ tt, lit≤ tt) },
          record { keep = (lit≤ tt, lit≤ tt); age = (lit≤ tt, lit≤ tt); width = lit≤ tt },
          (base, decode_sized-twice digits 8 twice ∙ decode_of-encode_lower base bytes, sym (from_be_bytes-to_be_bytes_8 seed small)),
        );
        fits = refl;
      };
    }

-- ---- the declarations

abbrev is_kept : Option WhyRefused → Bool
is_kept None = true
is_kept (Some rule) = false

kept : (o : Option WhyRefused) → is_kept o ≡ true → o ≡ None
kept None e = refl
kept (Some rule) e = absurd (cc)

abbrev is_declared : List Said → Said → Bool
is_declared before (said.Router name region) = is_name name && (is_name region && is_kept (first_broken (known_of before) (said.Router name region)))
is_declared before (said.Link one other delay) = is_name one && (is_name other && ((delay == 0) && is_kept (first_broken (known_of before) (said.Link one other delay))))
is_declared before _ = false

abbrev are_declared : List Said → List Said → Bool
are_declared before [] = true
are_declared before (s ∷ more) = is_declared before s && are_declared (s ∷ before) more

two_names : (byte : ℕ) (one other : List ℕ) → is_name_byte byte ≡ false → IsName one → IsName other → AllLeave byte (one ∷ other ∷ [])
two_names byte one other out a b = (name_leaves byte one out a, (name_leaves byte other out b, tt))

zero_is : (delay : ℕ) → (delay == 0) ≡ true → delay ≡ 0
zero_is delay e = grind (arith, nat_tests)

declared_fits : (before : List Said) (s : Said) → version_of before ≡ First → stage_of before ≡ stage.Declarations → is_declared before s ≡ true → Fits before s
declared_fits before (said.Router name region) v st e =
    let h = both_held (is_name name) (is_name region && is_kept (first_broken (known_of before) (said.Router name region))) e in
    let k = both_held (is_name region) (is_kept (first_broken (known_of before) (said.Router name region))) h.1 in
    let all = joined_long (codes "router") (name ∷ region ∷ []) in
    let a = name_short name h.0 in
    let b = name_short region k.0 in
    record {
      short = omega (arith, all, a, b);
      whole = joined_leave (codes "router") (name ∷ region ∷ []) (plain_leaves 10 (codes "router") refl, two_names 10 name region refl h.0 k.0);
      is_line = record {
        short = omega (arith, all, a, b);
        comes = ap (λ s. may_come (form_at before) s word.Router) st;
        spelled = (fields_joined (codes "router") (name ∷ region ∷ []) (plain_leaves 32 (codes "router") refl, two_names 32 name region refl h.0 k.0), h.0, k.0);
        fits = kept (first_broken (known_of before) (said.Router name region)) k.1;
      };
    }
declared_fits before (said.Link one other delay) v st e =
    let broken = first_broken (known_of before) (said.Link one other delay) in
    let h = both_held (is_name one) (is_name other && ((delay == 0) && is_kept broken)) e in
    let k = both_held (is_name other) ((delay == 0) && is_kept broken) h.1 in
    let l = both_held (delay == 0) (is_kept broken) k.1 in
    let all = joined_long (codes "link") (one ∷ other ∷ []) in
    let a = name_short one h.0 in
    let b = name_short other k.0 in
    let P : Bool → Type 0 = λ has. SpellsLink has one other delay (fields (line_of (said.Link one other delay))) in
    record {
      short = omega (arith, all, a, b);
      whole = joined_leave (codes "link") (one ∷ other ∷ []) (plain_leaves 10 (codes "link") refl, two_names 10 one other refl h.0 k.0);
      is_line = record {
        short = omega (arith, all, a, b);
        comes = ap (λ s. may_come (form_at before) s word.Link) st;
        spelled = subst P (sym (ap (λ v. (form_of v).has_delays) v))
            (fields_joined (codes "link") (one ∷ other ∷ []) (plain_leaves 32 (codes "link") refl, two_names 32 one other refl h.0 k.0), h.0, k.0, zero_is delay l.0);
        fits = kept broken l.1;
      };
    }
declared_fits before (said.Version version) v st e = absurd (cc)
declared_fits before (said.Shape rules) v st e = absurd (cc)
declared_fits before (said.Pages name k n limit) v st e = absurd (cc)
declared_fits before said.Begin v st e = absurd (cc)
declared_fits before (said.Packet bytes) v st e = absurd (cc)
declared_fits before (said.Fwd name packet) v st e = absurd (cc)
declared_fits before (said.Xf name kind old new) v st e = absurd (cc)
declared_fits before (said.Rotate name) v st e = absurd (cc)
declared_fits before (said.Archive name) v st e = absurd (cc)
declared_fits before (said.Watch name packet) v st e = absurd (cc)
declared_fits before (said.Tick time) v st e = absurd (cc)
declared_fits before (said.Query name packet time) v st e = absurd (cc)
declared_fits before said.End v st e = absurd (cc)

declared_stage : (before : List Said) (s : Said) → version_of before ≡ First → is_declared before s ≡ true → (version_of (s ∷ before) ≡ First) × (stage_of (s ∷ before) ≡ stage.Declarations)
declared_stage before (said.Router name region) v e = (v, refl)
declared_stage before (said.Link one other delay) v e = (v, refl)
declared_stage before (said.Version version) v e = absurd (cc)
declared_stage before (said.Shape rules) v e = absurd (cc)
declared_stage before (said.Pages name k n limit) v e = absurd (cc)
declared_stage before said.Begin v e = absurd (cc)
declared_stage before (said.Packet bytes) v e = absurd (cc)
declared_stage before (said.Fwd name packet) v e = absurd (cc)
declared_stage before (said.Xf name kind old new) v e = absurd (cc)
declared_stage before (said.Rotate name) v e = absurd (cc)
declared_stage before (said.Archive name) v e = absurd (cc)
declared_stage before (said.Watch name packet) v e = absurd (cc)
declared_stage before (said.Tick time) v e = absurd (cc)
declared_stage before (said.Query name packet time) v e = absurd (cc)
declared_stage before said.End v e = absurd (cc)

all_declared : (before more : List Said) → version_of before ≡ First → stage_of before ≡ stage.Declarations → are_declared before more ≡ true → AllFit before more
all_declared before [] v st e = tt
all_declared before (s ∷ more) v st e =
    let h = both_held (is_declared before s) (are_declared (s ∷ before) more) e in
    let next = declared_stage before s v h.0 in
    (declared_fits before s v st h.0, all_declared (s ∷ before) more next.0 next.1 h.1)

-- ---- all lines before the packets

abbrev base_of : (seed : ℕ) → List Said
base_of seed = said.Shape (made_rules seed) ∷ said.Version First ∷ []

begin_fits : (seed : ℕ) → Fits (behind (base_of seed) plain_network) said.Begin
begin_fits seed = record {
  short = lit≤ tt;
  whole = plain_leaves 10 (line_of said.Begin) refl;
  is_line = record { short = lit≤ tt; comes = refl; spelled = refl; fits = refl };
}

network_fits : (seed : ℕ) → AllFit (base_of seed) plain_network
network_fits seed = all_declared (base_of seed) plain_network refl refl refl

pub head_fits : (seed : ℕ) → seed < 2 ^ 64 → AllFit [] (head seed)
head_fits seed small =
    let P : List Said → Type 0 = λ n. AllFit (base_of seed) (n ++ said.Begin ∷ []) in
    let rest = all_fit_append (base_of seed) plain_network (said.Begin ∷ []) (network_fits seed) (begin_fits seed, tt) in
    (version_fits, (shape_fits seed small, subst P (sym network_is) rest))

pub head_stands : (seed : ℕ) → Stands made_layout (behind [] (head seed)) 0 0 0 0 0 0
head_stands seed =
    let P : List Said → Type 0 = λ n. Stands made_layout (behind (base_of seed) (n ++ said.Begin ∷ [])) 0 0 0 0 0 0 in
    subst P (sym network_is) (record {
      version_is = refl;
      stage_is = refl;
      layout_is = refl;
      packets_are = refl;
      records_are = refl;
      rotates_are = refl;
      ticks_are = refl;
      queries_are = refl;
      time_is = refl;
    })

pub head_fresh : (seed : ℕ) → IsFresh (behind [] (head seed))
head_fresh seed = let P : List Said → Type 0 = λ n. IsFresh (behind (base_of seed) (n ++ said.Begin ∷ [])) in subst P (sym network_is) refl
