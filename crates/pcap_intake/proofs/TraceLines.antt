-- The lines of a capture make a trace.
use Rattle.std.proofs.Common.{ℕ, ◌≡◌, ◌≢◌, ◌+◌, ◌-◌, ◌*◌, ◌≤◌, ◌<◌, ◌^◌, List, [], ◌∷◌, ◌++◌, length, refl, ap, arith, sym, ◌∙◌, subst, append_assoc, length-append, Bool, true, false, cond, not, ◌&&◌, ◌==◌, nat_lt, nat_le, codes, lit≤}
use Rattle.std.proofs.lemmas.Bool.Decides.{nat_tests}
use Rattle.std.proofs.lemmas.Fmt.{length-decimal-le}
use Rattle.std.proofs.lemmas.List.Elements.{All-cons, All-nil, All-weaker}
use Rattle.std.proofs.lemmas.Slice.Eq.{bytes_eq-Decides}
use Rattle.std.specs.Bool.{Decides}
use Rattle.std.specs.Fmt.{decimal}
use Rattle.std.specs.Str.{bytes_eq}
use Rattle.hex.proofs.HexLemmas.{decode_of-encode_lower, length-encode_with}
use Rattle.hex.specs.Hex.{encode_lower, lower_digits, IsBytes}
use Rattle.spie_base.proofs.Booleans.{both_held}
use Rattle.spie_base.specs.declared.types.Rules.{Rules}
use Rattle.topology.specs.Layout.{empty, with_router, has_name}
use Rattle.line_text.proofs.Fields.{cut_line, hex_leaves, not_byte, number_leaves, three_fields, three_leave, two_fields, two_leave}
use Rattle.line_text.specs.Fields.{LeavesOut}
use Rattle.line_text.specs.Language.{Begins}
use Rattle.line_text.specs.Text.{lines}
use Rattle.packet_signature.specs.Signature.{signature_of}
use Rattle.trace_format.proofs.Forwards.{name_leaves, name_short}
use Rattle.trace_format.specs.Before.{form_at, layout_of, sigs_of, clock_of, count_of, is_tick, is_record, known_of}
use Rattle.trace_format.specs.Said.{Said}
use Rattle.trace_format.specs.Said as said
use Rattle.trace_format.specs.Spelling.{IsName}
use Rattle.trace_format.specs.Trace.{IsLine, traces, trace_of}
use Rattle.trace_format.specs.Words.{stage_of, may_come}
use Rattle.trace_format.specs.declared.version.Version.{Version}
use Rattle.trace_format.specs.declared.version.Version.TheVariants.{First, Second, Third}
use Rattle.trace_format.specs.declared.words.Stage.TheVariants as stage
use Rattle.trace_format.specs.declared.words.Word.TheVariants as word
use Rattle.pcap_intake.proofs.Signatures.{fits}
use Rattle.pcap_intake.specs.RouterTrace.{IsShapeLine, MakesTrace, framed, router_line, signatures, version_line}
use Rattle.pcap_intake.specs.Text.{Packet, clock_after, is_later, ticked, text_of, tick_text, packet_text, forward_text, lines_text}
use Rattle.pcap_intake.specs.TraceLines.{IsPacket, ArePackets, Stands, said_of, tick_said, tick_line, packet_line, forward_line}
use Rattle.pcap_intake.specs.declared.writing.Clock.{Clock}

-- ---- three lines

at_least : (a b : ℕ) → b < a → nat_le a b ≡ false
at_least a b lt = grind (arith, nat_tests)

decimal_short : (n : ℕ) → n < 2 ^ 32 → length (decimal n) ≤ 10
decimal_short n lt = length-decimal-le 10 n (omega arith) (omega (arith, lt)) (omega (arith, lt))

tick_fits : (before : List Said) (time : ℕ) → stage_of before ≡ stage.Body → count_of is_tick before < 4096 → clock_of before < time → time < 2 ^ 32 → IsLine before (tick_line time) (said.Tick time)
tick_fits before time body few later small =
    let size = decimal_short time small in
    let room = at_least 4096 (count_of is_tick before) few in
    let passed = at_least time (clock_of before) later in
    record {
      short = omega (arith, size);
      comes = ap (λ s. may_come (form_at before) s word.Tick) body;
      spelled = (two_fields (codes "tick") (decimal time) refl (number_leaves 32 time refl (omega (arith, small))), omega (arith, small));
      fits = rw (room, passed) refl;
    }

packet_fits : (before : List Said) (p : Packet) → stage_of before ≡ stage.Body → length (sigs_of before) < 65536 → IsPacket p → IsLine before (packet_line p.front) (said.Packet p.front)
packet_fits before p body few is =
    let size = length-encode_with lower_digits p.front in
    let some = (fits p.front is.read).long in
    let short = is.short in
    let room = at_least 65536 (length (sigs_of before)) few in
    let read = is.read in
    record {
      short = omega (arith, size, short);
      comes = ap (λ s. may_come (form_at before) s word.Packet) body;
      spelled = (encode_lower p.front, two_fields (codes "packet") (encode_lower p.front) refl (hex_leaves 32 p.front refl is.bytes), decode_of-encode_lower p.front is.bytes, omega (arith, size, some), omega (arith, size, short));
      fits = rw (room, read) refl;
    }

forward_fits : (before : List Said) (name : List ℕ) (number : ℕ) → stage_of before ≡ stage.Body → has_name (layout_of before).names name ≡ true → count_of is_record before < 1000000
    → number < length (sigs_of before) → number < 65536 → IsName name → IsLine before (forward_line name number) (said.Fwd name number)
forward_fits before name number body known few there small is =
    let size = decimal_short number (omega (arith, small)) in
    let short = name_short name is in
    let long = length-append name (32 ∷ decimal number) in
    let room = at_least 1000000 (count_of is_record before) few in
    let present = at_least (length (sigs_of before)) number there in
    record {
      short = omega (arith, size, short, long);
      comes = ap (λ s. may_come (form_at before) s word.Fwd) body;
      spelled = (three_fields (codes "fwd") name (decimal number) refl (name_leaves 32 name refl is) (number_leaves 32 number refl (omega (arith, small))), is, omega (arith, small));
      fits = rw (known, room, present) refl;
    }

-- ---- what is known along the lines

-- behind a tick, where there is one
stands_tick : (name region : List ℕ) (n : ℕ) (clock : Clock) (time : ℕ) (later : Bool) (before : List Said) → is_later clock time ≡ later → Stands name region n n clock before
    → Stands name region n n (ticked clock time) (tick_said later time before)
stands_tick name region n clock time true before e s = rw e (record {
  stage_is = refl;
  layout_is = s.layout_is;
  packets_are = s.packets_are;
  records_are = s.records_are;
  time_is = refl;
  ticks_are = ap (λ k. k + 1) s.ticks_are;
})
stands_tick name region n clock time false before e s = rw e s

-- behind a packet and its `fwd` line
stands_packet : (name region front : List ℕ) (n number : ℕ) (clock : Clock) (before : List Said) → Stands name region n n clock before
    → Stands name region (n + 1) (n + 1) clock (said.Fwd name number ∷ said.Packet front ∷ before)
stands_packet name region front n number clock before s = record {
  stage_is = refl;
  layout_is = s.layout_is;
  packets_are = length-append (sigs_of before) (signature_of front ∷ []) ∙ ap (λ k. k + 1) s.packets_are;
  records_are = ap (λ k. k + 1) s.records_are;
  time_is = s.time_is;
  ticks_are = s.ticks_are;
}

stands : (version : Version) (rules : Rules) (name region : List ℕ) (base : ℕ) (packets : List Packet) → Stands name region (length packets) (length packets) (clock_after base packets) (said_of version rules name region base packets)
stands version rules name region base [] = record { stage_is = refl; layout_is = refl; packets_are = refl; records_are = refl; time_is = refl; ticks_are = refl }
stands version rules name region base (p ∷ before) =
    let here = stands_packet name region p.front (length before) (length before) _ _
    (stands_tick name region (length before) (clock_after base before) (p.second - base) (is_later (clock_after base before) (p.second - base)) (said_of version rules name region base before) refl (stands version rules name region base before)) in
    let P : ℕ → Type 0 = λ n. Stands name region n n (clock_after base (p ∷ before)) (said_of version rules name region base (p ∷ before)) in
    subst P (let one : length before + 1 ≡ length (p ∷ before) = omega arith in one) here

-- ---- the lines

tick_cut : (time : ℕ) (more : List ℕ) → time < 2 ^ 32 → lines (codes "tick" ++ 32 ∷ decimal time ++ 10 ∷ [] ++ more) ≡ tick_line time ∷ lines more
tick_cut time more small =
    ap (λ z. lines (codes "tick" ++ 32 ∷ z)) (append_assoc (decimal time) (10 ∷ []) more)
    ∙ cut_line (tick_line time) more (two_leave (codes "tick") (decimal time) refl (number_leaves 10 time refl (omega (arith, small))))

packet_cut : (front more : List ℕ) → IsBytes front → lines (packet_text front ++ more) ≡ packet_line front ∷ lines more
packet_cut front more small =
    ap (λ z. lines (codes "packet" ++ 32 ∷ z)) (append_assoc (encode_lower front) (10 ∷ []) more)
    ∙ cut_line (packet_line front) more (two_leave (codes "packet") (encode_lower front) refl (hex_leaves 10 front refl small))

forward_cut : (name : List ℕ) (number : ℕ) (more : List ℕ) → IsName name → number < 65536 → lines (forward_text name number ++ more) ≡ forward_line name number ∷ lines more
forward_cut name number more is small =
    let one = append_assoc ((name ++ 32 ∷ decimal number)) (10 ∷ []) more in
    ap (λ z. lines (codes "fwd" ++ 32 ∷ z)) one
    ∙ cut_line (forward_line name number) more (three_leave (codes "fwd") name (decimal number) refl (name_leaves 10 name refl is) (number_leaves 10 number refl (omega (arith, small))))

below_by : (a b : ℕ) → nat_lt a b ≡ true → a < b
below_by a b e = grind (arith, nat_tests)

later_time : (clock : Clock) (time : ℕ) → is_later clock time ≡ true → clock.time < time
later_time clock time e = below_by clock.time time (both_held (nat_lt clock.time time) (nat_lt clock.ticks 4096) e).0

later_ticks : (clock : Clock) (time : ℕ) → is_later clock time ≡ true → clock.ticks < 4096
later_ticks clock time e = below_by clock.ticks 4096 (both_held (nat_lt clock.time time) (nat_lt clock.ticks 4096) e).1

abbrev tick_by : Bool → ℕ → List ℕ
tick_by later time = cond later (codes "tick" ++ 32 ∷ decimal time ++ 10 ∷ []) []

-- the lines of a packet behind what was said before it
behind_tick : (name region : List ℕ) (n : ℕ) (p : Packet) (clock : Clock) (before : List Said) (parts : List (List ℕ)) (more : List ℕ)
    → Stands name region n n clock before → IsPacket p → IsName name → n < 65536 → has_name (with_router empty name region).names name ≡ true
    → Begins traces parts before (packet_line p.front ∷ forward_line name n ∷ lines more)
    → Begins traces parts (said.Fwd name n ∷ said.Packet p.front ∷ before) (lines more)
behind_tick name region n p clock before parts more s is named few known b =
    let packets = s.packets_are in
    let records = s.records_are in
    let one_more = length-append (sigs_of before) (signature_of p.front ∷ []) in
    let packet = packet_fits before p s.stage_is (omega (arith, packets, few)) is in
    let declared : has_name (layout_of before).names name ≡ true = ap (λ l. has_name l.names name) s.layout_is ∙ known in
    let forward = forward_fits (said.Packet p.front ∷ before) name n refl declared (omega (arith, records, few)) (omega (arith, one_more, packets)) few named in
    (forward_line name n, (packet_line p.front, b, packet), forward)

two_cut : (name : List ℕ) (n : ℕ) (p : Packet) (more : List ℕ) → IsPacket p → IsName name → n < 65536 → lines (packet_text p.front ++ (forward_text name n ++ more)) ≡ packet_line p.front ∷ forward_line name n ∷ lines more
two_cut name n p more is named few = packet_cut p.front (forward_text name n ++ more) is.bytes ∙ ap (λ z. packet_line p.front ∷ z) (forward_cut name n more named few)

-- the lines of a packet, of which the first may be a tick
packet_begins : (name region : List ℕ) (n time : ℕ) (p : Packet) (clock : Clock) (later : Bool) (before : List Said) (parts : List (List ℕ)) (more : List ℕ)
    → is_later clock time ≡ later → Stands name region n n clock before → IsPacket p → IsName name → n < 65536 → time < 2 ^ 32 → has_name (with_router empty name region).names name ≡ true
    → Begins traces parts before (lines (tick_by later time ++ (packet_text p.front ++ (forward_text name n ++ more))))
    → Begins traces parts (said.Fwd name n ∷ said.Packet p.front ∷ tick_said later time before) (lines more)
packet_begins name region n time p clock true before parts more e s is named few small known b =
    let P : List (List ℕ) → Type 0 = λ z. Begins traces parts before z in
    let cut = tick_cut time (packet_text p.front ++ (forward_text name n ++ more)) small ∙ ap (λ z. tick_line time ∷ z) (two_cut name n p more is named few) in
    let ticks = s.ticks_are in
    let clock_is = s.time_is in
    let room = later_ticks clock time e in
    let above = later_time clock time e in
    let tick = tick_fits before time s.stage_is (omega (arith, ticks, room)) (omega (arith, clock_is, above)) small in
    behind_tick name region n p (ticked clock time) (said.Tick time ∷ before) parts more (stands_tick name region n clock time true before e s) is named few known (tick_line time, subst P cut b, tick)
packet_begins name region n time p clock false before parts more e s is named few small known b =
    let P : List (List ℕ) → Type 0 = λ z. Begins traces parts before z in
    behind_tick name region n p (ticked clock time) before parts more (stands_tick name region n clock time false before e s) is named few known (subst P (two_cut name n p more is named few) b)

-- ---- the lines before them

abbrev pub is_lineless : List ℕ → Bool
is_lineless [] = true
is_lineless (b ∷ more) = not (b == 10) && is_lineless more

not_held : (b : Bool) → not b ≡ true → b ≡ false
not_held true e = absurd (cc)
not_held false e = refl

lineless_leaves : (text : List ℕ) → is_lineless text ≡ true → LeavesOut 10 text
lineless_leaves [] e = All-nil (λ x. (x == 10) ≡ false)
lineless_leaves (b ∷ more) e = let h = both_held (not (b == 10)) (is_lineless more) e in All-cons (λ x. (x == 10) ≡ false) b more (not_held (b == 10) h.0) (lineless_leaves more h.1)

abbrev pub headed : (version : Version) → (shape name region rest : List ℕ) → List ℕ
headed version shape name region rest = version_line version ++ 10 ∷ (shape ++ 10 ∷ (router_line name region ++ 10 ∷ (codes "begin" ++ 10 ∷ rest)))

version_leaves : (version : Version) → LeavesOut 10 (version_line version)
version_leaves First = lineless_leaves (version_line First) refl
version_leaves Second = lineless_leaves (version_line Second) refl
version_leaves Third = lineless_leaves (version_line Third) refl

version_long : (version : Version) → length (version_line version) ≡ 12
version_long First = refl
version_long Second = refl
version_long Third = refl

shape_leaves : (version : Version) (shape : List ℕ) (rules : Rules) → IsShapeLine version shape rules → LeavesOut 10 shape
shape_leaves version shape rules s = All-weaker (λ x. x ≢ 10) (λ x. (x == 10) ≡ false) (λ x h. not_byte x 10 h) shape s.one

head_cut : (version : Version) (shape name region more : List ℕ) (rules : Rules) → IsShapeLine version shape rules → IsName name → IsName region
    → lines (headed version shape name region more) ≡ version_line version ∷ shape ∷ router_line name region ∷ codes "begin" ∷ lines more
head_cut version shape name region more rules s n r =
    cut_line (version_line version) (shape ++ 10 ∷ (router_line name region ++ 10 ∷ (codes "begin" ++ 10 ∷ more))) (version_leaves version)
    ∙ ap (λ z. version_line version ∷ z) (cut_line shape (router_line name region ++ 10 ∷ (codes "begin" ++ 10 ∷ more)) (shape_leaves version shape rules s)
    ∙ ap (λ z. shape ∷ z) (cut_line (router_line name region) (codes "begin" ++ 10 ∷ more) (three_leave (codes "router") name region refl (name_leaves 10 name refl n) (name_leaves 10 region refl r))
    ∙ ap (λ z. router_line name region ∷ z) (cut_line (codes "begin") more (lineless_leaves (codes "begin") refl))))

version_fits : (version : Version) → IsLine [] (version_line version) (said.Version version)
version_fits First = record { short = lit≤ tt; comes = refl; spelled = refl; fits = refl }
version_fits Second = record { short = lit≤ tt; comes = refl; spelled = refl; fits = refl }
version_fits Third = record { short = lit≤ tt; comes = refl; spelled = refl; fits = refl }

shape_fits : (version : Version) (shape : List ℕ) (rules : Rules) → IsShapeLine version shape rules → IsLine (said.Version version ∷ []) shape (said.Shape rules)
shape_fits version shape rules s = record { short = s.short; comes = refl; spelled = s.spelled; fits = refl }

router_fits : (version : Version) (name region : List ℕ) (rules : Rules) → IsName name → IsName region → IsLine (said.Shape rules ∷ said.Version version ∷ []) (router_line name region) (said.Router name region)
router_fits version name region rules n r =
    let a = name_short name n in
    let b = name_short region r in
    let c = length-append name (32 ∷ region) in
    record {
      short = omega (arith, a, b, c);
      comes = refl;
      spelled = (three_fields (codes "router") name region refl (name_leaves 32 name refl n) (name_leaves 32 region refl r), n, r);
      fits = refl;
    }

begin_fits : (version : Version) (name region : List ℕ) (rules : Rules) → IsLine (said.Router name region ∷ said.Shape rules ∷ said.Version version ∷ []) (codes "begin") said.Begin
begin_fits version name region rules = record { short = lit≤ tt; comes = refl; spelled = refl; fits = refl }

head_begins : (version : Version) (shape name region more : List ℕ) (rules : Rules) → IsShapeLine version shape rules → IsName name → IsName region
    → Begins traces (lines (headed version shape name region more)) (said.Begin ∷ said.Router name region ∷ said.Shape rules ∷ said.Version version ∷ []) (lines more)
head_begins version shape name region more rules s n r =
    (codes "begin", (router_line name region, (shape, (version_line version, head_cut version shape name region more rules s n r, version_fits version), shape_fits version shape rules s), router_fits version name region rules n r), begin_fits version name region rules)

-- ---- all lines

same_name_by : (same : Bool) → same ≡ true → nat_lt (cond (not same) 1 0) 1 ≡ true
same_name_by true e = refl
same_name_by false e = absurd (cc)

declared_name : (name region : List ℕ) → has_name (with_router empty name region).names name ≡ true
declared_name name region = let d : Decides (bytes_eq name name) (name ≡ name) = bytes_eq-Decides name name in same_name_by (bytes_eq name name) (d.1 refl)

regroup : (text tick packet forward more : List ℕ) → (text ++ (tick ++ packet ++ forward)) ++ more ≡ text ++ (tick ++ (packet ++ (forward ++ more)))
regroup text tick packet forward more = simp append_assoc

text_begins : (version : Version) (shape name region : List ℕ) (rules : Rules) (base : ℕ) (packets : List Packet) (more : List ℕ) → IsShapeLine version shape rules → IsName name → IsName region → ArePackets packets → length packets ≤ 65536
    → Begins traces (lines (headed version shape name region (text_of name 0 base packets ++ more))) (said_of version rules name region base packets) (lines more)
text_begins version shape name region rules base [] more s n r are few = head_begins version shape name region more rules s n r
text_begins version shape name region rules base (p ∷ before) more s n r are few =
    let time : ℕ = p.second - base in
    let clock = clock_after base before in
    let back = packet_text p.front ++ (forward_text name (length before) ++ more) in
    let earlier = text_begins version shape name region rules base before (tick_text (clock_after base before) (p.second - base) ++ (packet_text p.front ++ (forward_text name (length before) ++ more))) s n r are.1 (omega (arith, few)) in
    let number : 0 + length before ≡ length before = omega arith in
    let all : text_of name 0 base (p ∷ before) ++ more ≡ text_of name 0 base before ++ (tick_text (clock_after base before) (p.second - base) ++ (packet_text p.front ++ (forward_text name (length before) ++ more))) =
    ap (λ k. (text_of name 0 base before ++ lines_text name (clock_after base before) (p.second - base) k p.front) ++ more) number
    ∙ regroup (text_of name 0 base before) (tick_text (clock_after base before) (p.second - base)) (packet_text p.front) (forward_text name (length before)) more in
    let P : List ℕ → Type 0 = λ t. Begins traces (lines (headed version shape name region t)) (said_of version rules name region base before) (lines (tick_text (clock_after base before) (p.second - base) ++ (packet_text p.front ++ (forward_text name (length before) ++ more)))) in
    let second = are.0.second in
    packet_begins name region (length before) (p.second - base) p (clock_after base before) (is_later (clock_after base before) (p.second - base)) (said_of version rules name region base before)
    (lines (headed version shape name region (text_of name 0 base (p ∷ before) ++ more))) more refl (stands version rules name region base before) are.0 n (omega (arith, few)) (omega (arith, second)) (declared_name name region)
    (subst P (sym all) earlier)

end_fits : (version : Version) (rules : Rules) (name region : List ℕ) (base : ℕ) (packets : List Packet) → IsLine (said_of version rules name region base packets) (codes "end") said.End
end_fits version rules name region base packets = record { short = lit≤ tt; comes = ap (λ s. may_come (form_at (said_of version rules name region base packets)) s word.End) (stands version rules name region base packets).stage_is; spelled = refl; fits = refl }

-- ---- the length of the text

tick_long : (later : Bool) (time : ℕ) → time < 2 ^ 32 → length (tick_by later time) ≤ 16
tick_long true time small = let a = decimal_short time small in let b = length-append (decimal time) (10 ∷ []) in omega (arith, a, b)
tick_long false time small = lit≤ tt

packet_long : (p : Packet) → IsPacket p → length (packet_text p.front) ≤ 144
packet_long p is = let a = length-encode_with lower_digits p.front in let b = length-append (encode_lower p.front) (10 ∷ []) in let c = is.short in omega (arith, a, b, c)

forward_long : (name : List ℕ) (number : ℕ) → IsName name → number < 65536 → length (forward_text name number) ≤ 32
forward_long name number n small =
    let a = decimal_short number (omega (arith, small)) in
    let b = length-append (name ++ 32 ∷ decimal number) (10 ∷ []) in
    let c = length-append name (32 ∷ decimal number) in
    let d = name_short name n in
    omega (arith, a, b, c, d)

text_long : (name : List ℕ) (base : ℕ) (packets : List Packet) → IsName name → ArePackets packets → length packets ≤ 65536 → length (text_of name 0 base packets) ≤ 192 * length packets
text_long name base [] n are few = omega arith
text_long name base (p ∷ before) n are few =
    let earlier = text_long name base before n are.1 (omega (arith, few)) in
    let second = are.0.second in
    let a = tick_long (is_later (clock_after base before) (p.second - base)) (p.second - base) (omega (arith, second)) in
    let b = packet_long p are.0 in
    let c = forward_long name (0 + length before) n (omega (arith, few)) in
    let d = length-append (text_of name 0 base before) (lines_text name (clock_after base before) (p.second - base) (0 + length before) p.front) in
    let e = length-append (tick_text (clock_after base before) (p.second - base) ++ packet_text p.front) (forward_text name (0 + length before)) in
    let f = length-append (tick_text (clock_after base before) (p.second - base)) (packet_text p.front) in
    omega (arith, earlier, a, b, c, d, e, f)

framed_long : (version : Version) (shape name region text : List ℕ) → length (framed version shape name region text) ≤ length shape + length name + length region + length text + 40
framed_long version shape name region text =
    let z = version_long version in
    let f = length-append (version_line version) (10 ∷ (shape ++ 10 ∷ (router_line name region ++ 10 ∷ (codes "begin" ++ 10 ∷ (text ++ (codes "end" ++ 10 ∷ [])))))) in
    let a = length-append shape (10 ∷ (router_line name region ++ 10 ∷ (codes "begin" ++ 10 ∷ (text ++ (codes "end" ++ 10 ∷ []))))) in
    let b = length-append (name ++ 32 ∷ region) (10 ∷ (codes "begin" ++ 10 ∷ (text ++ (codes "end" ++ 10 ∷ [])))) in
    let c = length-append name (32 ∷ region) in
    let d = length-append text (codes "end" ++ 10 ∷ []) in
    omega (arith, a, b, c, d, f, z)

-- ---- the signatures

sigs_tick : (later : Bool) (time : ℕ) (before : List Said) → sigs_of (tick_said later time before) ≡ sigs_of before
sigs_tick true time before = refl
sigs_tick false time before = refl

sigs_said : (version : Version) (rules : Rules) (name region : List ℕ) (base : ℕ) (packets : List Packet) → sigs_of (said_of version rules name region base packets) ≡ signatures packets
sigs_said version rules name region base [] = refl
sigs_said version rules name region base (p ∷ before) =
    ap (λ sigs. sigs ++ signature_of p.front ∷ []) (sigs_tick (is_later (clock_after base before) (p.second - base)) (p.second - base) (said_of version rules name region base before) ∙ sigs_said version rules name region base before)

pub makes_trace : (name : List ℕ) (base : ℕ) (packets : List Packet) → IsName name → ArePackets packets → length packets ≤ 65536 → MakesTrace name (text_of name 0 base packets) (signatures packets)
makes_trace name base packets n are few version shape region rules s r =
    let before : List Said = said_of version rules name region base packets in
    let long = framed_long version shape name region (text_of name 0 base packets) in
    let text = text_long name base packets n are few in
    let a = name_short name n in
    let b = name_short region r in
    let c = s.short in (
      trace_of (known_of (said.End ∷ said_of version rules name region base packets)),
      record {
        fits = omega (arith, long, text, a, b, c, few);
        said = said.End ∷ said_of version rules name region base packets;
        lines_say = (codes "end", text_begins version shape name region rules base packets (codes "end" ++ 10 ∷ []) s n r are few, end_fits version rules name region base packets);
        ended = refl;
        value_is = refl;
      },
      sigs_said version rules name region base packets,
    )
