-- Lines of each kind behind `begin` fit behind lines that told and counted so much.
use Rattle.std.proofs.Common.{ℕ, ◌≡◌, ◌∙◌, ◌+◌, ◌^◌, ◌≤◌, ◌<◌, List, [], ◌∷◌, refl, ap, arith, length, length-append, true, false, nat_lt, nat_le, codes, None, lit≤}
use Rattle.std.proofs.lemmas.Bool.Decides.{nat_tests}
use Rattle.std.proofs.lemmas.Fmt.{length-decimal-le}
use Rattle.std.specs.Char.{is_ascii_digit}
use Rattle.std.specs.Fmt.{decimal}
use Rattle.std.specs.List.{flat_map}
use Rattle.hex.proofs.HexLemmas.{decode_of-encode_lower, length-encode_with}
use Rattle.hex.specs.Hex.{IsBytes, encode_lower, lower_digits}
use Rattle.ipv4_header.specs.Grammar.{refusal_of}
use Rattle.line_text.proofs.Fields.{hex_leaves, number_leaves}
use Rattle.line_text.specs.Writing.{spaced}
use Rattle.packet_signature.specs.declared.Kind.TheVariants as kind
use Rattle.topology.specs.Layout.{Layout, has_name}
use Rattle.trace_format.proofs.Forwards.{name_leaves, name_short}
use Rattle.trace_format.specs.Before.{clock_of, count_of, form_at, is_query, is_record, is_rotate, is_tick, layout_of, sigs_of}
use Rattle.trace_format.specs.Said.{Said}
use Rattle.trace_format.specs.Said as said
use Rattle.trace_format.specs.Spelling.{IsName}
use Rattle.trace_format.specs.Text.{is_name_byte}
use Rattle.trace_format.specs.Words.{may_come}
use Rattle.trace_format.specs.declared.words.Word.TheVariants as word
use Rattle.made_trace.specs.Fitting.{Fits, IsFresh, Stands}
use Rattle.made_trace.specs.Lines.{joined, line_of}
use Rattle.made_trace.proofs.Joined.{AllLeave, fields_joined, is_without, joined_leave, plain_leaves}

at_least : (a b : ℕ) → b < a → nat_le a b ≡ false
at_least a b lt = grind (arith, nat_tests)

not_below : (a b : ℕ) → b ≤ a → nat_lt a b ≡ false
not_below a b le = grind (arith, nat_tests)

pub decimal_short : (n : ℕ) → n < 2 ^ 32 → length (decimal n) ≤ 10
decimal_short n lt = length-decimal-le 10 n (omega arith) (omega (arith, lt)) (omega (arith, lt))

-- ---- how long a line is

abbrev pub behind_long : List (List ℕ) → ℕ
behind_long [] = 0
behind_long (f ∷ more) = 1 + length f + behind_long more

spaced_long : (more : List (List ℕ)) → length (flat_map spaced more) ≡ behind_long more
spaced_long [] = refl
spaced_long (f ∷ more) = let e = length-append (32 ∷ f) (flat_map spaced more) in let r = spaced_long more in omega (arith, e, r)

pub joined_long : (f : List ℕ) (more : List (List ℕ)) → length (joined (f ∷ more)) ≡ length f + behind_long more
joined_long f more = length-append f (flat_map spaced more) ∙ ap (λ (n : ℕ). length f + n) (spaced_long more)

-- ---- a line of its kind

pub name_fields : (byte : ℕ) (name : List ℕ) (more : List (List ℕ)) → is_name_byte byte ≡ false → IsName name → AllLeave byte more → AllLeave byte (name ∷ more)
name_fields byte name more out is rest = (name_leaves byte name out is, rest)

pub number_fields : (byte n : ℕ) (more : List (List ℕ)) → is_ascii_digit byte ≡ false → n < 2 ^ 32 → AllLeave byte more → AllLeave byte (decimal n ∷ more)
number_fields byte n more out small rest = (number_leaves byte n out (omega (arith, small)), rest)

module _ (layout : Layout) (before : List Said) (packets records rotates ticks queries clock : ℕ) (s : Stands layout before packets records rotates ticks queries clock) where
  known_name : (name : List ℕ) → has_name layout.names name ≡ true → has_name (layout_of before).names name ≡ true
  known_name name known = ap (λ (l : Layout). has_name l.names name) s.layout_is ∙ known

  is_there : (packet : ℕ) → packet < packets → nat_le (length (sigs_of before)) packet ≡ false
  is_there packet h = let e = s.packets_are in at_least (length (sigs_of before)) packet (omega (arith, e, h))

  pub packet_fits : (bytes : List ℕ) → packets < 65536 → IsBytes bytes → length bytes ≡ 28 → refusal_of bytes ≡ None → Fits before (said.Packet bytes)
  packet_fits bytes few small long read =
      let size = length-encode_with lower_digits bytes in
      let all = joined_long (codes "packet") (encode_lower bytes ∷ []) in
      let count = s.packets_are in
      let room = at_least 65536 (length (sigs_of before)) (omega (arith, count, few)) in
      let cut = fields_joined (codes "packet") (encode_lower bytes ∷ []) (plain_leaves 32 (codes "packet") refl, (hex_leaves 32 bytes refl small, tt)) in
      record {
        short = omega (arith, all, size, long);
        whole = joined_leave (codes "packet") (encode_lower bytes ∷ []) (plain_leaves 10 (codes "packet") refl, (hex_leaves 10 bytes refl small, tt));
        is_line = record {
          short = omega (arith, all, size, long);
          comes = ap (λ s. may_come (form_at before) s word.Packet) s.stage_is;
          spelled = (encode_lower bytes, cut, decode_of-encode_lower bytes small, omega (arith, size, long), omega (arith, size, long));
          fits = rw (room, read) refl;
        };
      }

  pub forward_fits : (name : List ℕ) (packet : ℕ) → IsName name → has_name layout.names name ≡ true → records < 1000000 → packet < packets → packet < 65536 → Fits before (said.Fwd name packet)
  forward_fits name packet is known few there small =
      let more = name ∷ decimal packet ∷ [] in
      let all = joined_long (codes "fwd") more in
      let size = decimal_short packet (omega (arith, small)) in
      let short = name_short name is in
      let count = s.records_are in
      let room = at_least 1000000 (count_of is_record before) (omega (arith, count, few)) in
      let present = is_there packet there in
      let has = known_name name known in
      let leave = λ (byte : ℕ) (n : is_name_byte byte ≡ false) (d : is_ascii_digit byte ≡ false). name_fields byte name (decimal packet ∷ []) n is (number_fields byte packet [] d (omega (arith, small)) tt) in
      record {
        short = omega (arith, all, size, short);
        whole = joined_leave (codes "fwd") more (plain_leaves 10 (codes "fwd") refl, leave 10 refl refl);
        is_line = record {
          short = omega (arith, all, size, short);
          comes = ap (λ s. may_come (form_at before) s word.Fwd) s.stage_is;
          spelled = (fields_joined (codes "fwd") more (plain_leaves 32 (codes "fwd") refl, leave 32 refl refl), is, omega (arith, small));
          fits = rw (has, room, present) refl;
        };
      }

  pub change_fits : (name : List ℕ) (old new : ℕ) → IsName name → has_name layout.names name ≡ true → records < 1000000 → old < packets → new < packets → old < 65536 → new < 65536 → Fits before (said.Xf name kind.Nat old new)
  change_fits name old new is known few there here small_old small_new =
      let more = name ∷ codes "nat" ∷ decimal old ∷ decimal new ∷ [] in
      let all = joined_long (codes "xf") more in
      let size_old = decimal_short old (omega (arith, small_old)) in
      let size_new = decimal_short new (omega (arith, small_new)) in
      let short = name_short name is in
      let count = s.records_are in
      let room = at_least 1000000 (count_of is_record before) (omega (arith, count, few)) in
      let present_old = is_there old there in
      let present_new = is_there new here in
      let has = known_name name known in
      let leave = λ (byte : ℕ) (n : is_name_byte byte ≡ false) (d : is_ascii_digit byte ≡ false) (k : is_without byte (codes "nat") ≡ true).
      name_fields byte name (codes "nat" ∷ decimal old ∷ decimal new ∷ []) n is (plain_leaves byte (codes "nat") k, number_fields byte old (decimal new ∷ []) d (omega (arith, small_old)) (number_fields byte new [] d (omega (arith, small_new)) tt)) in
      record {
        short = omega (arith, all, size_old, size_new, short);
        whole = joined_leave (codes "xf") more (plain_leaves 10 (codes "xf") refl, leave 10 refl refl refl);
        is_line = record {
          short = omega (arith, all, size_old, size_new, short);
          comes = ap (λ s. may_come (form_at before) s word.Xf) s.stage_is;
          spelled = (fields_joined (codes "xf") more (plain_leaves 32 (codes "xf") refl, leave 32 refl refl refl), is, omega (arith, small_old), omega (arith, small_new));
          fits = rw (has, room, present_old, present_new) refl;
        };
      }

  pub tick_fits : (time : ℕ) → clock < time → time < 2 ^ 32 → ticks < 4096 → Fits before (said.Tick time)
  tick_fits time later small few =
      let more = decimal time ∷ [] in
      let all = joined_long (codes "tick") more in
      let size = decimal_short time small in
      let count = s.ticks_are in
      let now = s.time_is in
      let room = at_least 4096 (count_of is_tick before) (omega (arith, count, few)) in
      let passed = at_least time (clock_of before) (omega (arith, now, later)) in
      record {
        short = omega (arith, all, size);
        whole = joined_leave (codes "tick") more (plain_leaves 10 (codes "tick") refl, number_fields 10 time [] refl small tt);
        is_line = record {
          short = omega (arith, all, size);
          comes = ap (λ s. may_come (form_at before) s word.Tick) s.stage_is;
          spelled = (fields_joined (codes "tick") more (plain_leaves 32 (codes "tick") refl, number_fields 32 time [] refl small tt), omega (arith, small));
          fits = rw (room, passed) refl;
        };
      }

  pub rotate_fits : (name : List ℕ) → IsName name → has_name layout.names name ≡ true → rotates < 4096 → Fits before (said.Rotate name)
  rotate_fits name is known few =
      let more = name ∷ [] in
      let all = joined_long (codes "rotate") more in
      let short = name_short name is in
      let count = s.rotates_are in
      let room = at_least 4096 (count_of is_rotate before) (omega (arith, count, few)) in
      let has = known_name name known in
      record {
        short = omega (arith, all, short);
        whole = joined_leave (codes "rotate") more (plain_leaves 10 (codes "rotate") refl, name_fields 10 name [] refl is tt);
        is_line = record {
          short = omega (arith, all, short);
          comes = ap (λ s. may_come (form_at before) s word.Rotate) s.stage_is;
          spelled = (fields_joined (codes "rotate") more (plain_leaves 32 (codes "rotate") refl, name_fields 32 name [] refl is tt), is);
          fits = rw (has, room) refl;
        };
      }

  pub archive_fits : (name : List ℕ) → IsName name → has_name layout.names name ≡ true → IsFresh before → Fits before (said.Archive name)
  archive_fits name is known fresh =
      let more = name ∷ [] in
      let all = joined_long (codes "archive") more in
      let short = name_short name is in
      let has = known_name name known in
      record {
        short = omega (arith, all, short);
        whole = joined_leave (codes "archive") more (plain_leaves 10 (codes "archive") refl, name_fields 10 name [] refl is tt);
        is_line = record {
          short = omega (arith, all, short);
          comes = ap (λ s. may_come (form_at before) s word.Archive) s.stage_is;
          spelled = (fields_joined (codes "archive") more (plain_leaves 32 (codes "archive") refl, name_fields 32 name [] refl is tt), is);
          fits = rw (has, fresh) refl;
        };
      }

  pub watch_fits : (name : List ℕ) (packet : ℕ) → IsName name → has_name layout.names name ≡ true → packet < packets → packet < 65536 → Fits before (said.Watch name packet)
  watch_fits name packet is known there small =
      let more = name ∷ decimal packet ∷ [] in
      let all = joined_long (codes "watch") more in
      let size = decimal_short packet (omega (arith, small)) in
      let short = name_short name is in
      let present = is_there packet there in
      let has = known_name name known in
      let leave = λ (byte : ℕ) (n : is_name_byte byte ≡ false) (d : is_ascii_digit byte ≡ false). name_fields byte name (decimal packet ∷ []) n is (number_fields byte packet [] d (omega (arith, small)) tt) in
      record {
        short = omega (arith, all, size, short);
        whole = joined_leave (codes "watch") more (plain_leaves 10 (codes "watch") refl, leave 10 refl refl);
        is_line = record {
          short = omega (arith, all, size, short);
          comes = ap (λ s. may_come (form_at before) s word.Watch) s.stage_is;
          spelled = (fields_joined (codes "watch") more (plain_leaves 32 (codes "watch") refl, leave 32 refl refl), is, omega (arith, small));
          fits = rw (has, present) refl;
        };
      }

  pub query_fits : (name : List ℕ) (packet time : ℕ) → IsName name → has_name layout.names name ≡ true → packet < packets → packet < 65536 → time ≤ clock → time < 2 ^ 32 → queries < 256 → Fits before (said.Query name packet time)
  query_fits name packet time is known there small passed early few =
      let more = name ∷ decimal packet ∷ decimal time ∷ [] in
      let all = joined_long (codes "query") more in
      let size = decimal_short packet (omega (arith, small)) in
      let size_time = decimal_short time early in
      let short = name_short name is in
      let count = s.queries_are in
      let now = s.time_is in
      let room = at_least 256 (count_of is_query before) (omega (arith, count, few)) in
      let there_is = is_there packet there in
      let come = not_below (clock_of before) time (omega (arith, now, passed)) in
      let has = known_name name known in
      let leave = λ (byte : ℕ) (n : is_name_byte byte ≡ false) (d : is_ascii_digit byte ≡ false).
      name_fields byte name (decimal packet ∷ decimal time ∷ []) n is (number_fields byte packet (decimal time ∷ []) d (omega (arith, small)) (number_fields byte time [] d early tt)) in
      record {
        short = omega (arith, all, size, size_time, short);
        whole = joined_leave (codes "query") more (plain_leaves 10 (codes "query") refl, leave 10 refl refl);
        is_line = record {
          short = omega (arith, all, size, size_time, short);
          comes = ap (λ s. may_come (form_at before) s word.Query) s.stage_is;
          spelled = (fields_joined (codes "query") more (plain_leaves 32 (codes "query") refl, leave 32 refl refl), is, omega (arith, small), omega (arith, early));
          fits = rw (has, room, there_is, come) refl;
        };
      }

  pub end_fits : Fits before said.End
  end_fits = record {
    short = lit≤ tt;
    whole = plain_leaves 10 (line_of said.End) refl;
    is_line = record {
      short = lit≤ tt;
      comes = ap (λ s. may_come (form_at before) s word.End) s.stage_is;
      spelled = refl;
      fits = refl;
    };
  }
