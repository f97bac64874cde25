-- Each trace is sound.
use Rattle.std.proofs.Common.{ℕ, ◌≡◌, ◌+◌, ◌≤◌, ◌<◌, ◌≢◌, ◌^◌, List, [], ◌∷◌, ◌++◌, length, refl, arith, ◌∙◌, sym, subst, Bool, true, false, nat_le, lit≤, length-append}
use Rattle.std.proofs.lemmas.List.Elements.{All-nil, All-push, All-set}
use Rattle.std.specs.List.{All}
use Rattle.packet_signature.specs.Signature.{signature_of}
use Rattle.spie_base.proofs.Booleans.{none_held}
use Rattle.spie_base.proofs.Bounds.{is_within}
use Rattle.spie_base.specs.Shapes.{AreInRange}
use Rattle.spie_base.specs.declared.types.Rules.{Rules}
use Rattle.topology.proofs.Sound.{sound_is_kept}
use Rattle.topology.specs.Layout.{IsSound as IsSoundLayout}
use Rattle.trace_format.proofs.Stages.{open_stage}
use Rattle.trace_format.proofs.FewLines.{few_kept}
use Rattle.trace_format.proofs.MoreLines.{Covers, one_archived, AreOpen, open_push, one_end, LinesHold, at_first, same_lines, one_line}
use Rattle.trace_format.proofs.Names.{names_of}
use Rattle.trace_format.proofs.Unbroken.{Unbroken, unbroken, above, named, there, router_fits, link_fits}
use Rattle.line_text.proofs.Readings.{along}
use Rattle.line_text.specs.Language.{Begins, how_many}
use Rattle.trace_format.specs.Before.{Known, known_of, form_at, version_of, rules_of, shapes_of, shaped, layout_of, sigs_of, lines_of, router_of, number_of}
use Rattle.trace_format.specs.Said.{Said}
use Rattle.trace_format.specs.Said as said
use Rattle.trace_format.specs.Sound.{IsSound, IsFit, HasOneEnd}
use Rattle.trace_format.proofs.FieldForms.{most_few}
use Rattle.spie_base.specs.declared.types.TheConstants.{N_MOST}
use Rattle.std.proofs.lemmas.List.{length_push, length-set}
use Rattle.trace_format.specs.Spelling.{Spells, SpellsLink, ArePages, IsName, IsFront, IsBack}
use Rattle.trace_format.specs.Table.{breaks}
use Rattle.trace_format.specs.Trace.{traces, IsLine, IsTrace}
use Rattle.trace_format.specs.Words.{stage_of, word_said, is_over}
use Rattle.trace_format.specs.declared.items.Line.{Line}
use Rattle.trace_format.specs.declared.items.Trace.{Trace}
use Rattle.trace_format.specs.declared.items.What.{What}
use Rattle.trace_format.specs.declared.items.What.TheVariants.{Fwd, Xf, Rotate, Archive, Watch, Tick, Query, End}
use Rattle.trace_format.specs.declared.limits.TheConstants.{MOST_PACKETS, MOST_RECORDS, MOST_TIME}

-- before `end` no line is the end, and behind it one is
abbrev EndsBy : Bool → List Line → Type 0
EndsBy true lines = HasOneEnd lines
EndsBy false lines = AreOpen lines

shape_of : (rules : Rules) → IsFront N_MOST rules → AreInRange rules.k rules.n
shape_of rules front = record { k_least = front.k.0; k_most = front.k.1; n_least = front.n.0; n_most = (let h = front.n.1 in omega (arith, h)) }

-- what is so of the lines so far
pub record Holds (known : Known) : Type 0 where
  pub front : IsFront N_MOST known.rules
  pub back : IsBack known.rules
  pub topology : IsSoundLayout known.layout
  pub shapes : length known.shapes ≡ length known.layout.names
  pub fits : All IsFit known.shapes
  pub spelled : All IsName known.layout.names
  pub few_packets : length known.sigs ≤ MOST_PACKETS
  pub few_records : known.records ≤ MOST_RECORDS
  pub lines : LinesHold (length known.layout.names) (length known.sigs) known.read known.clock known.archived known.records known.lines
  pub ends : EndsBy (is_over known.stage) known.lines

none_yet : (known : Known) → Holds known → is_over known.stage ≡ false → AreOpen known.lines
none_yet known h e = let P : Bool → Type 0 = λ b. EndsBy b known.lines in subst P e h.ends

longer : {A : Type 0} (xs : List A) (x : A) → length xs ≤ length (xs ++ x ∷ [])
longer xs x = grind (arith, length-append)

one_longer : {A : Type 0} (xs : List A) (x : A) (most : ℕ) → length xs < most → length (xs ++ x ∷ []) ≤ most
one_longer xs x most h = grind (arith, length-append)

one_up : (n most : ℕ) → nat_le most n ≡ false → n + 1 ≤ most
one_up n most e = let h = above most n e in omega (arith, h)

in_time : (time : ℕ) → time ≤ MOST_TIME → time < 2 ^ 48
in_time time h = omega (arith, h)

-- what a line leaves as it is
keeps : (archived : List ℕ) (w : What) → ((others : List ℕ) → Covers archived others → Covers archived others)
keeps archived w others c = c

abbrev line_of : (before : List Said) → What → Line
line_of before what = record { number = how_many before + 1; what = what }

-- the lines before are kept as they are
same : (before : List Said) (more_n more_m : ℕ) (h : Holds (known_of before)) → length (layout_of before).names ≤ more_n → length (sigs_of before) ≤ more_m → LinesHold more_n more_m (how_many before + 1) (known_of before).clock (known_of before).archived (known_of before).records (lines_of before)
same before more_n more_m h p q = same_lines more_n more_m (how_many before + 1) p q (omega arith) h.lines

-- a line that declares a router
with_router : (before : List Said) (name region : List ℕ) → Holds (known_of before) → IsName name → Unbroken (breaks (known_of before) (said.Router name region)) → AreOpen (lines_of before) → Holds (known_of (said.Router name region ∷ before))
with_router before name region h p u o = record {
  front = h.front;
  back = h.back;
  topology = sound_is_kept.router (layout_of before) name region h.topology (router_fits (layout_of before) name region u.double_name u.too_many);
  shapes = (let a = length_push (shapes_of before) (rules_of before) in let b = length_push (layout_of before).names name in let e = h.shapes in omega (arith, a, b, e));
  fits = All-push IsFit (shapes_of before) (rules_of before) h.fits (record { front = h.front; back = h.back; shape = shape_of _ h.front });
  spelled = All-push IsName (layout_of before).names name h.spelled p;
  few_packets = h.few_packets;
  few_records = h.few_records;
  lines = same before _ _ h (longer (layout_of before).names name) (omega arith);
  ends = o;
}

-- a line that declares a link
with_link : (before : List Said) (one other : List ℕ) (d : ℕ) → Holds (known_of before) → d < 2 ^ 32 → Unbroken (breaks (known_of before) (said.Link one other d)) → AreOpen (lines_of before) → Holds (known_of (said.Link one other d ∷ before))
with_link before one other d h small u o = record {
  front = h.front;
  back = h.back;
  topology = sound_is_kept.link (layout_of before) one other d h.topology (link_fits (known_of before) one other u.no_name u.self_link u.double_link u.too_many) small;
  shapes = h.shapes;
  fits = h.fits;
  spelled = h.spelled;
  few_packets = h.few_packets;
  few_records = h.few_records;
  lines = same before _ _ h (omega arith) (omega arith);
  ends = o;
}

-- a shape line's N is no more than a router's may be
widened : (most : ℕ) (r : Rules) → most ≤ N_MOST → IsFront most r → IsFront N_MOST r
widened most r few f = record { k = f.k; n = (let a = f.n.0 in let b = f.n.1 in (a, omega (arith, b, few))); limit = f.limit; span = f.span }

-- pages of a router's own
shaped_fits : (rules : Rules) (k n limit : ℕ) → IsFront N_MOST rules → IsBack rules → ArePages k n limit → IsFit (shaped rules k n limit)
shaped_fits rules k n limit f b p = record { front = record { k = p.marks; n = p.size; limit = p.full; span = f.span }; back = record { keep = b.keep; age = b.age; width = b.width }; shape = record { k_least = p.marks.0; k_most = p.marks.1; n_least = p.size.0; n_most = p.size.1 } }

-- the link's delay is below 2^32
delay_small : (has : Bool) (one other : List ℕ) (d : ℕ) (parts : List (List ℕ)) → SpellsLink has one other d parts → d < 2 ^ 32
delay_small false one other d parts s = let e = s.3 in omega (arith, e)
delay_small true one other d parts s = let e = s.3 in omega (arith, e)

holds : (before : List Said) (s : Said) (parts : List (List ℕ)) → Holds (known_of before) → AreOpen (lines_of before) → Spells (form_at before) s parts → Unbroken (breaks (known_of before) s) → Holds (known_of (s ∷ before))
holds before (said.Version v) parts h o p u = record { front = h.front; back = h.back; topology = h.topology; shapes = h.shapes; fits = h.fits; spelled = h.spelled; few_packets = h.few_packets; few_records = h.few_records; lines = same before _ _ h (omega arith) (omega arith); ends = o }
holds before (said.Shape r) parts h o p u = record { front = widened (form_at before).n_most r (most_few (version_of before)) p.2; back = p.3; topology = h.topology; shapes = h.shapes; fits = h.fits; spelled = h.spelled; few_packets = h.few_packets; few_records = h.few_records; lines = same before _ _ h (omega arith) (omega arith); ends = o }
holds before (said.Router name region) parts h o p u = with_router before name region h p.1 u o
holds before (said.Link one other d) parts h o p u = with_link before one other d h (delay_small (form_at before).has_delays one other d parts p) u o
holds before (said.Pages name k n limit) parts h o p u = record {
  front = h.front;
  back = h.back;
  topology = h.topology;
  shapes = length-set (shapes_of before) (number_of (layout_of before) name) (shaped (rules_of before) k n limit) ∙ h.shapes;
  fits = All-set IsFit (shapes_of before) (number_of (layout_of before) name) (shaped (rules_of before) k n limit) (shaped_fits (rules_of before) k n limit h.front h.back p.2) h.fits;
  spelled = h.spelled;
  few_packets = h.few_packets;
  few_records = h.few_records;
  lines = same before _ _ h (omega arith) (omega arith);
  ends = o;
}
holds before said.Begin parts h o p u = record { front = h.front; back = h.back; topology = h.topology; shapes = h.shapes; fits = h.fits; spelled = h.spelled; few_packets = h.few_packets; few_records = h.few_records; lines = same before _ _ h (omega arith) (omega arith); ends = o }
holds before (said.Packet bytes) parts h o p u =
    record { front = h.front; back = h.back; topology = h.topology; shapes = h.shapes; fits = h.fits; spelled = h.spelled; few_packets = one_longer (sigs_of before) (signature_of bytes) MOST_PACKETS (above _ _ u.too_many); few_records = h.few_records; lines = same before _ _ h (omega arith) (longer (sigs_of before) (signature_of bytes)); ends = o }
holds before (said.Fwd name packet) parts h o p u =
    let w : What = Fwd (router_of (layout_of before) name) packet in
    let q = one_line (known_of before).archived w h.lines (named (known_of before) name u.no_name, there (known_of before) packet u.no_packet) tt tt tt (keeps _ w) in
    record { front = h.front; back = h.back; topology = h.topology; shapes = h.shapes; fits = h.fits; spelled = h.spelled; few_packets = h.few_packets; few_records = one_up _ _ u.too_many; lines = q; ends = open_push (lines_of before) (line_of before w) o refl }
holds before (said.Xf name kind old new) parts h o p u =
    let m = none_held _ _ u.no_packet in
    let w : What = Xf (router_of (layout_of before) name) kind old new in
    let q = one_line (known_of before).archived w h.lines (named (known_of before) name u.no_name, there (known_of before) old m.0, there (known_of before) new m.1) tt tt tt (keeps _ w) in
    record { front = h.front; back = h.back; topology = h.topology; shapes = h.shapes; fits = h.fits; spelled = h.spelled; few_packets = h.few_packets; few_records = one_up _ _ u.too_many; lines = q; ends = open_push (lines_of before) (line_of before w) o refl }
holds before (said.Rotate name) parts h o p u =
    let w : What = Rotate (router_of (layout_of before) name) in
    let q = one_line (known_of before).archived w h.lines (named (known_of before) name u.no_name) tt tt tt (keeps _ w) in
    record { front = h.front; back = h.back; topology = h.topology; shapes = h.shapes; fits = h.fits; spelled = h.spelled; few_packets = h.few_packets; few_records = h.few_records; lines = q; ends = open_push (lines_of before) (line_of before w) o refl }
holds before (said.Archive name) parts h o p u =
    let w : What = Archive (router_of (layout_of before) name) in
    let a = number_of (layout_of before) name in
    let q = one_line ((known_of before).archived ++ a ∷ []) w h.lines (named (known_of before) name u.no_name) tt tt u.twice (one_archived (known_of before).archived a) in
    record { front = h.front; back = h.back; topology = h.topology; shapes = h.shapes; fits = h.fits; spelled = h.spelled; few_packets = h.few_packets; few_records = h.few_records; lines = q; ends = open_push (lines_of before) (line_of before w) o refl }
holds before (said.Watch name packet) parts h o p u =
    let w : What = Watch (router_of (layout_of before) name) packet in
    let q = one_line (known_of before).archived w h.lines (named (known_of before) name u.no_name, there (known_of before) packet u.no_packet) tt tt tt (keeps _ w) in
    record { front = h.front; back = h.back; topology = h.topology; shapes = h.shapes; fits = h.fits; spelled = h.spelled; few_packets = h.few_packets; few_records = h.few_records; lines = q; ends = open_push (lines_of before) (line_of before w) o refl }
holds before (said.Tick time) parts h o p u =
    let w : What = Tick time in
    let q = one_line [] w h.lines tt (above _ _ u.clock) (in_time time p.1) tt (λ others c r z. refl) in
    record { front = h.front; back = h.back; topology = h.topology; shapes = h.shapes; fits = h.fits; spelled = h.spelled; few_packets = h.few_packets; few_records = h.few_records; lines = q; ends = open_push (lines_of before) (line_of before w) o refl }
holds before (said.Query name packet time) parts h o p u =
    let w : What = Query (router_of (layout_of before) name) packet time in
    let q = one_line [] w h.lines (named (known_of before) name u.no_name, there (known_of before) packet u.no_packet) (is_within _ _ u.clock) (in_time time p.3) tt (λ others c r z. refl) in
    record { front = h.front; back = h.back; topology = h.topology; shapes = h.shapes; fits = h.fits; spelled = h.spelled; few_packets = h.few_packets; few_records = h.few_records; lines = q; ends = open_push (lines_of before) (line_of before w) o refl }
holds before said.End parts h o p u =
    let q = one_line (known_of before).archived End h.lines tt tt tt tt (λ others c r z. refl) in
    record { front = h.front; back = h.back; topology = h.topology; shapes = h.shapes; fits = h.fits; spelled = h.spelled; few_packets = h.few_packets; few_records = h.few_records; lines = q; ends = one_end (lines_of before) (line_of before End) o refl }

at_start : Holds (known_of [])
at_start = record {
  front = record { k = (lit≤ tt, lit≤ tt); n = (lit≤ tt, lit≤ tt); limit = (lit≤ tt, lit≤ tt); span = (lit≤ tt, lit≤ tt) };
  back = record { keep = (lit≤ tt, lit≤ tt); age = (lit≤ tt, lit≤ tt); width = lit≤ tt };
  topology = sound_is_kept.at_start;
  shapes = refl;
  fits = All-nil IsFit;
  spelled = All-nil IsName;
  few_packets = lit≤ tt;
  few_records = lit≤ tt;
  lines = at_first;
  ends = All-nil (λ line. line.what ≢ End);
}

one_more : (before : List Said) (line : List ℕ) (s : Said) → Holds (known_of before) → IsLine before line s → Holds (known_of (s ∷ before))
one_more before line s h l =
    let o = none_yet (known_of before) h (open_stage (form_at before) (stage_of before) (word_said s) l.comes) in
    holds before s _ h o l.spelled (unbroken (breaks (known_of before) s) l.fits)

all_hold : (parts : List (List ℕ)) (said : List Said) (rest : List (List ℕ)) → Begins traces parts said rest → Holds (known_of said)
all_hold parts said rest b = along traces (λ said. Holds (known_of said)) at_start one_more parts said rest b

ended : (known : Known) → Holds known → is_over known.stage ≡ true → HasOneEnd known.lines
ended known h e = let P : Bool → Type 0 = λ b. EndsBy b known.lines in subst P e h.ends

few_recorded : (n recorded most : ℕ) → n ≡ recorded → recorded ≤ most → n ≤ most
few_recorded n recorded most e h = omega (arith, e, h)

pub trace_is_sound : (text : List ℕ) (trace : Trace) → IsTrace text trace → IsSound trace
trace_is_sound text trace t =
    let P : Trace → Type 0 = λ v. IsSound v in
    let h = all_hold _ t.said _ t.lines_say in
    subst P (sym t.value_is) (record {
      front = h.front;
      back = h.back;
      shape = shape_of _ h.front;
      topology = h.topology;
      shapes = h.shapes;
      fits = h.fits;
      names = names_of (layout_of t.said).names h.spelled h.topology.names;
      few_packets = h.few_packets;
      few_records = few_recorded _ _ _ h.lines.recorded_are h.few_records;
      few = few_kept text t.said t.fits t.lines_say t.ended;
      within = h.lines.within;
      timed = h.lines.timed;
      times = h.lines.times;
      once = h.lines.once;
      rising = h.lines.rising;
      ended = ended (known_of t.said) h t.ended;
    })
