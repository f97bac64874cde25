-- Reading a trace, line by line.
use Rattle.std.specs.Prelude.{ℕ, ◌+◌, ◌/◌, ◌^◌, List, [], ◌∷◌, ◌++◌, length, Bool, true, false, slice_set, ◌&&◌, ◌==◌, if◌then◌else◌, nat_le, nat_lt, Result, Ok, Err, codes}
use Rattle.std.specs.Str.{bytes_eq}
use Rattle.std.specs.declared.option.Option.{Option}
use Rattle.std.specs.declared.option.Option.TheVariants.{None, Some}
use Rattle.std.specs.Int.{w64, from_be_bytes}
use Rattle.hex.specs.Hex.{decode_sized}
use Rattle.hex.specs.declared.error.FromHexError.{FromHexError}
use Rattle.packet_signature.specs.Signature.{signature_of}
use Rattle.packet_signature.specs.declared.rows.Kind.{Kind}
use Rattle.packet_signature.specs.declared.rows.Kind.TheVariants as kind
use Rattle.spie_base.specs.Decimal.{number_in as decimal_in}
use Rattle.spie_base.specs.declared.types.Rules.{Rules}
use Rattle.spie_base.specs.declared.types.TheConstants.{K_MOST, N_LEAST, N_MOST}
use Rattle.topology.specs.Layout.{with_router, with_link}
use Rattle.trace_format.specs.Before.{Known, known_of, form_in, no_rules, number_of, shaped, whats, added}
use Rattle.trace_format.specs.Fault.{refusals}
use Rattle.trace_format.specs.Limits.{most_digits}
use Rattle.trace_format.specs.declared.limits.TheConstants.{MOST_BYTES, MOST_LINE_BYTES, MOST_TIME, MOST_NUMBER, MOST_DELAY}
use Rattle.line_text.specs.Answers.{◌>>=◌}
use Rattle.trace_format.specs.Said.{Said}
use Rattle.trace_format.specs.Said as said
use Rattle.trace_format.specs.Table.{first_broken}
use Rattle.line_text.specs.Reading as texts
use Rattle.line_text.specs.Reading.{Reader}
use Rattle.line_text.specs.Text.{fields}
use Rattle.trace_format.specs.Text.{is_name}
use Rattle.trace_format.specs.Trace.{trace_of}
use Rattle.trace_format.specs.Versions.{version_in}
use Rattle.trace_format.specs.Words.{word_text, may_come, is_over}
use Rattle.trace_format.specs.declared.items.Trace.{Trace}
use Rattle.trace_format.specs.declared.refused.TraceRefused.{TraceRefused}
use Rattle.trace_format.specs.declared.refused.WhyRefused.{WhyRefused}
use Rattle.trace_format.specs.declared.refused.WhyRefused.TheVariants as why
use Rattle.trace_format.specs.declared.words.Stage.TheVariants as stage
use Rattle.trace_format.specs.declared.words.Word.{Word}
use Rattle.trace_format.specs.declared.words.Word.TheVariants as word

abbrev pub number_by : Option ℕ → ℕ → Result ℕ WhyRefused
number_by None least = Err why.Field
number_by (Some n) least = if nat_lt n least then Err why.Field else Ok n

-- a field that is a number from least to most
unfoldable pub number : List ℕ → ℕ → ℕ → Result ℕ WhyRefused
number field least most = number_by (decimal_in field most) least

abbrev pub base_by : Result (List ℕ) FromHexError → Result ℕ WhyRefused
base_by (Ok bytes) = Ok (from_be_bytes w64 bytes)
base_by (Err e) = Err why.Field

-- 16 hex digits
unfoldable pub base_of : List ℕ → Result ℕ WhyRefused
base_of field = base_by (decode_sized field 8)

abbrev pub bytes_by : Result (List ℕ) FromHexError → Result (List ℕ) WhyRefused
bytes_by (Ok bytes) = Ok bytes
bytes_by (Err e) = Err why.Field

abbrev pub is_hex_size : List ℕ → Bool
is_hex_size field = nat_le 2 (length field) && nat_le (length field) most_digits

-- the hex digits of 1 to 1,500 bytes
unfoldable pub bytes_in : List ℕ → Result (List ℕ) WhyRefused
bytes_in field = if is_hex_size field then bytes_by (decode_sized field (length field / 2)) else Err why.Field

unfoldable pub kind_in : List ℕ → Result Kind WhyRefused
kind_in field =
    if bytes_eq field (codes "frag") then Ok kind.Frag else
    (if bytes_eq field (codes "nat") then Ok kind.Nat else
    (if bytes_eq field (codes "icmp") then Ok kind.Icmp else
    (if bytes_eq field (codes "ipip") then Ok kind.Ipip else
    (if bytes_eq field (codes "decap") then Ok kind.Decap else Err why.Field))))

-- whether a field is a name
unfoldable pub name_in : List ℕ → Result (Unit {0}) WhyRefused
name_in field = if is_name field then Ok tt else Err why.Field

unfoldable pub front_in : (n_most : ℕ) → (k n limit span : List ℕ) → Result Rules WhyRefused
front_in n_most k n limit span = do
  k ← number k 1 K_MOST
  n ← number n N_LEAST n_most
  limit ← number limit 1 (2 ^ n)
  span ← number span 1 MOST_TIME
  Ok (record no_rules { k = k; n = n; limit = limit; span = span })

unfoldable pub times_in : Rules → (keep age width base : List ℕ) → Result Rules WhyRefused
times_in rules keep age width base = do
  keep ← number keep 1 32
  age ← number age 1 MOST_TIME
  width ← number width 0 MOST_TIME
  base ← base_of base
  Ok (record rules { keep = keep; age = age; width = width; base = base })

unfoldable pub back_in : Rules → List (List ℕ) → Result Rules WhyRefused
back_in rules (keep ∷ age ∷ width ∷ base ∷ []) = times_in rules keep age width base
back_in rules _ = Err why.Fields

unfoldable pub shape_in : (n_most : ℕ) → List (List ℕ) → Result Rules WhyRefused
shape_in n_most (k ∷ n ∷ limit ∷ span ∷ back) = if length back == 4 then (front_in n_most k n limit span >>= (λ rules. back_in rules back)) else Err why.Fields
shape_in n_most _ = Err why.Fields

-- what is known with one more line
unfoldable pub grown : Known → Said → Known
grown known (said.Version version) = record known { version = version; stage = stage.Shape; read = known.read + 1 }
grown known (said.Shape rules) = record known { stage = stage.Declarations; read = known.read + 1; rules = rules }
grown known (said.Router name region) = record known { stage = stage.Declarations; read = known.read + 1; layout = with_router known.layout name region; shapes = known.shapes ++ known.rules ∷ [] }
grown known (said.Link one other delay) = record known { stage = stage.Declarations; read = known.read + 1; layout = with_link known.layout one other delay }
grown known (said.Pages name k n limit) = record known { stage = stage.Declarations; read = known.read + 1; shapes = slice_set known.shapes (number_of known.layout name) (shaped known.rules k n limit); paged = known.paged ++ number_of known.layout name ∷ [] }
grown known said.Begin = record known { stage = stage.Body; read = known.read + 1 }
grown known (said.Packet bytes) = record known { stage = stage.Body; read = known.read + 1; sigs = known.sigs ++ signature_of bytes ∷ [] }
grown known (said.Fwd name packet) = record known { stage = stage.Body; read = known.read + 1; records = known.records + 1; lines = added known.lines (known.read + 1) (whats known.layout (said.Fwd name packet)) }
grown known (said.Xf name kind old new) = record known { stage = stage.Body; read = known.read + 1; records = known.records + 1; lines = added known.lines (known.read + 1) (whats known.layout (said.Xf name kind old new)) }
grown known (said.Rotate name) = record known { stage = stage.Body; read = known.read + 1; rotates = known.rotates + 1; lines = added known.lines (known.read + 1) (whats known.layout (said.Rotate name)) }
grown known (said.Archive name) = record known { stage = stage.Body; read = known.read + 1; archived = known.archived ++ number_of known.layout name ∷ []; lines = added known.lines (known.read + 1) (whats known.layout (said.Archive name)) }
grown known (said.Watch name packet) = record known { stage = stage.Body; read = known.read + 1; lines = added known.lines (known.read + 1) (whats known.layout (said.Watch name packet)) }
grown known (said.Tick time) = record known { stage = stage.Body; read = known.read + 1; ticks = known.ticks + 1; clock = time; archived = []; lines = added known.lines (known.read + 1) (whats known.layout (said.Tick time)) }
grown known (said.Query name packet time) = record known { stage = stage.Body; read = known.read + 1; queries = known.queries + 1; archived = []; lines = added known.lines (known.read + 1) (whats known.layout (said.Query name packet time)) }
grown known said.End = record known { stage = stage.Over; read = known.read + 1; lines = added known.lines (known.read + 1) (whats known.layout said.End) }

abbrev pub judged_by : Option WhyRefused → Result (Unit {0}) WhyRefused
judged_by None = Ok tt
judged_by (Some why) = Err why

unfoldable pub judged : Known → Said → Result (Unit {0}) WhyRefused
judged known said = judged_by (first_broken known said)

-- one more line, if no rule refuses what it says
unfoldable pub accept : Known → Said → Result Known WhyRefused
accept known said = judged known said >>= (λ fits. Ok (grown known said))

unfoldable pub version_fields : Known → List ℕ → Result Known WhyRefused
version_fields known version = version_in version >>= (λ v. accept known (said.Version v))

unfoldable pub version_line : Known → List (List ℕ) → Result Known WhyRefused
version_line known (version ∷ []) = version_fields known version
version_line known _ = Err why.Fields

unfoldable pub shape_line : Known → List (List ℕ) → Result Known WhyRefused
shape_line known rest = do
  rules ← shape_in (form_in known).n_most rest
  accept known (said.Shape rules)

unfoldable pub router_fields : Known → (name region : List ℕ) → Result Known WhyRefused
router_fields known name region = do
  fits ← name_in name
  fits ← name_in region
  accept known (said.Router name region)

unfoldable pub router_line : Known → List (List ℕ) → Result Known WhyRefused
router_line known (name ∷ region ∷ []) = router_fields known name region
router_line known _ = Err why.Fields

unfoldable pub link_fields : Known → (one other : List ℕ) → Result Known WhyRefused
link_fields known one other = do
  fits ← name_in one
  fits ← name_in other
  accept known (said.Link one other 0)

unfoldable pub plain_link : Known → List (List ℕ) → Result Known WhyRefused
plain_link known (one ∷ other ∷ []) = link_fields known one other
plain_link known _ = Err why.Fields

unfoldable pub delayed_fields : Known → (one other delay : List ℕ) → Result Known WhyRefused
delayed_fields known one other delay = do
  fits ← name_in one
  fits ← name_in other
  delay ← number delay 0 MOST_DELAY
  accept known (said.Link one other delay)

unfoldable pub delayed_link : Known → List (List ℕ) → Result Known WhyRefused
delayed_link known (one ∷ other ∷ delay ∷ []) = delayed_fields known one other delay
delayed_link known _ = Err why.Fields

-- by whether links have delays
abbrev pub link_by : Bool → Known → List (List ℕ) → Result Known WhyRefused
link_by false known rest = plain_link known rest
link_by true known rest = delayed_link known rest

unfoldable pub link_line : Known → List (List ℕ) → Result Known WhyRefused
link_line known rest = link_by (form_in known).has_delays known rest

unfoldable pub pages_fields : Known → (name k n limit : List ℕ) → Result Known WhyRefused
pages_fields known name k n limit = do
  fits ← name_in name
  k ← number k 1 K_MOST
  n ← number n N_LEAST N_MOST
  limit ← number limit 1 (2 ^ n)
  accept known (said.Pages name k n limit)

unfoldable pub pages_line : Known → List (List ℕ) → Result Known WhyRefused
pages_line known (name ∷ k ∷ n ∷ limit ∷ []) = pages_fields known name k n limit
pages_line known _ = Err why.Fields

unfoldable pub begin_line : Known → List (List ℕ) → Result Known WhyRefused
begin_line known [] = accept known said.Begin
begin_line known _ = Err why.Fields

unfoldable pub packet_line : Known → List (List ℕ) → Result Known WhyRefused
packet_line known (digits ∷ []) = do
  bytes ← bytes_in digits
  accept known (said.Packet bytes)
packet_line known _ = Err why.Fields

unfoldable pub fwd_fields : Known → (name packet : List ℕ) → Result Known WhyRefused
fwd_fields known name packet = do
  fits ← name_in name
  packet ← number packet 0 MOST_NUMBER
  accept known (said.Fwd name packet)

unfoldable pub fwd_line : Known → List (List ℕ) → Result Known WhyRefused
fwd_line known (name ∷ packet ∷ []) = fwd_fields known name packet
fwd_line known _ = Err why.Fields

unfoldable pub xf_fields : Known → (name kind old new : List ℕ) → Result Known WhyRefused
xf_fields known name kind old new = do
  fits ← name_in name
  kind ← kind_in kind
  old ← number old 0 MOST_NUMBER
  new ← number new 0 MOST_NUMBER
  accept known (said.Xf name kind old new)

unfoldable pub xf_line : Known → List (List ℕ) → Result Known WhyRefused
xf_line known (name ∷ kind ∷ old ∷ new ∷ []) = xf_fields known name kind old new
xf_line known _ = Err why.Fields

unfoldable pub rotate_line : Known → List (List ℕ) → Result Known WhyRefused
rotate_line known (name ∷ []) = do
  fits ← name_in name
  accept known (said.Rotate name)
rotate_line known _ = Err why.Fields

unfoldable pub archive_line : Known → List (List ℕ) → Result Known WhyRefused
archive_line known (name ∷ []) = do
  fits ← name_in name
  accept known (said.Archive name)
archive_line known _ = Err why.Fields

unfoldable pub watch_fields : Known → (name packet : List ℕ) → Result Known WhyRefused
watch_fields known name packet = do
  fits ← name_in name
  packet ← number packet 0 MOST_NUMBER
  accept known (said.Watch name packet)

unfoldable pub watch_line : Known → List (List ℕ) → Result Known WhyRefused
watch_line known (name ∷ packet ∷ []) = watch_fields known name packet
watch_line known _ = Err why.Fields

unfoldable pub tick_line : Known → List (List ℕ) → Result Known WhyRefused
tick_line known (time ∷ []) = do
  time ← number time 0 MOST_TIME
  accept known (said.Tick time)
tick_line known _ = Err why.Fields

unfoldable pub query_fields : Known → (name packet time : List ℕ) → Result Known WhyRefused
query_fields known name packet time = do
  fits ← name_in name
  packet ← number packet 0 MOST_NUMBER
  time ← number time 0 MOST_TIME
  accept known (said.Query name packet time)

unfoldable pub query_line : Known → List (List ℕ) → Result Known WhyRefused
query_line known (name ∷ packet ∷ time ∷ []) = query_fields known name packet time
query_line known _ = Err why.Fields

unfoldable pub end_line : Known → List (List ℕ) → Result Known WhyRefused
end_line known [] = accept known said.End
end_line known _ = Err why.Fields

-- the word that a field is
unfoldable pub word_of : List ℕ → Option Word
word_of field =
    if bytes_eq field (word_text word.Fwd) then Some word.Fwd else
    (if bytes_eq field (word_text word.Packet) then Some word.Packet else
    (if bytes_eq field (word_text word.Xf) then Some word.Xf else
    (if bytes_eq field (word_text word.Watch) then Some word.Watch else
    (if bytes_eq field (word_text word.Tick) then Some word.Tick else
    (if bytes_eq field (word_text word.Query) then Some word.Query else
    (if bytes_eq field (word_text word.Rotate) then Some word.Rotate else
    (if bytes_eq field (word_text word.Archive) then Some word.Archive else
    (if bytes_eq field (word_text word.End) then Some word.End else
    (if bytes_eq field (word_text word.Router) then Some word.Router else
    (if bytes_eq field (word_text word.Link) then Some word.Link else
    (if bytes_eq field (word_text word.Begin) then Some word.Begin else
    (if bytes_eq field (word_text word.Pages) then Some word.Pages else
    (if bytes_eq field (word_text word.Shape) then Some word.Shape else
    (if bytes_eq field (word_text word.Trace) then Some word.Trace else None))))))))))))))

-- one more line, by its word and the fields behind it
unfoldable pub line_by : Known → Word → List (List ℕ) → Result Known WhyRefused
line_by known word.Trace rest = version_line known rest
line_by known word.Shape rest = shape_line known rest
line_by known word.Router rest = router_line known rest
line_by known word.Link rest = link_line known rest
line_by known word.Pages rest = pages_line known rest
line_by known word.Begin rest = begin_line known rest
line_by known word.Packet rest = packet_line known rest
line_by known word.Fwd rest = fwd_line known rest
line_by known word.Xf rest = xf_line known rest
line_by known word.Rotate rest = rotate_line known rest
line_by known word.Archive rest = archive_line known rest
line_by known word.Watch rest = watch_line known rest
line_by known word.Tick rest = tick_line known rest
line_by known word.Query rest = query_line known rest
line_by known word.End rest = end_line known rest

abbrev pub by_word : Known → Option Word → List (List ℕ) → Result Known WhyRefused
by_word known None rest = Err why.Word
by_word known (Some w) rest = if may_come (form_in known) known.stage w then line_by known w rest else Err why.Word

abbrev pub by_fields : Known → List (List ℕ) → Result Known WhyRefused
by_fields known [] = Err why.Word
by_fields known (w ∷ rest) = by_word known (word_of w) rest

-- what is known with one more line, or the rule that the line breaks
unfoldable pub read_line : Known → List ℕ → Result Known WhyRefused
read_line known text = if nat_lt MOST_LINE_BYTES (length text) then Err why.Length else by_fields known (fields text)

-- what is known of a trace's lines, and how one more is read
abbrev pub reader : Reader Said Known WhyRefused Trace
reader = record {
  known_of = known_of;
  is_over = λ known. is_over known.stage;
  count = λ known. known.read;
  read_line = read_line;
  value_of = trace_of;
}

-- one more line of a text was read, and this stands behind it
abbrev pub IsNext : (known new : Known) (text after : List ℕ) → Type 0
IsNext known new text after = texts.IsNext reader known new text after

-- one line after another
unfoldable pub read_lines : Known → List (List ℕ) → Result Known TraceRefused
read_lines known parts = texts.read_lines refusals reader known parts

-- the trace that a text is, or its fault
unfoldable pub read_of : List ℕ → Result Trace TraceRefused
read_of text = texts.read_text refusals reader MOST_BYTES text
