-- A line that was read in one pass over its bytes is one that is read by its fields.
use Rattle.std.proofs.Common.{ℕ, ◌≡◌, ◌≢◌, ◌+◌, ◌-◌, ◌≤◌, ◌<◌, ◌^◌, List, [], ◌∷◌, ◌++◌, length, take, drop, get_or, refl, ap, arith, sym, ◌∙◌, Ok, Err, true, false, cond, ◌==◌, nat_lt, nat_le, append_assoc, length-append, codes}
use Rattle.std.proofs.lemmas.Bool.Decides.{nat_tests}
use Rattle.std.proofs.lemmas.List.{take-append-drop, drop_more, take_all, length-take-le, length-drop, get_or-take}
use Rattle.std.specs.Fmt.{decimal}
use Rattle.std.specs.List.{slice_split}
use Rattle.std.specs.Str.Parse.{AllDigits, digits_value}
use Rattle.spie_base.proofs.Booleans.{both_held}
use Rattle.spie_base.proofs.Bounds.{within}
use Rattle.spie_base.proofs.DecimalText.{whole}
use Rattle.trace_format.specs.Before.{Known, form_in}
use Rattle.trace_format.specs.ForwardLine.{HasName, HasNumber, BeginsForward}
use Rattle.trace_format.specs.Outcomes.{Fails, Ends, stopped}
use Rattle.trace_format.specs.Reading.{IsNext, accept, read_line, reader, read_lines}
use Rattle.trace_format.specs.Said as said
use Rattle.trace_format.specs.Spelling.{IsName}
use Rattle.line_text.specs.Text.{fields, lines}
use Rattle.trace_format.specs.Text.{is_name_byte}
use Rattle.trace_format.specs.Words.{may_come}
use Rattle.trace_format.specs.declared.limits.TheConstants.{MOST_NUMBER, MOST_LINE_BYTES}
use Rattle.trace_format.specs.declared.refused.WhyRefused.TheVariants as why
use Rattle.trace_format.specs.declared.steps.Stop.{Stop}
use Rattle.trace_format.specs.declared.words.Word.TheVariants as word
use Rattle.trace_format.proofs.Again.{spelled_reads}
use Rattle.trace_format.proofs.Stages.{open_stage}
use Rattle.line_text.proofs.Fields.{leaves_tested, number_leaves, three_fields, three_leave, cut_line}
use Rattle.line_text.proofs.NextLines.{read_bad}
use Rattle.line_text.specs.Fields.{LeavesOut}
use Rattle.trace_format.proofs.Stops.{stops}
use Rattle.trace_format.specs.Fault.{refusals}

-- a part of a text, and what stands behind the byte after it
pub parted : (text : List ℕ) (n b : ℕ) → n < length text → get_or text n 0 ≡ b → text ≡ take n text ++ b ∷ drop (n + 1) text
parted text n b lt is =
    let d = drop_more text n 0 lt in
    sym (take-append-drop n text) ∙ ap (λ z. take n text ++ z) (d ∙ ap (λ z. z ∷ drop (n + 1) text) is)

-- all that stands behind a place
pub whole_rest : (text : List ℕ) (n : ℕ) → take (length text - n) (drop n text) ≡ drop n text
whole_rest text n = take_all (length text - n) (drop n text) (let l = length-drop n text in omega (arith, l))

pub numbered : (text : List ℕ) (n v : ℕ) → n ≢ 0 → n ≤ 5 → n < length text → AllDigits 10 (take n text) → v ≡ digits_value 10 (take n text) → v ≤ MOST_NUMBER → (1 < n → get_or text 0 0 ≢ 48) → get_or text n 0 ≡ 10 → HasNumber text v (drop (n + 1) text)
numbered text n v some few lt digits value most plain end =
    let len : length (take n text) ≡ n = length-take-le n text (omega arith) in
    let t : take n (take n text) ≡ take n text = take_all n (take n text) (omega (arith, len)) in
    let z : get_or (take n text) 0 0 ≡ get_or text 0 0 = get_or-take n text 0 0 (omega arith) in
    let alone : get_or (take n text) 0 0 ≡ 48 → length (take n text) ≡ 1 = λ e. grind arith in
    let is : take n text ≡ decimal v = whole (take n text) n v (omega (arith, len)) (rw t digits) (rw t value) (omega (arith, len)) alone (omega arith) in
    record {
      is = parted text n 10 lt end ∙ ap (λ z. z ++ 10 ∷ drop (n + 1) text) is;
      most = most;
      short = rw (← is) (omega (arith, len));
    }

pub name_leaves : (byte : ℕ) (name : List ℕ) → is_name_byte byte ≡ false → IsName name → LeavesOut byte name
name_leaves byte name out e = leaves_tested is_name_byte byte name out (both_held _ _ e).1

-- the line of a packet that a router forwards
abbrev pub line_of : List ℕ → ℕ → List ℕ
line_of name n = codes "fwd" ++ 32 ∷ name ++ 32 ∷ decimal n

whole_line : (name rest after : List ℕ) (n : ℕ) → rest ≡ decimal n ++ 10 ∷ after → codes "fwd" ++ 32 ∷ name ++ 32 ∷ rest ≡ line_of name n ++ 10 ∷ after
whole_line name rest after n is = rw is (ap (λ z. codes "fwd" ++ 32 ∷ z) (sym (append_assoc name (32 ∷ decimal n) (10 ∷ after))))

pub fields_are : (name : List ℕ) (n : ℕ) → IsName name → n < 2 ^ 64 → fields (line_of name n) ≡ codes "fwd" ∷ name ∷ decimal n ∷ []
fields_are name n e small = three_fields (codes "fwd") name (decimal n) refl (name_leaves 32 name refl e) (number_leaves 32 n refl small)

pub line_leaves : (name : List ℕ) (n : ℕ) → IsName name → n < 2 ^ 64 → LeavesOut 10 (line_of name n)
line_leaves name n e small = three_leave (codes "fwd") name (decimal n) refl (name_leaves 10 name refl e) (number_leaves 10 n refl small)

few_by : (n : ℕ) → nat_le n 16 ≡ true → n ≤ 16
few_by n e = grind (arith, nat_tests)

pub name_short : (name : List ℕ) → IsName name → length name ≤ 16
name_short name e = few_by (length name) (both_held _ _ (both_held _ _ (both_held _ _ e).0).0).1

line_long : (name : List ℕ) (n : ℕ) → length (line_of name n) ≡ 5 + length name + length (decimal n)
line_long name n = let a = length-append name (32 ∷ decimal n) in omega (arith, a)

pub begins : (text rest name then after : List ℕ) (n : ℕ) → text ≡ codes "fwd" ++ 32 ∷ rest → HasName rest name then → HasNumber then n after → BeginsForward text name n after
begins text rest name then after n is h k =
    let small : n < 2 ^ 64 = omega (arith, k.most) in
    let all : text ≡ line_of name n ++ 10 ∷ after = is ∙ ap (λ z. codes "fwd" ++ 32 ∷ z) h.is ∙ whole_line name then after n k.is in
    let long = ap length all ∙ length-append (line_of name n) (10 ∷ after) in
    record {
      line = line_of name n;
      cut = record {
        cut = ap (slice_split (λ b. b == 10)) all ∙ cut_line (line_of name n) after (line_leaves name n h.spelled small);
        shorter = omega (arith, long);
      };
      short = (let a = line_long name n in let b = name_short name h.spelled in omega (arith, a, b, k.short));
      spelled = λ form. (fields_are name n h.spelled small, h.spelled, k.most);
    }

-- a line that says this is judged by its rules alone
line_reads : (known : Known) (text name after : List ℕ) (n : ℕ) (b : BeginsForward text name n after) → may_come (form_in known) known.stage word.Fwd ≡ true → read_line known b.line ≡ accept known (said.Fwd name n)
unfolding read_line
line_reads known text name after n b comes =
    let t : nat_lt MOST_LINE_BYTES (length b.line) ≡ false = within MOST_LINE_BYTES (length b.line) b.short in
    rw t (spelled_reads known (said.Fwd name n) (fields b.line) (b.spelled (form_in known)) ∙ ap (λ z. cond z (accept known (said.Fwd name n)) (Err why.Word)) comes)

pub forward_read : (known new : Known) (text name after : List ℕ) (n : ℕ) → BeginsForward text name n after → may_come (form_in known) known.stage word.Fwd ≡ true → accept known (said.Fwd name n) ≡ Ok new → IsNext known new text after
forward_read known new text name after n b comes e = record {
  line = b.line;
  cut = b.cut;
  before_end = open_stage (form_in known) known.stage word.Fwd comes;
  reads = line_reads known text name after n b comes ∙ e;
}

pub forward_bad : (known : Known) (text name after : List ℕ) (n : ℕ) (e : Stop) → BeginsForward text name n after → may_come (form_in known) known.stage word.Fwd ≡ true → Fails e (accept known (said.Fwd name n)) → Ends (stopped e (known.read + 1)) (read_lines known (lines text))
unfolding read_lines
forward_bad known text name after n e b comes f =
    stops e _ _ _ f (λ why bad. read_bad refusals reader known text b.line after why b.cut (open_stage (form_in known) known.stage word.Fwd comes) (line_reads known text name after n b comes ∙ bad))
