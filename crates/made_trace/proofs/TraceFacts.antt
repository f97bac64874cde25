-- The made text is the made trace.
use Rattle.std.proofs.Common.{ℕ, zero, suc, ◌≡◌, ◌∙◌, ◌+◌, ◌-◌, ◌*◌, ◌/◌, ◌%◌, ◌==◌, ◌^◌, ◌≤◌, ◌<◌, List, [], ◌∷◌, ◌++◌, refl, sym, subst, arith, length, length-append, lit≤, Bool, true, false, cond}
use Rattle.line_text.specs.Language.{Begins}
use Rattle.line_text.specs.Text.{lines}
use Rattle.trace_format.specs.Said.{Said}
use Rattle.trace_format.specs.Said as said
use Rattle.trace_format.specs.Trace.{IsTrace, traces}
use Rattle.trace_format.specs.Words.{is_over, stage_of}
use Rattle.made_trace.specs.Draws.{hops, is_changed}
use Rattle.made_trace.specs.declared.draws.Draw.{Draw}
use Rattle.made_trace.specs.Fitting.{AllFit}
use Rattle.made_trace.specs.Lines.{line_of, lines_text, said_line}
use Rattle.made_trace.specs.Made.{asking, behind, body, changed, crossing, draw_at, forward_at, forwards, head, made, made_text, made_trace, number_at, packet_lines, plain, ticking}
use Rattle.made_trace.proofs.Behind.{all_fit_append, behind_append}
use Rattle.made_trace.proofs.BodyFits.{body_goes, hops_few, records_at}
use Rattle.made_trace.proofs.HeadFits.{head_fits, head_fresh, head_stands, made_layout}
use Rattle.made_trace.proofs.Joined.{line_cut}
use Rattle.made_trace.proofs.LineFits.{end_fits}

-- lines that fit are the lines of their text
begins_all : (parts : List (List ℕ)) (before more : List Said) → AllFit before more → Begins traces parts before (lines (lines_text more)) → Begins traces parts (behind before more) ([] ∷ [])
begins_all parts before [] fit b = b
begins_all parts before (s ∷ more) fit b =
    let P : List (List ℕ) → Type 0 = λ z. Begins traces parts before z in
    begins_all parts (s ∷ before) more fit.1 (line_of s, subst P (line_cut s more fit.0.whole) b, fit.0.is_line)

-- ---- how long the text is

text_most : (before more : List Said) → AllFit before more → length (lines_text more) ≤ 100 * length more
text_most before [] fit = lit≤ tt
text_most before (s ∷ more) fit =
    let h = text_most (s ∷ before) more fit.1 in
    let all = length-append (said_line s) (lines_text more) in
    let one = length-append (line_of s) (10 ∷ []) in
    let short = fit.0.short in
    omega (arith, h, all, one, short)

forwards_long : (d : Draw) (packet from count : ℕ) → length (forwards d packet from count) ≡ count
forwards_long d packet from zero = refl
forwards_long d packet from (suc count) = let h = forwards_long d packet from count in let a = length-append (forwards d packet from count) (forward_at d packet (from + count) ∷ []) in omega (arith, h, a)

crossing_long : (i m : ℕ) (d : Draw) (is : Bool) → length (cond is (changed i m d) (plain i m d)) ≤ 8
crossing_long i m d true = let h = forwards_long d (m + 1) 2 (hops d - 2) in let few = hops_few d in omega (arith, h, few)
crossing_long i m d false = let h = forwards_long d m 0 (hops d) in let few = hops_few d in omega (arith, h, few)

ticking_long : (s : Said) (is : Bool) → length (cond is (s ∷ []) []) ≤ 1
ticking_long s true = lit≤ tt
ticking_long s false = lit≤ tt

asking_long : (a b c e : Said) (is : Bool) → length (cond is (a ∷ b ∷ c ∷ e ∷ []) []) ≤ 4
asking_long a b c e true = lit≤ tt
asking_long a b c e false = lit≤ tt

packet_lines_long : (i m : ℕ) (d : Draw) → length (packet_lines i m d) ≤ 13
packet_lines_long i m d =
    let a = crossing_long i m d (is_changed d) in
    let b : length (ticking i) ≤ 1 = ticking_long _ ((i + 1) % 100 == 0) in
    let c : length (asking i m d) ≤ 4 = asking_long _ _ _ _ ((i + 1) % 1000 == 0) in
    let x = length-append (crossing i m d) (ticking i ++ asking i m d) in
    let y = length-append (ticking i) (asking i m d) in
    omega (arith, a, b, c, x, y)

body_long : (seed i : ℕ) → length (body seed i) ≤ 13 * i
body_long seed zero = lit≤ tt
body_long seed (suc i) =
    let h = body_long seed i in
    let a = packet_lines_long i (number_at seed i) (draw_at seed i) in
    let x = length-append (body seed i) (packet_lines i (number_at seed i) (draw_at seed i)) in
    omega (arith, h, a, x)

made_long : (seed packets : ℕ) → length (made seed packets) ≤ 34 + 13 * packets
made_long seed packets =
    let h = body_long seed packets in
    let a = length-append (head seed) (body seed packets ++ said.End ∷ []) in
    let b = length-append (body seed packets) (said.End ∷ []) in
    let c : length (head seed) ≡ 33 = refl in
    omega (arith, h, a, b, c)

-- ---- all lines

made_fits : (seed packets : ℕ) → seed < 2 ^ 64 → packets ≤ 32768 → AllFit [] (made seed packets)
made_fits seed packets small few =
    let base = behind [] (head seed) in
    let g = body_goes base seed packets few (head_stands seed) (head_fresh seed) in
    let last = end_fits made_layout (behind base (body seed packets)) (number_at seed packets) (records_at seed packets) (packets / 1000) (packets / 100) (packets / 1000) (packets / 100 * 10) g.stands in
    all_fit_append [] (head seed) (body seed packets ++ said.End ∷ []) (head_fits seed small) (all_fit_append base (body seed packets) (said.End ∷ []) g.fit (last, tt))

made_over : (seed packets : ℕ) → is_over (stage_of (behind [] (made seed packets))) ≡ true
made_over seed packets =
    let P : List Said → Type 0 = λ z. is_over (stage_of z) ≡ true in
    let e : behind [] (made seed packets) ≡ said.End ∷ behind (behind [] (head seed)) (body seed packets) =
    behind_append [] (head seed) (body seed packets ++ said.End ∷ []) ∙ behind_append (behind [] (head seed)) (body seed packets) (said.End ∷ []) in
    subst P (sym e) refl

pub made_is_trace : (seed packets : ℕ) → seed < 2 ^ 64 → packets ≤ 32768 → IsTrace (made_text seed packets) (made_trace seed packets)
made_is_trace seed packets small few =
    let fit = made_fits seed packets small few in
    let size = text_most [] (made seed packets) fit in
    let count = made_long seed packets in
    record {
      fits = omega (arith, size, count, few);
      said = behind [] (made seed packets);
      lines_say = begins_all (lines (made_text seed packets)) [] (made seed packets) fit refl;
      ended = made_over seed packets;
      value_is = refl;
    }
