-- The lines of a made trace, one after another.
use Rattle.std.proofs.Common.{◌≡◌, ◌∙◌, ℕ, zero, suc, ◌+◌, ◌-◌, ◌%◌, Bool, true, false, cond, ◌==◌, List, [], ◌∷◌, ◌++◌, refl, sym, subst, ap, arith}
use Rattle.std.proofs.lemmas.Bool.{false≢true}
use Rattle.std.proofs.lemmas.Bool.Decides.{Decides-eqb}
use Rattle.trace_format.specs.Before.{lines_of}
use Rattle.trace_format.specs.Said.{Said}
use Rattle.trace_format.specs.Said as said
use Rattle.trace_format.specs.declared.Line.{Line}
use Rattle.trace_history.specs.Apart.{AreLinesApart, FitsApart, Stood, none_stood, stood_after}
use Rattle.made_trace.specs.declared.draws.Draw.{Draw}
use Rattle.made_trace.specs.Draws.{hops, is_changed}
use Rattle.made_trace.specs.Made.{asking, behind, body, changed, crossing, draw_at, forward_at, forwards, head, made, number_at, packet_lines, plain, ticking}
use Rattle.made_trace.specs.Apart.{AreSaidApart, FitsSaid, stood_after_said, stood_by_said}
use Rattle.made_trace.specs.Laws.{MadeIsApart}

-- ---- lists of lines

apart_append : (s : Stood) (xs ys : List Said) → AreSaidApart s xs → AreSaidApart (stood_by_said s xs) ys → AreSaidApart s (xs ++ ys)
apart_append s [] ys a b = b
apart_append s (x ∷ xs) ys a b = (a.0, apart_append (stood_after_said s x) xs ys a.1 b)

stood_append : (s : Stood) (xs ys : List Said) → stood_by_said s (xs ++ ys) ≡ stood_by_said (stood_by_said s xs) ys
stood_append s [] ys = refl
stood_append s (x ∷ xs) ys = stood_append (stood_after_said s x) xs ys

-- ---- the lines of a trace are those that its text says

abbrev stood_by : Stood → List Line → Stood
stood_by s [] = s
stood_by s (line ∷ more) = stood_by (stood_after s line.what) more

apart_push : (s : Stood) (xs : List Line) (line : Line) → AreLinesApart s xs → FitsApart (stood_by s xs) line.what → AreLinesApart s (xs ++ line ∷ [])
apart_push s [] line a fits = (fits, tt)
apart_push s (x ∷ xs) line a fits = (a.0, apart_push (stood_after s x.what) xs line a.1 fits)

stood_push : (s : Stood) (xs : List Line) (line : Line) → stood_by s (xs ++ line ∷ []) ≡ stood_after (stood_by s xs) line.what
stood_push s [] line = refl
stood_push s (x ∷ xs) line = stood_push (stood_after s x.what) xs line

-- the lines so far are apart, and what stands behind them is this
record IsKept (before : List Said) (s : Stood) : Type 0 where
  apart : AreLinesApart none_stood (lines_of before)
  stood : stood_by none_stood (lines_of before) ≡ s

kept_push : (before : List Said) (s : Stood) (line : Line) (after : Stood) → IsKept before s → FitsApart s line.what → stood_after s line.what ≡ after → (lines : List Line) → lines ≡ lines_of before ++ line ∷ [] → AreLinesApart none_stood lines × (stood_by none_stood lines ≡ after)
kept_push before s line after kept fits next lines e =
    let Fits : Stood → Type 0 = λ x. FitsApart x line.what in
    let Both : List Line → Type 0 = λ ls. AreLinesApart none_stood ls × (stood_by none_stood ls ≡ after) in
    subst Both (sym e) (
      apart_push none_stood (lines_of before) line kept.apart (subst Fits (sym kept.stood) fits),
      stood_push none_stood (lines_of before) line ∙ ap (λ (x : Stood). stood_after x line.what) kept.stood ∙ next,
    )

kept_next : (before : List Said) (s : Stood) (one : Said) → IsKept before s → FitsSaid s one → IsKept (one ∷ before) (stood_after_said s one)
kept_next before s (said.Version version) kept fits = record { apart = kept.apart; stood = kept.stood }
kept_next before s (said.Shape rules) kept fits = record { apart = kept.apart; stood = kept.stood }
kept_next before s (said.Router name region) kept fits = record { apart = kept.apart; stood = kept.stood }
kept_next before s (said.Link one other delay) kept fits = record { apart = kept.apart; stood = kept.stood }
kept_next before s (said.Pages name k n limit) kept fits = record { apart = kept.apart; stood = kept.stood }
kept_next before s said.Begin kept fits = record { apart = kept.apart; stood = kept.stood }
kept_next before s (said.Packet bytes) kept fits = record { apart = kept.apart; stood = kept.stood }
kept_next before s (said.Fwd name packet) kept fits = let k = kept_push before s _ _ kept fits refl (lines_of (said.Fwd name packet ∷ before)) refl in record { apart = k.0; stood = k.1 }
kept_next before s (said.Xf name kind old new) kept fits = let k = kept_push before s _ _ kept fits refl (lines_of (said.Xf name kind old new ∷ before)) refl in record { apart = k.0; stood = k.1 }
kept_next before s (said.Rotate name) kept fits = let k = kept_push before s _ _ kept fits refl (lines_of (said.Rotate name ∷ before)) refl in record { apart = k.0; stood = k.1 }
kept_next before s (said.Archive name) kept fits = let k = kept_push before s _ _ kept fits refl (lines_of (said.Archive name ∷ before)) refl in record { apart = k.0; stood = k.1 }
kept_next before s (said.Watch name packet) kept fits = let k = kept_push before s _ _ kept fits refl (lines_of (said.Watch name packet ∷ before)) refl in record { apart = k.0; stood = k.1 }
kept_next before s (said.Tick time) kept fits = let k = kept_push before s _ _ kept fits refl (lines_of (said.Tick time ∷ before)) refl in record { apart = k.0; stood = k.1 }
kept_next before s (said.Query name packet time) kept fits = let k = kept_push before s _ _ kept fits refl (lines_of (said.Query name packet time ∷ before)) refl in record { apart = k.0; stood = k.1 }
kept_next before s said.End kept fits = let k = kept_push before s _ _ kept fits refl (lines_of (said.End ∷ before)) refl in record { apart = k.0; stood = k.1 }

kept_all : (before : List Said) (s : Stood) (more : List Said) → IsKept before s → AreSaidApart s more → IsKept (behind before more) (stood_by_said s more)
kept_all before s [] kept are = kept
kept_all before s (one ∷ more) kept are = kept_all (one ∷ before) (stood_after_said s one) more (kept_next before s one kept are.0) are.1

-- ---- one packet

-- lines that leave rotations and watches out, from a segment that has none
record IsFree (s : Stood) (lines : List Said) : Type 0 where
  apart : AreSaidApart s lines
  others : (stood_by_said s lines).others ≡ false

free_append : (s : Stood) (xs ys : List Said) → IsFree s xs → IsFree (stood_by_said s xs) ys → IsFree s (xs ++ ys)
free_append s xs ys a b = record { apart = apart_append s xs ys a.apart b.apart; others = ap (λ (x : Stood). x.others) (stood_append s xs ys) ∙ b.others }

free_forwards : (d : Draw) (packet from count : ℕ) (s : Stood) → s.others ≡ false → IsFree s (forwards d packet from count)
free_forwards d packet from zero s none = record { apart = tt; others = none }
free_forwards d packet from (suc count) s none =
    let rest = free_forwards d packet from count s none in
    free_append s (forwards d packet from count) (forward_at d packet (from + count) ∷ []) rest (record { apart = (rest.others, tt); others = rest.others })

free_crossing : (i m : ℕ) (d : Draw) (s : Stood) → s.others ≡ false → IsFree s (crossing i m d)
free_crossing i m d s none = by (is_changed d)
  where
    by : (b : Bool) → IsFree s (cond b (changed i m d) (plain i m d))
    by true = let rest = free_forwards d (m + 1) 2 (hops d - 2) (record s { records = true }) none in record { apart = (tt, (tt, (none, (none, rest.apart)))); others = rest.others }
    by false = let rest = free_forwards d m 0 (hops d) s none in record { apart = (tt, rest.apart); others = rest.others }

-- behind a thousandth packet, which is a hundredth, too, a tick has ended the segment
hundredth : (n : ℕ) → n % 1000 ≡ 0 → n % 100 ≡ 0
hundredth n e = omega (arith, e)

free_end : (i m : ℕ) (d : Draw) (s : Stood) → s.others ≡ false → IsFree s (ticking i ++ asking i m d)
free_end i m d s none = by ((i + 1) % 100 == 0) ((i + 1) % 1000 == 0) refl refl
  where
    by : (a b : Bool) → ((i + 1) % 100 == 0) ≡ a → ((i + 1) % 1000 == 0) ≡ b → IsFree s (ticking i ++ asking i m d)
    by true true ea eb = rw (ea, eb) (record { apart = (tt, (refl, (tt, (refl, (tt, tt))))); others = refl })
    by true false ea eb = rw (ea, eb) (record { apart = (tt, tt); others = refl })
    by false false ea eb = rw (ea, eb) (record { apart = tt; others = none })
    by false true ea eb =
        let e : (i + 1) % 100 ≡ 0 = hundredth (i + 1) ((Decides-eqb ((i + 1) % 1000) 0).0 eb) in
        absurd (false≢true (sym ea ∙ (Decides-eqb ((i + 1) % 100) 0).1 e))

free_packet : (i m : ℕ) (d : Draw) (s : Stood) → s.others ≡ false → IsFree s (packet_lines i m d)
free_packet i m d s none =
    let first = free_crossing i m d s none in
    free_append s (crossing i m d) (ticking i ++ asking i m d) first (free_end i m d (stood_by_said s (crossing i m d)) first.others)

free_body : (seed packets : ℕ) → IsFree none_stood (body seed packets)
free_body seed zero = record { apart = tt; others = refl }
free_body seed (suc i) =
    let before = free_body seed i in
    free_append none_stood (body seed i) (packet_lines i (number_at seed i) (draw_at seed i)) before
    (free_packet i (number_at seed i) (draw_at seed i) (stood_by_said none_stood (body seed i)) before.others)

-- ---- the whole trace

free_head : (seed : ℕ) → IsFree none_stood (head seed)
free_head seed = record { apart = (tt, (tt, (tt, (tt, (tt, (tt, (tt, (tt, (tt, (tt, (tt, (tt, (tt, (tt, (tt, (tt, (tt, (tt, (tt, (tt, (tt, (tt, (tt, (tt, (tt, (tt, (tt, (tt, (tt, (tt, (tt, (tt, (tt, tt))))))))))))))))))))))))))))))))); others = refl }

free_made : (seed packets : ℕ) → AreSaidApart none_stood (made seed packets)
free_made seed packets =
    apart_append none_stood (head seed) (body seed packets ++ said.End ∷ []) (free_head seed).apart
    (apart_append none_stood (body seed packets) (said.End ∷ []) (free_body seed packets).apart (tt, tt))

pub made_is_apart : MadeIsApart
made_is_apart seed packets = (kept_all [] none_stood (made seed packets) (record { apart = tt; stood = refl }) (free_made seed packets)).apart
