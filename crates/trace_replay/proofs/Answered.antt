-- What is right behind a barrier, with one worker or several.
use Rattle.std.proofs.Common.{ℕ, ◌≡◌, ◌≤◌, ◌<◌, ◌+◌, ◌%◌, ◌==◌, ◌∷◌, [], ◌∙◌, Bool, true, false, List, length, sym, ap, subst}
use Rattle.std.specs.Prelude.{slice_get, Some, IsTrue}
use Rattle.std.specs.List.{Contains}
use Rattle.std.proofs.lemmas.Bool.{false≢true}
use Rattle.spie_base.proofs.Membership.{has_none}
use Rattle.trace_format.specs.declared.Trace.{Trace}
use Rattle.trace_history.specs.History.{Event, History}
use Rattle.trace_history.specs.Receipts.{Receipt, is_barrier, segment, up_to_barrier, receipts, openings, open_at, IsLegalFor, IsLegal, IsInTurn}
use Rattle.trace_history.specs.Routers.{RouterRules, rules_of}
use Rattle.trace_history.specs.Watched.{IsSequentialWatch, AreSegmentWatches, AreBetweenWatches}
use Rattle.trace_replay.specs.Segments.{Splits, with_split, filled, AreInner, IsBarred}
use Rattle.trace_replay.specs.Standing.{IsRightAlone, IsRightTogether, AreLinesRight}
use Rattle.trace_replay.proofs.Filled.{moment_of, inner_split, up_filled}
use Rattle.trace_replay.proofs.Gathering.{receipts_filled, openings_filled}

-- what is a barrier is none of a segment's moments
no_barrier_is : {X : Type 0} (b : Bool) → IsTrue b → b ≡ false → X
no_barrier_is b h e = absurd (false≢true (sym e ∙ h))

is_none : {X : Type 0} (b : Bool) → b ≡ true → b ≡ false → X
is_none b h e = absurd (false≢true (sym e ∙ h))

-- the receipts of no lines are legal
pub legal_none : (W r a : ℕ) → IsLegalFor W r a []
legal_none W r a = record {
  within = λ x h. absurd (has_none x h);
  counted = λ i p e. cc;
  rising = λ i j x y l m e f. cc;
}

-- legal receipts are so of each list of moments with the same receipts and openings
abbrev IsLegalBy : (W r a : ℕ) → List Receipt → List ℕ → Type 0
IsLegalBy W r a rs ps =
    ((x : Receipt) → Contains rs x → x.hop.router ≡ r → (a ≤ x.page) × (x.page ≤ a + length ps))
    × ((i page : ℕ) → slice_get ps i ≡ Some page → page ≡ a + (i + 1))
    × ((i j : ℕ) (x y : Receipt) → i < j → i % W ≡ j % W → slice_get rs i ≡ Some x → slice_get rs j ≡ Some y → x.hop.router ≡ r → y.hop.router ≡ r → x.page ≤ y.page)

legal_same : (W r a b : ℕ) (seg other : History) → a ≡ b → receipts other ≡ receipts seg → openings r other ≡ openings r seg → IsLegalFor W r a seg → IsLegalFor W r b other
legal_same W r a b seg other at rs ps legal =
    let A : ℕ → Type 0 = λ x. IsLegalBy W r x (receipts seg) (openings r seg) in
    let R : List Receipt → Type 0 = λ xs. IsLegalBy W r b xs (openings r seg) in
    let P : List ℕ → Type 0 = λ xs. IsLegalBy W r b (receipts other) xs in
    let all : IsLegalBy W r b (receipts other) (openings r other) = subst P (sym ps) (subst R (sym rs) (subst A at (legal.within, legal.counted, legal.rising))) in
    record { within = all.0; counted = all.1; rising = all.2 }

-- the segments that have ended are those before the one that has not
pub legal_filled : (W : ℕ) (rules : RouterRules) (f : Splits) (seg h : History) → AreInner seg → IsLegal W rules h → IsLegal W rules (filled f seg h)
legal_filled W rules f [] h i l = l
legal_filled W rules f (moment ∷ seg) h i l = (legal_filled W rules f seg h i.0 l, λ b. no_barrier_is (is_barrier (with_split f moment.event)) b (inner_split f moment.event i.1))

pub between_filled : (rules : RouterRules) (f : Splits) (seg h : History) → AreInner seg → AreBetweenWatches rules h → AreBetweenWatches rules (filled f seg h)
between_filled rules f [] h i l = l
between_filled rules f (moment ∷ seg) h i l = (between_filled rules f seg h i.0 l, λ b. no_barrier_is (is_barrier (with_split f moment.event)) b (inner_split f moment.event i.1))

-- behind a barrier there is no watch
no_watch : (rules : RouterRules) (line : ℕ) (event : Event) (h : History) → is_barrier event ≡ true → AreSegmentWatches rules (moment_of line event ∷ h) (moment_of line event ∷ h)
no_watch rules line event h is = λ none. is_none (is_barrier event) is none

-- a barrier ends a segment that is right
pub right_closed : (alone : Bool) (W : ℕ) (t : Trace) (line : ℕ) (event : Event) (f : Splits) (seg h : History) → is_barrier event ≡ true → AreInner seg → IsBarred h
    → IsInTurn (rules_of t) (filled f seg h) event → IsSequentialWatch (rules_of t) (filled f seg h) event
    → AreLinesRight alone W t h seg → AreLinesRight alone W t (moment_of line event ∷ filled f seg h) []
right_closed true W t line event f seg h is i b turn watch right = record {
  sequential = λ g. (right.sequential f, turn);
  watched = λ g. (right.watched f, watch);
}
right_closed false W t line event f seg h is i b turn watch right =
    let F = filled f seg h in
    record {
      legal = (
        legal_filled W (rules_of t) f seg h i right.legal,
        λ barrier r. legal_same W r (open_at (rules_of t) r h) (open_at (rules_of t) r (up_to_barrier F)) seg (segment F)
            (ap (λ (x : History). open_at (rules_of t) r x) (sym (up_filled f seg h i b))) (receipts_filled f seg h i b) (openings_filled r f seg h i b) (right.seg_legal r),
      );
      between = (between_filled (rules_of t) f seg h i right.between, λ barrier. right.seg_between f);
      seg_legal = λ r. legal_none W r (open_at (rules_of t) r (moment_of line event ∷ F));
      seg_between = λ g. no_watch (rules_of t) line event F is;
    }

-- with one worker
pub alone_of : (W : ℕ) (t : Trace) (h seg : History) → W ≡ 1 → AreLinesRight (W == 1) W t h seg → IsRightAlone t h seg
alone_of W t h seg e right = let P : ℕ → Type 0 = λ w. AreLinesRight (w == 1) w t h seg in subst P e right

pub of_alone : (W : ℕ) (t : Trace) (h seg : History) → W ≡ 1 → IsRightAlone t h seg → AreLinesRight (W == 1) W t h seg
of_alone W t h seg e right = let P : ℕ → Type 0 = λ w. AreLinesRight (w == 1) w t h seg in subst P (sym e) right

-- and with several
pub together_of : (W : ℕ) (t : Trace) (h seg : History) → (W == 1) ≡ false → AreLinesRight (W == 1) W t h seg → IsRightTogether W t h seg
together_of W t h seg e right = let P : Bool → Type 0 = λ b. AreLinesRight b W t h seg in subst P e right

pub of_together : (W : ℕ) (t : Trace) (h seg : History) → (W == 1) ≡ false → IsRightTogether W t h seg → AreLinesRight (W == 1) W t h seg
of_together W t h seg e right = let P : Bool → Type 0 = λ b. AreLinesRight b W t h seg in subst P (sym e) right

-- nothing is done yet
pub right_begun : (alone : Bool) (W : ℕ) (t : Trace) → AreLinesRight alone W t [] []
right_begun true W t = record { sequential = λ f. tt; watched = λ f. tt }
right_begun false W t = record { legal = tt; between = tt; seg_legal = λ r. legal_none W r (open_at (rules_of t) r []); seg_between = λ f. tt }
