-- A segment by its lines: the records' events and the operator's, merged.
use Rattle.std.proofs.Common.{ℕ, zero, suc, ◌≡◌, ◌+◌, ◌∷◌, [], ◌++◌, ◌∙◌, Bool, true, false, cond, not, List, map, get_or, take, drop, sym, ap, refl, subst, arith, append_assoc, append-nil}
use Rattle.std.specs.List.{flat_map}
use Rattle.std.proofs.lemmas.Bool.{false≢true}
use Rattle.std.proofs.lemmas.List.{map-append}
use Rattle.spie_base.specs.declared.Sig.{Sig}
use Rattle.trace_format.specs.declared.Line.{Line}
use Rattle.trace_format.specs.declared.What.{What}
use Rattle.trace_format.specs.declared.What.TheVariants as what
use Rattle.trace_format.specs.Sound.{is_recording, records}
use Rattle.trace_history.specs.History.{Event, recorded, rotated, archived, watched, ticked, queried, ended, Moment, History, IsEventOf, IsHistoryOf}
use Rattle.trace_history.specs.Receipts.{Receipt, receipts, receipt_by}
use Rattle.trace_replay.specs.declared.state.Answer.{Answer}
use Rattle.trace_replay.specs.Segments.{answer_of, no_line, numbered, pending_of}
use Rattle.trace_replay.specs.Merging.{operations, interleaved, AreEvents, history_by, answers_of}
use Rattle.trace_replay.specs.Operated.{is_record, operated}
use Rattle.trace_replay.proofs.Filled.{moment_of}
use Rattle.trace_replay.proofs.Numbered.{pending}

-- ---- an event by its line

record_of : (sigs : List Sig) (w : What) (e : Event) → IsEventOf sigs w e → is_record e ≡ is_recording w
record_of sigs (what.Fwd router packet) (recorded hop page) a = refl
record_of sigs (what.Fwd router packet) (rotated q p) a = absurd a
record_of sigs (what.Fwd router packet) (archived q p k) a = absurd a
record_of sigs (what.Fwd router packet) (watched q s w) a = absurd a
record_of sigs (what.Fwd router packet) (ticked t l) a = absurd a
record_of sigs (what.Fwd router packet) (queried q l) a = absurd a
record_of sigs (what.Fwd router packet) (ended l) a = absurd a
record_of sigs (what.Xf router kind old new) (recorded hop page) a = refl
record_of sigs (what.Xf router kind old new) (rotated q p) a = absurd a
record_of sigs (what.Xf router kind old new) (archived q p k) a = absurd a
record_of sigs (what.Xf router kind old new) (watched q s w) a = absurd a
record_of sigs (what.Xf router kind old new) (ticked t l) a = absurd a
record_of sigs (what.Xf router kind old new) (queried q l) a = absurd a
record_of sigs (what.Xf router kind old new) (ended l) a = absurd a
record_of sigs (what.Rotate router) (recorded hop page) a = absurd a
record_of sigs (what.Rotate router) (rotated q p) a = refl
record_of sigs (what.Rotate router) (archived q p k) a = refl
record_of sigs (what.Rotate router) (watched q s w) a = refl
record_of sigs (what.Rotate router) (ticked t l) a = refl
record_of sigs (what.Rotate router) (queried q l) a = refl
record_of sigs (what.Rotate router) (ended l) a = refl
record_of sigs (what.Archive router) (recorded hop page) a = absurd a
record_of sigs (what.Archive router) (rotated q p) a = refl
record_of sigs (what.Archive router) (archived q p k) a = refl
record_of sigs (what.Archive router) (watched q s w) a = refl
record_of sigs (what.Archive router) (ticked t l) a = refl
record_of sigs (what.Archive router) (queried q l) a = refl
record_of sigs (what.Archive router) (ended l) a = refl
record_of sigs (what.Watch router packet) (recorded hop page) a = absurd a
record_of sigs (what.Watch router packet) (rotated q p) a = refl
record_of sigs (what.Watch router packet) (archived q p k) a = refl
record_of sigs (what.Watch router packet) (watched q s w) a = refl
record_of sigs (what.Watch router packet) (ticked t l) a = refl
record_of sigs (what.Watch router packet) (queried q l) a = refl
record_of sigs (what.Watch router packet) (ended l) a = refl
record_of sigs (what.Tick time) (recorded hop page) a = absurd a
record_of sigs (what.Tick time) (rotated q p) a = refl
record_of sigs (what.Tick time) (archived q p k) a = refl
record_of sigs (what.Tick time) (watched q s w) a = refl
record_of sigs (what.Tick time) (ticked t l) a = refl
record_of sigs (what.Tick time) (queried q l) a = refl
record_of sigs (what.Tick time) (ended l) a = refl
record_of sigs (what.Query router packet time) (recorded hop page) a = absurd a
record_of sigs (what.Query router packet time) (rotated q p) a = refl
record_of sigs (what.Query router packet time) (archived q p k) a = refl
record_of sigs (what.Query router packet time) (watched q s w) a = refl
record_of sigs (what.Query router packet time) (ticked t l) a = refl
record_of sigs (what.Query router packet time) (queried q l) a = refl
record_of sigs (what.Query router packet time) (ended l) a = refl
record_of sigs what.End (recorded hop page) a = absurd a
record_of sigs what.End (rotated q p) a = refl
record_of sigs what.End (archived q p k) a = refl
record_of sigs what.End (watched q s w) a = refl
record_of sigs what.End (ticked t l) a = refl
record_of sigs what.End (queried q l) a = refl
record_of sigs what.End (ended l) a = refl

no_receipt : (e : Event) → is_record e ≡ false → receipt_by e ≡ []
no_receipt (recorded hop page) f = absurd (false≢true (sym f))
no_receipt (rotated q p) f = refl
no_receipt (archived q p k) f = refl
no_receipt (watched q s w) f = refl
no_receipt (ticked t l) f = refl
no_receipt (queried q l) f = refl
no_receipt (ended l) f = refl

-- ---- merged events

-- what both parts give, at one line more
pub record IsMerged (sigs : List Sig) (lines : List Line) (ks os : List Event) (acc : History) : Type 0 where
  pub events : AreEvents sigs lines (interleaved lines ks os)
  pub records_of : flat_map receipt_by (interleaved lines ks os) ≡ flat_map receipt_by ks
  pub others_of : operated (history_by acc lines (interleaved lines ks os)) ≡ history_by (operated acc) (operations lines) os

module _ (sigs : List Sig) where
  merged_record : (line : Line) (lines : List Line) (ks os : List Event) (acc : History) → is_recording line.what ≡ true
      → AreEvents sigs (line ∷ records lines) ks → AreEvents sigs (operations lines) os
      → ((more : List Event) (acc : History) → AreEvents sigs (records lines) more → IsMerged sigs lines more os acc)
      → IsMerged sigs (line ∷ lines) ks os acc
  merged_record line lines [] os acc is a b ih = absurd a
  merged_record line lines (e ∷ ks) os acc is a b ih =
      let m = ih ks (moment_of line.number e ∷ acc) a.1 in
      let J : Bool → List Event = λ t. cond t (e ∷ interleaved lines ks os) (take 1 os ++ interleaved lines (e ∷ ks) (drop 1 os)) in
      let here : interleaved (line ∷ lines) (e ∷ ks) os ≡ e ∷ interleaved lines ks os = ap J is in
      let there : operations (line ∷ lines) ≡ operations lines = ap (λ t. cond (not t) (line ∷ operations lines) (operations lines)) is in
      let E : List Event → Type 0 = λ es. AreEvents sigs (line ∷ lines) es in
      let R : List Event → Type 0 = λ es. flat_map receipt_by es ≡ flat_map receipt_by (e ∷ ks) in
      let H : List Event → Type 0 = λ es. operated (history_by acc (line ∷ lines) es) ≡ history_by (operated acc) (operations (line ∷ lines)) os in
      record {
        events = subst E (sym here) (a.0, m.events);
        records_of = subst R (sym here) (ap (λ (xs : List Receipt). receipt_by e ++ xs) m.records_of);
        others_of = subst H (sym here) (m.others_of
            ∙ ap (λ t. history_by (cond t (operated acc) (moment_of line.number e ∷ operated acc)) (operations lines) os) (record_of sigs line.what e a.0 ∙ is)
            ∙ ap (λ (ls : List Line). history_by (operated acc) ls os) (sym there));
      }

  merged_other : (line : Line) (lines : List Line) (ks os : List Event) (acc : History) → is_recording line.what ≡ false
      → AreEvents sigs (records lines) ks → AreEvents sigs (line ∷ operations lines) os
      → ((more : List Event) (acc : History) → AreEvents sigs (operations lines) more → IsMerged sigs lines ks more acc)
      → IsMerged sigs (line ∷ lines) ks os acc
  merged_other line lines ks [] acc is a b ih = absurd b
  merged_other line lines ks (e ∷ os) acc is a b ih =
      let m = ih os (moment_of line.number e ∷ acc) b.1 in
      let J : Bool → List Event = λ t. cond t (take 1 ks ++ interleaved lines (drop 1 ks) (e ∷ os)) (e ∷ interleaved lines ks os) in
      let here : interleaved (line ∷ lines) ks (e ∷ os) ≡ e ∷ interleaved lines ks os = ap J is in
      let there : operations (line ∷ lines) ≡ line ∷ operations lines = ap (λ t. cond (not t) (line ∷ operations lines) (operations lines)) is in
      let none : is_record e ≡ false = record_of sigs line.what e b.0 ∙ is in
      let E : List Event → Type 0 = λ es. AreEvents sigs (line ∷ lines) es in
      let R : List Event → Type 0 = λ es. flat_map receipt_by es ≡ flat_map receipt_by ks in
      let H : List Event → Type 0 = λ es. operated (history_by acc (line ∷ lines) es) ≡ history_by (operated acc) (operations (line ∷ lines)) (e ∷ os) in
      record {
        events = subst E (sym here) (b.0, m.events);
        records_of = subst R (sym here) (ap (λ (xs : List Receipt). xs ++ flat_map receipt_by (interleaved lines ks os)) (no_receipt e none) ∙ m.records_of);
        others_of = subst H (sym here) (m.others_of
            ∙ ap (λ t. history_by (cond t (operated acc) (moment_of line.number e ∷ operated acc)) (operations lines) os) none
            ∙ ap (λ (ls : List Line). history_by (operated acc) ls (e ∷ os)) (sym there));
      }

  none_left : (acc : History) (ks os : List Event) → AreEvents sigs [] ks → AreEvents sigs [] os → IsMerged sigs [] ks os acc
  none_left acc [] [] a b = record { events = tt; records_of = refl; others_of = refl }
  none_left acc (x ∷ ks) os a b = absurd a
  none_left acc [] (y ∷ os) a b = absurd b

  pub merged : (lines : List Line) (ks os : List Event) (acc : History) → AreEvents sigs (records lines) ks → AreEvents sigs (operations lines) os → IsMerged sigs lines ks os acc
  merged [] ks os acc a b = none_left acc ks os a b
  merged (line ∷ lines) ks os acc a b =
      let Goal : Bool → Type 0 = λ t. AreEvents sigs (cond t (line ∷ records lines) (records lines)) ks → AreEvents sigs (cond (not t) (line ∷ operations lines) (operations lines)) os
      → is_recording line.what ≡ t → IsMerged sigs (line ∷ lines) ks os acc in
      let by : (t : Bool) → Goal t =
      elim [
        | true ↦ λ p q is. merged_record line lines ks os acc is p q (λ more acc2 m. merged lines more os acc2 m q)
        | false ↦ λ p q is. merged_other line lines ks os acc is p q (λ more acc2 m. merged lines ks more acc2 p m)
      ] in
      by (is_recording line.what) a b refl

  -- ---- the history of a segment's events

  pub history_of : (lines before : List Line) (es : List Event) (acc : History) → AreEvents sigs lines es → IsHistoryOf sigs before acc → IsHistoryOf sigs (before ++ lines) (history_by acc lines es)
  history_of [] before es acc a h = let P : List Line → Type 0 = λ ls. IsHistoryOf sigs ls acc in subst P (sym (append-nil before)) h
  history_of (line ∷ lines) before [] acc a h = absurd a
  history_of (line ∷ lines) before (e ∷ es) acc a h =
      let P : List Line → Type 0 = λ ls. IsHistoryOf sigs ls (history_by (moment_of line.number e ∷ acc) lines es) in
      subst P (append_assoc before (line ∷ []) lines) (history_of lines (before ++ line ∷ []) es (moment_of line.number e ∷ acc) a.1 (before, line, refl, refl, a.0, h))

  pub receipts_of : (lines : List Line) (es : List Event) (acc : History) → AreEvents sigs lines es → receipts (history_by acc lines es) ≡ receipts acc ++ flat_map receipt_by es
  receipts_of [] [] acc a = sym (append-nil (receipts acc))
  receipts_of [] (e ∷ es) acc a = absurd a
  receipts_of (line ∷ lines) [] acc a = absurd a
  receipts_of (line ∷ lines) (e ∷ es) acc a =
      receipts_of lines es (moment_of line.number e ∷ acc) a.1 ∙ append_assoc (receipts acc) (receipt_by e) (flat_map receipt_by es)

  -- a history by its own events
  pub record IsBy (lines : List Line) (ops : History) : Type 0 where
    pub events : List Event
    pub happened : AreEvents sigs lines events
    pub is : ops ≡ history_by [] lines events
    pub answers : answers_of ops ≡ map answer_of events

  events_push : (lines : List Line) (es : List Event) (line : Line) (e : Event) → AreEvents sigs lines es → IsEventOf sigs line.what e → AreEvents sigs (lines ++ line ∷ []) (es ++ e ∷ [])
  events_push [] [] line e a b = (b, tt)
  events_push [] (x ∷ es) line e a b = absurd a
  events_push (l ∷ lines) [] line e a b = absurd a
  events_push (l ∷ lines) (x ∷ es) line e a b = (a.0, events_push lines es line e a.1 b)

  history_push : (lines : List Line) (es : List Event) (line : Line) (e : Event) (acc : History) → AreEvents sigs lines es
      → history_by acc (lines ++ line ∷ []) (es ++ e ∷ []) ≡ moment_of line.number e ∷ history_by acc lines es
  history_push [] [] line e acc a = refl
  history_push [] (x ∷ es) line e acc a = absurd a
  history_push (l ∷ lines) [] line e acc a = absurd a
  history_push (l ∷ lines) (x ∷ es) line e acc a = history_push lines es line e (moment_of l.number x ∷ acc) a.1

  by_push : (before : List Line) (last : Line) (moment : Moment) (ops : History) → moment.line ≡ last.number → IsEventOf sigs last.what moment.event → IsBy before ops
      → IsBy (before ++ last ∷ []) (moment ∷ ops)
  by_push before last moment ops number is by = record {
    events = by.events ++ moment.event ∷ [];
    happened = events_push before by.events last moment.event by.happened is;
    is = ap (λ (k : ℕ). moment_of k moment.event ∷ ops) number ∙ ap (λ (h : History). moment_of last.number moment.event ∷ h) by.is ∙ sym (history_push before by.events last moment.event [] by.happened);
    answers = ap (λ (xs : List Answer). xs ++ answer_of moment.event ∷ []) by.answers ∙ sym (map-append answer_of by.events (moment.event ∷ []));
  }

  pub by_events : (lines : List Line) (ops : History) → IsHistoryOf sigs lines ops → IsBy lines ops
  by_events lines [] h = let P : List Line → Type 0 = λ ls. IsBy ls [] in subst P (sym h) (record { events = []; happened = tt; is = refl; answers = refl })
  by_events lines (moment ∷ ops) (before, last, is, number, answers, more) =
      let P : List Line → Type 0 = λ ls. IsBy ls (moment ∷ ops) in
      subst P (sym is) (by_push before last moment ops number answers (by_events before ops more))

-- ---- answers

head_at : (lines more : List Line) (p : ℕ) (x : Line) → drop p lines ≡ x ∷ more → (get_or lines p no_line ≡ x) × (drop (p + 1) lines ≡ more)
head_at [] more zero x e = cc
head_at [] more (suc p) x e = cc
head_at (l ∷ lines) more zero x e = (cc, cc)
head_at (l ∷ lines) more (suc p) x e =
    let at = head_at lines more p x e in
    let same : suc p + 1 ≡ suc (p + 1) = omega arith in
    (at.0, ap (λ k. drop k (l ∷ lines)) same ∙ at.1)

-- the events' answers are those that stand at their lines
pub pending_by : (all lines rest : List Line) (place : ℕ) (es : List Event) (sigs : List Sig) (acc : History) → AreEvents sigs lines es → drop place all ≡ lines ++ rest
    → pending_of (history_by acc lines es) ≡ pending_of acc ++ numbered all place (map answer_of es)
pending_by all [] rest place [] sigs acc a e = sym (append-nil (pending_of acc))
pending_by all [] rest place (x ∷ es) sigs acc a e = absurd a
pending_by all (line ∷ lines) rest place [] sigs acc a e = absurd a
pending_by all (line ∷ lines) rest place (x ∷ es) sigs acc a e =
    let at = head_at all (lines ++ rest) place line e in
    let one = pending line.number (answer_of x) in
    pending_by all lines rest (place + 1) es sigs (moment_of line.number x ∷ acc) a.1 at.1
    ∙ append_assoc (pending_of acc) (one ∷ []) (numbered all (place + 1) (map answer_of es))
    ∙ ap (λ (k : Line). pending_of acc ++ pending k.number (answer_of x) ∷ numbered all (place + 1) (map answer_of es)) (sym at.0)

-- answers merge as events do
take_map : {X Y : Type 0} (g : X → Y) (xs : List X) → map g (take 1 xs) ≡ take 1 (map g xs)
take_map g [] = refl
take_map g (x ∷ xs) = refl

drop_map : {X Y : Type 0} (g : X → Y) (xs : List X) → map g (drop 1 xs) ≡ drop 1 (map g xs)
drop_map g [] = refl
drop_map g (x ∷ xs) = refl

pub map_merged : {X Y : Type 0} (g : X → Y) (lines : List Line) (ks os : List X) → map g (interleaved lines ks os) ≡ interleaved lines (map g ks) (map g os)
map_merged g [] ks os = refl
map_merged {X} {Y} g (line ∷ lines) ks os =
    let by : (t : Bool) → map g (cond t (take 1 ks ++ interleaved lines (drop 1 ks) os) (take 1 os ++ interleaved lines ks (drop 1 os)))
    ≡ cond t (take 1 (map g ks) ++ interleaved lines (drop 1 (map g ks)) (map g os)) (take 1 (map g os) ++ interleaved lines (map g ks) (drop 1 (map g os))) =
    elim [
      | true ↦ map-append g (take 1 ks) (interleaved lines (drop 1 ks) os) ∙ ap (λ (ys : List Y). ys ++ map g (interleaved lines (drop 1 ks) os)) (take_map g ks)
          ∙ ap (λ (ys : List Y). take 1 (map g ks) ++ ys) (map_merged g lines (drop 1 ks) os ∙ ap (λ (zs : List Y). interleaved lines zs (map g os)) (drop_map g ks))
      | false ↦ map-append g (take 1 os) (interleaved lines ks (drop 1 os)) ∙ ap (λ (ys : List Y). ys ++ map g (interleaved lines ks (drop 1 os))) (take_map g os)
          ∙ ap (λ (ys : List Y). take 1 (map g os) ++ ys) (map_merged g lines ks (drop 1 os) ∙ ap (λ (zs : List Y). interleaved lines (map g ks) zs) (drop_map g os))
    ] in
    by (is_recording line.what)
