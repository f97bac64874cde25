-- What is printed of a segment before its barrier.
use Rattle.std.proofs.Common.{ℕ, ◌≡◌, ◌≤◌, ◌+◌, ◌∷◌, [], ◌++◌, ◌∙◌, ⊎_elim, List, length, sym, ap, refl, subst, arith, append_assoc, append-nil, length-append}
use Rattle.std.proofs.lemmas.Grind.{flat_map-append}
use Rattle.std.proofs.lemmas.List.{map-append, nil_from_length}
use Rattle.report_text.specs.Report.{item_text}
use Rattle.report_text.specs.declared.Item.{Item}
use Rattle.router_account.specs.Ledger.{no_split}
use Rattle.trace_format.specs.declared.Trace.{Trace}
use Rattle.trace_history.specs.declared.Totals.{Totals}
use Rattle.trace_history.specs.History.{Event, History}
use Rattle.trace_history.specs.Report.{text_of}
use Rattle.trace_replay.specs.declared.state.State.{State}
use Rattle.trace_replay.specs.declared.state.Answer.{Answer}
use Rattle.trace_replay.specs.Segments.{Splits, Pending, answer_of, item_by, numbered, number_at, pending_items, pending_of}
use Rattle.trace_replay.specs.Standing.{Adds, AreFew, IsPrinted, IsPrintedAtOnce, IsReported, Waits, pending_at}
use Rattle.trace_replay.proofs.Filled.{moment_of}
use Rattle.trace_replay.proofs.Numbered.{pending, numbered_push, numbered_length, pending_length}

pub few_longer : (totals : Totals) (n m : ℕ) → n ≤ m → AreFew totals n → AreFew totals m
few_longer totals n m l few =
    let a = few.nodes in let b = few.edges in let c = few.unknown in let d = few.clear in
    record { nodes = omega arith; edges = omega arith; unknown = omega arith; clear = omega arith }

-- the answers that wait, printed behind those that are printed already
pub text_whole : (t : Trace) (f : Splits) (items : List Item) (early waiting whole : List Pending) (before after : List ℕ) → before ≡ text_of t (items ++ pending_items f early)
    → after ≡ before ++ text_of t (pending_items f waiting) → early ++ waiting ≡ whole → after ≡ text_of t (items ++ pending_items f whole)
text_whole t f items early waiting whole before after e1 e2 e3 =
    let first = pending_items f early in
    let later = pending_items f waiting in
    e2 ∙ ap (λ (text : List ℕ). text ++ text_of t later) e1 ∙ sym (flat_map-append (item_text t.topology.names) (items ++ first) later)
    ∙ ap (λ (xs : List Item). text_of t xs) (append_assoc items first later)
    ∙ ap (λ (xs : List Item). text_of t (items ++ xs)) (sym (map-append (λ (x : Pending). item_by f x.line x.answer) early waiting))
    ∙ ap (λ (xs : List Pending). text_of t (items ++ pending_items f xs)) e3

pub clock_kept : (t : Trace) (line : ℕ) (old new : State) (answer : Answer) → Adds t line old new answer → new.clock ≡ old.clock
clock_kept t line old new answer adds = ⊎_elim (λ (now : IsPrintedAtOnce t line old new answer). now.clock) (λ (waits : Waits old new answer). waits.clock) adds

module _ (t : Trace) (history seg : History) (s : State) (had : IsReported t history seg s) where
  -- there is an answer for each moment of the segment
  pub answered_length : length had.early + length s.answers.items ≡ length seg
  answered_length =
      let a = length-append had.early (pending_at t s) in
      let b = numbered_length t.lines s.first s.answers.items in
      let c = ap (λ (xs : List Pending). length xs) had.pending_is in
      let d = pending_length seg in omega (arith, a, b, c, d)

  pub none_early : seg ≡ [] → had.early ≡ []
  none_early none = nil_from_length had.early (let a = answered_length in let b = ap (λ (xs : History). length xs) none in omega (arith, a, b))

  pub none_waiting : seg ≡ [] → s.answers.items ≡ []
  none_waiting none = nil_from_length s.answers.items (let a = answered_length in let b = ap (λ (xs : History). length xs) none in omega (arith, a, b))

  module _ (s' : State) (line : ℕ) (event : Event) where
    abbrev answer : Answer
    answer = answer_of event

    abbrev one : List Pending
    one = pending line answer ∷ []

    waits_more : number_at t.lines (length seg + length history) ≡ line → Waits s s' answer → IsReported t history (moment_of line event ∷ seg) s'
    waits_more place w =
        let N : ℕ → List Answer → List Pending = numbered t.lines in
        let n = length s.answers.items in
        let P : List ℕ → Type 0 = λ report. IsPrinted t history had.early report s.totals in
        let Q : Totals → Type 0 = λ totals. IsPrinted t history had.early s'.report.items totals in
        let a = had.first_is in
        let b = answered_length in
        let same : s.first + n ≡ length seg + length history = omega (arith, a, b) in
        record {
          early = had.early;
          first_is = w.first ∙ had.first_is;
          pending_is =
              ap (λ (xs : List Pending). had.early ++ xs)
              (ap (λ k. N k s'.answers.items) w.first ∙ ap (N s.first) w.answers ∙ numbered_push t.lines s.first n s.answers.items answer refl)
              ∙ sym (append_assoc had.early (pending_at t s) (pending (number_at t.lines (s.first + n)) answer ∷ []))
              ∙ ap (λ (xs : List Pending). xs ++ pending (number_at t.lines (s.first + n)) answer ∷ []) had.pending_is
              ∙ ap (λ k. pending_of seg ++ pending k answer ∷ []) (ap (λ k. number_at t.lines k) same ∙ place);
          printed = subst Q (sym w.totals) (subst P (sym w.report) had.printed);
        }

    printed_at_once : IsPrintedAtOnce t line s s' answer → IsReported t history (moment_of line event ∷ seg) s'
    printed_at_once now =
        let N : ℕ → List Answer → List Pending = numbered t.lines in
        let p = had.printed in
        let F : Totals → Type 0 = λ z. AreFew z (length s'.report.items) in
        let text : Splits → List ℕ = λ f. item_text t.topology.names (item_by f line answer) in
        let all : had.early ≡ pending_of seg =
        sym (append-nil had.early) ∙ ap (λ (xs : List Answer). had.early ++ N s.first xs) (sym now.none) ∙ had.pending_is in
        record {
          early = had.early ++ one;
          first_is = let a = now.first in let b = had.first_is in let c = length-append had.early one in omega (arith, a, b, c);
          pending_is =
              ap (λ (xs : List Answer). (had.early ++ one) ++ N s'.first xs) now.answers
              ∙ append-nil (had.early ++ one) ∙ ap (λ (xs : List Pending). xs ++ one) all;
          printed = record {
            items = p.items;
            answered = p.answered;
            report_is = λ f. text_whole t f p.items had.early one (had.early ++ one) s.report.items s'.report.items (p.report_is f)
                (now.report f ∙ ap (λ (xs : List ℕ). s.report.items ++ xs) (sym (append-nil (text f)))) refl;
            totals_are = now.totals ∙ p.totals_are;
            few = let f : Splits = λ q. no_split in
                let e = ap (λ (xs : List ℕ). length xs) (now.report f) in let l = length-append s.report.items (text f) in
                subst F (sym now.totals) (few_longer s.totals (length s.report.items) (length s'.report.items) (omega (arith, e, l)) p.few);
          };
        }

    -- the answer to one line more
    pub reported_more : number_at t.lines (length seg + length history) ≡ line → Adds t line s s' answer → IsReported t history (moment_of line event ∷ seg) s'
    reported_more place adds = ⊎_elim printed_at_once (waits_more place) adds
