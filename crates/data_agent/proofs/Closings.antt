-- What an agent stands for after its open page was closed.
use Rattle.std.proofs.Common.{ℕ, ◌≡◌, ◌≤◌, ◌<◌, ◌+◌, ◌-◌, ◌^◌, ◌∷◌, [], ◌++◌, ◌∙◌, List, length, get_or, All, sym, ap, refl, subst, inl, inr, arith, length-append}
use Rattle.std.proofs.lemmas.Bool.{cases_lt}
use Rattle.std.specs.List.{Contains}
use Rattle.std.proofs.lemmas.List.{get_or_append_left, get_or_push, get_or_default}
use Rattle.std.proofs.lemmas.List.Elements.{Contains-append_right, Contains-append_cases}
use Rattle.spie_base.specs.declared.Entry.{Entry}
use Rattle.page_catalogue.specs.Catalogues.{AreExpired}
use Rattle.spie_base.proofs.Membership.{has_first, has_one}
use Rattle.spie_base.specs.Shapes.{shape_of}
use Rattle.spie_base.specs.declared.Rules.{Rules}
use Rattle.transform_table.specs.Tables.{rows_of_page}
use Rattle.router_account.specs.Account.{Account, fill, with_closing}
use Rattle.router_account.specs.Ledger.{Ledger, Unfinished, turned_at}
use Rattle.router_account.proofs.PageSets.{page_set_fresh}
use Rattle.data_agent.specs.declared.agent.Agent.{Agent}
use Rattle.data_agent.specs.Calls.{MayTurn}
use Rattle.page_catalogue.specs.Pages.{AreAscending}
use Rattle.router_account.proofs.PageSets.{opened_more, closed_more}
use Rattle.data_agent.specs.Standing.{AreClosed, AreTimes, HasNotes, HasPages, IsKeeping, StandsFor, rows_kept, standing}
use Rattle.data_agent.proofs.Kept.{Keeps, closed_kept, notes_kept}

pub closings_more : (a : Account) (clock : ℕ) → length (a.closings ++ clock ∷ []) ≡ length a.closings + 1
closings_more a clock = length-append a.closings (clock ∷ [])

pub entered_more : (entries : List Entry) (last more : ℕ) → last ≤ more → All (λ entry. entry.page.number ≤ last) entries → All (λ entry. entry.page.number ≤ more) entries
entered_more entries last more le each k d lt = let e : (get_or entries k d).page.number ≤ last = each k d lt in omega arith

ascend_more : (closings : List ℕ) (clock : ℕ) → AreAscending closings → ((time : ℕ) → Contains closings time → time ≤ clock) → AreAscending (closings ++ clock ∷ [])
ascend_more closings clock ascend late i j le lt =
    let len : length (closings ++ clock ∷ []) ≡ length closings + 1 = length-append closings (clock ∷ []) in
    elim (cases_lt j (length closings)) [
      | inl inside ↦
          let a : get_or (closings ++ clock ∷ []) i 0 ≡ get_or closings i 0 = get_or_append_left closings (clock ∷ []) 0 i (omega arith) in
          let b : get_or (closings ++ clock ∷ []) j 0 ≡ get_or closings j 0 = get_or_append_left closings (clock ∷ []) 0 j inside in
          let c : get_or closings i 0 ≤ get_or closings j 0 = ascend i j le inside in
          omega arith
      | inr at ↦
          let b : get_or (closings ++ clock ∷ []) j 0 ≡ clock = get_or_push closings clock 0 j (omega arith) in
          elim (cases_lt i (length closings)) [
            | inl first ↦
                let a : get_or (closings ++ clock ∷ []) i 0 ≡ get_or closings i 0 = get_or_append_left closings (clock ∷ []) 0 i first in
                let c : get_or closings i 0 ≤ clock = late (get_or closings i 0) (i, first, sym (get_or_default closings i 0 (get_or closings i 0) first)) in
                omega arith
            | inr second ↦
                let a : get_or (closings ++ clock ∷ []) i 0 ≡ clock = get_or_push closings clock 0 i (omega arith) in
                omega arith
          ]
    ]

pub times_more : (closings : List ℕ) (clock : ℕ) → AreTimes closings → ((time : ℕ) → Contains closings time → time ≤ clock) → clock < 2 ^ 48 → AreTimes (closings ++ clock ∷ [])
times_more closings clock times late fits = record {
  ascend = ascend_more closings clock times.ascend late;
  fit = λ time has. elim (Contains-append_cases closings (clock ∷ []) time has) [
    | inl old ↦ times.fit time old
    | inr new ↦ let e : clock ≡ time = has_one clock time new in omega arith
  ];
}

-- nothing was recorded yet in a page to come
pub fresh_fill : (rules : Rules) (a : Account) (page : ℕ) → All (λ entry. entry.page.number ≤ length a.closings) a.entries → length a.closings < page → fill rules a page ≡ 0
fresh_fill rules a page entered past = ap (λ s. length s.members) (page_set_fresh rules a.router page (length a.closings) a.entries entered past)

pub pages_turned : (old new : Agent) (rules : Rules) (a : Account) (clock : ℕ) → HasPages old rules a → length old.catalogue.closings + 1 < 2 ^ 32 - 1 → AreTimes (old.catalogue.closings ++ clock ∷ [])
    → new.rules ≡ old.rules → new.router ≡ old.router → new.catalogue.rules ≡ old.catalogue.rules → new.catalogue.closings ≡ old.catalogue.closings ++ clock ∷ [] → new.catalogue.gone ≡ old.catalogue.gone
    → new.page.number ≡ length old.catalogue.closings + 1 → new.marked ≡ 0 → new.closed.items ≡ old.closed.items
    → IsKeeping (shape_of rules a.router) new.keeper a.entries (standing old) (length a.closings + 1) → HasPages new rules (with_closing a clock)
pages_turned old new rules a clock s room times same_rules same_router same_by closings gone page marked items keeping =
    let same : length old.catalogue.closings ≡ length a.closings = ap length s.closings in
    let more : length (a.closings ++ clock ∷ []) ≡ length a.closings + 1 = closings_more a clock in
    let empty : fill rules a (length (a.closings ++ clock ∷ [])) ≡ 0 = fresh_fill rules a (length (a.closings ++ clock ∷ [])) s.entered (omega arith) in
    let len : length new.closed.items ≡ length old.closed.items = ap length items in
    let here : standing old ≡ standing new = omega arith in
    record {
      ranges = s.ranges;
      router_fits = s.router_fits;
      rules_are = same_rules ∙ s.rules_are;
      router = ap (λ r. r.number) same_router ∙ s.router;
      by_rules = same_by ∙ s.by_rules;
      closings = closings ∙ ap (λ xs. xs ++ clock ∷ []) s.closings;
      times = subst (λ xs. AreTimes (xs ++ clock ∷ [])) s.closings times;
      few = omega arith;
      page = page ∙ ap (λ n. n + 1) same ∙ sym more;
      entered = entered_more a.entries (length a.closings) (length (a.closings ++ clock ∷ [])) (omega arith) s.entered;
      marked = omega arith;
      keeping = subst (λ (n : ℕ). IsKeeping (shape_of rules a.router) new.keeper a.entries n (length (a.closings ++ clock ∷ []))) here (subst (λ (n : ℕ). IsKeeping (shape_of rules a.router) new.keeper a.entries (standing old) n) (sym more) keeping);
    }

pub keeps_closing : (rules : Rules) (a : Account) (clock : ℕ) → Keeps rules a (with_closing a clock)
keeps_closing rules a clock = record {
  router = refl;
  longer = let e = closings_more a clock in omega arith;
  bits = λ page lt. refl;
  opened_same = λ page lt. opened_more a.closings clock page (omega arith);
  closed_same = λ page lt. closed_more a.closings clock page lt;
}

-- the times of closings and one more
pub times_turned : (agent : Agent) (clock : ℕ) → MayTurn (StandsFor agent) clock → AreTimes (agent.catalogue.closings ++ clock ∷ [])
times_turned agent clock (rules, l, u, s, late, room) =
    subst (λ xs. AreTimes (xs ++ clock ∷ [])) (sym s.amid.pages.closings) (times_more l.account.closings clock s.amid.pages.times late.closings late.fits)

pub turned : (old new : Agent) (rules : Rules) (l : Ledger) (u : Unfinished) (clock : ℕ) → StandsFor old rules l u → length old.catalogue.closings + 1 < 2 ^ 32 - 1 → AreTimes (old.catalogue.closings ++ clock ∷ [])
    → new.rules ≡ old.rules → new.router ≡ old.router → new.catalogue.rules ≡ old.catalogue.rules → new.catalogue.closings ≡ old.catalogue.closings ++ clock ∷ [] → new.catalogue.gone ≡ old.catalogue.gone → new.catalogue.clock ≡ clock
    → new.page.number ≡ length old.catalogue.closings + 1 → new.marked ≡ 0 → new.closed.items ≡ old.closed.items
    → IsKeeping (shape_of rules l.account.router) new.keeper l.account.entries (standing old) (length l.account.closings + 1)
    → new.table ≡ old.table → new.noted ≡ old.noted → StandsFor new rules (turned_at l clock) u
turned old new rules l u clock s room times same_rules same_router same_by closings gone at page marked items keeping table noted =
    let a = l.account in
    let keeps = keeps_closing rules a clock in
    let order = s.amid.pages.keeping.order in
    let len : length new.closed.items ≡ length old.closed.items = ap length items in
    let kept : AreClosed rules (turned_at l clock) old.catalogue.gone old.closed.items =
    closed_kept rules l (with_closing a clock) old.catalogue.gone old.closed.items keeps (omega arith) (λ page put. refl) s.amid.closed in
    record {
      amid = record {
        pages = pages_turned old new rules a clock s.amid.pages room times same_rules same_router same_by closings gone page marked items keeping;
        closed = subst (λ xs. AreClosed rules (turned_at l clock) new.catalogue.gone xs) (sym items) (subst (λ g. AreClosed rules (turned_at l clock) g old.closed.items) (sym gone) kept);
        to_come = λ p le. let t = s.amid.to_come p (omega arith) in record { unput = t.unput; uncovered = t.uncovered };
        rows = record {
          table = λ p. ap (rows_of_page p) table ∙ s.amid.rows.table p ∙ ap (λ g. rows_kept g l p) (sym gone);
          spelled = λ p le. s.amid.rows.spelled p (omega arith);
        };
        expired = subst (λ g. AreExpired rules l.closings_then l.clock_then g) (sym gone) s.amid.expired;
        clock = λ later then times. let le : clock ≤ later = times clock (Contains-append_right l.account.closings (clock ∷ []) clock (has_first clock [])) in omega arith;
      };
      noted = subst (HasNotes rules (turned_at l clock) u l.closed_at_archive) (sym noted) (notes_kept rules l (with_closing a clock) u l.closed_at_archive old.noted keeps s.noted);
    }

-- one page more has a number
pub has_room : (agent : Agent) (clock : ℕ) → MayTurn (StandsFor agent) clock → length agent.catalogue.closings + 1 < 2 ^ 32 - 1
has_room agent clock (rules, l, u, s, late, room) = let e : length agent.catalogue.closings ≡ length l.account.closings = ap length s.amid.pages.closings in omega arith
