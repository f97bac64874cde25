-- An agent of which nothing changed that says for which ledger it stands, or one page more was collected.
use Rattle.std.proofs.Common.{ℕ, ◌≡◌, ◌≤◌, ◌+◌, ◌∷◌, [], ◌++◌, ◌∙◌, List, length, sym, ap, subst, inl, inr, arith, false, length-append}
use Rattle.std.proofs.lemmas.Bool.{cases_lt}
use Rattle.std.proofs.lemmas.List.{get_or_append_left, get_or_push}
use Rattle.page_catalogue.specs.Catalogues.{Catalogued, AreExpired}
use Rattle.spie_base.specs.Shapes.{shape_of}
use Rattle.spie_base.specs.declared.Rules.{Rules}
use Rattle.transform_table.specs.Tables.{rows_of_page}
use Rattle.router_account.specs.Account.{Account, fill}
use Rattle.router_account.specs.Ledger.{Ledger}
use Rattle.data_agent.specs.declared.agent.Agent.{Agent}
use Rattle.data_agent.specs.declared.closed_page.ClosedPage.{ClosedPage}
use Rattle.data_agent.specs.declared.closed_page.Whereabouts.TheVariants.{InMemory}
use Rattle.data_agent.specs.declared.resident.Resident.{Resident}
use Rattle.data_agent.specs.Residents.{IsResident}
use Rattle.data_agent.specs.Standing.{AreClosed, HasNotes, HasPages, IsClock, IsClosed, IsKeeping, Stands, StandsAmid, StillStands, rows_kept, standing}
use Rattle.page_gate.specs.Held.{Held}

pub closed_more_page : (rules : Rules) (l : Ledger) (first : ℕ) (pages : List ClosedPage) (more : ClosedPage) → AreClosed rules l first pages
    → IsClosed rules l (first + length pages) more → AreClosed rules l first (pages ++ more ∷ [])
closed_more_page rules l first pages more each last i d lt =
    elim (cases_lt i (length pages)) [
      | inl before ↦ subst (λ (b : ClosedPage). IsClosed rules l (first + i) b) (sym (get_or_append_left pages (more ∷ []) d i before)) (each i d before)
      | inr behind ↦
          let len : length (pages ++ more ∷ []) ≡ length pages + 1 = length-append pages (more ∷ []) in
          let at : length pages ≡ i = omega arith in
          subst (λ (b : ClosedPage). IsClosed rules l (first + i) b) (sym (get_or_push pages more d i at)) (subst (λ n. IsClosed rules l (first + n) more) at last)
    ]

-- the keeper may have noted reads and collected pages
pub pages_with : (old new : Agent) (rules : Rules) (a : Account) → HasPages old rules a
    → new.rules ≡ old.rules → new.router ≡ old.router → new.page ≡ old.page → fill rules a (length a.closings) ≤ new.marked
    → new.catalogue.rules ≡ old.catalogue.rules → new.catalogue.closings ≡ old.catalogue.closings
    → IsKeeping (shape_of rules a.router) new.keeper a.entries (standing new) (length a.closings) → HasPages new rules a
pages_with old new rules a s same_rules same_router page marked by closings keeping =
    record {
      ranges = s.ranges;
      router_fits = s.router_fits;
      rules_are = same_rules ∙ s.rules_are;
      router = ap (λ r. r.number) same_router ∙ s.router;
      by_rules = by ∙ s.by_rules;
      closings = closings ∙ s.closings;
      times = s.times;
      few = s.few;
      page = ap (λ p. p.number) page ∙ s.page;
      entered = s.entered;
      marked = marked;
      keeping = keeping;
    }

pub pages_same : (old new : Agent) (rules : Rules) (a : Account) → HasPages old rules a
    → new.rules ≡ old.rules → new.router ≡ old.router → new.page ≡ old.page → new.keeper ≡ old.keeper → new.marked ≡ old.marked → length new.closed.items ≡ length old.closed.items
    → new.catalogue.rules ≡ old.catalogue.rules → new.catalogue.closings ≡ old.catalogue.closings → new.catalogue.gone ≡ old.catalogue.gone → HasPages new rules a
pages_same old new rules a s same_rules same_router page keeper marked len by closings gone =
    let here : standing old ≡ standing new = omega arith in
    pages_with old new rules a s same_rules same_router page (let m = s.marked in omega arith) by closings
    (subst (λ (n : ℕ). IsKeeping (shape_of rules a.router) new.keeper a.entries n (length a.closings)) here (subst (λ (k : Held). IsKeeping (shape_of rules a.router) k a.entries (standing old) (length a.closings)) (sym keeper) s.keeping))

-- the keeper may have noted something
pub amid_then : (old new : Agent) (rules : Rules) (l : Ledger) → StandsAmid old rules l
    → new.rules ≡ old.rules → new.router ≡ old.router → new.page ≡ old.page → new.marked ≡ old.marked → new.closed.items ≡ old.closed.items → new.catalogue ≡ old.catalogue → new.table ≡ old.table
    → (IsKeeping (shape_of rules l.account.router) old.keeper l.account.entries (standing old) (length l.account.closings) → IsKeeping (shape_of rules l.account.router) new.keeper l.account.entries (standing old) (length l.account.closings))
    → StandsAmid new rules l
amid_then old new rules l s same_rules same_router page marked items catalogue table kept =
    let gone : new.catalogue.gone ≡ old.catalogue.gone = ap (λ (c : Catalogued). c.gone) catalogue in
    let len : length new.closed.items ≡ length old.closed.items = ap length items in
    let here : standing old ≡ standing new = omega arith in
    record {
      pages = pages_with old new rules l.account s.pages same_rules same_router page (let m = s.pages.marked in omega arith) (ap (λ (c : Catalogued). c.rules) catalogue) (ap (λ (c : Catalogued). c.closings) catalogue)
          (subst (λ (n : ℕ). IsKeeping (shape_of rules l.account.router) new.keeper l.account.entries n (length l.account.closings)) here (kept s.pages.keeping));
      closed = subst (λ xs. AreClosed rules l new.catalogue.gone xs) (sym items) (subst (λ g. AreClosed rules l g old.closed.items) (sym gone) s.closed);
      to_come = λ p le. s.to_come p (omega arith);
      rows = record {
        table = λ p. ap (rows_of_page p) table ∙ s.rows.table p ∙ ap (λ g. rows_kept g l p) (sym gone);
        spelled = λ p le. s.rows.spelled p (omega arith);
      };
      expired = subst (λ g. AreExpired rules l.closings_then l.clock_then g) (sym gone) s.expired;
      clock = subst (λ (c : Catalogued). IsClock l c.clock) (sym catalogue) s.clock;
    }

pub items_then : (xs ys zs : List ClosedPage) (x : ClosedPage) → zs ≡ ys ++ x ∷ [] → ys ≡ xs → zs ≡ xs ++ x ∷ []
items_then xs ys zs x more same = more ∙ ap (λ ws. ws ++ x ∷ []) same

-- the page that stands in a slot longest was collected
pub taken_in : (old new : Agent) (rules : Rules) (l : Ledger) (r : Resident) → StandsAmid old rules l
    → new.rules ≡ old.rules → new.router ≡ old.router → new.page ≡ old.page → new.marked ≡ old.marked → new.catalogue ≡ old.catalogue → new.table ≡ old.table
    → new.closed.items ≡ old.closed.items ++ (let c : ClosedPage = record { place = InMemory r; covered = false } in c) ∷ []
    → IsResident rules l.account (standing old) r → IsKeeping (shape_of rules l.account.router) new.keeper l.account.entries (standing old + 1) (length l.account.closings) → StandsAmid new rules l
taken_in old new rules l r s same_rules same_router page marked catalogue table items is kept =
    let gone : new.catalogue.gone ≡ old.catalogue.gone = ap (λ (c : Catalogued). c.gone) catalogue in
    let last : ClosedPage = record { place = InMemory r; covered = false } in
    let len : length new.closed.items ≡ length old.closed.items + 1 = ap length items ∙ length-append old.closed.items (last ∷ []) in
    let here : standing old + 1 ≡ standing new = omega arith in
    let none = s.to_come (standing old) (omega arith) in
    let all : AreClosed rules l old.catalogue.gone (old.closed.items ++ last ∷ []) = closed_more_page rules l old.catalogue.gone old.closed.items last s.closed (record { covered = sym none.uncovered; placed = (none.unput, is) }) in
    record {
      pages = pages_with old new rules l.account s.pages same_rules same_router page (let m = s.pages.marked in omega arith) (ap (λ (c : Catalogued). c.rules) catalogue) (ap (λ (c : Catalogued). c.closings) catalogue)
          (subst (λ (n : ℕ). IsKeeping (shape_of rules l.account.router) new.keeper l.account.entries n (length l.account.closings)) here kept);
      closed = subst (λ xs. AreClosed rules l new.catalogue.gone xs) (sym items) (subst (λ g. AreClosed rules l g (old.closed.items ++ last ∷ [])) (sym gone) all);
      to_come = λ p le. s.to_come p (omega arith);
      rows = record {
        table = λ p. ap (rows_of_page p) table ∙ s.rows.table p ∙ ap (λ g. rows_kept g l p) (sym gone);
        spelled = λ p le. s.rows.spelled p (omega arith);
      };
      expired = subst (λ g. AreExpired rules l.closings_then l.clock_then g) (sym gone) s.expired;
      clock = subst (λ (c : Catalogued). IsClock l c.clock) (sym catalogue) s.clock;
    }

pub amid_same : (old new : Agent) (rules : Rules) (l : Ledger) → StandsAmid old rules l
    → new.rules ≡ old.rules → new.router ≡ old.router → new.page ≡ old.page → new.keeper ≡ old.keeper → new.marked ≡ old.marked → new.closed.items ≡ old.closed.items
    → new.catalogue.rules ≡ old.catalogue.rules → new.catalogue.closings ≡ old.catalogue.closings → new.catalogue.gone ≡ old.catalogue.gone → new.catalogue.clock ≡ old.catalogue.clock → new.table ≡ old.table → StandsAmid new rules l
amid_same old new rules l s same_rules same_router page keeper marked items by closings gone clock table =
    let len : length new.closed.items ≡ length old.closed.items = ap length items in
    record {
      pages = pages_same old new rules l.account s.pages same_rules same_router page keeper marked len by closings gone;
      closed = subst (λ xs. AreClosed rules l new.catalogue.gone xs) (sym items) (subst (λ g. AreClosed rules l g old.closed.items) (sym gone) s.closed);
      to_come = λ p le. s.to_come p (omega arith);
      rows = record {
        table = λ p. ap (rows_of_page p) table ∙ s.rows.table p ∙ ap (λ g. rows_kept g l p) (sym gone);
        spelled = λ p le. s.rows.spelled p (omega arith);
      };
      expired = subst (λ g. AreExpired rules l.closings_then l.clock_then g) (sym gone) s.expired;
      clock = subst (IsClock l) (sym clock) s.clock;
    }

-- the same where every closed page has left its slot
pub stands_same : (old new : Agent) (rules : Rules) (l : Ledger) → Stands old rules l
    → new.rules ≡ old.rules → new.router ≡ old.router → new.page ≡ old.page → new.keeper ≡ old.keeper → new.marked ≡ old.marked → new.closed.items ≡ old.closed.items
    → new.catalogue.rules ≡ old.catalogue.rules → new.catalogue.closings ≡ old.catalogue.closings → new.catalogue.gone ≡ old.catalogue.gone → new.catalogue.clock ≡ old.catalogue.clock → new.table ≡ old.table → Stands new rules l
stands_same old new rules l s same_rules same_router page keeper marked items by closings gone clock table =
    let len : length new.closed.items ≡ length old.closed.items = ap length items in
    let count = s.count in
    record {
      pages = pages_same old new rules l.account s.pages same_rules same_router page keeper marked len by closings gone;
      count = omega arith;
      closed = subst (λ xs. AreClosed rules l new.catalogue.gone xs) (sym items) (subst (λ g. AreClosed rules l g old.closed.items) (sym gone) s.closed);
      to_come = s.to_come;
      rows = record {
        table = λ p. ap (rows_of_page p) table ∙ s.rows.table p ∙ ap (λ g. rows_kept g l p) (sym gone);
        spelled = λ p le. s.rows.spelled p (omega arith);
      };
      expired = subst (λ g. AreExpired rules l.closings_then l.clock_then g) (sym gone) s.expired;
      clock = subst (IsClock l) (sym clock) s.clock;
    }

pub still : (old new : Agent) → new.rules ≡ old.rules → new.router ≡ old.router → new.page ≡ old.page → new.keeper ≡ old.keeper → new.marked ≡ old.marked → new.closed.items ≡ old.closed.items
    → new.catalogue ≡ record old.catalogue { room = new.catalogue.room } → new.table ≡ old.table → new.noted ≡ old.noted → StillStands old new
still old new same_rules same_router page keeper marked items same table noted rules l u s = record {
  amid = amid_same old new rules l s.amid same_rules same_router page keeper marked items
      (ap (λ (x : Catalogued). x.rules) same) (ap (λ (x : Catalogued). x.closings) same) (ap (λ (x : Catalogued). x.gone) same) (ap (λ (x : Catalogued). x.clock) same) table;
  noted = subst (HasNotes rules l u l.closed_at_archive) (sym noted) s.noted;
}
