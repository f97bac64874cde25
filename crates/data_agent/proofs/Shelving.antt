-- Pages leave memory.
use Rattle.std.proofs.Common.{ℕ, ◌≡◌, ◌≤◌, ◌<◌, ◌+◌, ◌-◌, ◌∷◌, [], ◌++◌, ◌∙◌, ◌==◌, ◌||◌, List, length, get_or, set, cond, Bool, true, false, nat_lt, sym, ap, subst, refl, inl, inr, arith}
use Rattle.std.proofs.lemmas.Bool.{cases_eq, eq-eqb, ne_eqb}
use Rattle.std.proofs.lemmas.List.{get_or-set_same, get_or-set_other, length-set}
use Rattle.spie_base.proofs.Booleans.{or_true}
use Rattle.spie_base.specs.declared.Rules.{Rules}
use Rattle.bloom_page.specs.Sets.{is_in}
use Rattle.page_catalogue.specs.Catalogues.{Catalogued, AreExpired}
use Rattle.shelved_page.specs.declared.shelving.Digests.{Digests}
use Rattle.transform_table.specs.Tables.{rows_of_page, without_page}
use Rattle.router_account.specs.Account.{rows_in}
use Rattle.router_account.specs.Ledger.{Ledger}
use Rattle.data_agent.specs.declared.agent.Agent.{Agent}
use Rattle.data_agent.specs.declared.closed_page.ClosedPage.{ClosedPage}
use Rattle.data_agent.specs.declared.closed_page.Whereabouts.TheVariants.{OnShelf}
use Rattle.data_agent.specs.declared.finishing.Settled.{Settled}
use Rattle.data_agent.specs.Finishing.{covered_all, put_all, put_where, settled_all, settled_by, shelved_in}
use Rattle.data_agent.specs.Standing.{AreClosed, AreDigests, IsClock, IsClosed, IsPlaced, Stands}
use Rattle.data_agent.proofs.Rows.{rows_left, rows_without}
use Rattle.data_agent.proofs.Staying.{pages_same}

-- a number in a list that has one more in front
in_front : (page other : ℕ) (pages : List ℕ) (b : Bool) → (other == page) ≡ b → is_in (page ∷ pages) other ≡ (b || is_in pages other)
in_front page other pages b e = ap (λ c. c || is_in pages other) e

abbrev on_shelf : Digests → ClosedPage
on_shelf digests = record { place = OnShelf digests; covered = true }

closed_shelved : (agent : Agent) (rules : Rules) (l : Ledger) (page : ℕ) (digests : Digests) → Stands agent rules l → agent.catalogue.gone ≤ page → page < length l.account.closings → AreDigests rules l.account page digests
    → AreClosed rules (shelved_in l page) agent.catalogue.gone (set agent.closed.items (page - agent.catalogue.gone) (on_shelf digests))
closed_shelved agent rules l page digests s from to is i d lt =
    let len : length (set agent.closed.items (page - agent.catalogue.gone) (on_shelf digests)) ≡ length agent.closed.items = length-set agent.closed.items (page - agent.catalogue.gone) (on_shelf digests) in
    let count : agent.catalogue.gone + length agent.closed.items ≡ length l.account.closings = s.count in
    elim (cases_eq (agent.catalogue.gone + i) page) [
      | inl here ↦
          let at : page - agent.catalogue.gone ≡ i = omega arith in
          let mine : get_or (set agent.closed.items (page - agent.catalogue.gone) (on_shelf digests)) i d ≡ on_shelf digests =
          subst (λ n. get_or (set agent.closed.items (page - agent.catalogue.gone) (on_shelf digests)) n d ≡ on_shelf digests) at (get_or-set_same agent.closed.items (page - agent.catalogue.gone) (on_shelf digests) d (omega arith)) in
          subst (IsClosed rules (shelved_in l page) (agent.catalogue.gone + i)) (sym mine) (subst (λ n. IsClosed rules (shelved_in l page) n (on_shelf digests)) (sym here) (record {
            covered = sym (in_front page page l.covered_before true (eq-eqb page page refl));
            placed = (in_front page page l.put_before true (eq-eqb page page refl), is);
          }))
      | inr other ↦
          let apart : (agent.catalogue.gone + i == page) ≡ false = ne_eqb (agent.catalogue.gone + i) page other in
          let was = s.closed i d (omega arith) in
          let mine : get_or (set agent.closed.items (page - agent.catalogue.gone) (on_shelf digests)) i d ≡ get_or agent.closed.items i d =
          get_or-set_other agent.closed.items (page - agent.catalogue.gone) i (on_shelf digests) d (λ e. other (omega arith)) in
          subst (IsClosed rules (shelved_in l page) (agent.catalogue.gone + i)) (sym mine) (record {
            covered = was.covered ∙ sym (in_front page (agent.catalogue.gone + i) l.covered_before false apart);
            placed = subst (λ b. IsPlaced rules l.account (agent.catalogue.gone + i) b (get_or agent.closed.items i d).place) (sym (in_front page (agent.catalogue.gone + i) l.put_before false apart)) was.placed;
          })
    ]

pub shelved : (old new : Agent) (rules : Rules) (l : Ledger) (page : ℕ) (digests : Digests) → Stands old rules l → old.catalogue.gone ≤ page → page < old.page.number → AreDigests rules l.account page digests
    → new.rules ≡ old.rules → new.router ≡ old.router → new.page ≡ old.page → new.keeper ≡ old.keeper → new.marked ≡ old.marked → new.catalogue ≡ old.catalogue
    → new.closed.items ≡ set old.closed.items (page - old.catalogue.gone) (on_shelf digests) → new.table ≡ without_page page old.table → Stands new rules (shelved_in l page)
shelved old new rules l page digests s from to is same_rules same_router same_page keeper marked catalogue items table =
    let end : page < length l.account.closings = let e = s.pages.page in omega arith in
    let gone : new.catalogue.gone ≡ old.catalogue.gone = ap (λ (c : Catalogued). c.gone) catalogue in
    let len : length new.closed.items ≡ length old.closed.items = ap length items ∙ length-set old.closed.items (page - old.catalogue.gone) (on_shelf digests) in
    let before = s.count in
    record {
      pages = pages_same old new rules l.account s.pages same_rules same_router same_page keeper marked len
          (ap (λ (c : Catalogued). c.rules) catalogue) (ap (λ (c : Catalogued). c.closings) catalogue) gone;
      count = omega arith;
      closed = subst (λ xs. AreClosed rules (shelved_in l page) new.catalogue.gone xs) (sym items)
          (subst (λ g. AreClosed rules (shelved_in l page) g (set old.closed.items (page - old.catalogue.gone) (on_shelf digests))) (sym gone) (closed_shelved old rules l page digests s from end is));
      to_come = λ other le.
          let t = s.to_come other le in
          let apart : (other == page) ≡ false = ne_eqb other page (λ e. omega arith) in
          record { unput = in_front page other l.put_before false apart ∙ t.unput; uncovered = in_front page other l.covered_before false apart ∙ t.uncovered };
      rows = record {
        table = λ other. ap (rows_of_page other) table ∙ (elim (cases_eq other page) [
          | inl here ↦
              subst (λ p. rows_of_page p (without_page page old.table) ≡ cond (nat_lt p new.catalogue.gone || is_in (page ∷ l.put_before) p) [] (rows_in l.account.rows p)) (sym here)
              (rows_left page old.table ∙ sym (ap (λ b. cond (nat_lt page new.catalogue.gone || b) [] (rows_in l.account.rows page)) (in_front page page l.put_before true (eq-eqb page page refl)) ∙ ap (λ b. cond b [] (rows_in l.account.rows page)) (or_true (nat_lt page new.catalogue.gone))))
          | inr apart ↦
              rows_without page other old.table (λ e. apart (sym e)) ∙ s.rows.table other
              ∙ ap (λ g. cond (nat_lt other g || is_in l.put_before other) [] (rows_in l.account.rows other)) (sym gone)
              ∙ ap (λ b. cond (nat_lt other new.catalogue.gone || b) [] (rows_in l.account.rows other)) (sym (in_front page other l.put_before false (ne_eqb other page apart)))
        ]);
        spelled = λ p le. s.rows.spelled p (omega arith);
      };
      expired = subst (λ g. AreExpired rules l.closings_then l.clock_then g) (sym gone) s.expired;
      clock = subst (IsClock l) (sym (ap (λ (c : Catalogued). c.clock) catalogue)) s.clock;
    }

-- ---- one page after the other

put_more : (pages : List ℕ) (settled : List Settled) (one : Settled) → put_all pages (settled ++ one ∷ []) ≡ put_where one.digests one.page.number (put_all pages settled)
put_more pages [] one = refl
put_more pages (first ∷ settled) one = put_more (put_where first.digests first.page.number pages) settled one

covered_more : (pages : List ℕ) (settled : List Settled) (one : Settled) → covered_all pages (settled ++ one ∷ []) ≡ one.page.number ∷ covered_all pages settled
covered_more pages [] one = refl
covered_more pages (first ∷ settled) one = covered_more (first.page.number ∷ pages) settled one

abbrev with_both : Ledger → (put covered : List ℕ) → Ledger
with_both l put covered = record l { put_before = put; covered_before = covered }

pub settled_more : (l : Ledger) (settled : List Settled) (one : Settled) → settled_all l (settled ++ one ∷ []) ≡ settled_by (settled_all l settled) one
settled_more l settled one =
    ap (λ ps. with_both l ps (covered_all l.covered_before (settled ++ one ∷ []))) (put_more l.put_before settled one)
    ∙ ap (λ cs. with_both l (put_where one.digests one.page.number (put_all l.put_before settled)) cs) (covered_more l.covered_before settled one)
