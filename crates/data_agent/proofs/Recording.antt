-- What an agent stands for after a record, or a row more.
use Rattle.std.proofs.Common.{Result, Ok, Err, OnOk, Option, map, cond, ◌==◌, append-nil, ℕ, ◌≡◌, ◌≤◌, ◌<◌, ◌+◌, ◌-◌, ◌^◌, ◌∷◌, [], ◌++◌, ◌∙◌, List, length, filter, sym, ap, refl, subst, inl, inr, min, arith, Bool, true, false, ◌||◌, nat_lt, length-append}
use Rattle.std.proofs.lemmas.Bool.{cases_eq, eq-eqb, eqb-true, ne_eqb, le-ltb, ltb-false, false≢true}
use Rattle.spie_base.proofs.Booleans.{none_holds}
use Rattle.router_account.specs.Account.{with_row}
use Rattle.data_agent.proofs.Members.{is_in-none}
use Rattle.std.proofs.lemmas.List.{map-append}
use Rattle.std.proofs.lemmas.List.Elements.{All-push, filter-append}
use Rattle.page_catalogue.specs.Catalogues.{Catalogued, AreExpired}
use Rattle.spie_base.specs.Shapes.{shape_of}
use Rattle.spie_base.specs.declared.Rules.{Rules}
use Rattle.spie_base.specs.declared.Sig.{Sig}
use Rattle.transform_table.specs.Tables.{rows_of_page, is_of_page}
use Rattle.spie_base.specs.declared.PageNo.{PageNo}
use Rattle.packet_signature.specs.declared.Row.{Row}
use Rattle.router_account.specs.Account.{Account, RowIn, rows_in, fill, with_entry}
use Rattle.router_account.specs.Ledger.{Ledger, Unfinished, recorded_in, changed_in}
use Rattle.router_account.proofs.PageSets.{rows_more, rows_other, entry_at, page_set_other}
use Rattle.data_agent.specs.declared.agent.Agent.{Agent}
use Rattle.spie_base.specs.declared.types.TheConstants.{N_MOST}
use Rattle.data_agent.proofs.Counts.{fill_more, fill_most}
use Rattle.bloom_page.specs.Sets.{is_in}
use Rattle.archive_record.specs.Spelling.{IsRow, IsPlainRow}
use Rattle.data_agent.specs.declared.resident.Resident.{Resident}
use Rattle.data_agent.specs.Calls.{IsNear}
use Rattle.data_agent.specs.Standing.{AreClosed, AreSpelled, HasNotes, HasPages, IsClock, IsKeeping, StandsAmid, StandsFor, rows_kept, standing}
use Rattle.page_gate.specs.Held.{Held, recorded_held}
use Rattle.page_gate.specs.Slots.{open_page as page_open}
use Rattle.data_agent.proofs.Keeping.{kept_recorded}
use Rattle.data_agent.proofs.Kept.{Keeps, closed_kept, notes_kept, rows_near, same_put_amid}
use Rattle.data_agent.proofs.Staying.{pages_same}

-- ---- a record

marked_more : (rules : Rules) (a : Account) (page : ℕ) (sig : Sig) (before after : ℕ) → rules.n ≤ N_MOST → fill rules a page ≤ before → after ≡ min (before + rules.k) (2 ^ 32 - 1) → fill rules (with_entry a page sig) page ≤ after
marked_more rules a page sig before after few le at =
    let more : fill rules (with_entry a page sig) page ≤ fill rules a page + rules.k = fill_more rules a page sig in
    let most : fill rules (with_entry a page sig) page ≤ 2 ^ N_MOST = fill_most rules (with_entry a page sig) page few in
    omega arith

keeps_record : (rules : Rules) (a : Account) (sig : Sig) → Keeps rules a (with_entry a (length a.closings) sig)
keeps_record rules a sig = record {
  router = refl;
  longer = omega arith;
  bits = λ page lt. page_set_other rules a.router page (length a.closings) a.entries sig (λ e. omega arith);
  opened_same = λ page lt. refl;
  closed_same = λ page lt. refl;
}

pub recorded : (old : Agent) (keeper : Held) (marked : ℕ) (copied : Option Resident) (page : PageNo) (rules : Rules) (l : Ledger) (u : Unfinished) (sig : Sig) → StandsFor old rules l u
    → page.number ≡ page_open old.keeper.view.duties → keeper ≡ recorded_held old.keeper page sig → marked ≡ min (old.marked + old.rules.k) (2 ^ 32 - 1)
    → StandsFor (record old { keeper = keeper; marked = marked; copied = copied }) rules (recorded_in l (length l.account.closings) sig) u
recorded old keeper marked copied page rules l u sig s at is sum =
    let a = l.account in
    let last = length a.closings in
    let pages = s.amid.pages in
    let order = pages.keeping.order in
    record {
      amid = record {
        pages = record {
          ranges = pages.ranges;
          router_fits = pages.router_fits;
          rules_are = pages.rules_are;
          router = pages.router;
          by_rules = pages.by_rules;
          closings = pages.closings;
          times = pages.times;
          few = pages.few;
          page = pages.page;
          entered = All-push (λ entry. entry.page.number ≤ last) a.entries (entry_at last sig) pages.entered (omega arith);
          marked = marked_more rules a last sig old.marked marked pages.ranges.n_most pages.marked (sum ∙ ap (λ (r : Rules). min (old.marked + r.k) (2 ^ 32 - 1)) pages.rules_are);
          keeping = subst (λ (k : Held). IsKeeping (shape_of rules a.router) k (a.entries ++ entry_at last sig ∷ []) (standing old) last) (sym is)
              (kept_recorded (shape_of rules a.router) old.keeper a.entries (standing old) last page sig pages.keeping (at ∙ pages.keeping.open_is));
        };
        closed = closed_kept rules l (with_entry a last sig) old.catalogue.gone old.closed.items (keeps_record rules a sig) (omega arith) (λ p put. refl) s.amid.closed;
        to_come = λ p le. record { unput = (s.amid.to_come p le).unput; uncovered = (s.amid.to_come p le).uncovered };
        rows = record { table = s.amid.rows.table; spelled = s.amid.rows.spelled };
        expired = s.amid.expired;
        clock = s.amid.clock;
      };
      noted = notes_kept rules l (with_entry a last sig) u l.closed_at_archive old.noted (keeps_record rules a sig) s.noted;
    }

-- ---- a row

last_row : (b : Bool) (pair : PageNo × Row) → map (λ (p : PageNo × Row). p.1) (cond b (pair ∷ []) []) ≡ cond b (pair.1 ∷ []) []
last_row true pair = refl
last_row false pair = refl

one_added : (table : List (PageNo × Row)) (page : PageNo) (row : Row) (other : ℕ) → rows_of_page other (table ++ (page, row) ∷ []) ≡ rows_of_page other table ++ cond (page.number == other) (row ∷ []) []
one_added table page row other =
    ap (map (λ (pair : PageNo × Row). pair.1)) (filter-append (is_of_page other) table ((page, row) ∷ []))
    ∙ map-append (λ (pair : PageNo × Row). pair.1) (filter (is_of_page other) table) (filter (is_of_page other) ((page, row) ∷ []))
    ∙ ap (λ xs. rows_of_page other table ++ xs) (last_row (page.number == other) (page, row))

one_changed : (rows : List RowIn) (page : ℕ) (row : Row) (other : ℕ) → rows_in (rows ++ record { page = page; row = row } ∷ []) other ≡ rows_in rows other ++ cond (page == other) (row ∷ []) []
one_changed rows page row other =
    elim (cases_eq page other) [
      | inl same ↦ subst (λ p. rows_in (rows ++ record { page = page; row = row } ∷ []) p ≡ rows_in rows p ++ cond (page == p) (row ∷ []) []) same
          (rows_more rows page row ∙ ap (λ b. rows_in rows page ++ cond b (row ∷ []) []) (sym (eq-eqb page page refl)))
      | inr differs ↦ rows_other rows other page row differs ∙ sym (append-nil (rows_in rows other)) ∙ ap (λ b. rows_in rows other ++ cond b (row ∷ []) []) (sym (ne_eqb page other differs))
    ]

-- what a new row needs, by the agent
pub record Takes (agent : Agent) (page : ℕ) (row : Row) : Type 0 where
  pub near : agent.catalogue.gone ≤ page
  pub unput : (rules : Rules) (l : Ledger) → StandsAmid agent rules l → is_in l.put_before page ≡ false
  pub few : length (rows_of_page page agent.table) < 1000000
  pub kind : IsRow row.kind row.old
  pub plain : IsPlainRow row

pub takes : (agent : Agent) (page : ℕ) (row : Row) → ((rules : Rules) × (l : Ledger) × (u : Unfinished) × StandsFor agent rules l u × IsNear rules l page row) → IsPlainRow row → Takes agent page row
takes agent page row (rules, l, u, s, near) plain =
    let from : agent.catalogue.gone ≤ page = ltb-false page agent.catalogue.gone (s.amid.expired page ∙ near.live) in
    let unput : is_in l.put_before page ≡ false = is_in-none l.put_before page near.unput in
    record {
      near = from;
      unput = λ other m t. same_put_amid agent other rules m l page t s.amid from ∙ unput;
      few = let e : length (rows_of_page page agent.table) ≡ length (rows_in l.account.rows page) = ap length (rows_near agent l page s.amid.rows from unput) in let f = near.few in omega arith;
      kind = near.kind;
      plain = plain;
    }

one_kept : (b here : Bool) (rows : List Row) (row : Row) → (b ≡ true → here ≡ false) → cond b [] rows ++ cond here (row ∷ []) [] ≡ cond b [] (rows ++ cond here (row ∷ []) [])
one_kept true true rows row apart = absurd (false≢true (sym (apart refl)))
one_kept true false rows row apart = refl
one_kept false here rows row apart = refl

-- a page whose rows the table does not have is no page that is near
apart_at : (agent : Agent) (rules : Rules) (l : Ledger) (page : ℕ) (row : Row) (other : ℕ) → StandsAmid agent rules l → Takes agent page row → (nat_lt other agent.catalogue.gone || is_in l.put_before other) ≡ true → (page == other) ≡ false
apart_at agent rules l page row other s near gone = ne_eqb page other (λ e. false≢true
    (sym (none_holds (nat_lt other agent.catalogue.gone) (is_in l.put_before other) (le-ltb other agent.catalogue.gone (let n = near.near in omega arith)) (subst (λ p. is_in l.put_before p ≡ false) e (near.unput rules l s))) ∙ gone))

spelled_more : (rows : List Row) (row : Row) (here : Bool) → (here ≡ true → length rows < 1000000) → IsRow row.kind row.old → IsPlainRow row → AreSpelled rows → AreSpelled (rows ++ cond here (row ∷ []) [])
spelled_more rows row true few kind plain s = record {
  few = let f : length rows < 1000000 = few refl in let e : length (rows ++ row ∷ []) ≡ length rows + 1 = length-append rows (row ∷ []) in omega arith;
  kinds = All-push (λ r. IsRow r.kind r.old) rows row s.kinds kind;
  plain = All-push IsPlainRow rows row s.plain plain;
}
spelled_more rows row false few kind plain s = subst AreSpelled (sym (append-nil rows)) s

rows_changed : (agent : Agent) (rules : Rules) (l : Ledger) (page other : ℕ) (row : Row) → StandsAmid agent rules l → Takes agent page row → is_in l.put_before other ≡ true → rows_in (l.account.rows ++ record { page = page; row = row } ∷ []) other ≡ rows_in l.account.rows other
rows_changed agent rules l page other row s near put = rows_other l.account.rows other page row (λ e. false≢true (sym (near.unput rules l s) ∙ subst (λ p. is_in l.put_before p ≡ true) (sym e) put))

keeps_row : (rules : Rules) (a : Account) (page : ℕ) (row : Row) → Keeps rules a (with_row a page row)
keeps_row rules a page row = record { router = refl; longer = omega arith; bits = λ page lt. refl; opened_same = λ page lt. refl; closed_same = λ page lt. refl }

few_at : (agent : Agent) (rules : Rules) (l : Ledger) (page : ℕ) (row : Row) (other : ℕ) → StandsAmid agent rules l → Takes agent page row → page ≡ other → length (rows_in l.account.rows other) < 1000000
few_at agent rules l page row other s near e =
    let here : length (rows_of_page page agent.table) ≡ length (rows_in l.account.rows page) = ap length (rows_near agent l page s.rows near.near (near.unput rules l s)) in
    let few = near.few in
    subst (λ p. length (rows_in l.account.rows p) < 1000000) e (omega arith)

pub changed : (old new : Agent) (rules : Rules) (l : Ledger) (u : Unfinished) (page : PageNo) (row : Row) → StandsFor old rules l u → Takes old page.number row
    → new.rules ≡ old.rules → new.router ≡ old.router → new.page ≡ old.page → new.keeper ≡ old.keeper → new.marked ≡ old.marked → new.closed ≡ old.closed → new.catalogue ≡ old.catalogue → new.noted ≡ old.noted
    → new.table ≡ old.table ++ (page, row) ∷ [] → StandsFor new rules (changed_in l page.number row) u
changed old new rules l u page row s near same_rules same_router same_page keeper marked closed catalogue noted table =
    let same : HasPages new rules l.account = pages_same old new rules l.account s.amid.pages same_rules same_router same_page keeper marked (ap (λ c. length c.items) closed)
    (ap (λ (c : Catalogued). c.rules) catalogue) (ap (λ (c : Catalogued). c.closings) catalogue) (ap (λ (c : Catalogued). c.gone) catalogue) in
    let gone : new.catalogue.gone ≡ old.catalogue.gone = ap (λ (c : Catalogued). c.gone) catalogue in
    let len : length new.closed.items ≡ length old.closed.items = ap (λ c. length c.items) closed in
    let keeps = keeps_row rules l.account page.number row in
    let kept : AreClosed rules (changed_in l page.number row) old.catalogue.gone old.closed.items =
    closed_kept rules l (with_row l.account page.number row) old.catalogue.gone old.closed.items keeps (let c = s.amid.pages.keeping.order in omega arith) (λ other put. rows_changed old rules l page.number other row s.amid near put) s.amid.closed in
    record {
      amid = record {
        pages = record {
          ranges = same.ranges;
          router_fits = same.router_fits;
          rules_are = same.rules_are;
          router = same.router;
          by_rules = same.by_rules;
          closings = same.closings;
          times = same.times;
          few = same.few;
          page = same.page;
          entered = same.entered;
          marked = same.marked;
          keeping = same.keeping;
        };
        closed = subst (λ (c : Catalogued). AreClosed rules (changed_in l page.number row) c.gone new.closed.items) (sym catalogue) (subst (λ xs. AreClosed rules (changed_in l page.number row) old.catalogue.gone xs) (sym (ap (λ c. c.items) closed)) kept);
        to_come = λ p le. let t = s.amid.to_come p (omega arith) in record { unput = t.unput; uncovered = t.uncovered };
        rows = record {
          table = λ p. ap (rows_of_page p) table ∙ one_added old.table page row p ∙ ap (λ xs. xs ++ cond (page.number == p) (row ∷ []) []) (s.amid.rows.table p)
              ∙ one_kept (nat_lt p old.catalogue.gone || is_in l.put_before p) (page.number == p) (rows_in l.account.rows p) row (apart_at old rules l page.number row p s.amid near)
              ∙ ap (λ xs. cond (nat_lt p old.catalogue.gone || is_in l.put_before p) [] xs) (sym (one_changed l.account.rows page.number row p))
              ∙ ap (λ g. rows_kept g (changed_in l page.number row) p) (sym gone);
          spelled = λ p le. subst AreSpelled (sym (one_changed l.account.rows page.number row p))
              (spelled_more (rows_in l.account.rows p) row (page.number == p) (λ e. few_at old rules l page.number row p s.amid near (eqb-true page.number p e)) near.kind near.plain (s.amid.rows.spelled p (omega arith)));
        };
        expired = subst (λ (c : Catalogued). AreExpired rules l.closings_then l.clock_then c.gone) (sym catalogue) s.amid.expired;
        clock = subst (λ (c : Catalogued). IsClock l c.clock) (sym catalogue) s.amid.clock;
      };
      noted = subst (HasNotes rules (changed_in l page.number row) u l.closed_at_archive) (sym noted) (notes_kept rules l (with_row l.account page.number row) u l.closed_at_archive old.noted keeps s.noted);
    }

-- in the form in which a call's clause has it
pub changed_where : {E : Type 0} (result : Result (Unit {0}) E) (old new : Agent) (page : PageNo) (row : Row) → Takes old page.number row
    → new.rules ≡ old.rules → new.router ≡ old.router → new.page ≡ old.page → new.keeper ≡ old.keeper → new.marked ≡ old.marked → new.closed ≡ old.closed → new.catalogue ≡ old.catalogue → new.noted ≡ old.noted
    → OnOk result (new.table ≡ old.table ++ (page, row) ∷ [])
    → OnOk result ((rules : Rules) (l : Ledger) (u : Unfinished) → StandsFor old rules l u → StandsFor new rules (changed_in l page.number row) u)
changed_where (Ok done) old new page row near same_rules same_router same_page keeper marked closed catalogue noted added = λ rules l u s. changed old new rules l u page row s near same_rules same_router same_page keeper marked closed catalogue noted added
changed_where (Err e) old new page row near same_rules same_router same_page keeper marked closed catalogue noted added = tt
