-- The expiry of pages.
use Rattle.std.proofs.Common.{ℕ, ◌≡◌, ◌≤◌, ◌<◌, ◌+◌, ◌-◌, ◌∙◌, ◌∷◌, [], ◌++◌, ◌||◌, ◌&&◌, ◌⊎◌, List, length, map, get_or, drop, Bool, true, false, cond, nat_lt, nat_le, None, sym, ap, refl, subst, inl, inr, arith, length-drop, get_or-drop}
use Rattle.std.specs.List.{Contains}
use Rattle.std.proofs.lemmas.Option.{slice_get-get_or}
use Rattle.std.proofs.lemmas.Bool.{cases_lt, cases_eq, lt-ltb, le-ltb, ltb-true, ltb-false, le-leb}
use Rattle.std.proofs.lemmas.List.{map-append, length_push}
use Rattle.std.proofs.lemmas.List.Elements.{Contains-append_left, Contains-append_right, Contains-push, Contains-push_cases}
use Rattle.spie_base.proofs.Membership.{has_none}
use Rattle.spie_base.specs.Causes.{RoseBy}
use Rattle.spie_base.specs.declared.PageNo.{PageNo}
use Rattle.spie_base.specs.declared.Rules.{Rules}
use Rattle.bloom_page.specs.Sets.{is_in}
use Rattle.bloom_page.proofs.Members.{is_in-from_Contains, Contains-from_is_in}
use Rattle.page_catalogue.specs.Catalogues.{AreExpired}
use Rattle.router_account.specs.Account.{rows_in}
use Rattle.router_account.specs.Barriers.{AreRising}
use Rattle.router_account.specs.Ledger.{Ledger}
use Rattle.router_account.specs.Records.{name_of}
use Rattle.router_account.specs.Shelves.{ShelfView}
use Rattle.packet_signature.specs.declared.Row.{Row}
use Rattle.transform_table.specs.Tables.{rows_of_page}
use Rattle.data_agent.specs.declared.agent.Agent.{Agent}
use Rattle.data_agent.specs.declared.closed_page.ClosedPage.{ClosedPage}
use Rattle.data_agent.specs.Calls.{IsExpiring, number_of}
use Rattle.data_agent.specs.Expiring.{DiscardsOne, Discards, IsExpiredBy, covers_at, is_covered_in, expired_with}
use Rattle.page_gate.specs.Held.{Held}
use Rattle.spie_base.specs.Shapes.{shape_of}
use Rattle.data_agent.proofs.Staying.{pages_with}
use Rattle.data_agent.specs.Standing.{AreClosed, IsClosed, IsKeeping, Stands, standing}
use Rattle.data_agent.specs.Archiving.{some_page}
use Rattle.data_agent.proofs.Passing.{none_rise}
use Rattle.data_agent.proofs.Puts.{rose_then, rose_none, same_page}
use Rattle.data_agent.proofs.Rising.{rising_push}
use Rattle.data_agent.proofs.Rows.{rows_outside}
use Rattle.data_agent.proofs.Windows.{page_gone, page_live}

-- ---- discards

pub discards_none : (router first : ℕ) (covers : ℕ → Bool) (x : ShelfView) → Discards router covers first first [] x x
discards_none router first covers x = record {
  rising = none_rise _;
  from = λ page has. absurd (has_none page has);
  to = λ page has. absurd (has_none page has);
  covered = λ page has. absurd (has_none page has);
  still = refl;
  rose = rose_none x.faults x.faults (omega arith);
  away = λ t page from to. absurd (omega arith);
  others = λ t name apart. refl;
}

abbrev pub with_left : List PageNo → PageNo → Bool → List PageNo
with_left left page more = cond more (left ++ page ∷ []) left

rose_same : (a x y z : ℕ) → RoseBy a x y → RoseBy 0 y z → RoseBy a x z
rose_same a x y z p q = subst (λ n. RoseBy n x z) (let e : a + 0 ≡ a = omega arith in e) (rose_then a 0 x y z p q)

pub discards_more : (router first : ℕ) (covers : ℕ → Bool) (page : PageNo) (left : List PageNo) (more : Bool) (x y z : ShelfView) → first ≤ page.number → Discards router covers first page.number left x y
    → DiscardsOne router page.number (covers page.number) more y z → Discards router covers first (page.number + 1) (with_left left page more) x z
discards_more router first covers page left false x y z le s one = record {
  rising = s.rising;
  from = s.from;
  to = λ p has. let b = s.to p has in omega arith;
  covered = s.covered;
  still = one.still ∙ s.still;
  rose = rose_same (length (map number_of left)) x.faults y.faults z.faults s.rose one.rose;
  away = λ t p from to covered apart part. elim (cases_eq p page.number) [
    | inl here ↦ subst (λ n. z.contents (name_of router n part) ≡ None) (sym here) (one.away (s.still ∙ t) (subst (λ n. covers n ≡ true) here covered) refl part)
    | inr other ↦ one.others (s.still ∙ t) (name_of router p part) (λ c q e. other (same_page router router p page.number part q e)) ∙ s.away t p from (omega arith) covered apart part
  ];
  others = λ t name apart. one.others (s.still ∙ t) name (λ c part e. apart page.number part le (omega arith) c e) ∙ s.others t name (λ p part from to c e. apart p part from (omega arith) c e);
}
discards_more router first covers page left true x y z le s one =
    let pages : map number_of (left ++ page ∷ []) ≡ map number_of left ++ page.number ∷ [] = map-append number_of left (page ∷ []) in
    let cases : (p : ℕ) → Contains (map number_of (left ++ page ∷ [])) p → Contains (map number_of left) p ⊎ (page.number ≡ p) =
    λ p has. Contains-push_cases (map number_of left) page.number p (subst (λ ps. Contains ps p) pages has) in
    let into : (p : ℕ) → Contains (map number_of left) p → Contains (map number_of (left ++ page ∷ [])) p =
    λ p has. subst (λ ps. Contains ps p) (sym pages) (Contains-append_left (map number_of left) (page.number ∷ []) p has) in
    record {
      rising = subst AreRising (sym pages) (rising_push (map number_of left) page.number s.rising s.to);
      from = λ p has. elim (cases p has) [ inl old ↦ s.from p old | inr new ↦ omega arith ];
      to = λ p has. elim (cases p has) [ inl old ↦ (let b = s.to p old in omega arith) | inr new ↦ omega arith ];
      covered = λ p has. elim (cases p has) [ inl old ↦ s.covered p old | inr new ↦ subst (λ n. covers n ≡ true) new (one.covers refl) ];
      still = one.still ∙ s.still;
      rose = subst (λ n. RoseBy n x.faults z.faults) (sym (ap length pages ∙ length_push (map number_of left) page.number)) (rose_then (length (map number_of left)) 1 x.faults y.faults z.faults s.rose one.rose);
      away = λ t p from to covered apart part. elim (cases_eq p page.number) [
        | inl here ↦ absurd (apart (subst (λ n. Contains (map number_of (left ++ page ∷ [])) n) (sym here) (subst (λ ps. Contains ps page.number) (sym pages) (Contains-push (map number_of left) page.number))))
        | inr other ↦ one.others (s.still ∙ t) (name_of router p part) (λ c q e. other (same_page router router p page.number part q e)) ∙ s.away t p from (omega arith) covered (λ has. apart (into p has)) part
      ];
      others = λ t name apart. one.others (s.still ∙ t) name (λ c part e. apart page.number part le (omega arith) c e) ∙ s.others t name (λ p part from to c e. apart p part from (omega arith) c e);
    }

-- ---- what an agent stands for then

closed_behind : (rules : Rules) (l m : Ledger) (first count : ℕ) (pages : List ClosedPage) → ((page : ℕ) (c : ClosedPage) → IsClosed rules l page c → IsClosed rules m page c)
    → AreClosed rules l first pages → AreClosed rules m (first + count) (drop count pages)
closed_behind rules l m first count pages same each i d lt =
    let len : length (drop count pages) ≡ length pages - count = length-drop count pages in
    let at : first + (count + i) ≡ first + count + i = omega arith in
    subst (λ n. IsClosed rules m n (get_or (drop count pages) i d)) at
    (subst (λ (b : ClosedPage). IsClosed rules m (first + (count + i)) b) (sym (get_or-drop count pages i d)) (same (first + (count + i)) (get_or pages (count + i) d) (each (count + i) d (omega arith))))

nothing_outside : (b : Bool) → (let none : List Row = [] in cond b [] none) ≡ []
nothing_outside true = refl
nothing_outside false = refl

either_way : (b put : Bool) (rows : List Row) → cond b [] (cond put [] rows) ≡ cond (b || put) [] rows
either_way true put rows = refl
either_way false put rows = refl

-- rows that are left behind an expiry
rows_behind : (old new page : ℕ) (put : Bool) (rows : List Row) → old ≤ new → rows_outside old new page (cond (nat_lt page old || put) [] rows) ≡ cond (nat_lt page new || put) [] rows
rows_behind old new page put rows le = elim (cases_lt page old) [
  | inl gone ↦
      ap (λ b. rows_outside old new page (cond (b || put) [] rows)) (lt-ltb page old gone) ∙ nothing_outside (nat_le old page && nat_lt page new)
      ∙ sym (ap (λ b. cond (b || put) [] rows) (lt-ltb page new (omega arith)))
  | inr near ↦
      ap (λ b. rows_outside old new page (cond (b || put) [] rows)) (le-ltb page old near)
      ∙ ap (λ b. cond (b && nat_lt page new) [] (cond put [] rows)) (le-leb old page near)
      ∙ either_way (nat_lt page new) put rows
]

pub expired : (old new : Agent) (rules : Rules) (l : Ledger) (clock : ℕ) → Stands old rules l
    → new.rules ≡ old.rules → new.router ≡ old.router → new.page ≡ old.page → new.keeper ≡ old.keeper → new.marked ≡ old.marked → new.catalogue.rules ≡ old.catalogue.rules → new.catalogue.closings ≡ old.catalogue.closings → new.catalogue.clock ≡ clock
    → old.catalogue.gone ≤ new.catalogue.gone → new.catalogue.gone ≤ length old.catalogue.closings → AreExpired old.catalogue.rules old.catalogue.closings clock new.catalogue.gone
    → new.closed.items ≡ drop (new.catalogue.gone - old.catalogue.gone) old.closed.items
    → ((page : ℕ) → rows_of_page page new.table ≡ rows_outside old.catalogue.gone new.catalogue.gone page (rows_of_page page old.table)) → Stands new rules (expired_with l clock [])
expired old new rules l clock s same_rules same_router page keeper marked by closings at grown within exact items kept =
    let count : ℕ = new.catalogue.gone - old.catalogue.gone in
    let sum : old.catalogue.gone + count ≡ new.catalogue.gone = omega arith in
    let before : old.catalogue.gone + length old.closed.items ≡ length l.account.closings = s.count in
    let len : length new.closed.items ≡ length old.closed.items - count = ap length items ∙ length-drop count old.closed.items in
    let same : length old.catalogue.closings ≡ length l.account.closings = ap length s.pages.closings in
    let here : standing old ≡ standing new = omega arith in
    record {
      pages = (let p = pages_with old new rules l.account s.pages same_rules same_router page (let m = s.pages.marked in omega arith) by closings
          (subst (λ (n : ℕ). IsKeeping (shape_of rules l.account.router) new.keeper l.account.entries n (length l.account.closings)) here (subst (λ (k : Held). IsKeeping (shape_of rules l.account.router) k l.account.entries (standing old) (length l.account.closings)) (sym keeper) s.pages.keeping)) in record {
            ranges = p.ranges;
            router_fits = p.router_fits;
            rules_are = p.rules_are;
            router = p.router;
            by_rules = p.by_rules;
            closings = p.closings;
            times = p.times;
            few = p.few;
            page = p.page;
            entered = p.entered;
            marked = p.marked;
            keeping = p.keeping;
          });
      count = omega arith;
      closed = subst (λ g. AreClosed rules (expired_with l clock []) g new.closed.items) sum (subst (AreClosed rules (expired_with l clock []) (old.catalogue.gone + count)) (sym items)
          (closed_behind rules l (expired_with l clock []) old.catalogue.gone count old.closed.items (λ p c is. record { covered = is.covered; placed = is.placed }) s.closed));
      to_come = λ p le. let t = s.to_come p le in record { unput = t.unput; uncovered = t.uncovered };
      rows = record {
        table = λ p. kept p ∙ ap (rows_outside old.catalogue.gone new.catalogue.gone p) (s.rows.table p) ∙ rows_behind old.catalogue.gone new.catalogue.gone p (is_in l.put_before p) (rows_in l.account.rows p) grown;
        spelled = λ p le. s.rows.spelled p (omega arith);
      };
      expired = subst (λ (r : Rules). AreExpired r l.account.closings clock new.catalogue.gone) s.pages.by_rules (subst (λ xs. AreExpired old.catalogue.rules xs clock new.catalogue.gone) s.pages.closings exact);
      clock = λ later then times. omega arith;
    }

-- ---- what became of the shelf

-- whether an archival covered a page, by the agent's own pages
covers_is : (agent : Agent) (rules : Rules) (l : Ledger) (page : ℕ) → Stands agent rules l → agent.catalogue.gone ≤ page → page < length l.account.closings
    → covers_at agent.catalogue.gone agent.closed.items page ≡ is_in l.covered_before page
covers_is agent rules l page s from to =
    let count = s.count in
    let at : agent.catalogue.gone + (page - agent.catalogue.gone) ≡ page = omega arith in
    ap is_covered_in (slice_get-get_or agent.closed.items (page - agent.catalogue.gone) (some_page agent) (omega arith))
    ∙ subst (λ p. (get_or agent.closed.items (page - agent.catalogue.gone) (some_page agent)).covered ≡ is_in l.covered_before p) at (s.closed (page - agent.catalogue.gone) (some_page agent) (omega arith)).covered

pub expired_by : (agent : Agent) (rules : Rules) (l : Ledger) (clock gone : ℕ) (left : List PageNo) (x z : ShelfView) → Stands agent rules l → AreExpired rules l.account.closings clock gone → agent.catalogue.gone ≤ gone → gone ≤ length l.account.closings
    → Discards l.account.router (covers_at agent.catalogue.gone agent.closed.items) agent.catalogue.gone gone left x z → IsExpiredBy rules l clock left x z
expired_by agent rules l clock gone left x z s exact grown within d =
    let after : Ledger = expired_with l clock (map number_of left) in
    record {
      left_are = record {
        rising = d.rising;
        expired = λ page has. sym (exact page) ∙ lt-ltb page gone (d.to page has);
        first = λ page has. page_live agent rules l s.expired page (d.from page has);
        covered = λ page has. Contains-from_is_in l.covered_before page (sym (covers_is agent rules l page s (d.from page has) (let b = d.to page has in omega arith)) ∙ d.covered page has);
      };
      rose = d.rose;
      holds = λ t h. record {
        put = λ page part put live.
            let near : gone ≤ page = ltb-false page gone (exact page ∙ live) in
            d.others t (name_of l.account.router page part) (λ p q from to c e. let same : page ≡ p = same_page l.account.router l.account.router page p part q e in omega arith)
            ∙ h.put page part put (page_live agent rules l s.expired page (omega arith));
        gone = λ page part is covered apart.
            let old : page < gone = ltb-true page gone (exact page ∙ is) in
            elim (cases_lt page agent.catalogue.gone) [
              | inl before ↦
                  d.others t (name_of l.account.router page part) (λ p q from to c e. let same : page ≡ p = same_page l.account.router l.account.router page p part q e in omega arith)
                  ∙ h.gone page part (page_gone agent rules l s.expired page before) covered (λ has. apart (Contains-append_right (map number_of left) l.left_before page has))
              | inr now ↦ d.away t page now old (covers_is agent rules l page s now (omega arith) ∙ is_in-from_Contains l.covered_before page covered) (λ has. apart (Contains-append_left (map number_of left) l.left_before page has)) part
            ];
      };
      others = λ t name apart. d.others t name (λ p q from to c e. apart (ap (λ n. n.router.number) e));
      untouched = λ t name apart. d.others t name (λ p q from to c e. apart (record {
        router = ap (λ n. n.router.number) e;
        page = subst (IsExpiring rules l after) (sym (ap (λ n. n.page.number) e)) (record {
          covered = Contains-from_is_in l.covered_before p (sym (covers_is agent rules l p s from (omega arith)) ∙ c);
          first = page_live agent rules l s.expired p from;
          expired = sym (exact p) ∙ lt-ltb p gone to;
        });
      }));
    }

-- no page expires
pub expired_none : (agent : Agent) (rules : Rules) (l : Ledger) (clock : ℕ) (x : ShelfView) → Stands agent rules l → AreExpired rules l.account.closings clock agent.catalogue.gone → IsExpiredBy rules l clock [] x x
expired_none agent rules l clock x s exact =
    let within = s.count in
    expired_by agent rules l clock agent.catalogue.gone [] x x s exact (omega arith) (omega arith) (discards_none l.account.router agent.catalogue.gone (covers_at agent.catalogue.gone agent.closed.items) x)

-- ---- in the forms of the catalogue

pub exact_by : (agent : Agent) (rules : Rules) (l : Ledger) (clock gone : ℕ) → Stands agent rules l → AreExpired agent.catalogue.rules agent.catalogue.closings clock gone → AreExpired rules l.account.closings clock gone
exact_by agent rules l clock gone s exact = subst (λ (r : Rules). AreExpired r l.account.closings clock gone) s.pages.by_rules (subst (λ xs. AreExpired agent.catalogue.rules xs clock gone) s.pages.closings exact)

pub none_expired : (agent : Agent) (rules : Rules) (l : Ledger) (clock gone : ℕ) (left : List PageNo) (x : ShelfView) → Stands agent rules l → AreExpired agent.catalogue.rules agent.catalogue.closings clock gone → gone ≡ agent.catalogue.gone → left ≡ []
    → IsExpiredBy rules l clock left x x
none_expired agent rules l clock gone left x s exact same none =
    subst (λ ps. IsExpiredBy rules l clock ps x x) (sym none) (expired_none agent rules l clock x s (subst (AreExpired rules l.account.closings clock) same (exact_by agent rules l clock gone s exact)))

pub some_expired : (agent : Agent) (rules : Rules) (l : Ledger) (clock gone first last : ℕ) (left : List PageNo) (x z : ShelfView) → Stands agent rules l → AreExpired agent.catalogue.rules agent.catalogue.closings clock gone
    → first ≡ agent.catalogue.gone → last + 1 ≡ gone → agent.catalogue.gone ≤ gone → gone ≤ length agent.catalogue.closings
    → Discards agent.router.number (covers_at first agent.closed.items) first (last + 1) left x z → IsExpiredBy rules l clock left x z
some_expired agent rules l clock gone first last left x z s exact from to grown within d =
    expired_by agent rules l clock gone left x z s (exact_by agent rules l clock gone s exact) grown (let e : length agent.catalogue.closings ≡ length l.account.closings = ap length s.pages.closings in omega arith)
    (subst (λ r. Discards r (covers_at agent.catalogue.gone agent.closed.items) agent.catalogue.gone gone left x z) s.pages.router
    (subst (λ b. Discards agent.router.number (covers_at agent.catalogue.gone agent.closed.items) agent.catalogue.gone b left x z) to
    (subst (λ f. Discards agent.router.number (covers_at f agent.closed.items) f (last + 1) left x z) from d)))
