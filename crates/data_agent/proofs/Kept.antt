-- What of closed pages stays while their account grows.
use Rattle.std.proofs.Common.{ℕ, ◌≡◌, ◌≤◌, ◌<◌, ◌+◌, ◌-◌, ◌∙◌, List, length, get_or, [], ◌||◌, cond, Bool, true, false, Option, Some, None, Vec, Global, sym, ap, subst, inl, inr, arith}
use Rattle.std.proofs.lemmas.Bool.{false≢true, ltb-true, le-ltb, cases_lt}
use Rattle.sha2.specs.Sha256.{sha256}
use Rattle.spie_base.proofs.Membership.{into_map}
use Rattle.spie_base.specs.Shapes.{shape_of}
use Rattle.spie_base.specs.declared.Rules.{Rules}
use Rattle.hash_family.specs.Positions.{family_of, page_seed_of}
use Rattle.bloom_page.specs.Sets.{is_in, set_of}
use Rattle.archive_record.specs.Spelling.{bits_record, rows_record, spelled_bits, spelled_rows}
use Rattle.archive_record.specs.declared.BitsHead.{BitsHead}
use Rattle.page_catalogue.specs.Pages.{opened, closed}
use Rattle.page_shelf.specs.declared.ShelfPart.TheVariants.{Bits, Rows}
use Rattle.shelved_page.specs.declared.shelving.Digests.{Digests}
use Rattle.transform_table.specs.Tables.{rows_of_page}
use Rattle.router_account.specs.Account.{Account, bits, page_set, rows_in}
use Rattle.router_account.specs.Ledger.{Ledger, Unfinished}
use Rattle.router_account.specs.Records.{head_of, true_text}
use Rattle.data_agent.specs.declared.agent.Agent.{Agent}
use Rattle.data_agent.specs.declared.archival.Note.{Note}
use Rattle.data_agent.specs.declared.closed_page.ClosedPage.{ClosedPage}
use Rattle.data_agent.specs.declared.closed_page.Whereabouts.{Whereabouts}
use Rattle.data_agent.specs.declared.closed_page.Whereabouts.TheVariants.{InMemory, OnShelf}
use Rattle.data_agent.specs.declared.resident.Resident.{Resident}
use Rattle.data_agent.specs.Residents.{IsResident}
use Rattle.data_agent.specs.Standing.{AreClosed, AreDigests, HasNotes, HasPages, HasRows, IsBitsDigest, IsPlaced, Stands, StandsAmid, StandsFor, StandsWhole, digest_of, noted_page, rows_kept, standing}
use Rattle.data_agent.specs.Archiving.{KnowsPages, KnowsTimes, IsSized, held_bits, members_at, place_at, some_page}
use Rattle.data_agent.specs.Planes.{AreTaken}

-- the closed pages of one account have the same bits and times in another
pub record Keeps (rules : Rules) (a b : Account) : Type 0 where
  pub router : b.router ≡ a.router
  pub longer : length a.closings ≤ length b.closings
  pub bits : (page : ℕ) → page < length a.closings → page_set rules b page ≡ page_set rules a page
  pub opened_same : (page : ℕ) → page < length a.closings → opened b.closings page ≡ opened a.closings page
  pub closed_same : (page : ℕ) → page < length a.closings → closed b.closings page ≡ closed a.closings page

abbrev head_with : Rules → (page router opened closed : ℕ) → BitsHead
head_with rules page router opened closed = record { router = record { number = router }; page = record { number = page }; k = rules.k; seed = page_seed_of rules.base router page; opened = opened; closed = closed }

pub head_kept : (rules : Rules) (a b : Account) (page : ℕ) → Keeps rules a b → page < length a.closings → head_of rules b page ≡ head_of rules a page
head_kept rules a b page k lt =
    ap (λ r. head_with rules page r (opened b.closings page) (closed b.closings page)) k.router
    ∙ ap (λ o. head_with rules page a.router o (closed b.closings page)) (k.opened_same page lt)
    ∙ ap (λ c. head_with rules page a.router (opened a.closings page) c) (k.closed_same page lt)

pub bits_text_kept : (rules : Rules) (a b : Account) (page : ℕ) → Keeps rules a b → page < length a.closings → true_text rules b page Bits ≡ true_text rules a page Bits
bits_text_kept rules a b page k lt =
    ap (λ h. spelled_bits (bits_record h (record { n = rules.n; members = bits rules b page }))) (head_kept rules a b page k lt)
    ∙ ap (λ s. spelled_bits (bits_record (head_of rules a page) (record { n = rules.n; members = s.members }))) (k.bits page lt)

pub rows_text_kept : (rules : Rules) (a b : Account) (page : ℕ) → b.router ≡ a.router → rows_in b.rows page ≡ rows_in a.rows page → true_text rules b page Rows ≡ true_text rules a page Rows
rows_text_kept rules a b page router rows =
    ap (λ r. spelled_rows (rows_record (record { number = r }) (record { number = page }) (rows_in b.rows page))) router
    ∙ ap (λ xs. spelled_rows (rows_record (record { number = a.router }) (record { number = page }) xs)) rows

pub digests_kept : (rules : Rules) (a b : Account) (page : ℕ) (d : Digests) → Keeps rules a b → page < length a.closings → rows_in b.rows page ≡ rows_in a.rows page → AreDigests rules a page d → AreDigests rules b page d
digests_kept rules a b page d k lt rows is = record {
  bits = is.bits ∙ sym (ap sha256 (bits_text_kept rules a b page k lt));
  rows = is.rows ∙ sym (ap sha256 (rows_text_kept rules a b page k.router rows));
}

pub resident_kept : (rules : Rules) (a b : Account) (page : ℕ) (r : Resident) → b.router ≡ a.router → page_set rules b page ≡ page_set rules a page → IsResident rules a page r → IsResident rules b page r
resident_kept rules a b page r router set is = record {
  family = is.family ∙ sym (ap (λ n. family_of (shape_of rules n) page) router);
  page_is = is.page_is ∙ sym set;
}

place_kept : (rules : Rules) (a b : Account) (page : ℕ) (put : Bool) (w : Whereabouts) → Keeps rules a b → page < length a.closings → (put ≡ true → rows_in b.rows page ≡ rows_in a.rows page)
    → IsPlaced rules a page put w → IsPlaced rules b page put w
place_kept rules a b page put (InMemory r) k lt rows (unput, is) = (unput, resident_kept rules a b page r k.router (k.bits page lt) is)
place_kept rules a b page put (OnShelf d) k lt rows (is_put, is) = (is_put, digests_kept rules a b page d k lt (rows is_put) is)

pub closed_kept : (rules : Rules) (l : Ledger) (b : Account) (first : ℕ) (pages : List ClosedPage) → Keeps rules l.account b → first + length pages ≤ length l.account.closings
    → ((page : ℕ) → is_in l.put_before page ≡ true → rows_in b.rows page ≡ rows_in l.account.rows page)
    → AreClosed rules l first pages → AreClosed rules (let m : Ledger = record l { account = b } in m) first pages
closed_kept rules l b first pages k within rows each i d lt =
    let is = each i d lt in
    record { covered = is.covered; placed = place_kept rules l.account b (first + i) (is_in l.put_before (first + i)) (get_or pages i d).place k (omega arith) (rows (first + i)) is.placed }

digest_kept : (rules : Rules) (a b : Account) (page : ℕ) (digest : Option (List ℕ)) → true_text rules b page Bits ≡ true_text rules a page Bits → IsBitsDigest rules a page digest → IsBitsDigest rules b page digest
digest_kept rules a b page None same is = is
digest_kept rules a b page (Some d) same is = is ∙ sym (ap sha256 same)

pub notes_kept : (rules : Rules) (l : Ledger) (b : Account) (u : Unfinished) (at : Option (List ℕ)) (noted : Option (Vec Note Global)) → Keeps rules l.account b
    → HasNotes rules l u at noted → HasNotes rules (let m : Ledger = record l { account = b } in m) u at noted
notes_kept rules l b u None None k h = h
notes_kept rules l b u None (Some notes) k h = h
notes_kept rules l b u (Some closings) None k h = h
notes_kept rules l b u (Some closings) (Some notes) k h = record {
  closed = let c = h.closed in let m = k.longer in omega arith;
  covers = h.covers;
  rising = h.rising;
  each = λ note has.
      let page : ℕ = note.page.number in
      let lt : page < length closings = ltb-true page (length closings) ((h.covers page).0 (into_map noted_page notes.items note has)).closed in
      let within : page < length l.account.closings = let c = h.closed in omega arith in
      record { digest = digest_kept rules l.account b page (digest_of note.bits) (bits_text_kept rules l.account b page k within) (h.each note has).digest; put = (h.each note has).put };
  refused = h.refused;
}

-- ---- an agent of which all closed pages have left their slots, and one amid a segment

pub whole_of : (agent : Agent) (rules : Rules) (l : Ledger) (u : Unfinished) → AreTaken agent → StandsFor agent rules l u → StandsWhole agent rules l u
whole_of agent rules l u taken s =
    let page = s.amid.pages.page in
    record {
      stands = record {
        pages = s.amid.pages;
        count = taken ∙ page;
        closed = s.amid.closed;
        to_come = λ p le. s.amid.to_come p (omega arith);
        rows = s.amid.rows;
        expired = s.amid.expired;
        clock = s.amid.clock;
      };
      noted = s.noted;
    }

pub amid_of : (agent : Agent) (rules : Rules) (l : Ledger) → Stands agent rules l → StandsAmid agent rules l
amid_of agent rules l s =
    let count = s.count in
    record { pages = s.pages; closed = s.closed; to_come = λ p le. s.to_come p (omega arith); rows = s.rows; expired = s.expired; clock = s.clock }

pub for_of : (agent : Agent) (rules : Rules) (l : Ledger) (u : Unfinished) → StandsWhole agent rules l u → StandsFor agent rules l u
for_of agent rules l u s = record { amid = amid_of agent rules l s.stands; noted = s.noted }

-- ---- two ledgers of one agent

pub closed_at : (agent : Agent) (rules : Rules) (l : Ledger) (page : ℕ) → Stands agent rules l → agent.catalogue.gone ≤ page → page < length l.account.closings → IsPlaced rules l.account page (is_in l.put_before page) (place_at agent page)
closed_at agent rules l page s from to =
    let count : agent.catalogue.gone + length agent.closed.items ≡ length l.account.closings = s.count in
    let at : agent.catalogue.gone + (page - agent.catalogue.gone) ≡ page = omega arith in
    subst (λ p. IsPlaced rules l.account p (is_in l.put_before p) (place_at agent page)) at (s.closed (page - agent.catalogue.gone) (some_page agent) (omega arith)).placed

same_place : (rules other : Rules) (a b : Account) (page : ℕ) (p q : Bool) (w : Whereabouts) → IsPlaced rules a page p w → IsPlaced other b page q w → p ≡ q
same_place rules other a b page p q (InMemory r) x y = x.0 ∙ sym y.0
same_place rules other a b page p q (OnShelf d) x y = x.0 ∙ sym y.0

closed_amid : (agent : Agent) (rules : Rules) (l : Ledger) (page : ℕ) → StandsAmid agent rules l → agent.catalogue.gone ≤ page → page < standing agent → IsPlaced rules l.account page (is_in l.put_before page) (place_at agent page)
closed_amid agent rules l page s from to =
    let at : agent.catalogue.gone + (page - agent.catalogue.gone) ≡ page = omega arith in
    subst (λ p. IsPlaced rules l.account p (is_in l.put_before p) (place_at agent page)) at (s.closed (page - agent.catalogue.gone) (some_page agent) (omega arith)).placed

pub same_put_amid : (agent : Agent) (rules other : Rules) (l m : Ledger) (page : ℕ) → StandsAmid agent rules l → StandsAmid agent other m → agent.catalogue.gone ≤ page → is_in l.put_before page ≡ is_in m.put_before page
same_put_amid agent rules other l m page s t from =
    elim (cases_lt page (standing agent)) [
      | inl lt ↦ same_place rules other l.account m.account page (is_in l.put_before page) (is_in m.put_before page) (place_at agent page) (closed_amid agent rules l page s from lt) (closed_amid agent other m page t from lt)
      | inr ge ↦ (s.to_come page ge).unput ∙ sym (t.to_come page ge).unput
    ]

-- ---- what an archival needs to know

pub times_of : (agent : Agent) (rules : Rules) (a : Account) → HasPages agent rules a → KnowsTimes agent rules a
times_of agent rules a s = record { rules_are = s.rules_are; router = s.router; closings = s.closings; page = s.page; few = s.few }

sized_place : (rules : Rules) (a : Account) (page : ℕ) (put : Bool) (w : Whereabouts) → IsPlaced rules a page put w → IsSized rules put w
unfolding set_of
sized_place rules a page put (InMemory r) is = (is.0, ap (λ s. s.n) is.1.page_is)
sized_place rules a page put (OnShelf d) is = is.0

pub knows_of : (agent : Agent) (rules : Rules) (l : Ledger) → StandsAmid agent rules l → KnowsPages agent rules l
knows_of agent rules l s = record {
  ranges = s.pages.ranges;
  router_fits = s.pages.router_fits;
  ascend = s.pages.times;
  times = times_of agent rules l.account s.pages;
  within = s.pages.keeping.order;
  sized = λ page from to. sized_place rules l.account page (is_in l.put_before page) (place_at agent page) (closed_amid agent rules l page s from to);
  to_come = λ page le. (s.to_come page le).unput;
}

pub knows_whole : (agent : Agent) (rules : Rules) (l : Ledger) → Stands agent rules l → KnowsPages agent rules l
knows_whole agent rules l s = knows_of agent rules l (amid_of agent rules l s)

bits_at : (rules : Rules) (a : Account) (page : ℕ) (put : Bool) (w : Whereabouts) → put ≡ false → IsPlaced rules a page put w → members_at w ≡ bits rules a page
unfolding set_of
bits_at rules a page put (InMemory r) unput is = ap (λ s. s.members) is.1.page_is
bits_at rules a page put (OnShelf d) unput is = absurd (false≢true (sym unput ∙ is.0))

-- a page in memory has its bits
pub held_true : (agent : Agent) (rules : Rules) (l : Ledger) (page : ℕ) → Stands agent rules l → agent.catalogue.gone ≤ page → page < length l.account.closings → is_in l.put_before page ≡ false
    → held_bits agent page ≡ bits rules l.account page
held_true agent rules l page s from to unput = bits_at rules l.account page (is_in l.put_before page) (place_at agent page) unput (closed_at agent rules l page s from to)

-- a page that has not expired and was not put has its rows
pub kept_here : (gone : ℕ) (l : Ledger) (page : ℕ) → gone ≤ page → is_in l.put_before page ≡ false → rows_kept gone l page ≡ rows_in l.account.rows page
kept_here gone l page from unput = ap (λ b. cond (b || is_in l.put_before page) [] (rows_in l.account.rows page)) (le-ltb page gone from) ∙ ap (λ b. cond b [] (rows_in l.account.rows page)) unput

-- the rows of a page in memory are those in the table
pub rows_near : (agent : Agent) (l : Ledger) (page : ℕ) → HasRows agent l → agent.catalogue.gone ≤ page → is_in l.put_before page ≡ false → rows_of_page page agent.table ≡ rows_in l.account.rows page
rows_near agent l page rows from unput = rows.table page ∙ kept_here agent.catalogue.gone l page from unput

pub rows_here : (agent : Agent) (rules : Rules) (l : Ledger) (page : ℕ) → Stands agent rules l → agent.catalogue.gone ≤ page → is_in l.put_before page ≡ false → rows_of_page page agent.table ≡ rows_in l.account.rows page
rows_here agent rules l page s from unput = rows_near agent l page s.rows from unput
