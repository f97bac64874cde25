-- The end of an archival: what becomes of rows records, one page after the other.
use Rattle.std.proofs.Common.{ℕ, ◌≡◌, ◌≤◌, ◌+◌, ◌-◌, ◌∷◌, [], ◌++◌, ◌∙◌, List, length, map, filter, cond, ◌||◌, ◌⊎◌, Bool, true, false, not, nat_lt, is_some, Option, Some, None, sym, ap, subst, refl, inl, inr, arith}
use Rattle.std.specs.List.{Contains}
use Rattle.std.proofs.lemmas.Bool.{false≢true, cases_eq}
use Rattle.std.proofs.lemmas.List.{map-append}
use Rattle.std.proofs.lemmas.List.Elements.{All-nil, Contains-append_left, Contains-push, Contains-push_cases}
use Rattle.sha2.specs.Sha256.{sha256}
use Rattle.spie_base.proofs.Membership.{has_none, from_map, into_map, from_filter, into_filter}
use Rattle.spie_base.specs.Causes.{RoseBy}
use Rattle.spie_base.specs.declared.Rules.{Rules}
use Rattle.bloom_page.specs.Sets.{is_in}
use Rattle.packet_signature.specs.declared.Row.{Row}
use Rattle.archive_record.specs.Spelling.{AreRows, IsRow, IsPlainRow, rows_record, spelled_rows}
use Rattle.page_shelf.specs.declared.ShelfName.{ShelfName}
use Rattle.page_shelf.specs.declared.ShelfPart.TheVariants.{Bits, Rows}
use Rattle.transform_table.specs.Tables.{rows_of_page}
use Rattle.router_account.specs.Account.{Account, rows_in}
use Rattle.router_account.specs.Ledger.{Ledger}
use Rattle.router_account.specs.Records.{name_of, true_text}
use Rattle.router_account.specs.Shelves.{ShelfView}
use Rattle.shelved_page.specs.Shelving.{IsPut, count_if}
use Rattle.data_agent.specs.declared.agent.Agent.{Agent}
use Rattle.data_agent.specs.declared.archival.Note.{Note}
use Rattle.data_agent.specs.declared.finishing.Settled.{Settled}
use Rattle.data_agent.specs.Archiving.{HasClosed}
use Rattle.data_agent.specs.Finishing.{FinishesOne, FinishesTo, IsSettled, HaveTrue, digests_with, was_put, was_kept, settled_number, numbers_done}
use Rattle.data_agent.specs.Standing.{AreSpelled, Stands, IsBitsDigest, digest_of, noted_page, is_deferred, is_refused, is_stored}
use Rattle.data_agent.proofs.Kept.{rows_here}
use Rattle.data_agent.proofs.Noting.{count_more, refused_few, refused_if}
use Rattle.data_agent.proofs.Puts.{rose_then, rose_less, rose_none, put_still, put_rose, put_here, put_others, put_same, same_page}

-- ---- one page

spelled_where : (b : Bool) (rows : List Row) → AreSpelled rows → AreSpelled (cond b [] rows)
spelled_where true rows s = record { few = omega arith; kinds = All-nil (λ row. IsRow row.kind row.old); plain = All-nil IsPlainRow }
spelled_where false rows s = s

-- the rows that the table has of a page fit in a record
pub rows_put_fit : (agent : Agent) (page : ℕ) (rows : List Row) → HasClosed agent page → rows ≡ rows_of_page page agent.table → AreRows (rows_record agent.router (record { number = page }) rows)
rows_put_fit agent page rows (rules, l, s, from, to) is =
    let all : AreSpelled rows = subst AreSpelled (sym (is ∙ s.rows.table page)) (spelled_where (nat_lt page agent.catalogue.gone || is_in l.put_before page) (rows_in l.account.rows page) (s.rows.spelled page from)) in
    record { router = let r = s.pages.router in let f = s.pages.router_fits in omega arith; count = all.few; rows = all.kinds }

-- what was put of them
pub rows_put : (agent : Agent) (rules : Rules) (l : Ledger) (page : ℕ) (rows : List Row) (x z : ShelfView) (digest : Option (List ℕ)) → Stands agent rules l → agent.catalogue.gone ≤ page → is_in l.put_before page ≡ false → rows ≡ rows_of_page page agent.table
    → IsPut (name_of agent.router.number page Rows) (spelled_rows (rows_record agent.router (record { number = page }) rows)) x z digest → IsPut (name_of l.account.router page Rows) (true_text rules l.account page Rows) x z digest
rows_put agent rules l page rows x z digest s from unput is put =
    subst (λ n. IsPut (name_of n page Rows) (spelled_rows (rows_record (record { number = n }) (record { number = page }) (rows_in l.account.rows page))) x z digest) s.pages.router
    (subst (λ rs. IsPut (name_of agent.router.number page Rows) (spelled_rows (rows_record agent.router (record { number = page }) rs)) x z digest) (is ∙ rows_here agent rules l page s from unput) put)

pub finish_refused : (rules : Rules) (a : Account) (note : Note) (x : ShelfView) → digest_of note.bits ≡ None → is_deferred note ≡ false → FinishesOne rules a note (record { page = note.page; digests = None }) x x
finish_refused rules a note x none known = record {
  page = refl;
  settled = tt;
  done = λ e. absurd (false≢true e);
  still = refl;
  rose = rose_less 0 (1 - count_if (is_refused note)) x.faults x.faults (let e : count_if (is_refused note) ≡ 1 = ap count_if (refused_if note.bits none known) in omega arith) (rose_none x.faults x.faults (omega arith));
  stands = λ t e. absurd (false≢true e);
  same = λ t e name. refl;
  others = λ t name apart. refl;
}

digests_true : (rules : Rules) (a : Account) (page : ℕ) (bits : List ℕ) (rows : Option (List ℕ)) (x z : ShelfView) → bits ≡ sha256 (true_text rules a page Bits) → IsPut (name_of a.router page Rows) (true_text rules a page Rows) x z rows → HaveTrue rules a page (digests_with bits rows)
digests_true rules a page bits None x z is put = tt
digests_true rules a page bits (Some d) x z is put = record { bits = is; rows = put.0 }

same_some : (bits : List ℕ) (rows : Option (List ℕ)) → is_some (digests_with bits rows) ≡ is_some rows
same_some bits None = refl
same_some bits (Some d) = refl

pub finish_with : (rules : Rules) (a : Account) (note : Note) (bits : List ℕ) (rows : Option (List ℕ)) (x z : ShelfView) → digest_of note.bits ≡ Some bits → IsBitsDigest rules a note.page.number (digest_of note.bits)
    → IsPut (name_of a.router note.page.number Rows) (true_text rules a note.page.number Rows) x z rows → FinishesOne rules a note (record { page = note.page; digests = digests_with bits rows }) x z
finish_with rules a note bits rows x z some is put =
    let name : ShelfName = name_of a.router note.page.number Rows in
    let text : List ℕ = true_text rules a note.page.number Rows in
    record {
      page = refl;
      settled = digests_true rules a note.page.number bits rows x z (subst (IsBitsDigest rules a note.page.number) some is) put;
      done = λ e. ap is_some some;
      still = put_still name text x z rows put;
      rose = subst (λ (b : Bool). RoseBy (count_if (not b) - count_if (is_refused note)) x.faults z.faults) (sym (same_some bits rows))
          (rose_less (count_if (not (is_some rows))) (count_if (not (is_some rows)) - count_if (is_refused note)) x.faults z.faults (omega arith) (put_rose name text x z rows put));
      same = λ t e. put_same name text x z rows put t (sym (same_some bits rows) ∙ e);
      stands = λ t e. put_here name text x z rows put t (sym (same_some bits rows) ∙ e);
      others = λ t other apart. put_others name text x z rows put t other apart;
    }

-- ---- one page more

pub finishes_none : (rules : Rules) (a : Account) (x : ShelfView) → FinishesTo rules a [] [] x x
finishes_none rules a x = record {
  pages = refl;
  each = λ one has. absurd (has_none one has);
  done = λ page has. absurd (has_none page has);
  few = omega arith;
  still = refl;
  rose = rose_none x.faults x.faults (omega arith);
  stand = λ t page has. absurd (has_none page has);
  others = λ t name apart. refl;
}

-- one element more is among those that pass a test, or is not
push_filter : {X : Type 0} (f : X → ℕ) (p : X → Bool) (xs : List X) (x : X) (n : ℕ) → Contains (map f (filter p (xs ++ x ∷ []))) n → Contains (map f (filter p xs)) n ⊎ ((p x ≡ true) × (f x ≡ n))
push_filter f p xs x n has =
    let image = from_map f (filter p (xs ++ x ∷ [])) n has in
    let kept = from_filter p (xs ++ x ∷ []) image.of image.has in
    elim (Contains-push_cases xs x image.of kept.0) [
      | inl old ↦ inl (subst (Contains (map f (filter p xs))) image.is (into_map f (filter p xs) image.of (into_filter p xs image.of old kept.1)))
      | inr new ↦ inr (ap p new ∙ kept.1, ap f new ∙ image.is)
    ]

filter_push : {X : Type 0} (f : X → ℕ) (p : X → Bool) (xs : List X) (x : X) → p x ≡ true → Contains (map f (filter p (xs ++ x ∷ []))) (f x)
filter_push f p xs x is = into_map f (filter p (xs ++ x ∷ [])) x (into_filter p (xs ++ x ∷ []) x (Contains-push xs x) is)

filter_before : {X : Type 0} (f : X → ℕ) (p : X → Bool) (xs : List X) (x : X) (n : ℕ) → Contains (map f (filter p xs)) n → Contains (map f (filter p (xs ++ x ∷ []))) n
filter_before f p xs x n has =
    let image = from_map f (filter p xs) n has in
    let kept = from_filter p xs image.of image.has in
    subst (Contains (map f (filter p (xs ++ x ∷ [])))) image.is (into_map f (filter p (xs ++ x ∷ [])) image.of (into_filter p (xs ++ x ∷ []) image.of (Contains-append_left xs (x ∷ []) image.of kept.0) kept.1))

both_ways : (done put : Bool) → (put ≡ true → done ≡ true) → count_if (not done) ≤ count_if (not put)
both_ways true put h = omega arith
both_ways false true h = absurd (false≢true (h refl))
both_ways false false h = omega arith

again : (rules : Rules) (a : Account) (note : Note) (one : Settled) (y z : ShelfView) (page : ℕ) (put : Bool) → was_put one ≡ put → FinishesOne rules a note one y z → y.tells ≡ true → page ≡ note.page.number
    → y.contents (name_of a.router page Rows) ≡ Some (true_text rules a page Rows) → z.contents (name_of a.router page Rows) ≡ Some (true_text rules a page Rows)
again rules a note one y z page true is f t here was = subst (λ p. z.contents (name_of a.router p Rows) ≡ Some (true_text rules a p Rows)) (sym here) (f.stands t is)
again rules a note one y z page false is f t here was = f.same t is (name_of a.router page Rows) ∙ was

refused_kept : (rules : Rules) (a : Account) (note : Note) (one : Settled) (x z : ShelfView) → FinishesOne rules a note one x z → count_if (is_refused note) ≤ count_if (was_kept one)
refused_kept rules a note one x z f = let few = refused_few note.bits in let ways = both_ways (is_stored note) (is_some one.digests) f.done in omega arith

pub finishes_more : (rules : Rules) (a : Account) (notes : List Note) (settled : List Settled) (note : Note) (one : Settled) (x y z : ShelfView) → FinishesTo rules a notes settled x y → FinishesOne rules a note one y z
    → FinishesTo rules a (notes ++ note ∷ []) (settled ++ one ∷ []) x z
finishes_more rules a notes settled note one x y z s f =
    let number_same : one.page.number ≡ note.page.number = ap (λ p. p.number) f.page in
    let refused = count_more is_refused notes note in
    let kept = count_more was_kept settled one in
    let less = refused_kept rules a note one y z f in
    let tells : x.tells ≡ true → y.tells ≡ true = λ t. s.still ∙ t in
    record {
      pages = map-append settled_number settled (one ∷ []) ∙ ap (λ ns. ns ++ one.page.number ∷ []) s.pages ∙ ap (λ n. map noted_page notes ++ n ∷ []) number_same ∙ sym (map-append noted_page notes (note ∷ []));
      each = λ other has. elim (Contains-push_cases settled one other has) [ inl old ↦ s.each other old | inr new ↦ subst (IsSettled rules a) new f.settled ];
      done = λ page has. elim (push_filter settled_number was_put settled one page has) [
        | inl old ↦ filter_before noted_page is_stored notes note page (s.done page old)
        | inr (is, at) ↦ subst (Contains (numbers_done (notes ++ note ∷ []))) (sym number_same ∙ at) (filter_push noted_page is_stored notes note (f.done is))
      ];
      few = let few = s.few in omega arith;
      still = f.still ∙ s.still;
      rose = let few = s.few in
          rose_less (length (filter was_kept settled) - length (filter is_refused notes) + (count_if (was_kept one) - count_if (is_refused note))) (length (filter was_kept (settled ++ one ∷ [])) - length (filter is_refused (notes ++ note ∷ []))) x.faults z.faults (omega arith)
          (rose_then (length (filter was_kept settled) - length (filter is_refused notes)) (count_if (was_kept one) - count_if (is_refused note)) x.faults y.faults z.faults s.rose f.rose);
      stand = λ t page has. elim (push_filter settled_number was_put settled one page has) [
        | inl old ↦ elim (cases_eq page note.page.number) [
          | inl here ↦ again rules a note one y z page (was_put one) refl f (tells t) here (s.stand t page old)
          | inr other ↦ f.others (tells t) (name_of a.router page Rows) (λ e. other (same_page a.router a.router page note.page.number Rows Rows e)) ∙ s.stand t page old
        ]
        | inr (is, at) ↦ subst (λ p. z.contents (name_of a.router p Rows) ≡ Some (true_text rules a p Rows)) (sym number_same ∙ at) (f.stands (tells t) is)
      ];
      others = λ t name apart.
          f.others (tells t) name (λ e. apart note.page.number (subst (λ ps. Contains ps note.page.number) (sym (map-append noted_page notes (note ∷ []))) (Contains-push (map noted_page notes) note.page.number)) e)
          ∙ s.others t name (λ page has e. apart page (subst (λ ps. Contains ps page) (sym (map-append noted_page notes (note ∷ []))) (Contains-append_left (map noted_page notes) (note.page.number ∷ []) page has)) e);
    }
