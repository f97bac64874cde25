-- The notes of an archival, one page more.
use Rattle.std.proofs.Common.{ℕ, ◌≡◌, ◌≤◌, ◌<◌, ◌+◌, ◌∷◌, [], ◌++◌, ◌∙◌, List, length, map, filter, cond, Bool, true, false, not, is_some, Option, Some, None, sym, ap, subst, refl, inl, inr, arith, length-append}
use Rattle.std.specs.List.{Contains}
use Rattle.std.proofs.lemmas.Bool.{cases_lt, false≢true}
use Rattle.std.proofs.lemmas.List.{map-append}
use Rattle.std.proofs.lemmas.List.Elements.{Contains-append_left, Contains-push, Contains-push_cases, filter-append}
use Rattle.spie_base.proofs.Membership.{has_none, into_map}
use Rattle.spie_base.specs.Causes.{RoseBy}
use Rattle.spie_base.specs.declared.PageNo.{PageNo}
use Rattle.spie_base.specs.declared.Rules.{Rules}
use Rattle.bloom_page.specs.Sets.{is_in}
use Rattle.page_shelf.specs.declared.ShelfName.{ShelfName}
use Rattle.page_shelf.specs.declared.ShelfPart.TheVariants.{Bits}
use Rattle.router_account.specs.Account.{Account}
use Rattle.router_account.specs.Barriers.{AreRising}
use Rattle.router_account.specs.Ledger.{Ledger}
use Rattle.router_account.specs.Records.{name_of}
use Rattle.router_account.specs.Shelves.{ShelfView}
use Rattle.shelved_page.specs.Shelving.{IsPut, count_if}
use Rattle.data_agent.specs.declared.agent.Agent.{Agent}
use Rattle.data_agent.specs.declared.archival.Note.{Note}
use Rattle.data_agent.specs.declared.archival.NotedBits.{NotedBits}
use Rattle.data_agent.specs.declared.archival.NotedBits.TheVariants.{Stored, Refused, Deferred}
use Rattle.data_agent.specs.Archiving.{IsDigest, IsNotedOnce, NotesOne, NotesTo, held_text}
use Rattle.data_agent.specs.Standing.{digest_of, noted_page, is_deferred, is_refused, is_stored, standing, was_deferred, was_refused}
use Rattle.data_agent.proofs.Passing.{none_rise}
use Rattle.data_agent.proofs.Puts.{rose_then, rose_less, rose_none, put_still, put_rose, put_here, put_others, put_same, same_page}
use Rattle.data_agent.proofs.Rising.{rising_push}

-- ---- one page

put_digest : (name : ShelfName) (text : List ℕ) (y z : ShelfView) (digest : Option (List ℕ)) → IsPut name text y z digest → IsDigest text digest
put_digest name text y z None h = tt
put_digest name text y z (Some d) h = h.0

-- a refused one has no digest
pub refused_few : (bits : NotedBits) → count_if (was_refused bits) ≤ count_if (not (is_some (digest_of bits)))
refused_few (Stored d) = omega arith
refused_few Refused = omega arith
refused_few Deferred = omega arith

pub refused_if : (bits : NotedBits) → digest_of bits ≡ None → was_deferred bits ≡ false → was_refused bits ≡ true
refused_if (Stored d) none known = absurd (let f : Some d ≡ None = none in cc)
refused_if Refused none known = refl
refused_if Deferred none known = absurd (false≢true (sym known))

-- a page that stands in a slot
pub noted_deferred_once : (agent : Agent) (rules : Rules) (a : Account) (page : PageNo) (x : ShelfView) → standing agent ≤ page.number → IsNotedOnce agent rules a page.number (record { page = page; bits = Deferred }) x x
noted_deferred_once agent rules a page x from = record {
  page_is = refl;
  digest = tt;
  stored = λ is. absurd (false≢true is);
  known = λ lt. absurd (omega arith);
  still = refl;
  rose = rose_none x.faults x.faults (omega arith);
  stands = λ t is. absurd (false≢true is);
  same = λ t is name. refl;
  others = λ t name apart. refl;
}

-- a page in memory
pub noted_put_once : (agent : Agent) (rules : Rules) (a : Account) (page : PageNo) (bits : NotedBits) (x z : ShelfView) → page.number < standing agent → was_deferred bits ≡ false
    → IsPut (name_of a.router page.number Bits) (held_text agent rules a page.number) x z (digest_of bits) → IsNotedOnce agent rules a page.number (record { page = page; bits = bits }) x z
noted_put_once agent rules a page bits x z to known put =
    let name : ShelfName = name_of a.router page.number Bits in
    let text : List ℕ = held_text agent rules a page.number in
    record {
      page_is = refl;
      digest = put_digest name text x z (digest_of bits) put;
      stored = λ is. to;
      known = λ lt. known;
      still = put_still name text x z (digest_of bits) put;
      rose = rose_less (count_if (not (is_some (digest_of bits)))) (count_if (was_refused bits)) x.faults z.faults (refused_few bits) (put_rose name text x z (digest_of bits) put);
      stands = λ t is. put_here name text x z (digest_of bits) put t is;
      same = λ t is. put_same name text x z (digest_of bits) put t is;
      others = λ t other apart. put_others name text x z (digest_of bits) put t other apart;
    }

-- ---- one page more

pub notes_none : (agent : Agent) (rules : Rules) (l : Ledger) (first : ℕ) (x : ShelfView) → NotesTo agent rules l first first [] x x
notes_none agent rules l first x = record {
  covers = λ page. ((λ has. absurd (has_none page has)), λ (from, to, unput). absurd (omega arith));
  rising = none_rise _;
  digests = λ note has. absurd (has_none note has);
  stored = λ note has. absurd (has_none note has);
  known = λ note has. absurd (has_none note has);
  still = refl;
  rose = rose_none x.faults x.faults (omega arith);
  stand = λ t note has. absurd (has_none note has);
  others = λ t name apart. refl;
}

abbrev pub with_note : List Note → Option Note → List Note
with_note notes None = notes
with_note notes (Some note) = notes ++ note ∷ []

pub count_is : {X : Type 0} (x : X) (b : Bool) → length (cond b (x ∷ []) []) ≡ count_if b
count_is x true = refl
count_is x false = refl

pub length_count : {X : Type 0} (p : X → Bool) (x : X) (b : Bool) → p x ≡ b → length (filter p (x ∷ [])) ≡ count_if b
length_count p x b e = ap (λ c. length (cond c (x ∷ []) [])) e ∙ count_is x b

pub count_more : {X : Type 0} (p : X → Bool) (xs : List X) (x : X) → length (filter p (xs ++ x ∷ [])) ≡ length (filter p xs) + count_if (p x)
count_more p xs x = ap length (filter-append p xs (x ∷ [])) ∙ length-append (filter p xs) (filter p (x ∷ [])) ∙ ap (λ n. length (filter p xs) + n) (length_count p x (p x) refl)

pub notes_more : (agent : Agent) (rules : Rules) (l : Ledger) (first number : ℕ) (notes : List Note) (note : Option Note) (x y z : ShelfView) → first ≤ number → NotesTo agent rules l first number notes x y → NotesOne agent rules l number note y z
    → NotesTo agent rules l first (number + 1) (with_note notes note) x z
notes_more agent rules l first number notes None x y z le s one = subst (λ v. NotesTo agent rules l first (number + 1) notes x v) (sym one.1) (record {
  covers = λ page. (
    (λ has. let (from, to, unput) = (s.covers page).0 has in (from, omega arith, unput)),
    λ (from, to, unput). elim (cases_lt page number) [
      | inl lt ↦ (s.covers page).1 (from, lt, unput)
      | inr ge ↦ let at : number ≡ page = omega arith in absurd (false≢true (sym unput ∙ subst (λ p. is_in l.put_before p ≡ true) at one.0))
    ],
  );
  rising = s.rising;
  digests = s.digests;
  stored = s.stored;
  known = s.known;
  still = s.still;
  rose = s.rose;
  stand = s.stand;
  others = s.others;
})
notes_more agent rules l first number notes (Some note) x y z le s (unput_here, one) =
    let a = l.account in
    let at : note.page.number ≡ number = one.page_is in
    let pages : map noted_page (notes ++ note ∷ []) ≡ map noted_page notes ++ note.page.number ∷ [] = map-append noted_page notes (note ∷ []) in
    let before : (page : ℕ) → Contains (map noted_page notes) page → page < number = λ page has. ((s.covers page).0 has).1 in
    let tells : x.tells ≡ true → y.tells ≡ true = λ t. s.still ∙ t in
    record {
      covers = λ page. (
        (λ has. elim (Contains-push_cases (map noted_page notes) note.page.number page (subst (λ ps. Contains ps page) pages has)) [
          | inl old ↦ let (from, to, unput) = (s.covers page).0 old in (from, omega arith, unput)
          | inr new ↦ let e : number ≡ page = sym at ∙ new in (omega arith, omega arith, subst (λ p. is_in l.put_before p ≡ false) e unput_here)
        ]),
        λ (from, to, unput). subst (λ ps. Contains ps page) (sym pages) (elim (cases_lt page number) [
          | inl lt ↦ Contains-append_left (map noted_page notes) (note.page.number ∷ []) page ((s.covers page).1 (from, lt, unput))
          | inr ge ↦ let e : note.page.number ≡ page = omega arith in subst (Contains (map noted_page notes ++ note.page.number ∷ [])) e (Contains-push (map noted_page notes) note.page.number)
        ]),
      );
      rising = subst AreRising (sym pages) (rising_push (map noted_page notes) note.page.number s.rising (λ page has. let b = before page has in omega arith));
      digests = λ other has. elim (Contains-push_cases notes note other has) [
        | inl old ↦ s.digests other old
        | inr new ↦ subst (λ (n : Note). IsDigest (held_text agent rules a n.page.number) (digest_of n.bits)) new (subst (λ p. IsDigest (held_text agent rules a p) (digest_of note.bits)) (sym at) one.digest)
      ];
      stored = λ other has is. elim (Contains-push_cases notes note other has) [
        | inl old ↦ s.stored other old is
        | inr new ↦ subst (λ (n : Note). is_stored n ≡ true → n.page.number < standing agent) new (λ here. subst (λ p. p < standing agent) (sym at) (one.stored here)) is
      ];
      known = λ other has is. elim (Contains-push_cases notes note other has) [
        | inl old ↦ s.known other old is
        | inr new ↦ subst (λ (n : Note). is_deferred n ≡ true → standing agent ≤ n.page.number) new (λ here. subst (λ p. standing agent ≤ p) (sym at) (elim (cases_lt number (standing agent)) [
          | inl lt ↦ absurd (false≢true (sym (one.known lt) ∙ here))
          | inr ge ↦ ge
        ])) is
      ];
      still = one.still ∙ s.still;
      rose = subst (λ n. RoseBy n x.faults z.faults) (sym (count_more is_refused notes note))
          (rose_then (length (filter is_refused notes)) (count_if (is_refused note)) x.faults y.faults z.faults s.rose one.rose);
      stand = λ t other has is. elim (Contains-push_cases notes note other has) [
        | inl old ↦
            let lt : other.page.number < number = before other.page.number (into_map noted_page notes other old) in
            one.others (tells t) (name_of a.router other.page.number Bits) (λ e. let same : other.page.number ≡ number = same_page a.router a.router other.page.number number Bits Bits e in omega arith)
            ∙ s.stand t other old is
        | inr new ↦ subst (λ (n : Note). is_stored n ≡ true → z.contents (name_of a.router n.page.number Bits) ≡ Some (held_text agent rules a n.page.number)) new
            (λ here. subst (λ p. z.contents (name_of a.router p Bits) ≡ Some (held_text agent rules a p)) (sym at) (one.stands (tells t) here)) is
      ];
      others = λ t name apart.
          one.others (tells t) name
          (λ e. apart note.page.number (subst (λ ps. Contains ps note.page.number) (sym pages) (Contains-push (map noted_page notes) note.page.number)) (subst (λ p. name ≡ name_of a.router p Bits) (sym at) e))
          ∙ s.others t name (λ page has e. apart page (subst (λ ps. Contains ps page) (sym pages) (Contains-append_left (map noted_page notes) (note.page.number ∷ []) page has)) e);
    }
