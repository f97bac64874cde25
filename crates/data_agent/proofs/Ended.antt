-- The end of an archival, as its contract says it.
use Rattle.std.proofs.Common.{ℕ, ◌≡◌, ◌≤◌, ◌<◌, ◌-◌, ◌∷◌, [], ◌++◌, ◌∙◌, ◌⊎◌, ⊎_elim, ◌==◌, ◌||◌, List, length, map, filter, cond, Bool, true, false, not, is_some, Option, Some, None, Vec, Global, sym, ap, subst, refl, inl, inr, arith}
use Rattle.std.specs.List.{Contains}
use Rattle.std.specs.List.Sorted.{IsStrictlySortedBy}
use Rattle.std.specs.Ordering.{nat_cmp}
use Rattle.std.proofs.lemmas.Bool.{false≢true, ltb-true, ltb-false}
use Rattle.std.proofs.lemmas.List.{length-map}
use Rattle.std.proofs.lemmas.List.Elements.{Contains-append_cases, Contains-append_left, Contains-append_right}
use Rattle.spie_base.proofs.Membership.{has_none, has_cases, from_map, into_map, from_filter, into_filter}
use Rattle.spie_base.specs.Causes.{RoseBy}
use Rattle.spie_base.specs.declared.Rules.{Rules}
use Rattle.bloom_page.specs.Sets.{is_in}
use Rattle.page_shelf.specs.declared.ShelfPart.{ShelfPart}
use Rattle.page_shelf.specs.declared.ShelfPart.TheVariants.{Bits, Rows}
use Rattle.shelved_page.specs.declared.shelving.Digests.{Digests}
use Rattle.router_account.specs.Barriers.{AreRising, IsSplit, IsSplitWhere, archive_view}
use Rattle.router_account.specs.Ledger.{Ledger, Split, Unfinished, no_split, nothing_unfinished, was_expired}
use Rattle.router_account.specs.Records.{ArePageBits, Holds, HoldsBits, bits_text, name_of, true_text}
use Rattle.router_account.specs.Shelves.{ShelfView}
use Rattle.data_agent.specs.declared.agent.Agent.{Agent}
use Rattle.data_agent.specs.declared.archival.Note.{Note}
use Rattle.data_agent.specs.declared.finishing.Settled.{Settled}
use Rattle.data_agent.specs.declared.outcome.Archived.{Archived}
use Rattle.data_agent.specs.Calls.{number_of, split_by}
use Rattle.data_agent.specs.Finishing.{FinishesTo, IsFinished, covered_all, finished_at, numbers_kept, numbers_put, pages_kept, pages_put, put_all, put_where, settled_all, settled_number, settled_page, was_kept, was_put}
use Rattle.data_agent.specs.Standing.{AreNotes, HasNotes, IsBitsDigest, Stands, StandsWhole, digest_of, noted_page, is_refused, is_stored, put_page}
use Rattle.data_agent.proofs.Alike.{not_noted, stands_like}
use Rattle.data_agent.proofs.Members.{is_in-append, is_in-none}
use Rattle.data_agent.proofs.Puts.{rose_none, same_page, same_part}
use Rattle.data_agent.proofs.Rising.{each_less, rising_filter}

-- ---- the lists of a split

twice : (settled : List Settled) → map number_of (map settled_page settled) ≡ map settled_number settled
twice [] = refl
twice (one ∷ settled) = ap (λ ns. one.page.number ∷ ns) (twice settled)

numbers_are : (p : Settled → Bool) (settled : List Settled) → map number_of (map settled_page (filter p settled)) ≡ map settled_number (filter p settled)
numbers_are p settled = twice (filter p settled)

kept_count : (settled : List Settled) → length (map settled_number (filter was_kept settled)) ≡ length (filter was_kept settled)
kept_count settled = length-map (filter was_kept settled) settled_number

one_of : (settled : List Settled) (one : Settled) (page : ℕ) → Contains settled one → one.page.number ≡ page → (put : Bool) → was_put one ≡ put → Contains (numbers_put settled) page ⊎ Contains (numbers_kept settled) page
one_of settled one page has at true e = inl (subst (Contains (numbers_put settled)) at (into_map settled_number (filter was_put settled) one (into_filter was_put settled one has e)))
one_of settled one page has at false e = inr (subst (Contains (numbers_kept settled)) at (into_map settled_number (filter was_kept settled) one (into_filter was_kept settled one has (ap not e))))

-- each page was put or kept
both_of : (settled : List Settled) (page : ℕ) → Contains (map settled_number settled) page → Contains (numbers_put settled) page ⊎ Contains (numbers_kept settled) page
both_of settled page has =
    let image = from_map settled_number settled page has in
    one_of settled image.of page image.has image.is (was_put image.of) refl

-- no page was both
not_both : (settled : List Settled) (page : ℕ) → IsStrictlySortedBy nat_cmp (map settled_number settled) → Contains (numbers_put settled) page → Contains (numbers_kept settled) page → ⊥
unfolding IsStrictlySortedBy
not_both [] page s put kept = has_none page put
not_both (one ∷ settled) page s put kept =
    let a = from_map settled_number (filter was_put (one ∷ settled)) page put in
    let b = from_map settled_number (filter was_kept (one ∷ settled)) page kept in
    let a_in = from_filter was_put (one ∷ settled) a.of a.has in
    let b_in = from_filter was_kept (one ∷ settled) b.of b.has in
    elim (has_cases one settled a.of a_in.0) [
      | inl first ↦ elim (has_cases one settled b.of b_in.0) [
        | inl same ↦ false≢true (sym (ap not a_in.1) ∙ ap (λ x. not (was_put x)) (sym first ∙ same) ∙ b_in.1)
        | inr later ↦
            let lt : one.page.number < b.of.page.number = each_less one.page.number (map settled_number settled) s.0 b.of.page.number (into_map settled_number settled b.of later) in
            let x : one.page.number ≡ page = ap settled_number first ∙ a.is in
            let y : b.of.page.number ≡ page = b.is in
            omega arith
      ]
      | inr later ↦ elim (has_cases one settled b.of b_in.0) [
        | inl same ↦
            let lt : one.page.number < a.of.page.number = each_less one.page.number (map settled_number settled) s.0 a.of.page.number (into_map settled_number settled a.of later) in
            let x : one.page.number ≡ page = ap settled_number same ∙ b.is in
            let y : a.of.page.number ≡ page = a.is in
            omega arith
        | inr after ↦ not_both settled page s.1
            (subst (Contains (numbers_put settled)) a.is (into_map settled_number (filter was_put settled) a.of (into_filter was_put settled a.of later a_in.1)))
            (subst (Contains (numbers_kept settled)) b.is (into_map settled_number (filter was_kept settled) b.of (into_filter was_kept settled b.of after b_in.1)))
      ]
    ]

among : (p : Settled → Bool) (settled : List Settled) (page : ℕ) → Contains (map settled_number (filter p settled)) page → Contains (map settled_number settled) page
among p settled page has =
    let image = from_map settled_number (filter p settled) page has in
    subst (Contains (map settled_number settled)) image.is (into_map settled_number settled image.of (from_filter p settled image.of image.has).0)

-- ---- the pages of the ledger behind it

turn : (a b c : Bool) → (a || (b || c)) ≡ (b || (a || c))
turn true true c = refl
turn true false c = refl
turn false b c = refl

-- one page more in front of a list, where it was put
put_first : (d : Option Digests) (page other : ℕ) (pages rest : List ℕ) → is_in (put_where d page rest ++ pages) other ≡ is_in (rest ++ put_where d page pages) other
put_first None page other pages rest = refl
put_first (Some d) page other pages rest =
    ap (λ b. (other == page) || b) (is_in-append rest pages other) ∙ turn (other == page) (is_in rest other) (is_in pages other) ∙ sym (is_in-append rest (page ∷ pages) other)

numbers_first : (one : Settled) (settled : List Settled) (d : Option Digests) → one.digests ≡ d → numbers_put (one ∷ settled) ≡ put_where d one.page.number (numbers_put settled)
numbers_first one settled None e = ap (λ (x : Option Digests). map settled_number (cond (is_some x) (one ∷ filter was_put settled) (filter was_put settled))) e
numbers_first one settled (Some d) e = ap (λ (x : Option Digests). map settled_number (cond (is_some x) (one ∷ filter was_put settled) (filter was_put settled))) e

either_put : (a x p k q : Bool) → ((a || p) || k) || q ≡ (p || k) || (a || q)
either_put true x true k q = refl
either_put true x false true q = refl
either_put true x false false q = refl
either_put false x p k q = refl

either_kept : (a p k q : Bool) → (p || (a || k)) || q ≡ (p || k) || (a || q)
either_kept a true k q = refl
either_kept true false true q = refl
either_kept true false false q = refl
either_kept false false k q = refl

three : (xs ys zs : List ℕ) (page : ℕ) → is_in ((xs ++ ys) ++ zs) page ≡ ((is_in xs page || is_in ys page) || is_in zs page)
three xs ys zs page = is_in-append (xs ++ ys) zs page ∙ ap (λ b. b || is_in zs page) (is_in-append xs ys page)

covered_first : (one : Settled) (settled : List Settled) (pages : List ℕ) (page : ℕ) (put : Bool) → was_put one ≡ put
    → is_in ((numbers_put (one ∷ settled) ++ numbers_kept (one ∷ settled)) ++ pages) page ≡ is_in ((numbers_put settled ++ numbers_kept settled) ++ (one.page.number ∷ pages)) page
covered_first one settled pages page true e =
    ap (λ b. is_in ((map settled_number (cond b (one ∷ filter was_put settled) (filter was_put settled)) ++ map settled_number (cond (not b) (one ∷ filter was_kept settled) (filter was_kept settled))) ++ pages) page) e
    ∙ three (one.page.number ∷ numbers_put settled) (numbers_kept settled) pages page
    ∙ either_put (page == one.page.number) true (is_in (numbers_put settled) page) (is_in (numbers_kept settled) page) (is_in pages page)
    ∙ sym (three (numbers_put settled) (numbers_kept settled) (one.page.number ∷ pages) page)
covered_first one settled pages page false e =
    ap (λ b. is_in ((map settled_number (cond b (one ∷ filter was_put settled) (filter was_put settled)) ++ map settled_number (cond (not b) (one ∷ filter was_kept settled) (filter was_kept settled))) ++ pages) page) e
    ∙ three (numbers_put settled) (one.page.number ∷ numbers_kept settled) pages page
    ∙ either_kept (page == one.page.number) (is_in (numbers_put settled) page) (is_in (numbers_kept settled) page) (is_in pages page)
    ∙ sym (three (numbers_put settled) (numbers_kept settled) (one.page.number ∷ pages) page)

put_members : (settled : List Settled) (pages : List ℕ) (page : ℕ) → is_in (numbers_put settled ++ pages) page ≡ is_in (put_all pages settled) page
put_members [] pages page = refl
put_members (one ∷ settled) pages page =
    ap (λ ns. is_in (ns ++ pages) page) (numbers_first one settled one.digests refl)
    ∙ put_first one.digests one.page.number page pages (numbers_put settled)
    ∙ put_members settled (put_where one.digests one.page.number pages) page

covered_members : (settled : List Settled) (pages : List ℕ) (page : ℕ) → is_in ((numbers_put settled ++ numbers_kept settled) ++ pages) page ≡ is_in (covered_all pages settled) page
covered_members [] pages page = refl
covered_members (one ∷ settled) pages page =
    covered_first one settled pages page (was_put one) refl ∙ covered_members settled (one.page.number ∷ pages) page

-- ---- the whole

pub split_is : (rules : Rules) (l : Ledger) (u : Unfinished) (closings : List ℕ) (notes : List Note) (settled : List Settled) → AreNotes rules l u closings notes → map settled_number settled ≡ map noted_page notes
    → IsSplit rules (archive_view l closings) (record { put = numbers_put settled; kept = numbers_kept settled })
split_is rules l u closings notes settled n pages =
    let rising : AreRising (map settled_number settled) = subst AreRising (sym pages) n.rising in
    record {
      put_rises = rising_filter settled_number was_put settled rising;
      kept_rises = rising_filter settled_number was_kept settled rising;
      apart = λ page put kept. not_both settled page rising put kept;
      all = λ page. (
        (λ has. (n.covers page).0 (subst (λ ps. Contains ps page) pages (⊎_elim (λ put. among was_put settled page put) (λ kept. among was_kept settled page kept) has))),
        λ covered. both_of settled page (subst (λ ps. Contains ps page) (sym pages) ((n.covers page).1 covered)),
      );
    }

abbrev numbers_split : List Settled → Split
numbers_split settled = record { put = numbers_put settled; kept = numbers_kept settled }

-- what a page that was put has on the shelf
put_stands : (rules : Rules) (l : Ledger) (u : Unfinished) (closings : List ℕ) (notes : List Note) (settled : List Settled) (x z : ShelfView) (page : ℕ) (part : ShelfPart) → AreNotes rules l u closings notes → FinishesTo rules l.account notes settled x z
    → x.tells ≡ true → HoldsBits rules x.contents l.account u → ArePageBits rules l.account u → Contains (numbers_put settled) page → z.contents (name_of l.account.router page part) ≡ Some (true_text rules l.account page part)
put_stands rules l u closings notes settled x z page Rows n f t held true_bits has = f.stand t page has
put_stands rules l u closings notes settled x z page Bits n f t held true_bits has =
    let a = l.account in
    let done = from_map noted_page (filter is_stored notes) page (f.done page has) in
    let kept = from_filter is_stored notes done.of done.has in
    let at = from_map put_page u.bits_put done.of.page.number ((n.each done.of kept.0).put kept.1) in
    let number : at.of.page ≡ page = at.is ∙ done.is in
    f.others t (name_of a.router page Bits) (λ q noted e. let parts : Bits ≡ Rows = same_part a.router a.router page q Bits Rows e in cc)
    ∙ subst (λ p. x.contents (name_of a.router p Bits) ≡ Some (true_text rules a p Bits)) number
    (held at.of at.has ∙ ap (λ ms. Some (bits_text rules a at.of.page ms)) (true_bits at.of at.has))

pub finished_holds : (agent : Agent) (rules : Rules) (l : Ledger) (u : Unfinished) (closings : List ℕ) (notes : List Note) (settled : List Settled) (x z : ShelfView) → Stands agent rules l → AreNotes rules l u closings notes → FinishesTo rules l.account notes settled x z
    → x.tells ≡ true → Holds rules x.contents l → HoldsBits rules x.contents l.account u → ArePageBits rules l.account u → Holds rules z.contents (finished_at l (numbers_split settled))
finished_holds agent rules l u closings notes settled x z s n f t h held true_bits = record {
  put = λ page part has live. elim (Contains-append_cases (numbers_put settled) l.put_before page has) [
    | inl new ↦ put_stands rules l u closings notes settled x z page part n f t held true_bits new
    | inr old ↦
        f.others t (name_of l.account.router page part) (λ q noted e. ((n.covers q).0 noted).unput (subst (Contains l.put_before) (same_page l.account.router l.account.router page q part Rows e) old))
        ∙ h.put page part old live
  ];
  gone = λ page part gone covered apart.
      let apart_all : (q : ℕ) → Contains (map noted_page notes) q → page ≡ q → ⊥ = λ q noted e. false≢true (sym ((n.covers q).0 noted).live ∙ subst (λ p. was_expired rules l p ≡ true) e gone) in
      elim (Contains-append_cases (numbers_put settled ++ numbers_kept settled) l.covered_before page covered) [
        | inl new ↦ absurd (apart_all page (subst (λ ps. Contains ps page) f.pages (⊎_elim (λ put. among was_put settled page put) (λ kept. among was_kept settled page kept) (Contains-append_cases (numbers_put settled) (numbers_kept settled) page new))) refl)
        | inr old ↦ f.others t (name_of l.account.router page part) (λ q noted e. apart_all q noted (same_page l.account.router l.account.router page q part Rows e)) ∙ h.gone page part gone old apart
      ];
}

told_split : (archived : Archived) (settled : List Settled) → archived.put ≡ pages_put settled → archived.kept ≡ pages_kept settled → split_by (Some archived) ≡ numbers_split settled
told_split archived settled put kept =
    ap (λ ps. let s : Split = record { put = map number_of ps; kept = map number_of archived.kept } in s) put
    ∙ ap (λ ps. let s : Split = record { put = map number_of (pages_put settled); kept = map number_of ps } in s) kept
    ∙ ap (λ ns. let s : Split = record { put = ns; kept = map number_of (pages_kept settled) } in s) (numbers_are was_put settled)
    ∙ ap (λ ns. let s : Split = record { put = numbers_put settled; kept = ns } in s) (numbers_are was_kept settled)

finished_split : (old new : Agent) (rules : Rules) (l : Ledger) (u : Unfinished) (closings : List ℕ) (notes : List Note) (settled : List Settled) (archived : Archived) (x z : ShelfView) → Stands old rules l → l.closed_at_archive ≡ Some closings → AreNotes rules l u closings notes
    → FinishesTo rules l.account notes settled x z → Stands new rules (settled_all l settled) → new.noted ≡ None → (split : Split) → split_by (Some archived) ≡ split → numbers_split settled ≡ split → IsFinished rules l u (Some archived) new x z
finished_split old new rules l u closings notes settled archived x z s at n f stands none split e1 e2 =
    let same : numbers_split settled ≡ split_by (Some archived) = e2 ∙ sym e1 in
    record {
      told = sym (ap is_some at);
      split = subst (IsSplitWhere rules l l.closed_at_archive) same (subst (λ o. IsSplitWhere rules l o (numbers_split settled)) (sym at) (split_is rules l u closings notes settled n f.pages));
      stands = subst (λ (sp : Split). StandsWhole new rules (finished_at l sp) nothing_unfinished) same (record {
        stands = stands_like new rules (settled_all l settled) (numbers_put settled ++ l.put_before) ((numbers_put settled ++ numbers_kept settled) ++ l.covered_before) l.left_before None
            (λ page. put_members settled l.put_before page) (λ page. covered_members settled l.covered_before page) stands;
        noted = subst (HasNotes rules (finished_at l (numbers_split settled)) nothing_unfinished None) (sym none) refl;
      });
      rose = subst (λ (sp : Split). RoseBy (length sp.kept - u.refused) x.faults z.faults) same
          (subst (λ n. RoseBy n x.faults z.faults) (let k = kept_count settled in let r = n.refused in let few = f.few in let goal : length (filter was_kept settled) - length (filter is_refused notes) ≡ length (numbers_kept settled) - u.refused = omega arith in goal) f.rose);
      holds = λ t h held true_bits. subst (λ (sp : Split). Holds rules z.contents (finished_at l sp)) same (finished_holds old rules l u closings notes settled x z s n f t h held true_bits);
      others = λ t name apart. f.others t name (λ page has e. apart (ap (λ n. n.router.number) e));
      untouched = λ t name apart. f.others t name (λ page has e. apart (record {
        router_is = ap (λ n. n.router.number) e;
        page = subst (λ (sp : Split). Contains (sp.put ++ sp.kept) name.page.number) same (subst (Contains (numbers_put settled ++ numbers_kept settled)) (sym (ap (λ n. n.page.number) e))
            (⊎_elim (λ put. Contains-append_left (numbers_put settled) (numbers_kept settled) page put) (λ kept. Contains-append_right (numbers_put settled) (numbers_kept settled) page kept)
            (((split_is rules l u closings notes settled n f.pages).all page).1 ((n.covers page).0 has))));
      }));
    }

pub finished_some : (old new : Agent) (rules : Rules) (l : Ledger) (u : Unfinished) (at : Option (List ℕ)) (notes : Vec Note Global) (settled : List Settled) (archived : Archived) (x z : ShelfView) → Stands old rules l → l.closed_at_archive ≡ at → HasNotes rules l u at (Some notes)
    → FinishesTo rules l.account notes.items settled x z → Stands new rules (settled_all l settled) → new.noted ≡ None → archived.put ≡ pages_put settled → archived.kept ≡ pages_kept settled → IsFinished rules l u (Some archived) new x z
finished_some old new rules l u None notes settled archived x z s at h f stands none put kept = absurd h
finished_some old new rules l u (Some closings) notes settled archived x z s at h f stands none put kept =
    finished_split old new rules l u closings notes.items settled archived x z s at h f stands none (numbers_split settled) (told_split archived settled put kept) refl

pub finished_none : (agent : Agent) (rules : Rules) (l : Ledger) (u : Unfinished) (x : ShelfView) → StandsWhole agent rules l u → agent.noted ≡ None → IsFinished rules l u None agent x x
finished_none agent rules l u x s none =
    let (at, refused) = not_noted rules l u l.closed_at_archive agent.noted s.noted none in
    record {
      told = sym (ap is_some at);
      split = subst (λ o. IsSplitWhere rules l o no_split) (sym at) refl;
      stands = record {
        stands = stands_like agent rules l l.put_before l.covered_before l.left_before None (λ page. refl) (λ page. refl) s.stands;
        noted = subst (HasNotes rules (finished_at l no_split) nothing_unfinished None) (sym none) refl;
      };
      rose = subst (λ n. RoseBy n x.faults x.faults) (let e : 0 ≡ 0 - u.refused = omega arith in e) (rose_none x.faults x.faults (omega arith));
      holds = λ t h held true_bits. record { put = h.put; gone = h.gone };
      others = λ t name apart. refl;
      untouched = λ t name apart. refl;
    }

-- ---- what the calls need

-- what a note of the agent says
pub noted_needs : (agent : Agent) (rules : Rules) (l : Ledger) (u : Unfinished) (at : Option (List ℕ)) (notes : Vec Note Global) (note : Note) → Stands agent rules l → HasNotes rules l u at (Some notes) → Contains notes.items note
    → (agent.catalogue.gone ≤ note.page.number) × (note.page.number < agent.page.number) × (is_in l.put_before note.page.number ≡ false) × IsBitsDigest rules l.account note.page.number (digest_of note.bits)
noted_needs agent rules l u None notes note s h has = absurd h
noted_needs agent rules l u (Some closings) notes note s h has =
    let covered = (h.covers note.page.number).0 (into_map noted_page notes.items note has) in
    let lt : note.page.number < length closings = ltb-true note.page.number (length closings) covered.closed in
    let longer = h.closed in
    let end = s.pages.page in (
      ltb-false note.page.number agent.catalogue.gone (s.expired note.page.number ∙ covered.live),
      omega arith,
      is_in-none l.put_before note.page.number covered.unput,
      (h.each note has).digest,
    )

-- and a settled page is that of a note
pub settled_of : (notes : List Note) (settled : List Settled) (one : Settled) → map settled_number settled ≡ map noted_page notes → Contains settled one → (note : Note) × Contains notes note × (note.page.number ≡ one.page.number)
settled_of notes settled one pages has =
    let image = from_map noted_page notes one.page.number (subst (λ ps. Contains ps one.page.number) pages (into_map settled_number settled one has)) in
    (image.of, image.has, image.is)
