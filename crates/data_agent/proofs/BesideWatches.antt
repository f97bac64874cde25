-- What a watch tells of a ledger that has the gathered entries alone, and what stays while the keeper reads.
use Rattle.std.proofs.Common.{ℕ, ◌≡◌, ◌≤◌, ◌<◌, ◌+◌, ◌-◌, ◌⊎◌, ◌∙◌, ◌&&◌, ◌||◌, ◌++◌, inl, inr, ⊎_elim, true, false, not, List, length, get_or, Some, IsTrue, sym, ap, subst, refl, arith}
use Rattle.std.specs.List.{Contains}
use Rattle.std.proofs.lemmas.Bool.{cases_lt, false_from_ne_true}
use Rattle.std.proofs.lemmas.List.Elements.{Contains-append_left, Contains-append_right}
use Rattle.std.proofs.lemmas.Option.{slice_get-get_or}
use Rattle.std.specs.Prelude.{option_map}
use Rattle.spie_base.proofs.Membership.{from_filter}
use Rattle.spie_base.specs.Shapes.{shape_of}
use Rattle.spie_base.specs.declared.PageShape.{PageShape}
use Rattle.spie_base.specs.declared.Rules.{Rules}
use Rattle.spie_base.specs.declared.Sig.{Sig}
use Rattle.bloom_page.proofs.BitFacts.{Contains-members_of}
use Rattle.bloom_page.proofs.Members.{are_in-inclusion}
use Rattle.bloom_page.specs.Bits.{members_of}
use Rattle.bloom_page.specs.Sets.{PageSet, are_in, is_in}
use Rattle.gate_core.specs.Invariant.{IsCollected, SlotsFit}
use Rattle.gate_core.specs.Views.{collected_of}
use Rattle.gate_core.specs.declared.view.Duties.{Duties}
use Rattle.gate_core.specs.declared.view.Probed.{Probed}
use Rattle.hash_family.proofs.PositionFacts.{get_or-marks_of, length-marks_of, marks_of-family}
use Rattle.hash_family.specs.Positions.{family_of, marks_of, position, positions_by}
use Rattle.page_catalogue.proofs.Windows.{from_test}
use Rattle.page_catalogue.specs.Pages.{is_in_window}
use Rattle.page_gate.specs.Held.{Held}
use Rattle.page_gate.specs.Pages.{collected_page}
use Rattle.page_gate.specs.Probes.{HaveAllMarks, probed_held, read_of}
use Rattle.router_account.specs.Account.{below, window}
use Rattle.router_account.specs.Ledger.{Ledger, Unfinished}
use Rattle.router_account.specs.Watches.{is_missing_now, is_shown, shows as is_shown_in, watch_word}
use Rattle.router_account.specs.declared.words.Watch.{Watch}
use Rattle.router_account.specs.declared.words.Watch.TheVariants.{NotSeen, Seen, Unknown}
use Rattle.data_agent.specs.declared.agent.Agent.{Agent}
use Rattle.data_agent.specs.declared.closed_page.ClosedPage.{ClosedPage}
use Rattle.data_agent.specs.declared.closed_page.Whereabouts.{Whereabouts}
use Rattle.data_agent.specs.declared.closed_page.Whereabouts.TheVariants.{InMemory, OnShelf}
use Rattle.data_agent.specs.declared.resident.Resident.{Resident}
use Rattle.data_agent.specs.Archiving.{some_page}
use Rattle.data_agent.specs.Beside.{AreRead, Away, IsBitRead, IsMinding, IsPlacedBeside, IsResidentBeside, KeepsReads, StandsBeside}
use Rattle.data_agent.specs.BesideWatches.{IsSeenBeside, IsUnseenBeside, StandsAnyhow}
use Rattle.data_agent.specs.Planes.{entries_of}
use Rattle.data_agent.specs.Probing.{HasNoted, IsNeverSeen, IsReadSet, IsSeenOnce, ShowsInMemory, place_of}
use Rattle.data_agent.specs.Residents.{shows}
use Rattle.data_agent.specs.Standing.{HasNotes, StandsAmid, StandsFor, standing}
use Rattle.data_agent.specs.Watching.{HasPlaces, IsAway, IsInWindow, TellsWatch}
use Rattle.data_agent.proofs.Besides.{closed_known, put_known}
use Rattle.data_agent.proofs.Keeping.{all_marked}
use Rattle.data_agent.proofs.Minding.{minded_from, minded_stands}
use Rattle.data_agent.proofs.Places.{holds_at, placed_before, places_amid}
use Rattle.data_agent.proofs.SameMembers.{marked_by, members_back}
use Rattle.data_agent.proofs.Watching.{any_has, none_has, same_shows}
use Rattle.data_agent.proofs.Windows.{page_gone, page_live, window_has}

-- ---- where the pages are

pub places_beside : (agent : Agent) (rules : Rules) (l : Ledger) (u : Unfinished) (away : Away) → StandsBeside agent rules l u away → HasPlaces agent
places_beside agent rules l u away s =
    let shape : PageShape = shape_of rules l.account.router in
    let last : ℕ = length l.account.closings in
    let minding = s.pages.minding in
    let page = s.pages.page in
    let few = s.pages.few in
    let order = minding.order in
    record {
      exist = page ∙ sym (ap length s.pages.closings);
      few = omega arith;
      order = omega arith;
      stand = λ p from to. minded_stands shape agent.keeper (standing agent) last minding p from (omega arith);
      only = λ p stands. minded_from shape agent.keeper (standing agent) last minding p stands;
    }

pub places_anyhow : (agent : Agent) → StandsAnyhow agent → HasPlaces agent
places_anyhow agent (rules, l, u, inl s) = places_amid agent rules l s.amid
places_anyhow agent (rules, l, u, inr (away, s)) = places_beside agent rules l u away s

-- ---- the keeper reads

fits_read : (shape : PageShape) (d : Duties) (probes : List Probed) → SlotsFit shape d → SlotsFit shape (record d { probes = probes })
fits_read shape d probes f = record {
  four = f.four;
  pointed_slot = f.pointed_slot;
  pointed_used = f.pointed_used;
  open_last = f.open_last;
  stands_used = f.stands_used;
  used_below = f.used_below;
  used_apart = f.used_apart;
  page_within = f.page_within;
  placed = f.placed;
  one_list = f.one_list;
  taken_words = f.taken_words;
  taken_short = f.taken_short;
  fits = f.fits;
}

minding_read : (shape : PageShape) (k : Held) (reads : List Probed) (first last : ℕ) → IsMinding shape k first last → IsMinding shape (probed_held k reads) first last
minding_read shape k reads first last s = record {
  role = s.role;
  fits = fits_read shape k.view.duties (k.view.duties.probes ++ reads) s.fits;
  has_open = s.has_open;
  open_is = s.open_is;
  order = s.order;
  stand = s.stand;
  only = s.only;
}

module _ (agent : Agent) (reads : List Probed) where
  abbrev pub reader : Agent
  reader = record agent { keeper = probed_held agent.keeper reads }

  reader_beside : (rules : Rules) (l : Ledger) (u : Unfinished) (away : Away) → StandsBeside agent rules l u away → StandsBeside reader rules l u away
  reader_beside rules l u away s =
      let p = s.pages in
      let d : Duties = agent.keeper.view.duties in
      let e : Duties = reader.keeper.view.duties in
      record {
        since = s.since;
        pages = record {
          ranges = p.ranges;
          router_fits = p.router_fits;
          rules_are = p.rules_are;
          router = p.router;
          by_rules = p.by_rules;
          closings = p.closings;
          times = p.times;
          few = p.few;
          page = p.page;
          entered = p.entered;
          marked = p.marked;
          minding = minding_read (shape_of rules l.account.router) agent.keeper reads (standing agent) (length l.account.closings) p.minding;
          has = p.has;
          out_is = p.out_is;
        };
        closed = closed_known d e rules l away.since (λ page has. refl) agent.catalogue.gone agent.closed.items s.closed;
        to_come = s.to_come;
        rows = record { table = s.rows.table; spelled = s.rows.spelled };
        expired = s.expired;
        clock = s.clock;
        noted = s.noted;
        put = put_known d e rules l away.since (λ page has. refl) u s.put;
      }

  bit_kept : (shape : PageShape) (page at : ℕ) → IsBitRead shape agent.keeper.view.duties page at → IsBitRead shape reader.keeper.view.duties page at
  bit_kept shape page at = ⊎_elim
      (λ collected. inl collected)
      (λ (x, has, there, place, set). inr (x, Contains-append_left agent.keeper.view.duties.probes reads x has, there, place, set))

  reader_keeps : KeepsReads agent reader
  reader_keeps page sig read = λ i within.
      bit_kept (shape_of agent.rules agent.router.number) page (position (shape_of agent.rules agent.router.number) page sig i) (read i within)

pub noted_beside : (a b : Agent) (reads : List Probed) → HasNoted a b reads → (rules : Rules) (l : Ledger) (u : Unfinished) (away : Away) → StandsBeside a rules l u away → StandsBeside b rules l u away
noted_beside a b reads noted rules l u away s = subst (λ (x : Agent). StandsBeside x rules l u away) (sym noted) (reader_beside a reads rules l u away s)

pub noted_keeps : (a b : Agent) (reads : List Probed) → HasNoted a b reads → KeepsReads a b
noted_keeps a b reads noted = subst (λ (x : Agent). KeepsReads a x) (sym noted) (reader_keeps a reads)

pub noted_for : (a b : Agent) (reads : List Probed) → HasNoted a b reads → ((rules : Rules) (l : Ledger) → StandsAmid a rules l → StandsAmid b rules l)
    → (rules : Rules) (l : Ledger) (u : Unfinished) → StandsFor a rules l u → StandsFor b rules l u
noted_for a b reads noted amid rules l u s = record { amid = amid rules l s.amid; noted = subst (HasNotes rules l u l.closed_at_archive) (sym (ap (λ (x : Agent). x.noted) noted)) s.noted }

-- ---- marks and bits

-- a page that has all marks of a signature has each, and the other way round
each_mark : (shape : PageShape) (page : ℕ) (sig : Sig) (members : List ℕ) → are_in members (marks_of shape page sig) ≡ true → (i : ℕ) → i < shape.k → Contains members (position shape page sig i)
each_mark shape page sig members all i within =
    let lt : i < length (marks_of shape page sig) = let len = length-marks_of shape page sig in omega arith in
    subst (Contains members) (get_or-marks_of shape page sig i 0 within) ((are_in-inclusion members (marks_of shape page sig)).0 all i 0 lt)

all_marks : (shape : PageShape) (page : ℕ) (sig : Sig) (members : List ℕ) → ((i : ℕ) → i < shape.k → Contains members (position shape page sig i)) → are_in members (marks_of shape page sig) ≡ true
all_marks shape page sig members each =
    (are_in-inclusion members (marks_of shape page sig)).1 (λ i x lt.
    let within : i < shape.k = let len = length-marks_of shape page sig in omega arith in
    subst (Contains members) (sym (get_or-marks_of shape page sig i x within)) (each i within))

-- what a page in memory shows, by its marks
by_marks : (shape : PageShape) (page : ℕ) (sig : Sig) (r : Resident) → r.family.value ≡ family_of shape page → shows r sig ≡ are_in r.page.members (marks_of shape page sig)
by_marks shape page sig r family = ap (λ f. are_in r.page.members (positions_by f sig)) family ∙ ap (are_in r.page.members) (sym (marks_of-family shape page sig))

-- ---- a ledger beside passes

module _ (agent : Agent) (rules : Rules) (l : Ledger) (u : Unfinished) (away : Away) (s : StandsBeside agent rules l u away) where
  abbrev theirs : PageShape
  theirs = shape_of rules l.account.router

  abbrev mine : PageShape
  mine = shape_of agent.rules agent.router.number

  shape_is : theirs ≡ mine
  shape_is = sym (ap (λ (r : Rules). shape_of r agent.router.number) s.pages.rules_are ∙ ap (λ (n : ℕ). shape_of rules n) s.pages.router)

  -- the windows of the agent and of the ledger
  same_window : (clock page : ℕ) → is_in_window agent.catalogue.rules agent.catalogue.closings clock page ≡ is_in_window rules l.account.closings clock page
  same_window clock page = ap (λ (r : Rules). is_in_window r agent.catalogue.closings clock page) s.pages.by_rules ∙ ap (λ xs. is_in_window rules xs clock page) s.pages.closings

  into_window : (clock page : ℕ) → IsInWindow agent clock page → Contains (window rules l.account clock) page
  into_window clock page inside = window_has rules l.account clock page (subst IsTrue (same_window clock page) inside)

  from_window : (clock page : ℕ) → Contains (window rules l.account clock) page → IsInWindow agent clock page × (page ≤ length l.account.closings)
  from_window clock page has =
      let kept = from_filter (is_in_window rules l.account.closings clock) (below (length l.account.closings + 1)) page has in
      (subst IsTrue (sym (same_window clock page)) kept.1, (from_test rules l.account.closings clock page kept.1).exists)

  -- what is missing
  missing_live : (page : ℕ) → agent.catalogue.gone ≤ page → is_missing_now rules l page ≡ is_in l.put_before page
  missing_live page near = ap (λ b. b || is_in l.put_before page) (page_live agent rules l s.expired page near)

  missing_old : (page : ℕ) → page < agent.catalogue.gone → is_missing_now rules l page ≡ true
  missing_old page gone = ap (λ b. b || is_in l.put_before page) (page_gone agent rules l s.expired page gone)

  placed : (page : ℕ) (w : Whereabouts) → agent.catalogue.gone ≤ page → place_of agent page ≡ Some w → IsPlacedBeside rules l.account agent.keeper.view.duties away.since page (is_in l.put_before page) w
  placed page w near is =
      holds_at (λ p. IsPlacedBeside rules l.account agent.keeper.view.duties away.since p (is_in l.put_before p)) agent page w (λ i d lt. (s.closed i d lt).placed) near (placed_before agent page w near is) is

  -- a page that was collected has a place
  collected_place : (page : ℕ) → agent.catalogue.gone ≤ page → page < standing agent → (w : Whereabouts) × (place_of agent page ≡ Some w)
  collected_place page near before =
      let i : ℕ = page - agent.catalogue.gone in
      ((get_or agent.closed.items i (some_page agent)).place, ap (option_map (λ (c : ClosedPage). c.place)) (slice_get-get_or agent.closed.items i (some_page agent) (omega arith)))

  missing_away : (page : ℕ) → IsAway agent page → is_missing_now rules l page ≡ true
  missing_away page (inl gone) = missing_old page gone
  missing_away page (inr (g, is)) = elim (cases_lt page agent.catalogue.gone) [
    | inl gone ↦ missing_old page gone
    | inr near ↦ missing_live page near ∙ (placed page (OnShelf g) near is).0
  ]

  there_placed : (page : ℕ) (w : Whereabouts) → agent.catalogue.gone ≤ page → place_of agent page ≡ Some w → (IsAway agent page → ⊥) → is_in l.put_before page ≡ false
  there_placed page (InMemory r) near is kept = (placed page (InMemory r) near is).0
  there_placed page (OnShelf g) near is kept = absurd (kept (inr (g, is)))

  there_kept : (page : ℕ) → (IsAway agent page → ⊥) → is_missing_now rules l page ≡ false
  there_kept page kept = elim (cases_lt page agent.catalogue.gone) [
    | inl gone ↦ absurd (kept (inl gone))
    | inr near ↦
        missing_live page near
        ∙ elim (cases_lt page (standing agent)) [
          | inl before ↦ let (w, is) = collected_place page near before in there_placed page w near is kept
          | inr past ↦ (s.to_come page past).unput
        ]
  ]

  -- ---- a page in which the signature is seen

  -- of the bits that the keeper collected
  collected_read : (reads : List Probed) (page : ℕ) (sig : Sig) (r : Resident) → r.family.value ≡ family_of theirs page → shows r sig ≡ true → IsCollected theirs agent.keeper.view.duties page
      → r.page ≡ collected_page theirs agent.keeper.view.duties page → AreRead (reader agent reads) page sig
  collected_read reads page sig r family shown has is =
      let d : Duties = agent.keeper.view.duties in
      let words : List ℕ = collected_of d page in
      let all : are_in (members_of words) (marks_of theirs page sig) ≡ true =
      ap (λ (set : PageSet). are_in set.members (marks_of theirs page sig)) (sym is) ∙ sym (by_marks theirs page sig r family) ∙ shown in
      let each : (i : ℕ) → i < theirs.k → IsBitRead theirs (reader agent reads).keeper.view.duties page (position theirs page sig i) =
      λ i within. inl (has, (Contains-members_of words (position theirs page sig i)).0 (each_mark theirs page sig (members_of words) all i within)) in
      subst (λ (shape : PageShape). (i : ℕ) → i < shape.k → IsBitRead shape (reader agent reads).keeper.view.duties page (position shape page sig i)) shape_is each

  memory_shown : (reads : List Probed) (page : ℕ) (sig : Sig) (r : Resident) → IsResidentBeside rules l.account agent.keeper.view.duties away.since page r → shows r sig ≡ true
      → (is_shown_in rules l.account sig page ≡ true) ⊎ AreRead (reader agent reads) page sig
  memory_shown reads page sig r is shown = ⊎_elim
      (λ (lt, bits). inl (sym (same_shows rules l.account page r sig (record { family = is.family; page_is = bits })) ∙ shown))
      (λ (has, bits). inr (collected_read reads page sig r is.family shown has bits))
      is.bits

  -- of what this call read
  slot_read : (reads : List Probed) (page : ℕ) (sig : Sig) → IsReadSet agent reads page sig → AreRead (reader agent reads) page sig
  slot_read reads page sig is = λ i within.
      inr (read_of mine page sig (length (entries_of agent)) i true, Contains-append_right agent.keeper.view.duties.probes reads _ (is.each i within), refl, refl, refl)

  seen_reader : (reads : List Probed) (clock : ℕ) (sig : Sig) → IsSeenOnce agent reads clock sig → IsSeenBeside rules l clock sig (reader agent reads)
  seen_reader reads clock sig is =
      let places = places_beside agent rules l u away s in
      let near = is.live.live in
      ⊎_elim
      (λ memory.
      let held = placed is.page (InMemory memory.resident) near memory.here in
      record {
        page = is.page;
        in_window = into_window clock is.page is.live.in_window;
        there = missing_live is.page near ∙ held.0;
        shown = memory_shown reads is.page sig memory.resident held.1 memory.marks;
      })
      (λ read. record {
        page = is.page;
        in_window = into_window clock is.page is.live.in_window;
        there = missing_live is.page near ∙ (s.to_come is.page (places.only is.page read.stands)).unput;
        shown = inr (slot_read reads is.page sig read);
      })
      is.seen

  pub seen_beside : (new : Agent) (reads : List Probed) (clock : ℕ) (sig : Sig) → HasNoted agent new reads → IsSeenOnce agent reads clock sig → IsSeenBeside rules l clock sig new
  seen_beside new reads clock sig noted is = subst (IsSeenBeside rules l clock sig) (sym noted) (seen_reader reads clock sig is)

  -- ---- and one in which it is not

  -- what the gathered entries show is in each page that was collected
  shown_memory : (page : ℕ) (sig : Sig) (r : Resident) → IsResidentBeside rules l.account agent.keeper.view.duties away.since page r → is_shown_in rules l.account sig page ≡ true → shows r sig ≡ true
  shown_memory page sig r is shown =
      let marks : HaveAllMarks theirs l.account.entries page sig = (all_marked theirs l.account.entries page sig).1 shown in
      by_marks theirs page sig r is.family ∙ all_marks theirs page sig r.page.members (λ i within. is.gathered (position theirs page sig i) (marks i within))

  hidden_memory : (page : ℕ) (sig : Sig) (w : Whereabouts) → agent.catalogue.gone ≤ page → place_of agent page ≡ Some w → (ShowsInMemory agent page sig → ⊥)
      → (not (is_missing_now rules l page) && is_shown_in rules l.account sig page) ≡ false
  hidden_memory page sig (OnShelf g) near is none =
      ap (λ b. not b && is_shown_in rules l.account sig page) (missing_away page (inr (g, is)))
  hidden_memory page sig (InMemory r) near is none =
      let held = placed page (InMemory r) near is in
      let hidden : is_shown_in rules l.account sig page ≡ false =
      false_from_ne_true (is_shown_in rules l.account sig page) (λ shown. none (record { resident = r; here = is; marks = shown_memory page sig r held.1 shown })) in
      ap (λ b. not b && is_shown_in rules l.account sig page) (missing_live page near ∙ held.0) ∙ hidden

  hidden_slot : (page : ℕ) (sig : Sig) → agent.catalogue.gone ≤ page → standing agent ≤ page → (HaveAllMarks mine (entries_of agent) page sig → ⊥)
      → (not (is_missing_now rules l page) && is_shown_in rules l.account sig page) ≡ false
  hidden_slot page sig near past none =
      let without : HaveAllMarks theirs (entries_of agent) page sig → ⊥ = subst (λ (shape : PageShape). HaveAllMarks shape (entries_of agent) page sig → ⊥) (sym shape_is) none in
      let hidden : is_shown_in rules l.account sig page ≡ false =
      false_from_ne_true (is_shown_in rules l.account sig page) (λ shown.
      let marks : HaveAllMarks theirs l.account.entries page sig = (all_marked theirs l.account.entries page sig).1 shown in
      without (λ i within. marked_by theirs l.account.entries (entries_of agent) page (position theirs page sig i) (members_back (entries_of agent) l.account.entries s.pages.has) (marks i within))) in
      ap (λ b. not b && is_shown_in rules l.account sig page) (missing_live page near ∙ (s.to_come page past).unput) ∙ hidden

  hidden_page : (reads : List Probed) (clock page : ℕ) (sig : Sig) → IsNeverSeen agent reads clock sig → IsInWindow agent clock page → page ≤ length l.account.closings
      → (not (is_missing_now rules l page) && is_shown_in rules l.account sig page) ≡ false
  hidden_page reads clock page sig never inside to = elim (cases_lt page agent.catalogue.gone) [
    | inl gone ↦ ap (λ b. not b && is_shown_in rules l.account sig page) (missing_old page gone)
    | inr near ↦
        let unseen = never page (record { in_window = inside; live = near }) in
        let places = places_beside agent rules l u away s in
        let last = s.pages.page in
        elim (cases_lt page (standing agent)) [
          | inl before ↦ let (w, is) = collected_place page near before in hidden_memory page sig w near is unseen.memory
          | inr past ↦ hidden_slot page sig near past (unseen.gathered (places.stand page past (omega arith)))
        ]
  ]

  hidden_all : (reads : List Probed) (clock : ℕ) (sig : Sig) → IsNeverSeen agent reads clock sig → is_shown rules l l.account clock sig ≡ false
  hidden_all reads clock sig never =
      none_has (λ page. not (is_missing_now rules l page) && is_shown_in rules l.account sig page) (window rules l.account clock)
      (λ page has. let (inside, to) = from_window clock page has in hidden_page reads clock page sig never inside to)

  pub unseen_beside : (reads : List Probed) (clock : ℕ) (sig : Sig) (answer : Watch) → TellsWatch agent reads clock sig answer → (answer ≡ Seen → ⊥) → IsUnseenBeside rules l clock sig answer
  unseen_beside reads clock sig Seen tells other = absurd (other refl)
  unseen_beside reads clock sig Unknown (never, (page, inside, is)) other = record {
    hidden = hidden_all reads clock sig never;
    word = ap (watch_word false) (sym (any_has (is_missing_now rules l) (window rules l.account clock) page (into_window clock page inside) (missing_away page is)));
  }
  unseen_beside reads clock sig NotSeen (never, whole) other = record {
    hidden = hidden_all reads clock sig never;
    word = ap (watch_word false) (sym (none_has (is_missing_now rules l) (window rules l.account clock)
        (λ page has. let (inside, to) = from_window clock page has in there_kept page (whole page inside))));
  }

-- ---- what each answer tells

pub tells_seen : (agent : Agent) (reads : List Probed) (clock : ℕ) (sig : Sig) (answer : Watch) → TellsWatch agent reads clock sig answer → answer ≡ Seen → IsSeenOnce agent reads clock sig
tells_seen agent reads clock sig Seen tells is = tells
tells_seen agent reads clock sig Unknown tells is = cc
tells_seen agent reads clock sig NotSeen tells is = cc

pub tells_never : (agent : Agent) (reads : List Probed) (clock : ℕ) (sig : Sig) (answer : Watch) → TellsWatch agent reads clock sig answer → (answer ≡ Seen → ⊥) → IsNeverSeen agent reads clock sig
tells_never agent reads clock sig Seen tells other = absurd (other refl)
tells_never agent reads clock sig Unknown tells other = tells.0
tells_never agent reads clock sig NotSeen tells other = tells.0
