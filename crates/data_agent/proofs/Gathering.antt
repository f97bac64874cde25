-- What an agent stands for once it has taken in its passes.
use Rattle.std.proofs.Common.{ℕ, Bool, true, ◌≡◌, ◌≤◌, ◌<◌, ◌+◌, ◌-◌, ◌^◌, ◌∙◌, ◌∷◌, [], ◌++◌, ◌↔◌, ◌⊎◌, lit<, List, length, get_or, map, flat_map, is_some, All, Option, Some, None, Vec, Global, sym, ap, subst, refl, arith, ⊎_elim}
use mathlib.Core.Option.{some}
use Rattle.std.specs.List.{Contains}
use Rattle.std.proofs.lemmas.Bool.{cases_lt, false≢true}
use Rattle.std.proofs.lemmas.List.{get_or_default, get_or_past}
use Rattle.std.proofs.lemmas.List.Elements.{Contains-append_cases, Contains-append_left, Contains-append_right}
use Rattle.sha2.specs.Sha256.{sha256}
use Rattle.spie_base.proofs.Membership.{from_flat_map, into_map}
use Rattle.spie_base.specs.Shapes.{shape_of}
use Rattle.spie_base.specs.declared.types.TheConstants.{N_MOST}
use Rattle.spie_base.specs.declared.Entry.{Entry}
use Rattle.spie_base.specs.declared.PageShape.{PageShape}
use Rattle.spie_base.specs.declared.Rules.{Rules}
use Rattle.spie_base.specs.declared.Sig.{Sig}
use Rattle.bloom_page.specs.Bits.{bit_in}
use Rattle.bloom_page.specs.Sets.{PageSet, are_in, is_in}
use Rattle.hash_family.specs.Entries.{IsMarked}
use Rattle.hash_family.specs.Positions.{marks_of, position}
use Rattle.gate_core.specs.declared.view.Duties.{Duties}
use Rattle.gate_core.specs.declared.view.Probed.{Probed}
use Rattle.gate_core.specs.Invariant.{IsCollected, IsRising, SlotsFit}
use Rattle.gate_core.specs.Marks.{size}
use Rattle.gate_core.specs.Views.{collected_of}
use Rattle.gate_core.proofs.Bits.{position_below}
use Rattle.gate_core.proofs.Deals.{same_slots}
use Rattle.gate_core.proofs.Runs.{at_place}
use Rattle.page_gate.specs.Held.{Held, PassHeld, WasAlone, gathered_all, gathered_held}
use Rattle.page_gate.specs.Probes.{HaveAllMarks}
use Rattle.page_gate.specs.Slots.{HasOpen, IsWaiting}
use Rattle.page_gate.specs.Slots.{open_page as page_open}
use Rattle.page_gate.proofs.WholeWords.{bits_set}
use Rattle.router_account.specs.Account.{Account, bits, fill, page_set}
use Rattle.router_account.specs.Ledger.{Ledger, Unfinished}
use Rattle.router_account.specs.Records.{ArePageBits, bits_text}
use Rattle.router_account.specs.Watches.{shows}
use Rattle.data_agent.specs.declared.agent.Agent.{Agent}
use Rattle.data_agent.specs.declared.archival.Note.{Note}
use Rattle.data_agent.specs.declared.closed_page.Whereabouts.{Whereabouts}
use Rattle.data_agent.specs.declared.closed_page.Whereabouts.TheVariants.{InMemory, OnShelf}
use Rattle.data_agent.specs.Beside.{AreBelow, AreBitsBeside, AreFrom, AreRead, Away, HasNotesBeside, IsBitRead, IsPlacedBeside, IsPutDigest, StandsBeside}
use Rattle.data_agent.specs.Members.{HaveSameMembers}
use Rattle.data_agent.specs.Standing.{AreClosed, HasNotes, IsBitsDigest, IsKeeping, IsPlaced, StandsFor, put_page, standing, digest_of}
use Rattle.data_agent.proofs.Counts.{fill_most}
use Rattle.data_agent.proofs.Keeping.{all_marked}
use Rattle.data_agent.proofs.Minding.{next_minded}
use Rattle.data_agent.proofs.SameMembers.{marked_members, page_marks}

-- ---- the keeper that took the passes in

gathered_duties : (k : Held) (ps : List PassHeld) → (gathered_all k ps).view.duties ≡ record k.view.duties { out = (gathered_all k ps).view.duties.out }
gathered_duties k [] = refl
gathered_duties k (p ∷ ps) = gathered_duties (gathered_held k p.entries) ps

gathered_role : (k : Held) (ps : List PassHeld) → (gathered_all k ps).view.role ≡ k.view.role
gathered_role k [] = refl
gathered_role k (p ∷ ps) = gathered_role (gathered_held k p.entries) ps

pub gathered_home : (k : Held) (ps : List PassHeld) → (gathered_all k ps).table ≡ k.table
gathered_home k [] = refl
gathered_home k (p ∷ ps) = gathered_home (gathered_held k p.entries) ps

-- no entry of a pass is below its floor
from_since : (since : ℕ) (ps : List PassHeld) → AreFrom since ps → All (λ (p : PassHeld). IsRising p.floor p.entries) ps → (entry : Entry) → Contains (flat_map (λ (p : PassHeld). p.entries) ps) entry → since ≤ entry.page.number
from_since since ps from rise entry has =
    let piece = from_flat_map (λ (p : PassHeld). p.entries) ps entry has in
    let pass : PassHeld = piece.of in
    let (i, lt, is) = piece.has in
    let (j, within, at) = piece.in_piece in
    let low : since ≤ pass.floor = subst (λ (p : PassHeld). since ≤ p.floor) is (from i pass lt) in
    let rises : IsRising pass.floor pass.entries = subst (λ (p : PassHeld). IsRising p.floor p.entries) is (rise i pass lt) in
    let high : pass.floor ≤ entry.page.number = rises.from_floor j entry (at_place pass.entries j entry within ∙ ap (λ (e : Entry). some e) at) in
    omega arith

-- no entry of a pass is in this page or behind it
below_each : (page : ℕ) (ps : List PassHeld) → All (λ (p : PassHeld). AreBelow page p.entries) ps → AreBelow page (flat_map (λ (p : PassHeld). p.entries) ps)
below_each page ps below entry has =
    let piece = from_flat_map (λ (p : PassHeld). p.entries) ps entry has in
    let pass : PassHeld = piece.of in
    let (i, lt, is) = piece.has in
    let all : AreBelow page pass.entries = subst (λ (p : PassHeld). AreBelow page p.entries) is (below i pass lt) in
    all entry piece.in_piece

-- ---- the agent

module _ (old : Agent) (k : Held) (ps : List PassHeld) (rules : Rules) (l : Ledger) (u : Unfinished) (away : Away) (s : StandsBeside old rules l u away) (is : k ≡ gathered_all old.keeper ps)
    (entries : k.view.entries ≡ old.keeper.view.entries ++ flat_map (λ (p : PassHeld). p.entries) ps) (alone : WasAlone (shape_of rules l.account.router) k.view)
    (rise : All (λ (p : PassHeld). IsRising p.floor p.entries) ps) (from : AreFrom away.since ps) (es : List Entry)
    (members : HaveSameMembers es (l.account.entries ++ flat_map (λ (p : PassHeld). p.entries) ps)) where
  abbrev shape : PageShape
  shape = shape_of rules l.account.router

  abbrev more : List Entry
  more = flat_map (λ (p : PassHeld). p.entries) ps

  abbrev before : Duties
  before = old.keeper.view.duties

  abbrev b : Account
  b = record l.account { entries = es }

  abbrev last : ℕ
  last = length l.account.closings

  duties : k.view.duties ≡ record before { out = k.view.duties.out }
  duties = subst (λ (h : Held). h.view.duties ≡ record before { out = h.view.duties.out }) (sym is) (gathered_duties old.keeper ps)

  has_same : HaveSameMembers k.view.entries es
  has_same entry = (
    λ has. (members entry).1 (⊎_elim
        (λ mine. Contains-append_left l.account.entries more entry ((s.pages.has entry).0 mine))
        (λ theirs. Contains-append_right l.account.entries more entry theirs)
        (Contains-append_cases old.keeper.view.entries more entry (subst (λ (xs : List Entry). Contains xs entry) entries has))),
    λ has. subst (λ (xs : List Entry). Contains xs entry) (sym entries) (⊎_elim
        (λ mine. Contains-append_left old.keeper.view.entries more entry ((s.pages.has entry).1 mine))
        (λ theirs. Contains-append_right old.keeper.view.entries more entry theirs)
        (Contains-append_cases l.account.entries more entry ((members entry).0 has))),
  )

  next_is : k.view.duties.next ≡ last + 1
  next_is = ap (λ (d : Duties). d.next) duties ∙ next_minded shape old.keeper (standing old) last s.pages.minding

  entered_then : All (λ entry. entry.page.number ≤ last) es
  entered_then i d lt =
      let entry = get_or es i d in
      let (j, within, at) = (has_same entry).1 (i, lt, get_or_default es i entry d lt) in
      let below = alone.1.whole.below j entry (at_place k.view.entries j entry within ∙ ap (λ (e : Entry). some e) at) in
      omega (arith, next_is)

  -- a page that was closed when the passes were dealt has the marks that it had
  set_before : (page : ℕ) → page < away.since → page_set rules b page ≡ page_set rules l.account page
  set_before page lt = page_marks shape es l.account.entries page (λ entry at. (
    λ has. ⊎_elim (λ mine. mine) (λ theirs. absurd (let f = from_since away.since ps from rise entry theirs in omega arith)) (Contains-append_cases l.account.entries more entry ((members entry).0 has)),
    λ has. (members entry).1 (Contains-append_left l.account.entries more entry has),
  ))

  -- where no pass recorded in the open page it has the marks that it had
  set_open : AreBelow last more → page_set rules b last ≡ page_set rules l.account last
  set_open below = page_marks shape es l.account.entries last (λ entry at. (
    λ has. ⊎_elim (λ mine. mine) (λ theirs. absurd (let f = below entry theirs in omega arith)) (Contains-append_cases l.account.entries more entry ((members entry).0 has)),
    λ has. (members entry).1 (Contains-append_left l.account.entries more entry has),
  ))

  filled_then : (marked : ℕ) → (marked ≡ 2 ^ 32 - 1) ⊎ ((marked ≡ old.marked) × All (λ (p : PassHeld). AreBelow old.page.number p.entries) ps) → fill rules b last ≤ marked
  filled_then marked = ⊎_elim
      (λ most. let few : fill rules b last ≤ 2 ^ N_MOST = fill_most rules b last s.pages.ranges.n_most in omega arith)
      (λ (same, below).
      let low : AreBelow last more = subst (λ (n : ℕ). AreBelow n more) s.pages.page (below_each old.page.number ps below) in
      let fill_same : fill rules b last ≡ fill rules l.account last = ap (λ (set : PageSet). length set.members) (set_open low) in
      let bound = s.pages.marked in
      omega arith)

  -- a collected page is below the next page
  collected_below : (page : ℕ) → IsCollected shape before page → page < k.view.duties.next
  collected_below page has =
      let fits = s.pages.minding.fits in
      let one = fits.one_list in
      let some = fits.taken_short 0 (lit< tt) in
      let same : k.view.duties.next ≡ before.next = ap (λ (d : Duties). d.next) duties in
      ⊎_elim (λ lt. (let g : page < k.view.duties.next = omega arith in g))
      (λ past. let none : length (collected_of before page) ≡ 0 = ap length (get_or_past before.collected page [] past) in absurd (omega arith))
      (cases_lt page (length before.collected))

  collected_marks : (page : ℕ) → IsCollected shape before page → (p : ℕ) → p < size shape → (bit_in (collected_of before page) p ≡ 1) ↔ IsMarked shape k.view.entries page p
  collected_marks page has p small =
      let same : collected_of k.view.duties page ≡ collected_of before page = ap (λ (d : Duties). collected_of d page) duties in
      subst (λ (words : List ℕ). (bit_in words p ≡ 1) ↔ IsMarked shape k.view.entries page p) same
      (alone.1.whole.collected page (collected_below page has) (ap length same ∙ has) p small)

  -- all bits that were known are the page's bits
  known_is : (page : ℕ) (set : PageSet) → AreBitsBeside rules l.account before away.since page set → set ≡ page_set rules b page
  known_is page set = ⊎_elim
      (λ (lt, is). is ∙ sym (set_before page lt))
      (λ (has, is). is ∙ bits_set shape k.view.entries page (collected_of before page) s.pages.ranges has (collected_marks page has) ∙ marked_members shape k.view.entries es page has_same)

  pub put_gathered : ArePageBits rules b u
  put_gathered x has = ap (λ (set : PageSet). set.members) (known_is x.page (record { n = rules.n; members = x.bits }) (s.put x has))

  -- ---- each mark that was read as set is one of an entry

  mark_read : (page at : ℕ) → at < size shape → IsBitRead shape before page at → IsMarked shape k.view.entries page at
  mark_read page at small = ⊎_elim
      (λ (has, one). (collected_marks page has at small).0 one)
      (λ (x, has, there, place, set).
      let (i, within, found) = subst (λ (xs : List Probed). Contains xs x) (sym (ap (λ (d : Duties). d.probes) duties)) has in
      let marked = alone.1.probed i x (at_place k.view.duties.probes i x within ∙ ap (λ (y : Probed). some y) found) set in
      subst (λ (p : ℕ). IsMarked shape k.view.entries page p) place (subst (λ (g : ℕ). IsMarked shape k.view.entries g x.at) there marked))

  shape_is : shape_of old.rules old.router.number ≡ shape
  shape_is = ap (λ (r : Rules). shape_of r old.router.number) s.pages.rules_are ∙ ap (λ (n : ℕ). shape_of rules n) s.pages.router

  pub shown_gathered : (page : ℕ) (sig : Sig) → AreRead old page sig → shows rules b sig page ≡ true
  shown_gathered page sig read =
      let all : (i : ℕ) → i < shape.k → IsBitRead shape before page (position shape page sig i) =
      subst (λ (x : PageShape). (i : ℕ) → i < x.k → IsBitRead x before page (position x page sig i)) shape_is read in
      let marks : HaveAllMarks shape k.view.entries page sig = λ i lt. mark_read page (position shape page sig i) (position_below shape page sig i s.pages.ranges) (all i lt) in
      ap (λ (set : PageSet). are_in set.members (marks_of shape page sig)) (sym (marked_members shape k.view.entries es page has_same))
      ∙ (all_marked shape k.view.entries page sig).0 marks

  -- ---- and the agent stands for the ledger

  keeping_then : k.view.duties.out ≡ 0 → IsKeeping shape k es (standing old) last
  keeping_then none =
      let m = s.pages.minding in
      record {
        role = ap (λ (h : Held). h.view.role) is ∙ gathered_role old.keeper ps ∙ m.role;
        alone = none;
        has = has_same;
        fits = subst (SlotsFit shape) (sym duties) (same_slots shape before before.dealt k.view.duties.out m.fits);
        has_open = subst HasOpen (sym duties) m.has_open;
        open_is = ap page_open duties ∙ m.open_is;
        order = m.order;
        stand = λ page low high. subst (λ (d : Duties). IsWaiting d page) (sym duties) (m.stand page low high);
        only = λ page w. m.only page (subst (λ (d : Duties). IsWaiting d page) duties w);
      }

  place_then : (page : ℕ) (put : Bool) (w : Whereabouts) → IsPlacedBeside rules l.account before away.since page put w → IsPlaced rules b page put w
  place_then page put (InMemory r) (unput, is) = (unput, record { family = is.family; page_is = known_is page r.page is.bits })
  place_then page put (OnShelf g) (is_put, lt, is) = (
    is_put,
    record {
      bits = is.bits ∙ ap (λ (set : PageSet). sha256 (bits_text rules l.account page set.members)) (sym (set_before page lt));
      rows = is.rows;
    },
  )

  closed_then : AreClosed rules (record l { account = b }) old.catalogue.gone old.closed.items
  closed_then i c lt =
      let page = old.catalogue.gone + i in
      let is = s.closed i c lt in
      record { covered = is.covered; placed = place_then page (is_in l.put_before page) (get_or old.closed.items i c).place is.placed }

  digest_then : (page : ℕ) (digest : Option (List ℕ)) → IsPutDigest rules l.account u page digest → IsBitsDigest rules b page digest × (is_some digest ≡ true → Contains (map put_page u.bits_put) page)
  digest_then page None is = (tt, λ e. absurd (false≢true e))
  digest_then page (Some d) (x, has, at, is) = (
    is ∙ ap (λ (xs : List ℕ). sha256 (bits_text rules l.account page xs)) (put_gathered x has ∙ ap (bits rules b) at),
    λ e. subst (Contains (map put_page u.bits_put)) at (into_map put_page u.bits_put x has),
  )

  notes_then : (at : Option (List ℕ)) (noted : Option (Vec Note Global)) → HasNotesBeside rules l u at noted → HasNotes rules (record l { account = b }) u at noted
  notes_then None None h = h
  notes_then None (Some notes) h = h
  notes_then (Some closings) None h = h
  notes_then (Some closings) (Some notes) h = record {
    closed = h.closed;
    covers = h.covers;
    rising = h.rising;
    each = λ note has. let t = digest_then note.page.number (digest_of note.bits) (h.each note has) in record { digest = t.0; put = t.1 };
    refused = h.refused;
  }

  pub gathered_stands : (marked : ℕ) → (marked ≡ 2 ^ 32 - 1) ⊎ ((marked ≡ old.marked) × All (λ (p : PassHeld). AreBelow old.page.number p.entries) ps) → k.view.duties.out ≡ 0
      → StandsFor (record old { keeper = k; marked = marked; copied = None }) rules (record l { account = b }) u
  gathered_stands marked bound none =
      let p = s.pages in
      record {
        amid = record {
          pages = record {
            ranges = p.ranges;
            router_fits = p.router_fits;
            rules_are = p.rules_are;
            router = p.router;
            by_rules = p.by_rules;
            closings = p.closings;
            times = p.times;
            few = p.few;
            page = p.page;
            entered = entered_then;
            marked = filled_then marked bound;
            keeping = keeping_then none;
          };
          closed = closed_then;
          to_come = λ page le. let x = s.to_come page le in record { unput = x.unput; uncovered = x.uncovered };
          rows = record { table = s.rows.table; spelled = s.rows.spelled };
          expired = s.expired;
          clock = s.clock;
        };
        noted = notes_then l.closed_at_archive old.noted s.noted;
      }
