-- What an agent stands for beside passes stays as its keeper settles, collects and opens pages.
use Rattle.std.proofs.Common.{ℕ, Bool, false, length-append, ◌≡◌, ◌≤◌, ◌<◌, ◌+◌, ◌∙◌, ◌∷◌, [], ◌++◌, List, length, get_or, sym, ap, subst, inl, inr, arith, ⊎_elim}
use Rattle.std.specs.List.{Contains}
use Rattle.std.proofs.lemmas.Bool.{cases_lt}
use Rattle.spie_base.specs.declared.Entry.{Entry}
use Rattle.data_agent.specs.Members.{HaveSameMembers}
use Rattle.std.proofs.lemmas.List.{get_or_append_left, get_or_push}
use Rattle.spie_base.specs.Shapes.{shape_of}
use Rattle.spie_base.specs.declared.PageShape.{PageShape}
use Rattle.spie_base.specs.declared.Rules.{Rules}
use Rattle.spie_base.specs.declared.Sig.{Sig}
use Rattle.bloom_page.specs.Bits.{bit_in, members_of}
use Rattle.bloom_page.specs.Sets.{PageSet, is_in}
use Rattle.hash_family.specs.Entries.{IsMarked}
use Rattle.hash_family.specs.Positions.{family_of, position}
use Rattle.gate_core.specs.declared.view.Duties.{Duties}
use Rattle.gate_core.specs.declared.view.Probed.{Probed}
use Rattle.gate_core.specs.Invariant.{IsCollected}
use Rattle.gate_core.specs.Marks.{size}
use Rattle.gate_core.specs.Views.{collected_of}
use Rattle.page_catalogue.specs.Catalogues.{AreExpired}
use Rattle.page_gate.specs.Held.{Held, PlaneId}
use Rattle.page_gate.specs.Pages.{collected_page}
use Rattle.transform_table.specs.Tables.{rows_of_page}
use Rattle.router_account.specs.Ledger.{Ledger, Unfinished}
use Rattle.data_agent.specs.declared.agent.Agent.{Agent}
use Rattle.data_agent.specs.declared.closed_page.ClosedPage.{ClosedPage}
use Rattle.data_agent.specs.declared.closed_page.Whereabouts.{Whereabouts}
use Rattle.data_agent.specs.declared.closed_page.Whereabouts.TheVariants.{InMemory, OnShelf}
use Rattle.data_agent.specs.declared.resident.Resident.{Resident}
use Rattle.data_agent.specs.Beside.{AreBitsBeside, AreClosedBeside, ArePutBeside, Away, HasNotesBeside, IsBitRead, IsClosedBeside, IsMinding, IsPlacedBeside, IsResidentBeside, KeepsReads, KeepsWords, StandsBeside}
use Rattle.data_agent.specs.Planes.{IsOwnPlane}
use Rattle.data_agent.proofs.SameMembers.{mark_below, marked_by, members_back}
use Rattle.data_agent.specs.Standing.{IsClock, rows_kept, standing}

-- ---- bits of pages, as they are known

module _ (d e : Duties) where
  module _ (rules : Rules) (l : Ledger) (since : ℕ) (kept : (page : ℕ) → IsCollected (shape_of rules l.account.router) d page → collected_of e page ≡ collected_of d page) where
    pub bits_known : (page : ℕ) (set : PageSet) → AreBitsBeside rules l.account d since page set → AreBitsBeside rules l.account e since page set
    bits_known page set = ⊎_elim
        (λ known. inl known)
        (λ (has, is). let same = kept page has in inr (ap length same ∙ has, is ∙ sym (ap (λ (words : List ℕ). let s : PageSet = record { n = rules.n; members = members_of words } in s) same)))

    place_known : (page : ℕ) (put : Bool) (w : Whereabouts) → IsPlacedBeside rules l.account d since page put w → IsPlacedBeside rules l.account e since page put w
    place_known page put (InMemory r) (unput, is) = (unput, record { family = is.family; bits = bits_known page r.page is.bits; gathered = is.gathered })
    place_known page put (OnShelf g) is = is

    pub closed_known : (first : ℕ) (pages : List ClosedPage) → AreClosedBeside rules l d since first pages → AreClosedBeside rules l e since first pages
    closed_known first pages each i c lt =
        let is = each i c lt in
        record { covered = is.covered; placed = place_known (first + i) (is_in l.put_before (first + i)) (get_or pages i c).place is.placed }

    pub put_known : (u : Unfinished) → ArePutBeside rules l.account d since u → ArePutBeside rules l.account e since u
    put_known u each x has = bits_known x.page (record { n = rules.n; members = x.bits }) (each x has)

  -- what was read of marks
  read_known : (shape : PageShape) → ((page : ℕ) → IsCollected shape d page → collected_of e page ≡ collected_of d page) → e.probes ≡ d.probes
      → (page at : ℕ) → IsBitRead shape d page at → IsBitRead shape e page at
  read_known shape kept probes page at = ⊎_elim
      (λ (has, is). let same = kept page has in inl (ap length same ∙ has, ap (λ (words : List ℕ). bit_in words at) same ∙ is))
      (λ (x, has, there, place, set). inr (x, subst (λ (xs : List Probed). Contains xs x) (sym probes) has, there, place, set))

AreReadBy : PageShape → Duties → (page : ℕ) → Sig → Type 0
AreReadBy shape d page sig = (i : ℕ) → i < shape.k → IsBitRead shape d page (position shape page sig i)

pub reads_kept : (old new : Agent) → new.rules ≡ old.rules → new.router ≡ old.router → KeepsWords (shape_of old.rules old.router.number) old.keeper new.keeper → KeepsReads old new
unfolding AreReadBy
reads_kept old new rules router words page sig read =
    let shape : PageShape = shape_of old.rules old.router.number in
    let same : shape ≡ shape_of new.rules new.router.number = ap (λ (r : Rules). shape_of r old.router.number) (sym rules) ∙ ap (λ r. shape_of new.rules r.number) (sym router) in
    let there : AreReadBy shape new.keeper.view.duties page sig = λ i lt. read_known old.keeper.view.duties new.keeper.view.duties shape words.collected words.probes page (position shape page sig i) (read i lt) in
    subst (λ (x : PageShape). AreReadBy x new.keeper.view.duties page sig) same there

pub reads_then : (a b c : Agent) → KeepsReads a b → KeepsReads b c → KeepsReads a c
reads_then a b c x y page sig read = y page sig (x page sig read)

-- ---- the agent's own plane

module _ (plane : PlaneId) (agent : Agent) (rules : Rules) (l : Ledger) (u : Unfinished) (away : Away) (own : IsOwnPlane plane agent) (s : StandsBeside agent rules l u away) where
  pub own_beside : plane.shape ≡ shape_of rules l.account.router
  own_beside = own.shape ∙ ap (λ (r : Rules). shape_of r agent.router.number) s.pages.rules_are ∙ ap (λ (n : ℕ). shape_of rules n) s.pages.router

  pub own_minding : IsMinding plane.shape agent.keeper (standing agent) (length l.account.closings)
  own_minding = subst (λ (shape : PageShape). IsMinding shape agent.keeper (standing agent) (length l.account.closings)) (sym own_beside) s.pages.minding

  pub minding_by : (keeper : Held) (first last : ℕ) → IsMinding plane.shape keeper first last → IsMinding (shape_of rules l.account.router) keeper first last
  minding_by keeper first last = subst (λ (shape : PageShape). IsMinding shape keeper first last) own_beside

  pub words_by : (keeper : Held) → KeepsWords plane.shape agent.keeper keeper → KeepsWords (shape_of rules l.account.router) agent.keeper keeper
  words_by keeper = subst (λ (shape : PageShape). KeepsWords shape agent.keeper keeper) own_beside

  -- the page that stands in a slot longest
  module _ (page : ℕ) (at : page ≡ standing agent) where
    pub minding_at : IsMinding plane.shape agent.keeper page (length l.account.closings)
    minding_at = subst (λ (n : ℕ). IsMinding plane.shape agent.keeper n (length l.account.closings)) (sym at) own_minding

    pub minding_taken : (keeper : Held) → ((last : ℕ) → IsMinding plane.shape agent.keeper page last → IsMinding plane.shape keeper (page + 1) last) → IsMinding (shape_of rules l.account.router) keeper (standing agent + 1) (length l.account.closings)
    minding_taken keeper taken = minding_by keeper (standing agent + 1) (length l.account.closings) (subst (λ (n : ℕ). IsMinding plane.shape keeper (n + 1) (length l.account.closings)) at (taken (length l.account.closings) minding_at))

    pub resident_taken : (keeper : Held) (r : Resident) → r.family.value ≡ family_of (shape_of agent.rules agent.router.number) page → IsCollected plane.shape keeper.view.duties page → r.page ≡ collected_page plane.shape keeper.view.duties page
        → ((at : ℕ) → at < size plane.shape → IsMarked plane.shape agent.keeper.view.entries page at → Contains r.page.members at) → IsResidentBeside rules l.account keeper.view.duties away.since (standing agent) r
    resident_taken keeper r family has is marks = subst (λ (n : ℕ). IsResidentBeside rules l.account keeper.view.duties away.since n r) at (record {
      family = family ∙ ap (λ (x : PageShape). family_of x page) (sym own.shape ∙ own_beside);
      bits = inr (subst (λ (x : PageShape). IsCollected x keeper.view.duties page) own_beside has, is ∙ ap (λ (x : PageShape). collected_page x keeper.view.duties page) own_beside);
      gathered = λ p marked.
          let shape : PageShape = shape_of rules l.account.router in
          let mine : IsMarked shape agent.keeper.view.entries page p = marked_by shape l.account.entries agent.keeper.view.entries page p (members_back agent.keeper.view.entries l.account.entries s.pages.has) marked in
          subst (λ (x : PageShape). (q : ℕ) → q < size x → IsMarked x agent.keeper.view.entries page q → Contains r.page.members q) own_beside marks p (mark_below shape agent.keeper.view.entries page p s.pages.ranges mine) mine;
    })

pub reads_own : (plane : PlaneId) (old new : Agent) → IsOwnPlane plane old → new.rules ≡ old.rules → new.router ≡ old.router → KeepsWords plane.shape old.keeper new.keeper → KeepsReads old new
reads_own plane old new own rules router words = reads_kept old new rules router (subst (λ (shape : PageShape). KeepsWords shape old.keeper new.keeper) own.shape words)

-- ---- the same ledger

-- all that says for which ledger an agent stands is the same, but its keeper, its collected pages and its count of marks
pub record IsBesideSame (old new : Agent) : Type 0 where
  pub rules : new.rules ≡ old.rules
  pub router : new.router ≡ old.router
  pub page : new.page ≡ old.page
  pub by_rules : new.catalogue.rules ≡ old.catalogue.rules
  pub closings : new.catalogue.closings ≡ old.catalogue.closings
  pub gone : new.catalogue.gone ≡ old.catalogue.gone
  pub clock : new.catalogue.clock ≡ old.catalogue.clock
  pub table : new.table ≡ old.table
  pub noted : new.noted ≡ old.noted

more_closed : (rules : Rules) (l : Ledger) (d : Duties) (since first : ℕ) (pages : List ClosedPage) (more : ClosedPage) → AreClosedBeside rules l d since first pages
    → IsClosedBeside rules l d since (first + length pages) more → AreClosedBeside rules l d since first (pages ++ more ∷ [])
more_closed rules l d since first pages more each last i c lt =
    elim (cases_lt i (length pages)) [
      | inl before ↦ subst (λ (b : ClosedPage). IsClosedBeside rules l d since (first + i) b) (sym (get_or_append_left pages (more ∷ []) c i before)) (each i c before)
      | inr behind ↦
          let len : length (pages ++ more ∷ []) ≡ length pages + 1 = length-append pages (more ∷ []) in
          let at : length pages ≡ i = omega arith in
          subst (λ (b : ClosedPage). IsClosedBeside rules l d since (first + i) b) (sym (get_or_push pages more c i at)) (subst (λ n. IsClosedBeside rules l d since (first + n) more) at last)
    ]

module _ (old new : Agent) (rules : Rules) (l : Ledger) (u : Unfinished) (away : Away) (same : IsBesideSame old new) (marked : new.marked ≡ old.marked) (s : StandsBeside old rules l u away)
    (words : KeepsWords (shape_of rules l.account.router) old.keeper new.keeper) where
  pub beside_by : IsMinding (shape_of rules l.account.router) new.keeper (standing new) (length l.account.closings) → standing old ≤ standing new
      → AreClosedBeside rules l new.keeper.view.duties away.since new.catalogue.gone new.closed.items → StandsBeside new rules l u away
  beside_by minding more closed =
      let gone = same.gone in
      let p = s.pages in
      let bound = p.marked in
      record {
        since = s.since;
        pages = record {
          ranges = p.ranges;
          router_fits = p.router_fits;
          rules_are = same.rules ∙ p.rules_are;
          router = ap (λ r. r.number) same.router ∙ p.router;
          by_rules = same.by_rules ∙ p.by_rules;
          closings = same.closings ∙ p.closings;
          times = p.times;
          few = p.few;
          page = ap (λ n. n.number) same.page ∙ p.page;
          entered = p.entered;
          marked = omega arith;
          minding = minding;
          has = subst (λ (es : List Entry). HaveSameMembers es l.account.entries) (sym words.entries) p.has;
          out_is = words.out ∙ p.out_is;
        };
        closed = closed;
        to_come = λ page le. s.to_come page (omega arith);
        rows = record {
          table = λ page. ap (rows_of_page page) same.table ∙ s.rows.table page ∙ ap (λ g. rows_kept g l page) (sym gone);
          spelled = λ page le. s.rows.spelled page (omega arith);
        };
        expired = subst (λ g. AreExpired rules l.closings_then l.clock_then g) (sym gone) s.expired;
        clock = subst (IsClock l) (sym same.clock) s.clock;
        noted = subst (HasNotesBeside rules l u l.closed_at_archive) (sym same.noted) s.noted;
        put = put_known old.keeper.view.duties new.keeper.view.duties rules l away.since words.collected u s.put;
      }

  closed_before : AreClosedBeside rules l new.keeper.view.duties away.since new.catalogue.gone old.closed.items
  closed_before = subst (λ g. AreClosedBeside rules l new.keeper.view.duties away.since g old.closed.items) (sym same.gone)
      (closed_known old.keeper.view.duties new.keeper.view.duties rules l away.since words.collected old.catalogue.gone old.closed.items s.closed)

  -- the keeper alone differs
  pub beside_kept : new.closed.items ≡ old.closed.items → IsMinding (shape_of rules l.account.router) new.keeper (standing old) (length l.account.closings) → StandsBeside new rules l u away
  beside_kept items minding =
      let gone = same.gone in
      let len : length new.closed.items ≡ length old.closed.items = ap length items in
      let here : standing old ≡ standing new = omega arith in
      beside_by (subst (λ (n : ℕ). IsMinding (shape_of rules l.account.router) new.keeper n (length l.account.closings)) here minding) (omega arith)
      (subst (λ xs. AreClosedBeside rules l new.keeper.view.duties away.since new.catalogue.gone xs) (sym items) closed_before)

  -- the page that stood in a slot longest was collected
  pub beside_taken : (r : Resident) → standing old < length l.account.closings → new.closed.items ≡ old.closed.items ++ (let c : ClosedPage = record { place = InMemory r; covered = false } in c) ∷ []
      → IsResidentBeside rules l.account new.keeper.view.duties away.since (standing old) r → IsMinding (shape_of rules l.account.router) new.keeper (standing old + 1) (length l.account.closings) → StandsBeside new rules l u away
  beside_taken r lt items is minding =
      let gone = same.gone in
      let last : ClosedPage = record { place = InMemory r; covered = false } in
      let len : length new.closed.items ≡ length old.closed.items + 1 = ap length items ∙ length-append old.closed.items (last ∷ []) in
      let here : standing old + 1 ≡ standing new = omega arith in
      let none = s.to_come (standing old) (omega arith) in
      let one : IsClosedBeside rules l new.keeper.view.duties away.since (standing old) last = record { covered = sym none.uncovered; placed = (none.unput, is) } in
      let at : standing old ≡ new.catalogue.gone + length old.closed.items = omega arith in
      beside_by (subst (λ (n : ℕ). IsMinding (shape_of rules l.account.router) new.keeper n (length l.account.closings)) here minding) (omega arith)
      (subst (λ xs. AreClosedBeside rules l new.keeper.view.duties away.since new.catalogue.gone xs) (sym items)
      (more_closed rules l new.keeper.view.duties away.since new.catalogue.gone old.closed.items last closed_before (subst (λ (n : ℕ). IsClosedBeside rules l new.keeper.view.duties away.since n last) at one)))
