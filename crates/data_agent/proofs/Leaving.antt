-- What stays of an agent while its keeper settles and collects pages, with passes out or not.
use Rattle.std.proofs.Common.{ℕ, ◌≡◌, ◌≤◌, ◌<◌, ◌+◌, ◌-◌, ◌^◌, ◌∙◌, ◌∷◌, [], ◌++◌, ◌⊎◌, false, length, None, sym, ap, subst, refl, inl, inr, arith}
use Rattle.std.specs.List.{Contains}
use Rattle.spie_base.specs.Shapes.{AreInRange, shape_of}
use Rattle.spie_base.specs.declared.PageNo.{PageNo}
use Rattle.spie_base.specs.declared.PageShape.{PageShape}
use Rattle.spie_base.specs.declared.Rules.{Rules}
use Rattle.hash_family.specs.Entries.{IsMarked}
use Rattle.hash_family.specs.Positions.{family_of}
use Rattle.gate_core.specs.Invariant.{HasPage, IsCollected}
use Rattle.gate_core.specs.Marks.{size}
use Rattle.page_catalogue.specs.Catalogues.{Catalogued}
use Rattle.page_gate.specs.Held.{Held, PlaneId}
use Rattle.page_gate.specs.Pages.{collected_page, phase_with}
use Rattle.page_gate.specs.Probes.{marked_set}
use Rattle.router_account.specs.Account.{Account}
use Rattle.router_account.specs.Ledger.{Ledger, Unfinished}
use Rattle.data_agent.specs.declared.agent.Agent.{Agent}
use Rattle.data_agent.specs.declared.closed_page.ClosedPage.{ClosedPage}
use Rattle.data_agent.specs.declared.closed_page.Whereabouts.TheVariants.{InMemory}
use Rattle.data_agent.specs.declared.resident.Resident.{Resident}
use Rattle.data_agent.specs.Archiving.{KeepsStanding, KnowsPages}
use Rattle.data_agent.specs.Beside.{Away, IsMinding, KeepsWords, MindsPages, StandsBeside, meaning_beside, out_of}
use Rattle.data_agent.specs.Calls.{MayNote}
use Rattle.data_agent.specs.Planes.{AreTaken, IsOwnPlane}
use Rattle.data_agent.specs.Probing.{StandsInSlot}
use Rattle.data_agent.specs.Residents.{IsResident}
use Rattle.data_agent.specs.Standing.{HasPages, IsKeeping, StandsAmid, StandsFor, StandsWhole, StillStands, standing}
use Rattle.data_agent.proofs.Besides.{IsBesideSame, beside_kept, beside_taken, minding_by, minding_taken, own_minding, reads_own, reads_then, resident_taken, words_by}
use Rattle.data_agent.proofs.Alike.{none_noted}
use Rattle.data_agent.proofs.CoveringBeside.{knows_beside, none_noted_beside}
use Rattle.data_agent.proofs.Minding.{minded_stands}
use Rattle.data_agent.proofs.Keeping.{keeping_of, minding_of}
use Rattle.data_agent.proofs.Kept.{knows_of, whole_of}
use Rattle.data_agent.proofs.Planes.{for_same, own_shape, resident_of, rest_then}
use Rattle.data_agent.proofs.SameMembers.{marked_members}
use Rattle.data_agent.proofs.Staying.{amid_then, taken_in}

-- ---- the keeper minds the pages of an agent that stands for a ledger

minds_as : (agent : Agent) (rules : Rules) (router last : ℕ) → agent.rules ≡ rules → agent.router.number ≡ router → agent.page.number ≡ last → last < 2 ^ 32 - 1 → AreInRange rules.k rules.n
    → IsMinding (shape_of rules router) agent.keeper (standing agent) last → MindsPages agent
minds_as agent rules router last same_rules same_router page few ranges m =
    let shape : shape_of agent.rules agent.router.number ≡ shape_of rules router = ap (λ (r : Rules). shape_of r agent.router.number) same_rules ∙ ap (λ (n : ℕ). shape_of rules n) same_router in
    record {
      ranges = subst (λ (r : Rules). AreInRange r.k r.n) (sym same_rules) ranges;
      minding = subst (λ (x : PageShape). IsMinding x agent.keeper (standing agent) agent.page.number) (sym shape)
          (subst (λ (n : ℕ). IsMinding (shape_of rules router) agent.keeper (standing agent) n) (sym page) m);
      few = omega arith;
    }

pub minds_beside : (agent : Agent) (rules : Rules) (l : Ledger) (u : Unfinished) (away : Away) → StandsBeside agent rules l u away → MindsPages agent
minds_beside agent rules l u away s =
    minds_as agent rules l.account.router (length l.account.closings) s.pages.rules_are s.pages.router s.pages.page s.pages.few s.pages.ranges s.pages.minding

pub minds_amid : (agent : Agent) (rules : Rules) (l : Ledger) → StandsAmid agent rules l → MindsPages agent
minds_amid agent rules l s =
    minds_as agent rules l.account.router (length l.account.closings) s.pages.rules_are s.pages.router s.pages.page s.pages.few s.pages.ranges
    (minding_of (shape_of rules l.account.router) agent.keeper l.account.entries (standing agent) (length l.account.closings) s.pages.keeping)

-- by the agent's own plane
pub minds_own : (plane : PlaneId) (agent : Agent) → IsOwnPlane plane agent → MindsPages agent → IsMinding plane.shape agent.keeper (standing agent) agent.page.number
minds_own plane agent own m = subst (λ (x : PageShape). IsMinding x agent.keeper (standing agent) agent.page.number) (sym own.shape) m.minding

pub minds_at : (plane : PlaneId) (agent : Agent) (page : ℕ) → IsOwnPlane plane agent → MindsPages agent → page ≡ standing agent → IsMinding plane.shape agent.keeper page agent.page.number
minds_at plane agent page own m at = subst (λ (n : ℕ). IsMinding plane.shape agent.keeper n agent.page.number) (sym at) (minds_own plane agent own m)

-- and so does the keeper after it settled or collected a page
pub minds_then : (plane : PlaneId) (old new : Agent) (first : ℕ) → IsOwnPlane plane old → MindsPages old → new.rules ≡ old.rules → new.router ≡ old.router → new.page ≡ old.page → first ≡ standing new
    → IsMinding plane.shape new.keeper first old.page.number → MindsPages new
minds_then plane old new first own m rules router page here minding =
    let number : new.page.number ≡ old.page.number = ap (λ (p : PageNo). p.number) page in
    let shape : plane.shape ≡ shape_of new.rules new.router.number = own.shape ∙ ap (λ (r : Rules). shape_of r old.router.number) (sym rules) ∙ ap (λ r. shape_of new.rules r.number) (sym router) in
    let few = m.few in
    record {
      ranges = subst (λ (r : Rules). AreInRange r.k r.n) (sym rules) m.ranges;
      minding = subst (λ (x : PageShape). IsMinding x new.keeper (standing new) new.page.number) shape
          (subst (λ (n : ℕ). IsMinding plane.shape new.keeper (standing new) n) (sym number) (subst (λ (n : ℕ). IsMinding plane.shape new.keeper n old.page.number) here minding));
      few = omega arith;
    }

-- ---- one call behind the other

pub keeps_same : (agent : Agent) → KeepsStanding agent agent
keeps_same agent = record {
  rest = record { catalogue = refl; page = refl; noted = refl; entries = refl };
  amid = λ rules l s. s;
  beside = λ rules l u away s. s;
  reads = λ page sig read. read;
}

pub keeps_then : (a b c : Agent) → KeepsStanding a b → KeepsStanding b c → KeepsStanding a c
keeps_then a b c x y = record {
  rest = rest_then a b c x.rest y.rest;
  amid = λ rules l s. y.amid rules l (x.amid rules l s);
  beside = λ rules l u away s. y.beside rules l u away (x.beside rules l u away s);
  reads = reads_then a b c x.reads y.reads;
}

-- ---- one call

-- all but the keeper and the collected pages is as it was
pub record IsCollecting (old new : Agent) : Type 0 where
  pub rules : new.rules ≡ old.rules
  pub router : new.router ≡ old.router
  pub page : new.page ≡ old.page
  pub catalogue : new.catalogue ≡ old.catalogue
  pub table : new.table ≡ old.table
  pub noted : new.noted ≡ old.noted
  pub marked : new.marked ≡ old.marked

-- a keeper that keeps its entries still has those of the account
pub keeps_pages : (plane : PlaneId) (old : Agent) (keeper : Held) (rules : Rules) (a : Account) (first last : ℕ) → IsOwnPlane plane old → HasPages old rules a → KeepsWords plane.shape old.keeper keeper
    → (IsMinding plane.shape old.keeper (standing old) (length a.closings) → IsMinding plane.shape keeper first last) → IsKeeping (shape_of rules a.router) keeper a.entries first last
keeps_pages plane old keeper rules a first last own p words minding =
    let shape : plane.shape ≡ shape_of rules a.router = own_shape plane old rules a own p in
    let before : IsMinding plane.shape old.keeper (standing old) (length a.closings) =
    subst (λ (x : PageShape). IsMinding x old.keeper (standing old) (length a.closings)) (sym shape) (minding_of (shape_of rules a.router) old.keeper a.entries (standing old) (length a.closings) p.keeping) in
    keeping_of (shape_of rules a.router) old.keeper keeper a.entries (standing old) (length a.closings) first last p.keeping words.entries words.out
    (subst (λ (x : PageShape). IsMinding x keeper first last) shape (minding before))

module _ (plane : PlaneId) (old new : Agent) (own : IsOwnPlane plane old) (same : IsCollecting old new) (words : KeepsWords plane.shape old.keeper new.keeper) where
  beside_same : IsBesideSame old new
  beside_same = record {
    rules = same.rules;
    router = same.router;
    page = same.page;
    by_rules = ap (λ (c : Catalogued). c.rules) same.catalogue;
    closings = ap (λ (c : Catalogued). c.closings) same.catalogue;
    gone = ap (λ (c : Catalogued). c.gone) same.catalogue;
    clock = ap (λ (c : Catalogued). c.clock) same.catalogue;
    table = same.table;
    noted = same.noted;
  }

  -- no page was collected
  pub keeps_settled : new.closed.items ≡ old.closed.items → ((first last : ℕ) → IsMinding plane.shape old.keeper first last → IsMinding plane.shape new.keeper first last) → KeepsStanding old new
  keeps_settled items minding = record {
    rest = record { catalogue = same.catalogue; page = same.page; noted = same.noted; entries = words.entries };
    amid = λ rules l s.
        amid_then old new rules l s same.rules same.router same.page same.marked items same.catalogue same.table
        (λ k. keeps_pages plane old new.keeper rules l.account _ _ own s.pages words (minding (standing old) (length l.account.closings)));
    beside = λ rules l u away s.
        beside_kept old new rules l u away beside_same same.marked s (words_by plane old rules l u away own s new.keeper words) items
        (minding_by plane old rules l u away own s new.keeper (standing old) (length l.account.closings) (minding (standing old) (length l.account.closings) (own_minding plane old rules l u away own s)));
    reads = reads_own plane old new own same.rules same.router words;
  }

  -- the page that stood in a slot longest was
  pub keeps_collected : (page : ℕ) (r : Resident) → page ≡ standing old → standing old < old.page.number
      → new.closed.items ≡ old.closed.items ++ (let c : ClosedPage = record { place = InMemory r; covered = false } in c) ∷ []
      → r.family.value ≡ family_of (shape_of old.rules old.router.number) page → IsCollected plane.shape new.keeper.view.duties page → r.page ≡ collected_page plane.shape new.keeper.view.duties page
      → ((at : ℕ) → at < size plane.shape → IsMarked plane.shape old.keeper.view.entries page at → Contains r.page.members at)
      → (out_of old ≡ 0 → r.page ≡ marked_set plane.shape old.keeper.view.entries page)
      → ((last : ℕ) → IsMinding plane.shape old.keeper page last → IsMinding plane.shape new.keeper (page + 1) last) → KeepsStanding old new
  keeps_collected page r at lt items family has is gathered alone taken = record {
    rest = record { catalogue = same.catalogue; page = same.page; noted = same.noted; entries = words.entries };
    amid = λ rules l s.
        let last : ℕ = length l.account.closings in
        taken_in old new rules l r s same.rules same.router same.page same.marked same.catalogue same.table items
        (subst (λ (n : ℕ). IsResident rules l.account n r) at (resident_of plane old rules l.account page r own s.pages family
        (alone s.pages.keeping.alone ∙ marked_members plane.shape old.keeper.view.entries l.account.entries page s.pages.keeping.has)))
        (keeps_pages plane old new.keeper rules l.account _ _ own s.pages words
        (λ m. subst (λ (n : ℕ). IsMinding plane.shape new.keeper (n + 1) last) at (taken last (subst (λ (n : ℕ). IsMinding plane.shape old.keeper n last) (sym at) m))));
    beside = λ rules l u away s.
        let end = s.pages.page in
        beside_taken old new rules l u away beside_same same.marked s (words_by plane old rules l u away own s new.keeper words) r (omega arith) items
        (resident_taken plane old rules l u away own s page at new.keeper r family has is gathered) (minding_taken plane old rules l u away own s page at new.keeper taken);
    reads = reads_own plane old new own same.rules same.router words;
  }

-- ---- an agent that stands for a ledger with no pass out

pub none_out : (agent : Agent) (rules : Rules) (l : Ledger) → StandsAmid agent rules l → out_of agent ≡ 0
none_out agent rules l s = s.pages.keeping.alone

pub for_kept : (old new : Agent) → KeepsStanding old new → StillStands old new
for_kept old new keeps = for_same old new keeps.rest keeps.amid

pub whole_kept : (old new : Agent) → KeepsStanding old new → (out_of old ≡ 0 → AreTaken new) → (rules : Rules) (l : Ledger) (u : Unfinished) → StandsFor old rules l u → StandsWhole new rules l u
whole_kept old new keeps taken rules l u s = whole_of new rules l u (taken (none_out old rules l s.amid)) (for_kept old new keeps rules l u s)

-- ---- an archival behind it

-- an agent whose segment had no archival, with passes out or not
abbrev MayNoteAnyhow : Agent → Type 0
MayNoteAnyhow agent = MayNote (StandsFor agent) ⊎ ((away : Away) × MayNote (meaning_beside agent away))

pub minds_note : (agent : Agent) → MayNoteAnyhow agent → MindsPages agent
minds_note agent (inl (rules, l, u, s, none)) = minds_amid agent rules l s.amid
minds_note agent (inr (away, (rules, l, u, s, none))) = minds_beside agent rules l u away s

pub may_note : (old new : Agent) → KeepsStanding old new → MayNoteAnyhow old → (new.noted ≡ None) × ((rules : Rules) × (l : Ledger) × KnowsPages new rules l)
may_note old new keeps (inl (rules, l, u, s, none)) =
    let t = for_kept old new keeps rules l u s in
    (none_noted rules l u l.closed_at_archive new.noted t.noted none, (rules, l, knows_of new rules l t.amid))
may_note old new keeps (inr (away, (rules, l, u, s, none))) =
    let t = keeps.beside rules l u away s in
    (none_noted_beside rules l u l.closed_at_archive new.noted t.noted none, (rules, l, knows_beside new rules l u away t))

-- a page that was not collected stands in a slot
pub in_slot : (agent new : Agent) (page : ℕ) → new.keeper ≡ agent.keeper → MindsPages agent → standing agent ≤ page → page < agent.page.number → StandsInSlot new page
in_slot agent new page same m from to =
    subst (λ (keeper : Held). HasPage (phase_with keeper.view.duties page)) (sym same)
    (minded_stands (shape_of agent.rules agent.router.number) agent.keeper (standing agent) agent.page.number m.minding page from (omega arith))
