-- An agent and its plane.
use Rattle.std.proofs.lemmas.Bool.{false≢true}
use Rattle.std.proofs.Common.{is_some, true, ℕ, ◌≡◌, ◌≤◌, ◌∙◌, List, length, Bool, false, not, ◌&&◌, Option, Some, None, sym, ap, subst, refl, inl, inr, arith}
use Rattle.spie_base.specs.Shapes.{shape_of}
use Rattle.spie_base.specs.declared.Entry.{Entry}
use Rattle.spie_base.specs.declared.PageShape.{PageShape}
use Rattle.spie_base.specs.declared.Rules.{Rules}
use Rattle.spie_base.specs.declared.Sig.{Sig}
use Rattle.bloom_page.specs.Sets.{PageSet, are_in, is_in}
use Rattle.hash_family.specs.Positions.{family_of, marks_of}
use Rattle.page_gate.specs.Held.{Held, PlaneId}
use Rattle.page_gate.specs.Probes.{marked_set}
use Rattle.router_account.specs.Account.{Account}
use Rattle.page_shelf.specs.Shelves.{Contents}
use Rattle.router_account.specs.Ledger.{Ledger, Unfinished, at_archive, turned_at}
use Rattle.data_agent.specs.declared.agent.Agent.{Agent}
use Rattle.data_agent.specs.declared.resident.Resident.{Resident}
use Rattle.data_agent.specs.Calls.{IsNoted, Meaning, MayTurn, with_more}
use Rattle.data_agent.specs.Passing.{StandsForSame}
use Rattle.data_agent.proofs.Kept.{for_of}
use Rattle.data_agent.proofs.Passing.{IsCount}
use Rattle.data_agent.specs.Planes.{entries_of, HasCopy, MayCopy, IsCopy, IsOwnPlane, IsPlaneSame, IsRestSame}
use Rattle.data_agent.specs.Residents.{IsResident}
use Rattle.data_agent.specs.Standing.{HasNotes, HasPages, IsKeeping, Stands, StandsAmid, StandsFor, StandsWhole, StillStands, StillWhole, standing}
use Rattle.data_agent.specs.Watching.{shows_now}
use Rattle.data_agent.proofs.SameMembers.{marked_members}
use Rattle.data_agent.proofs.Staying.{amid_then}

-- ---- the agent's own plane

module _ (plane : PlaneId) (agent : Agent) (rules : Rules) (a : Account) (own : IsOwnPlane plane agent) (s : HasPages agent rules a) where
  pub own_shape : plane.shape ≡ shape_of rules a.router
  own_shape = own.shape ∙ ap (λ (r : Rules). shape_of r agent.router.number) s.rules_are ∙ ap (λ (n : ℕ). shape_of rules n) s.router

  pub own_keeping : IsKeeping plane.shape agent.keeper a.entries (standing agent) (length a.closings)
  own_keeping = subst (λ (shape : PageShape). IsKeeping shape agent.keeper a.entries (standing agent) (length a.closings)) (sym own_shape) s.keeping

  -- what a call on the plane keeps, by the agent's own shape
  pub kept_by : (keeper : Held) (first last : ℕ) → IsKeeping plane.shape keeper a.entries first last → IsKeeping (shape_of rules a.router) keeper a.entries first last
  kept_by keeper first last = subst (λ (shape : PageShape). IsKeeping shape keeper a.entries first last) own_shape

  pub kept_then : (keeper : Held) → ((entries : List Entry) (first last : ℕ) → IsKeeping plane.shape agent.keeper entries first last → IsKeeping plane.shape keeper entries first last)
      → IsKeeping (shape_of rules a.router) agent.keeper a.entries (standing agent) (length a.closings) → IsKeeping (shape_of rules a.router) keeper a.entries (standing agent) (length a.closings)
  kept_then keeper kept k = kept_by keeper (standing agent) (length a.closings) (kept a.entries (standing agent) (length a.closings) own_keeping)

-- the plane stays the agent's
copy_same : (old new : Agent) (r : Resident) → new.rules ≡ old.rules → new.router ≡ old.router → new.page ≡ old.page → entries_of new ≡ entries_of old → IsCopy old r → IsCopy new r
copy_same old new r rules router page entries is =
    let shape : shape_of old.rules old.router.number ≡ shape_of new.rules new.router.number = ap (λ (x : Rules). shape_of x old.router.number) (sym rules) ∙ ap (λ x. shape_of new.rules x.number) (sym router) in
    let number : old.page.number ≡ new.page.number = ap (λ x. x.number) (sym page) in
    record {
      family = is.family ∙ ap (λ (x : PageShape). family_of x old.page.number) shape ∙ ap (family_of (shape_of new.rules new.router.number)) number;
      page_is = is.page_is ∙ ap (λ (x : PageShape). marked_set x (entries_of old) old.page.number) shape
          ∙ ap (λ (es : List Entry). marked_set (shape_of new.rules new.router.number) es old.page.number) (sym entries)
          ∙ ap (marked_set (shape_of new.rules new.router.number) (entries_of new)) number;
    }

may_same : (old new : Agent) (copied : Option Resident) → new.rules ≡ old.rules → new.router ≡ old.router → new.page ≡ old.page → entries_of new ≡ entries_of old → MayCopy old copied → MayCopy new copied
may_same old new None rules router page entries may = tt
may_same old new (Some r) rules router page entries may = copy_same old new r rules router page entries may

pub own_with : (plane : PlaneId) (old new : Agent) → IsOwnPlane plane old → new.keeper.table ≡ old.keeper.table → new.rules ≡ old.rules → new.router ≡ old.router → new.page ≡ old.page → new.copied ≡ old.copied → entries_of new ≡ entries_of old → IsOwnPlane plane new
own_with plane old new own table rules router page copied entries = record {
  table = table ∙ own.table;
  shape = own.shape ∙ ap (λ (r : Rules). shape_of r old.router.number) (sym rules) ∙ ap (λ r. shape_of new.rules r.number) (sym router);
  copied = subst (MayCopy new) (sym copied) (may_same old new old.copied rules router page entries own.copied);
}

-- the same where there is no copy any more
pub own_bare : (plane : PlaneId) (old new : Agent) → IsOwnPlane plane old → new.keeper.table ≡ old.keeper.table → new.rules ≡ old.rules → new.router ≡ old.router → new.copied ≡ None → IsOwnPlane plane new
own_bare plane old new own table rules router none = record {
  table = table ∙ own.table;
  shape = own.shape ∙ ap (λ (r : Rules). shape_of r old.router.number) (sym rules) ∙ ap (λ r. shape_of new.rules r.number) (sym router);
  copied = subst (MayCopy new) (sym none) tt;
}

pub own_same : (plane : PlaneId) (old new : Agent) → IsOwnPlane plane old → IsPlaneSame old new → IsOwnPlane plane new
own_same plane old new own same = own_with plane old new own (ap (λ (k : Held). k.table) same.keeper) same.rules same.router same.page same.copied (ap (λ (k : Held). k.view.entries) same.keeper)

pub plane_then : (a b c : Agent) → IsPlaneSame a b → IsPlaneSame b c → IsPlaneSame a c
plane_then a b c x y = record { keeper = y.keeper ∙ x.keeper; rules = y.rules ∙ x.rules; router = y.router ∙ x.router; page = y.page ∙ x.page; copied = y.copied ∙ x.copied }

-- a copy that is there is one of the open page
pub had_copy : (agent : Agent) (copied : Option Resident) → MayCopy agent copied → is_some copied ≡ true → HasCopy agent copied
had_copy agent None may some = absurd (false≢true some)
had_copy agent (Some r) may some = may

-- ---- an agent of which only the keeper and the collected pages differ

pub for_same : (old new : Agent) → IsRestSame old new → ((rules : Rules) (l : Ledger) → StandsAmid old rules l → StandsAmid new rules l) → StillStands old new
for_same old new rest kept rules l u s = record { amid = kept rules l s.amid; noted = subst (HasNotes rules l u l.closed_at_archive) (sym rest.noted) s.noted }

pub rest_then : (a b c : Agent) → IsRestSame a b → IsRestSame b c → IsRestSame a c
rest_then a b c x y = record { catalogue = y.catalogue ∙ x.catalogue; page = y.page ∙ x.page; noted = y.noted ∙ x.noted; entries = y.entries ∙ x.entries }

pub may_turn : (old new : Agent) (clock : ℕ) → StillStands old new → MayTurn (StandsFor old) clock → MayTurn (StandsFor new) clock
may_turn old new clock still (rules, l, u, s, late, room) = (rules, l, u, still rules l u s, late, room)

-- ---- a page that is collected or copied

-- its bits are the marks of its entries
pub resident_of : (plane : PlaneId) (agent : Agent) (rules : Rules) (a : Account) (page : ℕ) (r : Resident) → IsOwnPlane plane agent → HasPages agent rules a
    → r.family.value ≡ family_of (shape_of agent.rules agent.router.number) page → r.page ≡ marked_set plane.shape a.entries page → IsResident rules a page r
resident_of plane agent rules a page r own s family is =
    let shape = own_shape plane agent rules a own s in
    record {
      family = family ∙ ap (λ (x : PageShape). family_of x page) (sym own.shape ∙ shape);
      page_is = is ∙ ap (λ (x : PageShape). marked_set x a.entries page) shape;
    }

-- a copy shows what is recorded
pub copy_of : (agent : Agent) (rules : Rules) (l : Ledger) (r : Resident) → Stands agent rules l → IsCopy agent r → IsResident rules l.account agent.page.number r
copy_of agent rules l r s is =
    let shape : shape_of agent.rules agent.router.number ≡ shape_of rules l.account.router = ap (λ (x : Rules). shape_of x agent.router.number) s.pages.rules_are ∙ ap (λ (n : ℕ). shape_of rules n) s.pages.router in
    record {
      family = is.family ∙ ap (λ (x : PageShape). family_of x agent.page.number) shape;
      page_is = is.page_is ∙ ap (λ (x : PageShape). marked_set x agent.keeper.view.entries agent.page.number) shape ∙ marked_members (shape_of rules l.account.router) agent.keeper.view.entries l.account.entries agent.page.number s.pages.keeping.has;
    }

pub some_copy : (agent : Agent) (copied : Option Resident) → HasCopy agent copied → (r : Resident) → copied ≡ Some r → IsCopy agent r
some_copy agent copied has r is = subst (HasCopy agent) is has

pub none_copy : (agent : Agent) (copied : Option Resident) → HasCopy agent copied → copied ≡ None → ⊥
none_copy agent copied has is = subst (HasCopy agent) is has

-- ---- a probe

pub probed_shows : (plane : PlaneId) (agent : Agent) (rules : Rules) (l : Ledger) (sig : Sig) (page : ℕ) (answer : Bool) → IsOwnPlane plane agent → StandsAmid agent rules l → standing agent ≤ page
    → ((entries : List Entry) (first last : ℕ) → IsKeeping plane.shape agent.keeper entries first last → answer ≡ are_in (marked_set plane.shape entries page).members (marks_of plane.shape page sig))
    → answer ≡ shows_now rules l sig page
probed_shows plane agent rules l sig page answer own s near found =
    let shape = own_shape plane agent rules l.account own s.pages in
    let unput : is_in l.put_before page ≡ false = (s.to_come page near).unput in
    found l.account.entries (standing agent) (length l.account.closings) (own_keeping plane agent rules l.account own s.pages)
    ∙ ap (λ (x : PageShape). are_in (marked_set x l.account.entries page).members (marks_of x page sig)) shape
    ∙ ap (λ (b : Bool). not b && are_in (marked_set (shape_of rules l.account.router) l.account.entries page).members (marks_of (shape_of rules l.account.router) page sig)) (sym unput)

-- ---- a copy of the open page

module _ (plane : PlaneId) (agent : Agent) (rules : Rules) (l : Ledger) (u : Unfinished) (own : IsOwnPlane plane agent) (s : StandsFor agent rules l u) where
  pub copy_needs : (entries : List Entry) × (first : ℕ) × IsKeeping plane.shape agent.keeper entries first agent.page.number
  copy_needs = (l.account.entries, standing agent, subst (λ (n : ℕ). IsKeeping plane.shape agent.keeper l.account.entries (standing agent) n) (sym s.amid.pages.page) (own_keeping plane agent rules l.account own s.amid.pages))

pub copied_bits : (plane : PlaneId) (agent : Agent) (keeper : Held) (bits : PageSet) (rules : Rules) (l : Ledger) (u : Unfinished) → IsOwnPlane plane agent → StandsFor agent rules l u
    → ((entries : List Entry) (first last : ℕ) → IsKeeping plane.shape agent.keeper entries first last → IsKeeping plane.shape keeper entries first last)
    → ((entries : List Entry) (first last : ℕ) → IsKeeping plane.shape agent.keeper entries first last → bits ≡ marked_set plane.shape entries agent.page.number)
    → bits ≡ marked_set (shape_of agent.rules agent.router.number) keeper.view.entries agent.page.number
copied_bits plane agent keeper bits rules l u own s same told =
    let k = own_keeping plane agent rules l.account own s.amid.pages in
    let k2 = same l.account.entries (standing agent) (length l.account.closings) k in
    told l.account.entries (standing agent) (length l.account.closings) k
    ∙ ap (λ (x : PageShape). marked_set x l.account.entries agent.page.number) own.shape
    ∙ sym (marked_members (shape_of agent.rules agent.router.number) keeper.view.entries l.account.entries agent.page.number k2.has)

-- the keeper noted reads, and the copy is another
pub for_copied : (plane : PlaneId) (old new : Agent) (rules : Rules) (l : Ledger) (u : Unfinished) → IsOwnPlane plane old
    → new.rules ≡ old.rules → new.router ≡ old.router → new.page ≡ old.page → new.marked ≡ old.marked → new.closed.items ≡ old.closed.items → new.catalogue ≡ old.catalogue → new.table ≡ old.table → new.noted ≡ old.noted
    → ((entries : List Entry) (first last : ℕ) → IsKeeping plane.shape old.keeper entries first last → IsKeeping plane.shape new.keeper entries first last) → StandsFor old rules l u → StandsFor new rules l u
for_copied plane old new rules l u own same_rules router page marked items catalogue table noted same s = record {
  amid = amid_then old new rules l s.amid same_rules router page marked items catalogue table (kept_then plane old rules l.account own s.amid.pages new.keeper same);
  noted = subst (HasNotes rules l u l.closed_at_archive) (sym noted) s.noted;
}

-- ---- what calls tell, one behind the other

pub still_then : (a b c : Agent) → StillStands a b → StillStands b c → StillStands a c
still_then a b c x y rules l u s = y rules l u (x rules l u s)

pub may_turn_whole : (agent : Agent) (clock : ℕ) → MayTurn (StandsWhole agent) clock → MayTurn (StandsFor agent) clock
may_turn_whole agent clock (rules, l, u, s, late, room) = (rules, l, u, for_of agent rules l u s, late, room)

pub recorded_whole : (old new : Agent) (clock : ℕ) → StillWhole old new → (rules : Rules) (l : Ledger) (u : Unfinished) → StandsWhole old rules l u → StandsForSame new rules l clock
recorded_whole old new clock same rules l u s = record { after = l; unfinished = u; stands = for_of new rules l u (same rules l u s); router = refl; entries = refl; rows = refl; closings = inl refl }

pub recorded_for : (old new : Agent) (clock : ℕ) → StillStands old new → (rules : Rules) (l : Ledger) (u : Unfinished) → StandsWhole old rules l u → StandsForSame new rules l clock
recorded_for old new clock same rules l u s = record { after = l; unfinished = u; stands = same rules l u (for_of old rules l u s); router = refl; entries = refl; rows = refl; closings = inl refl }

pub recorded_turned : (old after new : Agent) (clock : ℕ) → ((rules : Rules) (l : Ledger) (u : Unfinished) → StandsFor old rules l u → StandsFor after rules (turned_at l clock) u) → StillStands after new
    → (rules : Rules) (l : Ledger) (u : Unfinished) → StandsWhole old rules l u → StandsForSame new rules l clock
recorded_turned old after new clock turned same rules l u s = record {
  after = turned_at l clock;
  unfinished = u;
  stands = same rules (turned_at l clock) u (turned rules l u (for_of old rules l u s));
  router = refl;
  entries = refl;
  rows = refl;
  closings = inr (clock, omega arith, refl);
}

pub recorded_before : (old after new : Agent) (clock : ℕ) → StillWhole old after → ((rules : Rules) (l : Ledger) (u : Unfinished) → StandsWhole after rules l u → StandsForSame new rules l clock)
    → (rules : Rules) (l : Ledger) (u : Unfinished) → StandsWhole old rules l u → StandsForSame new rules l clock
recorded_before old after new clock same recorded rules l u s = recorded rules l u (same rules l u s)

pub noted_amid : (before before_amid after after_amid : Meaning) (more : Unfinished) (tells : Bool) (old new : Contents) → ((rules : Rules) (l : Ledger) (u : Unfinished) → before_amid rules l u → before rules l u)
    → ((rules : Rules) (l : Ledger) (u : Unfinished) → after rules l u → after_amid rules l u) → IsNoted before after more tells old new → IsNoted before_amid after_amid more tells old new
noted_amid before before_amid after after_amid more tells old new whole amid n = record {
  noted = λ rules l u s. amid rules (at_archive l) (with_more u more) (n.noted rules l u (whole rules l u s));
  closed = λ rules l u s. n.closed rules l u (whole rules l u s);
  bits = λ rules l u s. n.bits rules l u (whole rules l u s);
  holds = λ rules l u s. n.holds rules l u (whole rules l u s);
  holds_bits = λ rules l u s. n.holds_bits rules l u (whole rules l u s);
  others = λ rules l u s. n.others rules l u (whole rules l u s);
  untouched = λ rules l u s. n.untouched rules l u (whole rules l u s);
}

-- ---- the bits of the open page are counted

pub count_needs : (plane : PlaneId) (agent : Agent) (rules : Rules) (l : Ledger) → IsOwnPlane plane agent → Stands agent rules l → (entries : List Entry) × (first : ℕ) × IsKeeping plane.shape agent.keeper entries first agent.page.number
count_needs plane agent rules l own s =
    (l.account.entries, standing agent, subst (λ (n : ℕ). IsKeeping plane.shape agent.keeper l.account.entries (standing agent) n) (sym s.pages.page) (own_keeping plane agent rules l.account own s.pages))

pub count_is : (plane : PlaneId) (agent : Agent) (bits : ℕ) → IsOwnPlane plane agent
    → ((entries : List Entry) (first last : ℕ) → IsKeeping plane.shape agent.keeper entries first last → bits ≡ length (marked_set plane.shape entries agent.page.number).members) → IsCount agent bits
count_is plane agent bits own told rules l u s =
    let pages = s.stands.pages in
    told l.account.entries (standing agent) (length l.account.closings) (own_keeping plane agent rules l.account own pages)
    ∙ ap (λ (x : PageShape). length (marked_set x l.account.entries agent.page.number).members) (own_shape plane agent rules l.account own pages)
    ∙ ap (λ (n : ℕ). length (marked_set (shape_of rules l.account.router) l.account.entries n).members) pages.page

pub kept_shape : (plane : PlaneId) (agent : Agent) (keeper : Held) → IsOwnPlane plane agent → ((entries : List Entry) (first last : ℕ) → IsKeeping plane.shape agent.keeper entries first last → IsKeeping plane.shape keeper entries first last)
    → (shape : PageShape) (entries : List Entry) (first last : ℕ) → shape ≡ shape_of agent.rules agent.router.number → IsKeeping shape agent.keeper entries first last → IsKeeping shape keeper entries first last
kept_shape plane agent keeper own same shape entries first last is k =
    let here : plane.shape ≡ shape = own.shape ∙ sym is in
    subst (λ (x : PageShape). IsKeeping x keeper entries first last) here (same entries first last (subst (λ (x : PageShape). IsKeeping x agent.keeper entries first last) (sym here) k))
