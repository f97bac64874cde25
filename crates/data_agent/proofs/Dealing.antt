-- Passes are dealt.
use Rattle.std.proofs.Common.{ℕ, Bool, true, ◌≡◌, ◌≤◌, ◌<◌, ◌+◌, ◌∙◌, [], List, length, get_or, map, replicate, is_some, ap, sym, subst, refl, inl, arith, Option, Some, None, Result, Ok, Err, IfOk, OnOk, Vec, Global}
use Rattle.std.specs.List.{Contains}
use Rattle.sha2.specs.Sha256.{sha256}
use Rattle.spie_base.proofs.Membership.{from_map}
use Rattle.spie_base.specs.Shapes.{shape_of}
use Rattle.spie_base.specs.declared.PageShape.{PageShape}
use Rattle.spie_base.specs.declared.Rules.{Rules}
use Rattle.bloom_page.specs.Sets.{PageSet, is_in, set_of}
use Rattle.gate_core.specs.declared.view.Duties.{Duties}
use Rattle.gate_core.specs.Acts.{open_slot}
use Rattle.gate_core.specs.Views.{slot_at}
use Rattle.gate_core.proofs.Deals.{same_slots}
use Rattle.page_gate.specs.Held.{Held, Home, PassHeld, dealt_held, dealer_held}
use Rattle.page_gate.specs.Slots.{open_page}
use Rattle.router_account.specs.Account.{Account, bits, page_set}
use Rattle.router_account.specs.Ledger.{Ledger, Unfinished}
use Rattle.router_account.specs.Records.{bits_text}
use Rattle.data_agent.specs.declared.agent.Agent.{Agent}
use Rattle.data_agent.specs.declared.archival.Note.{Note}
use Rattle.data_agent.specs.declared.closed_page.ClosedPage.{ClosedPage}
use Rattle.data_agent.specs.declared.closed_page.Whereabouts.{Whereabouts}
use Rattle.data_agent.specs.declared.closed_page.Whereabouts.TheVariants.{InMemory, OnShelf}
use Rattle.data_agent.specs.Beside.{AreClosedBeside, AreClosedBits, ArePutBeside, HasNotesBeside, IsMinding, IsPlacedBeside, IsPutDigest, StandsBeside}
use Rattle.data_agent.specs.Standing.{AreClosed, HasNotes, IsBitsDigest, IsPlaced, StandsFor, digest_of, put_page, standing}
use Rattle.data_agent.proofs.Besides.{closed_known}
use Rattle.data_agent.proofs.Keeping.{minding_of}
use Rattle.data_agent.proofs.SameMembers.{mark_in}

-- a new pass of a keeper that pointed at the open slot
pub dealt_fresh : (k : Held) (table : Home) → k.table ≡ table → k.view.duties.pointed ≡ open_slot k.view.duties
    → dealt_held k ≡ record { table = table; floor = open_page k.view.duties; entries = []; visits = [] }
dealt_fresh k table here points = λ i. record { table = here i; floor = (slot_at k.view.duties (points i)).page; entries = []; visits = [] }

pub dealt_all : {E : Type 0} (result : Result (Vec PassHeld Global) E) (k : Held) (table : Home) (passes : ℕ) → k.table ≡ table → k.view.duties.pointed ≡ open_slot k.view.duties
    → IfOk result (λ v. v.items ≡ replicate passes (dealt_held k))
    → IfOk result (λ v. v.items ≡ replicate passes (let p : PassHeld = record { table = table; floor = open_page k.view.duties; entries = []; visits = [] } in p))
dealt_all (Ok v) k table passes here points is = is ∙ ap (replicate passes) (dealt_fresh k table here points)
dealt_all (Err e) k table passes here points is = tt

-- ---- an agent that stands for a ledger does so beside no pass

set_is : (rules : Rules) (a : Account) (page : ℕ) (members : List ℕ) → members ≡ bits rules a page → (let s : PageSet = record { n = rules.n; members = members } in s) ≡ page_set rules a page
unfolding set_of
set_is rules a page members is = ap (λ (xs : List ℕ). let s : PageSet = record { n = rules.n; members = xs } in s) is

module _ (rules : Rules) (l : Ledger) (u : Unfinished) (closed : AreClosedBits rules l u) where
  digest_beside : (page : ℕ) (digest : Option (List ℕ)) → IsBitsDigest rules l.account page digest → (is_some digest ≡ true → Contains (map put_page u.bits_put) page) → IsPutDigest rules l.account u page digest
  digest_beside page None is put = tt
  digest_beside page (Some d) is put =
      let found = from_map put_page u.bits_put page (put refl) in
      let same : found.of.bits ≡ bits rules l.account page = (closed found.of found.has).1 ∙ ap (bits rules l.account) found.is in
      (found.of, found.has, found.is, is ∙ ap (λ (xs : List ℕ). sha256 (bits_text rules l.account page xs)) (sym same))

  notes_beside : (at : Option (List ℕ)) (noted : Option (Vec Note Global)) → HasNotes rules l u at noted → HasNotesBeside rules l u at noted
  notes_beside None None h = h
  notes_beside None (Some notes) h = h
  notes_beside (Some closings) None h = h
  notes_beside (Some closings) (Some notes) h = record {
    closed = h.closed;
    covers = h.covers;
    rising = h.rising;
    each = λ note has. let is = h.each note has in digest_beside note.page.number (digest_of note.bits) is.digest is.put;
    refused = h.refused;
  }

  put_beside : (d : Duties) → ArePutBeside rules l.account d (length l.account.closings) u
  put_beside d x has = let is = closed x has in inl (is.0, set_is rules l.account x.page x.bits is.1)

place_beside : (rules : Rules) (a : Account) (d : Duties) (since page : ℕ) (put : Bool) (w : Whereabouts) → page < since → IsPlaced rules a page put w → IsPlacedBeside rules a d since page put w
place_beside rules a d since page put (InMemory r) lt (unput, is) = (
  unput,
  record {
    family = is.family;
    bits = inl (lt, is.page_is);
    gathered = λ at marked. subst (λ (set : PageSet). Contains set.members at) (sym is.page_is) (mark_in (shape_of rules a.router) a.entries page at marked);
  },
)
place_beside rules a d since page put (OnShelf g) lt (is_put, is) = (is_put, lt, is)

closed_beside : (rules : Rules) (l : Ledger) (d : Duties) (since first : ℕ) (pages : List ClosedPage) → first + length pages ≤ since → AreClosed rules l first pages → AreClosedBeside rules l d since first pages
closed_beside rules l d since first pages within each i c lt =
    let is = each i c lt in
    record { covered = is.covered; placed = place_beside rules l.account d since (first + i) (is_in l.put_before (first + i)) (get_or pages i c).place (omega arith) is.placed }

pub beside_none : (agent : Agent) (rules : Rules) (l : Ledger) (u : Unfinished) → StandsFor agent rules l u → AreClosedBits rules l u
    → StandsBeside agent rules l u (record { out = 0; since = length l.account.closings })
beside_none agent rules l u s closed =
    let p = s.amid.pages in
    let d = agent.keeper.view.duties in
    let order = p.keeping.order in
    record {
      since = omega arith;
      pages = record {
        ranges = p.ranges;
        router_fits = p.router_fits;
        rules_are = p.rules_are;
        router = p.router;
        by_rules = p.by_rules;
        closings = p.closings;
        times = p.times;
        few = p.few;
        page = p.page;
        entered = p.entered;
        marked = p.marked;
        minding = minding_of (shape_of rules l.account.router) agent.keeper l.account.entries (standing agent) (length l.account.closings) p.keeping;
        has = p.keeping.has;
        out_is = p.keeping.alone;
      };
      closed = closed_beside rules l d (length l.account.closings) agent.catalogue.gone agent.closed.items order s.amid.closed;
      to_come = s.amid.to_come;
      rows = s.amid.rows;
      expired = s.amid.expired;
      clock = s.amid.clock;
      noted = notes_beside rules l u closed l.closed_at_archive agent.noted s.noted;
      put = put_beside rules l u closed d;
    }

-- ---- and beside those that it deals

dealt_minding : (shape : PageShape) (k : Held) (passes first last : ℕ) → IsMinding shape k first last → IsMinding shape (dealer_held k passes) first last
dealt_minding shape k passes first last s = record {
  role = s.role;
  fits = same_slots shape k.view.duties (k.view.duties.dealt + passes) (k.view.duties.out + passes) s.fits;
  has_open = s.has_open;
  open_is = s.open_is;
  order = s.order;
  stand = s.stand;
  only = s.only;
}

dealt_beside : (agent : Agent) (passes since : ℕ) (rules : Rules) (l : Ledger) (u : Unfinished) → StandsBeside agent rules l u (record { out = 0; since = since })
    → StandsBeside (record agent { keeper = dealer_held agent.keeper passes }) rules l u (record { out = passes; since = since })
dealt_beside agent passes since rules l u s =
    let p = s.pages in
    let none = p.out_is in
    record {
      since = s.since;
      pages = record {
        ranges = p.ranges;
        router_fits = p.router_fits;
        rules_are = p.rules_are;
        router = p.router;
        by_rules = p.by_rules;
        closings = p.closings;
        times = p.times;
        few = p.few;
        page = p.page;
        entered = p.entered;
        marked = p.marked;
        minding = dealt_minding (shape_of rules l.account.router) agent.keeper passes (standing agent) (length l.account.closings) p.minding;
        has = p.has;
        out_is = omega arith;
      };
      closed = closed_known agent.keeper.view.duties (dealer_held agent.keeper passes).view.duties rules l since (λ page has. refl) agent.catalogue.gone agent.closed.items s.closed;
      to_come = s.to_come;
      rows = record { table = s.rows.table; spelled = s.rows.spelled };
      expired = s.expired;
      clock = s.clock;
      noted = s.noted;
      put = s.put;
    }

pub dealt_stands : {T E : Type 0} (result : Result T E) (agent : Agent) (keeper : Held) (passes : ℕ) → OnOk result (keeper ≡ dealer_held agent.keeper passes)
    → OnOk result ((rules : Rules) (l : Ledger) (u : Unfinished) → StandsFor agent rules l u → AreClosedBits rules l u
    → StandsBeside (record agent { keeper = keeper }) rules l u (record { out = passes; since = length l.account.closings }))
dealt_stands (Ok v) agent keeper passes is = λ rules l u s closed.
    subst (λ (k : Held). StandsBeside (record agent { keeper = k }) rules l u (record { out = passes; since = length l.account.closings })) (sym is)
    (dealt_beside agent passes (length l.account.closings) rules l u (beside_none agent rules l u s closed))
dealt_stands (Err e) agent keeper passes is = tt
