-- An agent opens the next page beside passes.
use Rattle.std.proofs.Common.{ℕ, Bool, ◌≡◌, ◌≤◌, ◌<◌, ◌+◌, ◌-◌, ◌^◌, ◌∙◌, ◌∷◌, [], ◌++◌, List, length, get_or, Option, Some, None, Vec, Global, sym, ap, subst, refl, arith}
use Rattle.std.proofs.lemmas.Bool.{ltb-true}
use Rattle.std.proofs.lemmas.List.Elements.{Contains-append_right}
use Rattle.sha2.specs.Sha256.{sha256}
use Rattle.spie_base.proofs.Membership.{has_first, into_map}
use Rattle.spie_base.specs.Shapes.{shape_of}
use Rattle.spie_base.specs.declared.Entry.{Entry}
use Rattle.spie_base.specs.declared.Rules.{Rules}
use Rattle.archive_record.specs.Spelling.{bits_record, spelled_bits}
use Rattle.bloom_page.specs.Sets.{is_in}
use Rattle.gate_core.specs.declared.view.Duties.{Duties}
use Rattle.page_catalogue.specs.Catalogues.{AreExpired}
use Rattle.transform_table.specs.Tables.{rows_of_page}
use Rattle.router_account.specs.Account.{Account, fill, with_closing}
use Rattle.router_account.specs.Ledger.{Ledger, Unfinished, turned_at}
use Rattle.router_account.specs.Records.{bits_text}
use Rattle.data_agent.specs.declared.agent.Agent.{Agent}
use Rattle.data_agent.specs.declared.archival.Note.{Note}
use Rattle.data_agent.specs.declared.closed_page.ClosedPage.{ClosedPage}
use Rattle.data_agent.specs.declared.closed_page.Whereabouts.{Whereabouts}
use Rattle.data_agent.specs.declared.closed_page.Whereabouts.TheVariants.{InMemory, OnShelf}
use Rattle.data_agent.specs.Beside.{AreClosedBeside, Away, HasNotesBeside, IsMinding, IsPlacedBeside, IsPutDigest, KeepsWords, StandsBeside}
use Rattle.data_agent.specs.Calls.{HasRoom, IsLate}
use Rattle.data_agent.specs.Members.{HaveSameMembers}
use Rattle.data_agent.specs.Standing.{AreTimes, noted_page, rows_kept, standing, digest_of}
use Rattle.data_agent.proofs.Besides.{closed_known, put_known}
use Rattle.data_agent.proofs.Kept.{Keeps, digests_kept, head_kept}
use Rattle.data_agent.proofs.Closings.{closings_more, entered_more, fresh_fill, keeps_closing, times_more}

-- ---- a closed page keeps its texts

text_kept : (rules : Rules) (a b : Account) (page : ℕ) (members : List ℕ) → Keeps rules a b → page < length a.closings → bits_text rules b page members ≡ bits_text rules a page members
text_kept rules a b page members k lt = ap (λ h. spelled_bits (bits_record h (record { n = rules.n; members = members }))) (head_kept rules a b page k lt)

put_digest_kept : (rules : Rules) (a b : Account) (u : Unfinished) (page : ℕ) (digest : Option (List ℕ)) → Keeps rules a b → page < length a.closings → IsPutDigest rules a u page digest → IsPutDigest rules b u page digest
put_digest_kept rules a b u page None k lt is = is
put_digest_kept rules a b u page (Some d) k lt (x, has, at, is) = (x, has, at, is ∙ sym (ap sha256 (text_kept rules a b page x.bits k lt)))

notes_turned : (rules : Rules) (l : Ledger) (clock : ℕ) (u : Unfinished) (at : Option (List ℕ)) (noted : Option (Vec Note Global)) → HasNotesBeside rules l u at noted → HasNotesBeside rules (turned_at l clock) u at noted
notes_turned rules l clock u None None h = h
notes_turned rules l clock u None (Some notes) h = h
notes_turned rules l clock u (Some closings) None h = h
notes_turned rules l clock u (Some closings) (Some notes) h = record {
  closed = let c = h.closed in let m = closings_more l.account clock in omega arith;
  covers = h.covers;
  rising = h.rising;
  each = λ note has.
      let page : ℕ = note.page.number in
      let lt : page < length closings = ltb-true page (length closings) ((h.covers page).0 (into_map noted_page notes.items note has)).closed in
      let within : page < length l.account.closings = let c = h.closed in omega arith in
      put_digest_kept rules l.account (with_closing l.account clock) u page (digest_of note.bits) (keeps_closing rules l.account clock) within (h.each note has);
  refused = h.refused;
}

module _ (rules : Rules) (l : Ledger) (clock : ℕ) (d : Duties) (since : ℕ) (below : since ≤ length l.account.closings) where
  place_turned : (page : ℕ) (put : Bool) (w : Whereabouts) → IsPlacedBeside rules l.account d since page put w → IsPlacedBeside rules (with_closing l.account clock) d since page put w
  place_turned page put (InMemory r) (unput, is) = (unput, record { family = is.family; bits = is.bits; gathered = is.gathered })
  place_turned page put (OnShelf g) (is_put, lt, is) = (is_put, lt, digests_kept rules l.account (with_closing l.account clock) page g (keeps_closing rules l.account clock) (omega arith) refl is)

  closed_turned : (first : ℕ) (pages : List ClosedPage) → AreClosedBeside rules l d since first pages → AreClosedBeside rules (turned_at l clock) d since first pages
  closed_turned first pages each i c lt =
      let is = each i c lt in
      record { covered = is.covered; placed = place_turned (first + i) (is_in l.put_before (first + i)) (get_or pages i c).place is.placed }

-- ---- what is needed, by the agent

pub times_beside : (agent : Agent) (clock : ℕ) → ((rules : Rules) × (l : Ledger) × (u : Unfinished) × (away : Away) × StandsBeside agent rules l u away × IsLate l clock × HasRoom l) → AreTimes (agent.catalogue.closings ++ clock ∷ [])
times_beside agent clock (rules, l, u, away, s, late, room) =
    subst (λ xs. AreTimes (xs ++ clock ∷ [])) (sym s.pages.closings) (times_more l.account.closings clock s.pages.times late.closings late.fits)

pub room_beside : (agent : Agent) (clock : ℕ) → ((rules : Rules) × (l : Ledger) × (u : Unfinished) × (away : Away) × StandsBeside agent rules l u away × IsLate l clock × HasRoom l) → length agent.catalogue.closings + 1 < 2 ^ 32 - 1
room_beside agent clock (rules, l, u, away, s, late, room) = let e : length agent.catalogue.closings ≡ length l.account.closings = ap length s.pages.closings in omega arith

pub ready_then : (old new : Agent) (clock : ℕ) → ((rules : Rules) (l : Ledger) (u : Unfinished) (away : Away) → StandsBeside old rules l u away → StandsBeside new rules l u away)
    → ((rules : Rules) × (l : Ledger) × (u : Unfinished) × (away : Away) × StandsBeside old rules l u away × IsLate l clock × HasRoom l)
    → (rules : Rules) × (l : Ledger) × (u : Unfinished) × (away : Away) × StandsBeside new rules l u away × IsLate l clock × HasRoom l
ready_then old new clock kept (rules, l, u, away, s, late, room) = (rules, l, u, away, kept rules l u away s, late, room)

-- ---- the next page is open

-- the open page of the catalogue was closed at this clock, and nothing else is changed but the keeper
pub record IsTurned (old new : Agent) (clock : ℕ) : Type 0 where
  pub rules : new.rules ≡ old.rules
  pub router : new.router ≡ old.router
  pub by_rules : new.catalogue.rules ≡ old.catalogue.rules
  pub closings : new.catalogue.closings ≡ old.catalogue.closings ++ clock ∷ []
  pub gone : new.catalogue.gone ≡ old.catalogue.gone
  pub clock_is : new.catalogue.clock ≡ clock
  pub page : new.page.number ≡ length old.catalogue.closings + 1
  pub marked : new.marked ≡ 0
  pub items : new.closed.items ≡ old.closed.items
  pub table : new.table ≡ old.table
  pub noted : new.noted ≡ old.noted

pub turned_beside : (old new : Agent) (rules : Rules) (l : Ledger) (u : Unfinished) (away : Away) (clock : ℕ) → StandsBeside old rules l u away → length old.catalogue.closings + 1 < 2 ^ 32 - 1
    → AreTimes (old.catalogue.closings ++ clock ∷ []) → IsTurned old new clock → KeepsWords (shape_of rules l.account.router) old.keeper new.keeper
    → IsMinding (shape_of rules l.account.router) new.keeper (standing old) (length l.account.closings + 1) → StandsBeside new rules (turned_at l clock) u away
turned_beside old new rules l u away clock s room times t words minding =
    let a = l.account in
    let p = s.pages in
    let gone = t.gone in
    let none = t.marked in
    let since = s.since in
    let order = p.minding.order in
    let len : length new.closed.items ≡ length old.closed.items = ap length t.items in
    let same : length old.catalogue.closings ≡ length a.closings = ap length p.closings in
    let more : length (a.closings ++ clock ∷ []) ≡ length a.closings + 1 = closings_more a clock in
    let empty : fill rules a (length (a.closings ++ clock ∷ [])) ≡ 0 = fresh_fill rules a (length (a.closings ++ clock ∷ [])) p.entered (omega arith) in
    let here : standing old ≡ standing new = omega arith in
    let kept : AreClosedBeside rules l new.keeper.view.duties away.since old.catalogue.gone old.closed.items =
    closed_known old.keeper.view.duties new.keeper.view.duties rules l away.since words.collected old.catalogue.gone old.closed.items s.closed in
    let then : AreClosedBeside rules (turned_at l clock) new.keeper.view.duties away.since old.catalogue.gone old.closed.items =
    closed_turned rules l clock new.keeper.view.duties away.since s.since old.catalogue.gone old.closed.items kept in
    record {
      since = omega arith;
      pages = record {
        ranges = p.ranges;
        router_fits = p.router_fits;
        rules_are = t.rules ∙ p.rules_are;
        router = ap (λ r. r.number) t.router ∙ p.router;
        by_rules = t.by_rules ∙ p.by_rules;
        closings = t.closings ∙ ap (λ xs. xs ++ clock ∷ []) p.closings;
        times = subst (λ xs. AreTimes (xs ++ clock ∷ [])) p.closings times;
        few = omega arith;
        page = t.page ∙ ap (λ n. n + 1) same ∙ sym more;
        entered = entered_more a.entries (length a.closings) (length (a.closings ++ clock ∷ [])) (omega arith) p.entered;
        marked = omega arith;
        minding = subst (λ (n : ℕ). IsMinding (shape_of rules a.router) new.keeper n (length (a.closings ++ clock ∷ []))) here
            (subst (λ (n : ℕ). IsMinding (shape_of rules a.router) new.keeper (standing old) n) (sym more) minding);
        has = subst (λ (es : List Entry). HaveSameMembers es a.entries) (sym words.entries) p.has;
        out_is = words.out ∙ p.out_is;
      };
      closed = subst (λ xs. AreClosedBeside rules (turned_at l clock) new.keeper.view.duties away.since new.catalogue.gone xs) (sym t.items)
          (subst (λ g. AreClosedBeside rules (turned_at l clock) new.keeper.view.duties away.since g old.closed.items) (sym gone) then);
      to_come = λ page le. let x = s.to_come page (omega arith) in record { unput = x.unput; uncovered = x.uncovered };
      rows = record {
        table = λ page. ap (rows_of_page page) t.table ∙ s.rows.table page ∙ ap (λ g. rows_kept g l page) (sym gone);
        spelled = λ page le. s.rows.spelled page (omega arith);
      };
      expired = subst (λ g. AreExpired rules l.closings_then l.clock_then g) (sym gone) s.expired;
      clock = λ later then_ times_. let is = t.clock_is in let le : clock ≤ later = times_ clock (Contains-append_right a.closings (clock ∷ []) clock (has_first clock [])) in omega arith;
      noted = subst (HasNotesBeside rules (turned_at l clock) u l.closed_at_archive) (sym t.noted) (notes_turned rules l clock u l.closed_at_archive old.noted s.noted);
      put = put_known old.keeper.view.duties new.keeper.view.duties rules l away.since words.collected u s.put;
    }
