-- What a barrier does, part by part.
use Rattle.std.proofs.Common.{ℕ, ◌≡◌, ◌≤◌, ◌<◌, ◌-◌, ◌∙◌, ◌∷◌, [], List, length, Bool, true, false, nat_le, cond, Option, Some, None, sym, ap, refl, subst, inl, inr, arith}
use Rattle.std.specs.List.Sorted.{IsStrictlySortedBy}
use Rattle.std.specs.declared.cmp.Ordering.{Ordering}
use Rattle.std.proofs.lemmas.List.Elements.{Contains-append_cases}
use Rattle.std.proofs.lemmas.Bool.{leb-false, lt-leb}
use Rattle.spie_base.proofs.Booleans.{none_held, none_holds}
use Rattle.spie_base.proofs.Membership.{has_one}
use Rattle.spie_base.specs.Shapes.{shape_of}
use Rattle.spie_base.specs.declared.Entry.{Entry}
use Rattle.spie_base.specs.declared.PageNo.{PageNo}
use Rattle.spie_base.specs.declared.PageShape.{PageShape}
use Rattle.spie_base.specs.declared.Rules.{Rules}
use Rattle.page_gate.specs.Held.{Held}
use Rattle.page_catalogue.specs.Catalogues.{Catalogued}
use Rattle.page_catalogue.specs.Pages.{is_due, open_page, opened}
use Rattle.router_account.specs.Account.{Account, fill, with_closing}
use Rattle.router_account.specs.Barriers.{Closing}
use Rattle.router_account.specs.Ledger.{Ledger, Unfinished, turned_at}
use Rattle.data_agent.specs.declared.agent.Agent.{Agent}
use Rattle.data_agent.specs.Calls.{MayPass}
use Rattle.data_agent.specs.Standing.{HasPages, IsKeeping, StandsFor, StandsWhole, StillWhole, standing}
use Rattle.data_agent.proofs.Staying.{pages_with}
use Rattle.data_agent.specs.Passing.{IsDueBits, IsTicked, StandsForSame}

-- ---- a tick

-- whether the open page is due, by the agent's own page
due_is : (agent : Agent) (rules : Rules) (a : Account) (clock bits : ℕ) → HasPages agent rules a → is_due agent.catalogue.rules agent.catalogue.closings clock bits ≡ is_due rules a.closings clock bits
due_is agent rules a clock bits s = ap (λ (r : Rules). is_due r agent.catalogue.closings clock bits) s.by_rules ∙ ap (λ xs. is_due rules xs clock bits) s.closings

-- a page that isn't due with more bits isn't due with fewer
due_fewer : (rules : Rules) (closings : List ℕ) (clock most bits : ℕ) → bits ≤ most → is_due rules closings clock most ≡ false → is_due rules closings clock bits ≡ false
unfolding is_due
due_fewer rules closings clock most bits le none =
    let held = none_held (nat_le rules.span (clock - opened closings (open_page closings))) (nat_le rules.limit most) none in
    let few : most < rules.limit = leb-false rules.limit most held.1 in
    none_holds (nat_le rules.span (clock - opened closings (open_page closings))) (nat_le rules.limit bits) held.0 (lt-leb rules.limit bits (omega arith))

pub due_none_by_marks : (agent : Agent) (clock : ℕ) → is_due agent.catalogue.rules agent.catalogue.closings clock agent.marked ≡ false
    → (rules : Rules) (l : Ledger) (u : Unfinished) → StandsWhole agent rules l u → IsDueBits rules l.account clock None
due_none_by_marks agent clock none rules l u s =
    let a = l.account in
    let le : fill rules a (open_page a.closings) ≤ agent.marked = s.stands.pages.marked in
    due_fewer rules a.closings clock agent.marked (fill rules a (open_page a.closings)) le (sym (due_is agent rules a clock agent.marked s.stands.pages) ∙ none)

-- the bits of the open page were counted
abbrev pub IsCount : Agent → (bits : ℕ) → Type 0
IsCount agent bits = (rules : Rules) (l : Ledger) (u : Unfinished) → StandsWhole agent rules l u → bits ≡ fill rules l.account (open_page l.account.closings)

pub due_none : (agent after : Agent) (clock bits : ℕ) → IsCount agent bits → after.catalogue ≡ agent.catalogue → is_due after.catalogue.rules after.catalogue.closings clock bits ≡ false
    → (rules : Rules) (l : Ledger) (u : Unfinished) → StandsWhole agent rules l u → IsDueBits rules l.account clock None
due_none agent after clock bits count same none rules l u s =
    ap (is_due rules l.account.closings clock) (sym (count rules l u s)) ∙ sym (due_is agent rules l.account clock bits s.stands.pages) ∙ sym (ap (λ (c : Catalogued). is_due c.rules c.closings clock bits) same) ∙ none

pub due_some : (agent after : Agent) (clock bits : ℕ) → IsCount agent bits → after.catalogue ≡ agent.catalogue → is_due after.catalogue.rules after.catalogue.closings clock bits ≡ true
    → (rules : Rules) (l : Ledger) (u : Unfinished) → StandsWhole agent rules l u → IsDueBits rules l.account clock (Some bits)
due_some agent after clock bits count same due rules l u s =
    (count rules l u s, ap (is_due rules l.account.closings clock) (sym (count rules l u s)) ∙ sym (due_is agent rules l.account clock bits s.stands.pages) ∙ sym (ap (λ (c : Catalogued). is_due c.rules c.closings clock bits) same) ∙ due)

-- and the agent knows it
pub counted : (old : Agent) (keeper : Held) (bits : ℕ) → IsCount old bits
    → ((shape : PageShape) (entries : List Entry) (first last : ℕ) → shape ≡ shape_of old.rules old.router.number → IsKeeping shape old.keeper entries first last → IsKeeping shape keeper entries first last)
    → StillWhole old (record old { keeper = keeper; marked = bits })
counted old keeper bits count kept rules l u s =
    let new : Agent = record old { keeper = keeper; marked = bits } in
    let bits_are = count rules l u s in
    let pages = s.stands.pages in
    let shape : shape_of rules l.account.router ≡ shape_of old.rules old.router.number = ap (λ (r : Rules). shape_of r l.account.router) (sym pages.rules_are) ∙ ap (λ (n : ℕ). shape_of old.rules n) (sym pages.router) in
    record {
      stands = record {
        pages = pages_with old new rules l.account pages refl refl refl (omega arith) refl refl
            (kept (shape_of rules l.account.router) l.account.entries (standing old) (length l.account.closings) shape pages.keeping);
        count = s.stands.count;
        closed = s.stands.closed;
        to_come = s.stands.to_come;
        rows = record { table = s.stands.rows.table; spelled = s.stands.rows.spelled };
        expired = s.stands.expired;
        clock = s.stands.clock;
      };
      noted = s.noted;
    }

abbrev told_at : Rules → Account → (due : Bool) → Option Closing
told_at rules a due = cond due (Some (record { page = open_page a.closings; bits = fill rules a (open_page a.closings) })) None

closing_is : (page count last bits : ℕ) → page ≡ last → count ≡ bits → Some (let x : Closing = record { page = page; bits = count } in x) ≡ Some (record { page = last; bits = bits })
closing_is page count last bits e f = ap (λ p. Some (let x : Closing = record { page = p; bits = count } in x)) e ∙ ap (λ b. Some (let x : Closing = record { page = last; bits = b } in x)) f

pub ticked_some : (old after : Agent) (rules : Rules) (l : Ledger) (u : Unfinished) (clock : ℕ) (page : PageNo) (bits : ℕ) → StandsWhole old rules l u → page ≡ old.page
    → IsDueBits rules l.account clock (Some bits) → StandsWhole after rules (turned_at l clock) u → IsTicked rules l u clock true (Some (record { page = page; bits = bits })) after
ticked_some old after rules l u clock page bits s here due stands =
    let a = l.account in record {
      told = closing_is page.number bits (length a.closings) (fill rules a (open_page a.closings)) (ap (λ p. p.number) here ∙ s.stands.pages.page) due.0 ∙ ap (told_at rules a) (sym due.1);
      stands = subst (λ x. StandsWhole after rules (let m : Ledger = record l { account = cond x (with_closing a clock) a } in m) u) (sym due.1) stands;
    }

pub ticked_none : (agent : Agent) (rules : Rules) (l : Ledger) (u : Unfinished) (clock : ℕ) → StandsWhole agent rules l u → IsDueBits rules l.account clock None → IsTicked rules l u clock true None agent
ticked_none agent rules l u clock s due =
    let a = l.account in record {
      told = ap (told_at rules a) (sym due);
      stands = subst (λ x. StandsWhole agent rules (let m : Ledger = record l { account = cond x (with_closing a clock) a } in m) u) (sym due) s;
    }

pub not_ticked : (agent : Agent) (rules : Rules) (l : Ledger) (u : Unfinished) (clock : ℕ) → StandsWhole agent rules l u → IsTicked rules l u clock false None agent
not_ticked agent rules l u clock s = record { told = refl; stands = s }

-- ---- clocks

-- the agent's clock is not past that of a barrier that may come
pub clock_before : (agent : Agent) (clock : ℕ) (tick : Bool) → MayPass (StandsWhole agent) clock tick → agent.catalogue.clock ≤ clock
clock_before agent clock tick (rules, l, u, s, late, room) = s.stands.clock clock late.then late.closings

pub clock_after : (old after : Agent) (clock : ℕ) (tick : Bool) → MayPass (StandsWhole old) clock tick → ((rules : Rules) (l : Ledger) (u : Unfinished) → StandsWhole old rules l u → StandsWhole after rules (turned_at l clock) u) → after.catalogue.clock ≤ clock
clock_after old after clock tick (rules, l, u, s, late, room) turned =
    (turned rules l u s).stands.clock clock late.then (λ time has.
    elim (Contains-append_cases l.account.closings (clock ∷ []) time has) [
      | inl old ↦ late.closings time old
      | inr new ↦ let e : clock ≡ time = has_one clock time new in omega arith
    ])

pub none_rise : {X : Type 0} (cmp : X → X → Ordering) → IsStrictlySortedBy cmp []
unfolding IsStrictlySortedBy
none_rise cmp = tt

-- ---- after want of memory

pub recorded_same : (old new : Agent) (clock : ℕ) → ((rules : Rules) (l : Ledger) (u : Unfinished) → StandsFor old rules l u → StandsFor new rules l u)
    → (rules : Rules) (l : Ledger) (u : Unfinished) → StandsFor old rules l u → StandsForSame new rules l clock
recorded_same old new clock same rules l u s = record { after = l; unfinished = u; stands = same rules l u s; router = refl; entries = refl; rows = refl; closings = inl refl }
