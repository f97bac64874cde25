-- What a watch answers, by the pages in memory.
use Rattle.std.proofs.Common.{ℕ, ◌≡◌, ◌≤◌, ◌<◌, ◌∙◌, List, get_or, Bool, true, false, not, ◌&&◌, ◌||◌, sym, ap, refl, arith, inl, inr}
use Rattle.std.specs.List.{Contains, list_any}
use Rattle.std.proofs.lemmas.Bool.{cases_lt, false≢true}
use Rattle.std.proofs.lemmas.List.{get_or_default}
use Rattle.std.proofs.lemmas.List.Folds.{list_any_at, list_any_none}
use Rattle.spie_base.specs.Shapes.{shape_of}
use Rattle.spie_base.specs.declared.Rules.{Rules}
use Rattle.spie_base.specs.declared.Sig.{Sig}
use Rattle.hash_family.specs.Positions.{positions_by}
use Rattle.hash_family.proofs.PositionFacts.{marks_of-family}
use Rattle.bloom_page.specs.Sets.{are_in, is_in}
use Rattle.router_account.specs.declared.words.Watch.TheVariants.{Seen}
use Rattle.router_account.specs.Account.{Account, bits, window}
use Rattle.router_account.specs.Ledger.{Ledger}
use Rattle.router_account.specs.Watches.{is_missing_now, misses, shows as is_shown_in, is_shown, watch_word, watch_of}
use Rattle.data_agent.specs.declared.agent.Agent.{Agent}
use Rattle.data_agent.specs.declared.resident.Resident.{Resident}
use Rattle.data_agent.specs.Residents.{IsResident, shows}
use Rattle.data_agent.specs.Standing.{StandsAmid}
use Rattle.data_agent.specs.Watching.{IsLacking, shows_now}
use Rattle.data_agent.proofs.Windows.{IsWindow, page_gone, page_live}

-- a page shows a signature where what was recorded in it does
pub same_shows : (rules : Rules) (a : Account) (page : ℕ) (r : Resident) (sig : Sig) → IsResident rules a page r → shows r sig ≡ is_shown_in rules a sig page
same_shows rules a page r sig is =
    ap (λ s. are_in s.members (positions_by r.family.value sig)) is.page_is
    ∙ ap (λ f. are_in (bits rules a page) (positions_by f sig)) is.family
    ∙ ap (are_in (bits rules a page)) (sym (marks_of-family (shape_of rules a.router) page sig))

pub any_has : {X : Type 0} (p : X → Bool) (xs : List X) (x : X) → Contains xs x → p x ≡ true → list_any p xs ≡ true
any_has p xs x (i, within, is) holds = list_any_at p xs i x within (ap p is ∙ holds)

pub none_has : {X : Type 0} (p : X → Bool) (xs : List X) → ((x : X) → Contains xs x → p x ≡ false) → list_any p xs ≡ false
none_has p xs none = list_any_none p xs (λ i d within. none (get_or xs i d) (i, within, get_or_default xs i (get_or xs i d) d within))

-- a page that has not expired is missing where it was put, and one that has expired is missing
missing_near : (agent : Agent) (rules : Rules) (l : Ledger) (page : ℕ) → StandsAmid agent rules l → agent.catalogue.gone ≤ page → is_missing_now rules l page ≡ is_in l.put_before page
missing_near agent rules l page s near = ap (λ b. b || is_in l.put_before page) (page_live agent rules l s.expired page near)

missing_gone : (agent : Agent) (rules : Rules) (l : Ledger) (page : ℕ) → StandsAmid agent rules l → page < agent.catalogue.gone → is_missing_now rules l page ≡ true
missing_gone agent rules l page s gone = ap (λ b. b || is_in l.put_before page) (page_gone agent rules l s.expired page gone)

shown_near : (agent : Agent) (rules : Rules) (l : Ledger) (sig : Sig) (page : ℕ) → StandsAmid agent rules l → agent.catalogue.gone ≤ page → (not (is_missing_now rules l page) && is_shown_in rules l.account sig page) ≡ shows_now rules l sig page
shown_near agent rules l sig page s near = ap (λ b. not b && is_shown_in rules l.account sig page) (missing_near agent rules l page s near)

-- what is found shows what is in memory
pub shows_found : (rules : Rules) (l : Ledger) (sig : Sig) (page : ℕ) (r : Resident) → (is_in l.put_before page ≡ false) × IsResident rules l.account page r → shows r sig ≡ shows_now rules l sig page
shows_found rules l sig page r (unput, is) = same_shows rules l.account page r sig is ∙ ap (λ b. not b && is_shown_in rules l.account sig page) (sym unput)

pub shows_put : (rules : Rules) (l : Ledger) (sig : Sig) (page : ℕ) → is_in l.put_before page ≡ true → false ≡ shows_now rules l sig page
shows_put rules l sig page put = ap (λ b. not b && is_shown_in rules l.account sig page) (sym put)

pub seen_by : (agent : Agent) (rules : Rules) (l : Ledger) (time : ℕ) (sig : Sig) (first last page : ℕ) → StandsAmid agent rules l → IsWindow rules l.account time first last
    → first ≤ page → page ≤ last → agent.catalogue.gone ≤ page → shows_now rules l sig page ≡ true → watch_of rules l time sig ≡ Seen
seen_by agent rules l time sig first last page s w from to near shown =
    let any : is_shown rules l l.account time sig ≡ true =
    any_has (λ p. not (is_missing_now rules l p) && is_shown_in rules l.account sig p) (window rules l.account time) page (w.inside page from to) (shown_near agent rules l sig page s near ∙ shown) in
    ap (λ b. watch_word b (misses rules l time)) any

pub unseen_by : (agent : Agent) (rules : Rules) (l : Ledger) (time : ℕ) (sig : Sig) (first last : ℕ) → StandsAmid agent rules l → IsWindow rules l.account time first last
    → ((page : ℕ) → first ≤ page → page ≤ last → agent.catalogue.gone ≤ page → shows_now rules l sig page ≡ false) → is_shown rules l l.account time sig ≡ false
unseen_by agent rules l time sig first last s w none =
    none_has (λ p. not (is_missing_now rules l p) && is_shown_in rules l.account sig p) (window rules l.account time) (λ page has.
    let (from, to) = w.outside page has in
    elim (cases_lt page agent.catalogue.gone) [
      | inl gone ↦ ap (λ b. not b && is_shown_in rules l.account sig page) (missing_gone agent rules l page s gone)
      | inr near ↦ shown_near agent rules l sig page s near ∙ none page from to near
    ])

-- ---- what is missing

pub lacking_gone : (agent : Agent) (rules : Rules) (l : Ledger) (first last : ℕ) → StandsAmid agent rules l → first ≤ last → first < agent.catalogue.gone → IsLacking rules l first last true
lacking_gone agent rules l first last s some gone = record {
  one = λ e. (first, omega arith, some, missing_gone agent rules l first s gone);
  none = λ e. absurd (false≢true (sym e));
}

pub lacking_put : (agent : Agent) (rules : Rules) (l : Ledger) (first last page : ℕ) → StandsAmid agent rules l → first ≤ page → page ≤ last → agent.catalogue.gone ≤ first → is_in l.put_before page ≡ true → IsLacking rules l first last true
lacking_put agent rules l first last page s from to near put = record {
  one = λ e. (page, from, to, missing_near agent rules l page s (omega arith) ∙ put);
  none = λ e. absurd (false≢true (sym e));
}

pub lacking_none : (agent : Agent) (rules : Rules) (l : Ledger) (first last : ℕ) → StandsAmid agent rules l → agent.catalogue.gone ≤ first → ((page : ℕ) → first ≤ page → page ≤ last → is_in l.put_before page ≡ false) → IsLacking rules l first last false
lacking_none agent rules l first last s near unput = record {
  one = λ e. absurd (false≢true e);
  none = λ e page from to. missing_near agent rules l page s (omega arith) ∙ unput page from to;
}

misses_is : (rules : Rules) (l : Ledger) (time first last : ℕ) (said : Bool) → IsWindow rules l.account time first last → IsLacking rules l first last said → misses rules l time ≡ said
misses_is rules l time first last true w lacks = let (page, from, to, is) = lacks.one refl in any_has (is_missing_now rules l) (window rules l.account time) page (w.inside page from to) is
misses_is rules l time first last false w lacks = none_has (is_missing_now rules l) (window rules l.account time) (λ page has. let (from, to) = w.outside page has in lacks.none refl page from to)

pub watched : (rules : Rules) (l : Ledger) (time first last : ℕ) (sig : Sig) (missing : Bool) → IsWindow rules l.account time first last → is_shown rules l l.account time sig ≡ false → IsLacking rules l first last missing
    → watch_of rules l time sig ≡ watch_word false missing
watched rules l time first last sig missing w shown lacks = ap (λ b. watch_word b (misses rules l time)) shown ∙ ap (watch_word false) (misses_is rules l time first last missing w lacks)
