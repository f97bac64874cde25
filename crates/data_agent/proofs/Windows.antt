-- The pages of a window, and which of them have expired.
use Rattle.std.proofs.Common.{ℕ, ◌≡◌, ◌≤◌, ◌<◌, ◌+◌, ◌↔◌, ◌∙◌, length, IsTrue, true, false, sym, ap, subst, nat_lt, arith}
use Rattle.std.specs.List.{Contains}
use Rattle.std.proofs.lemmas.Bool.{lt-ltb, le-ltb}
use Rattle.spie_base.proofs.Membership.{from_filter, into_filter}
use Rattle.spie_base.specs.declared.Rules.{Rules}
use Rattle.bloom_page.proofs.Members.{Contains-range}
use Rattle.page_catalogue.specs.Pages.{is_in_window}
use Rattle.page_catalogue.proofs.Windows.{from_test}
use Rattle.router_account.specs.Account.{Account, window, below}
use Rattle.router_account.specs.Ledger.{Ledger, was_expired}
use Rattle.data_agent.specs.declared.agent.Agent.{Agent}
use Rattle.data_agent.specs.Standing.{HasPages}

-- the first and the last page of the window of a time
pub record IsWindow (rules : Rules) (a : Account) (time first last : ℕ) : Type 0 where
  pub some : first ≤ last
  pub exists : last ≤ length a.closings
  pub inside : (page : ℕ) → first ≤ page → page ≤ last → Contains (window rules a time) page
  pub outside : (page : ℕ) → Contains (window rules a time) page → (first ≤ page) × (page ≤ last)

pub window_has : (rules : Rules) (a : Account) (time page : ℕ) → IsTrue (is_in_window rules a.closings time page) → Contains (window rules a time) page
window_has rules a time page is =
    let exists : page ≤ length a.closings = (from_test rules a.closings time page is).exists in
    into_filter (is_in_window rules a.closings time) (below (length a.closings + 1)) page (Contains-range (length a.closings + 1) page (omega arith)) is

-- what a catalogue answers
pub window_is : (agent : Agent) (rules : Rules) (a : Account) (time first last : ℕ) → HasPages agent rules a → first ≤ last → last ≤ length agent.catalogue.closings
    → ((p : ℕ) → ((first ≤ p) × (p ≤ last)) ↔ IsTrue (is_in_window agent.catalogue.rules agent.catalogue.closings time p)) → IsWindow rules a time first last
window_is agent rules a time first last s some exists exact =
    let same : (p : ℕ) → is_in_window agent.catalogue.rules agent.catalogue.closings time p ≡ is_in_window rules a.closings time p =
    λ p. ap (λ (r : Rules). is_in_window r agent.catalogue.closings time p) s.by_rules ∙ ap (λ xs. is_in_window rules xs time p) s.closings in
    record {
      some = some;
      exists = let e : length agent.catalogue.closings ≡ length a.closings = ap length s.closings in omega arith;
      inside = λ page from to. window_has rules a time page (subst IsTrue (same page) ((exact page).0 (from, to)));
      outside = λ page has. (exact page).1 (subst IsTrue (sym (same page)) (from_filter (is_in_window rules a.closings time) (below (length a.closings + 1)) page has).1);
    }

-- expired pages are those before the first that is not
pub page_gone : (agent : Agent) (rules : Rules) (l : Ledger) → ((page : ℕ) → nat_lt page agent.catalogue.gone ≡ was_expired rules l page) → (page : ℕ) → page < agent.catalogue.gone → was_expired rules l page ≡ true
page_gone agent rules l exact page lt = sym (exact page) ∙ lt-ltb page agent.catalogue.gone lt

pub page_live : (agent : Agent) (rules : Rules) (l : Ledger) → ((page : ℕ) → nat_lt page agent.catalogue.gone ≡ was_expired rules l page) → (page : ℕ) → agent.catalogue.gone ≤ page → was_expired rules l page ≡ false
page_live agent rules l exact page le = sym (exact page) ∙ le-ltb page agent.catalogue.gone le
