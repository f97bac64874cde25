-- Which names a replay has changed on its shelf.
use Rattle.std.proofs.Common.{ℕ, ◌≡◌, ◌<◌, ◌∷◌, [], ◌++◌, ◌∙◌, ⊎_elim, Bool, cond, ◌==◌, List, length, sym, ap, refl, subst, arith}
use Rattle.std.specs.List.{Contains}
use Rattle.std.proofs.lemmas.Bool.{eq-eqb}
use Rattle.std.proofs.lemmas.List.Elements.{Contains-append_left, Contains-append_right}
use Rattle.spie_base.specs.declared.Rules.{Rules}
use Rattle.page_shelf.specs.Shelves.{ChangesOnly, Contents}
use Rattle.page_shelf.specs.declared.ShelfName.{ShelfName}
use Rattle.router_account.specs.Barriers.{IsSplit, archive_view}
use Rattle.router_account.specs.Ledger.{Ledger, Split}
use Rattle.data_agent.specs.declared.Barrier.{Barrier}
use Rattle.data_agent.specs.Calls.{IsNotedName, IsPassedName, split_of}
use Rattle.trace_history.specs.History.{Event, History, archived}
use Rattle.trace_history.specs.Ledgers.{covered_by, covers}
use Rattle.trace_history.specs.Replay.{IsCoveredName}
use Rattle.trace_replay.specs.Agents.{passed}
use Rattle.trace_replay.proofs.Filled.{moment_of}

-- one moment more covers no less
pub covered_more : (n line : ℕ) (e : Event) (h : History) (name : ShelfName) → IsCoveredName n h name → IsCoveredName n (moment_of line e ∷ h) name
covered_more n line e h name is = record {
  router = is.router;
  page = Contains-append_right (covered_by name.router.number e) (covers name.router.number h) name.page.number is.page;
}

-- what is changed later comes to what was changed before
pub untouched_then : (n : ℕ) (h k : History) (start was now : Contents) → ((name : ShelfName) → IsCoveredName n h name → IsCoveredName n k name)
    → ChangesOnly (IsCoveredName n h) start was → ChangesOnly (IsCoveredName n k) was now → ChangesOnly (IsCoveredName n k) start now
untouched_then n h k start was now more old new name apart = new name apart ∙ old name (λ is. apart (more name is))

-- an archival changes names of pages that it covers
pub archived_covers : (n : ℕ) (rules : Rules) (l : Ledger) (split : Split) (r line : ℕ) (h : History) (name : ShelfName) → r < n → l.account.router ≡ r → IsSplit rules (archive_view l l.account.closings) split
    → IsNotedName rules l name → IsCoveredName n (moment_of line (archived r split.put split.kept) ∷ h) name
archived_covers n rules l split r line h name l0 own is noted =
    let at : name.router.number ≡ r = noted.router ∙ own in
    let pages : List ℕ = split.put ++ split.kept in
    let page : Contains pages name.page.number = ⊎_elim (λ put. Contains-append_left split.put split.kept name.page.number put) (λ kept. Contains-append_right split.put split.kept name.page.number kept) ((is.all name.page.number).1 noted.covered) in
    let B : Bool → Type 0 = λ b. Contains (cond b pages []) name.page.number in
    let Q : ℕ → Type 0 = λ q. Contains (cond (r == q) pages []) name.page.number in
    let N : ℕ → Type 0 = λ q. q < n in
    record {
      router = subst N (sym at) l0;
      page = Contains-append_left (covered_by name.router.number (archived r split.put split.kept)) (covers name.router.number h) name.page.number (subst Q (sym at) (subst B (sym (eq-eqb r r refl)) page));
    }

-- a barrier changes names of pages that are covered behind it
pub passed_page : (rules : Rules) (l : Ledger) (clock : ℕ) (tick : Bool) (b : Barrier) (name : ShelfName) → IsPassedName rules l (passed rules l clock tick b) (split_of b) name → Contains (passed rules l clock tick b).covered_before name.page.number
passed_page rules l clock tick b name is =
    ⊎_elim (λ put. Contains-append_left ((split_of b).put ++ (split_of b).kept) l.covered_before name.page.number put) (λ expiring. expiring.covered) is.page
