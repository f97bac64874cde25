-- What an agent stands for is a matter of the pages that its ledger has, and not of their order.
use Rattle.std.proofs.Common.{ℕ, ◌≡◌, ◌+◌, ◌∙◌, ◌||◌, List, [], get_or, cond, nat_lt, Option, Some, None, Vec, Global, sym, ap, subst, refl}
use Rattle.spie_base.specs.declared.Rules.{Rules}
use Rattle.bloom_page.specs.Sets.{is_in}
use Rattle.router_account.specs.Account.{rows_in}
use Rattle.router_account.specs.Ledger.{Ledger, Unfinished}
use Rattle.data_agent.specs.declared.agent.Agent.{Agent}
use Rattle.data_agent.specs.declared.archival.Note.{Note}
use Rattle.data_agent.specs.Standing.{HasNotes, IsPlaced, Stands}

abbrev pub with_pages : Ledger → (put covered left : List ℕ) → Option (List ℕ) → Ledger
with_pages l put covered left at = record l { put_before = put; covered_before = covered; left_before = left; closed_at_archive = at }

pub stands_like : (agent : Agent) (rules : Rules) (l : Ledger) (put covered left : List ℕ) (at : Option (List ℕ)) → ((page : ℕ) → is_in put page ≡ is_in l.put_before page) → ((page : ℕ) → is_in covered page ≡ is_in l.covered_before page)
    → Stands agent rules l → Stands agent rules (with_pages l put covered left at)
stands_like agent rules l put covered left at same_put same_covered s = record {
  pages = s.pages;
  count = s.count;
  closed = λ i d lt.
      let page : ℕ = agent.catalogue.gone + i in
      let is = s.closed i d lt in
      record { covered = is.covered ∙ sym (same_covered page); placed = subst (λ b. IsPlaced rules l.account page b (get_or agent.closed.items i d).place) (sym (same_put page)) is.placed };
  to_come = λ page le. let t = s.to_come page le in record { unput = same_put page ∙ t.unput; uncovered = same_covered page ∙ t.uncovered };
  rows = record {
    table = λ page. s.rows.table page ∙ ap (λ b. cond (nat_lt page agent.catalogue.gone || b) [] (rows_in l.account.rows page)) (sym (same_put page));
    spelled = s.rows.spelled;
  };
  expired = s.expired;
  clock = s.clock;
}

-- ---- the notes of an agent

pub none_noted : (rules : Rules) (l : Ledger) (u : Unfinished) (at : Option (List ℕ)) (noted : Option (Vec Note Global)) → HasNotes rules l u at noted → at ≡ None → noted ≡ None
none_noted rules l u None None h e = refl
none_noted rules l u None (Some notes) h e = absurd h
none_noted rules l u (Some closings) noted h e = absurd (let f : Some closings ≡ None = e in cc)

pub not_noted : (rules : Rules) (l : Ledger) (u : Unfinished) (at : Option (List ℕ)) (noted : Option (Vec Note Global)) → HasNotes rules l u at noted → noted ≡ None → (at ≡ None) × (u.refused ≡ 0)
not_noted rules l u None None h e = (refl, h)
not_noted rules l u (Some closings) None h e = absurd h
not_noted rules l u None (Some notes) h e = absurd h
not_noted rules l u (Some closings) (Some notes) h e = absurd (let f : Some notes ≡ None = e in cc)
