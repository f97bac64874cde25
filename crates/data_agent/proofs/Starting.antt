-- What a new agent stands for.
use Rattle.std.proofs.Common.{None, cond, ℕ, ◌≡◌, ◌<◌, ◌^◌, ◌∷◌, [], ◌∙◌, List, length, filter, sym, ap, refl, subst, arith, Bool, true, false, ◌&&◌, ◌||◌, nat_lt, lit<}
use Rattle.std.proofs.lemmas.Bool.{le-ltb, false≢true}
use Rattle.std.proofs.lemmas.List.Elements.{All-nil}
use Rattle.std.specs.List.{range_with_len}
use Rattle.bloom_page.specs.Sets.{set_of}
use Rattle.page_catalogue.specs.Pages.{is_expired}
use Rattle.page_catalogue.specs.Catalogues.{Catalogued, AreExpired}
use Rattle.router_account.specs.Ledger.{first_ledger, nothing_unfinished}
use Rattle.spie_base.proofs.Membership.{has_none}
use Rattle.spie_base.specs.Shapes.{shape_of, AreInRange}
use Rattle.spie_base.specs.declared.Rules.{Rules}
use Rattle.transform_table.specs.Tables.{rows_of_page}
use Rattle.packet_signature.specs.declared.Row.{Row}
use Rattle.router_account.specs.Account.{first_account, rows_in, fill}
use Rattle.data_agent.specs.declared.agent.Agent.{Agent}
use Rattle.archive_record.specs.Spelling.{IsRow, IsPlainRow}
use Rattle.data_agent.specs.Standing.{AreSpelled, AreTimes, HasNotes, IsKeeping, StandsFor, rows_kept, standing}
use Rattle.gate_core.specs.Views.{first_keeper}
use Rattle.page_gate.specs.Held.{Held, Home}
use Rattle.data_agent.proofs.Keeping.{kept_first}

filter_none : (xs : List ℕ) → filter (λ p. false) xs ≡ []
filter_none [] = refl
filter_none (x ∷ xs) = filter_none xs

none_filled : (rules : Rules) (router : ℕ) → fill rules (first_account router) 0 ≡ 0
unfolding set_of
none_filled rules router = ap length (filter_none (range_with_len 0 (2 ^ rules.n)))

none_below : (page : ℕ) → nat_lt page 0 ≡ false
none_below page = le-ltb page 0 (omega arith)

and_first : (a b : Bool) → a ≡ false → a ≡ (a && b)
and_first false b e = refl
and_first true b e = absurd (false≢true (sym e))

no_rows : (page : ℕ) → rows_in [] page ≡ []
unfolding rows_in
no_rows page = refl

none_expired : (rules : Rules) → AreExpired rules [] 0 0
unfolding is_expired
none_expired rules page = and_first (nat_lt page 0) _ (none_below page)

none_either : (b : Bool) (rows : List Row) → rows ≡ [] → [] ≡ cond b [] rows
none_either true rows none = refl
none_either false rows none = sym none

no_times : AreTimes []
no_times = record { ascend = λ i j le lt. absurd (omega arith); fit = λ time has. absurd (has_none time has) }

none_spelled : AreSpelled []
none_spelled = record { few = omega arith; kinds = All-nil (λ row. IsRow row.kind row.old); plain = All-nil IsPlainRow }

nothing_kept : (gone : ℕ) (router page : ℕ) → [] ≡ rows_kept gone (first_ledger router) page
nothing_kept gone router page = none_either (nat_lt page gone || false) (rows_in [] page) (no_rows page)

pub started : (agent : Agent) (table : Home) (rules : Rules) (router : ℕ) → AreInRange rules.k rules.n → router < 64 → agent.rules ≡ rules → agent.router.number ≡ router
    → agent.catalogue ≡ record { rules = rules; closings = []; places = []; gone = 0; clock = 0; room = agent.catalogue.room }
    → agent.page.number ≡ 0 → agent.keeper ≡ record { table = table; view = first_keeper } → agent.marked ≡ 0 → agent.closed.items ≡ [] → agent.table ≡ [] → agent.noted ≡ None → StandsFor agent rules (first_ledger router) nothing_unfinished
started agent table rules router ranges fits rules_are router_is catalogue page keeper marked items none_added none_noted =
    let empty : fill rules (first_account router) 0 ≡ 0 = none_filled rules router in
    let gone : agent.catalogue.gone ≡ 0 = ap (λ (c : Catalogued). c.gone) catalogue in
    let none : length agent.closed.items ≡ 0 = ap length items in
    let here : standing agent ≡ 0 = omega arith in
    record {
      amid = record {
        pages = record {
          ranges = ranges;
          router_fits = fits;
          rules_are = rules_are;
          router = router_is;
          by_rules = ap (λ (c : Catalogued). c.rules) catalogue;
          closings = ap (λ (c : Catalogued). c.closings) catalogue;
          times = no_times;
          few = lit< tt;
          page = page;
          entered = λ k d lt. absurd (omega arith);
          marked = omega arith;
          keeping = subst (λ (n : ℕ). IsKeeping (shape_of rules router) agent.keeper [] n 0) (sym here) (subst (λ (k : Held). IsKeeping (shape_of rules router) k [] 0 0) (sym keeper) (kept_first (shape_of rules router) table));
        };
        closed = λ i d lt. absurd (omega arith);
        to_come = λ page le. record { unput = refl; uncovered = refl };
        rows = record {
          table = λ page. ap (rows_of_page page) none_added ∙ nothing_kept agent.catalogue.gone router page;
          spelled = λ page le. subst AreSpelled (sym (no_rows page)) none_spelled;
        };
        expired = subst (λ n. AreExpired rules [] 0 n) (sym gone) (none_expired rules);
        clock = λ later then closings. let e : agent.catalogue.clock ≡ 0 = ap (λ (c : Catalogued). c.clock) catalogue in omega arith;
      };
      noted = subst (λ noted. HasNotes rules (first_ledger router) nothing_unfinished None noted) (sym none_noted) refl;
    }
