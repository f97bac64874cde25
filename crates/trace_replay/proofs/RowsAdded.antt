-- The rows of records are added.
use Rattle.std.proofs.Common.{ℕ, ◌≡◌, ◌≢◌, ◌<◌, ◌∷◌, [], ◌++◌, ◌∙◌, ⊎_elim, Bool, true, false, cond, ◌==◌, List, length, get_or, set, sym, ap, refl, subst, arith, length-set, append-nil}
use Rattle.std.specs.Prelude.{slice_get, Some}
use Rattle.std.proofs.lemmas.Bool.{eq-eqb, eqb-true, false_from_ne_true, false≢true}
use Rattle.std.proofs.lemmas.Grind.{get_or-set_at}
use Rattle.std.proofs.lemmas.List.{get_or-set_other}
use Rattle.std.proofs.lemmas.Option.{get_or_from_slice_get}
use Rattle.spie_base.specs.declared.RouterId.{RouterId}
use Rattle.spie_base.specs.declared.Rules.{Rules}
use Rattle.spie_base.specs.declared.Sig.{Sig}
use Rattle.packet_signature.specs.declared.Kind.{Kind}
use Rattle.packet_signature.specs.declared.Row.{Row}
use Rattle.packet_signature.specs.Row.{row_of}
use Rattle.archive_record.specs.Spelling.{IsRow}
use Rattle.trace_format.specs.declared.Line.{Line}
use Rattle.trace_format.specs.declared.Trace.{Trace}
use Rattle.trace_format.specs.declared.What.{What}
use Rattle.trace_format.specs.declared.What.TheVariants as what
use Rattle.trace_format.specs.Sound.{IsWithin, is_recording}
use Rattle.router_account.specs.Account.{RowIn}
use Rattle.router_account.specs.Ledger.{Ledger, Unfinished, changed_in}
use Rattle.data_agent.specs.Calls.{IsNear}
use Rattle.trace_history.specs.History.{rows_after}
use Rattle.trace_history.specs.Receipts.{Receipt}
use Rattle.trace_workers.specs.Records.{hop_of, no_sig, sig_at}
use Rattle.trace_replay.specs.Agents.{Standing}
use Rattle.trace_replay.specs.Concluding.{with_rows, receipt_at, IsNearby, MayAddRow, AddsRow}
use Rattle.trace_replay.specs.Operated.{row_by}
use Rattle.trace_replay.proofs.Needs.{row_kind}
use Rattle.trace_replay.proofs.RowCounts.{rows_few}
use Rattle.trace_replay.proofs.Sums.{same_or}

cond_none : (b : Bool) → cond b [] [] ≡ ◌++◌ {A = RowIn} [] []
cond_none true = refl
cond_none false = refl

-- a record's row is added at its own router alone
other_row : (r : ℕ) (x : Receipt) → x.hop.router ≢ r → row_by r x ≡ []
other_row r x ne = let test : (x.hop.router == r) ≡ false = false_from_ne_true _ (λ b. ne (eqb-true x.hop.router r b)) in
    ap (λ b. cond b (rows_after [] x.page x.hop.sig x.hop.origin) []) test

abbrev changed_row : (page : ℕ) → Row → RowIn
changed_row page row = record { page = page; row = row }

own_row : (sigs : List Sig) (w : What) (page : ℕ) (router : RouterId) (kind : Kind) (old new : ℕ) (before sig : Sig) → w ≡ what.Xf router kind old new → slice_get sigs old ≡ Some before → slice_get sigs new ≡ Some sig
    → row_by router.number (record { hop = hop_of sigs w; page = page }) ≡ changed_row page (row_of kind before sig) ∷ []
own_row sigs w page router kind old new before sig is known_old known_new =
    let test : (router.number == router.number) ≡ true = eq-eqb router.number router.number refl in
    let x : Sig → Sig → List RowIn = λ a b. changed_row page (row_of kind a b) ∷ [] in
    ap (λ (v : What). row_by router.number (record { hop = hop_of sigs v; page = page })) is
    ∙ ap (λ b. cond b (x (sig_at sigs old) (sig_at sigs new)) []) test
    ∙ ap (λ a. x a (sig_at sigs new)) (get_or_from_slice_get sigs old before no_sig known_old)
    ∙ ap (λ b. x before b) (get_or_from_slice_get sigs new sig no_sig known_new)

router_is : (sigs : List Sig) (w : What) (router : RouterId) (kind : Kind) (old new : ℕ) → w ≡ what.Xf router kind old new → (hop_of sigs w).router ≡ router.number
router_is sigs w router kind old new is = ap (λ (v : What). (hop_of sigs v).router) is

pub no_rows : (l : Ledger) → with_rows l [] ≡ l
no_rows l = let set_rows : List RowIn → Ledger = λ rs. record l { account = record l.account { rows = rs } } in ap set_rows (append-nil l.account.rows)

module _ {A : Type 0} (stands : Standing A) (t : Trace) (line : Line) (page : ℕ) (agents : List A) (d new : A) (router : RouterId) (kind : Kind) (old later : ℕ) (before sig : Sig) (row : Row)
    (is : line.what ≡ what.Xf router kind old later) (known_old : slice_get t.sigs old ≡ Some before) (known_new : slice_get t.sigs later ≡ Some sig) (row_is : row ≡ row_of kind before sig)
    (ready : MayAddRow stands t line page agents) where
  abbrev r0 : ℕ
  r0 = router.number

  at_router : (receipt_at t line page).hop.router ≡ r0
  at_router = router_is t.sigs line.what router kind old later is

  pub router_in : r0 < length agents
  router_in = (let P : What → Type 0 = λ w. IsWithin (length agents) (length t.sigs) w in subst P is ready.4).0

  pub change_near : (rules : Rules) × (l : Ledger) × (u : Unfinished) × stands (get_or agents r0 d) rules l u × IsNear rules l page row
  change_near =
      let rules = ready.0 in
      let ls = ready.1 in
      let near = ready.5 in
      let few = ready.6 in
      let K : Row → Type 0 = λ x. IsRow x.kind x.old in
      let N : ℕ → Type 0 = λ r. IsNearby (rules r) (ls r) page in
      let F : ℕ → Type 0 = λ r. length (ls r).account.rows < 1000000 in
      let here = subst N at_router near in
      let less = subst F at_router few in
      let most = rows_few (ls r0).account.rows page in (
        rules r0,
        ls r0,
        ready.2 r0,
        ready.3 r0 d router_in,
        record { exists = here.exists; live = here.live; unput = here.unput; few = omega (arith, less, most); kind = subst K (sym row_is) (row_kind kind before sig) },
      )

  pub change_adds : ((rules : Rules) (l : Ledger) (u : Unfinished) → stands (get_or agents r0 d) rules l u → stands new rules (changed_in l page row) u) → AddsRow stands t line page agents (set agents r0 new)
  change_adds call = record {
    same = length-set agents r0 new;
    adds = λ rules ls us there r e l.
        let l1 : r < length agents = (let n = length-set agents r0 new in omega (arith, l, n)) in
        let Q : A → Type 0 = λ a. stands a (rules r) (with_rows (ls r) (row_by r (receipt_at t line page))) (us r) in
        ⊎_elim
        (λ (s : r ≡ r0).
        let P : ℕ → Type 0 = λ q. stands new (rules q) (with_rows (ls q) (row_by q (receipt_at t line page))) (us q) in
        let R : List RowIn → Type 0 = λ rs. stands new (rules r0) (with_rows (ls r0) rs) (us r0) in
        let now = call (rules r0) (ls r0) (us r0) (there r0 d router_in) in
        let same = ap (λ (x : Row). changed_row page x ∷ []) row_is ∙ sym (own_row t.sigs line.what page router kind old later before sig is known_old known_new) in
        subst Q (sym (get_or-set_at agents r0 r new e s router_in)) (subst P (sym s) (subst R same now)))
        (λ (ne : r ≢ r0).
        let S : Ledger → Type 0 = λ k. stands (get_or agents r e) (rules r) k (us r) in
        let none = other_row r (receipt_at t line page) (λ x. ne (sym x ∙ at_router)) in
        subst Q (sym (get_or-set_other agents r0 r new e ne)) (subst S (sym (ap (λ (rs : List RowIn). with_rows (ls r) rs) none ∙ no_rows (ls r))) (there r e l1)))
        (same_or r r0);
  }

-- a record that came as it left adds none
forward_row : (sigs : List Sig) (w : What) (page r : ℕ) → is_recording w ≡ true → ((router : RouterId) (kind : Kind) (old new : ℕ) → w ≡ what.Xf router kind old new → ⊥)
    → row_by r (record { hop = hop_of sigs w; page = page }) ≡ []
forward_row sigs (what.Fwd router packet) page r is other = cond_none (router.number == r)
forward_row sigs (what.Xf router kind old new) page r is other = absurd (other router kind old new refl)
forward_row sigs (what.Rotate router) page r is other = absurd (false≢true is)
forward_row sigs (what.Archive router) page r is other = absurd (false≢true is)
forward_row sigs (what.Watch router packet) page r is other = absurd (false≢true is)
forward_row sigs (what.Tick time) page r is other = absurd (false≢true is)
forward_row sigs (what.Query router packet time) page r is other = absurd (false≢true is)
forward_row sigs what.End page r is other = absurd (false≢true is)

pub forward_adds : {A : Type 0} (stands : Standing A) (t : Trace) (line : Line) (page : ℕ) (agents : List A) → is_recording line.what ≡ true
    → ((router : RouterId) (kind : Kind) (old new : ℕ) → line.what ≡ what.Xf router kind old new → ⊥) → AddsRow stands t line page agents agents
forward_adds stands t line page agents is other = record {
  same = refl;
  adds = λ rules ls us there r d l.
      let S : Ledger → Type 0 = λ k. stands (get_or agents r d) (rules r) k (us r) in
      subst S (sym (ap (λ (rs : List RowIn). with_rows (ls r) rs) (forward_row t.sigs line.what page r is other) ∙ no_rows (ls r))) (there r d l);
}
