-- What the agents' calls need at a line.
use Rattle.std.proofs.Common.{ℕ, ◌≡◌, ◌≤◌, ◌<◌, ◌+◌, ◌∙◌, Bool, true, false, cond, List, length, get_or, sym, ap, refl, subst, arith}
use Rattle.std.specs.Prelude.{nat_lt, nat_le, ◌&&◌, ◌||◌, ◌-◌}
use Rattle.std.proofs.lemmas.Bool.Decides.{nat_tests}
use Rattle.spie_base.specs.declared.RouterId.{RouterId}
use Rattle.spie_base.specs.declared.Rules.{Rules}
use Rattle.spie_base.specs.declared.Sig.{Sig}
use Rattle.packet_signature.specs.declared.Kind.{Kind}
use Rattle.packet_signature.specs.declared.Kind.TheVariants.{Frag, Nat, Icmp, Ipip, Decap}
use Rattle.packet_signature.specs.declared.Row.{Row}
use Rattle.packet_signature.specs.declared.RowData.TheVariants.{Direct, Indirect}
use Rattle.packet_signature.specs.Row.{row_of, agree, fragment_bytes}
use Rattle.archive_record.specs.Spelling.{IsRow}
use Rattle.page_catalogue.specs.Pages.{open_page, is_expired, closed}
use Rattle.trace_format.specs.declared.Line.{Line}
use Rattle.trace_format.specs.declared.Trace.{Trace}
use Rattle.trace_format.specs.declared.What.{What}
use Rattle.trace_format.specs.declared.What.TheVariants as what
use Rattle.trace_format.specs.Sound.{FitsOnce, IsWithin, is_recording}
use Rattle.router_account.specs.Ledger.{Ledger, Unfinished, no_split, recorded_in}
use Rattle.router_account.specs.Shelves.{ShelfView}
use Rattle.data_agent.specs.Calls.{IsNear, MayTurn, MayNote}
use Rattle.trace_history.specs.History.{History, account}
use Rattle.trace_history.specs.Ledgers.{ledger, closed_at_archive}
use Rattle.trace_history.specs.Receipts.{up_to_barrier}
use Rattle.trace_history.specs.Routers.{count, rules_of}
use Rattle.trace_replay.specs.declared.state.State.{State}
use Rattle.trace_replay.specs.Agents.{Standing}
use Rattle.trace_replay.specs.Segments.{Splits, filled, archived_in}
use Rattle.trace_replay.specs.Standing.{Way, IsNext}
use Rattle.trace_replay.proofs.Closed.{grows_filled, puts_closed}
use Rattle.trace_replay.proofs.Filled.{up_filled, archive_is}
use Rattle.trace_replay.proofs.Inner.{none_of, within, stands_at, late_at, room_at}
use Rattle.trace_replay.proofs.RowCounts.{rows_few, rows_history, records_filled}

not_less : (a b : ℕ) → b ≤ a → nat_lt a b ≡ false
not_less a b l = grind (arith, nat_tests)

-- a page that was open at a barrier was not expired there
open_live : (rules : Rules) (closings : List ℕ) (clock page : ℕ) → length closings ≤ page → is_expired rules closings clock page ≡ false
unfolding is_expired
open_live rules closings clock page l = ap (λ b. b && (nat_le (page + 1 + rules.keep) (length closings) || nat_le rules.age (clock - closed closings page))) (not_less page (length closings) l)

row_by : (b : Bool) (bytes : List ℕ) (old : Sig) → IsRow Frag (cond b (Direct bytes) (Indirect old))
row_by true bytes old = refl
row_by false bytes old = tt

-- only a fragment's row is direct
pub row_kind : (kind : Kind) (old new : Sig) → IsRow (row_of kind old new).kind (row_of kind old new).old
unfolding row_of
row_kind Frag old new = row_by (agree old new) (fragment_bytes old) old
row_kind Nat old new = tt
row_kind Icmp old new = tt
row_kind Ipip old new = tt
row_kind Decap old new = tt

module _ {A : Type 0} (way : Way A) (stands : Standing A) (t : Trace) (line : Line) (agents : List A) (d : A) (s : State) (now : ShelfView) (ready : IsNext way stands t line agents s now) where
  abbrev start : ShelfView
  start = ready.0

  abbrev history : History
  history = ready.1

  abbrev seg : History
  seg = ready.2

  abbrev plain : Splits
  plain q = no_split

  abbrev here : ℕ → Ledger
  here r = ledger (rules_of t) r (filled plain seg history)

  pub router_in : (router : ℕ) → ((n m : ℕ) → IsWithin n m line.what → router < n) → router < count t
  router_in router named = named (count t) (length t.sigs) ready.4.within

  -- the router's agent is there, and stands for a ledger
  pub agent_in : (router : ℕ) → ((n m : ℕ) → IsWithin n m line.what → router < n) → router < length agents
  agent_in router named = within way stands t start history seg agents s s now now ready.3 router (router_in router named)

  pub forward_in : (router : RouterId) (packet : ℕ) → line.what ≡ what.Fwd router packet → router.number < length agents
  forward_in router packet is = agent_in router.number (λ n m w. let P : What → Type 0 = λ x. IsWithin n m x in (subst P is w).0)

  pub change_in : (router : RouterId) (kind : Kind) (before after : ℕ) → line.what ≡ what.Xf router kind before after → router.number < length agents
  change_in router kind before after is = agent_in router.number (λ n m w. let P : What → Type 0 = λ x. IsWithin n m x in (subst P is w).0)

  pub watch_in : (router : RouterId) (packet : ℕ) → line.what ≡ what.Watch router packet → router.number < length agents
  watch_in router packet is = agent_in router.number (λ n m w. let P : What → Type 0 = λ x. IsWithin n m x in (subst P is w).0)

  pub rotate_in : (router : RouterId) → line.what ≡ what.Rotate router → router.number < length agents
  rotate_in router is = agent_in router.number (λ n m w. let P : What → Type 0 = λ x. IsWithin n m x in subst P is w)

  pub archive_in : (router : RouterId) → line.what ≡ what.Archive router → router.number < length agents
  archive_in router is = agent_in router.number (λ n m w. let P : What → Type 0 = λ x. IsWithin n m x in subst P is w)

  abbrev pub agent_stands : (router : ℕ) → ((n m : ℕ) → IsWithin n m line.what → router < n) → (rules : Rules) × (l : Ledger) × (u : Unfinished) × stands (get_or agents router d) rules l u
  agent_stands router named =
      (rules_of t router, here router, ready.3.us router, stands_at way stands t start history seg agents s s now now ready.3 plain router d (router_in router named))

  abbrev pub IsStanding : (router : ℕ) → Type 0
  IsStanding router = (rules : Rules) × (l : Ledger) × (u : Unfinished) × stands (get_or agents router d) rules l u

  pub forward_stands : (router : RouterId) (packet : ℕ) → line.what ≡ what.Fwd router packet → IsStanding router.number
  forward_stands router packet is = agent_stands router.number (λ n m w. let P : What → Type 0 = λ x. IsWithin n m x in (subst P is w).0)

  pub change_stands : (router : RouterId) (kind : Kind) (before after : ℕ) → line.what ≡ what.Xf router kind before after → IsStanding router.number
  change_stands router kind before after is = agent_stands router.number (λ n m w. let P : What → Type 0 = λ x. IsWithin n m x in (subst P is w).0)

  pub watch_stands : (router : RouterId) (packet : ℕ) → line.what ≡ what.Watch router packet → IsStanding router.number
  watch_stands router packet is = agent_stands router.number (λ n m w. let P : What → Type 0 = λ x. IsWithin n m x in (subst P is w).0)

  pub rotate_ready : (router : RouterId) → line.what ≡ what.Rotate router → MayTurn (stands (get_or agents router.number d)) s.clock
  rotate_ready router is =
      let r0 = router.number in
      let has = agent_stands r0 (λ n m w. let P : What → Type 0 = λ x. IsWithin n m x in subst P is w) in
      (has.0, has.1, has.2, has.3, late_at way stands t start history seg agents s s now now ready.3 plain r0, room_at way stands t start history seg agents s s now now ready.3 plain r0 line ready.4)

  pub archive_fresh : (router : RouterId) → line.what ≡ what.Archive router → MayNote (stands (get_or agents router.number d))
  archive_fresh router is =
      let O : What → Type 0 = λ w. FitsOnce (archived_in seg) w in
      let r0 = router.number in
      let has = agent_stands r0 (λ n m w. let P : What → Type 0 = λ x. IsWithin n m x in subst P is w) in (
        has.0,
        has.1,
        has.2,
        has.3,
        none_of (closed_at_archive (rules_of t) r0 (filled plain seg history)) (archive_is (rules_of t) r0 plain seg history ready.3.ordered.inner ready.3.ordered.barred ∙ subst O is ready.4.once),
      )

  pub change_near : (router : RouterId) (kind : Kind) (before after : ℕ) (old_sig sig : Sig) (new : A) (page : ℕ) (row : Row) → line.what ≡ what.Xf router kind before after → row ≡ row_of kind old_sig sig
      → ((rules : Rules) (l : Ledger) (u : Unfinished) → stands (get_or agents router.number d) rules l u → page ≡ open_page l.account.closings)
      → ((rules : Rules) (l : Ledger) (u : Unfinished) → stands (get_or agents router.number d) rules l u → stands new rules (recorded_in l (open_page l.account.closings) sig) u)
      → (rules : Rules) × (l : Ledger) × (u : Unfinished) × stands new rules l u × IsNear rules l page row
  change_near router kind before after old_sig sig new page row is row_is opened call =
      let r0 = router.number in
      let F = filled plain seg history in
      let named : (n m : ℕ) → IsWithin n m line.what → r0 < n = λ n m w. (let P : What → Type 0 = λ x. IsWithin n m x in (subst P is w).0) in
      let at = (agent_stands r0 named).3 in
      let up : up_to_barrier F ≡ history = up_filled plain seg history ready.3.ordered.inner ready.3.ordered.barred in
      let g = grows_filled (rules_of t) r0 plain seg history in
      let n : length (here r0).closings_then ≡ length (account (rules_of t) r0 history).closings = ap (λ (h : History). length (account (rules_of t) r0 h).closings) up in
      let e : page ≡ length (here r0).account.closings = opened (rules_of t r0) (here r0) (ready.3.us r0) at in
      let closed_all = puts_closed (count t) (rules_of t) r0 plain seg history (ready.3.us r0) ready.3.ordered.inner ready.3.ordered.barred ready.3.right.allowed_before (ready.3.us_closed plain r0) in
      let few = rows_few (here r0).account.rows page in
      let fewer = rows_history (rules_of t) r0 F in
      let counted = records_filled plain seg history in
      let most = ready.4.few_records (ap is_recording is) in
      let K : Row → Type 0 = λ x. IsRow x.kind x.old in (
        rules_of t r0,
        recorded_in (here r0) (open_page (here r0).account.closings) sig,
        ready.3.us r0,
        call (rules_of t r0) (here r0) (ready.3.us r0) at,
        record {
          exists = omega (arith, e);
          live = open_live (rules_of t r0) (here r0).closings_then (here r0).clock_then page (omega (arith, e, g, n));
          unput = λ c. let l = closed_all.each page c in absurd (omega (arith, e, l));
          few = omega (arith, few, fewer, counted, most);
          kind = subst K (sym row_is) (row_kind kind old_sig sig);
        },
      )
