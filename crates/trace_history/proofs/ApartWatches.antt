-- Watches in segments where records stand alone.
use Rattle.std.proofs.Common.{◌≡◌, ℕ, Bool, true, false, cond, ◌==◌, ◌∷◌, [], ◌∙◌, sym, refl, subst, ap, ⊎_elim, List}
use Rattle.spie_base.specs.declared.Entry.{Entry}
use Rattle.spie_base.specs.declared.Rules.{Rules}
use Rattle.spie_base.specs.declared.Sig.{Sig}
use Rattle.page_catalogue.specs.Pages.{open_page, is_due}
use Rattle.router_account.specs.Account.{Account, fill, with_closing}
use Rattle.router_account.specs.Ledger.{Ledger}
use Rattle.router_account.specs.Watches.{IsBetween, is_shown, misses, watch_of, watch_word}
use Rattle.router_account.specs.declared.Watch.{Watch as WatchAnswer}
use Rattle.router_account.specs.declared.Watch.TheVariants.{Seen, NotSeen, Unknown}
use Rattle.trace_history.specs.History.{Event, recorded, rotated, archived, watched, ticked, queried, ended, History, account, account_after, clock}
use Rattle.trace_history.specs.Receipts.{is_barrier, segment, up_to_barrier, receipt_by, receipts}
use Rattle.trace_history.specs.Apart.{AreApart, AreQuiet, IsQuiet}
use Rattle.trace_history.specs.Laws.{ApartWatchesAreSequential}
use Rattle.trace_history.specs.Ledgers.{ledger}
use Rattle.trace_history.specs.Routers.{RouterRules}
use Rattle.trace_history.specs.Watched.{AreBetweenWatches, AreSegmentWatches, AreSequentialWatches, IsBetweenWatch, IsSequentialWatch}
use Rattle.trace_history.proofs.ApartFacts.{ended_up, no_back, no_front, pick_false, pick_true}
use Rattle.trace_history.proofs.Sequential.{account_router}

-- ---- without records an account keeps its entries

keeps_entries : (b : Bool) (a : Account) (t : ℕ) → (cond b (with_closing a t) a).entries ≡ a.entries
keeps_entries true a t = refl
keeps_entries false a t = refl

entries_after : (rules : Rules) (d : Event) (t : ℕ) (a : Account) → receipt_by d ≡ [] → (account_after rules d t a).entries ≡ a.entries
entries_after rules (recorded hop page) t a none = absurd cc
entries_after rules (rotated router page) t a none = keeps_entries (router == a.router) a t
entries_after rules (archived router put kept) t a none = refl
entries_after rules (watched router sig answer) t a none = refl
entries_after rules (ticked time left) t a none = keeps_entries (is_due rules a.closings time (fill rules a (open_page a.closings))) a time
entries_after rules (queried query left) t a none = refl
entries_after rules (ended left) t a none = refl

same_entries : (rules : RouterRules) (r : ℕ) (history : History) → receipts (segment history) ≡ [] → (account rules r history).entries ≡ (account rules r (up_to_barrier history)).entries
same_entries rules r [] none = refl
same_entries rules r (moment ∷ history) none =
    let E : History → List Entry = λ h. (account rules r h).entries in
    let here : (b : Bool) → is_barrier moment.event ≡ b → E (moment ∷ history) ≡ E (up_to_barrier (moment ∷ history)) =
    elim [
      | true ↦ λ e. ap E (sym (pick_true (is_barrier moment.event) (moment ∷ history) (up_to_barrier history) e))
      | false ↦ λ e.
          let seg = pick_false (is_barrier moment.event) [] (moment ∷ segment history) e in
          let N : History → Type 0 = λ s. receipts s ≡ [] in
          let no = subst N seg none in
          entries_after (rules r) moment.event (clock history) (account rules r history) (no_back (receipts (segment history)) (receipt_by moment.event) no)
          ∙ same_entries rules r history (no_front (receipts (segment history)) (receipt_by moment.event) no)
          ∙ ap E (sym (pick_false (is_barrier moment.event) (moment ∷ history) (up_to_barrier history) e))
    ] in
    here (is_barrier moment.event) refl

-- ---- and what is shown stays

same_shown : (rules : Rules) (l : Ledger) (a b : Account) (t : ℕ) (sig : Sig) → a.router ≡ b.router → a.entries ≡ b.entries → is_shown rules l a t sig ≡ is_shown rules l b t sig
same_shown rules l a b t sig router entries =
    let A : ℕ → List Entry → Account = λ r es. record { router = r; entries = es; rows = []; closings = [] } in
    ap (λ (r : ℕ). is_shown rules l (A r a.entries) t sig) router ∙ ap (λ (es : List Entry). is_shown rules l (A b.router es) t sig) entries

between_is : (rules : Rules) (l : Ledger) (start end : Account) (t : ℕ) (sig : Sig) (answer : WatchAnswer) → is_shown rules l start t sig ≡ is_shown rules l l.account t sig → is_shown rules l end t sig ≡ is_shown rules l l.account t sig → IsBetween rules l start end t sig answer → answer ≡ watch_of rules l t sig
between_is rules l start end t sig Seen at_start at_end is = ap (λ (b : Bool). watch_word b (misses rules l t)) (sym is ∙ at_end)
between_is rules l start end t sig Unknown at_start at_end is =
    ap (λ (b : Bool). watch_word false b) (sym is.0) ∙ ap (λ (b : Bool). watch_word b (misses rules l t)) (sym is.1 ∙ at_start)
between_is rules l start end t sig NotSeen at_start at_end is =
    ap (λ (b : Bool). watch_word false b) (sym is.0) ∙ ap (λ (b : Bool). watch_word b (misses rules l t)) (sym is.1 ∙ at_start)

-- ---- a segment

watch_by : (rules : RouterRules) (end history : History) (d : Event) → ((r : ℕ) → (account rules r end).entries ≡ (account rules r history).entries) → ((r : ℕ) → (account rules r (up_to_barrier history)).entries ≡ (account rules r history).entries) → IsBetweenWatch rules end history d → IsSequentialWatch rules history d
watch_by rules end history (recorded hop page) at_end at_start is = tt
watch_by rules end history (rotated router page) at_end at_start is = tt
watch_by rules end history (archived router put kept) at_end at_start is = tt
watch_by rules end history (watched r sig answer) at_end at_start is =
    let l = ledger rules r history in
    between_is (rules r) l (account rules r (up_to_barrier history)) (account rules r end) (clock history) sig answer
    (same_shown (rules r) l (account rules r (up_to_barrier history)) (account rules r history) (clock history) sig (account_router rules r (up_to_barrier history) ∙ sym (account_router rules r history)) (at_start r))
    (same_shown (rules r) l (account rules r end) (account rules r history) (clock history) sig (account_router rules r end ∙ sym (account_router rules r history)) (at_end r))
    is
watch_by rules end history (ticked time left) at_end at_start is = tt
watch_by rules end history (queried query left) at_end at_start is = tt
watch_by rules end history (ended left) at_end at_start is = tt

segment_watches : (rules : RouterRules) (end base history : History) → ((r : ℕ) → (account rules r end).entries ≡ (account rules r base).entries) → up_to_barrier history ≡ base → receipts (segment history) ≡ [] → AreSegmentWatches rules end history → AreSequentialWatches rules (up_to_barrier history) → AreSequentialWatches rules history
segment_watches rules end base [] same up none are before = tt
segment_watches rules end base (moment ∷ history) same up none are before =
    let P : History → Type 0 = λ h. AreSequentialWatches rules h in
    let here : (b : Bool) → is_barrier moment.event ≡ b → AreSequentialWatches rules (moment ∷ history) =
    elim [
      | true ↦ λ e. subst P (pick_true (is_barrier moment.event) (moment ∷ history) (up_to_barrier history) e) before
      | false ↦ λ e.
          let go = pick_false (is_barrier moment.event) (moment ∷ history) (up_to_barrier history) e in
          let seg = pick_false (is_barrier moment.event) [] (moment ∷ segment history) e in
          let N : History → Type 0 = λ s. receipts s ≡ [] in
          let no = no_front (receipts (segment history)) (receipt_by moment.event) (subst N seg none) in
          let up' : up_to_barrier history ≡ base = sym go ∙ up in
          let E : ℕ → History → List Entry = λ r h. (account rules r h).entries in
          let start : (r : ℕ) → E r (up_to_barrier history) ≡ E r history = λ r. sym (same_entries rules r history no) in (
            segment_watches rules end base history same up' no (are e).1 (subst P go before),
            watch_by rules end history moment.event (λ r. same r ∙ ap (E r) (sym up') ∙ start r) start (are e).0,
          )
    ] in
    here (is_barrier moment.event) refl

quiet_watch : (rules : RouterRules) (history : History) (d : Event) → IsQuiet d → IsSequentialWatch rules history d
quiet_watch rules history (recorded hop page) q = tt
quiet_watch rules history (rotated router page) q = tt
quiet_watch rules history (archived router put kept) q = tt
quiet_watch rules history (watched r sig answer) q = absurd q
quiet_watch rules history (ticked time left) q = tt
quiet_watch rules history (queried query left) q = tt
quiet_watch rules history (ended left) q = tt

quiet_watches : (rules : RouterRules) (history : History) → AreQuiet (segment history) → AreSequentialWatches rules (up_to_barrier history) → AreSequentialWatches rules history
quiet_watches rules [] q before = tt
quiet_watches rules (moment ∷ history) q before =
    let P : History → Type 0 = λ h. AreSequentialWatches rules h in
    let here : (b : Bool) → is_barrier moment.event ≡ b → AreSequentialWatches rules (moment ∷ history) =
    elim [
      | true ↦ λ e. subst P (pick_true (is_barrier moment.event) (moment ∷ history) (up_to_barrier history) e) before
      | false ↦ λ e.
          let seg = pick_false (is_barrier moment.event) [] (moment ∷ segment history) e in
          let q' : AreQuiet (moment ∷ segment history) = subst AreQuiet seg q in (
            quiet_watches rules history q'.0 (subst P (pick_false (is_barrier moment.event) (moment ∷ history) (up_to_barrier history) e) before),
            quiet_watch rules history moment.event q'.1,
          )
    ] in
    here (is_barrier moment.event) refl

-- ---- a history

barrier_watch : (rules : RouterRules) (history : History) (d : Event) → is_barrier d ≡ true → IsSequentialWatch rules history d
barrier_watch rules history (recorded hop page) is = tt
barrier_watch rules history (rotated router page) is = tt
barrier_watch rules history (archived router put kept) is = tt
barrier_watch rules history (watched r sig answer) is = absurd cc
barrier_watch rules history (ticked time left) is = tt
barrier_watch rules history (queried query left) is = tt
barrier_watch rules history (ended left) is = tt

up_watches : (rules : RouterRules) (history : History) → AreApart history → AreBetweenWatches rules history → AreSequentialWatches rules (up_to_barrier history)
up_watches rules [] apart are = tt
up_watches rules (moment ∷ history) apart are =
    let P : History → Type 0 = λ h. AreSequentialWatches rules h in
    let before = up_watches rules history apart.0 are.0 in
    let here : (b : Bool) → is_barrier moment.event ≡ b → AreSequentialWatches rules (up_to_barrier (moment ∷ history)) =
    elim [
      | true ↦ λ e.
          let all : AreSequentialWatches rules history =
          ⊎_elim
          (λ none. segment_watches rules history (up_to_barrier history) history (λ r. same_entries rules r history none) refl none (are.1 e) before)
          (λ quiet. quiet_watches rules history quiet before)
          (apart.1 e) in
          subst P (sym (pick_true (is_barrier moment.event) (moment ∷ history) (up_to_barrier history) e)) (all, barrier_watch rules history moment.event e)
      | false ↦ λ e. subst P (sym (pick_false (is_barrier moment.event) (moment ∷ history) (up_to_barrier history) e)) before
    ] in
    here (is_barrier moment.event) refl

pub apart_watches : ApartWatchesAreSequential
apart_watches rules history end apart are =
    let P : History → Type 0 = λ h. AreSequentialWatches rules h in
    subst P (ended_up history end) (up_watches rules history apart are)
