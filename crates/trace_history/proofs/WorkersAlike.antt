-- Two histories of one trace, by one worker each and without faults, differ only in what the shelf did.
use Rattle.std.proofs.Common.{◌≡◌, ℕ, ◌+◌, ◌<◌, Bool, true, false, ◌==◌, ◌∷◌, [], ◌++◌, ◌↔◌, ◌∙◌, sym, refl, subst, ap, inl, ⊎_elim, List, length, length-append}
use Rattle.std.specs.Prelude.{slice_get, Some}
use Rattle.std.specs.List.{AllByRecursion, Contains}
use Rattle.std.specs.Ordering.{nat_cmp}
use Rattle.std.proofs.lemmas.Cmp.{nat_cmp_total}
use Rattle.std.proofs.lemmas.List.Elements.{recursion_from_All}
use Rattle.spie_base.proofs.Membership.{has_none}
use Rattle.spie_base.proofs.SortedLists.{sorted_same}
use Rattle.spie_base.specs.declared.Rules.{Rules}
use Rattle.spie_base.specs.declared.Sig.{Sig}
use Rattle.packet_signature.specs.declared.Kind.{Kind}
use Rattle.page_catalogue.specs.Pages.{open_page}
use Rattle.trace_format.specs.declared.Line.{Line}
use Rattle.trace_format.specs.declared.Trace.{Trace}
use Rattle.trace_format.specs.declared.What.{What}
use Rattle.trace_format.specs.declared.What.TheVariants.{Fwd, Xf, Rotate, Archive, Watch, Tick, Query, End}
use Rattle.trace_format.specs.Sound.{HasOneEnd, IsSound, IsWithin}
use Rattle.report_text.specs.declared.Item.{Item}
use Rattle.router_account.specs.Account.{Account}
use Rattle.router_account.specs.Barriers.{ArchiveView, IsCovered, IsSplit, archive_view}
use Rattle.router_account.specs.Ledger.{Ledger}
use Rattle.router_account.specs.Watches.{watch_of}
use Rattle.router_account.specs.declared.Watch.{Watch as WatchAnswer}
use Rattle.trace_history.specs.declared.totals.Totals.{Totals}
use Rattle.trace_history.specs.Apart.{AreApart, AreLinesApart, none_stood}
use Rattle.trace_history.specs.History.{Event, recorded, rotated, archived, watched, ticked, queried, ended, HasSig, History, Hop, IsChange, IsEventOf, IsHistoryOf, Moment, Origin, QueryRun, account, changed, clock, same}
use Rattle.trace_history.specs.Laws.{WorkersReportTheSame}
use Rattle.trace_history.specs.Ledgers.{ledger, puts}
use Rattle.trace_history.specs.Outcomes.{AreFaultless, IsAllowed, IsAllowedEvent, IsArchived, IsFaultless}
use Rattle.trace_history.specs.Receipts.{IsInTurn, IsSequential, open_at, segment}
use Rattle.trace_history.specs.Replay.{IsFaultlessShelf, ReplayViews}
use Rattle.trace_history.specs.Report.{AreItemsOf, text_of, totals_of}
use Rattle.trace_history.specs.Routers.{RouterRules, count, rules_of}
use Rattle.trace_history.specs.Watched.{AreSequentialWatches, IsSequentialWatch}
use Rattle.trace_history.specs.Workers.{AreAnswered, IsReplayedBy, YardView}
use Rattle.trace_history.proofs.ApartFacts.{apart_is_sequential, get_seam}
use Rattle.trace_history.proofs.ApartLines.{apart_lines}
use Rattle.trace_history.proofs.ApartWatches.{apart_watches}
use Rattle.trace_history.proofs.Clean.{StartBelow, StartsBelow, items_plain}
use Rattle.trace_history.proofs.Faultless.{no_fault_no_mark}
use Rattle.trace_history.proofs.OneReport.{one_report}
use Rattle.trace_history.proofs.Plain.{account_plain, clock_plain, ledger_plain, plain, plain_event, plain_query, none_left, puts_plain, unleft}
use Rattle.trace_history.proofs.Spelled.{Spelled, spelled}

-- ---- what fixes an event beside its line

abbrev Done : RouterRules → (before : History) → Event → Type 0
Done rules before (recorded hop page) = page ≡ open_at rules hop.router before
Done rules before (rotated r page) = page ≡ open_at rules r before + 1
Done rules before (archived r put kept) = IsArchived rules before r put kept × (kept ≡ [])
Done rules before (watched r sig answer) = answer ≡ watch_of (rules r) (ledger rules r before) (clock before) sig
Done rules before (ticked time left) = Unit {0}
Done rules before (queried query left) = Unit {0}
Done rules before (ended left) = Unit {0}

abbrev AreDone : RouterRules → History → Type 0
AreDone rules [] = Unit {0}
AreDone rules (moment ∷ history) = AreDone rules history × Done rules history moment.event

done_by : (n : ℕ) (rules : RouterRules) (before after : History) (d : Event) → IsInTurn rules before d → IsSequentialWatch rules before d → IsAllowedEvent n rules before after d → IsFaultless n d → Done rules before d
done_by n rules before after (recorded hop page) turn watch allowed f = turn
done_by n rules before after (rotated r page) turn watch allowed f = turn
done_by n rules before after (archived r put kept) turn watch allowed f = (allowed, f)
done_by n rules before after (watched r sig answer) turn watch allowed f = watch
done_by n rules before after (ticked time left) turn watch allowed f = tt
done_by n rules before after (queried query left) turn watch allowed f = tt
done_by n rules before after (ended left) turn watch allowed f = tt

are_done : (n : ℕ) (rules : RouterRules) (history : History) → IsSequential rules history → AreSequentialWatches rules history → IsAllowed n rules history → AreFaultless n history → AreDone rules history
are_done n rules [] turn watch allowed f = tt
are_done n rules (moment ∷ history) turn watch allowed f = (
  are_done n rules history turn.0 watch.0 allowed.0 f.0,
  done_by n rules history (moment ∷ history) moment.event turn.1 watch.1 allowed.1 f.1,
)

-- ---- what is known behind two histories that differ only so

open_same : (rules : RouterRules) (r : ℕ) (h k : History) → plain h ≡ plain k → open_at rules r h ≡ open_at rules r k
open_same rules r h k e =
    ap (λ (a : Account). open_page a.closings) (sym (account_plain rules r h) ∙ ap (account rules r) e ∙ account_plain rules r k)

ledger_same : (rules : RouterRules) (r : ℕ) (h k : History) → plain h ≡ plain k → unleft (ledger rules r h) ≡ unleft (ledger rules r k)
ledger_same rules r h k e = sym (ledger_plain rules r h) ∙ ap (ledger rules r) e ∙ ledger_plain rules r k

puts_same : (r : ℕ) (h k : History) → plain h ≡ plain k → puts r h ≡ puts r k
puts_same r h k e = sym (puts_plain r h) ∙ ap (puts r) e ∙ puts_plain r k

clock_same : (h k : History) → plain h ≡ plain k → clock h ≡ clock k
clock_same h k e = sym (clock_plain h) ∙ ap clock e ∙ clock_plain k

-- ---- one event

some_same : {X : Type 0} (x y : X) → Some x ≡ Some y → x ≡ y
some_same x y e = cc

sig_same : (sigs : List Sig) (packet : ℕ) (a b : Sig) → HasSig sigs packet a → HasSig sigs packet b → a ≡ b
sig_same sigs packet a b x y = some_same a b (sym x ∙ y)

change_same : (sigs : List Sig) (kind : Kind) (old : ℕ) (a b : Origin) → IsChange sigs kind old a → IsChange sigs kind old b → a ≡ b
change_same sigs kind old same b x y = absurd x
change_same sigs kind old (changed k s) same x y = absurd y
change_same sigs kind old (changed k s) (changed l r) x y =
    ap (λ (z : Kind). changed z s) (x.0 ∙ sym y.0) ∙ ap (λ (z : Sig). changed l z) (sig_same sigs old s r x.1 y.1)

abbrev hop_of : ℕ → Sig → Origin → Hop
hop_of router sig origin = record { router = router; sig = sig; origin = origin }

hop_same : (a b : Hop) → a.router ≡ b.router → a.sig ≡ b.sig → a.origin ≡ b.origin → a ≡ b
hop_same a b router sig origin =
    ap (λ (x : ℕ). hop_of x a.sig a.origin) router ∙ ap (λ (x : Sig). hop_of b.router x a.origin) sig ∙ ap (hop_of b.router b.sig) origin

recorded_same : (rules : RouterRules) (h k : History) (a b : Hop) (p q : ℕ) → plain h ≡ plain k → a ≡ b → p ≡ open_at rules a.router h → q ≡ open_at rules b.router k → recorded a p ≡ recorded b q
recorded_same rules h k a b p q e hops x y =
    ap (λ (z : ℕ). recorded a z) (x ∙ open_same rules a.router h k e ∙ ap (λ (z : Hop). open_at rules z.router k) hops ∙ sym y) ∙ ap (λ (z : Hop). recorded z q) hops

rotated_same : (rules : RouterRules) (h k : History) (r s p q : ℕ) → plain h ≡ plain k → r ≡ s → p ≡ open_at rules r h + 1 → q ≡ open_at rules s k + 1 → rotated r p ≡ rotated s q
rotated_same rules h k r s p q e routers x y =
    ap (λ (z : ℕ). rotated r z) (x ∙ ap (λ (z : ℕ). z + 1) (open_same rules r h k e) ∙ ap (λ (z : ℕ). open_at rules z k + 1) routers ∙ sym y) ∙ ap (λ (z : ℕ). rotated z q) routers

-- where nothing was kept, all that is covered was put
put_is : (rules : Rules) (view : ArchiveView) (put kept : List ℕ) → kept ≡ [] → IsSplit rules view (record { put = put; kept = kept }) → (page : ℕ) → Contains put page ↔ IsCovered rules view page
put_is rules view put kept none split page = (
  (λ h. (split.all page).0 (inl h)),
  (λ c. ⊎_elim (λ h. h) (λ h. let K : List ℕ → Type 0 = λ l. Contains l page in absurd (has_none page (subst K none h))) ((split.all page).1 c)),
)

put_same : (rules : Rules) (a b : ArchiveView) (put kept other held : List ℕ) → a ≡ b → kept ≡ [] → held ≡ [] → IsSplit rules a (record { put = put; kept = kept }) → IsSplit rules b (record { put = other; kept = held }) → put ≡ other
put_same rules a b put kept other held e none nothing x y =
    let C : (page : ℕ) → ArchiveView → Type 0 = λ page v. IsCovered rules v page in
    sorted_same nat_cmp nat_cmp_total put other x.put_rises y.put_rises
    (λ page. (
      (λ h. (put_is rules b other held nothing y page).1 (subst (C page) e ((put_is rules a put kept none x page).0 h))),
      (λ h. (put_is rules a put kept none x page).1 (subst (C page) (sym e) ((put_is rules b other held nothing y page).0 h))),
    ))

abbrev view_before : RouterRules → (r : ℕ) → History → ArchiveView
view_before rules r h = record (archive_view (ledger rules r h) (ledger rules r h).account.closings) { put_before = puts r h }

view_same : (rules : RouterRules) (r s : ℕ) (h k : History) → plain h ≡ plain k → r ≡ s → view_before rules r h ≡ view_before rules s k
view_same rules r s h k e routers =
    ap (λ (l : Ledger). record (archive_view l l.account.closings) { put_before = puts r h }) (ledger_same rules r h k e)
    ∙ ap (λ (p : List ℕ). record (archive_view (ledger rules r k) (ledger rules r k).account.closings) { put_before = p }) (puts_same r h k e)
    ∙ ap (λ (z : ℕ). view_before rules z k) routers

archived_same : (rules : RouterRules) (h k : History) (r s : ℕ) (put kept other held : List ℕ) → ((z : ℕ) → rules z ≡ rules r) → plain h ≡ plain k → r ≡ s
    → IsArchived rules h r put kept × (kept ≡ []) → IsArchived rules k s other held × (held ≡ []) → archived r put kept ≡ archived s other held
archived_same rules h k r s put kept other held one e routers x y =
    let S : Rules → Type 0 = λ z. IsSplit z (view_before rules s k) (record { put = other; kept = held }) in
    ap (λ (l : List ℕ). archived r l kept) (put_same (rules r) (view_before rules r h) (view_before rules s k) put kept other held (view_same rules r s h k e routers) x.1 y.1 x.0 (subst S (one s) y.0))
    ∙ ap (λ (l : List ℕ). archived r other l) (x.1 ∙ sym y.1)
    ∙ ap (λ (z : ℕ). archived z other held) routers

watch_same : (rules : RouterRules) (h k : History) (r : ℕ) (sig : Sig) → plain h ≡ plain k → watch_of (rules r) (ledger rules r h) (clock h) sig ≡ watch_of (rules r) (ledger rules r k) (clock k) sig
watch_same rules h k r sig e =
    ap (λ (l : Ledger). watch_of (rules r) l (clock h) sig) (ledger_same rules r h k e) ∙ ap (λ (c : ℕ). watch_of (rules r) (ledger rules r k) c sig) (clock_same h k e)

watched_same : (rules : RouterRules) (h k : History) (r s : ℕ) (sig other : Sig) (a b : WatchAnswer) → plain h ≡ plain k → r ≡ s → sig ≡ other
    → a ≡ watch_of (rules r) (ledger rules r h) (clock h) sig → b ≡ watch_of (rules s) (ledger rules s k) (clock k) other → watched r sig a ≡ watched s other b
watched_same rules h k r s sig other a b e routers sigs x y =
    ap (λ (z : WatchAnswer). watched r sig z)
    (x ∙ watch_same rules h k r sig e ∙ ap (λ (z : ℕ). watch_of (rules z) (ledger rules z k) (clock k) sig) routers ∙ ap (λ (z : Sig). watch_of (rules s) (ledger rules s k) (clock k) z) sigs ∙ sym y)
    ∙ ap (λ (z : ℕ). watched z sig b) routers ∙ ap (λ (z : Sig). watched s z b) sigs

query_same : (q p : QueryRun) → q.router ≡ p.router → q.sig ≡ p.sig → q.time ≡ p.time → plain_query q ≡ plain_query p
query_same q p router sig time =
    ap (λ (z : ℕ). plain_query (record q { router = z })) router
    ∙ ap (λ (z : Sig). plain_query (record q { router = p.router; sig = z })) sig
    ∙ ap (λ (z : ℕ). plain_query (record q { router = p.router; sig = p.sig; time = z })) time

-- what one line was answered in two such histories
by_line : (rules : RouterRules) (sigs : List Sig) (h k : History) (w : What) (d e : Event) → ((r s : ℕ) → rules s ≡ rules r) → plain h ≡ plain k
    → Spelled sigs w d → Spelled sigs w e → Done rules h d → Done rules k e → plain_event d ≡ plain_event e
by_line rules sigs h k (Fwd router packet) d e one same_before (a, p, x, ra, sa, oa) (b, q, y, rb, sb, ob) f g =
    ap plain_event x
    ∙ recorded_same rules h k a b p q same_before (hop_same a b (ra ∙ sym rb) (sig_same sigs packet a.sig b.sig sa sb) (oa ∙ sym ob)) (subst (Done rules h) x f) (subst (Done rules k) y g)
    ∙ sym (ap plain_event y)
by_line rules sigs h k (Xf router kind old new) d e one same_before (a, p, x, ra, sa, oa) (b, q, y, rb, sb, ob) f g =
    ap plain_event x
    ∙ recorded_same rules h k a b p q same_before (hop_same a b (ra ∙ sym rb) (sig_same sigs new a.sig b.sig sa sb) (change_same sigs kind old a.origin b.origin oa ob)) (subst (Done rules h) x f) (subst (Done rules k) y g)
    ∙ sym (ap plain_event y)
by_line rules sigs h k (Rotate router) d e one same_before (r, p, x, ra) (s, q, y, rb) f g =
    ap plain_event x ∙ rotated_same rules h k r s p q same_before (ra ∙ sym rb) (subst (Done rules h) x f) (subst (Done rules k) y g) ∙ sym (ap plain_event y)
by_line rules sigs h k (Archive router) d e one same_before (r, put, kept, x, ra) (s, other, held, y, rb) f g =
    ap plain_event x ∙ archived_same rules h k r s put kept other held (one r) same_before (ra ∙ sym rb) (subst (Done rules h) x f) (subst (Done rules k) y g) ∙ sym (ap plain_event y)
by_line rules sigs h k (Watch router packet) d e one same_before (r, sig, a, x, ra, sa) (s, other, b, y, rb, sb) f g =
    ap plain_event x ∙ watched_same rules h k r s sig other a b same_before (ra ∙ sym rb) (sig_same sigs packet sig other sa sb) (subst (Done rules h) x f) (subst (Done rules k) y g) ∙ sym (ap plain_event y)
by_line rules sigs h k (Tick time) d e one same_before (left, x) (kept, y) f g = ap plain_event x ∙ sym (ap plain_event y)
by_line rules sigs h k (Query router packet time) d e one same_before (q, left, x, ra, sa, ta) (p, kept, y, rb, sb, tb) f g =
    ap plain_event x
    ∙ ap (λ (z : QueryRun). queried z none_left) (query_same q p (ra ∙ sym rb) (sig_same sigs packet q.sig p.sig sa sb) (ta ∙ sym tb))
    ∙ sym (ap plain_event y)
by_line rules sigs h k End d e one same_before (left, x) (kept, y) f g = ap plain_event x ∙ sym (ap plain_event y)

-- ---- all lines

last_same : {X : Type 0} (xs ys : List X) (x y : X) → xs ++ x ∷ [] ≡ ys ++ y ∷ [] → (xs ≡ ys) × (x ≡ y)
last_same [] [] x y e = (refl, cc)
last_same [] (z ∷ []) x y e = absurd cc
last_same [] (z ∷ v ∷ ys) x y e = absurd cc
last_same (z ∷ []) [] x y e = absurd cc
last_same (z ∷ v ∷ xs) [] x y e = absurd cc
last_same (u ∷ xs) (v ∷ ys) x y e =
    let head : u ≡ v = cc in
    let tail : xs ++ x ∷ [] ≡ ys ++ y ∷ [] = cc in
    let rest = last_same xs ys x y tail in
    (ap (λ z. z ∷ xs) head ∙ ap (λ l. v ∷ l) rest.0, rest.1)

none_last : {X : Type 0} (xs : List X) (x : X) → xs ++ x ∷ [] ≡ [] → ⊥
none_last [] x e = cc
none_last (y ∷ xs) x e = cc

abbrev with_moment : (line : ℕ) → Event → History → History
with_moment line event history = record { line = line; event = event } ∷ history

moment_same : (m n : Moment) → m.line ≡ n.line → plain_event m.event ≡ plain_event n.event → (h k : History) → plain h ≡ plain k → plain (m ∷ h) ≡ plain (n ∷ k)
moment_same m n line event h k before =
    ap (λ (z : ℕ). with_moment z (plain_event m.event) (plain h)) line
    ∙ ap (λ (z : Event). with_moment n.line z (plain h)) event
    ∙ ap (with_moment n.line (plain_event n.event)) before

plain_same : (rules : RouterRules) (sigs : List Sig) → ((r s : ℕ) → rules s ≡ rules r) → (lines other : List Line) (h k : History) → lines ≡ other → IsHistoryOf sigs lines h → IsHistoryOf sigs other k
    → AreDone rules h → AreDone rules k → plain h ≡ plain k
plain_same rules sigs one lines other [] [] e a b f g = refl
plain_same rules sigs one lines other [] (n ∷ k) e a (front, last, is, number, event, rest) f g = absurd (none_last front last (sym is ∙ sym e ∙ a))
plain_same rules sigs one lines other (m ∷ h) [] e (front, last, is, number, event, rest) b f g = absurd (none_last front last (sym is ∙ e ∙ b))
plain_same rules sigs one lines other (m ∷ h) (n ∷ k) e (front, last, is, number, event, rest) (front', last', is', number', event', rest') f g =
    let ends = last_same front front' last last' (sym is ∙ e ∙ is') in
    let before = plain_same rules sigs one front front' h k ends.0 rest rest' f.0 g.0 in
    let E : Line → Type 0 = λ x. IsEventOf sigs x.what n.event in
    moment_same m n (number ∙ ap (λ (x : Line). x.number) ends.1 ∙ sym number')
    (by_line rules sigs h k last.what m.event n.event one before (spelled sigs last.what m.event event) (spelled sigs last.what n.event (subst E (sym ends.1) event')) f.1 g.1)
    h k before

-- ---- of a sound trace

-- its last line ends the last segment
ended_event : (sigs : List Sig) (line : ℕ) (d : Event) (history : History) → IsEventOf sigs End d → segment (record { line = line; event = d } ∷ history) ≡ []
ended_event sigs line d history is =
    let s = spelled sigs End d is in
    let S : Event → Type 0 = λ e. segment (record { line = line; event = e } ∷ history) ≡ [] in
    subst S (sym s.1) refl

segment_ended : (sigs : List Sig) (lines : List Line) (history : History) → HasOneEnd lines → IsHistoryOf sigs lines history → segment history ≡ []
segment_ended sigs lines [] ends is = refl
segment_ended sigs lines (m ∷ history) ends (front, last, is, number, event, rest) =
    let there : slice_get lines (length front) ≡ Some last = ap (λ (l : List Line). slice_get l (length front)) is ∙ get_seam front last in
    let long : length lines ≡ length front + 1 = ap (λ (l : List Line). length l) is ∙ length-append front (last ∷ []) in
    let what : last.what ≡ End = (ends.last (length front) last there).1 (sym long) in
    let E : What → Type 0 = λ w. IsEventOf sigs w m.event in
    ended_event sigs m.line m.event history (subst E what event)

-- its queries start at routers that exist
starts_by : (n packets : ℕ) (sigs : List Sig) (w : What) (d : Event) → IsWithin n packets w → IsEventOf sigs w d → StartsBelow n d
starts_by n packets sigs w (recorded hop page) within is = tt
starts_by n packets sigs w (rotated r page) within is = tt
starts_by n packets sigs w (archived r put kept) within is = tt
starts_by n packets sigs w (watched r sig answer) within is = tt
starts_by n packets sigs w (ticked t left) within is = tt
starts_by n packets sigs (Fwd router packet) (queried query left) within is = absurd is
starts_by n packets sigs (Xf router kind old new) (queried query left) within is = absurd is
starts_by n packets sigs (Rotate router) (queried query left) within is = absurd is
starts_by n packets sigs (Archive router) (queried query left) within is = absurd is
starts_by n packets sigs (Watch router packet) (queried query left) within is = absurd is
starts_by n packets sigs (Tick time) (queried query left) within is = absurd is
starts_by n packets sigs (Query router packet time) (queried query left) within is = subst (λ r. r < n) (sym is.0) within.0
starts_by n packets sigs End (queried query left) within is = absurd is
starts_by n packets sigs w (ended left) within is = tt

all_front : {X : Type 0} (P : X → Type 0) (xs : List X) (x : X) → AllByRecursion P (xs ++ x ∷ []) → AllByRecursion P xs × P x
all_front P [] x h = (tt, h.0)
all_front P (y ∷ xs) x h = let rest = all_front P xs x h.1 in ((h.0, rest.0), rest.1)

start_below : (n packets : ℕ) (sigs : List Sig) (lines : List Line) (history : History) → AllByRecursion (λ (line : Line). IsWithin n packets line.what) lines → IsHistoryOf sigs lines history → StartBelow n history
start_below n packets sigs lines [] all is = tt
start_below n packets sigs lines (m ∷ history) all (front, last, is, number, event, rest) =
    let A : List Line → Type 0 = λ l. AllByRecursion (λ (line : Line). IsWithin n packets line.what) l in
    let parts = all_front (λ (line : Line). IsWithin n packets line.what) front last (subst A is all) in
    (start_below n packets sigs front history parts.0 rest, starts_by n packets sigs last.what m.event parts.1 event)

-- ---- two replays

-- a history whose answers are those of one worker, and its items those of its plain history
record IsClean (t : Trace) (history : History) (items : List Item) : Type 0 where
  done : AreDone (rules_of t) history
  items_are : AreItemsOf t (plain history) items

watches_alone : (alone : Bool) (rules : RouterRules) (history : History) → segment history ≡ [] → AreApart history → AreAnswered alone rules history → AreSequentialWatches rules history
watches_alone true rules history end apart answered = answered.1
watches_alone false rules history end apart answered = apart_watches rules history end apart answered

clean : (t : Trace) (W : ℕ) (text : List ℕ) (totals : Totals) (views : ReplayViews) (yard : List YardView) → IsSound t → AreLinesApart none_stood t.lines → IsFaultlessShelf views
    → (replay : IsReplayedBy W t text totals views yard) → IsClean t replay.history replay.report.items
clean t W text totals views yard sound apart shelf replay =
    let history = replay.history in
    let rules = rules_of t in
    let possible = replay.done in
    let end = segment_ended t.sigs t.lines history sound.ended possible.lines_are in
    let stand = apart_lines t.sigs t.lines history apart possible.lines_are in
    let marks = no_fault_no_mark t t.lines views.shelf_before views.shelf_after history possible shelf.faultless shelf.few in
    record {
      done = are_done (count t) rules history (apart_is_sequential W rules history end stand replay.legal) (watches_alone (W == 1) rules history end stand replay.answered) possible.allowed marks.0;
      items_are = items_plain t history replay.report.items (λ r q h. (sound.topology.ends r q h).1)
          (start_below (count t) (length t.sigs) t.sigs t.lines history (recursion_from_All (λ (line : Line). IsWithin (count t) (length t.sigs) line.what) t.lines sound.within) possible.lines_are)
          marks.0 (marks.1 shelf.tells) (possible.shelf.all_true shelf.tells) replay.report.answered;
    }

pub workers_report_the_same : WorkersReportTheSame
workers_report_the_same t V W text other totals sums views seen yard left sound apart shelf bare a b =
    let x = clean t V text totals views yard sound apart shelf a in
    let y = clean t W other sums seen left sound apart bare b in
    let alike = plain_same (rules_of t) t.sigs (λ r s. refl) t.lines t.lines a.history b.history refl a.done.lines_are b.done.lines_are x.done y.done in
    let I : History → Type 0 = λ h. AreItemsOf t h b.report.items in
    let items = one_report t (plain a.history) a.report.items b.report.items x.items_are (subst I (sym alike) y.items_are) in (
      a.report.text_is ∙ ap (text_of t) items ∙ sym b.report.text_is,
      a.report.totals_are ∙ ap totals_of items ∙ sym b.report.totals_are,
    )
