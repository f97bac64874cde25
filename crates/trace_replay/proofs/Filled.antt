-- A segment, filled in behind a history.
use Rattle.std.proofs.Common.{ℕ, ◌≡◌, ◌≢◌, ◌≤◌, ◌+◌, ◌∷◌, [], ◌++◌, ◌∙◌, ◌⊎◌, inl, inr, ⊎_elim, Bool, true, false, cond, ◌||◌, ◌==◌, List, length, sym, ap, refl, subst, arith, length-append, append_assoc, append-nil}
use Rattle.std.specs.Prelude.{Some, None, is_some}
use Rattle.std.specs.declared.option.Option.{Option}
use Rattle.std.specs.List.{Contains}
use Rattle.std.proofs.lemmas.Bool.{eq-eqb, eqb-true, false_from_ne_true, false≢true}
use Rattle.std.proofs.lemmas.List.Elements.{Contains-append_cases}
use Rattle.spie_base.specs.declared.Sig.{Sig}
use Rattle.trace_format.specs.declared.Line.{Line}
use Rattle.trace_format.specs.declared.What.{What}
use Rattle.trace_format.specs.declared.What.TheVariants as what
use Rattle.router_account.specs.Account.{Account, fill, with_closing}
use Rattle.page_catalogue.specs.Pages.{open_page, is_due}
use Rattle.router_account.specs.Ledger.{Ledger, at_archive, turned_at}
use Rattle.trace_history.specs.History.{Event, recorded, rotated, archived, watched, ticked, queried, ended, Moment, History, Hop, IsEventOf, IsHistoryOf, account, clock, clock_after, with_hop}
use Rattle.trace_history.specs.Ledgers.{ledger, puts, covers, closed_at_archive, lefts, left_by}
use Rattle.trace_history.specs.Receipts.{is_barrier, up_to_barrier}
use Rattle.spie_base.proofs.Membership.{has_none, has_one}
use Rattle.trace_history.proofs.Sequential.{account_router}
use Rattle.trace_history.specs.Routers.{RouterRules}
use Rattle.trace_format.specs.Sound.{is_archived}
use Rattle.trace_replay.specs.Segments.{Splits, with_split, filled, AreInner, IsBarred, AreForward, IsForward, archived_in, archived_by, AreOnce, IsFirst}

-- ---- an event at a router, and at another

pub own_test : (rules : RouterRules) (r q : ℕ) (h : History) → q ≡ r → (q == (account rules r h).router) ≡ true
own_test rules r q h e = eq-eqb q (account rules r h).router (e ∙ sym (account_router rules r h))

pub other_test : (rules : RouterRules) (r q : ℕ) (h : History) → q ≢ r → (q == (account rules r h).router) ≡ false
other_test rules r q h ne = false_from_ne_true _ (λ b. ne (eqb-true q (account rules r h).router b ∙ account_router rules r h))

abbrev pub with_account : Ledger → Account → Ledger
with_account l a = record l { account = a }

abbrev pub moment_of : ℕ → Event → Moment
moment_of line event = record { line = line; event = event }

pub recorded_own : (rules : RouterRules) (r line : ℕ) (hop : Hop) (page : ℕ) (h : History) → hop.router ≡ r → ledger rules r (moment_of line (recorded hop page) ∷ h) ≡ with_account (ledger rules r h) (with_hop (account rules r h) hop page)
recorded_own rules r line hop page h e = ap (λ b. with_account (ledger rules r h) (cond b (with_hop (account rules r h) hop page) (account rules r h))) (own_test rules r hop.router h e)

pub recorded_other : (rules : RouterRules) (r line : ℕ) (hop : Hop) (page : ℕ) (h : History) → hop.router ≢ r → ledger rules r (moment_of line (recorded hop page) ∷ h) ≡ ledger rules r h
recorded_other rules r line hop page h ne = ap (λ b. with_account (ledger rules r h) (cond b (with_hop (account rules r h) hop page) (account rules r h))) (other_test rules r hop.router h ne)

pub rotated_own : (rules : RouterRules) (r line q page : ℕ) (h : History) → q ≡ r → ledger rules r (moment_of line (rotated q page) ∷ h) ≡ turned_at (ledger rules r h) (clock h)
rotated_own rules r line q page h e = ap (λ b. with_account (ledger rules r h) (cond b (with_closing (account rules r h) (clock h)) (account rules r h))) (own_test rules r q h e)

pub rotated_other : (rules : RouterRules) (r line q page : ℕ) (h : History) → q ≢ r → ledger rules r (moment_of line (rotated q page) ∷ h) ≡ ledger rules r h
rotated_other rules r line q page h ne = ap (λ b. with_account (ledger rules r h) (cond b (with_closing (account rules r h) (clock h)) (account rules r h))) (other_test rules r q h ne)

abbrev with_archive : Ledger → Option (List ℕ) → Ledger
with_archive l o = record l { closed_at_archive = o }

pub archived_own : (rules : RouterRules) (r line q : ℕ) (put kept : List ℕ) (h : History) → q ≡ r → ledger rules r (moment_of line (archived q put kept) ∷ h) ≡ at_archive (ledger rules r h)
archived_own rules r line q put kept h e = ap (λ b. with_archive (ledger rules r h) (cond b (Some (account rules r h).closings) (closed_at_archive rules r h))) (eq-eqb q r e)

pub archived_other : (rules : RouterRules) (r line q : ℕ) (put kept : List ℕ) (h : History) → q ≢ r → ledger rules r (moment_of line (archived q put kept) ∷ h) ≡ ledger rules r h
archived_other rules r line q put kept h ne = ap (λ b. with_archive (ledger rules r h) (cond b (Some (account rules r h).closings) (closed_at_archive rules r h))) (false_from_ne_true _ (λ b. ne (eqb-true q r b)))

-- ---- what a filled segment leaves as it was

no_barrier : {X : Type 0} → true ≡ false → X
no_barrier e = absurd (false≢true (sym e))

pub inner_split : (f : Splits) (e : Event) → is_barrier e ≡ false → is_barrier (with_split f e) ≡ false
inner_split f (recorded hop page) b = refl
inner_split f (rotated r page) b = refl
inner_split f (archived r put kept) b = refl
inner_split f (watched r sig a) b = refl
inner_split f (ticked time left) b = no_barrier b
inner_split f (queried query left) b = no_barrier b
inner_split f (ended left) b = no_barrier b

inner_clock : (f : Splits) (e : Event) (c : ℕ) → is_barrier e ≡ false → clock_after (with_split f e) c ≡ c
inner_clock f (recorded hop page) c b = refl
inner_clock f (rotated r page) c b = refl
inner_clock f (archived r put kept) c b = refl
inner_clock f (watched r sig a) c b = refl
inner_clock f (ticked time left) c b = no_barrier b
inner_clock f (queried query left) c b = no_barrier b
inner_clock f (ended left) c b = no_barrier b

pub clock_filled : (f : Splits) (seg h : History) → AreInner seg → clock (filled f seg h) ≡ clock h
clock_filled f [] h i = refl
clock_filled f (moment ∷ seg) h i = inner_clock f moment.event (clock (filled f seg h)) i.1 ∙ clock_filled f seg h i.0

up_barred : (h : History) → IsBarred h → up_to_barrier h ≡ h
up_barred [] b = refl
up_barred (moment ∷ h) b = ap (λ x. cond x (moment ∷ h) (up_to_barrier h)) b

pub up_filled : (f : Splits) (seg h : History) → AreInner seg → IsBarred h → up_to_barrier (filled f seg h) ≡ h
up_filled f [] h i b = up_barred h b
up_filled f (moment ∷ seg) h i b =
    ap (λ x. cond x (filled f (moment ∷ seg) h) (up_to_barrier (filled f seg h))) (inner_split f moment.event i.1) ∙ up_filled f seg h i.0 b

forward_split : (f : Splits) (e : Event) (c : ℕ) → is_barrier e ≡ false → IsForward (with_split f e) c
forward_split f (recorded hop page) c b = tt
forward_split f (rotated r page) c b = tt
forward_split f (archived r put kept) c b = tt
forward_split f (watched r sig a) c b = tt
forward_split f (ticked time left) c b = no_barrier b
forward_split f (queried query left) c b = no_barrier b
forward_split f (ended left) c b = no_barrier b

pub forward_filled : (f : Splits) (seg h : History) → AreInner seg → AreForward h → AreForward (filled f seg h)
forward_filled f [] h i w = w
forward_filled f (moment ∷ seg) h i w = (forward_filled f seg h i.0 w, forward_split f moment.event (clock (filled f seg h)) i.1)

pub length_filled : (f : Splits) (seg h : History) → length (filled f seg h) ≡ length seg + length h
length_filled f [] h = omega arith
length_filled f (moment ∷ seg) h = let e = length_filled f seg h in omega (arith, e)

-- ---- closings

hop_closings : (b : Bool) (a : Account) (hop : Hop) (page : ℕ) → (cond b (with_hop a hop page) a).closings ≡ a.closings
hop_closings true a hop page = refl
hop_closings false a hop page = refl

-- one closing more, at a time
one_time : (b : Bool) (a : Account) (time t : ℕ) → Contains (cond b (with_closing a time) a).closings t → Contains a.closings t ⊎ (t ≡ time)
one_time true a time t h = ⊎_elim inl (λ (x : Contains (time ∷ []) t). inr (sym (has_one time t x))) (Contains-append_cases a.closings (time ∷ []) t h)
one_time false a time t h = inl h

one_count : (b : Bool) (a : Account) (time : ℕ) → length (cond b (with_closing a time) a).closings ≤ length a.closings + 1
one_count true a time = let e = length-append a.closings (time ∷ []) in omega (arith, e)
one_count false a time = omega arith

late_by : (rules : RouterRules) (r line : ℕ) (h : History) (e : Event) → AreForward (moment_of line e ∷ h) → ((t : ℕ) → Contains (account rules r h).closings t → t ≤ clock h) → (t : ℕ) → Contains (account rules r (moment_of line e ∷ h)).closings t → t ≤ clock (moment_of line e ∷ h)
late_by rules r line h (recorded hop page) w ih t c = let P : List ℕ → Type 0 = λ xs. Contains xs t in ih t (subst P (hop_closings (hop.router == (account rules r h).router) (account rules r h) hop page) c)
late_by rules r line h (rotated q page) w ih t c = ⊎_elim (ih t) (λ (e : t ≡ clock h). omega (arith, e)) (one_time (q == (account rules r h).router) (account rules r h) (clock h) t c)
late_by rules r line h (archived q put kept) w ih t c = ih t c
late_by rules r line h (watched q sig a) w ih t c = ih t c
late_by rules r line h (ticked time left) w ih t c =
    let up : clock h ≤ time = w.1 in
    ⊎_elim (λ (o : Contains (account rules r h).closings t). let l = ih t o in omega (arith, l, up)) (λ (e : t ≡ time). omega (arith, e))
    (one_time (is_due (rules r) (account rules r h).closings time (fill (rules r) (account rules r h) (open_page (account rules r h).closings))) (account rules r h) time t c)
late_by rules r line h (queried query left) w ih t c = ih t c
late_by rules r line h (ended left) w ih t c = ih t c

pub late_history : (rules : RouterRules) (r : ℕ) (h : History) → AreForward h → (t : ℕ) → Contains (account rules r h).closings t → t ≤ clock h
late_history rules r [] w t c = absurd (has_none t c)
late_history rules r (moment ∷ h) w t c = late_by rules r moment.line h moment.event w (late_history rules r h w.0) t c

few_by : (rules : RouterRules) (r line : ℕ) (h : History) (e : Event) → length (account rules r h).closings ≤ length h → length (account rules r (moment_of line e ∷ h)).closings ≤ length h + 1
few_by rules r line h (recorded hop page) l = let e = ap length (hop_closings (hop.router == (account rules r h).router) (account rules r h) hop page) in omega (arith, e, l)
few_by rules r line h (rotated q page) l = let e = one_count (q == (account rules r h).router) (account rules r h) (clock h) in omega (arith, e, l)
few_by rules r line h (archived q put kept) l = omega (arith, l)
few_by rules r line h (watched q sig a) l = omega (arith, l)
few_by rules r line h (ticked time left) l = let e = one_count (is_due (rules r) (account rules r h).closings time (fill (rules r) (account rules r h) (open_page (account rules r h).closings))) (account rules r h) time in omega (arith, e, l)
few_by rules r line h (queried query left) l = omega (arith, l)
few_by rules r line h (ended left) l = omega (arith, l)

pub few_history : (rules : RouterRules) (r : ℕ) (h : History) → length (account rules r h).closings ≤ length h
few_history rules r [] = omega arith
few_history rules r (moment ∷ h) = let l = few_by rules r moment.line h moment.event (few_history rules r h) in omega (arith, l)

-- ---- archivals of a segment

archive_barred : (rules : RouterRules) (r line : ℕ) (h : History) (e : Event) → is_barrier e ≡ true → closed_at_archive rules r (moment_of line e ∷ h) ≡ None
archive_barred rules r line h (recorded hop page) b = absurd (false≢true b)
archive_barred rules r line h (rotated q page) b = absurd (false≢true b)
archive_barred rules r line h (archived q put kept) b = absurd (false≢true b)
archive_barred rules r line h (watched q sig a) b = absurd (false≢true b)
archive_barred rules r line h (ticked time left) b = refl
archive_barred rules r line h (queried query left) b = refl
archive_barred rules r line h (ended left) b = refl

pub archive_none : (rules : RouterRules) (r : ℕ) (h : History) → IsBarred h → closed_at_archive rules r h ≡ None
archive_none rules r [] b = refl
archive_none rules r (moment ∷ h) b = archive_barred rules r moment.line h moment.event b

some_cond : (b c : Bool) (x : List ℕ) (o : Option (List ℕ)) → is_some o ≡ c → is_some (cond b (Some x) o) ≡ (b || c)
some_cond true c x o e = refl
some_cond false c x o e = e

archive_step : (rules : RouterRules) (r line : ℕ) (f : Splits) (h seg : History) (e : Event) → is_barrier e ≡ false → is_some (closed_at_archive rules r h) ≡ is_archived (archived_in seg) r
    → is_some (closed_at_archive rules r (moment_of line (with_split f e) ∷ h)) ≡ is_archived (archived_by e (archived_in seg)) r
archive_step rules r line f h seg (recorded hop page) b ih = ih
archive_step rules r line f h seg (rotated q page) b ih = ih
archive_step rules r line f h seg (archived q put kept) b ih = some_cond (q == r) (is_archived (archived_in seg) r) (account rules r h).closings (closed_at_archive rules r h) ih
archive_step rules r line f h seg (watched q sig a) b ih = ih
archive_step rules r line f h seg (ticked time left) b ih = no_barrier b
archive_step rules r line f h seg (queried query left) b ih = no_barrier b
archive_step rules r line f h seg (ended left) b ih = no_barrier b

pub archive_is : (rules : RouterRules) (r : ℕ) (f : Splits) (seg h : History) → AreInner seg → IsBarred h → is_some (closed_at_archive rules r (filled f seg h)) ≡ is_archived (archived_in seg) r
archive_is rules r f [] h i b = ap (λ (o : Option (List ℕ)). is_some o) (archive_none rules r h b)
archive_is rules r f (moment ∷ seg) h i b = archive_step rules r moment.line f (filled f seg h) seg moment.event i.1 (archive_is rules r f seg h i.0 b)

-- what the one archival of a segment adds to a list
abbrev of_one : Bool → List ℕ → List ℕ
of_one b xs = cond b xs []

one_more : (b c : Bool) (x y z w : List ℕ) → (b ≡ true → (c ≡ false) × (x ≡ y)) → z ≡ of_one c y ++ w → of_one b x ++ z ≡ of_one (b || c) y ++ w
one_more false c x y z w first e = e
one_more true c x y z w first e =
    let at = first refl in ap (λ l. l ++ z) at.1 ∙ ap (λ l. y ++ l) (e ∙ ap (λ d. of_one d y ++ w) at.0)

puts_step : (n r line : ℕ) (f : Splits) (h seg before : History) (e : Event) → is_barrier e ≡ false → IsFirst n e (archived_in seg) → puts r h ≡ of_one (is_archived (archived_in seg) r) (f r).put ++ puts r before
    → puts r (moment_of line (with_split f e) ∷ h) ≡ of_one (is_archived (archived_by e (archived_in seg)) r) (f r).put ++ puts r before
puts_step n r line f h seg before (recorded hop page) b first ih = ih
puts_step n r line f h seg before (rotated q page) b first ih = ih
puts_step n r line f h seg before (archived q put kept) b first ih =
    one_more (q == r) (is_archived (archived_in seg) r) (f q).put (f r).put (puts r h) (puts r before)
    (λ same. let e = eqb-true q r same in (ap (λ x. is_archived (archived_in seg) x) (sym e) ∙ first.0, ap (λ x. (f x).put) e)) ih
puts_step n r line f h seg before (watched q sig a) b first ih = ih
puts_step n r line f h seg before (ticked time left) b first ih = no_barrier b
puts_step n r line f h seg before (queried query left) b first ih = no_barrier b
puts_step n r line f h seg before (ended left) b first ih = no_barrier b

pub puts_filled : (n r : ℕ) (f : Splits) (seg h : History) → AreInner seg → AreOnce n seg → puts r (filled f seg h) ≡ of_one (is_archived (archived_in seg) r) (f r).put ++ puts r h
puts_filled n r f [] h i o = refl
puts_filled n r f (moment ∷ seg) h i o = puts_step n r moment.line f (filled f seg h) seg h moment.event i.1 o.1 (puts_filled n r f seg h i.0 o.0)

covers_step : (n r line : ℕ) (f : Splits) (h seg before : History) (e : Event) → is_barrier e ≡ false → IsFirst n e (archived_in seg) → covers r h ≡ of_one (is_archived (archived_in seg) r) ((f r).put ++ (f r).kept) ++ covers r before
    → covers r (moment_of line (with_split f e) ∷ h) ≡ of_one (is_archived (archived_by e (archived_in seg)) r) ((f r).put ++ (f r).kept) ++ covers r before
covers_step n r line f h seg before (recorded hop page) b first ih = ih
covers_step n r line f h seg before (rotated q page) b first ih = ih
covers_step n r line f h seg before (archived q put kept) b first ih =
    one_more (q == r) (is_archived (archived_in seg) r) ((f q).put ++ (f q).kept) ((f r).put ++ (f r).kept) (covers r h) (covers r before)
    (λ same. let e = eqb-true q r same in (ap (λ x. is_archived (archived_in seg) x) (sym e) ∙ first.0, ap (λ x. (f x).put ++ (f x).kept) e)) ih
covers_step n r line f h seg before (watched q sig a) b first ih = ih
covers_step n r line f h seg before (ticked time left) b first ih = no_barrier b
covers_step n r line f h seg before (queried query left) b first ih = no_barrier b
covers_step n r line f h seg before (ended left) b first ih = no_barrier b

pub covers_filled : (n r : ℕ) (f : Splits) (seg h : History) → AreInner seg → AreOnce n seg → covers r (filled f seg h) ≡ of_one (is_archived (archived_in seg) r) ((f r).put ++ (f r).kept) ++ covers r h
covers_filled n r f [] h i o = refl
covers_filled n r f (moment ∷ seg) h i o = covers_step n r moment.line f (filled f seg h) seg h moment.event i.1 o.1 (covers_filled n r f seg h i.0 o.0)

-- ---- pages that barriers left

left_inner : (r : ℕ) (f : Splits) (e : Event) → is_barrier e ≡ false → left_by r (with_split f e) ≡ []
left_inner r f (recorded hop page) b = refl
left_inner r f (rotated q page) b = refl
left_inner r f (archived q put kept) b = refl
left_inner r f (watched q sig a) b = refl
left_inner r f (ticked time left) b = no_barrier b
left_inner r f (queried query left) b = no_barrier b
left_inner r f (ended left) b = no_barrier b

pub lefts_filled : (r : ℕ) (f : Splits) (seg h : History) → AreInner seg → lefts r (filled f seg h) ≡ lefts r h
lefts_filled r f [] h i = refl
lefts_filled r f (moment ∷ seg) h i = ap (λ (l : List ℕ). l ++ lefts r (filled f seg h)) (left_inner r f moment.event i.1) ∙ lefts_filled r f seg h i.0

-- ---- lines

pub event_split : (sigs : List Sig) (f : Splits) (w : What) (e : Event) → IsEventOf sigs w e → IsEventOf sigs w (with_split f e)
event_split sigs f w (recorded hop page) a = a
event_split sigs f w (rotated q page) a = a
event_split sigs f (what.Archive router) (archived q put kept) a = a
event_split sigs f (what.Fwd router packet) (archived q put kept) a = a
event_split sigs f (what.Xf router kind old new) (archived q put kept) a = a
event_split sigs f (what.Rotate router) (archived q put kept) a = a
event_split sigs f (what.Watch router packet) (archived q put kept) a = a
event_split sigs f (what.Tick time) (archived q put kept) a = a
event_split sigs f (what.Query router packet time) (archived q put kept) a = a
event_split sigs f what.End (archived q put kept) a = a
event_split sigs f w (watched q sig a) b = b
event_split sigs f w (ticked time left) a = a
event_split sigs f w (queried query left) a = a
event_split sigs f w (ended left) a = a

pub history_filled : (sigs : List Sig) (f : Splits) (front lines : List Line) (seg h : History) → IsHistoryOf sigs front h → IsHistoryOf sigs lines seg → IsHistoryOf sigs (front ++ lines) (filled f seg h)
history_filled sigs f front lines [] h a b =
    let P : List Line → Type 0 = λ ls. IsHistoryOf sigs (front ++ ls) h in
    let Q : List Line → Type 0 = λ ls. IsHistoryOf sigs ls h in
    subst P (sym b) (subst Q (sym (append-nil front)) a)
history_filled sigs f front lines (moment ∷ seg) h a (before, last, is, number, answers, more) =
    (front ++ before, last, ap (λ ls. front ++ ls) is ∙ sym (append_assoc front before (last ∷ [])), number, event_split sigs f last.what moment.event answers, history_filled sigs f front before seg h a more)
