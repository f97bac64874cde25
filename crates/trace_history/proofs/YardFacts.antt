-- What one worker gathers is what it recorded, line by line.
use Rattle.std.proofs.Common.{◌≡◌, ℕ, ◌+◌, ◌%◌, Bool, true, false, cond, ◌==◌, ◌∷◌, [], ◌++◌, ◌∙◌, sym, refl, ap, List, append-nil, append_assoc}
use Rattle.std.specs.List.{flat_map}
use Rattle.std.proofs.Math.Nat.{mod-one}
use Rattle.std.proofs.lemmas.Bool.{eq-eqb}
use Rattle.std.proofs.lemmas.Grind.{flat_map-append}
use Rattle.spie_base.specs.declared.Entry.{Entry}
use Rattle.spie_base.specs.declared.PageShape.{PageShape}
use Rattle.page_catalogue.specs.Pages.{open_page, is_due}
use Rattle.router_account.specs.Account.{Account, fill, with_closing}
use Rattle.trace_history.specs.History.{Event, recorded, rotated, archived, watched, ticked, queried, ended, History, Hop, account, clock, with_hop}
use Rattle.trace_history.specs.Laws.{OneWorkerGathers}
use Rattle.trace_history.specs.Receipts.{segment, Receipt, receipt_by, receipts}
use Rattle.trace_history.specs.Routers.{RouterRules}
use Rattle.trace_history.specs.Workers.{YardView, entry_by, share_of, worked, gathered}
use Rattle.trace_history.proofs.Sequential.{account_router}

-- one worker takes every record
one_share : (r from : ℕ) (xs : List Receipt) → share_of 1 0 r from xs ≡ flat_map (entry_by r) xs
one_share r from [] = refl
one_share r from (x ∷ xs) =
    let taken : (from % 1 == 0) ≡ true = eq-eqb (from % 1) 0 (mod-one from) in
    ap (λ (b : Bool). cond b (entry_by r x) [] ++ share_of 1 0 r (from + 1) xs) taken ∙ ap (λ (es : List Entry). entry_by r x ++ es) (one_share r (from + 1) xs)

pub worked_alone : (r : ℕ) (seg : History) → worked 1 r seg ≡ flat_map (entry_by r) (receipts seg)
worked_alone r seg = append-nil (share_of 1 0 r 0 (receipts seg)) ∙ one_share r 0 (receipts seg)

-- an account keeps its entries at a closing, and has one more behind a record
closing_keeps : (b : Bool) (a : Account) (t : ℕ) → (cond b (with_closing a t) a).entries ≡ a.entries
closing_keeps true a t = refl
closing_keeps false a t = refl

hop_adds : (b : Bool) (a : Account) (hop : Hop) (page : ℕ) → (cond b (with_hop a hop page) a).entries ≡ a.entries ++ cond b (record { page = record { number = page }; sig = hop.sig } ∷ []) []
hop_adds true a hop page = refl
hop_adds false a hop page = sym (append-nil a.entries)

-- what the segment behind the last barrier adds
more_by : (r : ℕ) (d : Event) (seg : History) (line : ℕ) → flat_map (entry_by r) (receipts (record { line = line; event = d } ∷ seg)) ≡ flat_map (entry_by r) (receipts seg) ++ flat_map (entry_by r) (receipt_by d)
more_by r d seg line = flat_map-append (entry_by r) (receipts seg) (receipt_by d)

-- a list grows by a segment's entries within it, and by all of them at its barrier
grows : (now before g seg more : List Entry) → before ≡ g ++ seg → now ≡ before ++ more → now ≡ (g ++ []) ++ (seg ++ more)
grows now before g seg more e f = let n = append-nil g in let a = append_assoc g seg more in cc

ends : (now before g seg all : List Entry) → before ≡ g ++ seg → now ≡ before → all ≡ seg → now ≡ (g ++ all) ++ []
ends now before g seg all e f w = let n = append-nil (g ++ all) in cc

-- an account has what was gathered, and behind it the entries of the segment that has not ended
abbrev IsGathered : RouterRules → (router : ℕ) → History → Type 0
IsGathered rules r history = (account rules r history).entries ≡ gathered 1 r history ++ flat_map (entry_by r) (receipts (segment history))

by_event : (rules : RouterRules) (r line : ℕ) (d : Event) (history : History) → IsGathered rules r history → IsGathered rules r (record { line = line; event = d } ∷ history)
by_event rules r line (recorded hop page) history e =
    let a = account rules r history in
    let own : flat_map (entry_by r) (receipt_by (recorded hop page)) ≡ cond (hop.router == r) (record { page = record { number = page }; sig = hop.sig } ∷ []) [] = append-nil (entry_by r (record { hop = hop; page = page })) in
    let at : (hop.router == a.router) ≡ (hop.router == r) = ap (λ (q : ℕ). hop.router == q) (account_router rules r history) in
    let more : (account rules r (record { line = line; event = recorded hop page } ∷ history)).entries ≡ a.entries ++ flat_map (entry_by r) (receipt_by (recorded hop page)) =
    hop_adds (hop.router == a.router) a hop page ∙ ap (λ (b : Bool). a.entries ++ cond b (record { page = record { number = page }; sig = hop.sig } ∷ []) []) at ∙ ap (λ (es : List Entry). a.entries ++ es) (sym own) in
    grows _ a.entries (gathered 1 r history) (flat_map (entry_by r) (receipts (segment history))) (flat_map (entry_by r) (receipt_by (recorded hop page))) e more
    ∙ ap (λ (es : List Entry). (gathered 1 r history ++ []) ++ es) (sym (more_by r (recorded hop page) (segment history) line))
by_event rules r line (rotated router page) history e =
    let a = account rules r history in
    grows _ a.entries (gathered 1 r history) (flat_map (entry_by r) (receipts (segment history))) [] e (closing_keeps (router == a.router) a (clock history) ∙ sym (append-nil a.entries))
    ∙ ap (λ (es : List Entry). (gathered 1 r history ++ []) ++ es) (sym (more_by r (rotated router page) (segment history) line))
by_event rules r line (archived router put kept) history e =
    let a = account rules r history in
    grows _ a.entries (gathered 1 r history) (flat_map (entry_by r) (receipts (segment history))) [] e (sym (append-nil a.entries))
    ∙ ap (λ (es : List Entry). (gathered 1 r history ++ []) ++ es) (sym (more_by r (archived router put kept) (segment history) line))
by_event rules r line (watched router sig answer) history e =
    let a = account rules r history in
    grows _ a.entries (gathered 1 r history) (flat_map (entry_by r) (receipts (segment history))) [] e (sym (append-nil a.entries))
    ∙ ap (λ (es : List Entry). (gathered 1 r history ++ []) ++ es) (sym (more_by r (watched router sig answer) (segment history) line))
by_event rules r line (ticked time left) history e =
    let a = account rules r history in
    ends _ a.entries (gathered 1 r history) (flat_map (entry_by r) (receipts (segment history))) (worked 1 r (segment history)) e
    (closing_keeps (is_due (rules r) a.closings time (fill (rules r) a (open_page a.closings))) a time) (worked_alone r (segment history))
by_event rules r line (queried query left) history e =
    let a = account rules r history in
    ends _ a.entries (gathered 1 r history) (flat_map (entry_by r) (receipts (segment history))) (worked 1 r (segment history)) e refl (worked_alone r (segment history))
by_event rules r line (ended left) history e =
    let a = account rules r history in
    ends _ a.entries (gathered 1 r history) (flat_map (entry_by r) (receipts (segment history))) (worked 1 r (segment history)) e refl (worked_alone r (segment history))

pub gathered_so_far : (rules : RouterRules) (r : ℕ) (history : History) → IsGathered rules r history
gathered_so_far rules r [] = refl
gathered_so_far rules r (moment ∷ history) = by_event rules r moment.line moment.event history (gathered_so_far rules r history)

-- behind a barrier nothing else is in an account
pub gathered_alone : (rules : RouterRules) (r : ℕ) (history : History) → segment history ≡ [] → (account rules r history).entries ≡ gathered 1 r history
gathered_alone rules r history none =
    gathered_so_far rules r history ∙ ap (λ (seg : History). gathered 1 r history ++ flat_map (entry_by r) (receipts seg)) none ∙ append-nil (gathered 1 r history)

-- pages of this shape with these entries
abbrev pub pages_view : PageShape → List Entry → (out : ℕ) → YardView
pages_view shape entries out = record { shape = shape; entries = entries; out = out }

pub one_worker_gathers : OneWorkerGathers
one_worker_gathers rules r history none = sym (gathered_alone rules r history none)
