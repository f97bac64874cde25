-- What agents have gathered, line by line with one worker and behind a barrier with any number.
use Rattle.std.proofs.Common.{ℕ, ◌≡◌, ◌∷◌, [], ◌++◌, ◌∙◌, Bool, true, false, cond, ◌==◌, List, sym, ap, refl, subst, append-nil, append_assoc}
use Rattle.std.specs.List.{flat_map}
use Rattle.std.proofs.lemmas.Bool.{eq-eqb, eqb-true, false_from_ne_true}
use Rattle.std.proofs.lemmas.Grind.{flat_map-append}
use Rattle.spie_base.specs.declared.Entry.{Entry}
use Rattle.router_account.specs.Account.{below}
use Rattle.trace_history.specs.History.{Event, recorded, rotated, archived, watched, ticked, queried, ended, History, Hop}
use Rattle.trace_history.specs.Receipts.{Receipt, is_barrier, segment, receipts, receipt_by, openings, opened_by}
use Rattle.trace_history.specs.Workers.{entry_by, share_of, worked, gathered}
use Rattle.trace_history.proofs.YardFacts.{worked_alone}
use Rattle.trace_replay.specs.Segments.{Splits, with_split, filled, AreInner, IsBarred}
use Rattle.trace_replay.proofs.Filled.{moment_of, inner_split}

-- ---- how a segment is filled in shows in no receipt and no opening

receipt_split : (f : Splits) (e : Event) → receipt_by (with_split f e) ≡ receipt_by e
receipt_split f (recorded hop page) = refl
receipt_split f (rotated r page) = refl
receipt_split f (archived r put kept) = refl
receipt_split f (watched r sig a) = refl
receipt_split f (ticked time left) = refl
receipt_split f (queried query left) = refl
receipt_split f (ended left) = refl

opened_split : (r : ℕ) (f : Splits) (e : Event) → opened_by r (with_split f e) ≡ opened_by r e
opened_split r f (recorded hop page) = refl
opened_split r f (rotated q page) = refl
opened_split r f (archived q put kept) = refl
opened_split r f (watched q sig a) = refl
opened_split r f (ticked time left) = refl
opened_split r f (queried query left) = refl
opened_split r f (ended left) = refl

-- nothing is behind a barrier
pub none_behind : (history : History) → IsBarred history → segment history ≡ []
none_behind [] h = refl
none_behind (moment ∷ history) h = ap (λ (b : Bool). cond b [] (moment ∷ segment history)) h

pub receipts_filled : (f : Splits) (seg h : History) → AreInner seg → IsBarred h → receipts (segment (filled f seg h)) ≡ receipts seg
receipts_filled f [] h i b = ap (λ (s : History). receipts s) (none_behind h b)
receipts_filled f (moment ∷ seg) h i b =
    ap (λ (x : Bool). receipts (cond x [] (moment_of moment.line (with_split f moment.event) ∷ segment (filled f seg h)))) (inner_split f moment.event i.1)
    ∙ ap (λ (rs : List Receipt). rs ++ receipt_by (with_split f moment.event)) (receipts_filled f seg h i.0 b)
    ∙ ap (λ (rs : List Receipt). receipts seg ++ rs) (receipt_split f moment.event)

pub openings_filled : (r : ℕ) (f : Splits) (seg h : History) → AreInner seg → IsBarred h → openings r (segment (filled f seg h)) ≡ openings r seg
openings_filled r f [] h i b = ap (λ (s : History). openings r s) (none_behind h b)
openings_filled r f (moment ∷ seg) h i b =
    ap (λ (x : Bool). openings r (cond x [] (moment_of moment.line (with_split f moment.event) ∷ segment (filled f seg h)))) (inner_split f moment.event i.1)
    ∙ ap (λ (ps : List ℕ). ps ++ opened_by r (with_split f moment.event)) (openings_filled r f seg h i.0 b)
    ∙ ap (λ (ps : List ℕ). openings r seg ++ ps) (opened_split r f moment.event)

-- ---- what agents gather

no_shares : (W r : ℕ) (ws : List ℕ) → flat_map (λ worker. share_of W worker r 0 []) ws ≡ []
no_shares W r [] = refl
no_shares W r (w ∷ ws) = no_shares W r ws

-- in no lines nothing is recorded
pub worked_none : (W r : ℕ) → worked W r [] ≡ []
worked_none W r = no_shares W r (below W)

-- with one worker a line adds the entry of its record
pub worked_more : (r line : ℕ) (e : Event) (seg : History) → worked 1 r (moment_of line e ∷ seg) ≡ worked 1 r seg ++ flat_map (entry_by r) (receipt_by e)
worked_more r line e seg =
    worked_alone r (moment_of line e ∷ seg) ∙ flat_map-append (entry_by r) (receipts seg) (receipt_by e)
    ∙ ap (λ (es : List Entry). es ++ flat_map (entry_by r) (receipt_by e)) (sym (worked_alone r seg))

-- an agent's list by one line more
pub gathered_more : (W r line : ℕ) (e : Event) (seg : History) (g had has : List Entry) → W ≡ 1 → had ≡ g ++ worked W r seg → has ≡ had ++ flat_map (entry_by r) (receipt_by e)
    → has ≡ g ++ worked W r (moment_of line e ∷ seg)
gathered_more W r line e seg g had has alone is more =
    let E = flat_map (entry_by r) (receipt_by e) in
    let P : ℕ → Type 0 = λ w. had ≡ g ++ worked w r seg → has ≡ g ++ worked w r (moment_of line e ∷ seg) in
    subst P (sym alone) (λ known. more ∙ ap (λ (es : List Entry). es ++ E) known ∙ append_assoc g (worked 1 r seg) E ∙ ap (λ (es : List Entry). g ++ es) (sym (worked_more r line e seg))) is

pub gathered_filled : (W r : ℕ) (f : Splits) (seg h : History) → AreInner seg → gathered W r (filled f seg h) ≡ gathered W r h
gathered_filled W r f [] h i = refl
gathered_filled W r f (moment ∷ seg) h i =
    ap (λ (x : Bool). gathered W r (filled f seg h) ++ cond x (worked W r (segment (filled f seg h))) []) (inner_split f moment.event i.1)
    ∙ append-nil (gathered W r (filled f seg h)) ∙ gathered_filled W r f seg h i.0

-- behind a barrier an agent has gathered what the workers of its segment recorded
pub gathered_closed : (W r line : ℕ) (event : Event) (f : Splits) (seg h : History) → is_barrier event ≡ true → AreInner seg → IsBarred h
    → gathered W r (moment_of line event ∷ filled f seg h) ++ worked W r [] ≡ gathered W r h ++ worked W r seg
gathered_closed W r line event f seg h is i b =
    ap (λ (es : List Entry). gathered W r (moment_of line event ∷ filled f seg h) ++ es) (worked_none W r) ∙ append-nil (gathered W r (moment_of line event ∷ filled f seg h))
    ∙ ap (λ (x : Bool). gathered W r (filled f seg h) ++ cond x (worked W r (segment (filled f seg h))) []) is
    ∙ ap (λ (es : List Entry). es ++ worked W r (segment (filled f seg h))) (gathered_filled W r f seg h i)
    ∙ ap (λ (rs : List Receipt). gathered W r h ++ flat_map (λ worker. share_of W worker r 0 rs) (below W)) (receipts_filled f seg h i b)

own_test : (a b : ℕ) → a ≡ b → (a == b) ≡ true
own_test a b e = eq-eqb a b e

other_test : (a b : ℕ) → (a ≡ b → ⊥) → (a == b) ≡ false
other_test a b ne = false_from_ne_true _ (λ t. ne (eqb-true a b t))

-- a line that records nothing adds no entry, and one that records adds its own at its router
pub own_entry : (r page : ℕ) (hop : Hop) → hop.router ≡ r → flat_map (entry_by r) (receipt_by (recorded hop page)) ≡ record { page = record { number = page }; sig = hop.sig } ∷ []
own_entry r page hop e = append-nil (entry_by r (record { hop = hop; page = page })) ∙ ap (λ (b : Bool). cond b (record { page = record { number = page }; sig = hop.sig } ∷ []) []) (own_test hop.router r e)

pub other_entry : (r page : ℕ) (hop : Hop) → (hop.router ≡ r → ⊥) → flat_map (entry_by r) (receipt_by (recorded hop page)) ≡ []
other_entry r page hop ne = append-nil (entry_by r (record { hop = hop; page = page })) ∙ ap (λ (b : Bool). cond b (record { page = record { number = page }; sig = hop.sig } ∷ []) []) (other_test hop.router r ne)
