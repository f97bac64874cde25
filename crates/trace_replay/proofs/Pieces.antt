-- Items router by router, and pages by their numbers.
use Rattle.std.proofs.Common.{ℕ, ◌≡◌, ◌+◌, ◌∷◌, [], ◌++◌, ◌∙◌, List, length, ◌<◌, get_or, map, sym, ap, refl, arith, append_assoc}
use Rattle.std.specs.Prelude.{Some}
use Rattle.std.specs.declared.option.Option.{Option}
use Rattle.std.specs.List.{flat_map}
use Rattle.std.proofs.lemmas.List.FromFn.{map-range_with_len_more}
use Rattle.std.proofs.lemmas.Grind.{flat_map-append}
use Rattle.std.proofs.lemmas.List.{append-nil}
use Rattle.spie_base.specs.declared.PageNo.{PageNo}
use Rattle.spie_base.specs.declared.RouterId.{RouterId}
use Rattle.report_text.specs.declared.Item.{Item}
use Rattle.report_text.specs.declared.Item.TheVariants as item
use Rattle.router_account.specs.Account.{below}
use Rattle.data_agent.specs.declared.Archived.{Archived}
use Rattle.data_agent.specs.Calls.{number_of}
use Rattle.router_account.specs.Sights.{page_no}
use Rattle.std.proofs.lemmas.List.{get_or_default}
use Rattle.data_agent.specs.declared.Barrier.{Barrier}
use Rattle.trace_replay.specs.Agents.{barrier_at, no_barrier}
use Rattle.trace_history.specs.Report.{left_items}
use Rattle.trace_replay.specs.Printing.{archived_item, lefts_of}

pub pages_back : (xs : List PageNo) → map page_no (map number_of xs) ≡ xs
pages_back [] = refl
pages_back (x ∷ xs) = ap (λ (ys : List PageNo). x ∷ ys) (pages_back xs)

pub split_item : (line : ℕ) (router : RouterId) (o : Option Archived) (a : Archived) (put kept : List PageNo) → o ≡ Some a → put ≡ a.put → kept ≡ a.kept → item.Archived line router put kept ≡ archived_item line router o
split_item line router o a put kept is e1 e2 =
    ap (λ (xs : List PageNo). item.Archived line router xs kept) (e1 ∙ sym (pages_back a.put))
    ∙ ap (λ (xs : List PageNo). item.Archived line router (map page_no (map number_of a.put)) xs) (e2 ∙ sym (pages_back a.kept))
    ∙ ap (λ (x : Option Archived). archived_item line router x) (sym is)

map_same : (xs : List ℕ) → map (λ (x : ℕ). x) xs ≡ xs
map_same [] = refl
map_same (x ∷ xs) = ap (λ (ys : List ℕ). x ∷ ys) (map_same xs)

below_more : (n : ℕ) → below (n + 1) ≡ below n ++ n ∷ []
below_more n =
    sym (map_same (below (n + 1))) ∙ map-range_with_len_more (λ (x : ℕ). x) 0 n n (omega arith) ∙ ap (λ (xs : List ℕ). xs ++ n ∷ []) (map_same (below n))

-- the items of one router more
pub router_more : {X Y : Type 0} (f : X → List Y) (items : ℕ → List X) (old : List Y) (n : ℕ) (before after : List Y) → before ≡ old ++ flat_map f (flat_map items (below n)) → after ≡ before ++ flat_map f (items n) → after ≡ old ++ flat_map f (flat_map items (below (n + 1)))
router_more f items old n before after e1 e2 =
    e2 ∙ ap (λ l. l ++ flat_map f (items n)) e1
    ∙ append_assoc old (flat_map f (flat_map items (below n))) (flat_map f (items n))
    ∙ ap (λ l. old ++ l) (sym (flat_map-append f (flat_map items (below n)) (items n)))
    ∙ ap (λ l. old ++ flat_map f l)
    (ap (λ l. flat_map items (below n) ++ l) (sym (append-nil (items n)))
    ∙ sym (flat_map-append items (below n) (n ∷ []))
    ∙ ap (λ l. flat_map items l) (sym (below_more n)))

pub barrier_is : (barriers : List Barrier) (r n m : ℕ) (d : Barrier) → length barriers ≡ n → m ≡ n → r < m → get_or barriers r d ≡ barrier_at barriers r
barrier_is barriers r n m d e1 e2 l = get_or_default barriers r d no_barrier (omega (arith, e1, e2, l))

lefts_by : (line : ℕ) (router : RouterId) (xs : List PageNo) → map (item.Left line router) xs ≡ map (λ (page : ℕ). item.Left line router (page_no page)) (map number_of xs)
lefts_by line router [] = refl
lefts_by line router (x ∷ xs) = ap (λ (ys : List Item). item.Left line router x ∷ ys) (lefts_by line router xs)

pub left_pages : (line r : ℕ) (barriers : List Barrier) (b : Barrier) (xs : List PageNo) → xs ≡ b.left → b ≡ barrier_at barriers r → map (item.Left line (record { number = r })) xs ≡ left_items line (lefts_of barriers) r
left_pages line r barriers b xs e same =
    lefts_by line (record { number = r }) xs
    ∙ ap (λ (ys : List PageNo). map (λ (page : ℕ). item.Left line (record { number = r }) (page_no page)) (map number_of ys)) (e ∙ ap (λ (x : Barrier). x.left) same)
