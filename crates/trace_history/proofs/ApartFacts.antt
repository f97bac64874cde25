-- Segments in which records stand alone.
use Rattle.std.proofs.Common.{◌≡◌, ℕ, zero, suc, ◌+◌, ◌≤◌, Bool, true, false, cond, ◌==◌, ◌∷◌, [], ◌++◌, ◌∙◌, sym, refl, subst, ap, ⊎_elim, List, length, arith}
use Rattle.std.specs.Prelude.{slice_get, Some}
use Rattle.std.specs.List.{Contains}
use Rattle.std.proofs.lemmas.Bool.{false≢true}
use Rattle.std.proofs.lemmas.Bool.Decides.{Decides-eqb}
use Rattle.std.proofs.lemmas.List.Elements.{Contains-append_left, Contains-append_right}
use Rattle.spie_base.proofs.Membership.{has_first}
use Rattle.trace_history.specs.History.{Event, recorded, rotated, archived, watched, ticked, queried, ended, History}
use Rattle.trace_history.specs.Receipts.{is_barrier, segment, up_to_barrier, open_at, Receipt, receipt_by, receipts, opened_by, openings, IsLegal, IsLegalFor, IsInTurn, IsSequential}
use Rattle.trace_history.specs.Apart.{AreApart, AreQuiet, IsApart, IsQuiet}
use Rattle.trace_history.specs.Laws.{ApartIsSequential}
use Rattle.trace_history.specs.Routers.{RouterRules}
use Rattle.trace_history.proofs.Sequential.{grow}

-- ---- lists

pub no_front : {X : Type 0} (xs ys : List X) → xs ++ ys ≡ [] → xs ≡ []
no_front [] ys e = refl
no_front (x ∷ xs) ys e = cc

pub no_back : {X : Type 0} (xs ys : List X) → xs ++ ys ≡ [] → ys ≡ []
no_back [] ys e = e
no_back (x ∷ xs) ys e = cc

get_front : {X : Type 0} (xs ys : List X) (i : ℕ) (v : X) → slice_get xs i ≡ Some v → slice_get (xs ++ ys) i ≡ Some v
get_front [] ys i v e = cc
get_front (x ∷ xs) ys zero v e = e
get_front (x ∷ xs) ys (suc i) v e = get_front xs ys i v e

pub get_seam : {X : Type 0} (xs : List X) (y : X) → slice_get (xs ++ y ∷ []) (length xs) ≡ Some y
get_seam [] y = refl
get_seam (x ∷ xs) y = get_seam xs y

-- ---- what a segment fixes

-- a router's records and rotations are where one worker would have them, in a segment that began with page a open and
-- had these openings so far
abbrev pub InPlace : (r a : ℕ) → (ops : List ℕ) → Event → Type 0
InPlace r a ops (recorded hop page) = hop.router ≡ r → page ≡ a + length ops
InPlace r a ops (rotated router page) = router ≡ r → page ≡ a + length ops + 1
InPlace r a ops _ = Unit {0}

abbrev pub Fixed : (r a : ℕ) → (seg : History) → Type 0
Fixed r a [] = Unit {0}
Fixed r a (moment ∷ seg) = Fixed r a seg × InPlace r a (openings r seg) moment.event

-- no records, and rotations that are counted
abbrev Counted : (a : ℕ) → List ℕ → Type 0
Counted a ops = (i page : ℕ) → slice_get ops i ≡ Some page → page ≡ a + (i + 1)

in_place_without : (r a : ℕ) (ops : List ℕ) (d : Event) → receipt_by d ≡ [] → Counted a (ops ++ opened_by r d) → InPlace r a ops d
in_place_without r a ops (recorded hop page) none counted = absurd cc
in_place_without r a ops (rotated router page) none counted = λ e.
    let own : (router == r) ≡ true = (Decides-eqb router r).1 e in
    let At : Bool → Type 0 = λ b. Counted a (ops ++ cond b (page ∷ []) []) in
    let is = subst At own counted (length ops) page (get_seam ops page) in
    omega (arith, is)
in_place_without r a ops (archived router put kept) none counted = tt
in_place_without r a ops (watched router sig answer) none counted = tt
in_place_without r a ops (ticked time left) none counted = tt
in_place_without r a ops (queried query left) none counted = tt
in_place_without r a ops (ended left) none counted = tt

fixed_without : (r a : ℕ) (seg : History) → receipts seg ≡ [] → Counted a (openings r seg) → Fixed r a seg
fixed_without r a [] none counted = tt
fixed_without r a (moment ∷ seg) none counted = (
  fixed_without r a seg (no_front (receipts seg) (receipt_by moment.event) none) (λ i page e. counted i page (get_front (openings r seg) (opened_by r moment.event) i page e)),
  in_place_without r a (openings r seg) moment.event (no_back (receipts seg) (receipt_by moment.event) none) counted,
)

-- no rotations, and records in the only page
abbrev Within : (r a m : ℕ) → List Receipt → Type 0
Within r a m xs = (x : Receipt) → Contains xs x → x.hop.router ≡ r → (a ≤ x.page) × (x.page ≤ a + m)

quiet_opens_none : (r : ℕ) (d : Event) → IsQuiet d → opened_by r d ≡ []
quiet_opens_none r (recorded hop page) q = refl
quiet_opens_none r (rotated router page) q = absurd q
quiet_opens_none r (archived router put kept) q = refl
quiet_opens_none r (watched router sig answer) q = refl
quiet_opens_none r (ticked time left) q = refl
quiet_opens_none r (queried query left) q = refl
quiet_opens_none r (ended left) q = refl

no_openings : (r : ℕ) (seg : History) → AreQuiet seg → openings r seg ≡ []
no_openings r [] q = refl
no_openings r (moment ∷ seg) q = ap (λ (l : List ℕ). l ++ opened_by r moment.event) (no_openings r seg q.0) ∙ quiet_opens_none r moment.event q.1

in_place_quiet : (r a : ℕ) (ops : List ℕ) (d : Event) → IsQuiet d → ops ≡ [] → Within r a 0 (receipt_by d) → InPlace r a ops d
in_place_quiet r a ops (recorded hop page) q none within = λ e.
    let w = within (record { hop = hop; page = page }) (has_first (record { hop = hop; page = page }) []) e in
    let low = w.0 in
    let high = w.1 in
    let n : length ops ≡ 0 = ap (λ (l : List ℕ). length l) none in
    omega (arith, low, high, n)
in_place_quiet r a ops (rotated router page) q none within = absurd q
in_place_quiet r a ops (archived router put kept) q none within = tt
in_place_quiet r a ops (watched router sig answer) q none within = tt
in_place_quiet r a ops (ticked time left) q none within = tt
in_place_quiet r a ops (queried query left) q none within = tt
in_place_quiet r a ops (ended left) q none within = tt

fixed_quiet : (r a : ℕ) (seg : History) → AreQuiet seg → Within r a 0 (receipts seg) → Fixed r a seg
fixed_quiet r a [] q within = tt
fixed_quiet r a (moment ∷ seg) q within = (
  fixed_quiet r a seg q.0 (λ x h e. within x (Contains-append_left (receipts seg) (receipt_by moment.event) x h) e),
  in_place_quiet r a (openings r seg) moment.event q.1 (no_openings r seg q.0) (λ x h e. within x (Contains-append_right (receipts seg) (receipt_by moment.event) x h) e),
)

fixed : (W r a : ℕ) (seg : History) → IsApart seg → IsLegalFor W r a seg → Fixed r a seg
fixed W r a seg apart legal =
    ⊎_elim
    (λ none. fixed_without r a seg none legal.counted)
    (λ quiet. fixed_quiet r a seg quiet (let At : List ℕ → Type 0 = λ l. Within r a (length l) (receipts seg) in subst At (no_openings r seg quiet) legal.within))
    apart

-- ---- a history whose segments are fixed

in_turn_by : (rules : RouterRules) (line : ℕ) (history : History) (d : Event) → is_barrier d ≡ false → ((r : ℕ) → InPlace r (open_at rules r (up_to_barrier history)) (openings r (segment history)) d) → IsInTurn rules history d
in_turn_by rules line history (recorded hop page) within place = place hop.router refl ∙ sym (grow rules hop.router history)
in_turn_by rules line history (rotated router page) within place = let is = place router refl in let g = grow rules router history in omega (arith, is, g)
in_turn_by rules line history (archived router put kept) within place = tt
in_turn_by rules line history (watched router sig answer) within place = tt
in_turn_by rules line history (ticked time left) within place = tt
in_turn_by rules line history (queried query left) within place = tt
in_turn_by rules line history (ended left) within place = tt

barrier_in_turn : (rules : RouterRules) (history : History) (d : Event) → is_barrier d ≡ true → IsInTurn rules history d
barrier_in_turn rules history (recorded hop page) is = absurd (false≢true is)
barrier_in_turn rules history (rotated router page) is = absurd (false≢true is)
barrier_in_turn rules history (archived router put kept) is = tt
barrier_in_turn rules history (watched router sig answer) is = tt
barrier_in_turn rules history (ticked time left) is = tt
barrier_in_turn rules history (queried query left) is = tt
barrier_in_turn rules history (ended left) is = tt

-- a list by whether a moment is a barrier
pub pick_true : {X : Type 0} (b : Bool) (x y : X) → b ≡ true → cond b x y ≡ x
pick_true true x y e = refl
pick_true false x y e = absurd (false≢true e)

pub pick_false : {X : Type 0} (b : Bool) (x y : X) → b ≡ false → cond b x y ≡ y
pick_false true x y e = absurd (false≢true (sym e))
pick_false false x y e = refl

segment_in_turn : (rules : RouterRules) (history : History) → ((r : ℕ) → Fixed r (open_at rules r (up_to_barrier history)) (segment history)) → IsSequential rules (up_to_barrier history) → IsSequential rules history
segment_in_turn rules [] fix before = tt
segment_in_turn rules (moment ∷ history) fix before =
    let here : (b : Bool) → is_barrier moment.event ≡ b → IsSequential rules (moment ∷ history) =
    elim [
      | true ↦ λ e.
          let P : History → Type 0 = λ h. IsSequential rules h in
          subst P (pick_true (is_barrier moment.event) (moment ∷ history) (up_to_barrier history) e) before
      | false ↦ λ e.
          let up = pick_false (is_barrier moment.event) (moment ∷ history) (up_to_barrier history) e in
          let seg = pick_false (is_barrier moment.event) [] (moment ∷ segment history) e in
          let P : History → Type 0 = λ h. IsSequential rules h in
          let F : History → History → Type 0 = λ h s. (r : ℕ) → Fixed r (open_at rules r h) s in
          let G : History → Type 0 = λ h. F h (segment (moment ∷ history)) in
          let fix' : F (up_to_barrier history) (moment ∷ segment history) = subst (F (up_to_barrier history)) seg (subst G up fix) in (
            segment_in_turn rules history (λ r. (fix' r).0) (subst P up before),
            in_turn_by rules moment.line history moment.event e (λ r. (fix' r).1),
          )
    ] in
    here (is_barrier moment.event) refl

up_sequential : (W : ℕ) (rules : RouterRules) (history : History) → AreApart history → IsLegal W rules history → IsSequential rules (up_to_barrier history)
up_sequential W rules [] apart legal = tt
up_sequential W rules (moment ∷ history) apart legal =
    let P : History → Type 0 = λ h. IsSequential rules h in
    let before = up_sequential W rules history apart.0 legal.0 in
    let here : (b : Bool) → is_barrier moment.event ≡ b → IsSequential rules (up_to_barrier (moment ∷ history)) =
    elim [
      | true ↦ λ e.
          subst P (sym (pick_true (is_barrier moment.event) (moment ∷ history) (up_to_barrier history) e)) (
            segment_in_turn rules history (λ r. fixed W r (open_at rules r (up_to_barrier history)) (segment history) (apart.1 e) (legal.1 e r)) before,
            barrier_in_turn rules history moment.event e,
          )
      | false ↦ λ e. subst P (sym (pick_false (is_barrier moment.event) (moment ∷ history) (up_to_barrier history) e)) before
    ] in
    here (is_barrier moment.event) refl

-- where the last segment has ended, the history is what stands up to its last barrier
pub ended_up : (history : History) → segment history ≡ [] → up_to_barrier history ≡ history
ended_up [] e = refl
ended_up (moment ∷ history) e =
    let here : (b : Bool) → is_barrier moment.event ≡ b → up_to_barrier (moment ∷ history) ≡ moment ∷ history =
    elim [
      | true ↦ λ is. pick_true (is_barrier moment.event) (moment ∷ history) (up_to_barrier history) is
      | false ↦ λ is. let no : moment ∷ segment history ≡ [] = sym (pick_false (is_barrier moment.event) [] (moment ∷ segment history) is) ∙ e in absurd cc
    ] in
    here (is_barrier moment.event) refl

pub apart_is_sequential : ApartIsSequential
apart_is_sequential W rules history end apart legal =
    let P : History → Type 0 = λ h. IsSequential rules h in
    subst P (ended_up history end) (up_sequential W rules history apart legal)
