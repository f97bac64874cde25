-- A barrier at one router more.
use Rattle.std.proofs.Common.{ℕ, below_more, ◌≡◌, ◌≢◌, ◌≤◌, ◌<◌, ◌+◌, ◌-◌, ◌∷◌, [], ◌++◌, ◌∙◌, Bool, true, false, cond, List, length, get_or, set, sym, ap, refl, subst, arith, length-append, length-set}
use Rattle.std.specs.List.{Contains}
use Rattle.std.proofs.lemmas.Grind.{get_or-set_at}
use Rattle.std.proofs.lemmas.List.{get_or-set_other}
use Rattle.spie_base.specs.Causes.{RoseBy}
use Rattle.spie_base.specs.declared.Rules.{Rules}
use Rattle.page_catalogue.specs.Pages.{open_page, is_due}
use Rattle.page_shelf.specs.Shelves.{ChangesOnly, Contents, IsSame}
use Rattle.page_shelf.specs.declared.ShelfPart.TheVariants.{Bits}
use Rattle.router_account.specs.Account.{Account, fill, with_closing}
use Rattle.router_account.specs.Ledger.{Ledger, Unfinished, nothing_unfinished}
use Rattle.router_account.specs.Records.{Holds, HoldsBits, ArePageBits, KeepsOthers, name_of}
use Rattle.router_account.specs.Shelves.{ShelfView}
use Rattle.data_agent.specs.declared.Barrier.{Barrier}
use Rattle.data_agent.specs.Calls.{IsPassed, IsPassedName, marks_of, split_of}
use Rattle.trace_history.specs.Routers.{RouterRules, sum_over}
use Rattle.trace_replay.specs.Agents.{Standing, AllStand, IsHeld, barrier_at, no_barrier, passed, passed_by, IsPassedAt, PassesUpTo}
use Rattle.trace_replay.proofs.Touched.{passed_page}
use Rattle.trace_replay.proofs.Sums.{rose_add, sum_more, get_push_same, get_push_other}

-- ---- the router of a ledger behind a barrier

cond_router : (b : Bool) (x y : Account) → x.router ≡ y.router → (cond b x y).router ≡ y.router
cond_router true x y e = e
cond_router false x y e = refl

pub passed_router : (rules : Rules) (l : Ledger) (clock : ℕ) (tick : Bool) (b : Barrier) → (passed rules l clock tick b).account.router ≡ l.account.router
passed_router rules l clock true b = cond_router (is_due rules l.account.closings clock (fill rules l.account (open_page l.account.closings))) (with_closing l.account clock) l.account refl
passed_router rules l clock false b = refl

-- what stands where the same stands
pub holds_same : (rules : Rules) (before after : Contents) (l : Ledger) → IsSame before after → Holds rules before l → Holds rules after l
holds_same rules before after l same holds = record {
  put = λ page part put live. same (name_of l.account.router page part) ∙ holds.put page part put live;
  gone = λ page part old covered left. same (name_of l.account.router page part) ∙ holds.gone page part old covered left;
}

-- what stands of another router still stands
pub holds_still : (rules : Rules) (before after : Contents) (q : ℕ) (l : Ledger) → KeepsOthers q before after → l.account.router ≢ q → Holds rules before l → Holds rules after l
holds_still rules before after q l others ne holds = record {
  put = λ page part put live. others (name_of l.account.router page part) ne ∙ holds.put page part put live;
  gone = λ page part old covered left. others (name_of l.account.router page part) ne ∙ holds.gone page part old covered left;
}

pub held_still : (rules : Rules) (before after : Contents) (q : ℕ) (l : Ledger) (u : Unfinished) → KeepsOthers q before after → l.account.router ≢ q → IsHeld rules before l u → IsHeld rules after l u
held_still rules before after q l u others ne held = record {
  records = holds_still rules before after q l others ne held.records;
  bits = λ x in_it. others (name_of l.account.router x.page Bits) ne ∙ held.bits x in_it;
  true_bits = held.true_bits;
}

-- one router more
module _ {A : Type 0} (stands : Standing A) (clock : ℕ) (tick : Bool) (i : ℕ) (old mid : List A) (bs : List Barrier) (x d0 new : A) (b : Barrier) (s0 s1 s2 : ShelfView)
    (in_old : i < length old) (is : x ≡ get_or mid i d0) (so : PassesUpTo stands clock tick i old mid bs s0 s1)
    (later : s1.faults ≤ s2.faults) (still : s2.tells ≡ s1.tells)
    (told : (rules : Rules) (l : Ledger) (u : Unfinished) → stands x rules l u → IsPassed rules l clock tick b)
    (stands_now : (rules : Rules) (l : Ledger) (u : Unfinished) → stands x rules l u → stands new rules (passed rules l clock tick b) nothing_unfinished)
    (paid : (rules : Rules) (l : Ledger) (u : Unfinished) → stands x rules l u → RoseBy (marks_of b - u.refused) s1.faults s2.faults)
    (holds : (rules : Rules) (l : Ledger) (u : Unfinished) → stands x rules l u → s1.tells ≡ true → Holds rules s1.contents l → HoldsBits rules s1.contents l.account u → ArePageBits rules l.account u
    → Holds rules s2.contents (passed rules l clock tick b))
    (others : (rules : Rules) (l : Ledger) (u : Unfinished) → stands x rules l u → s1.tells ≡ true → KeepsOthers l.account.router s1.contents s2.contents)
    (only : (rules : Rules) (l : Ledger) (u : Unfinished) → stands x rules l u → s1.tells ≡ true → ChangesOnly (IsPassedName rules l (passed rules l clock tick b) (split_of b)) s1.contents s2.contents) where
  within : i < length mid
  within = subst (λ (n : ℕ). i < n) (sym so.same) in_old

  x_stands : (rules : RouterRules) (ls : ℕ → Ledger) (us : ℕ → Unfinished) → AllStand stands rules ls us old → stands x (rules i) (ls i) (us i)
  x_stands rules ls us all =
      let P : A → Type 0 = λ y. stands y (rules i) (ls i) (us i) in
      subst P (sym (is ∙ so.rest i d0 (omega arith))) (all.each i d0 in_old)

  here : barrier_at (bs ++ b ∷ []) i ≡ b
  here = get_push_same bs b no_barrier i so.count

  there : (r : ℕ) → r < i → barrier_at (bs ++ b ∷ []) r ≡ barrier_at bs r
  there r l = let n = so.count in get_push_other bs b no_barrier r (omega (arith, n))

  At : (rules : RouterRules) (ls : ℕ → Ledger) (r : ℕ) → Type 0
  At rules ls r = (d : A) → IsPassedAt stands (rules r) clock tick (ls r) (barrier_at (bs ++ b ∷ []) r) (get_or (set mid i new) r d)

  earlier : (rules : RouterRules) (ls : ℕ → Ledger) (us : ℕ → Unfinished) → AllStand stands rules ls us old → (r : ℕ) → r < i → At rules ls r
  unfolding At
  earlier rules ls us all r l d =
      let P : Barrier → Type 0 = λ y. IsPassedAt stands (rules r) clock tick (ls r) y (get_or (set mid i new) r d) in
      let Q : A → Type 0 = λ a. IsPassedAt stands (rules r) clock tick (ls r) (barrier_at bs r) a in
      let ne : r ≢ i = omega arith in
      subst P (sym (there r l)) (subst Q (sym (get_or-set_other mid i r new d ne)) (so.done rules ls us all r d l))

  this : (rules : RouterRules) (ls : ℕ → Ledger) (us : ℕ → Unfinished) → AllStand stands rules ls us old → At rules ls i
  unfolding At
  this rules ls us all d =
      let P : Barrier → Type 0 = λ y. IsPassedAt stands (rules i) clock tick (ls i) y (get_or (set mid i new) i d) in
      let Q : A → Type 0 = λ a. IsPassedAt stands (rules i) clock tick (ls i) b a in
      let at = x_stands rules ls us all in
      subst P (sym here) (subst Q (sym (get_or-set_at mid i i new d refl within)) (record { told = told (rules i) (ls i) (us i) at; stands_now = stands_now (rules i) (ls i) (us i) at }))

  tells_mid : s0.tells ≡ true → s1.tells ≡ true
  tells_mid t = so.still ∙ t

  spared : (rules : RouterRules) (ls : ℕ → Ledger) (us : ℕ → Unfinished) → s0.tells ≡ true → AllStand stands rules ls us old → KeepsOthers (ls i).account.router s1.contents s2.contents
  spared rules ls us t all = others (rules i) (ls i) (us i) (x_stands rules ls us all) (tells_mid t)

  apart : (rules : RouterRules) (ls : ℕ → Ledger) (us : ℕ → Unfinished) → AllStand stands rules ls us old → (r : ℕ) (l : Ledger) → l.account.router ≡ r → r ≢ i → l.account.router ≢ (ls i).account.router
  apart rules ls us all r l own ne e = ne (sym own ∙ e ∙ all.numbered i)

  paid_more : (rules : RouterRules) (ls : ℕ → Ledger) (us : ℕ → Unfinished) → AllStand stands rules ls us old
      → RoseBy (sum_over (i + 1) (λ r. marks_of (barrier_at (bs ++ b ∷ []) r) - (us r).refused)) s0.faults s2.faults
  paid_more rules ls us all =
      let P : ℕ → Type 0 = λ n. RoseBy n s0.faults s2.faults in
      let sum = sum_over i (λ r. marks_of (barrier_at bs r) - (us r).refused) in
      subst P (sym (sum_more i (λ r. marks_of (barrier_at (bs ++ b ∷ []) r) - (us r).refused) (λ r. marks_of (barrier_at bs r) - (us r).refused) (marks_of b - (us i).refused)
      (λ r l. ap (λ (y : Barrier). marks_of y - (us r).refused) (there r l)) (ap (λ (y : Barrier). marks_of y - (us i).refused) here)))
      (rose_add sum (marks_of b - (us i).refused) s0.faults s1.faults s2.faults (so.paid rules ls us all) (paid (rules i) (ls i) (us i) (x_stands rules ls us all)))

  pub passes_more : PassesUpTo stands clock tick (i + 1) old (set mid i new) (bs ++ b ∷ []) s0 s2
  unfolding At
  passes_more = record {
    count = let n = so.count in length-append bs (b ∷ []) ∙ ap (λ (n : ℕ). n + 1) n;
    same = length-set mid i new ∙ so.same;
    rest = λ r d l. let ne : r ≢ i = omega arith in get_or-set_other mid i r new d ne ∙ so.rest r d (omega arith);
    later = let a = so.later in omega (arith, a, later);
    still = still ∙ so.still;
    done = λ rules ls us all r d l. below_more (At rules ls) i (earlier rules ls us all) (this rules ls us all) r l d;
    paid = paid_more;
    holds = λ t rules ls us all held. below_more (λ r. Holds (rules r) s2.contents (passed_by rules clock tick (bs ++ b ∷ []) ls r)) i
        (λ r l.
        let P : Barrier → Type 0 = λ y. Holds (rules r) s2.contents (passed (rules r) (ls r) clock tick y) in
        subst P (sym (there r l)) (holds_still (rules r) s1.contents s2.contents (ls i).account.router (passed_by rules clock tick bs ls r) (spared rules ls us t all)
        (apart rules ls us all r (passed_by rules clock tick bs ls r) (passed_router (rules r) (ls r) clock tick (barrier_at bs r) ∙ all.numbered r) (omega arith)) (so.holds t rules ls us all held r l)))
        (let P : Barrier → Type 0 = λ y. Holds (rules i) s2.contents (passed (rules i) (ls i) clock tick y) in
        let was = so.others t rules ls us all held i (omega arith) in_old in
        subst P (sym here) (holds (rules i) (ls i) (us i) (x_stands rules ls us all) (tells_mid t) was.records was.bits was.true_bits));
    others = λ t rules ls us all held r l m. held_still (rules r) s1.contents s2.contents (ls i).account.router (ls r) (us r) (spared rules ls us t all)
        (apart rules ls us all r (ls r) (all.numbered r) (omega arith)) (so.others t rules ls us all held r (omega arith) m);
    untouched = λ t rules ls us all name spared.
        let r : ℕ = name.router.number in
        only (rules i) (ls i) (us i) (x_stands rules ls us all) (tells_mid t) name
        (λ is.
        let at : r ≡ i = is.router ∙ all.numbered i in
        let P : ℕ → Type 0 = λ q. Contains (passed_by rules clock tick (bs ++ b ∷ []) ls q).covered_before name.page.number in
        let Q : Barrier → Type 0 = λ y. Contains (passed (rules i) (ls i) clock tick y).covered_before name.page.number in
        spared (record { router = omega (arith, at); page = subst P (sym at) (subst Q (sym here) (passed_page (rules i) (ls i) clock tick b name is)) }))
        ∙ so.untouched t rules ls us all name
        (λ is.
        let Q : Barrier → Type 0 = λ y. Contains (passed (rules r) (ls r) clock tick y).covered_before name.page.number in
        let below = is.router in
        spared (record { router = omega (arith, below); page = subst Q (sym (there r below)) is.page }));
  }
