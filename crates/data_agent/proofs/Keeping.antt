-- What the agent's keeper has, as it records, settles, collects, opens and reads pages.
use Rattle.std.proofs.Common.{ℕ, zero, suc, ◌≡◌, ◌≤◌, ◌<◌, ◌+◌, ◌^◌, ◌↔◌, ◌∙◌, ◌∷◌, [], ◌++◌, List, length, get_or, Bool, true, false, sym, ap, subst, refl, arith, Result, Ok, Err, OnOk, OnErr, IfOk, IsTrue}
use Rattle.std.specs.List.{Contains, range_with_len}
use Rattle.std.proofs.lemmas.Bool.{false≢true}
use Rattle.spie_base.specs.declared.Entry.{Entry}
use Rattle.spie_base.specs.declared.PageNo.{PageNo}
use Rattle.spie_base.specs.declared.PageShape.{PageShape}
use Rattle.spie_base.specs.declared.Sig.{Sig}
use Rattle.bloom_page.specs.Sets.{PageSet, are_in, set_of}
use Rattle.bloom_page.proofs.Members.{Contains-range, are_in-inclusion}
use Rattle.hash_family.specs.Entries.{IsMarked, is_marked}
use Rattle.hash_family.specs.Positions.{marks_of, position}
use Rattle.hash_family.proofs.EntryFacts.{marked-from_test, test-from_marked}
use Rattle.hash_family.proofs.PositionFacts.{get_or-marks_of, length-marks_of, marks_of-below}
use Rattle.spie_base.proofs.Membership.{from_filter, into_filter}
use Rattle.gate_core.specs.Invariant.{HasPage}
use Rattle.gate_core.specs.Views.{first_keeper}
use Rattle.gate_core.proofs.Starts as starts
use Rattle.page_gate.specs.Held.{Held, Home, recorded_held}
use Rattle.page_gate.specs.Pages.{phase_with}
use Rattle.page_gate.specs.Probes.{HaveAllMarks, OnlyProbes, Probes, marked_set}
use Rattle.page_gate.specs.Slots.{HasOpen, IsWaiting, free_count}
use Rattle.page_gate.specs.Steps.{IsMet}
use Rattle.data_agent.specs.Beside.{IsMinding}
use Rattle.data_agent.specs.Members.{HaveSameMembers}
use Rattle.data_agent.specs.Standing.{IsKeeping}
use Rattle.data_agent.proofs.Minding.{minded_probed, minded_stands, next_minded, some_waits}
use Rattle.data_agent.proofs.SameMembers.{marked_members, members_from, members_more, same_members}

-- ---- the start

first_open : HasOpen first_keeper.duties
first_open = omega arith

first_none : (page : ℕ) → IsWaiting first_keeper.duties page → ⊥
first_none page (zero, near, w, is) = cc
first_none page (suc zero, near, w, is) = cc
first_none page (suc (suc zero), near, w, is) = cc
first_none page (suc (suc (suc zero)), near, w, is) = cc
first_none page (suc (suc (suc (suc n))), near, w, is) = absurd (omega arith)

pub kept_first : (shape : PageShape) (table : Home) → IsKeeping shape (record { table = table; view = first_keeper }) [] 0 0
kept_first shape table = record {
  role = refl;
  alone = refl;
  has = same_members [] [] refl;
  fits = starts.slots shape;
  has_open = first_open;
  open_is = refl;
  order = omega arith;
  stand = λ page from to. absurd (omega arith);
  only = λ page w. absurd (first_none page w);
}

-- ---- a record

pub kept_recorded : (shape : PageShape) (k : Held) (entries : List Entry) (first last : ℕ) (page : PageNo) (sig : Sig) → IsKeeping shape k entries first last → page.number ≡ last
    → IsKeeping shape (recorded_held k page sig) (entries ++ record { page = record { number = last }; sig = sig } ∷ []) first last
kept_recorded shape k entries first last page sig s at = record {
  role = s.role;
  alone = s.alone;
  has = subst (λ (n : ℕ). HaveSameMembers (recorded_held k page sig).view.entries (entries ++ record { page = record { number = n }; sig = sig } ∷ [])) at
      (members_more k.view.entries entries (record { page = page; sig = sig } ∷ []) s.has);
  fits = s.fits;
  has_open = s.has_open;
  open_is = s.open_is;
  order = s.order;
  stand = s.stand;
  only = s.only;
}

-- ---- what the keeper minds

pub minding_of : (shape : PageShape) (k : Held) (entries : List Entry) (first last : ℕ) → IsKeeping shape k entries first last → IsMinding shape k first last
minding_of shape k entries first last s = record { role = s.role; fits = s.fits; has_open = s.has_open; open_is = s.open_is; order = s.order; stand = s.stand; only = s.only }

-- a keeper that keeps its entries, and beside which no pass is out
pub keeping_of : (shape : PageShape) (k k2 : Held) (entries : List Entry) (first last first' last' : ℕ) → IsKeeping shape k entries first last → k2.view.entries ≡ k.view.entries → k2.view.duties.out ≡ k.view.duties.out
    → IsMinding shape k2 first' last' → IsKeeping shape k2 entries first' last'
keeping_of shape k k2 entries first last first' last' s same out m = record {
  role = m.role;
  alone = out ∙ s.alone;
  has = members_from k2.view.entries k.view.entries entries same s.has;
  fits = m.fits;
  has_open = m.has_open;
  open_is = m.open_is;
  order = m.order;
  stand = m.stand;
  only = m.only;
}

module _ (shape : PageShape) (k : Held) (entries : List Entry) (first last : ℕ) (s : IsKeeping shape k entries first last) where
  pub stands_in : (page : ℕ) → first ≤ page → page ≤ last → HasPage (phase_with k.view.duties page)
  stands_in = minded_stands shape k first last (minding_of shape k entries first last s)

  pub next_is : k.view.duties.next ≡ last + 1
  next_is = next_minded shape k first last (minding_of shape k entries first last s)

  -- where no slot is free, a page is closed
  pub some_stand : free_count k.view.duties ≡ 0 → first < last
  some_stand = some_waits shape k first last (minding_of shape k entries first last s)

-- ---- bits are read

pub kept_probed : (shape : PageShape) (k k2 : Held) (entries : List Entry) (first last : ℕ) → OnlyProbes k k2 → IsMet shape k2.view → IsKeeping shape k entries first last → IsKeeping shape k2 entries first last
kept_probed shape k k2 entries first last (more, is) met s =
    keeping_of shape k k2 entries first last first last s (ap (λ (h : Held). h.view.entries) is) (ap (λ (h : Held). h.view.duties.out) is)
    (minded_probed shape k k2 first last (more, is) met (minding_of shape k entries first last s))

pub only_table : (k k2 : Held) → OnlyProbes k k2 → k2.table ≡ k.table
only_table k k2 (more, is) = ap (λ (h : Held). h.table) is

-- in the forms in which `probe` and `snapshot` tell it

only_of : (shape : PageShape) (page : ℕ) (sig : Sig) (k k2 : Held) (answer : Bool) → Probes shape page sig k k2 answer → OnlyProbes k k2
only_of shape page sig k k2 answer (more, is, tell) = (more, is)

pub probed_table : (shape : PageShape) (page : ℕ) (sig : Sig) (k k2 : Held) (answer : Bool) → Probes shape page sig k k2 answer → k2.table ≡ k.table
probed_table shape page sig k k2 answer reads = only_table k k2 (only_of shape page sig k k2 answer reads)

pub kept_probes : (shape : PageShape) (page : ℕ) (sig : Sig) (k k2 : Held) (answer : Bool) (entries : List Entry) (first last : ℕ) → Probes shape page sig k k2 answer → IsMet shape k2.view → IsKeeping shape k entries first last → IsKeeping shape k2 entries first last
kept_probes shape page sig k k2 answer entries first last reads met s = kept_probed shape k k2 entries first last (only_of shape page sig k k2 answer reads) met s

-- the marks of a signature are all set exactly where each is a mark of an entry
pub all_marked : (shape : PageShape) (entries : List Entry) (page : ℕ) (sig : Sig) → HaveAllMarks shape entries page sig ↔ IsTrue (are_in (marked_set shape entries page).members (marks_of shape page sig))
unfolding set_of marks_of
all_marked shape entries page sig = (
  (λ has. (are_in-inclusion (marked_set shape entries page).members (marks_of shape page sig)).1 (λ i x lt.
      let within : i < shape.k = let len = length-marks_of shape page sig in omega arith in
      let at : get_or (marks_of shape page sig) i x ≡ position shape page sig i = get_or-marks_of shape page sig i x within in
      let low : position shape page sig i < 2 ^ shape.n = subst (λ (p : ℕ). p < 2 ^ shape.n) at (marks_of-below shape page sig i x lt) in
      subst (Contains (marked_set shape entries page).members) (sym at)
      (into_filter (is_marked shape entries page) (range_with_len 0 (2 ^ shape.n)) (position shape page sig i) (Contains-range (2 ^ shape.n) (position shape page sig i) low)
      (test-from_marked shape page (position shape page sig i) entries (has i within))))),
  (λ all i within.
      let lt : i < length (marks_of shape page sig) = let len = length-marks_of shape page sig in omega arith in
      let at : get_or (marks_of shape page sig) i 0 ≡ position shape page sig i = get_or-marks_of shape page sig i 0 within in
      let has = (are_in-inclusion (marked_set shape entries page).members (marks_of shape page sig)).0 all i 0 lt in
      let kept = from_filter (is_marked shape entries page) (range_with_len 0 (2 ^ shape.n)) (get_or (marks_of shape page sig) i 0) has in
      subst (IsMarked shape entries page) at (marked-from_test shape page (get_or (marks_of shape page sig) i 0) entries kept.1)),
)

same_bool : (a b : Bool) → (IsTrue a → IsTrue b) → (IsTrue b → IsTrue a) → a ≡ b
same_bool true true f g = refl
same_bool false false f g = refl
same_bool true false f g = absurd (false≢true (f refl))
same_bool false true f g = absurd (false≢true (g refl))

pub probed_bits : (shape : PageShape) (k : Held) (entries : List Entry) (first last page : ℕ) (sig : Sig) (answer : Bool) → IsKeeping shape k entries first last
    → (k.view.duties.out ≡ 0 → IsTrue answer ↔ HaveAllMarks shape k.view.entries page sig) → answer ≡ are_in (marked_set shape entries page).members (marks_of shape page sig)
probed_bits shape k entries first last page sig answer s alone =
    let tells = alone s.alone in
    let all = all_marked shape k.view.entries page sig in
    same_bool answer (are_in (marked_set shape k.view.entries page).members (marks_of shape page sig)) (λ t. all.0 (tells.0 t)) (λ t. tells.1 (all.1 t))
    ∙ ap (λ (set : PageSet). are_in set.members (marks_of shape page sig)) (marked_members shape k.view.entries entries page s.has)

pub copied_table : {A E : Type 0} (result : Result A E) (k k2 : Held) → OnOk result (OnlyProbes k k2) → OnErr result (k2 ≡ k) → k2.table ≡ k.table
copied_table (Ok p) k k2 probes unchanged = only_table k k2 probes
copied_table (Err e) k k2 probes unchanged = ap (λ (h : Held). h.table) unchanged

pub copied_size : {E : Type 0} (shape : PageShape) (result : Result PageSet E) (k : Held) (page : ℕ) → IfOk result (λ p. p ≡ marked_set shape k.view.entries page) → IfOk result (λ p. p.n ≡ shape.n)
unfolding set_of
copied_size shape (Ok p) k page is = ap (λ (x : PageSet). x.n) is
copied_size shape (Err e) k page is = tt

pub copied_bits : {E : Type 0} (shape : PageShape) (result : Result PageSet E) (k : Held) (page : ℕ) → IfOk result (λ p. p ≡ marked_set shape k.view.entries page)
    → IfOk result (λ p. (entries : List Entry) (first last : ℕ) → IsKeeping shape k entries first last → p ≡ marked_set shape entries page)
copied_bits shape (Ok p) k page is = λ entries first last s. is ∙ marked_members shape k.view.entries entries page s.has
copied_bits shape (Err e) k page is = tt

pub copied_kept : {A E : Type 0} (shape : PageShape) (result : Result A E) (k k2 : Held) → OnOk result (OnlyProbes k k2) → OnOk result (IsMet shape k2.view) → OnErr result (k2 ≡ k)
    → (entries : List Entry) (first last : ℕ) → IsKeeping shape k entries first last → IsKeeping shape k2 entries first last
copied_kept shape (Ok p) k k2 probes met unchanged = λ entries first last s. kept_probed shape k k2 entries first last probes met s
copied_kept shape (Err e) k k2 probes met unchanged = λ entries first last s. subst (λ (h : Held). IsKeeping shape h entries first last) (sym unchanged) s
