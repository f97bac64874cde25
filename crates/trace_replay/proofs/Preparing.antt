-- Agents that were made ready for a query stand for what they stood for.
use Rattle.std.proofs.Common.{ℕ, zero, suc, ◌≡◌, ◌≢◌, ◌≤◌, ◌<◌, ◌+◌, ◌∷◌, [], ◌∙◌, ⊎_elim, Bool, List, length, get_or, set, sym, ap, refl, subst, arith, length-set, below_more}
use Rattle.std.specs.List.{All}
use Rattle.std.proofs.lemmas.Grind.{get_or-set_at}
use Rattle.std.proofs.lemmas.List.{get_or-set_other}
use Rattle.spie_base.specs.declared.Entry.{Entry}
use Rattle.router_account.specs.Ledger.{nothing_unfinished}
use Rattle.router_account.specs.Shelves.{ShelfView}
use Rattle.data_agent.specs.declared.Barrier.{Barrier}
use Rattle.trace_replay.specs.Agents.{Standing, IsPast, PassesAll, barrier_at, passed}
use Rattle.trace_replay.specs.Yards.{IsStanding, KeepsStanding, AllKeepStanding, AllKeepEntries}
use Rattle.trace_replay.proofs.Sums.{same_or}
use Rattle.trace_replay.proofs.Beside.{get_any}

past_end : {X : Type 0} (xs : List X) (i : ℕ) (d : X) → length xs ≤ i → get_or xs i d ≡ d
past_end [] i d l = refl
past_end (x ∷ xs) zero d l = absurd (omega arith)
past_end (x ∷ xs) (suc i) d l = past_end xs i d (omega arith)

pub kept_all : {A : Type 0} (stands : Standing A) (agents : List A) → AllKeepStanding stands agents agents
kept_all stands agents = record { count = refl; still = λ r a l rules x u at. at }

-- one agent more
pub kept_set : {A : Type 0} (stands : Standing A) (before agents : List A) (i : ℕ) (d new : A) → i < length agents → AllKeepStanding stands before agents
    → KeepsStanding stands (get_or agents i d) new → AllKeepStanding stands before (set agents i new)
kept_set {A = A} stands before agents i d new within so keeps = record {
  count = length-set agents i new ∙ so.count;
  still = λ r a l. ⊎_elim
      (λ (e : r ≡ i).
      let c = so.count in
      let P : ℕ → Type 0 = λ k. KeepsStanding stands (get_or before k a) (get_or (set agents i new) k a) in
      let Q : A → Type 0 = λ x. KeepsStanding stands (get_or before i a) x in
      let R : A → Type 0 = λ x. KeepsStanding stands x new in
      let was : KeepsStanding stands (get_or before i a) (get_or agents i a) = so.still i a (omega (arith, c, within)) in
      let last : KeepsStanding stands (get_or agents i a) new = subst R (get_any agents i d a within) keeps in
      subst P (sym e) (subst Q (sym (get_or-set_at agents i i new a refl within)) (λ rules x u at. last rules x u (was rules x u at))))
      (λ (ne : r ≢ i).
      let Q : A → Type 0 = λ x. KeepsStanding stands (get_or before r a) x in
      subst Q (sym (get_or-set_other agents i r new a ne)) (so.still r a l))
      (same_or r i);
}

-- ---- entries

pub entries_all : {A : Type 0} (entries : A → List Entry) (agents : List A) → AllKeepEntries entries agents agents
entries_all entries agents = record { count = refl; same = λ r a l. refl }

-- one agent more has the entries that it had
pub entries_set : {A : Type 0} (entries : A → List Entry) (before agents : List A) (i : ℕ) (d new : A) → i < length agents → AllKeepEntries entries before agents
    → entries new ≡ entries (get_or agents i d) → AllKeepEntries entries before (set agents i new)
entries_set {A = A} entries before agents i d new within so keeps = record {
  count = length-set agents i new ∙ so.count;
  same = λ r a l. ⊎_elim
      (λ (e : r ≡ i).
      let c = so.count in
      let P : ℕ → Type 0 = λ k. entries (get_or (set agents i new) k a) ≡ entries (get_or before k a) in
      subst P (sym e) (ap (λ (x : A). entries x) (get_or-set_at agents i i new a refl within) ∙ keeps ∙ ap (λ (x : A). entries x) (get_any agents i d a within) ∙ so.same i a (omega (arith, c, within))))
      (λ (ne : r ≢ i). ap (λ (x : A). entries x) (get_or-set_other agents i r new a ne) ∙ so.same r a l)
      (same_or r i);
}

-- entries that are kept twice are kept
pub entries_twice : {A : Type 0} (entries : A → List Entry) (old mid new : List A) → AllKeepEntries entries old mid → AllKeepEntries entries mid new → AllKeepEntries entries old new
entries_twice entries old mid new a b = record { count = b.count ∙ a.count; same = λ r d l. let c = a.count in b.same r d (omega (arith, c, l)) ∙ a.same r d l }

-- what holds of each item, where one more of them is another
pub each_set : {X : Type 0} (P : X → Type 0) (xs : List X) (x : X) (n : ℕ) → n < length xs → ((i : ℕ) (d : X) → i < n → P (get_or xs i d)) → P x → (i : ℕ) (d : X) → i < n + 1 → P (get_or (set xs n x) i d)
each_set P xs x n within before last i d l = below_more (λ k. P (get_or (set xs n x) k d)) n
    (λ k m. let ne : k ≢ n = omega arith in subst P (sym (get_or-set_other xs n k x d ne)) (before k d m))
    (subst P (sym (get_or-set_at xs n n x d refl within)) last) i l

-- an agent that is kept so stands for some ledger
pub kept_standing : {A : Type 0} (stands : Standing A) (before agents : List A) (i : ℕ) (d : A) → i < length before → AllKeepStanding stands before agents → IsStanding stands (get_or before i d) → IsStanding stands (get_or agents i d)
kept_standing stands before agents i d l so at = (at.0, at.1, at.2, so.still i d l at.0 at.1 at.2 at.3)

-- agents of which a query may be asked stand for some ledger
pub past_standing : {A : Type 0} (stands : Standing A) (time : ℕ) (agents : List A) → All (IsPast stands time) agents → All (IsStanding stands) agents
past_standing stands time agents past i d l = let at = past i d l in (at.0, at.1, at.2, at.3)

-- a barrier that the routers have passed
pub passes_kept : {A : Type 0} (stands : Standing A) (clock : ℕ) (tick : Bool) (old mid new : List A) (bs : List Barrier) (was now : ShelfView)
    → PassesAll stands clock tick old mid bs was now → AllKeepStanding stands mid new → PassesAll stands clock tick old new bs was now
passes_kept {A = A} stands clock tick old mid new bs was now all kept = record {
  count = all.count;
  same = kept.count ∙ all.same;
  rest = λ r d l. let c = kept.count in let s = all.same in past_end new r d (omega (arith, c, s, l)) ∙ sym (past_end old r d l);
  later = all.later;
  still = all.still;
  done = λ rules ls us stand r d l.
      let was_at = all.done rules ls us stand r d l in
      let s = all.same in
      record { told = was_at.told; stands_now = kept.still r d (omega (arith, s, l)) (rules r) (passed (rules r) (ls r) clock tick (barrier_at bs r)) nothing_unfinished was_at.stands_now };
  paid = all.paid;
  holds = all.holds;
  others = all.others;
  untouched = all.untouched;
}
