-- Lists of four slots.
use Rattle.std.proofs.Common.{◌≡◌, ℕ, zero, suc, ◌<◌, ◌≤◌, ◌⊎◌, true, false, nat_lt, List, [], ◌∷◌, length, get_or, Option, Some, None, sym, refl, ap, ◌∙◌, subst, inl, inr, ⊎_elim, arith}
use Rattle.std.proofs.lemmas.Bool.{cases_Bool}
use Rattle.spie_base.proofs.Bounds.{is_past, is_within}
use Rattle.gate_core.specs.declared.view.Slot.{Slot}
use Rattle.gate_core.specs.Views.{no_slot}
use Rattle.gate_core.specs.declared.view.Duties.{Duties}
use Rattle.page_gate.specs.Slots.{is_waiting, least_with, older, oldest_among, IsWaiting}

-- four slots, one by one
pub four_are : (xs : List Slot) → length xs ≡ 4 → xs ≡ get_or xs 0 no_slot ∷ get_or xs 1 no_slot ∷ get_or xs 2 no_slot ∷ get_or xs 3 no_slot ∷ []
four_are [] e = absurd (omega arith)
four_are (a ∷ []) e = absurd (omega arith)
four_are (a ∷ b ∷ []) e = absurd (omega arith)
four_are (a ∷ b ∷ c ∷ []) e = absurd (omega arith)
four_are (a ∷ b ∷ c ∷ d ∷ []) e = refl
four_are (a ∷ b ∷ c ∷ d ∷ x ∷ xs) e = absurd (omega arith)

-- the page of some waiting slot
abbrev pub Waits : List Slot → ℕ → Type 0
Waits xs page = (s : ℕ) × (s < length xs) × (is_waiting (get_or xs s no_slot).phase ≡ true) × ((get_or xs s no_slot).page ≡ page)

-- a found page waits, and no waiting page is less; where none is found, none waits
abbrev pub Least : List Slot → Option ℕ → Type 0
Least xs None = (page : ℕ) → Waits xs page → ⊥
Least xs (Some least) = Waits xs least × ((page : ℕ) → Waits xs page → least ≤ page)

further : (x : Slot) (xs : List Slot) (page : ℕ) → Waits xs page → Waits (x ∷ xs) page
further x xs page (s, lt, w, is) = (suc s, (let g : suc s < suc (length xs) = omega arith in g), w, is)

nearer : (x : Slot) (xs : List Slot) (page : ℕ) → Waits (x ∷ xs) page → ((is_waiting x.phase ≡ true) × (x.page ≡ page)) ⊎ Waits xs page
nearer x xs page (zero, lt, w, is) = inl (w, is)
nearer x xs page (suc s, lt, w, is) = inr (s, (let g : s < length xs = omega arith in g), w, is)

module _ (x : Slot) (xs : List Slot) where
  here : is_waiting x.phase ≡ true → Waits (x ∷ xs) x.page
  here w = (0, (let g : 0 < suc (length xs) = omega arith in g), w, refl)

  lesser : (o : ℕ) → is_waiting x.phase ≡ true → Least xs (Some o) → Least (x ∷ xs) (Some (least_with x.page (Some o)))
  lesser o w l = ⊎_elim
      (λ e. subst (λ b. Least (x ∷ xs) (Some (Rattle.std.proofs.Common.cond b o x.page))) (sym e) (further x xs o l.0, λ page h. ⊎_elim (λ t. let a = is_past o x.page e in let b = t.1 in omega arith) (λ t. l.1 page t) (nearer x xs page h)))
      (λ e. subst (λ b. Least (x ∷ xs) (Some (Rattle.std.proofs.Common.cond b o x.page))) (sym e) (here w, λ page h. ⊎_elim (λ t. let b = t.1 in omega arith) (λ t. let a = is_within o x.page e in let b = l.1 page t in omega arith) (nearer x xs page h)))
      (cases_Bool (nat_lt o x.page))

  first : is_waiting x.phase ≡ true → Least xs None → Least (x ∷ xs) (Some x.page)
  first w l = (here w, λ page h. ⊎_elim (λ t. let b = t.1 in omega arith) (λ t. absurd (l page t)) (nearer x xs page h))

  with_first : is_waiting x.phase ≡ true → (o : Option ℕ) → Least xs o → Least (x ∷ xs) (Some (least_with x.page o))
  with_first w None l = first w l
  with_first w (Some o) l = lesser o w l

  without : is_waiting x.phase ≡ false → (o : Option ℕ) → Least xs o → Least (x ∷ xs) o
  without n None l = λ page h. ⊎_elim (λ t. let a = t.0 in cc) (λ t. l page t) (nearer x xs page h)
  without n (Some o) l = (further x xs o l.0, λ page h. ⊎_elim (λ t. let a = t.0 in absurd (let e : true ≡ false = sym a ∙ n in cc)) (λ t. l.1 page t) (nearer x xs page h))

  one_more : (o : Option ℕ) → Least xs o → Least (x ∷ xs) (older x o)
  one_more o l = ⊎_elim
      (λ w. subst (λ b. Least (x ∷ xs) (Rattle.std.proofs.Common.cond b (Some (least_with x.page o)) o)) (sym w) (with_first w o l))
      (λ n. subst (λ b. Least (x ∷ xs) (Rattle.std.proofs.Common.cond b (Some (least_with x.page o)) o)) (sym n) (without n o l))
      (cases_Bool (is_waiting x.phase))

pub oldest_is : (xs : List Slot) → Least xs (oldest_among xs)
oldest_is [] = λ page h. let lt = h.1 in omega arith
oldest_is (x ∷ xs) = one_more x xs (oldest_among xs) (oldest_is xs)

-- ---- as the keeper's duties have them

module _ (d : Duties) (four : length d.slots ≡ 4) where
  waiting : (page : ℕ) → Waits d.slots page → IsWaiting d page
  waiting page (s, lt, w, is) = (s, (let g : s < 4 = omega arith in g), w, is)

  waits : (page : ℕ) → IsWaiting d page → Waits d.slots page
  waits page (s, near, w, is) = (s, (let g : s < length d.slots = omega arith in g), w, is)

  pub least_shown : (xs : List Slot) (number : ℕ) → xs ≡ d.slots → Some number ≡ oldest_among xs → IsWaiting d number × ((other : ℕ) → IsWaiting d other → number ≤ other)
  least_shown xs number e is =
      let l : Least d.slots (Some number) = subst (Least d.slots) (sym (is ∙ ap oldest_among e)) (oldest_is d.slots) in
      (waiting number l.0, λ other h. l.1 other (waits other h))

  pub none_shown : (xs : List Slot) → xs ≡ d.slots → None ≡ oldest_among xs → (page : ℕ) → IsWaiting d page → ⊥
  none_shown xs e is page h =
      let l : Least d.slots None = subst (Least d.slots) (sym (is ∙ ap oldest_among e)) (oldest_is d.slots) in l page (waits page h)
