-- What holds of one job more.
use Rattle.std.proofs.Common.{◌≡◌, ℕ, ◌+◌, ◌<◌, ◌≤◌, List, [], ◌∷◌, ◌++◌, length, get_or, set, sym, ap, ◌∙◌, subst, arith}
use mathlib.Core.Logic.{dite}
use native.Mathlib.Decide.{ℕ_discrete}
use Rattle.std.proofs.lemmas.List.{get_or-set_same, get_or-set_other, get_or_default, get_or_push, get_or_append_left}
use Rattle.trace_workers.specs.declared.jobs.Job.{Job}

module _ (old jobs : List Job) (i : ℕ) (x next : Job) (within : i < length jobs) where
  pub each_more : (R : Job → Job → Type 0) → ((w : ℕ) (d : Job) → i ≤ w → get_or jobs w d ≡ get_or old w d) → ((w : ℕ) (d : Job) → w < i → R (get_or old w d) (get_or jobs w d)) → R (get_or jobs i x) next
      → (w : ℕ) (d : Job) → w < i + 1 → R (get_or old w d) (get_or (set jobs i next) w d)
  each_more R left done now w d lt = dite (ℕ_discrete w i)
      (λ e.
      let a : get_or jobs i x ≡ get_or old w d = get_or_default jobs i x d within ∙ left i d (let g : i ≤ i = omega arith in g) ∙ ap (λ j. get_or old j d) (sym e) in
      let b : next ≡ get_or (set jobs i next) w d = sym (get_or-set_same jobs i next d within) ∙ ap (λ j. get_or (set jobs i next) j d) (sym e) in
      subst (λ (j : Job). R (get_or old w d) j) b (subst (λ (j : Job). R j next) a now))
      (λ ne. let low : w < i = omega arith in subst (λ (j : Job). R (get_or old w d) j) (sym (get_or-set_other jobs i w next d ne)) (done w d low))

  pub left_more : ((w : ℕ) (d : Job) → i ≤ w → get_or jobs w d ≡ get_or old w d) → (w : ℕ) (d : Job) → i + 1 ≤ w → get_or (set jobs i next) w d ≡ get_or old w d
  left_more left w d le = get_or-set_other jobs i w next d (λ e. absurd (omega arith)) ∙ left w d (omega arith)

-- one of them changed
module _ (jobs : List Job) (i : ℕ) (x next : Job) (within : i < length jobs) where
  pub one_changed : (R : ℕ → Job → Job → Type 0) → R i (get_or jobs i x) next → ((w : ℕ) (j : Job) → (w ≡ i → ⊥) → R w j j) → (w : ℕ) (d : Job) → R w (get_or jobs w d) (get_or (set jobs i next) w d)
  one_changed R now others w d = dite (ℕ_discrete w i)
      (λ e. let a : get_or jobs i x ≡ get_or jobs w d = get_or_default jobs i x d within ∙ ap (λ j. get_or jobs j d) (sym e) in
      let b : next ≡ get_or (set jobs i next) w d = sym (get_or-set_same jobs i next d within) ∙ ap (λ j. get_or (set jobs i next) j d) (sym e) in
      subst (λ k. R k (get_or jobs w d) (get_or (set jobs i next) w d)) (sym e) (subst (λ (j : Job). R i (get_or jobs w d) j) b (subst (λ (j : Job). R i j next) a now)))
      (λ ne. subst (λ (j : Job). R w (get_or jobs w d) j) (sym (get_or-set_other jobs i w next d ne)) (others w (get_or jobs w d) ne))

-- one job more at the end
pub last_more : (P : Job → Type 0) (jobs : List Job) (one : Job) → ((w : ℕ) (d : Job) → w < length jobs → P (get_or jobs w d)) → P one → (w : ℕ) (d : Job) → w < length jobs + 1 → P (get_or (jobs ++ one ∷ []) w d)
last_more P jobs one each now w d lt = dite (ℕ_discrete w (length jobs))
    (λ e. subst P (sym (get_or_push jobs one d w (sym e))) now)
    (λ ne. let low : w < length jobs = omega arith in subst P (sym (get_or_append_left jobs (one ∷ []) d w low)) (each w d low))
