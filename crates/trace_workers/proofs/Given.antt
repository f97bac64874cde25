-- One job more has given its last pass.
use Rattle.std.proofs.Common.{◌≡◌, ℕ, ◌+◌, ◌<◌, ◌≤◌, List, [], ◌∷◌, ◌++◌, length, get_or, set, sym, ap, ◌∙◌, subst, arith}
use mathlib.Core.Logic.{dite}
use native.Mathlib.Decide.{ℕ_discrete}
use Rattle.std.proofs.Math.Seq.{get_or-append_seam}
use Rattle.std.proofs.lemmas.List.{get_or-set_same, get_or-set_other, get_or_append_left, get_or_default}
use Rattle.page_gate.specs.Held.{PassHeld}
use Rattle.trace_workers.specs.declared.jobs.Job.{Job}
use Rattle.trace_workers.specs.Columns.{Gave}

module _ (old jobs : List Job) (col : List PassHeld) (i : ℕ) (x next : Job) (one : PassHeld) (within : i < length jobs) (long : length col ≡ i) where
  pub given_more : ((w : ℕ) (d : Job) → i ≤ w → get_or jobs w d ≡ get_or old w d) → ((w : ℕ) (d : Job) (p : PassHeld) → w < i → Gave (get_or old w d) (get_or jobs w d) (get_or col w p)) → Gave (get_or jobs i x) next one
      → (w : ℕ) (d : Job) (p : PassHeld) → w < i + 1 → Gave (get_or old w d) (get_or (set jobs i next) w d) (get_or (col ++ one ∷ []) w p)
  given_more left done now w d p lt = dite (ℕ_discrete w i)
      (λ e.
      let a : get_or jobs i x ≡ get_or old w d = get_or_default jobs i x d within ∙ left i d (let g : i ≤ i = omega arith in g) ∙ ap (λ j. get_or old j d) (sym e) in
      let b : next ≡ get_or (set jobs i next) w d = sym (get_or-set_same jobs i next d within) ∙ ap (λ j. get_or (set jobs i next) j d) (sym e) in
      let c : one ≡ get_or (col ++ one ∷ []) w p = sym (get_or-append_seam col one [] p) ∙ ap (λ j. get_or (col ++ one ∷ []) j p) (long ∙ sym e) in
      subst (λ (q : PassHeld). Gave (get_or old w d) (get_or (set jobs i next) w d) q) c (subst (λ (j : Job). Gave (get_or old w d) j one) b (subst (λ (j : Job). Gave j next one) a now)))
      (λ ne. let low : w < i = omega arith in
      let b : get_or jobs w d ≡ get_or (set jobs i next) w d = sym (get_or-set_other jobs i w next d ne) in
      let c : get_or col w p ≡ get_or (col ++ one ∷ []) w p = sym (get_or_append_left col (one ∷ []) p w (let g : w < length col = omega arith in g)) in
      subst (λ (q : PassHeld). Gave (get_or old w d) (get_or (set jobs i next) w d) q) c (subst (λ (j : Job). Gave (get_or old w d) j (get_or col w p)) b (done w d p low)))
