use Rattle.std.proofs.Common.{◌≡◌, ◌∙◌, ◌++◌, ◌∷◌, [], List, ℕ, ap, append_assoc, OnErr, Result, Ok, Err}
use Rattle.line_text.specs.Writing.{BeginsWith}
use Rattle.report_text.proofs.fields.push_more_bads.Goals as goal

on_any : {T E P : Type 0} (r : Result T E) → P → OnErr r P
on_any (Ok x) p = tt
on_any (Err e) p = p

-- the pages before, a comma, and what stands of the next one
begun_behind : {old far comma now : List ℕ} (texts : List ℕ) → far ≡ old ++ texts → comma ≡ far ++ 44 ∷ [] → BeginsWith now comma → BeginsWith now old
begun_behind {old} {far} {comma} {now} texts before next begun =
    record {
      rest = texts ++ 44 ∷ begun.rest;
      is = begun.is
          ∙ ap (λ (t : List ℕ). t ++ begun.rest) (next ∙ ap (λ (t : List ℕ). t ++ 44 ∷ []) before)
          ∙ append_assoc (old ++ texts) (44 ∷ []) begun.rest
          ∙ append_assoc old texts (44 ∷ begun.rest);
    }

pub returns-in_err-push_bad-clause-begun : goal.returns-in_err-push_bad-clause-begun
returns-in_err-push_bad-clause-begun c =
    on_any c.from_residual-in_err-push_bad.result (begun_behind _ c.loop-bad.invariant c.in_ok-push.ensures.text c.in_err-push_bad.ensures.begun)
