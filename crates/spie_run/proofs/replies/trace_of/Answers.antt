use Rattle.std.proofs.Common.{ℕ, List, ◌∙◌, sym, ap, inr, refl, subst}
use Rattle.trace_format.specs.Trace.{IsTrace}
use Rattle.trace_format.specs.declared.WhyRefused.TheVariants.{Field}
use Rattle.spie_run.specs.Later.{is_first_version}
use Rattle.spie_run.proofs.Unread.{unread_by}
use Rattle.spie_run.proofs.replies.trace_of.Goals as goal

pub returns-then-not-starts_with-clause-refused : goal.returns-then-not-starts_with-clause-refused
returns-then-not-starts_with-clause-refused c =
    let T : List ℕ → Type 0 = λ text. IsTrace text c.in-Ok.trace in
    let later = ap is_first_version (sym c.deref-in-Ok.ensures.value) ∙ sym c.starts_with.ensures.value ∙ c.if-not-starts_with.true in
    unread_by c.args.text.items (record { line = 1; why = Field }) c.refusal_of.result
    (inr (record { trace = c.in-Ok.trace; read = subst T c.deref.ensures.value c.in-Ok.ensures.trace; later = later; named = refl })) c.refusal_of.ensures
