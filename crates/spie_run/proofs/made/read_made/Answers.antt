use Rattle.std.proofs.Common.{◌≡◌, ◌∙◌, sym, subst, Ok, Err, Result}
use Rattle.trace_format.specs.Trace.{IsTrace}
use Rattle.trace_format.specs.declared.items.Trace.{Trace}
use Rattle.trace_format.specs.declared.refused.TraceRefused.{TraceRefused}
use Rattle.trace_format.specs.Outcomes.{IsReadAs}
use Rattle.made_trace.specs.Made.{made_trace}
use Rattle.spie_run.proofs.made.read_made.Goals as goal

pub unreachable-requires : goal.unreachable-requires
unreachable-requires g =
    let made = made_trace g.args.made.seed g.args.made.packets in
    let text = g.deref.ensures.value ∙ g.in_ok-text.ensures.text in
    let is = subst (λ bytes. IsTrace bytes made) (sym text) (g.made_is_trace.ensures g.args.made.seed g.args.made.packets (search) g.requires.1) in
    let as_read = subst (λ answer. IsReadAs answer (Ok made)) (g.in-Err-Refused.is) (g.read_trace.ensures.each_trace made is) in
    let q : ◌≡◌ {A = Result Trace TraceRefused} (Ok made) (Err g.in-Err-Refused.field-0-0) = subst (λ why. IsReadAs (Err why) (Ok made)) g.in-Err-Refused.field-0-is as_read in
    cc

pub returns-in-Ok-clause-made : goal.returns-in-Ok-clause-made
returns-in-Ok-clause-made g =
    let made = made_trace g.args.made.seed g.args.made.packets in
    let text = g.deref.ensures.value ∙ g.in_ok-text.ensures.text in
    let is = subst (λ bytes. IsTrace bytes made) (sym text) (g.made_is_trace.ensures g.args.made.seed g.args.made.packets (search) g.requires.1) in
    let q : Ok made ≡ Ok g.in-Ok.trace = g.in-Ok.ensures.each_trace made is in
    cc
