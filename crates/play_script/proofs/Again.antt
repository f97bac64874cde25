-- What is spelled so is read.
use Rattle.std.proofs.Common.{ℕ, ◌≡◌, ◌^◌, ◌≤◌, List, [], ◌∷◌, refl, ap, sym, ◌∙◌, subst, arith, Result, Ok, Err, true, cond, lit<}
use Rattle.std.proofs.Math.Pow.{pow_mono}
use Rattle.std.specs.Fmt.{decimal}
use Rattle.gate_core.specs.declared.steps.Act.{Act}
use Rattle.gate_core.specs.declared.steps.Act.TheVariants as act
use Rattle.gate_core.specs.declared.steps.Step.{Step}
use Rattle.spie_base.specs.declared.types.PageShape.{PageShape}
use Rattle.trace_format.proofs.Again.{number_again}
use Rattle.trace_format.specs.declared.refused.WhyRefused.{WhyRefused}
use Rattle.trace_format.specs.declared.refused.WhyRefused.TheVariants as why
use Rattle.play_script.proofs.Fields.{below_again, sig_again, actor_again, shape_again}
use Rattle.play_script.proofs.Meets.{known_at}
use Rattle.play_script.proofs.Wording.{word_again}
use Rattle.play_script.specs.Before.{Known}
use Rattle.play_script.specs.Reading.{alone_in, enter_in, slot_in, probe_fields, probe_in, act_in, actor_in, step_of, step_in, grown, version_rest, version_line, core_fields, core_rest, core_line, pushed, by_word, end_line, step_line, line_at}
use Rattle.play_script.specs.Said.{Said}
use Rattle.play_script.specs.Said as said
use Rattle.play_script.specs.Script.{is_over_limit}
use Rattle.play_script.specs.Spelling.{Spells, SpellsAct, IsActor}
use Rattle.gate_core.specs.Core.{may_do}
use Rattle.play_script.specs.Words.{word_text, word_done, may_come}
use Rattle.play_script.specs.declared.script.PlayScript.{PlayScript}
use Rattle.play_script.specs.declared.words.Stage.{Stage}
use Rattle.play_script.specs.declared.words.Stage.TheVariants as stage
use Rattle.gate_core.specs.declared.limits.TheConstants.{MOST_PASSES, SLOTS}
use Rattle.play_script.specs.declared.script.TheConstants.{CORE_N_MOST}

-- passes and positions are few enough for the reading of numbers
pub record IsNarrow (far : PlayScript) : Type 0 where
  pub few_passes : far.passes ≤ MOST_PASSES
  pub n_most : far.shape.n ≤ CORE_N_MOST

positions_fit : (n : ℕ) → n ≤ CORE_N_MOST → 2 ^ n ≤ 2 ^ 32
positions_fit n h = let p : 2 ^ n ≤ 2 ^ 16 = pow_mono h in omega (arith, p)

-- an act is read from its word and the fields behind it
pub record ActAgain (shape : PageShape) (a : Act) (fields : List (List ℕ)) : Type 0 where
  pub rest : List (List ℕ)
  pub are : fields ≡ word_text (word_done a) ∷ rest
  pub reads : act_in (2 ^ shape.n) (word_done a) rest ≡ Ok a

act_again : (shape : PageShape) (a : Act) (fields : List (List ℕ)) → shape.n ≤ CORE_N_MOST → SpellsAct shape a fields → ActAgain shape a fields
unfolding act_in alone_in enter_in slot_in probe_in probe_fields
act_again shape act.Look fields n s = record { rest = []; are = s; reads = refl }
act_again shape (act.Enter sig) fields n s = record { rest = s.0 ∷ []; are = s.1; reads = rw (sig_again s.0 sig s.2) refl }
act_again shape act.Set fields n s = record { rest = []; are = s; reads = refl }
act_again shape act.Leave fields n s = record { rest = []; are = s; reads = refl }
act_again shape act.Seal fields n s = record { rest = []; are = s; reads = refl }
act_again shape (act.Settle slot) fields n s = record { rest = decimal slot ∷ []; are = s.0; reads = rw (below_again SLOTS slot (omega arith) s.1) refl }
act_again shape (act.Drain slot) fields n s = record { rest = decimal slot ∷ []; are = s.0; reads = rw (below_again SLOTS slot (omega arith) s.1) refl }
act_again shape (act.Open slot) fields n s = record { rest = decimal slot ∷ []; are = s.0; reads = rw (below_again SLOTS slot (omega arith) s.1) refl }
act_again shape act.Point fields n s = record { rest = []; are = s; reads = refl }
act_again shape (act.Probe slot at) fields n s = record { rest = decimal slot ∷ decimal at ∷ []; are = s.0; reads = rw (below_again SLOTS slot (omega arith) s.1, below_again (2 ^ shape.n) at (positions_fit shape.n n) s.2) refl }

-- the line is taken, unless it is over the limit
abbrev pub taken : Known → PlayScript → Said → Result Known WhyRefused
taken known far s = cond (is_over_limit far s) (Err why.TooMany) (Ok (grown known s))

at_fields : (here : Stage) (known : Known) (far : PlayScript) (s : Said) (a b : List (List ℕ)) → a ≡ b → line_at here known b ≡ taken known far s → line_at here known a ≡ taken known far s
at_fields here known far s a b e h = let P : List (List ℕ) → Type 0 = λ z. line_at here known z ≡ taken known far s in subst P (sym e) h

step_again : (far : PlayScript) (step : Step) (who : List ℕ) (rest : List (List ℕ)) → IsNarrow far → IsActor far.passes step.actor who → act_in (2 ^ far.shape.n) (word_done step.act) rest ≡ Ok step.act → may_do step.actor step.act ≡ true → step_in far.passes (2 ^ far.shape.n) who (word_done step.act) rest ≡ Ok step
unfolding step_in step_of
step_again far step who rest narrow is reads m =
    let p : far.passes ≤ 2 ^ 32 = let q = narrow.few_passes in omega arith in
    let a : actor_in far.passes who ≡ Ok step.actor = actor_again far.passes step.actor who p is in
    rw (reads, a, m) refl

step_line_again : (read : ℕ) (far : PlayScript) (step : Step) (who : List ℕ) (rest : List (List ℕ)) → step_in far.passes (2 ^ far.shape.n) who (word_done step.act) rest ≡ Ok step → line_at stage.Steps (known_at stage.Steps read far) (who ∷ word_text (word_done step.act) ∷ rest) ≡ taken (known_at stage.Steps read far) far (said.Does step)
unfolding line_at step_line by_word pushed
step_line_again read far step who rest e = rw (word_again (word_done step.act), e) refl

-- a line that says something is judged by how many steps there are
pub spelled_reads : (here : Stage) (read : ℕ) (far : PlayScript) (s : Said) (fields : List (List ℕ)) → IsNarrow far → may_come here s ≡ true → Spells far s fields → line_at here (known_at here read far) fields ≡ taken (known_at here read far) far s
unfolding line_at version_line version_rest core_line core_rest core_fields step_line end_line
spelled_reads stage.Version read far said.Version fields narrow m s = at_fields stage.Version (known_at stage.Version read far) far said.Version fields _ s refl
spelled_reads stage.Core read far (said.Core passes shape) fields narrow m s = at_fields stage.Core (known_at stage.Core read far) far (said.Core passes shape) fields _ s.1 (rw (number_again 1 16 passes (lit< tt) s.2 s.3, shape_again s.0 shape s.4 s.5 s.6) refl)
spelled_reads stage.Steps read far (said.Does step) fields narrow m s =
    let a = act_again far.shape step.act s.1 narrow.n_most s.4 in
    let are : fields ≡ s.0 ∷ word_text (word_done step.act) ∷ a.rest = s.2 ∙ ap (λ z. s.0 ∷ z) a.are in
    at_fields stage.Steps (known_at stage.Steps read far) far (said.Does step) fields _ are (step_line_again read far step s.0 a.rest (step_again far step s.0 a.rest narrow s.3 a.reads s.5))
spelled_reads stage.Steps read far said.End fields narrow m s = at_fields stage.Steps (known_at stage.Steps read far) far said.End fields _ s refl
spelled_reads here read far s fields narrow m sp = absurd (cc)
