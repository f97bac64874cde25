use Rattle.std.proofs.Common.{ℕ, ◌≡◌, ◌≤◌, ◌∙◌, ap, arith, subst, sym}
use Rattle.std.specs.Prelude.{IfOk}
use Rattle.trace_replay.specs.Agents.{views_of}
use Rattle.spie_run.specs.Run.{Answers, keeping}
use Rattle.spie_run.specs.Words.{IsInRange}
use Rattle.spie_run.specs.declared.words.Command.{Command}
use Rattle.spie_run.specs.declared.words.Command.TheVariants.{Replay, Load}
use Rattle.spie_run.proofs.replies.reply_alone.Goals as goal

one_of : (workers : ℕ) → 1 ≤ workers → workers ≤ 1 → workers ≡ 1
one_of workers least most = omega (arith, least, most)

pub returns-in-Replay-clause-answers : goal.returns-in-Replay-clause-answers
returns-in-Replay-clause-answers g c =
    let shelves = views_of g.H.Shelf.tells g.H.Shelf.contents g.H.Shelf.faults c.args.shelf.now c.replayed_alone.new.shelf in
    let range = subst (IsInRange 1) c.in-Replay.is c.requires.range in
    let is = c.in-Replay.is ∙ ap Replay (one_of c.in-Replay.workers range.0 range.1) in
    let T : Command → Type 0 = λ command. IfOk c.replayed_alone.result (λ reply. Answers command c.args.name.now reply.status (keeping shelves c.args.yard.now c.replayed_alone.new.yard) c.args.text.items reply.text.items) in
    subst T (sym is) (c.replayed_alone.ensures.answers c.args.name.now)

pub returns-in-Load-clause-answers : goal.returns-in-Load-clause-answers
returns-in-Load-clause-answers g c =
    let shelves = views_of g.H.Shelf.tells g.H.Shelf.contents g.H.Shelf.faults c.args.shelf.now c.loaded_alone.new.shelf in
    let range = subst (IsInRange 1) c.in-Load.is c.requires.range in
    let is = c.in-Load.is ∙ ap (Load c.in-Load.made) (one_of c.in-Load.workers range.1 range.2) in
    let T : Command → Type 0 = λ command. IfOk c.loaded_alone.result (λ reply. Answers command c.args.name.now reply.status (keeping shelves c.args.yard.now c.loaded_alone.new.yard) c.args.text.items reply.text.items) in
    subst T (sym is) (c.loaded_alone.ensures.answers c.args.name.now c.args.text.items)
