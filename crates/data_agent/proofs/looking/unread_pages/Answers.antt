use Rattle.std.proofs.Common.{◌≡◌, ◌++◌, ◌∷◌, [], ◌∙◌, sym, ap, take}
use Rattle.std.proofs.lemmas.List.{take_more}
use Rattle.data_agent.specs.declared.looking.Look.{Look}
use Rattle.data_agent.specs.Looking.{unread_of, unread_where}
use Rattle.data_agent.proofs.Looks.{unread_push, with_unread}
use Rattle.data_agent.proofs.looking.unread_pages.Goals as goal
use Rattle.data_agent.proofs.looking.unread_pages.Goals.{in-Some+in_ok-push, in_default}

pub loop-look-preserved : goal.loop-look-preserved
loop-look-preserved c =
    let look : Look = c.look-item.result in
    let items : with_unread c.loop-look.unread.items c.unreadable.result ≡ c.match-unreadable.unread.items = elim c.match-unreadable.branch [
      | in-Some+in_ok-push w ↦ ap (with_unread c.loop-look.unread.items) w.in-Some.is ∙ sym w.in_ok-push.ensures.items ∙ sym (ap (λ v. v.items) w.unread-is)
      | in_default w ↦ ap (with_unread c.loop-look.unread.items) w.in_default.is ∙ sym (ap (λ v. v.items) w.unread-is)
    ] in
    sym items ∙ ap (with_unread c.loop-look.unread.items) c.unreadable.ensures ∙ ap (λ us. with_unread us (unread_where look.page look.looked)) c.loop-look.invariant
    ∙ sym (unread_push (take c.loop-look.look-index c.args.looks.now) look)
    ∙ ap (λ k. unread_of (take c.loop-look.look-index c.args.looks.now ++ k ∷ [])) c.look-item.is
    ∙ sym (ap unread_of (take_more c.args.looks.now c.loop-look.look-index look c.loop-look-test.true))
