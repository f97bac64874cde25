use Rattle.std.proofs.Common.{ℕ, List, Some, ap, refl, subst}
use Rattle.router_account.specs.Shelves.{view_of}
use Rattle.spie_run.specs.Run.{Delivered, Told, told, views}
use Rattle.spie_run.proofs.Delivery.{alone_if, ran_reply}
use Rattle.spie_run.proofs.top.run_command.Goals as goal

pub returns-in-Err-clause-ran : goal.returns-in-Err-clause-ran
returns-in-Err-clause-ran g c =
    c.in-Err.ensures.ended c.args.command c.args.name.now (view_of g.H.Shelf.tells g.H.Shelf.contents g.H.Shelf.faults c.args.shelf.now) c.args.yard.now c.in-Err.ensures.reads

pub returns-in-Ok-reply_alone-clause-ran : goal.returns-in-Ok-reply_alone-clause-ran
returns-in-Ok-reply_alone-clause-ran g c =
    let input = c.in-Ok.ensures.text in
    let want = c.in-Ok-reply_alone.reply.status in
    let source = told g.S.Source.left g.S.Source.faults in
    let sink = told g.K.Sink.written g.K.Sink.faults in
    let shelf = view_of g.H.Shelf.tells g.H.Shelf.contents g.H.Shelf.faults in
    let before = views (source c.args.source.now) (sink c.args.sink.now) (shelf c.args.shelf.now) c.args.yard.now in
    let after = views (source c.input.new.source) (sink c.deliver.new.sink) (shelf c.reply_alone.new.shelf) c.reply_alone.new.yard in
    let alone = alone_if (Some c.args.command) c.args.name.now before after c.args.command refl input.unread in
    let S : Told → Type 0 = λ before. Delivered want c.deliver.result before (sink c.deliver.new.sink) c.deref.result.now in
    let D : List ℕ → Type 0 = λ out. Delivered want c.deliver.result (sink c.args.sink.now) (sink c.deliver.new.sink) out in
    ran_reply (Some c.args.command) c.args.name.now before after c.args.command refl alone want c.deliver.result c.in-Ok.text.items c.in-Ok-reply_alone.reply.text.items
    input.read input.faults c.in-Ok-reply_alone.ensures.answers (subst D c.deref.ensures.value (subst S (ap sink c.in-Ok.ensures.unused) c.deliver.ensures))
