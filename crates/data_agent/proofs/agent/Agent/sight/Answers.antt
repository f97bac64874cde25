use Rattle.std.proofs.Common.{◌≡◌, ◌∙◌, ap, max}
use Rattle.router_account.specs.Shelves.{ShelfView}
use Rattle.shelved_page.specs.Shelving.{view_of}
use Rattle.data_agent.specs.Looking.{unread_of, used_of}
use Rattle.data_agent.specs.Seeing.{expired_in}
use Rattle.data_agent.proofs.Kept.{whole_of}
use Rattle.data_agent.proofs.Seeing.{saw_by}
use Rattle.data_agent.proofs.Telling.{only_failed, read_from, seen, true_read}
use Rattle.data_agent.proofs.Windows.{window_is}
use Rattle.data_agent.proofs.agent.Agent.sight.Goals as goal

pub returns-clause-seen : goal.returns-clause-seen
returns-clause-seen g c = λ rules l u s0.
    let s = whole_of c.args.self.now rules l u c.requires.prepared.taken s0 in
    let x : ShelfView = view_of g.H.Shelf.tells g.H.Shelf.contents g.H.Shelf.faults c.args.shelf.now in
    let z : ShelfView = view_of g.H.Shelf.tells g.H.Shelf.contents g.H.Shelf.faults c.looks.new.shelf in
    let at : c.max-from.result ≡ max c.args.self.now.catalogue.gone c.window-window.result.first.number = c.max-from.ensures ∙ ap (λ n. max n c.window-window.result.first.number) c.first-first.ensures in
    let w = window_is c.args.self.now rules l.account c.args.time c.window-window.result.first.number c.window-window.result.last.number s.stands.pages c.window-window.ensures.some c.window-window.ensures.exists c.window-window.ensures.exact in
    seen c.args.self.now rules l c.args.time c.window-window.result.first.number c.window-window.result.last.number c.max-from.result x c.in_ok-looks.looks c.table.result _ _ _
    (saw_by c.args.self.now rules l u c.args.time c.window-window.result.first.number c.window-window.result.last.number c.max-from.result x z c.in_ok-looks.looks.items s w at (c.in_ok-looks.ensures.looked rules l s.stands))
    c.table.ensures (c.in_ok-unread_pages.ensures ∙ ap unread_of c.deref.ensures.value) (c.in_ok-used_pages.ensures ∙ ap used_of c.deref-2.ensures.value)
    (c.expired_pages.ensures ∙ ap (expired_in c.window-window.result.first.number c.window-window.result.last.number) c.first-first.ensures)

pub returns-clause-all_true : goal.returns-clause-all_true
returns-clause-all_true g c = λ rules l u s0 t holds.
    let s = whole_of c.args.self.now rules l u c.requires.prepared.taken s0 in
    let x : ShelfView = view_of g.H.Shelf.tells g.H.Shelf.contents g.H.Shelf.faults c.args.shelf.now in
    let z : ShelfView = view_of g.H.Shelf.tells g.H.Shelf.contents g.H.Shelf.faults c.looks.new.shelf in
    let at : c.max-from.result ≡ max c.args.self.now.catalogue.gone c.window-window.result.first.number = c.max-from.ensures ∙ ap (λ n. max n c.window-window.result.first.number) c.first-first.ensures in
    let w = window_is c.args.self.now rules l.account c.args.time c.window-window.result.first.number c.window-window.result.last.number s.stands.pages c.window-window.ensures.some c.window-window.ensures.exists c.window-window.ensures.exact in
    true_read c.args.self.now rules l c.args.time c.window-window.result.first.number c.window-window.result.last.number c.max-from.result x c.in_ok-looks.looks.items
    (saw_by c.args.self.now rules l u c.args.time c.window-window.result.first.number c.window-window.result.last.number c.max-from.result x z c.in_ok-looks.looks.items s w at (c.in_ok-looks.ensures.looked rules l s.stands)) t holds

pub returns-clause-only_faults : goal.returns-clause-only_faults
returns-clause-only_faults g c = λ rules l u s0 t holds.
    let s = whole_of c.args.self.now rules l u c.requires.prepared.taken s0 in
    let x : ShelfView = view_of g.H.Shelf.tells g.H.Shelf.contents g.H.Shelf.faults c.args.shelf.now in
    let z : ShelfView = view_of g.H.Shelf.tells g.H.Shelf.contents g.H.Shelf.faults c.looks.new.shelf in
    let at : c.max-from.result ≡ max c.args.self.now.catalogue.gone c.window-window.result.first.number = c.max-from.ensures ∙ ap (λ n. max n c.window-window.result.first.number) c.first-first.ensures in
    let w = window_is c.args.self.now rules l.account c.args.time c.window-window.result.first.number c.window-window.result.last.number s.stands.pages c.window-window.ensures.some c.window-window.ensures.exists c.window-window.ensures.exact in
    only_failed c.args.self.now rules l c.args.time c.window-window.result.first.number c.window-window.result.last.number c.max-from.result x c.in_ok-looks.looks.items
    (saw_by c.args.self.now rules l u c.args.time c.window-window.result.first.number c.window-window.result.last.number c.max-from.result x z c.in_ok-looks.looks.items s w at (c.in_ok-looks.ensures.looked rules l s.stands)) t holds

pub returns-clause-read_from : goal.returns-clause-read_from
returns-clause-read_from g c = λ rules l u s0.
    let s = whole_of c.args.self.now rules l u c.requires.prepared.taken s0 in
    let x : ShelfView = view_of g.H.Shelf.tells g.H.Shelf.contents g.H.Shelf.faults c.args.shelf.now in
    let z : ShelfView = view_of g.H.Shelf.tells g.H.Shelf.contents g.H.Shelf.faults c.looks.new.shelf in
    let at : c.max-from.result ≡ max c.args.self.now.catalogue.gone c.window-window.result.first.number = c.max-from.ensures ∙ ap (λ n. max n c.window-window.result.first.number) c.first-first.ensures in
    let w = window_is c.args.self.now rules l.account c.args.time c.window-window.result.first.number c.window-window.result.last.number s.stands.pages c.window-window.ensures.some c.window-window.ensures.exists c.window-window.ensures.exact in
    read_from c.args.self.now rules l c.args.time c.window-window.result.first.number c.window-window.result.last.number c.max-from.result x z c.in_ok-looks.looks.items
    (saw_by c.args.self.now rules l u c.args.time c.window-window.result.first.number c.window-window.result.last.number c.max-from.result x z c.in_ok-looks.looks.items s w at (c.in_ok-looks.ensures.looked rules l s.stands)) (c.in_ok-looks.ensures.looked rules l s.stands)

pub looks-requires-clause-stands : goal.looks-requires-clause-stands
looks-requires-clause-stands g c = let (rules, l, u, s, past) = c.requires.past in (rules, l, (whole_of c.args.self.now rules l u c.requires.prepared.taken s).stands)
