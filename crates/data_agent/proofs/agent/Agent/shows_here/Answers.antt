use Rattle.std.proofs.Common.{◌∙◌, ap, Some}
use Rattle.data_agent.proofs.Places.{memory_tells, placed_at, shelf_tells}
use Rattle.data_agent.proofs.Watching.{shows_found, shows_put}
use Rattle.data_agent.proofs.agent.Agent.shows_here.Goals as goal

pub returns-in-InMemory-clause-memory : goal.returns-in-InMemory-clause-memory
returns-in-InMemory-clause-memory c = memory_tells c.args.self.now c.args.page c.args.sig.now c.in-InMemory.resident c.has.result (c.place.ensures.here ∙ ap Some c.in-InMemory.is) c.has.ensures

pub returns-in-InMemory-clause-shows : goal.returns-in-InMemory-clause-shows
returns-in-InMemory-clause-shows c = λ rules l s.
    c.has.ensures ∙ shows_found rules l c.args.sig.now c.args.page c.in-InMemory.resident
    (placed_at c.args.self.now rules l c.args.page _ s c.requires.near c.requires.collected (c.place.ensures.here ∙ ap Some c.in-InMemory.is))

pub returns-in-OnShelf-clause-memory : goal.returns-in-OnShelf-clause-memory
returns-in-OnShelf-clause-memory c = shelf_tells c.args.self.now c.args.page c.args.sig.now c.in-OnShelf.field-0 (c.place.ensures.here ∙ ap Some c.in-OnShelf.is)

pub returns-in-OnShelf-clause-shows : goal.returns-in-OnShelf-clause-shows
returns-in-OnShelf-clause-shows c = λ rules l s.
    shows_put rules l c.args.sig.now c.args.page (placed_at c.args.self.now rules l c.args.page _ s c.requires.near c.requires.collected (c.place.ensures.here ∙ ap Some c.in-OnShelf.is)).0
