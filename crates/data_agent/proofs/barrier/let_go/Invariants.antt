use Rattle.std.proofs.Common.{◌≡◌, drop}
use Rattle.data_agent.proofs.barrier.let_go.Given as goal

abbrev pub invariant-pages : goal.invariant-pages
invariant-pages l = l.pages.items ≡ drop l.counter l.fn.pages.items
