-- What a watch beside passes was answered, as a segment needs it.
use Rattle.std.proofs.Common.{ℕ, ◌≡◌, Bool, true, false, refl}
use Rattle.spie_base.specs.declared.Rules.{Rules}
use Rattle.spie_base.specs.declared.Sig.{Sig}
use Rattle.router_account.specs.declared.Watch.{Watch}
use Rattle.router_account.specs.declared.Watch.TheVariants.{Seen, NotSeen, Unknown}
use Rattle.router_account.specs.Ledger.{Ledger}
use Rattle.router_account.specs.Watches.{misses, watch_word}
use Rattle.data_agent.specs.declared.Agent.{Agent}
use Rattle.data_agent.specs.BesideWatches.{IsSeenBeside, IsUnseenBeside}
use Rattle.trace_replay.specs.Aways.{reads}
use Rattle.trace_replay.specs.Operated.{IsAnsweredBy}

unknown_misses : (b : Bool) → Unknown ≡ watch_word false b → b ≡ true
unknown_misses true e = refl
unknown_misses false e = cc

unseen_has : (b : Bool) → NotSeen ≡ watch_word false b → b ≡ false
unseen_has true e = cc
unseen_has false e = refl

pub answered_by : (rules : Rules) (l : Ledger) (clock : ℕ) (sig : Sig) (agent : Agent) (answer : Watch) → (answer ≡ Seen → IsSeenBeside rules l clock sig agent)
    → ((answer ≡ Seen → ⊥) → IsUnseenBeside rules l clock sig answer) → IsAnsweredBy (reads agent) rules l clock sig answer
answered_by rules l clock sig agent Seen seen unseen = let s = seen refl in (s.page, s.in_window, s.there, s.shown)
answered_by rules l clock sig agent Unknown seen unseen = let u = unseen (λ e. cc) in (unknown_misses (misses rules l clock) u.word, u.hidden)
answered_by rules l clock sig agent NotSeen seen unseen = let u = unseen (λ e. cc) in (unseen_has (misses rules l clock) u.word, u.hidden)
