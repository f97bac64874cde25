-- The routers of a trace.
use Rattle.std.specs.Prelude.{ℕ, zero, suc, ◌+◌, List, length}
use Rattle.spie_base.specs.declared.RouterId.{RouterId}
use Rattle.spie_base.specs.declared.Rules.{Rules}
use Rattle.trace_format.specs.declared.Trace.{Trace}
use Rattle.router_account.specs.Account.{below}

-- the rules of each router
abbrev pub RouterRules : Type 0
RouterRules = (router : ℕ) → Rules

-- all routers of a trace share its rules
abbrev pub rules_of : Trace → RouterRules
rules_of t router = t.rules

abbrev pub count : Trace → ℕ
count t = length t.topology.names

-- their numbers, ascending
abbrev pub routers : Trace → List ℕ
routers t = below (count t)

abbrev pub router_id : ℕ → RouterId
router_id router = record { number = router }

-- the sum of a number of each router
abbrev pub sum_over : (routers : ℕ) → (ℕ → ℕ) → ℕ
sum_over zero f = 0
sum_over (suc router) f = sum_over router f + f router
