use Rattle.std.proofs.Common.{◌+◌, ◌++◌, ◌∷◌, [], List, sym, subst}
use Rattle.page_gate.specs.Held.{PlaneId}
use Rattle.data_agent.specs.declared.Agent.{Agent}
use Rattle.trace_replay.specs.Yards.{AreOpened}
use Rattle.trace_replay.proofs.Beside.{opened_push}
use Rattle.trace_replay.proofs.agents.open_all.Goals as goal

pub loop-router-preserved : goal.loop-router-preserved
loop-router-preserved c =
    let rules = c.args.rules.now in
    let n = c.loop-router.router in
    let planes = c.loop-router.planes.items in
    let agents = c.loop-router.agents.items in
    let e = c.in_ok-plane.ensures in
    let P : List PlaneId → Type 0 = λ xs. AreOpened rules (n + 1) xs c.push-in-loop-router.new.self.items in
    let Q : List Agent → Type 0 = λ xs. AreOpened rules (n + 1) (planes ++ c.in_ok-plane.plane ∷ []) xs in
    subst P (sym c.in_ok-push.ensures.items) (subst Q (sym c.in_ok-push-2.ensures.items)
    (opened_push rules n planes agents c.in_ok-plane.plane c.in_ok-plane.agent c.loop-router.invariant e.own e.shape e.first e.entries))
