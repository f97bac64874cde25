use Rattle.trace_workers.proofs.RisingTurns.{rising_shares_rise}
use Rattle.trace_workers.proofs.laws.rising_shares_rise.Goals as goal

pub returns : goal.returns
returns c = rising_shares_rise
