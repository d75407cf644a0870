use Rattle.fmp_show_state.proofs.Waiting.{none_waits}
use Rattle.fmp_show_state.proofs.waits.put_waiting.Goals as goal

pub returns-clause-none : goal.returns-clause-none
returns-clause-none g c = let W = g.M.Words in none_waits (W.world c.args.machine.now) c.args.names.now
