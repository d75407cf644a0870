use Rattle.fmp_law_safety.proofs.Booted.{booted_safe}
use Rattle.fmp_plain.proofs.plain.Plain.boot.Goals as goal

pub returns-clause-safe : goal.returns-clause-safe
returns-clause-safe c = rw (c.boot.ensures.state, c.in_ok-machine.ensures) (booted_safe c.args.config.now c.boot.ensures.valid)
