use Rattle.std.proofs.Common.{rules}
use Rattle.fmp_text_scripts.proofs.Found.{script_found}
use Rattle.fmp_text_scripts.proofs.script.step_in.Goals as goal

pub returns-in-Some : goal.returns-in-Some
returns-in-Some c = rw (script_found c.args.function c.args.scripts.now, ← c.found.ensures, c.in-Some.is) (search rules)
