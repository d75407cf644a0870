use Rattle.std.proofs.Common.{rules, inr}
use Rattle.fmp_cli_desk.proofs.work.worked_alone.Goals as goal

pub returns : goal.returns
returns g c = inr (record { texts = c.in_ok-texts.texts; read = c.in_ok-texts.ensures.ok; over = search rules })
