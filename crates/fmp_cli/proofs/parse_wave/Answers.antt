use Rattle.std.proofs.Common.{List, subst}
use Rattle.clap.specs.Words.{Row}
use Rattle.fmp_cli.specs.Cli.{IsWave}
use Rattle.fmp_cli.proofs.parse_wave.Goals as goal

pub returns : goal.returns
returns c = subst (λ (r : List Row). IsWave r c.wave_in.result) c.in_ok-matches.ensures c.wave_in.ensures
