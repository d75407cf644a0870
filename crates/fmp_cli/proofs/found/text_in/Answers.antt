use Rattle.std.proofs.Common.{refl}
use Rattle.clap.specs.Matches.{found_of}
use Rattle.fmp_cli.proofs.Read.{text_or}
use Rattle.fmp_cli.proofs.found.text_in.Goals as goal

pub returns : goal.returns
returns c = text_or (found_of c.args.matches.now) c.args.id.now c.option_in.result _ c.unwrap_or.result c.option_in.ensures refl c.unwrap_or.ensures
