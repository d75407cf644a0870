use Rattle.std.proofs.Common.{◌∙◌, ap}
use Rattle.fmp_cli.specs.Smp.{colour_by}
use Rattle.fmp_cli.proofs.colours.colour_of.Goals as goal

pub returns : goal.returns
returns c = c.colour_for.ensures ∙ ap colour_by c.option_in.ensures
