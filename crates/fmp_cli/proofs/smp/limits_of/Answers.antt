use Rattle.std.proofs.Common.{codes}
use Rattle.std.specs.Str.Parse.{ParsesUnsigned, ExplainsUnsignedError, HasUnsignedDigitsIfOk}
use Rattle.clap.specs.Matches.{found_of}
use Rattle.fmp_cli.proofs.Read.{number_read}
use Rattle.fmp_cli.proofs.smp.limits_of.Goals as goal

pub returns : goal.returns
returns c =
    let f = found_of c.args.matches.now in
    let ticks = c.requires.ticks in
    let turns = c.requires.turns in
    record {
      ticks = number_read _ (λ bs r. ParsesUnsigned 32 10 bs r × ExplainsUnsignedError 10 bs r × HasUnsignedDigitsIfOk bs r) 32 f (codes "ticks") _ c.get_one.result c.unwrap-ticks.result ticks.1 (c.get_one.ensures.value _ ticks.1) (λ u x g. g.0) c.unwrap-ticks.ensures;
      turns = number_read _ (λ bs r. ParsesUnsigned 32 10 bs r × ExplainsUnsignedError 10 bs r × HasUnsignedDigitsIfOk bs r) 32 f (codes "turns") _ c.get_one-2.result c.unwrap-turns.result turns.1 (c.get_one-2.ensures.value _ turns.1) (λ u x g. g.0) c.unwrap-turns.ensures;
    }
