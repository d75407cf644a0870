use Rattle.std.proofs.Common.{codes}
use Rattle.std.specs.Str.Parse.{ParsesUnsigned, ExplainsUnsignedError, HasUnsignedDigitsIfOk}
use Rattle.clap.specs.Matches.{found_of}
use Rattle.fmp_cli.proofs.Read.{given_text, seed_read}
use Rattle.fmp_cli.proofs.smp.request_of.Goals as goal

pub returns : goal.returns
returns c =
    let f = found_of c.args.matches.now in
    record {
      config = given_text f (codes "CFG") _ c.requires.config c.text_in-config.ensures;
      scripts = given_text f (codes "SCRIPTS") _ c.requires.scripts c.text_in-scripts.ensures;
      limits = c.limits_of-limits.ensures;
      seed = seed_read _ (λ bs r. ParsesUnsigned 64 10 bs r × ExplainsUnsignedError 10 bs r × HasUnsignedDigitsIfOk bs r) f (codes "seed") c.get_one-seed.result c.get_one-seed.ensures.none c.get_one-seed.ensures.value (λ u x g. g.0);
      seeds = c.seeds_of-seeds.ensures;
      find = c.option_in-find.ensures;
      late = c.flag_in-late.ensures;
      stalls = c.flag_in-stalls.ensures;
      seconds = seed_read _ (λ bs r. ParsesUnsigned 64 10 bs r × ExplainsUnsignedError 10 bs r × HasUnsignedDigitsIfOk bs r) f (codes "seconds") c.get_one-seconds.result c.get_one-seconds.ensures.none c.get_one-seconds.ensures.value (λ u x g. g.0);
      strict = c.flag_in-strict.ensures;
      progress = c.flag_in-progress.ensures;
      context = c.flag_in-context.ensures;
      colour = c.colour_of-colour.ensures;
    }
