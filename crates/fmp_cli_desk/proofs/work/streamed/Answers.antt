use Rattle.std.proofs.Common.{rules, inr}
use Rattle.fmp_cli_desk.proofs.work.streamed.Goals as goal

pub returns : goal.returns
returns g c = inr (record {
  texts = record { config = c.in_ok-config.config; text = c.into_kept-text.result };
  read = c.in_ok-config.ensures.config;
  over = search rules;
})
