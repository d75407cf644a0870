use Rattle.std.proofs.Common.{inr}
use Rattle.fmp_cli_desk.proofs.work.worked.Goals as goal

pub returns : goal.returns
returns g c = inr (record {
  texts = c.in_ok-texts.texts;
  read = c.in_ok-texts.ensures.config;
  over = record {
    text = c.worked_over.ensures.text;
    begins = record { bytes = c.in_ok-texts.text.items; are = c.in_ok-texts.ensures.text; is = c.worked_over.ensures.begins };
    run = c.worked_over.ensures.run;
    has = c.worked_over.ensures.has;
    is = c.worked_over.ensures.is;
  };
})
