use Rattle.std.proofs.Common.{rules, inl, inr}
use Rattle.fmp_cli_perform.proofs.orders.explore_from.Goals as goal

pub returns-in_err-begun : goal.returns-in_err-begun
returns-in_err-begun g c = inl (c.in_err-begun.field-0.0, search rules, c.in_err-begun.ensures.err _)

pub returns : goal.returns
returns g c = inr (record {
  begun = c.as_slice.result.now;
  read = search rules;
  over = _;
  has = record {
    texts = c.in_ok-texts.texts;
    read = c.in_ok-texts.ensures.config;
    over = record {
      text = c.worked_over.ensures.text;
      begins = record { bytes = c.in_ok-texts.scripts.items; are = c.in_ok-texts.ensures.text; is = c.worked_over.ensures.begins };
      run = c.worked_over.ensures.run;
      has = c.worked_over.ensures.has;
      is = c.worked_over.ensures.is;
    };
  };
})
