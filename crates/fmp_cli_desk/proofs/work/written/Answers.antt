use Rattle.std.proofs.Common.{rules, inr}
use Rattle.fmp_cli_desk.proofs.work.written.Goals as goal

pub returns-then-coloured : goal.returns-then-coloured
returns-then-coloured g c = inr (record {
  output = _;
  begins = record { written = search rules; buffered = search rules; failures = search rules };
  ended = c.run-ended.result;
  promises = c.run-ended.ensures;
  closed = _;
  is = c.settled.ensures;
})

pub returns : goal.returns
returns g c = inr (record {
  output = _;
  begins = record { written = search rules; buffered = search rules; failures = search rules };
  ended = c.run-ended-2.result;
  promises = c.run-ended-2.ensures;
  closed = _;
  is = c.settled-2.ensures;
})
