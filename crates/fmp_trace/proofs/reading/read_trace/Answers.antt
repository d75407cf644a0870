use Rattle.fmp_trace.proofs.Results.{is_printed, is_complete, is_first}
use Rattle.fmp_trace.proofs.reading.read_trace.Goals as goal

pub returns : goal.returns
returns c =
    let valid = c.validity.ensures in
    record {
      prints = is_printed (λ v. v.items) c.args.names.now c.args.text.now valid c.read_within.result c.read_within.ensures;
      complete = is_complete (λ v. v.items) c.args.names.now c.args.text.now valid c.read_within.result c.read_within.ensures;
      fault = is_first (λ v. v.items) c.args.names.now c.args.text.now valid c.read_within.result c.read_within.ensures;
    }
