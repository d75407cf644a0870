use Rattle.std.proofs.Common.{◌∙◌}
use Rattle.fmp_run_explore_from.proofs.searching.found_from.Goals as goal

pub returns-clause-found : goal.returns-clause-found
returns-clause-found g c =
    let by = c.in_ok-choices.ensures.begun in
    record {
      begun = by.records;
      order = by.order;
      trace = by.trace;
      finds = c.in_ok-report.ensures.finds by.records by.order (c.as_slice.ensures.value ∙ by.chosen);
    }
