use Rattle.std.proofs.Common.{refl, ◌∙◌}
use Rattle.fmp_run_events.proofs.report.with_state.Goals as goal

pub returns-clause-report : goal.returns-clause-report
returns-clause-report c =
    let put = c.in_ok-put_state_before.ensures c.requires.records c.requires.prints in
    record {
      lines = c.args.found.lines.items;
      contrasts = c.requires;
      tells = c.in_ok-extend_from_slice.ensures.items ∙ rw (c.as_slice.ensures.value, put, c.new-lines.ensures.items, c.in-No.is) refl;
    }
