use Rattle.std.proofs.Common.{rules, ◌≡◌, Some}
use Rattle.std.specs.Prelude.{Err}
use Rattle.fmp_run_devices.specs.Devices.{IsKnown, bytes_of}
use Rattle.fmp_run_partial.specs.Partials.{CheckedPartly}
use Rattle.fmp_cli_runs.proofs.Parts.{late_config_fault, late_trace_fault, leaves_partly}
use Rattle.fmp_cli_runs.specs.Partly.{page_of, shown_for}
use Rattle.fmp_cli_runs.proofs.partly.view_partly.Goals as goal

pub returns-in_err-put_page : goal.returns-in_err-put_page
returns-in_err-put_page g c =
    let is : c.from_residual.result ≡ Err c.in_err-put_page.field-0.0 = search rules in
    let put = c.in_err-put_page.ensures in
    let checked : IsKnown (g.S.Source.left c.args.trace.now)
    → CheckedPartly (shown_for c.args.asked) c.args.config.now (bytes_of (g.S.Source.left c.args.trace.now)) c.in-Ok.shown
    = search rules in
    let paged : page_of c.args.asked c.in-Ok.shown.verdict ≡ Some c.in-Some.kind = search rules in
    rw (is) (record {
      checked = search rules;
      shown = search rules;
      config_fault = late_config_fault _ _ put.late;
      trace_fault = λ known. late_trace_fault _ _ _ put.late;
      leaves = λ trace_known known. leaves_partly _ _ _ _ _ c.in-Ok.shown c.in-Some.kind c.in_err-put_page.field-0.0 (checked trace_known) paged
          (rw (c.as_slice.ensures.value) at (put.leaves known));
      sink = record { known = put.sink.known; none_held = search rules; count = search rules };
    })
