use Rattle.std.proofs.Common.{◌++◌, Ok, Err, OnErr}
use Rattle.fmp_run_devices.specs.Devices.{BeginsWith, bytes_of}
use Rattle.fmp_run_events.specs.Reports.{head_text}
use Rattle.fmp_run_devices.proofs.Begun.{begun_first, begun_second}
use Rattle.fmp_run_events.proofs.report.write_report.Goals as goal

pub returns-in_err-write_head-clause-err : goal.returns-in_err-write_head-clause-err
returns-in_err-write_head-clause-err g c = λ tells.
    let old = bytes_of (g.W.Sink.written c.args.sink.now) in
    let new = bytes_of (g.W.Sink.written c.write_head.new.sink) in
    let head = head_text c.args.shown c.args.verdict in
    let lines = c.args.lines.now in
    let begun : BeginsWith old (head ++ lines) new = begun_first old head lines new (c.in_err-write_head.ensures.err tells) in
    elim c.from_residual.result as (λ r. OnErr r (BeginsWith old (head ++ lines) new)) [ Ok done ↦ tt | Err failed ↦ begun ]

pub returns-clause-err : goal.returns-clause-err
returns-clause-err g c = λ tells.
    let old = bytes_of (g.W.Sink.written c.args.sink.now) in
    let between = bytes_of (g.W.Sink.written c.write_head.new.sink) in
    let new = bytes_of (g.W.Sink.written c.write_out.new.sink) in
    let head = head_text c.args.shown c.args.verdict in
    let lines = c.args.lines.now in
    (elim c.write_out.result as (λ r. OnErr r (BeginsWith between lines new) → OnErr r (BeginsWith old (head ++ lines) new)) [
      | Ok done ↦ λ begun. tt
      | Err failed ↦ λ begun. begun_second old head lines between new (c.in_ok-write_head.ensures.ok tells) begun
    ]) (c.write_out.ensures.err (c.write_head.ensures.known tells))
