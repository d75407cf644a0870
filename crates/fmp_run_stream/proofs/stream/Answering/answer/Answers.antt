use Rattle.std.proofs.Common.{ap, arith, subst, sym, ◌∙◌}
use Rattle.fmp_codes.specs.declared.records.Event.{Event}
use Rattle.fmp_codes.specs.declared.records.Record.{Record}
use Rattle.fmp_kernel_order.specs.Queues.{Queues, listed}
use Rattle.fmp_rules.specs.World.{World}
use Rattle.fmp_text.specs.Fronts.{IsEcho}
use Rattle.fmp_trace.specs.Lines.{event_text}
use Rattle.fmp_run_stream.proofs.Report.{report_event}
use Rattle.fmp_run_stream.proofs.stream.Answering.answer.Goals as goal

pub put_kept_line-requires-clause-echo : goal.put_kept_line-requires-clause-echo
put_kept_line-requires-clause-echo c =
    let event = ap (λ (p : World Queues × Record). p.1.event) c.step_recorded.ensures.same ∙ report_event listed c.args.self.now.kernel c.args.self.now.report.event in
    subst (λ (e : Event). IsEcho c.args.self.now.echo (event_text c.args.names.now e)) (sym event) c.requires.echo

pub put_kept_line-requires-clause-room : goal.put_kept_line-requires-clause-room
put_kept_line-requires-clause-room c = omega (arith, c.requires.room, c.line_is_short.ensures c.increase.new.self)
