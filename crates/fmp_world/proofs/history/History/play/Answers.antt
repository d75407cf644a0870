use Rattle.std.proofs.Common.{◌≡◌, ◌∙◌, Some, ap, sym}
use Rattle.fmp_rules.proofs.Replays.{step_event}
use Rattle.fmp_codes.specs.declared.records.Record.{Record}
use Rattle.fmp_smp_histories.specs.Histories.{state_after}
use Rattle.fmp_world.specs.Turns.{report_after}
use Rattle.fmp_world.proofs.history.History.play.Goals as goal

pub returns-in-Some-clause-report : goal.returns-in-Some-clause-report
returns-in-Some-clause-report c =
    let w = c.args.self.now in
    let own : c.make-receipt.new.report.event ≡ c.in-Some.event =
    ap (λ (r : Record). r.event) c.make-receipt.ensures.report ∙ step_event (state_after w.config w.records) c.in-Some.event in
    sym c.event_of.ensures ∙ c.in-Some.is ∙ ap Some (sym own)

pub returns-in-Some-clause-is : goal.returns-in-Some-clause-is
returns-in-Some-clause-is c =
    let w = c.args.self.now in
    let own : c.make-receipt.new.report.event ≡ c.in-Some.event =
    ap (λ (r : Record). r.event) c.make-receipt.ensures.report ∙ step_event (state_after w.config w.records) c.in-Some.event in
    c.make-receipt.ensures.report ∙ ap (report_after w) (sym own)
