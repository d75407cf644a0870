use Rattle.std.proofs.Common.{◌≡◌, ◌<◌, ◌∙◌, refl, ap, sym, subst}
use Rattle.fmp_codes.specs.Records.{processor_of}
use Rattle.fmp_codes.specs.declared.records.Record.{Record}
use Rattle.fmp_rules.specs.World.{World}
use Rattle.fmp_kernel_order.specs.Queues.{Queues, listed}
use Rattle.fmp_law_balance.proofs.waits.Events.{event_reported}
use Rattle.fmp_search_orders.specs.Places.{is_busy_at}
use Rattle.fmp_search_kernel.specs.Walked.{Walked}
use Rattle.fmp_search_kernel.proofs.Bounds.{roomy_less}
use Rattle.fmp_search_kernel.proofs.Going.{went_is, counted_le}
use Rattle.fmp_search_kernel.proofs.walker.Walker.play.Goals as goal

pub invariant_of-self : goal.invariant_of-self
invariant_of-self c =
    let some = subst (λ (x : Walked). 0 < x.left) (sym c.self.view_is) c.requires.room in (
      c.step_into.ensures.processors ∙ c.self.invariant.0,
      c.self.invariant.1,
      c.self.invariant.2,
      rw (c.advance_task.ensures, c.advance_handler.ensures, c.lower_taken.ensures, c.advance_taken.ensures, c.advance_idled.ensures)
          (roomy_less c.self.inside.config.now c.self.inside.scripts.now c.self.inside.rules _ _ _ _ _ c.self.inside.seen c.self.inside.left c.step_into.new.report some c.self.invariant.3 c.counted-self-inside.result (counted_le c.args.marked c.self.inside.seen c.counted-self-inside.result c.counted-self-inside.ensures)),
    )

pub returns-clause-place : goal.returns-clause-place
returns-clause-place c =
    let report : c.step_into.new.report.event ≡ c.args.event =
    ap (λ (x : World Queues × Record). x.1.event) c.step_into.ensures.same ∙ event_reported listed _ c.args.event in
    let at = processor_of c.step_into.new.report.event in
    let busy =
    c.is_busy-busy.ensures ∙ ap (is_busy_at c.args.self.now.place) (c.processor.ensures ∙ ap processor_of (sym report)) ∙ ap (λ (x : Walked). is_busy_at x.place at) (sym c.self.view_is) in
    rw (← c.self.view_is)
    (went_is _ _ c.args.marked c.args.event _ _ c.step_into.ensures.same
    (rw (c.advance_task.ensures, c.advance_handler.ensures, c.lower_taken.ensures, c.advance_taken.ensures, c.advance_idled.ensures, busy, c.counted-self-inside.ensures) refl))
