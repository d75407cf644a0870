use Rattle.std.proofs.Common.{◌∙◌, ◌++◌, ap, ap₂}
use Rattle.fmp_rules.specs.World.{World}
use Rattle.fmp_kernel_order.specs.Queues.{Queues}
use Rattle.fmp_law_lists.specs.Stands.{Stands}
use Rattle.fmp_smp_histories.specs.Histories.{state_after}
use Rattle.fmp_show_state.proofs.Alike.{waiting_alike}
use Rattle.fmp_show_state.specs.Waits.{waiting_lines}
use Rattle.fmp_run_smp.proofs.ending.waiting_at_end.Goals as goal

pub returns : goal.returns
unfolding state_after
returns c =
    let names = c.args.names.now in
    let m = state_after c.args.history.now.config c.args.history.now.records in
    let stands : Stands c.last.result.now m = record { same = c.last.ensures.same; order = c.last.ensures.order } in
    c.in_ok-put_waiting.ensures.lines
    ∙ ap₂ ◌++◌ c.new-lines.ensures.items (ap (λ (k : World Queues). waiting_lines names k) c.machine.ensures ∙ waiting_alike c.last.result.now m stands names)
