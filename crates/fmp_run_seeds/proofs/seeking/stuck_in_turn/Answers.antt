use Rattle.std.proofs.Common.{◌≡◌, ◌∙◌, ◌==◌, ◌++◌, inl, inr, ℕ, true, false, List, length, ap, ap₂, sym, subst}
use Rattle.fmp_names.specs.Names.{NameLists}
use Rattle.fmp_setup.specs.Setup.{Setup}
use Rattle.fmp_rules.specs.World.{World}
use Rattle.fmp_kernel_order.specs.Queues.{Queues}
use Rattle.fmp_law_lists.specs.Stands.{Stands}
use Rattle.fmp_show_state.proofs.Alike.{waiting_alike}
use Rattle.fmp_show_state.specs.Waits.{waiting_lines}
use Rattle.fmp_smp_histories.specs.Histories.{events_of, state_after}
use Rattle.fmp_run_seeds.specs.Found.{waiting_after}
use Rattle.fmp_run_seeds.specs.Orders.{IsRunOfSeed}
use Rattle.fmp_run_seeds.proofs.Trying.{not_stuck, stuck_so, turn_passes, turn_reaches}
use Rattle.fmp_run_seeds.proofs.seeking.stuck_in_turn.Goals.{then-not-is_quiet-via-then-not-is_quiet, then-not-is_quiet-via-else-not-is_quiet+then-is_empty}
use Rattle.fmp_run_seeds.proofs.seeking.stuck_in_turn.Goals as goal

pub returns-then-not-is_quiet : goal.returns-then-not-is_quiet
unfolding state_after
returns-then-not-is_quiet c =
    let a = c.args in
    let h = c.in_ok-run.run'.history.records in
    let e = c.in_ok-run.ensures in
    let run : IsRunOfSeed a.seed a.config.now a.scripts.now a.runs.limits.ticks.count a.runs.limits.turns.count h c.in_ok-run.run'.ended =
    record { receipts = _; run = e.run; order = e.order; ticked = e.ticked } in
    let waiting = c.put_waiting.new.out.items in
    let m = state_after c.in_ok-run.run'.history.config h in
    let stands : Stands c.last.result.now m = record { same = c.last.ensures.same; order = c.last.ensures.order } in
    let tells : waiting ≡ waiting_after a.config.now (events_of h) =
    c.in_ok-put_waiting.ensures.lines
    ∙ ap₂ ◌++◌ c.new-waiting.ensures.items
    (ap (λ (k : World Queues). waiting_lines c.names.result.now k) c.machine.ensures ∙ waiting_alike c.last.result.now m stands c.names.result.now)
    ∙ ap (λ (l : NameLists). waiting_lines l m) c.names.ensures.value ∙ ap (λ (s : Setup). waiting_lines a.config.now.names (state_after s h)) e.configured in
    turn_passes a.runs a.config.now a.scripts.now a.seed c.requires.in_turn h c.in_ok-run.run'.ended run waiting tells
    (elim c.then-not-is_quiet.branch [
      | then-not-is_quiet-via-then-not-is_quiet w ↦ not_stuck _ waiting (inl (sym w.if-not-is_quiet.ensures))
      | then-not-is_quiet-via-else-not-is_quiet+then-is_empty w ↦ not_stuck _ waiting (inr (subst (λ (l : List ℕ). (length l == 0) ≡ true) c.as_slice-lines.ensures.value (sym w.if-is_empty.ensures)))
    ])

pub returns : goal.returns
unfolding state_after
returns c =
    let a = c.args in
    let h = c.in_ok-run.run'.history.records in
    let e = c.in_ok-run.ensures in
    let run : IsRunOfSeed a.seed a.config.now a.scripts.now a.runs.limits.ticks.count a.runs.limits.turns.count h c.in_ok-run.run'.ended =
    record { receipts = _; run = e.run; order = e.order; ticked = e.ticked } in
    let waiting = c.put_waiting.new.out.items in
    let m = state_after c.in_ok-run.run'.history.config h in
    let stands : Stands c.last.result.now m = record { same = c.last.ensures.same; order = c.last.ensures.order } in
    let tells : waiting ≡ waiting_after a.config.now (events_of h) =
    c.in_ok-put_waiting.ensures.lines
    ∙ ap₂ ◌++◌ c.new-waiting.ensures.items
    (ap (λ (k : World Queues). waiting_lines c.names.result.now k) c.machine.ensures ∙ waiting_alike c.last.result.now m stands c.names.result.now)
    ∙ ap (λ (l : NameLists). waiting_lines l m) c.names.ensures.value ∙ ap (λ (s : Setup). waiting_lines a.config.now.names (state_after s h)) e.configured in
    turn_reaches a.runs a.config.now a.scripts.now a.seed c.requires.in_turn h c.in_ok-run.run'.ended run waiting tells c.in_ok-events_of.field-0 c.in_ok-events_of.ensures
    (stuck_so _ waiting (sym c.if-not-is_quiet.ensures) (subst (λ (l : List ℕ). (length l == 0) ≡ false) c.as_slice-lines.ensures.value (sym c.if-is_empty.ensures)))
