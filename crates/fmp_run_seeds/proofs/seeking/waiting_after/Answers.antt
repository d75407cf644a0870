use Rattle.std.proofs.Common.{◌≡◌, ◌∙◌, ◌++◌, ◌∷◌, [], ◌+◌, List, take, ap, ap₂, sym, subst, arith}
use Rattle.std.proofs.lemmas.List.{take_all, take_more}
use Rattle.fmp_codes.specs.declared.records.Event.{Event}
use Rattle.fmp_names.specs.Names.{NameLists}
use Rattle.fmp_rules.specs.Arrivals.{State, numbered}
use Rattle.fmp_rules.specs.Boot.{booted}
use Rattle.fmp_rules.specs.Step.{replay}
use Rattle.fmp_rules.proofs.Replays.{replay_more}
use Rattle.fmp_rules.specs.World.{World}
use Rattle.fmp_kernel_order.specs.Queues.{Queues}
use Rattle.fmp_law_lists.specs.Stands.{Stands}
use Rattle.fmp_show_state.proofs.Alike.{waiting_alike}
use Rattle.fmp_show_state.specs.Waits.{waiting_lines}
use Rattle.fmp_run_seeds.proofs.seeking.waiting_after.Goals as goal

pub loop-event-preserved : goal.loop-event-preserved
loop-event-preserved c =
    let config = c.args.config.now in
    let events = c.args.events.now in
    let index = c.loop-event.event-index in
    let given = take index events in
    let e = c.event-item.result in
    let so_far = c.loop-event.invariant in
    let m = replay numbered (booted config) given in
    let longer : take (index + 1) events ≡ given ++ e ∷ [] = take_more events index e c.loop-event-test.true ∙ ap (λ (x : Event). given ++ x ∷ []) (sym c.event-item.is) in
    record {
      stands =
          subst (λ (x : State). Stands c.step_into.new.self x) (sym (ap (replay numbered (booted config)) longer ∙ replay_more (booted config) given e))
          (c.step_into.ensures.stands m so_far.stands);
      processors = c.step_into.ensures.processors ∙ so_far.processors;
    }

pub returns : goal.returns
returns c =
    let config = c.args.config.now in
    let names = c.names.result.now in
    let events = c.args.events.now in
    let all : take c.loop-event.event-index events ≡ events = take_all c.loop-event.event-index events (omega (arith, c.loop-event-test.false)) in
    let m = replay numbered (booted config) (take c.loop-event.event-index events) in
    c.in_ok-put_waiting.ensures.lines
    ∙ ap₂ ◌++◌ c.new-waiting.ensures.items
    (ap (λ (k : World Queues). waiting_lines names k) c.machine.ensures ∙ waiting_alike c.loop-event.kernel m c.loop-event.invariant.stands names)
    ∙ ap (λ (es : List Event). waiting_lines names (replay numbered (booted config) es)) all
    ∙ ap (λ (lists : NameLists). waiting_lines lists (replay numbered (booted config) events)) c.names.ensures.value
