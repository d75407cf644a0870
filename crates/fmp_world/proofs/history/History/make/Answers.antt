use Rattle.std.proofs.Common.{◌≡◌, ◌+◌, ◌<◌, ◌≤◌, ◌∙◌, List, [], ◌∷◌, ◌++◌, arith, length, refl, ap, sym}
use Rattle.fmp_codes.specs.Records.{processor_of}
use Rattle.fmp_codes.specs.declared.numbers.Proc.{Proc}
use Rattle.fmp_codes.specs.declared.records.Record.{Record}
use Rattle.fmp_rules.specs.Arrivals.{numbered}
use Rattle.fmp_rules.specs.Step.{step}
use Rattle.fmp_smp_histories.specs.Histories.{state_after}
use Rattle.fmp_world.specs.Moves.{played}
use Rattle.fmp_smp_histories.specs.Scripted.{IsScripted}
use Rattle.fmp_world.specs.Views.{History}
use Rattle.fmp_smp_histories.proofs.Advancing.{task_position_le, handler_position_le}
use Rattle.fmp_smp_histories.proofs.Histories.{stands_count}
use Rattle.fmp_world.proofs.Played.{moved_on, moved_scripted, made_count, made_more, played_more, played_event}
use Rattle.fmp_world.proofs.Runs.{keeps_more}
use Rattle.fmp_world.proofs.history.History.make.Goals as goal

pub step_into-requires : goal.step_into-requires
step_into-requires c =
    let i = c.self.inside in
    let w = c.args.self.now in
    let keeps = c.self.invariant.0 in
    let count = stands_count i.config.now (played i.config.now i.scripts.now i.moves.items) i.kernel keeps.valid keeps.run keeps.stands in
    let config = ap (λ w. w.config.processors) c.self.view_is in
    let place = c.requires.place in
    let mover = ap (λ (p : Proc). p.number) (moved_on w.config w.scripts w.records c.args.by c.args.event c.requires.picks) in
    omega arith

pub advance_task-requires : goal.advance_task-requires
advance_task-requires c = λ i small.
    let at = c.self.invariant.0.tasks_placed i small in
    let le = task_position_le c.self.inside.config.now c.self.inside.scripts.now (i + 1) (played c.self.inside.config.now c.self.inside.scripts.now c.self.inside.moves.items) in
    let same = ap (λ w. w.turns) c.self.view_is in
    let records = ap (λ w. length w.records) c.self.view_is in
    let room = c.requires.room in
    let few = c.self.invariant.2.few in
    omega arith

pub advance_handler-requires : goal.advance_handler-requires
advance_handler-requires c = λ i small.
    let at = c.self.invariant.0.handlers_placed i small in
    let le = handler_position_le c.self.inside.config.now c.self.inside.scripts.now (i + 1) (played c.self.inside.config.now c.self.inside.scripts.now c.self.inside.moves.items) in
    let same = ap (λ w. w.turns) c.self.view_is in
    let records = ap (λ w. length w.records) c.self.view_is in
    let room = c.requires.room in
    let few = c.self.invariant.2.few in
    omega arith

pub invariant_of-self : goal.invariant_of-self
invariant_of-self c =
    let i = c.self.inside in
    let h = played i.config.now i.scripts.now i.moves.items in
    let keeps = c.self.invariant.0 in
    let made = c.self.invariant.1 in
    let sized = c.self.invariant.2 in
    let view = c.self.view_is in
    let config : c.args.self.now.config ≡ i.config.now = sym (ap (λ w. w.config) view) in
    let scripts : c.args.self.now.scripts ≡ i.scripts.now = sym (ap (λ w. w.scripts) view) in
    let history : c.args.self.now.records ≡ h = sym (ap (λ w. w.records) view) in
    let turns : c.args.self.now.turns ≡ i.turns = sym (ap (λ w. w.turns) view) in
    let picks = rw (config, scripts, history) at c.requires.picks in
    let on = moved_on i.config.now i.scripts.now h c.args.by c.args.event picks in
    let scripted : IsScripted i.config.now i.scripts.now h c.args.event = moved_scripted i.config.now i.scripts.now h c.args.by c.args.event picks in
    let place = rw config at c.requires.place in
    let here : (processor_of c.args.event).number ≤ i.config.now.processors = rw on place in
    let longer = keeps_more i.config.now i.scripts.now i.kernel c.step_into.new.self i.tasks i.handlers h c.args.event c.step_into.new.report keeps c.step_into.ensures.stands c.step_into.ensures.record here sized.task_places sized.handler_places scripted in
    let room : length h < i.turns = rw (history, turns) at c.requires.room in
    let count = made_count i.config.now i.scripts.now [] i.moves.items made in
    let report = c.step_into.ensures.record _ keeps.stands in
    let more = played_more i.config.now i.scripts.now [] i.moves.items c.args.by in
    let added = played_event i.config.now i.scripts.now h c.args.by c.args.event picks in (
      rw (c.push_reserved.ensures.items, more, added, ← report, c.advance_task.ensures, c.advance_handler.ensures) longer,
      rw c.push_reserved.ensures.items (made_more i.config.now i.scripts.now [] i.moves.items c.args.by made place (rw picks refl)),
      record {
        within = omega (arith, c.push_reserved.ensures.len);
        room = omega (arith, c.push_reserved.ensures.capacity, sized.room);
        few = sized.few;
        task_places = c.advance_task.array_long.0;
        handler_places = c.advance_handler.array_long.1;
      },
    )

pub overflow_add-receipt : goal.overflow_add-receipt
overflow_add-receipt c =
    let i = c.self.inside in
    let count = made_count i.config.now i.scripts.now [] i.moves.items c.self.invariant.1 in
    let records = ap (λ w. length w.records) c.self.view_is in
    let same = ap (λ w. w.turns) c.self.view_is in
    let room = c.requires.room in
    let range = c.self.ranges in
    omega arith

pub push_reserved-requires : goal.push_reserved-requires
push_reserved-requires c =
    let i = c.self.inside in
    let count = made_count i.config.now i.scripts.now [] i.moves.items c.self.invariant.1 in
    let records = ap (λ w. length w.records) c.self.view_is in
    let same = ap (λ w. w.turns) c.self.view_is in
    let room = c.requires.room in
    let capacity = c.self.invariant.2.room in
    omega arith

pub returns-clause-adds : goal.returns-clause-adds
returns-clause-adds c =
    let i = c.self.inside in
    let h = played i.config.now i.scripts.now i.moves.items in
    let view = c.self.view_is in
    let config : c.args.self.now.config ≡ i.config.now = sym (ap (λ w. w.config) view) in
    let scripts : c.args.self.now.scripts ≡ i.scripts.now = sym (ap (λ w. w.scripts) view) in
    let history : c.args.self.now.records ≡ h = sym (ap (λ w. w.records) view) in
    let picks = rw (config, scripts, history) at c.requires.picks in
    let made : Record = (step numbered (state_after i.config.now h) c.args.event).1 in
    let report : c.step_into.new.report ≡ made = c.step_into.ensures.record _ c.self.invariant.0.stands in
    let count = made_count i.config.now i.scripts.now [] i.moves.items c.self.invariant.1 in
    let number : c.len.result + 1 ≡ length h + 1 = omega arith in
    let longer : played i.config.now i.scripts.now c.push_reserved.new.self.items ≡ h ++ made ∷ [] =
    ap (played i.config.now i.scripts.now) c.push_reserved.ensures.items
    ∙ played_more i.config.now i.scripts.now [] i.moves.items c.args.by
    ∙ played_event i.config.now i.scripts.now h c.args.by c.args.event picks in
    let with_records : List Record → History = λ x. record { config = i.config.now; scripts = i.scripts.now; turns = i.turns; records = x } in
    rw (← c.self.view_is) (record { history = ap with_records longer; receipt = rw (number, report) refl })
