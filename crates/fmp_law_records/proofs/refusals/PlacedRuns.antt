-- Where calls may be made along a run.
use Rattle.std.proofs.Common.{◌≡◌, ◌∙◌, ◌≤◌, true, ◌++◌, List, [], ◌∷◌, drop, map, refl, sym, subst, Option, Some, None}
use Rattle.std.specs.Prelude.{All, is_some, option_map}
use Rattle.std.specs.Option.{option_or}
use Rattle.std.proofs.lemmas.Bool.{cond_both}
use Rattle.std.proofs.lemmas.List.Elements.{All-nil, All-head, All-append, All-map, All-drop}
use Rattle.fmp_codes.specs.declared.numbers.Proc.{Proc}
use Rattle.fmp_codes.specs.declared.numbers.Task.{Task}
use Rattle.fmp_codes.specs.declared.numbers.Object.{Object}
use Rattle.fmp_codes.specs.declared.records.Event.{Event}
use Rattle.fmp_codes.specs.declared.records.Record.{Record}
use Rattle.fmp_codes.specs.declared.records.Runner.{Runner}
use Rattle.fmp_codes.specs.declared.records.Runner.TheVariants as runner
use Rattle.fmp_setup.specs.Setup.{Setup}
use Rattle.fmp_setup.specs.Valid.{IsValid}
use Rattle.fmp_rules.specs.World.{item, first, processor}
use Rattle.fmp_rules.specs.Arrivals.{State, numbered}
use Rattle.fmp_rules.specs.Step.{replay, answers}
use Rattle.fmp_rules.specs.Boot.{booted}
use Rattle.fmp_law_safety.specs.Runs.{AreOn}
use Rattle.fmp_law_balance.proofs.waits.Follows.{running_within}
use Rattle.fmp_law_records.specs.Counts.Due.{by_number}
use Rattle.fmp_law_records.proofs.counts.Ready.{ready_after}
use Rattle.fmp_law_records.specs.Due.{HandlersReported, is_at_end, made_due, ticks_on, returns_on, handlers_after, handlers_by, handlers_at_boot, is_handler}
use Rattle.fmp_law_records.specs.Requests.{processor_at_boot, report_processor}
use Rattle.fmp_law_records.proofs.DueRuns.{due_after_all}
use Rattle.fmp_law_records.proofs.FlagsRuns.{flags_after_all}
use Rattle.fmp_law_records.proofs.RequestsRuns.{by_parts, HoldsReported, holds_after_all}
use Rattle.fmp_law_records.proofs.refusals.Placed.{Sees}

-- What records call due is a handler.

abbrev AreHandlers : List Runner → Type 0
AreHandlers ds = All (λ d. is_handler (Some d) ≡ true) ds

module _ (c : Setup) (p : Proc) where
  made_handlers : (x : HandlersReported) → AreHandlers (made_due c p x)
  made_handlers x =
      let H : Runner → Type 0 = λ d. is_handler (Some d) ≡ true in
      let alarms : List Object = by_number c.alarms (λ a. is_at_end c.timer p (x.alarms a)) in
      let cyclics : List Object = by_number c.cyclics (λ o. is_at_end c.timer p (x.cyclics o)) in
      All-append H (map runner.Alarm alarms) (map runner.Cyclic cyclics) (All-map H runner.Alarm alarms (λ i d h. refl))
      (All-map H runner.Cyclic cyclics (λ i d h. refl))

  due_handlers : (rs : List Record) (x : HandlersReported) → AreHandlers x.due → AreHandlers (handlers_by c p rs x).due
  due_handlers [] x h = h
  due_handlers (r ∷ rs) x h =
      let H : Runner → Type 0 = λ d. is_handler (Some d) ≡ true in
      due_handlers rs (handlers_after c p r x)
      (cond_both (ticks_on p r.answer r.event) (x.due ++ made_due c p x) _ AreHandlers (λ _. All-append H x.due (made_due c p x) h (made_handlers x))
      (λ _. cond_both (returns_on p r.answer r.event) (drop 1 x.due) x.due AreHandlers (λ _. All-drop H 1 x.due h) (λ _. h)))

first_is : (ds : List Runner) (o : Option Task) → AreHandlers ds → is_handler (option_or (first ds) (option_map runner.Task o)) ≡ is_some (first ds)
first_is [] None h = refl
first_is [] (Some t) h = refl
first_is (d ∷ ds) o h = All-head (λ y. is_handler (Some y) ≡ true) d ds h

module _ (c : Setup) (events : List Event) (valid : IsValid c) (on : AreOn c.processors events) (p : Proc) (here : p.number ≤ c.processors) where
  abbrev m : State
  m = replay numbered (booted c) events

  pub seen_after_all : Sees m p (report_processor c p (answers numbered (booted c) events))
  seen_after_all =
      let rs : List Record = answers numbered (booted c) events in
      let holds : HoldsReported c p m (report_processor c p rs) = holds_after_all c p here events valid on in
      let ready = ready_after c valid events on in
      let handlers : AreHandlers (item [] m.due p.number) =
      subst AreHandlers (sym (due_after_all c p here events valid on)) (due_handlers c p rs (handlers_at_boot c) (All-nil _)) in
      record {
        locked = holds.locked;
        disabled = (flags_after_all c p events valid on).disabled ∙ sym (by_parts c p rs (processor_at_boot c)).disabled;
        held = holds.held;
        handler = first_is (item [] m.due p.number) (processor m p).running handlers;
        within = running_within numbered m p ready.safe;
        few = ready.sound.few_tasks;
      }
