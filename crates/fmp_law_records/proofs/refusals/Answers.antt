-- Each event answers what the records before it tell, and so each call is refused with the code of the first error of its row.
use Rattle.std.proofs.Common.{◌≡◌, ◌≤◌, ◌-◌, ◌++◌, ℤ, true, ◌||◌, List, [], length, flat_map, lit≤, refl, sym, ap, ◌∙◌, arith, Option, Some}
use Rattle.std.specs.Prelude.{if◌then◌else◌, is_some}
use Rattle.std.proofs.lemmas.Bool.{cond_both, cond-true, cond-false}
use Rattle.std.proofs.lemmas.List.{length-append}
use Rattle.std.proofs.Math.ListN.{get_or-map}
use Rattle.fmp_codes.specs.declared.numbers.Proc.{Proc}
use Rattle.fmp_codes.specs.declared.numbers.Task.{Task}
use Rattle.fmp_codes.specs.declared.numbers.Object.{Object}
use Rattle.fmp_codes.specs.declared.calls.Call.{Call}
use Rattle.fmp_codes.specs.declared.codes.Code.{Code}
use Rattle.fmp_codes.specs.declared.records.Answer.{Answer}
use Rattle.fmp_codes.specs.declared.records.Answer.TheVariants as answer
use Rattle.fmp_codes.specs.declared.records.Event.{Event}
use Rattle.fmp_codes.specs.declared.records.Event.TheVariants as event
use Rattle.fmp_codes.specs.declared.records.Record.{Record}
use Rattle.fmp_setup.specs.declared.setup.Timer.{Timer}
use Rattle.fmp_setup.specs.declared.setup.SemaphoreSetup.{SemaphoreSetup}
use Rattle.fmp_setup.specs.declared.setup.PoolSetup.{PoolSetup}
use Rattle.fmp_setup.specs.Setup.{Setup, no_semaphore, no_pool, has_time}
use Rattle.fmp_law_balance.specs.Words.{is_clock}
use Rattle.fmp_law_balance.proofs.Words.{clock_has_time}
use Rattle.fmp_setup.specs.Valid.{IsValid}
use Rattle.fmp_rules.specs.World.{World, task, processor, handler, runner_of, is_held}
use Rattle.fmp_rules.specs.Objects.{values}
use Rattle.fmp_rules.specs.Ordering.{Ordering}
use Rattle.fmp_rules.specs.Arrivals.{State, numbered}
use Rattle.fmp_rules.specs.Rows.{Row, is_refused_context, called}
use Rattle.fmp_rules.specs.Tick.{ticked}
use Rattle.fmp_rules.specs.Step.{row_of, step, settled, before_event, unchanged, replay, answers}
use Rattle.fmp_rules.specs.Boot.{booted}
use Rattle.fmp_law_safety.specs.Runs.{processor_of, AreOn}
use Rattle.fmp_law_safety.proofs.Items.{item_holds}
use Rattle.fmp_law_safety.proofs.Listed.{numbered_lists}
use Rattle.fmp_law_safety.proofs.Queues.{Lists}
use Rattle.fmp_law_balance.specs.Accepted.{accepted_value}
use Rattle.fmp_law_balance.specs.Queues.{puts, out_by}
use Rattle.fmp_law_balance.proofs.waits.Events.{event_reported}
use Rattle.fmp_law_balance.proofs.waits.Follows.{running_may}
use Rattle.fmp_law_records.specs.Counts.Wakeups.{WakeupBalance}
use Rattle.fmp_law_records.proofs.counts.QueuedRuns.{wakeups_balance}
use Rattle.fmp_law_records.proofs.counts.Ready.{ready_after}
use Rattle.fmp_law_records.specs.Requests.{ProcessorReported, some_due, is_held_reported, report_processor, IsRequestReported}
use Rattle.fmp_law_records.specs.Patterns.{IsPatternReported}
use Rattle.fmp_law_records.specs.Locks.{IsHolderReported}
use Rattle.fmp_law_records.proofs.TaskRuns.{priority_after_all}
use Rattle.fmp_law_records.proofs.PatternsRuns.{patterns_reported}
use Rattle.fmp_law_records.proofs.LocksRuns.{holders_reported}
use Rattle.fmp_law_records.proofs.RequestsRuns.{HoldsReported, holds_after_all, requests_reported}
use Rattle.fmp_law_records.proofs.AcceptingRuns.{agrees_from_boot}
use Rattle.fmp_law_records.specs.Refusals.Misplaced.{is_misplaced}
use Rattle.fmp_law_records.specs.Refusals.Arguments.{pool_setup}
use Rattle.fmp_law_records.specs.Refusals.Found.{found_reported}
use Rattle.fmp_law_records.specs.Refusals.Refusals.{first_of, row_reported}
use Rattle.fmp_law_records.proofs.refusals.FirstErrors.{first_in, first_same, next, answered as answered_as}
use Rattle.fmp_law_records.specs.Refusals.Outcomes.{refused_or, outcome_reported, answer_reported, IsAnswerReported}
use Rattle.fmp_law_records.specs.Refusals.Callers.{report_running}
use Rattle.fmp_law_records.proofs.refusals.Rules.{rule_is}
use Rattle.fmp_law_records.proofs.refusals.Placed.{Sees, misplaced_same, from_there}
use Rattle.fmp_law_records.proofs.refusals.PlacedRuns.{seen_after_all}
use Rattle.fmp_law_records.proofs.refusals.Configured.{Configured}
use Rattle.fmp_law_records.proofs.refusals.Judged.{at_end, balance_after_all, configured_after_all, blocks_after_all}
use Rattle.fmp_law_records.proofs.refusals.Found.{Finds}
use Rattle.fmp_law_records.proofs.refusals.Callers.{running_after_all}
use Rattle.fmp_law_records.proofs.refusals.AnsweredObjects.{answers_call}

module _ {Q : Type 0} (k : Ordering Q) (c : Setup) (records : List Record) (w : World Q) (l : Lists k w) (h : Configured c w) (found : Finds c (found_reported c records) w)
    (active : (p : Proc) (t : Task) → (processor w p).running ≡ Some t → (task w t).active ≡ true) (blocks : (m : Object) → (pool_setup c m).blocks ≤ 64)
    (locks : c.spin_locks ≤ 32) (timer : w.timer ≡ c.timer) where
  -- this is told of a processor
  pub record SeesAll (p : Proc) : Type 0 where
    pub sees : Sees w p (report_processor c p records)
    pub due : is_some (handler w p) ≡ some_due (report_processor c p records).handlers.due
    pub pending : (processor w p).latch ≡ (report_processor c p records).pending
    pub runs : (processor w p).running ≡ report_running c p records

  module _ (p : Proc) (y : Call) (all : SeesAll p) (there : is_some (runner_of w p) ≡ true) where
    abbrev x : ProcessorReported
    x = report_processor c p records

    abbrev row : Row Q
    row = row_of k w p y

    abbrev answered : Answer
    answered = (called w p row).1.answer

    call_answered : answered ≡ refused_or (first_in (row_reported c records p (runner_of w p) y))
        (outcome_reported c (found_reported c records) x (report_running c p records) p (runner_of w p) (accepted_value answered) y)
    call_answered =
        let rule : is_refused_context w p row.rule ≡ is_misplaced x (runner_of w p) y = ap (is_refused_context w p) (rule_is k w p y)
        ∙ misplaced_same w p there x all.sees y in
        answered_as w row.effect (λ v. outcome_reported c (found_reported c records) x (report_running c p records) p (runner_of w p) v y)
        (next rule (λ placed.
        answers_call k c records (found_reported c records) w p x (report_running c p records) h
        (record {
          there = there;
          sees = all.sees;
          runs = all.runs;
          lists = l;
          found = found;
          outs = λ m b. refl;
          active = active p;
          blocks = blocks;
          locks = locks;
        }) y
        (from_there w p x all.sees there y (sym rule ∙ placed))))

  abbrev Report : World Q × Record → Type 0
  Report after = IsAnswerReported c records after.1

  -- the answer of an event, whatever the value
  tick_answered : (p : Proc) → SeesAll p → (v : Option ℤ) → (step k w (event.Tick p)).1.answer ≡ answer_reported c records (runner_of w p) v (event.Tick p)
  unfolding settled before_event unchanged ticked
  tick_answered p all v =
      let x : ProcessorReported = report_processor c p records in
      let time_ : has_time w.timer p ≡ is_clock c.timer p = ap (λ (t : Timer). has_time t p) timer ∙ sym (clock_has_time c.timer p) in
      let busy : ((processor w p).locked || is_some (handler w p)) ≡ (x.locked || some_due x.handlers.due) = ap (λ b. b || is_some (handler w p)) all.sees.locked
      ∙ ap (λ b. x.locked || b) all.due in
      cond_both (has_time w.timer p) _ _
      (λ (after : World Q × Record). after.1.answer
      ≡ (if has_time w.timer p then (if (processor w p).locked || is_some (handler w p) then answer.Held else answer.Taken) else answer.Nothing))
      (λ counts.
      cond_both ((processor w p).locked || is_some (handler w p)) _ _
      (λ (after : World Q × Record). after.1.answer
      ≡ (if has_time w.timer p then (if (processor w p).locked || is_some (handler w p) then answer.Held else answer.Taken) else answer.Nothing))
      (λ yes_. rw (counts, yes_) refl) (λ no_. rw (counts, no_) refl))
      (λ not_. rw not_ refl)
      ∙ ap (λ b. if b then (if (processor w p).locked || is_some (handler w p) then answer.Held else answer.Taken) else answer.Nothing) time_
      ∙ ap (λ b. if is_clock c.timer p then (if b then answer.Held else answer.Taken) else answer.Nothing) busy

  interrupt_answered : (p : Proc) → SeesAll p → (v : Option ℤ) → (step k w (event.Ipi p)).1.answer ≡ answer_reported c records (runner_of w p) v (event.Ipi p)
  unfolding settled before_event unchanged
  interrupt_answered p all v =
      let x : ProcessorReported = report_processor c p records in
      cond_both (is_held w p) _ _ (λ (after : World Q × Record). after.1.answer
      ≡ (if is_held w p then answer.Held else if (processor w p).latch then answer.Taken else answer.Nothing)) (λ yes_. rw yes_ refl) (λ no_. rw no_ refl)
      ∙ ap (λ b. if b then answer.Held else if (processor w p).latch then answer.Taken else answer.Nothing) all.sees.held
      ∙ ap (λ b. if is_held_reported x then answer.Held else if b then answer.Taken else answer.Nothing) all.pending

  answer_step : (e : Event) → SeesAll (processor_of e) → Report (step k w e)
  unfolding settled before_event unchanged
  answer_step (event.Call p y) all =
      cond_both (is_some (runner_of w p)) _ _ Report
      (λ there. call_answered p y all there
      ∙ ap (λ (o : Option Code). refused_or o
      (outcome_reported c (found_reported c records) (report_processor c p records) (report_running c p records) p (runner_of w p)
      (accepted_value (called w p (row_of k w p y)).1.answer) y)) (sym (first_same (row_reported c records p (runner_of w p) y)))
      ∙ sym (cond-true (is_some (runner_of w p)) (refused_or (first_of (row_reported c records p (runner_of w p) y))
      (outcome_reported c (found_reported c records) (report_processor c p records) (report_running c p records) p (runner_of w p)
      (accepted_value (called w p (row_of k w p y)).1.answer) y)) answer.Idle there))
      (λ none. sym (cond-false (is_some (runner_of w p)) _ answer.Idle none))
  answer_step (event.Tick p) all =
      let r : Record = (step k w (event.Tick p)).1 in
      tick_answered p all (accepted_value r.answer)
      ∙ ap (λ (e : Event). answer_reported c records r.runner (accepted_value r.answer) e) (sym (event_reported k w (event.Tick p)))
  answer_step (event.Ipi p) all =
      let r : Record = (step k w (event.Ipi p)).1 in
      interrupt_answered p all (accepted_value r.answer)
      ∙ ap (λ (e : Event). answer_reported c records r.runner (accepted_value r.answer) e) (sym (event_reported k w (event.Ipi p)))

-- Along a run.

module _ (c : Setup) (events : List Event) (valid : IsValid c) (on : AreOn c.processors events) where
  abbrev m : State
  m = replay numbered (booted c) events

  abbrev records : List Record
  records = answers numbered (booted c) events

  pub found_after_all : Finds c (found_reported c records) m
  found_after_all =
      let ready = ready_after c valid events on in
      let balance = balance_after_all c events valid on in
      record {
        tasks = λ t here. agrees_from_boot c events valid on t (rw (sym ready.tasks) here);
        waits = λ t. (ready.report t).0.wait;
        priority = λ t here. priority_after_all c events valid on t (rw (sym ready.tasks) here);
        wakeups = λ t here. at_end c events valid on (λ rs v. WakeupBalance rs v t) (λ n. wakeups_balance c events valid on n t (rw (sym ready.tasks) here));
        units = λ s. let all = balance.semaphores s in let first = get_or-map (λ (y : SemaphoreSetup). y.initial) c.semaphores (s.number - 1) no_semaphore in
            omega (arith, all, first);
        pattern = λ f. at_end c events valid on (λ rs v. IsPatternReported c rs v f) (patterns_reported c f events valid on);
        values = λ d.
            let all : length (puts d [] records) ≡ length (flat_map (out_by d) records ++ values m d) = ap length (balance.data_queues d) in
            omega (arith, all, length-append (flat_map (out_by d) records) (values m d));
        out = blocks_after_all c events valid on;
        holder = λ o. at_end c events valid on (λ rs v. IsHolderReported rs v o) (holders_reported c o events valid on);
      }

pub answers_reported : (c : Setup) (events : List Event) → IsValid c → AreOn c.processors events → (e : Event) → (processor_of e).number ≤ c.processors →
    IsAnswerReported c (answers numbered (booted c) events) (step numbered (replay numbered (booted c) events) e).1
answers_reported c events valid on e here =
    let ready = ready_after c valid events on in
    let p : Proc = processor_of e in
    let v : State = m c events valid on in
    let records_ : List Record = records c events valid on in
    let holds : HoldsReported c p v (report_processor c p records_) = holds_after_all c p here events valid on in
    answer_step numbered c records_ v (numbered_lists v) (configured_after_all c events valid on) (found_after_all c events valid on)
    (λ q t runs. (running_may numbered v q ready.safe t runs).active)
    (λ o. item_holds (λ (y : PoolSetup). y.blocks ≤ 64) no_pool c.pools o.number (lit≤ tt) (λ i d less. (valid.in_range.pools i d less).most)) valid.few.spin_locks
    ready.sound.timer e
    (record {
      sees = seen_after_all c events valid on p here;
      due = holds.due;
      pending = at_end c events valid on (λ rs u. IsRequestReported c rs u p) (requests_reported c p here events valid on);
      runs = running_after_all c valid p here events on;
    })
