-- Where an answer is what records tell, so is whether it refuses its call, and with which code.
use Rattle.std.proofs.Common.{◌≡◌, ◌≤◌, ℤ, pos, Bool, true, false, not, ◌&&◌, ◌||◌, List, [], ◌∷◌, refl, sym, ap, ◌∙◌, subst, Option, Some, None}
use Rattle.std.specs.Prelude.{if◌then◌else◌, is_some, nat_lt}
use Rattle.std.proofs.lemmas.Bool.{cond_both, false≢true, and_parts}
use Rattle.fmp_codes.specs.declared.numbers.Proc.{Proc}
use Rattle.fmp_codes.specs.declared.numbers.Task.{Task}
use Rattle.fmp_codes.specs.declared.calls.Call.{Call}
use Rattle.fmp_codes.specs.declared.calls.Call.TheVariants as call
use Rattle.fmp_codes.specs.declared.calls.TaskCall.TheVariants as tasks
use Rattle.fmp_codes.specs.declared.calls.SyncCall.TheVariants as sync
use Rattle.fmp_codes.specs.declared.calls.BufferCall.TheVariants as buffer
use Rattle.fmp_codes.specs.declared.calls.SystemCall.TheVariants as system
use Rattle.fmp_codes.specs.declared.calls.SpinCall.TheVariants as spin
use Rattle.fmp_codes.specs.declared.codes.Code.{Code}
use Rattle.fmp_codes.specs.declared.codes.Code.TheVariants as code
use Rattle.fmp_codes.specs.declared.records.Answer.{Answer}
use Rattle.fmp_codes.specs.declared.records.Answer.TheVariants as answer
use Rattle.fmp_codes.specs.declared.records.Event.{Event}
use Rattle.fmp_codes.specs.declared.records.Event.TheVariants as event
use Rattle.fmp_codes.specs.declared.records.Record.{Record}
use Rattle.fmp_codes.specs.declared.records.Runner.{Runner}
use Rattle.fmp_setup.specs.Setup.{Setup}
use Rattle.fmp_law_balance.specs.Words.{is_clock}
use Rattle.fmp_setup.specs.Valid.{IsValid}
use Rattle.fmp_rules.specs.Arrivals.{numbered}
use Rattle.fmp_rules.specs.Step.{step, replay, answers}
use Rattle.fmp_rules.specs.Boot.{booted}
use Rattle.fmp_law_safety.specs.Runs.{processor_of, AreOn}
use Rattle.fmp_law_balance.specs.Accepted.{accepted_value}
use Rattle.fmp_law_balance.proofs.waits.Events.{event_reported}
use Rattle.fmp_law_records.specs.Requests.{ProcessorReported, some_due, is_held_reported, report_processor}
use Rattle.fmp_law_records.specs.Refusals.Misplaced.{is_misplaced, is_context_error, is_idle, EventIsPlaced, CallIsPlaced}
use Rattle.fmp_law_records.specs.Refusals.Meanings.{task_meant, object_of}
use Rattle.fmp_law_records.specs.Refusals.Known.{are_known}
use Rattle.fmp_law_records.specs.Refusals.Arguments.{are_proper, is_unknown_error, is_range_error, EventIsJudged, ArgumentsAreJudged}
use Rattle.fmp_law_records.specs.Refusals.Found.{FoundReported, found_reported, has_bits, takes_value, gives_value, has_block}
use Rattle.fmp_law_records.specs.Refusals.Errors.{Errors, state_errors}
use Rattle.fmp_law_records.specs.Refusals.Callers.{report_running}
use Rattle.fmp_law_records.specs.Refusals.Refusals.{refused_with, first_of, row_reported, refusal_reported, IsRefusalReported}
use Rattle.fmp_law_records.proofs.refusals.FirstErrors.{first_in, first_same}
use Rattle.fmp_law_records.specs.Refusals.Outcomes.{accepted, gives, or_waits, least_block, refused_or, outcome_reported, answer_reported}
use Rattle.fmp_law_records.proofs.refusals.Answers.{answers_reported}

-- A code of an error on the state; and what a call answers that is done, waits or tries again.

abbrev is_of_state : Code → Bool
is_of_state code.IllegalUse = true
is_of_state code.ObjectState = true
is_of_state code.QueueOverflow = true
is_of_state code.TimedOut = true
is_of_state other = false

abbrev are_of_state : Errors → Bool
are_of_state [] = true
are_of_state (e ∷ es) = is_of_state e.1 && are_of_state es

abbrev is_no_refusal : Answer → Bool
is_no_refusal (answer.Done code.Accepted v) = true
is_no_refusal answer.Wait = true
is_no_refusal answer.Spin = true
is_no_refusal answer.Gone = true
is_no_refusal other = false

module _ (c : Setup) (x : FoundReported) (here : ProcessorReported) (running : Option Task) (p : Proc) (r : Option Runner) (v : Option ℤ) where
  of_state : (y : Call) → are_of_state (state_errors c x p r y) ≡ true
  of_state (call.Task (tasks.ActTsk id)) = refl
  of_state (call.Task y) = refl
  of_state (call.Sync (sync.SigSem id)) = refl
  of_state (call.Sync y) = refl
  of_state (call.Buffer (buffer.SndDtq id n)) = refl
  of_state (call.Buffer y) = refl
  of_state (call.System (system.RotRdq n)) = refl
  of_state (call.System y) = refl
  of_state (call.Spin (spin.LocSpn id)) = refl
  of_state (call.Spin y) = refl
  of_state y = refl

  waits_or : (b : Bool) (a : Answer) → is_no_refusal a ≡ true → is_no_refusal (or_waits b a) ≡ true
  waits_or true a e = e
  waits_or false a e = refl

  tries : (b : Bool) → is_no_refusal (if b then answer.Spin else accepted) ≡ true
  tries true = refl
  tries false = refl

  is_outcome : (y : Call) → is_no_refusal (outcome_reported c x here running p r v y) ≡ true
  is_outcome (call.Task tasks.SlpTsk) = waits_or (nat_lt 0 (x.wakeups (task_meant r (pos 0)))) accepted refl
  is_outcome (call.Task (tasks.TslpTsk timeout)) = waits_or (nat_lt 0 (x.wakeups (task_meant r (pos 0)))) accepted refl
  is_outcome (call.Task y) = refl
  is_outcome (call.Sync (sync.WaiSem id)) = waits_or (nat_lt 0 (x.units (object_of id))) accepted refl
  is_outcome (call.Sync (sync.TwaiSem id timeout)) = waits_or (nat_lt 0 (x.units (object_of id))) accepted refl
  is_outcome (call.Sync (sync.WaiFlg id bits m)) = waits_or (has_bits c x (object_of id) bits m) (gives (pos (x.pattern (object_of id)))) refl
  is_outcome (call.Sync (sync.TwaiFlg id bits m timeout)) = waits_or (has_bits c x (object_of id) bits m) (gives (pos (x.pattern (object_of id)))) refl
  is_outcome (call.Sync y) = refl
  is_outcome (call.Buffer (buffer.SndDtq id n)) = waits_or (takes_value c x (object_of id)) accepted refl
  is_outcome (call.Buffer (buffer.TsndDtq id n timeout)) = waits_or (takes_value c x (object_of id)) accepted refl
  is_outcome (call.Buffer (buffer.RcvDtq id)) = waits_or (gives_value c x (object_of id)) (answer.Done code.Accepted v) refl
  is_outcome (call.Buffer (buffer.TrcvDtq id timeout)) = waits_or (gives_value c x (object_of id)) (answer.Done code.Accepted v) refl
  is_outcome (call.Buffer (buffer.GetMpf id)) = waits_or (has_block c x (object_of id)) (gives (least_block c x here running p r v (object_of id))) refl
  is_outcome (call.Buffer (buffer.TgetMpf id timeout)) =
      waits_or (has_block c x (object_of id)) (gives (least_block c x here running p r v (object_of id))) refl
  is_outcome (call.Buffer y) = refl
  is_outcome (call.System system.LocCpu) = refl
  is_outcome (call.System y) = refl
  is_outcome (call.Spin (spin.LocSpn id)) = tries (is_some (x.holder (object_of id)))
  is_outcome (call.Spin (spin.IlocSpn id)) = tries (is_some (x.holder (object_of id)))
  is_outcome (call.Spin y) = refl
  is_outcome y = refl

-- What an answer says of a call: whether somebody makes it, and then whether its place and its arguments are right, and which code its first error has.
record Says (made misplaced known proper : Bool) (o : Option Code) (a : Answer) : Type 0 where
  pub refused : refused_with a ≡ (if made then o else None)
  pub idle : is_idle a ≡ not made
  pub context : is_context_error a ≡ (made && misplaced)
  pub unknown : is_unknown_error a ≡ (made && not misplaced && not known)
  pub improper : is_range_error a ≡ (made && not misplaced && known && not proper)

abbrev Passes : Option Code → Answer → Type 0
Passes o a = Says true false true true o a

says_code : (z : Code) → is_of_state z ≡ true → Passes (Some z) (answer.Done z None)
says_code code.IllegalUse e = record { refused = refl; idle = refl; context = refl; unknown = refl; improper = refl }
says_code code.ObjectState e = record { refused = refl; idle = refl; context = refl; unknown = refl; improper = refl }
says_code code.QueueOverflow e = record { refused = refl; idle = refl; context = refl; unknown = refl; improper = refl }
says_code code.TimedOut e = record { refused = refl; idle = refl; context = refl; unknown = refl; improper = refl }
says_code z e = absurd (false≢true e)

says_done : (a : Answer) → is_no_refusal a ≡ true → Passes None a
says_done (answer.Done code.Accepted v) e = record { refused = refl; idle = refl; context = refl; unknown = refl; improper = refl }
says_done answer.Wait e = record { refused = refl; idle = refl; context = refl; unknown = refl; improper = refl }
says_done answer.Spin e = record { refused = refl; idle = refl; context = refl; unknown = refl; improper = refl }
says_done answer.Gone e = record { refused = refl; idle = refl; context = refl; unknown = refl; improper = refl }
says_done a e = absurd (false≢true e)

module _ (a : Answer) (is : is_no_refusal a ≡ true) where
  says_state : (es : Errors) → are_of_state es ≡ true → Passes (first_in es) (refused_or (first_in es) a)
  says_state [] all = says_done a is
  says_state (e ∷ es) all =
      let parts = and_parts (is_of_state e.1) (are_of_state es) all in
      cond_both e.0 (Some e.1) (first_in es) (λ o. Passes o (refused_or o a)) (λ _. says_code e.1 parts.0) (λ _. says_state es parts.1)

  abbrev RowSays : Bool → Bool → Bool → Bool → Errors → Type 0
  RowSays b m k p es =
      let o : Option Code = first_in ((m, code.Context) ∷ (not k, code.Identifier) ∷ (not p, code.Parameter) ∷ es) in
      Says b m k p o (if b then refused_or o a else answer.Idle)

  says_row : (b m k p : Bool) (es : Errors) → are_of_state es ≡ true → RowSays b m k p es
  says_row false m k p es all = record { refused = refl; idle = refl; context = refl; unknown = refl; improper = refl }
  says_row true true k p es all = record { refused = refl; idle = refl; context = refl; unknown = refl; improper = refl }
  says_row true false false p es all = record { refused = refl; idle = refl; context = refl; unknown = refl; improper = refl }
  says_row true false true false es all = record { refused = refl; idle = refl; context = refl; unknown = refl; improper = refl }
  says_row true false true true es all = says_state es all

-- So it is of each event, where its answer is told.

module _ (c : Setup) (records : List Record) (r : Option Runner) (a : Answer) (v : Option ℤ) where
  abbrev IsReported : Event → Type 0
  IsReported e = a ≡ answer_reported c records r v e

  call_says : (p : Proc) (y : Call) → IsReported (event.Call p y) →
      Says (is_some r) (is_misplaced (report_processor c p records) r y) (are_known c y) (are_proper c records r y) (first_of (row_reported c records p r y)) a
  call_says p y report =
      let x : ProcessorReported = report_processor c p records in
      let found : FoundReported = found_reported c records in
      let running : Option Task = report_running c p records in
      let row : Errors = row_reported c records p r y in
      let ThisSays : Option Code → Answer → Type 0 = Says (is_some r) (is_misplaced x r y) (are_known c y) (are_proper c records r y) in
      subst (λ (o : Option Code). ThisSays o a) (sym (first_same row))
      (subst (ThisSays (first_in row))
      (sym (report ∙ ap (λ (o : Option Code). if is_some r then refused_or o (outcome_reported c found x running p r v y) else answer.Idle) (first_same row)))
      (says_row _ (is_outcome c found x running p r v y) (is_some r) (is_misplaced x r y) (are_known c y) (are_proper c records r y)
      (state_errors c found p r y) (of_state c found x running p r v y)))

  abbrev IsUnrefused : Answer → Type 0
  IsUnrefused z = refused_with z ≡ None

  refused_by : (e : Event) → IsReported e → refused_with a ≡ refusal_reported c records r e
  refused_by (event.Call p y) report = (call_says p y report).refused
  refused_by (event.Tick p) report =
      let x : ProcessorReported = report_processor c p records in
      ap refused_with report
      ∙ cond_both (is_clock c.timer p) _ answer.Nothing IsUnrefused
      (λ _. cond_both (x.locked || some_due x.handlers.due) answer.Held answer.Taken IsUnrefused (λ _. refl) (λ _. refl)) (λ _. refl)
  refused_by (event.Ipi p) report =
      let x : ProcessorReported = report_processor c p records in
      ap refused_with report ∙ cond_both (is_held_reported x) answer.Held _ IsUnrefused (λ _. refl)
      (λ _. cond_both x.pending answer.Taken answer.Nothing IsUnrefused (λ _. refl) (λ _. refl))

  placed_by : (e : Event) → IsReported e → EventIsPlaced (report_processor c (processor_of e) records) r a e
  placed_by (event.Call p y) report = let says = call_says p y report in record { idle = says.idle; misplaced = says.context }
  placed_by e report = tt

  judged_by : (e : Event) → IsReported e → EventIsJudged c records r a e
  judged_by (event.Call p y) report = let says = call_says p y report in record { unknown = says.unknown; improper = says.improper }
  judged_by e report = tt

-- Along a run.

module _ (c : Setup) (events : List Event) (valid : IsValid c) (on : AreOn c.processors events) (e : Event) (here : (processor_of e).number ≤ c.processors) where
  abbrev records : List Record
  records = answers numbered (booted c) events

  abbrev last : Record
  last = (step numbered (replay numbered (booted c) events) e).1

  is_event : last.event ≡ e
  is_event = event_reported numbered (replay numbered (booted c) events) e

  report_here : IsReported c records last.runner last.answer (accepted_value last.answer) e
  report_here = answers_reported c events valid on e here ∙ ap (answer_reported c records last.runner (accepted_value last.answer)) is_event

  pub refusals_reported : IsRefusalReported c records last
  refusals_reported = refused_by c records last.runner last.answer _ e report_here ∙ sym (ap (refusal_reported c records last.runner) is_event)

  pub calls_are_placed : CallIsPlaced (report_processor c (processor_of e) records) last
  calls_are_placed = subst (EventIsPlaced (report_processor c (processor_of e) records) last.runner last.answer) (sym is_event)
      (placed_by c records last.runner last.answer _ e report_here)

  pub arguments_judged : ArgumentsAreJudged c records last
  arguments_judged = subst (EventIsJudged c records last.runner last.answer) (sym is_event) (judged_by c records last.runner last.answer _ e report_here)
