-- The record of each event is what the records before it tell, and they tell one record.
use Rattle.std.proofs.Common.{◌≡◌, ◌≤◌, ◌∙◌, ◌&&◌, ℤ, Bool, true, false, List, [], Option, Some, None, sym, ap, refl, ⊎_elim}
use Rattle.std.specs.Prelude.{if◌then◌else◌, is_some}
use Rattle.std.proofs.lemmas.Bool.{false≢true, cases_Bool}
use Rattle.fmp_codes.specs.declared.numbers.Proc.{Proc}
use Rattle.fmp_codes.specs.declared.numbers.Task.{Task}
use Rattle.fmp_codes.specs.declared.calls.Call.{Call}
use Rattle.fmp_codes.specs.declared.calls.Call.TheVariants as call
use Rattle.fmp_codes.specs.declared.calls.TaskCall.{TaskCall}
use Rattle.fmp_codes.specs.declared.calls.SyncCall.{SyncCall}
use Rattle.fmp_codes.specs.declared.calls.BufferCall.TheVariants as buffer
use Rattle.fmp_codes.specs.declared.calls.SystemCall.{SystemCall}
use Rattle.fmp_codes.specs.declared.calls.SpinCall.{SpinCall}
use Rattle.fmp_codes.specs.declared.codes.Code.{Code}
use Rattle.fmp_codes.specs.declared.codes.Code.TheVariants as code
use Rattle.fmp_codes.specs.declared.records.Answer.{Answer}
use Rattle.fmp_codes.specs.declared.records.Answer.TheVariants as answer
use Rattle.fmp_codes.specs.declared.records.Event.{Event}
use Rattle.fmp_codes.specs.declared.records.Event.TheVariants as event
use Rattle.fmp_codes.specs.declared.records.Record.{Record}
use Rattle.fmp_codes.specs.declared.records.Release.{Release}
use Rattle.fmp_codes.specs.declared.records.Runner.{Runner}
use Rattle.fmp_setup.specs.Setup.{Setup}
use Rattle.fmp_setup.specs.Valid.{IsValid}
use Rattle.fmp_rules.specs.Arrivals.{numbered}
use Rattle.fmp_rules.specs.Boot.{booted}
use Rattle.fmp_rules.specs.Step.{step, replay, answers}
use Rattle.fmp_law_safety.specs.Runs.{processor_of, AreOn}
use Rattle.fmp_law_balance.specs.Accepted.{is_accepted, accepted_value}
use Rattle.fmp_law_records.specs.Requests.{ProcessorReported, report_processor}
use Rattle.fmp_law_records.specs.Refusals.Callers.{report_caller, report_running}
use Rattle.fmp_law_records.specs.Refusals.Meanings.{object_of}
use Rattle.fmp_law_records.specs.Refusals.Found.{FoundReported, found_reported, gives_value}
use Rattle.fmp_law_records.specs.Refusals.Refusals.{first_of, row_reported}
use Rattle.fmp_law_records.specs.Refusals.Outcomes.{or_waits, task_outcome, sync_outcome, system_outcome, spin_outcome, outcome_reported, refused_or, answer_reported}
use Rattle.fmp_law_records.proofs.refusals.Answers.{answers_reported}
use Rattle.fmp_law_records.proofs.refusals.Callers.{callers_reported}
use Rattle.fmp_law_records.specs.Effects.RunChanges.{change_reported, requests_reported}
use Rattle.fmp_law_records.specs.Effects.Losses.{lost_reported}
use Rattle.fmp_law_records.specs.Effects.Releases.{releases_reported}
use Rattle.fmp_law_records.specs.Effects.Received.{is_receive, received_reported}
use Rattle.fmp_law_records.specs.Effects.Records.{IsReported}
use Rattle.fmp_law_records.proofs.effects.Losses.{losses_reported}
use Rattle.fmp_law_records.proofs.effects.Received.{received_values_reported}
use Rattle.fmp_law_records.proofs.effects.ReleasesRuns.{releases_are_reported}
use Rattle.fmp_law_records.proofs.effects.RunChangesRuns.{run_change_reported}

pub record_reported : (c : Setup) (events : List Event) → IsValid c → AreOn c.processors events → (e : Event) → (processor_of e).number ≤ c.processors →
    IsReported c (answers numbered (booted c) events) (step numbered (replay numbered (booted c) events) e).1
record_reported c events valid on e within = record {
  caller = callers_reported c events valid on e within;
  answer = answers_reported c events valid on e within;
  received = received_values_reported c events valid on e within;
  releases = releases_are_reported c events valid on e within;
  lost = losses_reported c events valid on e within;
  changes = run_change_reported c events valid on e within;
}

-- An answer depends on the value that is received only where a call that receives is accepted.

refused_same : (b : Bool) (z : Option Code) (y : Answer) (a : Answer) → (is_accepted y ≡ false → y ≡ a) →
    is_accepted (if b then refused_or z y else answer.Idle) ≡ false →
    (if b then refused_or z y else answer.Idle) ≡ (if b then refused_or z a else answer.Idle)
refused_same true None y a same none = same none
refused_same true (Some z) y a same none = refl
refused_same false z y a same none = refl

module _ (v u : Option ℤ) where
  done_same : is_accepted (answer.Done code.Accepted v) ≡ false → answer.Done code.Accepted v ≡ answer.Done code.Accepted u
  done_same none = absurd (false≢true (sym none))

  waits_same : (b : Bool) → is_accepted (or_waits b (answer.Done code.Accepted v)) ≡ false →
      or_waits b (answer.Done code.Accepted v) ≡ or_waits b (answer.Done code.Accepted u)
  waits_same true none = done_same none
  waits_same false none = refl

  module _ (c : Setup) (x : FoundReported) (here : ProcessorReported) (running : Option Task) (p : Proc) (r : Option Runner) where
    task_same : (y : TaskCall) → task_outcome c x here running p r v y ≡ task_outcome c x here running p r u y
    task_same y = refl

    sync_same : (y : SyncCall) → sync_outcome c x here running p r v y ≡ sync_outcome c x here running p r u y
    sync_same y = refl

    system_same : (y : SystemCall) → system_outcome c x here running p r v y ≡ system_outcome c x here running p r u y
    system_same y = refl

    spin_same : (y : SpinCall) → spin_outcome c x here running p r v y ≡ spin_outcome c x here running p r u y
    spin_same y = refl

    abbrev answered : Option Code → Option ℤ → Call → Answer
    answered z w y = if is_some r then refused_or z (outcome_reported c x here running p r w y) else answer.Idle

    call_same : (z : Option Code) (y : Call) → is_receive (event.Call p y) && is_accepted (answered z v y) ≡ false → answered z v y ≡ answered z u y
    call_same z (call.Buffer (buffer.RcvDtq id)) none = refused_same (is_some r) z _ _ (waits_same (gives_value c x (object_of id))) none
    call_same z (call.Buffer (buffer.TrcvDtq id timeout)) none = refused_same (is_some r) z _ _ (waits_same (gives_value c x (object_of id))) none
    call_same z (call.Buffer (buffer.PrcvDtq id)) none = refused_same (is_some r) z _ _ done_same none
    call_same z (call.Buffer y) none = refl
    call_same z (call.Task y) none = ap (λ a. if is_some r then refused_or z a else answer.Idle) (task_same y)
    call_same z (call.Sync y) none = ap (λ a. if is_some r then refused_or z a else answer.Idle) (sync_same y)
    call_same z (call.System y) none = ap (λ a. if is_some r then refused_or z a else answer.Idle) (system_same y)
    call_same z (call.Spin y) none = ap (λ a. if is_some r then refused_or z a else answer.Idle) (spin_same y)
    call_same z y none = refl

module _ (c : Setup) (records : List Record) (o : Option Runner) where
  pub event_same : (v u : Option ℤ) (e : Event) → is_receive e && is_accepted (answer_reported c records o v e) ≡ false →
      answer_reported c records o v e ≡ answer_reported c records o u e
  event_same v u (event.Call p y) none =
      call_same v u c (found_reported c records) (report_processor c p records) (report_running c p records) p o (first_of (row_reported c records p o y)) y none
  event_same v u e none = refl

  -- so the whole answer is told
  whole : (a : Answer) (e : Event) → a ≡ answer_reported c records o (accepted_value a) e →
      (is_receive e && is_accepted a ≡ true → accepted_value a ≡ received_reported c records e) → a ≡ answer_reported c records o (received_reported c records e) e
  whole a e report received =
      ⊎_elim (λ yes_. report ∙ ap (λ v. answer_reported c records o v e) (received yes_))
      (λ no_. report ∙ event_same (accepted_value a) (received_reported c records e) e (ap (λ x. is_receive e && is_accepted x) (sym report) ∙ no_))
      (cases_Bool (is_receive e && is_accepted a))

-- what the changes of a record are told by: not by its changes
abbrev front : Event → Option Runner → Answer → List Release → Record
front e o a rs = record { event = e; runner = o; answer = a; releases = rs; lost = None; run_change = None; requests = [] }

module _ (c : Setup) (records : List Record) where
  same_change : (r : Record) → change_reported c records r ≡ change_reported c records (front r.event r.runner r.answer r.releases)
  same_change r = refl

  same_requests : (r : Record) → requests_reported c records r ≡ requests_reported c records (front r.event r.runner r.answer r.releases)
  same_requests r = refl

  pub one_record : (r s : Record) → IsReported c records r → IsReported c records s → r.event ≡ s.event → r ≡ s
  one_record r s of_r of_s event =
      let runner : r.runner ≡ s.runner = of_r.caller ∙ ap (λ e. report_caller c (processor_of e) records) event ∙ sym of_s.caller in
      let answer : r.answer ≡ s.answer =
      whole c records r.runner r.answer r.event of_r.answer of_r.received ∙ ap (λ o. answer_reported c records o (received_reported c records r.event) r.event) runner
      ∙ ap (λ e. answer_reported c records s.runner (received_reported c records e) e) event ∙ sym (whole c records s.runner s.answer s.event of_s.answer of_s.received) in
      let releases : r.releases ≡ s.releases =
      of_r.releases ∙ ap (λ o. releases_reported c records o r.answer r.event) runner ∙ ap (λ a. releases_reported c records s.runner a r.event) answer
      ∙ ap (releases_reported c records s.runner s.answer) event ∙ sym of_s.releases in
      let lost : r.lost ≡ s.lost = of_r.lost ∙ ap (λ a. lost_reported c records a r.event) answer ∙ ap (lost_reported c records s.answer) event ∙ sym of_s.lost in
      let fronts : front r.event r.runner r.answer r.releases ≡ front s.event s.runner s.answer s.releases =
      ap (λ e. front e r.runner r.answer r.releases) event ∙ ap (λ o. front s.event o r.answer r.releases) runner
      ∙ ap (λ a. front s.event s.runner a r.releases) answer ∙ ap (front s.event s.runner s.answer) releases in
      let change : r.run_change ≡ s.run_change =
      of_r.changes.run_change ∙ same_change r ∙ ap (change_reported c records) fronts ∙ sym (same_change s) ∙ sym of_s.changes.run_change in
      let requests : r.requests ≡ s.requests =
      of_r.changes.requests ∙ same_requests r ∙ ap (requests_reported c records) fronts ∙ sym (same_requests s) ∙ sym of_s.changes.requests in
      ap (λ (x : Record). record x { lost = r.lost; run_change = r.run_change; requests = r.requests }) fronts
      ∙ ap (λ x. record s { lost = x; run_change = r.run_change; requests = r.requests }) lost
      ∙ ap (λ x. record s { run_change = x; requests = r.requests }) change
      ∙ ap (λ x. record s { requests = x }) requests
