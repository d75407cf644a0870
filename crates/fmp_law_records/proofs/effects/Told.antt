-- The record that is made of what the records before it tell is as they tell, and so the machine's records are those that are made.
use Rattle.std.proofs.Common.{◌≡◌, ◌↔◌, ◌≤◌, ◌∙◌, ◌&&◌, ℤ, Bool, true, false, List, [], ◌∷◌, ◌++◌, Option, Some, None, refl, sym, ap, subst, ⊎_elim}
use Rattle.std.specs.Prelude.{is_some, if◌then◌else◌}
use Rattle.std.proofs.lemmas.Bool.{false≢true, both_ways, cond_both, cases_Bool}
use Rattle.std.proofs.lemmas.List.Elements.{All-nil, All-head, All-tail, All-push}
use Rattle.fmp_codes.specs.declared.calls.Call.TheVariants as call
use Rattle.fmp_codes.specs.declared.calls.BufferCall.TheVariants as buffer
use Rattle.fmp_codes.specs.declared.codes.Code.{Code}
use Rattle.fmp_codes.specs.declared.codes.Code.TheVariants as code
use Rattle.fmp_codes.specs.declared.records.Answer.{Answer}
use Rattle.fmp_codes.specs.declared.records.Answer.TheVariants as answer
use Rattle.fmp_codes.specs.declared.records.Event.{Event}
use Rattle.fmp_codes.specs.declared.records.Event.TheVariants as event
use Rattle.fmp_codes.specs.declared.records.Record.{Record}
use Rattle.fmp_codes.specs.declared.records.Runner.{Runner}
use Rattle.fmp_setup.specs.Setup.{Setup}
use Rattle.fmp_setup.specs.Valid.{IsValid}
use Rattle.fmp_rules.specs.Arrivals.{numbered}
use Rattle.fmp_rules.specs.Boot.{booted}
use Rattle.fmp_rules.specs.Step.{step, replay, answers}
use Rattle.fmp_rules.proofs.Replays.{step_event, replay_more, answers_more}
use Rattle.fmp_law_safety.specs.Runs.{processor_of, AreOn}
use Rattle.fmp_law_balance.specs.Accepted.{is_accepted, accepted_value}
use Rattle.fmp_law_records.specs.Refusals.Callers.{report_caller}
use Rattle.fmp_law_records.specs.Refusals.Errors.{Errors}
use Rattle.fmp_law_records.specs.Refusals.Found.{found_reported, gives_value}
use Rattle.fmp_law_records.specs.Refusals.Meanings.{object_of}
use Rattle.fmp_law_records.specs.Refusals.Outcomes.{or_waits, answer_reported, refused_or}
use Rattle.fmp_law_records.specs.Refusals.Refusals.{first_of, row_reported}
use Rattle.fmp_law_records.proofs.refusals.FirstErrors.{first_in, first_same}
use Rattle.fmp_law_records.specs.Effects.Received.{is_receive, received_reported}
use Rattle.fmp_law_records.specs.Effects.Records.{IsReported}
use Rattle.fmp_law_records.specs.Effects.Told.{record_told, run_told}
use Rattle.fmp_law_records.proofs.effects.Records.{event_same, one_record, record_reported}

-- The value that an accepted receive answers is the one that it is told with.

module _ (v : Option ℤ) where
  abbrev Answers : Answer → Type 0
  Answers a = is_accepted a ≡ true → accepted_value a ≡ v

  abbrev AreErrors : Errors → Type 0
  AreErrors [] = Unit {0}
  AreErrors (e ∷ es) = (is_accepted (answer.Done e.1 None) ≡ false) × AreErrors es

  among_errors : (es : Errors) (a : Answer) → AreErrors es → Answers a → Answers (refused_or (first_in es) a)
  among_errors [] a errors gives = gives
  among_errors (e ∷ es) a errors gives =
      cond_both e.0 (Some e.1) (first_in es) (λ (o : Option Code). Answers (refused_or o a)) (λ _ yes_. absurd (both_ways _ errors.0 yes_)) (λ _. among_errors es a errors.1 gives)

  after_errors : (es : Errors) (a : Answer) → AreErrors es → Answers a → Answers (refused_or (first_of es) a)
  after_errors es a errors gives = subst (λ (o : Option Code). Answers (refused_or o a)) (sym (first_same es)) (among_errors es a errors gives)

  if_made : (b : Bool) (a : Answer) → Answers a → Answers (if b then a else answer.Idle)
  if_made true a gives = gives
  if_made false a gives = λ yes_. absurd (false≢true yes_)

  may_wait : (b : Bool) → Answers (or_waits b (answer.Done code.Accepted v))
  may_wait true = λ _. refl
  may_wait false = λ yes_. absurd (false≢true yes_)

  module _ (c : Setup) (records : List Record) (r : Option Runner) where
    value_told : (e : Event) → is_receive e && is_accepted (answer_reported c records r v e) ≡ true → accepted_value (answer_reported c records r v e) ≡ v
    value_told (event.Call p (call.Buffer (buffer.RcvDtq id))) yes_ =
        if_made (is_some r) _ (after_errors (row_reported c records p r (call.Buffer (buffer.RcvDtq id))) _ (refl, (refl, (refl, tt))) (may_wait (gives_value c (found_reported c records) (object_of id)))) yes_
    value_told (event.Call p (call.Buffer (buffer.TrcvDtq id timeout))) yes_ =
        if_made (is_some r) _ (after_errors (row_reported c records p r (call.Buffer (buffer.TrcvDtq id timeout))) _ (refl, (refl, (refl, (refl, tt)))) (may_wait (gives_value c (found_reported c records) (object_of id)))) yes_
    value_told (event.Call p (call.Buffer (buffer.PrcvDtq id))) yes_ =
        if_made (is_some r) _ (after_errors (row_reported c records p r (call.Buffer (buffer.PrcvDtq id))) _ (refl, (refl, (refl, (refl, tt)))) (λ _. refl)) yes_
    value_told e yes_ = absurd (false≢true yes_)

-- So what is made is as it is told, and nothing else is.
module _ (c : Setup) (records : List Record) where
  answer_told : (e : Event) (r : Option Runner) (v : Option ℤ) → answer_reported c records r v e ≡ answer_reported c records r (accepted_value (answer_reported c records r v e)) e
  answer_told e r v =
      ⊎_elim (λ yes_. ap (λ x. answer_reported c records r x e) (sym (value_told v c records r e yes_)))
      (λ no_. event_same c records r v (accepted_value (answer_reported c records r v e)) e no_)
      (cases_Bool (is_receive e && is_accepted (answer_reported c records r v e)))

  pub told_reported : (e : Event) → IsReported c records (record_told c records e)
  told_reported e =
      let runner : Option Runner = report_caller c (processor_of e) records in
      let value : Option ℤ = received_reported c records e in
      record {
        caller = refl;
        answer = answer_told e runner value;
        received = value_told value c records runner e;
        releases = refl;
        lost = refl;
        changes = record { run_change = refl; requests = refl };
      }

  told_of : (r : Record) (e : Event) → r.event ≡ e → IsReported c records r → r ≡ record_told c records e
  told_of r e same is = one_record c records r (record_told c records e) is (told_reported e) same

  pub told_same : (r : Record) → IsReported c records r ↔ (r ≡ record_told c records r.event)
  told_same r = (told_of r r.event refl, λ same. subst (λ x. IsReported c records x) (sym same) (told_reported r.event))

-- Along a run.
module _ (c : Setup) (valid : IsValid c) where
  made_told : (es more : List Event) → AreOn c.processors es → AreOn c.processors more →
      run_told c (answers numbered (booted c) es) more ≡ answers numbered (replay numbered (booted c) es) more
  made_told es [] before on = refl
  made_told es (e ∷ more) before on =
      let P : Event → Type 0 = λ x. (processor_of x).number ≤ c.processors in
      let front : List Record = answers numbered (booted c) es in
      let here = All-head P e more on in
      let r : Record = (step numbered (replay numbered (booted c) es) e).1 in
      let same : r ≡ record_told c front e = told_of c front r e (step_event (replay numbered (booted c) es) e) (record_reported c es valid before e here) in
      ap (λ x. x ∷ run_told c (front ++ x ∷ []) more) (sym same) ∙ ap (λ x. r ∷ run_told c x more) (sym (answers_more (booted c) es e))
      ∙ ap (λ x. r ∷ x) (made_told (es ++ e ∷ []) more (All-push P es e before here) (All-tail P e more on))
      ∙ ap (λ m. r ∷ answers numbered m more) (replay_more (booted c) es e)

pub run_made : (c : Setup) (events : List Event) → IsValid c → AreOn c.processors events → run_told c [] events ≡ answers numbered (booted c) events
run_made c events valid on = made_told c valid [] events (All-nil (λ e. (processor_of e).number ≤ c.processors)) on
