-- To which processors events send requests, and who begins to run, along a run.
use Rattle.std.proofs.Common.{◌≡◌, ◌≤◌, ◌==◌, not, ◌&&◌, List, [], ◌∷◌, ◌++◌, length, arith, refl, sym, ap, ◌∙◌, subst, Option, Some, None}
use Rattle.std.proofs.lemmas.List.Elements.{All-nil, All-cons, All-append}
use Rattle.fmp_codes.specs.declared.numbers.Proc.{Proc}
use Rattle.fmp_codes.specs.declared.numbers.Task.{Task}
use Rattle.fmp_codes.specs.declared.records.Event.{Event}
use Rattle.fmp_codes.specs.declared.records.Event.TheVariants as event
use Rattle.fmp_codes.specs.declared.records.Record.{Record}
use Rattle.fmp_setup.specs.Setup.{Setup}
use Rattle.fmp_setup.specs.Valid.{IsValid}
use Rattle.fmp_rules.specs.Ordering.{top}
use Rattle.fmp_rules.specs.Arrivals.{State, numbered}
use Rattle.fmp_rules.specs.Step.{is_same, step, replay, answers}
use Rattle.fmp_rules.specs.Boot.{booted}
use Rattle.fmp_law_safety.specs.Runs.{processor_of, AreOn}
use Rattle.fmp_law_balance.specs.Waits.Waits.{nobody_waits, after_records}
use Rattle.fmp_law_balance.proofs.waits.Events.{event_reported}
use Rattle.fmp_law_records.proofs.counts.Ready.{Ready, ready_later, ready_at_boot}
use Rattle.fmp_law_records.specs.Standing.{Standing, standing_after, standing_by, standing_at_boot, report_standing, top_reported}
use Rattle.fmp_law_records.specs.Tops.{is_one_task, RequestsAreDue}
use Rattle.fmp_law_records.proofs.Ready.{Stands, top_same}
use Rattle.fmp_law_records.proofs.StandingRuns.{stands_next, stands_from_boot}
use Rattle.fmp_law_records.proofs.Tops.{sends_step}

one_task : (a b : Option Task) → is_same a b ≡ is_one_task a b
one_task None None = refl
one_task (Some t) (Some u) = refl
one_task None (Some u) = refl
one_task (Some t) None = refl

waits_by : (c : Setup) (rs : List Record) (s : Standing) → (standing_by c rs s).waits ≡ after_records c s.waits rs
waits_by c [] s = refl
waits_by c (r ∷ rs) s = waits_by c rs (standing_after c r s)

module _ (c : Setup) (events : List Event) (valid : IsValid c) (on : AreOn c.processors events) where
  abbrev m : State
  m = replay numbered (booted c) events

  abbrev s : Standing
  s = report_standing c (answers numbered (booted c) events)

  -- an event on a processor that there is can be the next one
  ready_for : (e : Event) → (processor_of e).number ≤ c.processors → Ready c s.waits m (e ∷ [])
  ready_for e within =
      let Within : Event → Type 0 = λ y. (processor_of y).number ≤ c.processors in
      let with_last : AreOn c.processors (events ++ e ∷ []) = All-append Within events (e ∷ []) on (All-cons Within e [] within (All-nil Within)) in
      subst (λ pending. Ready c pending m (e ∷ [])) (sym (waits_by c (answers numbered (booted c) events) (standing_at_boot c))) (ready_later c nobody_waits (booted c) events (e ∷ []) (ready_at_boot c valid (events ++ e ∷ []) with_last))

  pub requests_due : (e : Event) → (processor_of e).number ≤ c.processors → RequestsAreDue c s (step numbered m e).1
  requests_due e within =
      let ready = ready_for e within in
      let r : Record = (step numbered m e).1 in
      let v : State = (step numbered m e).0 in
      let h : Stands c s m = stands_from_boot c events valid on in
      let g : Stands c (standing_after c r s) v = stands_next c s m e [] ready h in
      let few_after : length v.tasks ≤ 64 = rw g.count valid.few_tasks in
      let sends = sends_step m ready.safe e (ready.on 0 e (omega arith)) in
      let at : processor_of r.event ≡ processor_of e = ap (λ (x : Event). processor_of x) (event_reported numbered m e) in
      record {
        sent = λ p here.
            sends.sent p ((ready_for (event.Ipi p) here).on 0 (event.Ipi p) (omega arith))
            ∙ ap (λ b. not (p.number == (processor_of e).number) && not b) (one_task (top numbered m p) (top numbered v p))
            ∙ ap (λ o. not (p.number == (processor_of e).number) && not (is_one_task o (top numbered v p))) (top_same c s m h ready.sound.few_tasks p)
            ∙ ap (λ o. not (p.number == (processor_of e).number) && not (is_one_task (top_reported c s p) o)) (top_same c (standing_after c r s) v g few_after p)
            ∙ ap (λ (q : Proc). not (p.number == q.number) && not (is_one_task (top_reported c s p) (top_reported c (standing_after c r s) p))) (sym at);
        begun = λ now begins. sends.begun now begins ∙ top_same c (standing_after c r s) v g few_after (processor_of e) ∙ ap (top_reported c (standing_after c r s)) (sym at);
      }
