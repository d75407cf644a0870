-- Each step sends requests where tops change, and begins to run nobody but a top.
use Rattle.std.proofs.Common.{◌≡◌, ◌≤◌, ◌==◌, Bool, true, false, not, ◌&&◌, ◌||◌, length, refl, sym, ap, ◌∙◌, Option, Some, None, ⊎_elim}
use Rattle.std.specs.Prelude.{is_some}
use Rattle.std.specs.Prelude.{if◌then◌else◌}
use Rattle.fmp_law_safety.proofs.Calls.{occupied_at}
use Rattle.std.proofs.lemmas.Bool.{cond_both, cond-true, eq-eqb}
use Rattle.std.proofs.lemmas.Option.{none-some, same_Some}
use Rattle.fmp_codes.specs.declared.numbers.Proc.{Proc}
use Rattle.fmp_codes.specs.declared.numbers.Task.{Task}
use Rattle.fmp_codes.specs.declared.records.Answer.{Answer}
use Rattle.fmp_codes.specs.declared.records.Answer.TheVariants as answer
use Rattle.fmp_codes.specs.declared.records.Event.{Event}
use Rattle.fmp_codes.specs.declared.records.Event.TheVariants as event
use Rattle.fmp_codes.specs.declared.records.Record.{Record}
use Rattle.fmp_codes.specs.Records.{processor_of}
use Rattle.fmp_setup.specs.Setup.{has_time}
use Rattle.fmp_rules.specs.Effects.{Effect}
use Rattle.fmp_rules.specs.World.{processor, runner_of, handler, is_held}
use Rattle.fmp_rules.specs.Ordering.{top}
use Rattle.fmp_rules.specs.Arrivals.{State, numbered}
use Rattle.fmp_rules.specs.Rows.{called, plain}
use Rattle.fmp_rules.specs.Tick.{tick}
use Rattle.fmp_rules.specs.Step.{is_same, changed_run, tops, row_of, settle, settled, before_event, unchanged, step}
use Rattle.fmp_law_safety.specs.Safe.{Safe}
use Rattle.fmp_law_safety.proofs.Listed.{numbered_lists}
use Rattle.fmp_law_safety.proofs.Keeps.{KeepsOthers, keeps_all}
use Rattle.fmp_law_safety.proofs.Stepping.{keeps_call}
use Rattle.fmp_law_safety.proofs.KeepsTick.{keeps_tick}
use Rattle.fmp_law_safety.proofs.Settling.{settle_is, top_before, requested}
use Rattle.fmp_law_records.specs.Requests.{is_among}
use Rattle.fmp_law_records.proofs.Begins.{runs_or_top}

same_itself : (o : Option Task) → is_same o o ≡ true
same_itself None = refl
same_itself (Some t) = eq-eqb t.number t.number refl

module _ (m : State) (s : Safe numbered m) where
  -- requests go where tops change, and who begins to run is the top
  pub record Sends (e : Event) (after : State × Record) : Type 0 where
    pub sent : (p : Proc) → p.number ≤ length m.processors → is_among p after.1.requests ≡ (not (p.number == (processor_of e).number) && not (is_same (top numbered m p) (top numbered after.0 p)))
    pub begun : (now : Option Task) → after.1.run_change ≡ Some now → now ≡ top numbered after.0 (processor_of e)

  sends_settled : (e : Event) (q : Proc) (did : State × Effect) → (processor_of e).number ≡ q.number → processor_of e ≡ q → KeepsOthers m did.0 q → q.number ≤ length m.processors → Sends e (settled numbered (before_event numbered m e q) did)
  unfolding settled before_event
  sends_settled e q did at is keeps n = record {
    sent = λ p here.
        let there : p.number ≤ length did.0.processors = rw keeps.count here in
        requested numbered did.0 (tops numbered m) q p (p.least, there)
        ∙ ap (λ o. not (p.number == q.number) && not (is_same o (top numbered did.0 p))) (top_before numbered m p (p.least, here))
        ∙ ap (λ (u : State). not (p.number == q.number) && not (is_same (top numbered m p) (top numbered u p))) (sym (settle_is numbered (tops numbered m) did.0 q))
        ∙ ap (λ k. not (p.number == k) && not (is_same (top numbered m p) (top numbered (settle numbered (tops numbered m) did.0 q) p))) (sym at);
    begun = λ now h.
        let after : State = settle numbered (tops numbered m) did.0 q in
        let top_is : top numbered did.0 q ≡ top numbered after (processor_of e) = ap (λ (u : State). top numbered u q) (sym (settle_is numbered (tops numbered m) did.0 q)) ∙ ap (top numbered after) (sym is) in
        ⊎_elim (λ kept_. absurd (none_reported (processor m q).running (processor after q).running now (kept_ ∙ keeps.running) h)) (λ first_. report_is (processor m q).running (processor after q).running now h ∙ first_ ∙ top_is)
        (runs_or_top numbered (tops numbered m) did.0 q (rw keeps.count n));
  }
    where
      report_is : (a b now : Option Task) → changed_run a b ≡ Some now → now ≡ b
      report_is a b now h = cond_both (is_same a b) None (Some b) (λ (x : Option (Option Task)). x ≡ Some now → now ≡ b) (λ _ f. absurd (none-some now f)) (λ _ f. sym (same_Some b now f)) h

      none_reported : (a b now : Option Task) → b ≡ a → changed_run a b ≡ Some now → ⊥
      none_reported a b now same h = none-some now (sym (cond-true (is_same a b) None (Some b) (ap (is_same a) same ∙ same_itself a)) ∙ h)

  -- an event that changes nothing
  sends_none : (e : Event) (q : Proc) (a : Answer) → Sends e (unchanged m e q a)
  unfolding unchanged
  sends_none e q a = record {
    sent = λ p here. sym (ap (λ b. not (p.number == (processor_of e).number) && not b) (same_itself (top numbered m p)) ∙ nobody (not (p.number == (processor_of e).number)));
    begun = λ now h. absurd (none-some now h);
  }
    where
      nobody : (b : Bool) → (b && false) ≡ false
      nobody true = refl
      nobody false = refl

  pub sends_step : (e : Event) → (processor_of e).number ≤ length m.processors → Sends e (step numbered m e)
  sends_step (event.Call q c) n =
      cond_both (is_some (runner_of m q)) _ _ (Sends (event.Call q c))
      (λ there. sends_settled (event.Call q c) q (called m q (row_of numbered m q c)) refl refl (keeps_call numbered m numbered_lists s q (q.least, n) there c) n) (λ _. sends_none (event.Call q c) q answer.Idle)
  sends_step (event.Tick q) n =
      cond_both (has_time m.timer q) _ _ (Sends (event.Tick q))
      (λ _.
      cond_both ((processor m q).locked || is_some (handler m q)) _ _ (Sends (event.Tick q)) (λ _. sends_none (event.Tick q) q answer.Held)
      (λ _. sends_settled (event.Tick q) q (tick numbered m q) refl refl (keeps_tick numbered numbered_lists m s q (q.least, n)) n))
      (λ _. sends_none (event.Tick q) q answer.Nothing)
  sends_step (event.Ipi q) n =
      cond_both (is_held m q) _ _ (Sends (event.Ipi q)) (λ _. sends_none (event.Ipi q) q answer.Held)
      (λ _. sends_settled (event.Ipi q) q (m, plain (if (processor m q).latch then answer.Taken else answer.Nothing)) refl refl (keeps_all m q (occupied_at m q (s.processors q (q.least, n)))) n)
