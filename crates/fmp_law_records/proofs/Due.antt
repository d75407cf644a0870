-- Which handlers are due on a processor after each step is what its record says.
use Rattle.std.proofs.Common.{◌≡◌, ◌≤◌, ◌==◌, Bool, false, ◌&&◌, List, [], ◌∷◌, ◌++◌, length, map, refl, sym, ap, ◌∙◌, subst, arith, None, ⊎_elim}
use Rattle.std.specs.Prelude.{drop, filter, if◌then◌else◌}
use Rattle.std.specs.List.{range_with_len}
use Rattle.std.proofs.lemmas.Bool.{cond-true, cond-false, eq-eqb, ne_eqb, cases_eq}
use Rattle.std.proofs.lemmas.List.{append_assoc}
use Rattle.fmp_codes.specs.Numbers.{as_object}
use Rattle.fmp_codes.specs.declared.numbers.Proc.{Proc}
use Rattle.fmp_codes.specs.declared.numbers.Task.{Task}
use Rattle.fmp_codes.specs.declared.numbers.Object.{Object}
use Rattle.fmp_codes.specs.declared.calls.Call.{Call}
use Rattle.fmp_codes.specs.declared.calls.Call.TheVariants as call
use Rattle.fmp_codes.specs.declared.records.Answer.TheVariants as answer
use Rattle.fmp_codes.specs.declared.records.Event.{Event}
use Rattle.fmp_codes.specs.declared.records.Event.TheVariants as event
use Rattle.fmp_codes.specs.declared.records.Record.{Record}
use Rattle.fmp_codes.specs.declared.records.Runner.TheVariants as runner
use Rattle.fmp_codes.proofs.Same.{processors_same}
use Rattle.fmp_setup.specs.Setup.{Setup, counts_for}
use Rattle.fmp_law_balance.proofs.Words.{clock_counts}
use Rattle.fmp_rules.specs.World.{World, item, with_item, rest, runner_of}
use Rattle.fmp_rules.specs.Objects.{alarm, cyclic}
use Rattle.fmp_rules.specs.Ordering.{Ordering}
use Rattle.fmp_rules.specs.Rows.{called, refused, plain}
use Rattle.fmp_rules.specs.Tick.{tick, ticked, counted_down, released, tasks_expired, with_handlers_due, alarms_due, expired}
use Rattle.fmp_rules.specs.SpinCalls.{ret_hdr}
use Rattle.fmp_rules.specs.Arrivals.{State, numbered}
use Rattle.fmp_rules.specs.Step.{row_of, step}
use Rattle.fmp_law_safety.specs.Safe.{CountsInRange}
use Rattle.fmp_law_safety.proofs.Items.{item_same, item_other}
use Rattle.fmp_law_safety.proofs.KeepsDue.{alarms_keep, cyclics_keep, released_keep}
use Rattle.fmp_law_balance.specs.Accepted.{is_accepted}
use Rattle.fmp_law_balance.proofs.Called.{by_called, not_accepted}
use Rattle.fmp_law_balance.proofs.Steps.{report}
use Rattle.fmp_law_balance.proofs.waits.Events.{by_event}
use Rattle.fmp_law_records.specs.Counts.Alarms.{is_last}
use Rattle.fmp_law_records.specs.Counts.Due.{by_number}
use Rattle.fmp_law_records.proofs.counts.HandlersRuns.{Clocked}
use Rattle.fmp_law_records.proofs.counts.HandlersTick.{same_passed, due_at_tick}
use Rattle.fmp_law_records.specs.Due.{HandlersReported, is_at_end, made_due, due_after}
use Rattle.fmp_law_records.proofs.Leaving.{is_return, call_leaves_due}

-- Calls.

rest_is : {X : Type 0} (xs : List X) → rest xs ≡ drop 1 xs
rest_is [] = refl
rest_is (x ∷ xs) = refl

module _ {Q : Type 0} (k : Ordering Q) (w : World Q) (p : Proc) where
  -- all but the return of a handler leave those that are due
  due_call : (c : Call) → is_return c ≡ false → (called w p (row_of k w p c)).0.due ≡ w.due
  due_call = call_leaves_due k w p

  -- a tick leaves those of other processors
  due_elsewhere : (q : Proc) → (q.number ≡ p.number → ⊥) → item [] (tick k w p).0.due q.number ≡ item [] w.due q.number
  unfolding counted_down ticked with_handlers_due
  due_elsewhere q d =
      let v : World Q = counted_down w p in
      let ts : List Task = tasks_expired v.waits_left (k.timed v.order v.waits_left) in
      let u : World Q = (released k v ts).0 in
      let S : World Q → Type 0 = λ x. item [] x.due q.number ≡ item [] w.due q.number in
      cyclics_keep p S (λ x c h. item_other [] x.due p.number _ q.number q.least p.least d ∙ h) (alarms_due u p (expired u.alarms_left u.alarms)) (expired u.cyclics_left u.cyclics)
      (alarms_keep p S (λ x a h. item_other [] x.due p.number _ q.number q.least p.least d ∙ h) u (expired u.alarms_left u.alarms) (released_keep p S k (λ x t h. h) v ts refl))

-- what is told of the alarms and of the cyclic handlers is so
pub record AreTimed (c : Setup) (m : State) (x : HandlersReported) : Type 0 where
  pub alarms : (a : Object) → a.number ≤ length c.alarms → (item None m.alarms_left a.number ≡ (x.alarms a).left) × ((alarm m a).assigned ≡ (x.alarms a).at)
  pub cyclics : (o : Object) → o.number ≤ length c.cyclics → (item None m.cyclics_left o.number ≡ (x.cyclics o).left) × ((cyclic m o).assigned ≡ (x.cyclics o).at)

-- as many objects pass one of two tests that agree on them
same_numbers : {X Y : Type 0} (xs : List X) (ys : List Y) (test other : Object → Bool) → length xs ≡ length ys → ((o : Object) → o.number ≤ length ys → test o ≡ other o) → by_number xs test ≡ by_number ys other
same_numbers xs ys test other count same =
    ap (λ n. filter test (map as_object (range_with_len 1 n))) count ∙ same_passed test other (length ys) 1 (length ys) (omega arith) (omega arith) same

module _ (c : Setup) (m : State) (x : HandlersReported) (q : Proc) (here : q.number ≤ c.processors) (range : CountsInRange m) (timer : m.timer ≡ c.timer) (count : Clocked c m) (timed : AreTimed c m x) (old : item [] m.due q.number ≡ x.due) where
  abbrev pub DueReported : State → Record → Type 0
  DueReported v r = item [] v.due q.number ≡ due_after c q r x

  -- those that a tick makes due are told
  made_reported : item [] (tick numbered m q).0.due q.number ≡ x.due ++ made_due c q x
  made_reported =
      let alarms : by_number m.alarms (λ a. counts_for m.timer q (alarm m a).assigned && is_last (item None m.alarms_left a.number)) ≡ by_number c.alarms (λ a. is_at_end c.timer q (x.alarms a)) =
      same_numbers m.alarms c.alarms _ _ count.alarms (λ a there. rw (timer, (timed.alarms a there).1, (timed.alarms a there).0) (ap (λ b. b && is_last (x.alarms a).left) (sym (clock_counts c.timer q (x.alarms a).at)))) in
      let cyclics : by_number m.cyclics (λ o. counts_for m.timer q (cyclic m o).assigned && is_last (item None m.cyclics_left o.number)) ≡ by_number c.cyclics (λ o. is_at_end c.timer q (x.cyclics o)) =
      same_numbers m.cyclics c.cyclics _ _ count.cyclics (λ o there. rw (timer, (timed.cyclics o there).1, (timed.cyclics o there).0) (ap (λ b. b && is_last (x.cyclics o).left) (sym (clock_counts c.timer q (x.cyclics o).at)))) in
      due_at_tick numbered m q (rw count.due here) (count.alarms_left ∙ sym count.alarms) (count.cyclics_left ∙ sym count.cyclics) range.alarms range.cyclics
      ∙ rw (old, alarms, cyclics) (append_assoc x.due (map runner.Alarm (by_number c.alarms (λ a. is_at_end c.timer q (x.alarms a)))) (map runner.Cyclic (by_number c.cyclics (λ o. is_at_end c.timer q (x.cyclics o)))))

  tick_reported : (p : Proc) → DueReported (tick numbered m p).0 (report (event.Tick p) (runner_of m p) (tick numbered m p).1)
  unfolding ticked
  tick_reported p =
      ⊎_elim
      (λ (e : p.number ≡ q.number).
      subst (λ (y : Proc). item [] (tick numbered m y).0.due q.number ≡ (if p.number == q.number then x.due ++ made_due c q x else x.due)) (sym (processors_same p q e))
      (made_reported ∙ sym (cond-true (p.number == q.number) _ x.due (eq-eqb p.number q.number e))))
      (λ (d : p.number ≡ q.number → ⊥). due_elsewhere numbered m p q (λ e. d (sym e)) ∙ old ∙ sym (cond-false (p.number == q.number) (x.due ++ made_due c q x) x.due (ne_eqb p.number q.number d))) (cases_eq p.number q.number)

  return_reported : (p : Proc) → DueReported (called m p (ret_hdr m p)).0 (report (event.Call p call.RetHdr) (runner_of m p) (called m p (ret_hdr m p)).1)
  unfolding ret_hdr
  return_reported p =
      by_called m p (λ did. DueReported did.0 (report (event.Call p call.RetHdr) (runner_of m p) did.1)) (ret_hdr m p) tt
      (λ y e. old ∙ sym (cond-false (is_accepted (refused y).answer && (p.number == q.number)) (drop 1 x.due) x.due (ap (λ b. b && (p.number == q.number)) (not_accepted y e))))
      (λ a.
      ⊎_elim
      (λ (e : q.number ≡ p.number). rw (eq-eqb p.number q.number (sym e))
      (subst (λ (y : Proc). item [] (with_item m.due y.number (rest (item [] m.due y.number))) q.number ≡ drop 1 x.due) (processors_same q p e) (item_same [] m.due q.number _ q.least (rw count.due here) ∙ ap rest old ∙ rest_is x.due)))
      (λ (d : q.number ≡ p.number → ⊥). rw (ne_eqb p.number q.number (λ e. d (sym e))) (item_other [] m.due p.number _ q.number q.least p.least d ∙ old)) (cases_eq q.number p.number))

  call_reported : (p : Proc) (c : Call) → DueReported (called m p (row_of numbered m p c)).0 (report (event.Call p c) (runner_of m p) (called m p (row_of numbered m p c)).1)
  call_reported p call.RetHdr = return_reported p
  call_reported p c = ap (λ ds. item [] ds q.number) (due_call numbered m p c refl) ∙ old

  idle_reported : (p : Proc) (c : Call) → DueReported m (report (event.Call p c) (runner_of m p) (plain answer.Idle))
  idle_reported p call.RetHdr = old
  idle_reported p c = old

  pub due_step : (e : Event) → DueReported (step numbered m e).0 (step numbered m e).1
  due_step e = by_event numbered m DueReported (λ v cs r y ps h. h) call_reported idle_reported tick_reported (λ p. old) (λ p. old) (λ p a none. old) e
