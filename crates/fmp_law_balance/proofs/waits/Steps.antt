-- What the record of a step tells follows from the step, and so along a run.
use Rattle.std.proofs.Common.{◌≡◌, ℕ, zero, suc, false, ◌&&◌, List, [], ◌∷◌, refl, sym, ap, ◌∙◌, subst, arith, Option, None, Some}
use Rattle.std.specs.Prelude.{take, if◌then◌else◌, option_map}
use Rattle.std.specs.Option.{option_or}
use Rattle.std.proofs.lemmas.Bool.{cond-false, and_right, false≢true}
use Rattle.fmp_codes.specs.declared.numbers.Proc.{Proc}
use Rattle.fmp_codes.specs.declared.numbers.Task.{Task}
use Rattle.fmp_codes.specs.declared.calls.Call.{Call}
use Rattle.fmp_codes.specs.declared.calls.Call.TheVariants as call
use Rattle.fmp_codes.specs.declared.records.Answer.{Answer}
use Rattle.fmp_codes.specs.declared.records.Answer.TheVariants as answer
use Rattle.fmp_codes.specs.declared.records.Event.{Event}
use Rattle.fmp_codes.specs.declared.records.Event.TheVariants as event
use Rattle.fmp_codes.specs.declared.records.Runner.{Runner}
use Rattle.fmp_rules.specs.World.{World, runner_of}
use Rattle.fmp_rules.specs.Ordering.{Ordering}
use Rattle.fmp_rules.specs.Rows.{called, plain}
use Rattle.fmp_rules.specs.Step.{row_of, step, replay, answers}
use Rattle.fmp_law_safety.specs.Safe.{Safe}
use Rattle.fmp_law_safety.proofs.Queues.{Lists}
use Rattle.fmp_law_balance.specs.Accepted.{is_accepted}
use Rattle.fmp_law_balance.specs.Queues.{is_call_of}
use Rattle.fmp_law_balance.proofs.Shapes.{few_step}
use Rattle.fmp_law_balance.proofs.Steps.{report as record_of}
use Rattle.fmp_setup.specs.Setup.{Setup}
use Rattle.fmp_codes.specs.declared.records.Record.{Record}
use Rattle.fmp_codes.specs.Records.{is_call}
use Rattle.fmp_rules.specs.World.{item}
use Rattle.fmp_law_safety.specs.Safe.{TicksInRange}
use Rattle.fmp_law_balance.specs.Waits.Asked.{asked_by}
use Rattle.fmp_law_balance.specs.Waits.Waits.{OpenWaits, terminates, migrates, assigned_by, is_tick_for, is_waiting, lasts, after_record, after_records}
use Rattle.fmp_law_balance.specs.Waits.Releases.{NoneOverdue, EachReleaseFits}
use Rattle.fmp_law_balance.specs.Waits.Laws.{IsReported, left_of}
use Rattle.fmp_law_balance.proofs.waits.Words.{SameCounts, IsKept}
use Rattle.fmp_law_balance.proofs.waits.Follows.{Sound, Follows, CallFollows, lasts_same, stays}
use Rattle.fmp_law_balance.proofs.waits.TaskCalls.{follows_task}
use Rattle.fmp_law_balance.proofs.waits.SyncCalls.{follows_sync}
use Rattle.fmp_law_balance.proofs.waits.BufferCalls.{follows_buffer}
use Rattle.fmp_law_balance.proofs.waits.OtherCalls.{follows_time, follows_system, follows_spin, follows_ret}
use Rattle.fmp_law_balance.proofs.waits.Events.{by_event}
use Rattle.fmp_law_balance.proofs.waits.Woken.{releases_called}
use Rattle.fmp_law_balance.proofs.waits.Ticks.{TimedOnce, follows_tick}

no_call_of : (t : Task) (r : Option Runner) (e : Event) → is_call e ≡ false → is_call_of t r e ≡ false
no_call_of t r (event.Call p c) no_call = absurd (false≢true (sym no_call))
no_call_of t r (event.Tick p) no_call = refl
no_call_of t r (event.Ipi p) no_call = refl

-- where what a wait has left is in range and is told, no wait is overdue
none_overdue : {Q : Type 0} (config : Setup) (k : Ordering Q) (w : World Q) → Safe k w → (pending : OpenWaits) → ((t : Task) → IsKept config w t (pending t)) → NoneOverdue pending
none_overdue config k w s pending report t o is over =
    let left : item None w.waits_left t.number ≡ Some 0 = (report t).0.left ∙ ap left_of is ∙ over in
    let range = subst TicksInRange left (s.counts.waits t) in
    let least = range.0 in
    absurd (omega (arith, least))

module _ {Q : Type 0} (config : Setup) (k : Ordering Q) (once : TimedOnce k) (lists : (v : World Q) → Lists k v) where
  module _ (w : World Q) (s : Safe k w) (sound : Sound config w) (pending : OpenWaits) (report : (t : Task) → IsKept config w t (pending t)) where
    follows_call : (p : Proc) (c : Call) → CallFollows config k w pending report p c (called w p (row_of k w p c))
    follows_call p (call.Task c) = follows_task config k w s sound pending report p c
    follows_call p (call.Sync c) = follows_sync config k w (lists w) s sound pending report p c
    follows_call p (call.Buffer c) = follows_buffer config k w (lists w) s sound pending report p c
    follows_call p (call.Time c) = follows_time config k w pending report p c
    follows_call p (call.System c) = follows_system config k w pending report p c
    follows_call p (call.Spin c) = follows_spin config k w pending report p c
    follows_call p call.RetHdr = follows_ret config k w pending report p

    -- an event that is no call and of which no tick is taken
    nothing_follows : (e : Event) (q : Proc) (a : Answer) → is_call e ≡ false → is_accepted a ≡ false → ((r : Proc) → is_tick_for config.timer r a e ≡ false) →
        Follows config w pending w (record_of e (runner_of w q) (plain a))
    nothing_follows e q a no_call no_e no_tick =
        let r : Record = record_of e (runner_of w q) (plain a) in
        stays config w pending w r refl
        (λ t.
        cond-false (is_accepted a && terminates t e) None (option_or (if is_waiting a && is_call_of t r.runner e then asked_by e else None) (option_map (lasts config t r) (pending t)))
        (ap (λ b. b && terminates t e) no_e)
        ∙ ap (λ o. option_or o (option_map (lasts config t r) (pending t)))
        (cond-false (is_waiting a && is_call_of t r.runner e) (asked_by e) None (and_right (is_waiting a) (is_call_of t r.runner e) (no_call_of t r.runner e no_call)))
        ∙ lasts_same config t r no_tick (λ x. cond-false (is_accepted a) (assigned_by config t (migrates t e) x) x no_e) (pending t))
        report (refl, refl, refl, refl)

    pub follows_step : (e : Event) → Follows config w pending (step k w e).0 (step k w e).1
    follows_step e =
        by_event k w (λ v r. Follows config w pending v r) (λ v cs r x ps h. record { report = h.report; fits = h.fits; once = h.once; counts = h.counts }) follows_call
        (λ p c.
        let r : Record = record_of (event.Call p c) (runner_of w p) (plain answer.Idle) in
        stays config w pending w r refl (λ t. lasts_same config t r (λ q. refl) (λ q. refl) (pending t)) report (refl, refl, refl, refl))
        (λ p. follows_tick config k once w s sound pending report p) (λ p. nothing_follows (event.Tick p) p answer.Held refl refl (λ r. refl))
        (λ p. nothing_follows (event.Tick p) p answer.Nothing refl refl (λ r. refl)) (λ p a no_e. nothing_follows (event.Ipi p) p a refl no_e (λ r. refl)) e

    pub sound_step : (e : Event) → Sound config (step k w e).0
    sound_step e =
        let counts : SameCounts w (step k w e).0 = (follows_step e).counts in
        record {
          few = few_step k w e sound.few;
          few_eventflags = rw counts.2 sound.few_eventflags;
          few_tasks = rw counts.0 sound.few_tasks;
          waits_left = counts.1 ∙ sound.waits_left ∙ sym counts.0;
          timer = counts.3 ∙ sound.timer;
        }

  abbrev pub IsSafeLater : World Q → List Event → Type 0
  IsSafeLater w es = (n : ℕ) → Safe k (replay k w (take n es))

  pub report_run : (w : World Q) → Sound config w → (pending : OpenWaits) → ((t : Task) → IsKept config w t (pending t)) → (es : List Event) → IsSafeLater w es →
      (n : ℕ) (t : Task) → IsReported (replay k w (take n es)) t (after_records config pending (take n (answers k w es)) t)
  report_run w sound pending report es safe zero t = (report t).0
  report_run w sound pending report [] safe (suc n) t = (report t).0
  report_run w sound pending report (e ∷ es) safe (suc n) t =
      report_run (step k w e).0 (sound_step w (safe 0) sound pending report e) (after_record config pending (step k w e).1) (follows_step w (safe 0) sound pending report e).report es (λ m. safe (suc m)) n t

  pub fit_run : (w : World Q) → Sound config w → (pending : OpenWaits) → ((t : Task) → IsKept config w t (pending t)) → (es : List Event) → IsSafeLater w es → EachReleaseFits config pending (answers k w es)
  fit_run w sound pending report [] safe = tt
  fit_run w sound pending report (e ∷ es) safe =
      let v : World Q = (step k w e).0 in
      let later : OpenWaits = after_record config pending (step k w e).1 in
      let f = follows_step w (safe 0) sound pending report e in
      (record { fit = f.fits; once = f.once; called = releases_called config k w (safe 0) sound pending report e; in_time = none_overdue config k v (safe (suc zero)) later f.report }, fit_run v (sound_step w (safe 0) sound pending report e) later f.report es (λ m. safe (suc m)))
