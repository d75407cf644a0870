-- Records that the laws accept: of releases by a signal, by force and by a tick.
use Rattle.std.proofs.Common.{◌≡◌, ◌≢◌, ◌==◌, ℕ, pos, inl, inr, Bool, true, false, ◌||◌, [], ◌∷◌, refl, sym, ap, ◌∙◌, subst, arith, Option, Some, None}
use Rattle.std.specs.Prelude.{if◌then◌else◌, option_map, All}
use Rattle.std.specs.Option.{option_or}
use Rattle.std.proofs.lemmas.Bool.{false≢true}
use Rattle.std.proofs.lemmas.List.Elements.{All-nil, All-cons}
use Rattle.std.proofs.lemmas.Option.{none-some, same_Some}
use Rattle.fmp_codes.specs.Numbers.{as_proc, as_task, as_object}
use Rattle.fmp_codes.specs.declared.numbers.Task.{Task}
use Rattle.fmp_codes.specs.declared.calls.Call.{Call}
use Rattle.fmp_codes.specs.declared.calls.Call.TheVariants as call
use Rattle.fmp_codes.specs.declared.calls.TaskCall.TheVariants as task
use Rattle.fmp_codes.specs.declared.calls.SyncCall.TheVariants as sync
use Rattle.fmp_codes.specs.declared.codes.Code.TheVariants as code
use Rattle.fmp_codes.specs.declared.records.Answer.TheVariants as answer
use Rattle.fmp_codes.specs.declared.records.Release.{Release}
use Rattle.fmp_codes.specs.declared.records.Record.{Record}
use Rattle.fmp_rules.specs.declared.machine.Wait.TheVariants as wait
use Rattle.fmp_law_balance.specs.Waits.Asked.{OpenWait, asked}
use Rattle.fmp_law_balance.specs.Waits.Waits.{OpenWaits, nobody_waits, after_record, after_records, lasts}
use Rattle.fmp_law_balance.specs.Waits.Releases.{IsServed, IsBrokenOff, IsOver, NoneTwice, EndsOpenWait, NoneOverdue, ReleasesCalled, ReleasesFit, EachReleaseFits}
use Rattle.fmp_law_balance.proofs.waits.Named.{eqb_sym}
use Rattle.fmp_law_balance.proofs.waits.Refused.{setup, of_task_1, waiting, releasing, waits_for_semaphore, signals_semaphore, waits_a_tick, tick_on, times_out_on, with_left, sleeps, asleep}

-- nobody waits but perhaps task 1
abbrev Only : OpenWaits → Option OpenWait → Type 0
Only pending o = (t : Task) → pending t ≡ (if t.number == 1 then o else None)

-- a wait is not overdue
abbrev HasTime : Option OpenWait → Type 0
HasTime o = (y : OpenWait) → o ≡ Some y → y.left ≢ Some 0

in_time : (pending : OpenWaits) (o : Option OpenWait) → Only pending o → HasTime o → NoneOverdue pending
in_time pending o only fine t y there = go (t.number == 1) (sym (only t) ∙ there)
  where
    go : (b : Bool) → (if b then o else None) ≡ Some y → y.left ≢ Some 0
    go true e = fine y e
    go false e = absurd (none-some y e)

never : HasTime None
never y e = absurd (none-some y e)

-- What the records do to the wait of task 1.

only_waits : (pending : OpenWaits) (c : Call) (o : OpenWait) → Only pending None → asked (as_proc 1) c ≡ Some o → Only (after_record setup pending (waiting c)) (Some o)
only_waits pending c o only is t =
    let before : pending t ≡ None = only t ∙ same (t.number == 1) in
    ap (λ x. option_or (if t.number == 1 then asked (as_proc 1) c else None) (option_map (lasts setup t (waiting c)) x)) before
    ∙ ap (λ x. option_or (if◌then◌else◌ {A = Option OpenWait} (t.number == 1) x None) None) is ∙ go (t.number == 1)
  where
    same : (b : Bool) → if◌then◌else◌ {A = Option OpenWait} b None None ≡ None
    same true = refl
    same false = refl

    go : (b : Bool) → option_or (if b then Some o else None) None ≡ (if b then Some o else None)
    go true = refl
    go false = refl

only_ticks : (pending : OpenWaits) (p : ℕ) (o : Option OpenWait) → Only pending o → Only (after_record setup pending (tick_on p)) (option_map (lasts setup (as_task 1) (tick_on p)) o)
only_ticks pending p o only t = ap (option_map (lasts setup (as_task 1) (tick_on p))) (only t) ∙ go (t.number == 1)
  where
    go : (b : Bool) → option_map (lasts setup (as_task 1) (tick_on p)) (if b then o else None) ≡ (if b then option_map (lasts setup (as_task 1) (tick_on p)) o else None)
    go true = refl
    go false = refl

-- where the wait of task 1 is over nobody waits, whatever else becomes of the waits
none_left : (o : Option OpenWait) (f : OpenWait → OpenWait) (b : Bool) → (if (b || false) || false then None else option_map f (if b then o else None)) ≡ (if b then None else None)
none_left o f true = refl
none_left o f false = refl

only_released : (pending : OpenWaits) (o : Option OpenWait) (f : OpenWait → OpenWait) → Only pending o → (t : Task) →
    (if ((1 == t.number) || false) || false then None else option_map f (pending t)) ≡ (if t.number == 1 then None else None)
only_released pending o f only t =
    ap (λ b. if (b || false) || false then None else option_map f (pending t)) (eqb_sym 1 t.number)
    ∙ ap (λ x. if ((t.number == 1) || false) || false then None else option_map f x) (only t) ∙ none_left o f (t.number == 1)

-- no release, and no wait overdue
nothing_released : (pending : OpenWaits) (r : Record) (o : Option OpenWait) → r.releases ≡ [] → ReleasesCalled pending r → Only (after_record setup pending r) o → HasTime o → ReleasesFit setup pending r
nothing_released pending r o none called only fine = record {
  fit = subst (All (EndsOpenWait setup pending r)) (sym none) (All-nil (EndsOpenWait setup pending r));
  once = subst NoneTwice (sym none) tt;
  called = called;
  in_time = in_time (after_record setup pending r) o only fine;
}

-- one right release of task 1, after which nobody waits
one_released : (pending : OpenWaits) (r : Record) (x : Release) → r.releases ≡ x ∷ [] → EndsOpenWait setup pending r x → ReleasesCalled pending r → Only (after_record setup pending r) None → ReleasesFit setup pending r
one_released pending r x one fits called only = record {
  fit = subst (All (EndsOpenWait setup pending r)) (sym one) (All-cons (EndsOpenWait setup pending r) x [] fits (All-nil (EndsOpenWait setup pending r)));
  once = subst NoneTwice (sym one) (refl, tt);
  called = called;
  in_time = in_time (after_record setup pending r) None only never;
}

-- task 1 waits for semaphore 1, which is signalled; waits for it again, for two ticks, and times out at the second; and sleeps until its wait is ended by force

abbrev for_ever : OpenWait
for_ever = record { wait = wait.Semaphore (as_object 1); left = None; assigned = as_proc 1 }

abbrev broken_off : Record
broken_off = releasing (call.Task (task.RelWai (pos 1))) code.WaitReleased None

abbrev signalled : OpenWaits
signalled = after_records setup nobody_waits (waits_for_semaphore ∷ signals_semaphore 1 ∷ [])

abbrev timed_out : OpenWaits
timed_out = after_records setup signalled (waits_a_tick ∷ tick_on 1 ∷ times_out_on 1 ∷ [])

-- there are ticks left, or there is no timeout
has_time : (o : OpenWait) → (o.left ≢ Some 0) → HasTime (Some o)
has_time o fine y e = subst (λ (z : OpenWait). z.left ≢ Some 0) (same_Some o y e) fine

nobody : Only nobody_waits None
nobody t = go (t.number == 1)
  where
    go : (b : Bool) → None ≡ if◌then◌else◌ {A = Option OpenWait} b None None
    go true = refl
    go false = refl

waits_now : Only (after_record setup nobody_waits waits_for_semaphore) (Some for_ever)
waits_now = only_waits nobody_waits (call.Sync (sync.WaiSem (pos 1))) for_ever nobody refl

only_signalled : Only signalled None
only_signalled t = only_released (after_record setup nobody_waits waits_for_semaphore) (Some for_ever) (lasts setup t (signals_semaphore 1)) waits_now t

waits_timed : Only (after_record setup signalled waits_a_tick) (Some (with_left 2))
waits_timed = only_waits signalled (call.Sync (sync.TwaiSem (pos 1) (pos 1))) (with_left 2) only_signalled refl

waits_last : Only (after_records setup signalled (waits_a_tick ∷ tick_on 1 ∷ [])) (Some (with_left 1))
waits_last = only_ticks (after_record setup signalled waits_a_tick) 1 (Some (with_left 2)) waits_timed

only_timed_out : Only timed_out None
only_timed_out t = only_released (after_records setup signalled (waits_a_tick ∷ tick_on 1 ∷ [])) (Some (with_left 1)) (lasts setup t (times_out_on 1)) waits_last t

waits_asleep : Only (after_record setup timed_out sleeps) (Some asleep)
waits_asleep = only_waits timed_out (call.Task task.SlpTsk) asleep only_timed_out refl

only_broken_off : Only (after_records setup timed_out (sleeps ∷ broken_off ∷ [])) None
only_broken_off t = only_released (after_record setup timed_out sleeps) (Some asleep) (lasts setup t broken_off) waits_asleep t

right_releases : EachReleaseFits setup nobody_waits (waits_for_semaphore ∷ signals_semaphore 1 ∷ waits_a_tick ∷ tick_on 1 ∷ times_out_on 1 ∷ sleeps ∷ broken_off ∷ [])
right_releases =
    let served : IsServed for_ever (signals_semaphore 1).event (signals_semaphore 1).answer (of_task_1 code.Accepted None) = record { accepted = refl; code = refl; given = (refl, refl) } in
    let over : IsOver setup (with_left 1) (times_out_on 1).event answer.Taken (of_task_1 code.TimedOut None) = record { counts = refl; last = refl; code = refl; value = refl } in
    let broken : IsBrokenOff asleep broken_off.event broken_off.answer (of_task_1 code.WaitReleased None) = record { accepted = refl; called = refl; code = refl; value = refl } in
    let waits_first : OpenWaits = after_record setup nobody_waits waits_for_semaphore in
    let waits_twice : OpenWaits = after_record setup signalled waits_a_tick in
    let waits_once : OpenWaits = after_record setup waits_twice (tick_on 1) in (
      nothing_released nobody_waits waits_for_semaphore (Some for_ever) refl (λ t o is accepted must. absurd (false≢true must)) waits_now (has_time for_ever (λ e. none-some 0 e)),
      (
        one_released waits_first (signals_semaphore 1) (of_task_1 code.Accepted None) refl (for_ever, refl, inl served) (λ t o is accepted must. absurd (false≢true must)) only_signalled,
        (
          nothing_released signalled waits_a_tick (Some (with_left 2)) refl (λ t o is accepted must. absurd (false≢true must)) waits_timed (has_time (with_left 2) (λ e. let zero = same_Some 2 0 e in absurd (omega (arith, zero)))),
          (
            nothing_released waits_twice (tick_on 1) (Some (with_left 1)) refl (λ t o is accepted must. absurd (false≢true must)) waits_last (has_time (with_left 1) (λ e. let zero = same_Some 1 0 e in absurd (omega (arith, zero)))),
            (
              one_released waits_once (times_out_on 1) (of_task_1 code.TimedOut None) refl (with_left 1, refl, inr (inr over)) (λ t o is accepted must. absurd (false≢true must)) only_timed_out,
              (
                nothing_released timed_out sleeps (Some asleep) refl (λ t o is accepted must. absurd (false≢true must)) waits_asleep (has_time asleep (λ e. none-some 0 e)),
                (one_released (after_record setup timed_out sleeps) broken_off (of_task_1 code.WaitReleased None) refl (asleep, refl, inr (inl broken)) (λ t o is accepted must. must) only_broken_off, tt),
              ),
            ),
          ),
        ),
      ),
    )
