-- What an event may do to a state of these counts, and tell.
use Rattle.std.proofs.Common.{◌≡◌, ℕ, ℤ, ◌-◌, ◌≤◌, ◌^◌, Bool, true, [], length, refl, subst, lit≤, Option, Some, None}
use Rattle.std.specs.Prelude.{All, is_some}
use Rattle.std.proofs.lemmas.Bool.{cond_both}
use Rattle.std.proofs.lemmas.List.{length-set}
use Rattle.std.proofs.lemmas.List.Elements.{All-nil, All-cons}
use Rattle.std.proofs.lemmas.Option.{none-some, same_Some}
use Rattle.fmp_codes.specs.Records.{IsWithin, ValueFits, AnswerFits}
use Rattle.fmp_codes.specs.declared.numbers.Proc.{Proc}
use Rattle.fmp_codes.specs.declared.numbers.Task.{Task}
use Rattle.fmp_codes.specs.declared.numbers.Object.{Object}
use Rattle.fmp_codes.specs.declared.codes.Code.{Code}
use Rattle.fmp_codes.specs.declared.codes.Code.TheVariants as code
use Rattle.fmp_codes.specs.declared.records.Answer.{Answer}
use Rattle.fmp_codes.specs.declared.records.Answer.TheVariants as answer
use Rattle.fmp_rules.specs.Effects.{Effect}
use Rattle.fmp_rules.specs.declared.machine.Processor.{Processor}
use Rattle.fmp_rules.specs.declared.machine.TaskRecord.{TaskRecord}
use Rattle.fmp_rules.specs.declared.machine.Wait.{Wait}
use Rattle.fmp_rules.specs.declared.machine.Wait.TheVariants as wait
use Rattle.fmp_rules.specs.declared.machine.QueueKind.{QueueKind}
use Rattle.fmp_rules.specs.World.{World, with_item, no_task, first, task, with_processor}
use Rattle.fmp_rules.specs.Ordering.{Ordering, waits_in, queue}
use Rattle.fmp_rules.specs.Tasks.{make_ready}
use Rattle.fmp_rules.specs.Arguments.{caller, is_zero, ticks_of}
use Rattle.fmp_rules.specs.Rows.{plain, done, with_value, release, wait_for, done_or_wait}
use Rattle.fmp_law_safety.specs.Counts.{Counts, IsReleaseOf, HasCounts}
use Rattle.fmp_law_safety.proofs.Counted.{OffersFit, counts_task, counts_processor}
use Rattle.fmp_law_safety.proofs.Listed.{not_past}
use Rattle.fmp_law_safety.proofs.Queues.{Lists, first_waits}

-- It leaves the counts, and tells only of what there is.
pub record Tells {Q : Type 0} (n : Counts) (did : World Q × Effect) : Type 0 where
  pub counts : HasCounts n did.0
  pub answer : AnswerFits did.1.answer
  pub releases : All (IsReleaseOf n) did.1.releases
  pub few : length did.1.releases ≤ 64
  pub lost : ValueFits did.1.lost

-- an answer and nothing else
pub tells_plain : {Q : Type 0} (n : Counts) (w : World Q) (a : Answer) → HasCounts n w → AnswerFits a → Tells n (w, plain a)
tells_plain n w a h fits = record { counts = h; answer = fits; releases = All-nil (IsReleaseOf n); few = lit≤ tt; lost = tt }

-- what a task offers that waits for this is a value of 64 bits
abbrev pub WaitFits : Wait → Type 0
WaitFits (wait.Send d value) = IsWithin (2 ^ 63) value
WaitFits other = Unit {0}

module _ {Q : Type 0} (n : Counts) (w : World Q) (h : HasCounts n w) where
  pub tells_value : (v : ℤ) → IsWithin (2 ^ 63) v → Tells n (w, with_value v)
  tells_value v within = tells_plain n w (answer.Done code.Accepted (Some v)) h within

  -- the processor's flags change
  pub tells_flags : (p : Proc) (f : Processor) → Tells n (with_processor w p f, done)
  tells_flags p f = tells_plain n (with_processor w p f) (answer.Done code.Accepted None) (counts_processor n w h p.number f w.holders w.due h.due) tt

  -- One task changes: its fields, its place, or its wait.

  -- it waits as before, or no longer
  pub as_before : (t : Task) → OffersFit (task w t)
  as_before t = h.in_bits.offers t

  pub tells_task : (t : Task) (r : TaskRecord) (x : Q) (a : Answer) → OffersFit r → AnswerFits a → Tells n (record w { tasks = with_item w.tasks t.number r; order = x }, plain a)
  tells_task t r x a offers fits = tells_plain n (record w { tasks = with_item w.tasks t.number r; order = x }) a (counts_task n w h t r w.waits_left x refl offers) fits

  pub counts_left : (t : Task) (r : TaskRecord) (left : Option ℕ) (x : Q) → OffersFit r →
      HasCounts n (record w { tasks = with_item w.tasks t.number r; waits_left = with_item w.waits_left t.number left; order = x })
  counts_left t r left x offers = counts_task n w h t r (with_item w.waits_left t.number left) x (length-set w.waits_left (t.number - 1) left) offers

  pub waits_no_more : (t : Task) → OffersFit (record (task w t) { wait = None })
  waits_no_more t d v e = absurd (none-some _ e)

  pub waits_now : (t : Task) (x : Wait) → WaitFits x → OffersFit (record (task w t) { wait = Some x })
  waits_now t x fits d v e = subst WaitFits (same_Some x (wait.Send d v) e) fits

  -- who waits is one of the tasks
  pub waiting_number : (t : Task) → is_some (task w t).wait ≡ true → t.number ≤ n.tasks
  waiting_number t e = rw (← h.tasks) (not_past (λ (r : TaskRecord). is_some r.wait) no_task w.tasks t.number t.least refl e)

  pub queued_number : (x : QueueKind) (o : Object) (t : Task) → waits_in x o (task w t).wait ≡ true → t.number ≤ n.tasks
  queued_number x o t e = rw (← h.tasks) (not_past (λ (r : TaskRecord). waits_in x o r.wait) no_task w.tasks t.number t.least refl e)

  module _ (k : Ordering Q) where
    pub counts_ready : (t : Task) → HasCounts n (make_ready k w t)
    counts_ready t = counts_left t _ None _ (waits_no_more t)

    pub tells_release : (t : Task) (c : Code) (v : Option ℤ) → t.number ≤ n.tasks → ValueFits v → Tells n (release k w t c v)
    tells_release t c v number fits = record {
      counts = counts_ready t;
      answer = tt;
      releases = All-cons (IsReleaseOf n) _ [] (number, fits) (All-nil (IsReleaseOf n));
      few = lit≤ tt;
      lost = tt;
    }

    -- the first of a queue is released
    pub tells_first : Lists k w → (x : QueueKind) (o : Object) (t : Task) (c : Code) (v : Option ℤ) → first (queue k w x o) ≡ Some t → ValueFits v → Tells n (release k w t c v)
    tells_first l x o t c v e fits = tells_release t c v (queued_number x o t (first_waits k w l x o t e)) fits

    pub tells_wait_for : (t : Task) (x : Wait) (timeout : ℤ) → WaitFits x → Tells n (wait_for k w t x timeout)
    tells_wait_for t x timeout fits =
        cond_both (is_zero timeout) _ _ (Tells n) (λ _. tells_plain n w (answer.Done code.TimedOut None) h tt)
        (λ _. tells_plain n _ answer.Wait (counts_left t _ (ticks_of timeout) _ (waits_now t x fits)) tt)

    pub tells_done_or_wait : (p : Proc) (can : Bool) (effect : World Q × Effect) (x : Wait) (timeout : ℤ) → (can ≡ true → Tells n effect) → WaitFits x → Tells n (done_or_wait k w p can effect x timeout)
    tells_done_or_wait p can effect x timeout at_once fits =
        cond_both can effect (wait_for k w (caller w p) x timeout) (Tells n) at_once (λ _. tells_wait_for (caller w p) x timeout fits)
