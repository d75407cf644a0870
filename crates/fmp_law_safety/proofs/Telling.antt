-- The record of a step names only what there is.
use Rattle.std.proofs.Common.{◌≡◌, ℕ, zero, suc, ◌+◌, ◌-◌, ◌<◌, ◌≤◌, Bool, true, ◌||◌, List, [], ◌∷◌, length, map, filter, refl, sym, ap, ◌∙◌, arith, lit≤, Option, Some, None, ⊎_elim}
use Rattle.std.specs.Prelude.{All, IfSome, is_some, option_map, if◌then◌else◌}
use Rattle.std.specs.List.{range_with_len}
use Rattle.std.specs.Option.{option_or}
use Rattle.std.proofs.lemmas.Bool.{cases_lt, cond_both, false≢true}
use Rattle.std.proofs.lemmas.List.{get_or_past}
use Rattle.std.proofs.lemmas.List.Elements.{All-nil, All-cons, All-tail}
use Rattle.fmp_codes.specs.Numbers.{as_proc, within}
use Rattle.fmp_codes.specs.Records.{processor_of, AreOn, AnswerFits, Ascend}
use Rattle.fmp_codes.specs.declared.numbers.Proc.{Proc}
use Rattle.fmp_codes.specs.declared.numbers.Task.{Task}
use Rattle.fmp_codes.specs.declared.records.Answer.{Answer}
use Rattle.fmp_codes.specs.declared.records.Answer.TheVariants as answer
use Rattle.fmp_codes.specs.declared.records.Event.{Event}
use Rattle.fmp_codes.specs.declared.records.Event.TheVariants as event
use Rattle.fmp_codes.specs.declared.records.Record.{Record}
use Rattle.fmp_codes.specs.declared.records.Runner.TheVariants as runner
use Rattle.fmp_calls.specs.Arguments.{EventInBits}
use Rattle.fmp_rules.specs.Effects.{Effect}
use Rattle.fmp_rules.specs.declared.machine.TaskRecord.{TaskRecord}
use Rattle.fmp_setup.specs.Setup.{Setup}
use Rattle.fmp_setup.specs.Valid.{IsValid}
use Rattle.fmp_setup.specs.Setup.{has_time}
use Rattle.fmp_rules.specs.World.{World, no_task, item, first, processor, handler, runner_of, is_held}
use Rattle.fmp_rules.specs.Ordering.{Ordering}
use Rattle.fmp_rules.specs.Arrivals.{State, numbered}
use Rattle.fmp_rules.specs.Rows.{called, plain}
use Rattle.fmp_rules.specs.Tick.{tick}
use Rattle.fmp_rules.specs.Step.{is_same, tops, is_requested, settle, changed_run, row_of, settled, before_event, unchanged, step, answers}
use Rattle.fmp_rules.specs.Boot.{booted}
use Rattle.fmp_law_safety.specs.Counts.{Counts, counts_of, IsRunnerOf, IsTaskOf, IsReleaseOf, HasCounts, NamesOnly}
use Rattle.fmp_law_safety.specs.Safe.{IsNumberOf, may_run_on, Safe}
use Rattle.fmp_law_safety.proofs.Items.{item_holds}
use Rattle.fmp_law_safety.proofs.Booted.{booted_safe}
use Rattle.fmp_law_safety.proofs.Counted.{counts_settle, counts_booted}
use Rattle.fmp_law_safety.proofs.Stepping.{numbered_tops, safe_step}
use Rattle.fmp_law_safety.proofs.Listed.{numbered_lists}
use Rattle.fmp_law_safety.proofs.Queues.{Lists}
use Rattle.fmp_law_safety.proofs.Tells.{Tells, tells_plain}
use Rattle.fmp_law_safety.proofs.TellsCalls.{tells_call}
use Rattle.fmp_law_safety.proofs.TellsTick.{tells_tick}

-- ---- requests

-- those of the processors from a on that pass a test ascend
passed_ascend : (test : Proc → Bool) (most least a m : ℕ) → most ≤ 8 → least < a → a + m ≤ most + 1 → Ascend most least (filter test (map as_proc (range_with_len a m)))
passed_ascend test most least a zero few above within_most = tt
passed_ascend test most least a (suc m) few above within_most =
    let number : within 8 a ≡ a = omega (arith, few, above, within_most) in
    cond_both (test (as_proc a)) (as_proc a ∷ filter test (map as_proc (range_with_len (a + 1) m))) (filter test (map as_proc (range_with_len (a + 1) m))) (Ascend most least)
    (λ _. (
      omega (arith, number, above),
      omega (arith, number, within_most),
      passed_ascend test most (within 8 a) (a + 1) m few (omega (arith, number)) (omega (arith, within_most)),
    ))
    (λ _. passed_ascend test most least (a + 1) m few (omega (arith, above)) (omega (arith, within_most)))

-- ---- who runs

-- a record past the last is no task that may run
is_there : (p : Proc) (rs : List TaskRecord) (n : ℕ) → 1 ≤ n → may_run_on p (item no_task rs n) ≡ true → n ≤ length rs
is_there p rs n least e =
    ⊎_elim (λ (h : n - 1 < length rs). omega (arith, h))
    (λ (h : length rs ≤ n - 1). let none : item no_task rs n ≡ no_task = get_or_past rs (n - 1) no_task h in absurd (false≢true (ap (may_run_on p) (sym none) ∙ e)))
    (cases_lt (n - 1) (length rs))

when_some : {X : Type 0} (P : X → Type 0) (o : Option X) → ((x : X) → o ≡ Some x → P x) → IfSome o P
when_some P None f = tt
when_some P (Some x) f = f x refl

either_one : {X : Type 0} (P : X → Type 0) (a b : Option X) → IfSome a P → IfSome b P → IfSome (option_or a b) P
either_one P None b f g = g
either_one P (Some x) b f g = f

as_runner : (n : Counts) (o : Option Task) → IfSome o (IsTaskOf n) → IfSome (option_map runner.Task o) (IsRunnerOf n)
as_runner n None f = f
as_runner n (Some t) f = f

first_holds : {X : Type 0} (P : X → Type 0) (xs : List X) → All P xs → IfSome (first xs) P
first_holds P [] all = tt
first_holds P (x ∷ xs) all = all 0 x (omega arith)

module _ {Q : Type 0} (k : Ordering Q) (n : Counts) (w : World Q) (h : HasCounts n w) (p : Proc) (on : p.number ≤ n.processors) (s : Safe k w) where
  runs_one : IfSome (processor w p).running (IsTaskOf n)
  runs_one =
      let there : IsNumberOf w.processors p.number = (p.least, rw h.processors on) in
      when_some (IsTaskOf n) (processor w p).running
      (λ t e. rw (← h.tasks) (is_there p w.tasks t.number t.least ((s.processors p there).runs t e)))

  called_by_one : IfSome (runner_of w p) (IsRunnerOf n)
  called_by_one =
      either_one (IsRunnerOf n) (handler w p) (option_map runner.Task (processor w p).running)
      (first_holds (IsRunnerOf n) (item [] w.due p.number) (item_holds (All (IsRunnerOf n)) [] w.due p.number (All-nil (IsRunnerOf n)) h.due))
      (as_runner n (processor w p).running runs_one)

changed_to : (n : Counts) (before after : Option Task) → IfSome after (IsTaskOf n) → IfSome (changed_run before after) (λ o. IfSome o (IsTaskOf n))
changed_to n before after f = cond_both (is_same before after) None (Some after) (λ (c : Option (Option Task)). IfSome c (λ o. IfSome o (IsTaskOf n))) (λ _. tt) (λ _. f)

-- ---- a step

module _ {Q : Type 0} (k : Ordering Q) (lists : (v : World Q) → Lists k v) (n : Counts) (w : World Q) (s : Safe k w) (h : HasCounts n w) where
  -- a state that has the counts, and a record that names nothing else, where the state is safe
  abbrev Report : World Q × Record → Type 0
  Report x = Safe k x.0 → HasCounts n x.0 × NamesOnly n x.1

  settled_reported : (e : Event) → (processor_of e).number ≤ n.processors → (did : World Q × Effect) → Tells n did → Report (settled k (before_event k w e (processor_of e)) did)
  unfolding settled before_event
  settled_reported e on did t safe =
      let q : Proc = processor_of e in
      let kept : HasCounts n (settle k (tops k w) did.0 q) = counts_settle k n (tops k w) did.0 q t.counts in
      let counted : 1 + length did.0.processors ≤ n.processors + 1 = let same = t.counts.processors in omega (arith, same) in (
        kept,
        record {
          processor = on;
          runner = called_by_one k n w h q on s;
          answer = t.answer;
          releases = t.releases;
          few = t.few;
          lost = t.lost;
          run_change = changed_to n (processor w q).running (processor (settle k (tops k w) did.0 q) q).running (runs_one k n (settle k (tops k w) did.0 q) kept q on safe);
          requests = passed_ascend (is_requested k (tops k w) did.0 q) n.processors 0 1 (length did.0.processors) h.few (omega arith) counted;
        },
      )

  unchanged_reported : (e : Event) → (processor_of e).number ≤ n.processors → (a : Answer) → AnswerFits a → Report (unchanged w e (processor_of e) a)
  unfolding unchanged
  unchanged_reported e on a fits safe = (
    h,
    record {
      processor = on;
      runner = called_by_one k n w h (processor_of e) on s;
      answer = fits;
      releases = All-nil (IsReleaseOf n);
      few = lit≤ tt;
      lost = tt;
      run_change = tt;
      requests = tt;
    },
  )

  step_recorded : (e : Event) → (processor_of e).number ≤ n.processors → EventInBits e → Report (step k w e)
  step_recorded (event.Call p c) on fits =
      cond_both (is_some (runner_of w p)) _ _ Report (λ _. settled_reported (event.Call p c) on (called w p (row_of k w p c)) (tells_call k n w h s (lists w) p c fits))
      (λ _. unchanged_reported (event.Call p c) on answer.Idle tt)
  step_recorded (event.Tick p) on fits =
      cond_both (has_time w.timer p) _ _ Report
      (λ _.
      cond_both ((processor w p).locked || is_some (handler w p)) _ _ Report (λ _. unchanged_reported (event.Tick p) on answer.Held tt)
      (λ _. settled_reported (event.Tick p) on (tick k w p) (tells_tick k lists n p w h)))
      (λ _. unchanged_reported (event.Tick p) on answer.Nothing tt)
  step_recorded (event.Ipi p) on fits =
      let found : Answer = if (processor w p).latch then answer.Taken else answer.Nothing in
      cond_both (is_held w p) _ _ Report (λ _. unchanged_reported (event.Ipi p) on answer.Held tt)
      (λ _. settled_reported (event.Ipi p) on (w, plain found) (tells_plain n w found h (cond_both (processor w p).latch answer.Taken answer.Nothing AnswerFits (λ _. tt) (λ _. tt))))

-- ---- runs

module _ (n : Counts) where
  safe_after : (m : State) (e : Event) → Safe numbered m → HasCounts n m → (processor_of e).number ≤ n.processors → Safe numbered (step numbered m e).0
  safe_after m e s h on = (safe_step numbered numbered_tops numbered_lists m e s ((processor_of e).least, rw h.processors on)).safe

  pub step_names : (m : State) (e : Event) → Safe numbered m → HasCounts n m → (processor_of e).number ≤ n.processors → EventInBits e →
      HasCounts n (step numbered m e).0 × NamesOnly n (step numbered m e).1
  step_names m e s h on fits = step_recorded numbered numbered_lists n m s h e on fits (safe_after m e s h on)

  answers_name : (m : State) (es : List Event) → Safe numbered m → HasCounts n m → AreOn n.processors es → All EventInBits es → All (NamesOnly n) (answers numbered m es)
  answers_name m [] s h on fits = All-nil (NamesOnly n)
  answers_name m (e ∷ es) s h on fits =
      let OnThem : Event → Type 0 = λ x. (processor_of x).number ≤ n.processors in
      let here : (processor_of e).number ≤ n.processors = on 0 e (omega arith) in
      let one = step_names m e s h here (fits 0 e (omega arith)) in
      All-cons (NamesOnly n) (step numbered m e).1 (answers numbered (step numbered m e).0 es) one.1
      (answers_name (step numbered m e).0 es (safe_after m e s h here) one.0 (All-tail OnThem e es on) (All-tail EventInBits e es fits))

pub runs_name : (c : Setup) (es : List Event) → IsValid c → AreOn c.processors es → All EventInBits es → All (NamesOnly (counts_of c)) (answers numbered (booted c) es)
runs_name c es valid on fits = answers_name (counts_of c) (booted c) es (booted_safe c valid) (counts_booted c valid) on fits
