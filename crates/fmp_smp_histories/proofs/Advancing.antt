-- Script positions along a history.
use Rattle.std.proofs.Common.{◌≡◌, ℕ, ◌+◌, ◌-◌, ◌^◌, ◌<◌, ◌≤◌, ◌==◌, ◌≢◌, ◌∙◌, Bool, true, false, ◌&&◌, ◌||◌, cond, List, [], ◌∷◌, ◌++◌, length, Option, Some, None, refl, ap, sym, arith, slice_index, slice_set}
use Rattle.std.specs.List.{fold}
use Rattle.std.specs.Prelude.{find, min, ℤ}
use Rattle.std.proofs.lemmas.Bool.{eqb-true, eqb-false}
use Rattle.std.proofs.Math.Bool.{and-false, and-true, or-false}
use Rattle.std.proofs.lemmas.List.{length-set}
use Rattle.std.proofs.lemmas.Grind.{fold-append}
use Rattle.fmp_codes.specs.Records.{processor_of, is_gone, is_taken}
use Rattle.fmp_codes.specs.declared.numbers.Task.{Task}
use Rattle.fmp_codes.specs.declared.records.Event.{Event}
use Rattle.fmp_codes.specs.declared.records.Event.TheVariants as event
use Rattle.fmp_codes.specs.declared.records.Runner.{Runner}
use Rattle.fmp_codes.specs.declared.records.Runner.TheVariants as runner
use Rattle.fmp_codes.specs.declared.records.Record.{Record}
use Rattle.fmp_codes.specs.declared.records.Answer.{Answer}
use Rattle.fmp_codes.proofs.Counters.{set_here, set_there}
use Rattle.fmp_codes.specs.declared.codes.Code.{Code}
use Rattle.fmp_codes.specs.declared.records.Answer.TheVariants as answer
use Rattle.fmp_codes.specs.declared.records.Release.{Release}
use Rattle.fmp_text_scripts.specs.declared.ways.Way.{Way}
use Rattle.fmp_text_scripts.specs.Scripts.{Steps}
use Rattle.fmp_text_scripts.specs.Ways.{leads, place_of, onward}
use Rattle.fmp_setup.specs.Setup.{Setup}
use Rattle.fmp_smp_histories.specs.Positions.{is_task, is_handler, is_return, is_made, has_number, terminated, answered, called, released, ways_of_task, ways_of_runner, task_after, handler_after, task_position, handler_position}
use Rattle.fmp_smp_histories.specs.Places.{called_tasks, released_task, released_tasks, renewed, moved_tasks, handler_moved, moved_handlers}
use Rattle.fmp_smp_histories.specs.Counted.{TasksAre, HandlersAre}

-- ---- a position is at most the length of the history, or the greatest number of steps after a jump

-- neither a way nor a release goes farther than the steps of a script
place_le : (n x : ℕ) (w : Option Way) → n ≤ x → 256 ≤ x → place_of n w ≤ x
place_le n x None here most = here
place_le n x (Some w) here most = omega (arith, here, most)

pub onward_le : (ways : List Way) (n x : ℕ) (code : Code) (value : Option ℤ) → n ≤ x → 256 ≤ x → onward ways n code value ≤ x
unfolding onward
onward_le ways n x code value here most = place_le n x (find (leads n code value) ways) here most

answered_le : (ways : List Way) (a : Answer) (n x : ℕ) → n ≤ x → 256 ≤ x → answered ways a n ≤ x
answered_le ways (answer.Done code value) n x here most = onward_le ways n x code value here most
answered_le ways answer.Wait n x here most = here
answered_le ways answer.Spin n x here most = here
answered_le ways answer.Gone n x here most = here
answered_le ways answer.Idle n x here most = here
answered_le ways answer.Held n x here most = here
answered_le ways answer.Taken n x here most = here
answered_le ways answer.Nothing n x here most = here

pub called_le : (ways : List Way) (made : Bool) (a : Answer) (n x : ℕ) → n ≤ x → 256 ≤ x → called ways made a n ≤ x + 1
called_le ways true a n x here most = answered_le ways a (n + 1) (x + 1) (omega (arith, here)) (omega (arith, most))
called_le ways false a n x here most = omega (arith, here)

pub either_le : (b : Bool) (n x : ℕ) → n ≤ x → cond b 0 n ≤ x
either_le true n x here = omega arith
either_le false n x here = here

step_le : (b : Bool) (m n x : ℕ) → m ≤ x → n ≤ x → cond b m n ≤ x
step_le true m n x p q = p
step_le false m n x p q = q

pub released_le : (k : ℕ) (ways : List Way) (rs : List Release) (n x : ℕ) → n ≤ x → 256 ≤ x → released k ways rs n ≤ x
released_le k ways [] n x here most = here
released_le k ways (r ∷ rs) n x here most =
    released_le k ways rs _ x (step_le (r.task.number == k) (onward ways n r.code r.value) n x (onward_le ways n x r.code r.value here most) here) most

fold_le : (f : ℕ → Record → ℕ) → ((n x : ℕ) (r : Record) → n ≤ x → 256 ≤ x → f n r ≤ x + 1) → (n x : ℕ) (h : List Record) → n ≤ x → 256 ≤ x → fold f n h ≤ x + length h
fold_le f one n x [] here most = omega (arith, here)
fold_le f one n x (r ∷ h) here most = omega (arith, fold_le f one (f n r) (x + 1) h (one n x r here most) (omega (arith, most)))

module _ (c : Setup) (scripts : List Steps) where
  pub task_position_more : (n : ℕ) (h : List Record) (r : Record) → task_position c scripts n (h ++ r ∷ []) ≡ task_after c scripts n (task_position c scripts n h) r
  unfolding task_position
  task_position_more n h r = fold-append (task_after c scripts n) 0 h (r ∷ [])

  pub handler_position_more : (n : ℕ) (h : List Record) (r : Record) → handler_position c scripts n (h ++ r ∷ []) ≡ handler_after c scripts n (handler_position c scripts n h) r
  unfolding handler_position
  handler_position_more n h r = fold-append (handler_after c scripts n) 0 h (r ∷ [])

  task_le : (n at x : ℕ) (r : Record) → at ≤ x → 256 ≤ x → task_after c scripts n at r ≤ x + 1
  task_le n at x r here most =
      either_le _ _ (x + 1) (called_le (ways_of_task c scripts n) _ r.answer _ x (released_le n (ways_of_task c scripts n) r.releases at x here most) most)

  handler_le : (n at x : ℕ) (r : Record) → at ≤ x → 256 ≤ x → handler_after c scripts n at r ≤ x + 1
  handler_le n at x r here most = either_le _ _ (x + 1) (called_le (ways_of_runner c scripts r.runner) _ r.answer at x here most)

  pub task_position_le : (n : ℕ) (h : List Record) → task_position c scripts n h ≤ length h + 256
  unfolding task_position
  task_position_le n h = omega (arith, fold_le (task_after c scripts n) (λ at x r here most. task_le n at x r here most) 0 256 h (omega arith) (omega arith))

  pub handler_position_le : (n : ℕ) (h : List Record) → handler_position c scripts n h ≤ length h + 256
  unfolding handler_position
  handler_position_le n h = omega (arith, fold_le (handler_after c scripts n) (λ at x r here most. handler_le n at x r here most) 0 256 h (omega arith) (omega arith))

-- ---- the positions of the longer history

-- a position where one of them is renewed
renewed_at : (ps : List ℕ) (o : Option Task) (i : ℕ) → i < length ps → slice_index (renewed ps o) i ≡ cond (has_number (i + 1) o) 0 (slice_index ps i)
renewed_at ps None i small = refl
renewed_at ps (Some t) i small = go (t.number == i + 1) refl
  where
    go : (b : Bool) → (t.number == i + 1) ≡ b → slice_index (slice_set ps (t.number - 1) 0) i ≡ cond (t.number == i + 1) 0 (slice_index ps i)
    go true e = rw e (set_here ps (t.number - 1) i 0 (omega (arith, eqb-true t.number (i + 1) e)) small)
    go false e =
        let least = t.least in
        rw e (set_there ps (t.number - 1) i 0 (λ q. eqb-false t.number (i + 1) e (omega (arith, q, least))))

either_ends : (a b : Bool) (x : ℕ) → cond b 0 (cond a 0 x) ≡ cond (a || b) 0 x
either_ends true true x = refl
either_ends true false x = refl
either_ends false true x = refl
either_ends false false x = refl

module _ (c : Setup) (scripts : List Steps) where
  pub called_long : (ps : List ℕ) (o : Option Runner) (e : Event) (a : Answer) → length (called_tasks c scripts ps o e a) ≡ length ps
  called_long ps None e a = refl
  called_long ps (Some (runner.Task t)) e a = length-set ps _ _
  called_long ps (Some (runner.Alarm x)) e a = refl
  called_long ps (Some (runner.Cyclic y)) e a = refl

  pub released_long : (ps : List ℕ) (rs : List Release) → length (released_tasks c scripts ps rs) ≡ length ps
  released_long ps [] = refl
  released_long ps (r ∷ rs) = released_long (released_task c scripts ps r) rs ∙ length-set ps _ _

  -- a position after a release
  release_at : (ps : List ℕ) (r : Release) (i : ℕ) → i < length ps
      → slice_index (released_task c scripts ps r) i ≡ cond (r.task.number == i + 1) (onward (ways_of_task c scripts (i + 1)) (slice_index ps i) r.code r.value) (slice_index ps i)
  release_at ps r i small = go (r.task.number == i + 1) refl
    where
      go : (b : Bool) → (r.task.number == i + 1) ≡ b
          → slice_index (released_task c scripts ps r) i ≡ cond (r.task.number == i + 1) (onward (ways_of_task c scripts (i + 1)) (slice_index ps i) r.code r.value) (slice_index ps i)
      go true e =
          let number : r.task.number ≡ i + 1 = eqb-true r.task.number (i + 1) e in
          let here : i ≡ r.task.number - 1 = omega (arith, number) in
          rw e
          (set_here ps (r.task.number - 1) i _ here small
          ∙ ap (λ (k : ℕ). onward (ways_of_task c scripts k) (slice_index ps (r.task.number - 1)) r.code r.value) number
          ∙ ap (λ (k : ℕ). onward (ways_of_task c scripts (i + 1)) (slice_index ps k) r.code r.value) (sym here))
      go false e =
          let least = r.task.least in
          rw e (set_there ps (r.task.number - 1) i _ (λ q. eqb-false r.task.number (i + 1) e (omega (arith, q, least))))

  pub released_at : (ps : List ℕ) (rs : List Release) (i : ℕ) → i < length ps → slice_index (released_tasks c scripts ps rs) i ≡ released (i + 1) (ways_of_task c scripts (i + 1)) rs (slice_index ps i)
  released_at ps [] i small = refl
  released_at ps (r ∷ rs) i small =
      released_at (released_task c scripts ps r) rs i (omega (arith, small, length-set ps (r.task.number - 1) (onward (ways_of_task c scripts r.task.number) (slice_index ps (r.task.number - 1)) r.code r.value)))
      ∙ ap (released (i + 1) (ways_of_task c scripts (i + 1)) rs) (release_at ps r i small)

  -- after releases there is still room for one more
  pub released_room : (ps qs : List ℕ) (rs : List Release) → qs ≡ released_tasks c scripts ps rs → length qs ≡ 64 → ((i : ℕ) → i < 64 → slice_index ps i + 1 < 2 ^ 32)
      → (i : ℕ) → i < 64 → slice_index qs i + 1 < 2 ^ 32
  released_room ps qs rs is long room i small =
      let here = room i small in
      let whole : length ps ≡ 64 = sym (released_long ps rs) ∙ ap length (sym is) ∙ long in
      let at : slice_index qs i ≡ released (i + 1) (ways_of_task c scripts (i + 1)) rs (slice_index ps i) = ap (λ (x : List ℕ). slice_index x i) is ∙ released_at ps rs i (omega (arith, whole, small)) in
      let le = released_le (i + 1) (ways_of_task c scripts (i + 1)) rs (slice_index ps i) (2 ^ 32 - 2) (omega (arith, here)) (omega arith) in
      omega (arith, at, le)

module _ (c : Setup) (scripts : List Steps) (ps : List ℕ) (h : List Record) (r : Record) where
  -- the positions after the releases of the record
  abbrev freed : List ℕ
  freed = released_tasks c scripts ps r.releases

  -- the position of a task after the call of a record, but for a task that it terminated
  abbrev after_call : ℕ → ℕ → ℕ
  after_call n at = cond (is_task n r.runner && is_gone r.answer) 0 (called (ways_of_task c scripts n) (is_task n r.runner && is_made r) r.answer at)

  called_here : (t : Task) → r.runner ≡ Some (runner.Task t) → (qs : List ℕ) → length qs ≡ 64 → (i : ℕ) → i < 64
      → slice_index (called_tasks c scripts qs (Some (runner.Task t)) r.event r.answer) i ≡ after_call (i + 1) (slice_index qs i)
  called_here t is qs long i small = go (t.number == i + 1) refl
    where
      go : (b : Bool) → (t.number == i + 1) ≡ b → slice_index (called_tasks c scripts qs (Some (runner.Task t)) r.event r.answer) i ≡ after_call (i + 1) (slice_index qs i)
      go true e =
          let number : t.number ≡ i + 1 = eqb-true t.number (i + 1) e in
          let here : i ≡ t.number - 1 = omega (arith, number) in
          rw (is, e)
          (set_here qs (t.number - 1) i _ here (omega (arith, long, small))
          ∙ ap (λ (k : ℕ). cond (is_gone r.answer) 0 (called (ways_of_task c scripts k) (is_made r) r.answer (slice_index qs (t.number - 1)))) number
          ∙ ap (λ (k : ℕ). cond (is_gone r.answer) 0 (called (ways_of_task c scripts (i + 1)) (is_made r) r.answer (slice_index qs k))) (sym here))
      go false e =
          let least = t.least in
          let ne : i ≢ t.number - 1 = λ q. eqb-false t.number (i + 1) e (omega (arith, q, least)) in
          rw (is, e) (set_there qs (t.number - 1) i _ ne)

  called_other : (o : Option Runner) → r.runner ≡ o → ((i : ℕ) → is_task (i + 1) o ≡ false) → (qs : List ℕ) → (i : ℕ) → slice_index qs i ≡ after_call (i + 1) (slice_index qs i)
  called_other o is none qs i = rw (is, none i) refl

  called_is : (qs : List ℕ) → length qs ≡ 64 → (i : ℕ) → i < 64 → slice_index (called_tasks c scripts qs r.runner r.event r.answer) i ≡ after_call (i + 1) (slice_index qs i)
  called_is qs long i small = go r.runner refl
    where
      go : (o : Option Runner) → r.runner ≡ o → slice_index (called_tasks c scripts qs o r.event r.answer) i ≡ after_call (i + 1) (slice_index qs i)
      go None is = called_other None is (λ j. refl) qs i
      go (Some (runner.Task t)) is = called_here t is qs long i small
      go (Some (runner.Alarm a)) is = called_other (Some (runner.Alarm a)) is (λ j. refl) qs i
      go (Some (runner.Cyclic y)) is = called_other (Some (runner.Cyclic y)) is (λ j. refl) qs i

  -- the positions of the tasks after a record
  pub tasks_moved : TasksAre c scripts ps h → length ps ≡ 64 → TasksAre c scripts (moved_tasks c scripts ps r) (h ++ r ∷ [])
  tasks_moved placed long = λ i small.
      let freed_long : length (released_tasks c scripts ps r.releases) ≡ 64 = released_long c scripts ps r.releases ∙ long in
      renewed_at (called_tasks c scripts freed r.runner r.event r.answer) (terminated r.event r.answer) i (omega (arith, called_long c scripts freed r.runner r.event r.answer, freed_long, small))
      ∙ ap (cond (has_number (i + 1) (terminated r.event r.answer)) 0)
      (called_is freed freed_long i small ∙ ap (after_call (i + 1)) (released_at c scripts ps r.releases i (omega (arith, long, small)) ∙ ap (released (i + 1) (ways_of_task c scripts (i + 1)) r.releases) (placed i small)))
      ∙ either_ends (is_task (i + 1) r.runner && is_gone r.answer) (has_number (i + 1) (terminated r.event r.answer)) _
      ∙ sym (task_position_more c scripts (i + 1) h r)

  after_here : (i at : ℕ) (e : Event) → r.event ≡ e → ((processor_of e).number == i + 1) ≡ true
      → handler_moved (ways_of_runner c scripts r.runner) r.runner e r.answer at ≡ handler_after c scripts (i + 1) at r
  after_here i at (event.Call p call) is here = rw (is, here, and-true (is_return call)) refl
  after_here i at (event.Tick p) is here = rw (is, here, and-false (is_handler r.runner), or-false (is_taken r.answer)) refl
  after_here i at (event.Ipi p) is here = rw (is, here, and-false (is_handler r.runner)) refl

  after_there : (i at : ℕ) (e : Event) → r.event ≡ e → ((processor_of e).number == i + 1) ≡ false → at ≡ handler_after c scripts (i + 1) at r
  after_there i at (event.Call p call) is here = rw (is, here, and-false (is_return call)) refl
  after_there i at (event.Tick p) is here = rw (is, here) refl
  after_there i at (event.Ipi p) is here = rw (is, here) refl

  -- the positions of the handlers after a record
  pub handlers_moved : HandlersAre c scripts ps h → length ps ≡ 8 → HandlersAre c scripts (moved_handlers c scripts ps r) (h ++ r ∷ [])
  handlers_moved placed long = λ i small. go i small ((processor_of r.event).number == i + 1) refl
    where
      go : (i : ℕ) → i < 8 → (b : Bool) → ((processor_of r.event).number == i + 1) ≡ b
          → slice_index (moved_handlers c scripts ps r) i ≡ handler_position c scripts (i + 1) (h ++ r ∷ [])
      go i small true e =
          let place = (processor_of r.event).number - 1 in
          let here : i ≡ place = omega (arith, eqb-true (processor_of r.event).number (i + 1) e) in
          let same : slice_index ps place ≡ handler_position c scripts (i + 1) h = ap (λ k. slice_index ps k) (sym here) ∙ placed i small in
          set_here ps place i _ here (omega (arith, long, small))
          ∙ ap (handler_moved (ways_of_runner c scripts r.runner) r.runner r.event r.answer) same
          ∙ after_here i (handler_position c scripts (i + 1) h) r.event refl e
          ∙ sym (handler_position_more c scripts (i + 1) h r)
      go i small false e =
          let place = (processor_of r.event).number - 1 in
          let least = (processor_of r.event).least in
          let ne : i ≢ place = λ q. eqb-false (processor_of r.event).number (i + 1) e (omega (arith, q, least)) in
          set_there ps place i _ ne ∙ placed i small ∙ after_there i (handler_position c scripts (i + 1) h) r.event refl e ∙ sym (handler_position_more c scripts (i + 1) h r)
