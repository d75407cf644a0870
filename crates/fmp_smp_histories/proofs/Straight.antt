-- A script without ways goes straight on: its position is how many calls were made.
use Rattle.std.proofs.Common.{◌≡◌, ℕ, ◌+◌, ◌-◌, ◌==◌, ◌∙◌, Bool, true, false, ◌&&◌, ◌||◌, cond, List, [], ◌∷◌, Option, Some, None, refl, ap, slice_index, slice_set}
use Rattle.std.specs.List.{fold}
use Rattle.std.proofs.lemmas.List.{set-get_or}
use Rattle.fmp_codes.specs.Records.{processor_of, is_gone}
use Rattle.fmp_codes.specs.declared.records.Answer.{Answer}
use Rattle.fmp_codes.specs.declared.records.Answer.TheVariants as answer
use Rattle.fmp_codes.specs.declared.records.Record.{Record}
use Rattle.fmp_codes.specs.declared.records.Release.{Release}
use Rattle.fmp_codes.specs.declared.records.Runner.{Runner}
use Rattle.fmp_text_scripts.specs.declared.ways.Way.{Way}
use Rattle.fmp_text_scripts.specs.Scripts.{Steps, AreStraight, ways_of_option}
use Rattle.fmp_text_scripts.proofs.Straight.{none_of}
use Rattle.fmp_text_scripts.specs.Ways.{onward}
use Rattle.fmp_setup.specs.Setup.{Setup}
use Rattle.fmp_smp_histories.specs.Positions.{is_task, is_handler, is_made, past, answered, called, released, ends_task, renews_handler, main_of, function_of, ways_of_task, ways_of_runner, task_after, handler_after, task_position, handler_position}
use Rattle.fmp_smp_histories.specs.Places.{released_task, released_tasks}
use Rattle.fmp_smp_histories.specs.Straight.{task_counted, handler_counted, task_count, handler_count, AreCounts}

-- ---- without ways nothing turns off

answered_straight : (a : Answer) (n : ℕ) → answered [] a n ≡ n
unfolding onward
answered_straight (answer.Done code value) n = refl
answered_straight answer.Wait n = refl
answered_straight answer.Spin n = refl
answered_straight answer.Gone n = refl
answered_straight answer.Idle n = refl
answered_straight answer.Held n = refl
answered_straight answer.Taken n = refl
answered_straight answer.Nothing n = refl

called_straight : (made : Bool) (a : Answer) (n : ℕ) → called [] made a n ≡ past made n
called_straight true a n = answered_straight a (n + 1)
called_straight false a n = refl

both_same : (b : Bool) (n : ℕ) → cond b n n ≡ n
both_same true n = refl
both_same false n = refl

released_straight : (k : ℕ) (rs : List Release) (n : ℕ) → released k [] rs n ≡ n
unfolding onward
released_straight k [] n = refl
released_straight k (r ∷ rs) n = ap (released k [] rs) (both_same (r.task.number == k) n) ∙ released_straight k rs n

-- ---- positions as they are kept

-- what a call answered leaves the position of a straight script as it is
pub answered_stays : (c : Setup) (scripts : List Steps) (o : Option ℕ) (a : Answer) (n : ℕ) → AreStraight scripts → answered (ways_of_option scripts o) a n ≡ n
answered_stays c scripts o a n straight = ap (λ (ways : List Way). answered ways a n) (none_of scripts o straight) ∙ answered_straight a n

-- and so do releases
pub released_stay : (c : Setup) (scripts : List Steps) (ps : List ℕ) (rs : List Release) → AreStraight scripts → released_tasks c scripts ps rs ≡ ps
unfolding onward
released_stay c scripts ps [] straight = refl
released_stay c scripts ps (r ∷ rs) straight =
    let at : ℕ = r.task.number - 1 in
    let one : released_task c scripts ps r ≡ ps =
    ap (λ (ways : List Way). slice_set ps at (onward ways (slice_index ps at) r.code r.value)) (none_of scripts (main_of c r.task.number) straight) ∙ set-get_or ps at 0 in
    ap (λ (qs : List ℕ). released_tasks c scripts qs rs) one ∙ released_stay c scripts ps rs straight

-- ---- positions as they are counted

fold_same : (f g : ℕ → Record → ℕ) → ((n : ℕ) (r : Record) → f n r ≡ g n r) → (n : ℕ) (h : List Record) → fold f n h ≡ fold g n h
fold_same f g same n [] = refl
fold_same f g same n (r ∷ h) = ap (λ (m : ℕ). fold f m h) (same n r) ∙ fold_same f g same (g n r) h

module _ (c : Setup) (scripts : List Steps) (straight : AreStraight scripts) where
  task_same : (n at : ℕ) (r : Record) → task_after c scripts n at r ≡ task_counted n at r
  task_same n at r =
      let none : ways_of_task c scripts n ≡ [] = none_of scripts (main_of c n) straight in
      let made : Bool = is_task n r.runner && is_made r in
      ap (cond (ends_task n r) 0)
      (ap (λ (ways : List Way). called ways made r.answer (released n ways r.releases at)) none
      ∙ called_straight made r.answer (released n [] r.releases at)
      ∙ ap (past made) (released_straight n r.releases at))

  runner_none : (o : Option Runner) → ways_of_runner c scripts o ≡ []
  runner_none None = refl
  runner_none (Some r) = none_of scripts (function_of c r) straight

  handler_same : (n at : ℕ) (r : Record) → handler_after c scripts n at r ≡ handler_counted n at r
  handler_same n at r =
      let made : Bool = ((processor_of r.event).number == n && is_handler r.runner) && is_made r in
      ap (cond (renews_handler n r) 0) (ap (λ (ways : List Way). called ways made r.answer at) (runner_none r.runner) ∙ called_straight made r.answer at)

  pub are_counts : AreCounts c scripts
  unfolding task_position handler_position task_count handler_count
  are_counts = record {
    tasks = λ n h. fold_same (task_after c scripts n) (task_counted n) (task_same n) 0 h;
    handlers = λ n h. fold_same (handler_after c scripts n) (handler_counted n) (handler_same n) 0 h;
  }
