-- What is told of things of which something was told before, or nothing yet.
use Rattle.std.proofs.Common.{◌≡◌, ℕ, true, false, List, [], ◌∷◌, ◌++◌, map, refl, ap, ap₂}
use Rattle.std.specs.List.{flat_map}
use Rattle.std.specs.Str.{bytes_eq}
use Rattle.fmp_rules.specs.World.{World}
use Rattle.fmp_names.specs.Names.{NameLists}
use Rattle.fmp_show_state.specs.Changes.{object_text}
use Rattle.fmp_show_changes.specs.declared.life.things.Thing.{Thing}
use Rattle.fmp_show_changes.specs.declared.life.things.Thing.TheVariants as thing
use Rattle.fmp_show_changes.specs.Life.Lines.{handler_reported, lock_reported, queue_reported, task_reported, thing_line}
use Rattle.fmp_show_changes.specs.Life.Lives.{Seen, change_of, changes_of, lines_of, renewed, report_since, unseen}

module _ {P Q : Type 0} (lists : NameLists) (before : World P) (after : World Q) where
  -- what is told since a state is what changed since then
  pub report_changes : (seen : List Seen) → flat_map (report_since lists after) (map (renewed lists before) seen) ≡ changes_of lists before after (map (λ s. s.thing) seen)
  report_changes [] = refl
  report_changes (s ∷ seen) = ap (λ (rest : List ℕ). change_of lists before after s.thing ++ rest) (report_changes seen)

  -- only the last state is kept in mind
  pub renewed_again : (seen : List Seen) → map (renewed lists after) (map (renewed lists before) seen) ≡ map (renewed lists after) seen
  renewed_again [] = refl
  renewed_again (s ∷ seen) = ap (λ (rest : List Seen). renewed lists after s ∷ rest) (renewed_again seen)

module _ {Q : Type 0} (lists : NameLists) (w : World Q) where
  -- no line is empty
  some_line : (x : Thing) → bytes_eq (thing_line lists false w x) [] ≡ false
  unfolding task_reported queue_reported lock_reported handler_reported object_text
  some_line (thing.Task t) = refl
  some_line (thing.Semaphore s) = refl
  some_line (thing.Eventflag f) = refl
  some_line (thing.DataQueue d) = refl
  some_line (thing.Pool m) = refl
  some_line (thing.Cyclic c) = refl
  some_line (thing.Alarm a) = refl
  some_line (thing.SpinLock l) = refl

  report_first : (x : Thing) → report_since lists w (unseen x) ≡ thing_line lists true w x
  report_first x = rw (some_line x) refl

  -- where nothing was told yet, all is told
  pub first_reported : (xs : List Thing) → flat_map (report_since lists w) (map unseen xs) ≡ lines_of lists w xs
  first_reported [] = refl
  first_reported (x ∷ xs) = ap₂ (λ (line rest : List ℕ). line ++ rest) (report_first x) (first_reported xs)

pub things_again : (xs : List Thing) → map (λ (s : Seen). s.thing) (map unseen xs) ≡ xs
things_again [] = refl
things_again (x ∷ xs) = ap (λ (rest : List Thing). x ∷ rest) (things_again xs)
