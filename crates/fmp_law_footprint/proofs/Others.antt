-- What changes besides the tasks: processors, locks, objects and handlers.
use Rattle.std.proofs.Common.{◌≡◌, ℕ, zero, suc, ℤ, [], ◌∷◌, true, false, List, map, refl, sym, ◌∙◌, Option, None}
use Rattle.std.specs.Prelude.{slice_index_or, if◌then◌else◌}
use Rattle.std.proofs.lemmas.Bool.{cond_both}
use Rattle.std.proofs.lemmas.List.{length-set, length-map}
use Rattle.fmp_codes.specs.declared.numbers.Object.{Object}
use Rattle.fmp_codes.specs.declared.numbers.Proc.{Proc}
use Rattle.fmp_codes.specs.declared.records.Runner.{Runner}
use Rattle.fmp_rules.specs.declared.machine.Processor.{Processor}
use Rattle.fmp_rules.specs.declared.machine.Semaphore.{Semaphore}
use Rattle.fmp_rules.specs.declared.machine.Eventflag.{Eventflag}
use Rattle.fmp_rules.specs.declared.machine.Pool.{Pool}
use Rattle.fmp_rules.specs.declared.machine.Cyclic.{Cyclic}
use Rattle.fmp_rules.specs.declared.machine.Alarm.{Alarm}
use Rattle.fmp_rules.specs.World.{World, no_processor, processor, with_processor, with_item}
use Rattle.fmp_rules.specs.Objects.{blank_semaphore, blank_eventflag, blank_pool}
use Rattle.fmp_rules.specs.Processors.{is_at, with_lock, unlocked, opened}
use Rattle.fmp_law_footprint.specs.Cells.{Cell, OfProcessor, LatchOf, DueOn, OfSemaphore, OfEventflag, OfDataQueue, OfPool, OfCyclic, OfAlarm, OfLock, Shape, there, on, unlatched, blank_cyclic, blank_alarm}
use Rattle.fmp_law_footprint.specs.Shapes.{frame}
use Rattle.fmp_law_footprint.specs.Footprints.{Leaves}
use Rattle.fmp_law_footprint.specs.Words.{Unlocks}
use Rattle.fmp_law_footprint.proofs.Moves.{seen_but, leaves_then}

-- a list changes only at places that are cells of S
pub mapped_but : {X : Type 0} (S : Cell → Type 0) (cell : ℕ → Cell) (f : X → X) (blank : X) (xs : List X)
    → ((n : ℕ) → (S (cell n) → ⊥) → f (slice_index_or xs n blank) ≡ slice_index_or xs n blank)
    → f blank ≡ blank → (n : ℕ) → (S (cell n) → ⊥) → slice_index_or (map f xs) n blank ≡ slice_index_or xs n blank
mapped_but S cell f blank xs same none n off = mapped_item f blank none xs n ∙ same n off
  where
    mapped_item : {X : Type 0} (f : X → X) (blank : X) → f blank ≡ blank → (xs : List X) (n : ℕ) → slice_index_or (map f xs) n blank ≡ f (slice_index_or xs n blank)
    mapped_item f blank none [] n = sym none
    mapped_item f blank none (x ∷ xs) zero = refl
    mapped_item f blank none (x ∷ xs) (suc n) = mapped_item f blank none xs n

module _ {Q : Type 0} (S : Cell → Type 0) where
  pub leaves_processor : (w : World Q) (p : Proc) (x : Processor) → ((S (OfProcessor (on p)) → ⊥) → unlatched x ≡ unlatched (processor w p))
      → ((S (LatchOf (on p)) → ⊥) → x.latch ≡ (processor w p).latch)
      → Leaves S w (with_processor w p x)
  leaves_processor w p x same latch (OfProcessor n) off = seen_but S OfProcessor unlatched no_processor w.processors (on p) x same n off
  leaves_processor w p x same latch (LatchOf n) off = seen_but S LatchOf (λ (c : Processor). c.latch) no_processor w.processors (on p) x latch n off
  leaves_processor w p x same latch Shape off = λ i. record (frame w) { processors = length-set w.processors (on p) x i }
  leaves_processor w p x same latch _ off = refl

  pub leaves_due : (w : World Q) (p : Proc) (hs : List Runner) → S (DueOn (on p)) → Leaves S w (record w { due = with_item w.due p.number hs })
  leaves_due w p hs h (DueOn n) off = seen_but S DueOn (λ (x : List Runner). x) [] w.due (on p) hs (λ none. absurd (none h)) n off
  leaves_due w p hs h Shape off = λ i. record (frame w) { due = length-set w.due (on p) hs i }
  leaves_due w p hs h _ off = refl

  pub leaves_semaphore : (w : World Q) (o : Object) (x : Semaphore) → S (OfSemaphore (there o)) → Leaves S w (record w { semaphores = with_item w.semaphores o.number x })
  leaves_semaphore w o x h (OfSemaphore n) off = seen_but S OfSemaphore (λ (x : Semaphore). x) blank_semaphore w.semaphores (there o) x (λ none. absurd (none h)) n off
  leaves_semaphore w o x h Shape off = λ i. record (frame w) { semaphores = length-set w.semaphores (there o) x i }
  leaves_semaphore w o x h _ off = refl

  pub leaves_eventflag : (w : World Q) (o : Object) (x : Eventflag) → S (OfEventflag (there o)) → Leaves S w (record w { eventflags = with_item w.eventflags o.number x })
  leaves_eventflag w o x h (OfEventflag n) off = seen_but S OfEventflag (λ (x : Eventflag). x) blank_eventflag w.eventflags (there o) x (λ none. absurd (none h)) n off
  leaves_eventflag w o x h Shape off = λ i. record (frame w) { eventflags = length-set w.eventflags (there o) x i }
  leaves_eventflag w o x h _ off = refl

  pub leaves_contents : (w : World Q) (o : Object) (x : List ℤ) → S (OfDataQueue (there o)) → Leaves S w (record w { contents = with_item w.contents o.number x })
  leaves_contents w o x h (OfDataQueue n) off = seen_but S OfDataQueue (λ (x : List ℤ). x) [] w.contents (there o) x (λ none. absurd (none h)) n off
  leaves_contents w o x h Shape off = λ i. record (frame w) { contents = length-set w.contents (there o) x i }
  leaves_contents w o x h _ off = refl

  pub leaves_pool : (w : World Q) (o : Object) (x : Pool) → S (OfPool (there o)) → Leaves S w (record w { pools = with_item w.pools o.number x })
  leaves_pool w o x h (OfPool n) off = seen_but S OfPool (λ (x : Pool). x) blank_pool w.pools (there o) x (λ none. absurd (none h)) n off
  leaves_pool w o x h Shape off = λ i. record (frame w) { pools = length-set w.pools (there o) x i }
  leaves_pool w o x h _ off = refl

  pub leaves_cyclic : (w : World Q) (o : Object) (x : Cyclic) → S (OfCyclic (there o)) → Leaves S w (record w { cyclics = with_item w.cyclics o.number x })
  leaves_cyclic w o x h (OfCyclic n) off =
      λ i. (seen_but S OfCyclic (λ (x : Cyclic). x) blank_cyclic w.cyclics (there o) x (λ none. absurd (none h)) n off i, slice_index_or w.cyclics_left n None)
  leaves_cyclic w o x h Shape off = λ i. record (frame w) { cyclics = length-set w.cyclics (there o) x i }
  leaves_cyclic w o x h _ off = refl

  pub leaves_cyclic_left : (w : World Q) (o : Object) (x : Option ℕ) → S (OfCyclic (there o))
      → Leaves S w (record w { cyclics_left = with_item w.cyclics_left o.number x })
  leaves_cyclic_left w o x h (OfCyclic n) off =
      λ i. (slice_index_or w.cyclics n blank_cyclic, seen_but S OfCyclic (λ (x : Option ℕ). x) None w.cyclics_left (there o) x (λ none. absurd (none h)) n off i)
  leaves_cyclic_left w o x h Shape off = λ i. record (frame w) { cyclics_left = length-set w.cyclics_left (there o) x i }
  leaves_cyclic_left w o x h _ off = refl

  pub leaves_alarm : (w : World Q) (o : Object) (x : Alarm) → S (OfAlarm (there o)) → Leaves S w (record w { alarms = with_item w.alarms o.number x })
  leaves_alarm w o x h (OfAlarm n) off =
      λ i. (seen_but S OfAlarm (λ (x : Alarm). x) blank_alarm w.alarms (there o) x (λ none. absurd (none h)) n off i, slice_index_or w.alarms_left n None)
  leaves_alarm w o x h Shape off = λ i. record (frame w) { alarms = length-set w.alarms (there o) x i }
  leaves_alarm w o x h _ off = refl

  pub leaves_alarm_left : (w : World Q) (o : Object) (x : Option ℕ) → S (OfAlarm (there o)) → Leaves S w (record w { alarms_left = with_item w.alarms_left o.number x })
  leaves_alarm_left w o x h (OfAlarm n) off =
      λ i. (slice_index_or w.alarms n blank_alarm, seen_but S OfAlarm (λ (x : Option ℕ). x) None w.alarms_left (there o) x (λ none. absurd (none h)) n off i)
  leaves_alarm_left w o x h Shape off = λ i. record (frame w) { alarms_left = length-set w.alarms_left (there o) x i }
  leaves_alarm_left w o x h _ off = refl

  pub leaves_lock : (w : World Q) (o : Object) (x : Option Proc) → S (OfLock (there o)) → Leaves S w (record w { holders = with_item w.holders o.number x })
  leaves_lock w o x h (OfLock n) off = seen_but S OfLock (λ (x : Option Proc). x) None w.holders (there o) x (λ none. absurd (none h)) n off
  leaves_lock w o x h Shape off = λ i. record (frame w) { holders = length-set w.holders (there o) x i }
  leaves_lock w o x h _ off = refl

  -- every lock that p holds is freed
  pub leaves_freed : (w : World Q) (p : Proc) → ((n : ℕ) → is_at p (slice_index_or w.holders n None) ≡ true → S (OfLock n))
      → Leaves S w (record w { holders = map (λ h. if is_at p h then None else h) w.holders })
  leaves_freed w p h (OfLock n) off =
      mapped_but S OfLock (λ (x : Option Proc). if is_at p x then None else x) None w.holders
      (λ m none. cond_both (is_at p (slice_index_or w.holders m None)) _ _ (λ (x : Option Proc). x ≡ slice_index_or w.holders m None) (λ e. absurd (none (h m e)))
      (λ _. refl)) refl n off
  leaves_freed w p h Shape off = λ i. record (frame w) { holders = length-map w.holders (λ (h : Option Proc). if is_at p h then None else h) i }
  leaves_freed w p h _ off = refl

  pub leaves_unlocked : (w : World Q) (p : Proc) → Unlocks S w p → Leaves S w (unlocked w p)
  leaves_unlocked w p h =
      leaves_then S w (with_lock w p false) (unlocked w p) (leaves_processor w p (record (processor w p) { locked = false }) (λ off. absurd (off h.0)) (λ _. refl))
      (leaves_freed (with_lock w p false) p h.1)

  pub leaves_opened : (w : World Q) (p : Proc) → Unlocks S w p → Leaves S w (opened w p)
  unfolding opened
  leaves_opened w p h =
      leaves_then S w (unlocked w p) (opened w p) (leaves_unlocked w p h)
      (leaves_processor (unlocked w p) p (record (processor (unlocked w p) p) { disabled = false }) (λ off. absurd (off h.0)) (λ _. refl))
