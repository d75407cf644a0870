-- Changes that are put in their places, one after the other, and what stands there then.
use Rattle.std.specs.Prelude.{◌≡◌, ℕ, ◌<◌, Bool, true, false, ◌&&◌, ◌==◌, List, [], ◌∷◌, if◌then◌else◌}
use Rattle.fmp_codes.specs.declared.records.Event.{Event}
use Rattle.fmp_setup.specs.Setup.{Setup}
use Rattle.fmp_run_view.specs.declared.signal.Signal.{Signal}
use Rattle.fmp_run_view.specs.declared.signal.Signal.TheVariants.{Running, Flags, Due, State, Place, Rest, Semaphore, Eventflag, DataQueue, Pool, Cyclic, Alarm, SpinLock}
use Rattle.fmp_run_view.specs.Changes.{Change, changes_between}
use Rattle.fmp_run_view.specs.Moments.{Moment, at_boot, following}
use Rattle.fmp_run_view.specs.Signals.{count}
use Rattle.fmp_run_view.specs.Values.{value_text}

-- its place among the signals
abbrev pub rank : Signal → ℕ
rank Running = 0
rank Flags = 1
rank Due = 2
rank State = 3
rank Place = 4
rank Rest = 5
rank Semaphore = 6
rank Eventflag = 7
rank DataQueue = 8
rank Pool = 9
rank Cyclic = 10
rank Alarm = 11
rank SpinLock = 12

-- a text for each signal and place
abbrev pub Table : Type 0
Table = Signal → ℕ → List ℕ

-- a change is of this signal and place
abbrev pub is_at : Signal → ℕ → Change → Bool
is_at signal i x = rank signal == rank x.signal && i == x.place

abbrev pub with_change : Change → Table → Table
with_change x t = λ signal i. if is_at signal i x then x.text else t signal i

-- changes, put in their places
abbrev pub put : List Change → Table → Table
put [] t = t
put (x ∷ xs) t = put xs (with_change x t)

-- the moment after these events
abbrev pub after_all : Moment → List Event → Moment
after_all m [] = m
after_all m (e ∷ es) = after_all (following m e) es

module _ (c : Setup) where
  -- those of these events, from a moment on
  abbrev pub report : Moment → List Event → Table → Table
  report m [] t = t
  report m (e ∷ es) t = report (following m e) es (put (changes_between c false m (following m e)) t)

  -- what stands in each place after these events, where nothing stood there before
  unfoldable pub report_since_boot : List Event → Table
  report_since_boot es = report (at_boot c) es (put (changes_between c true (at_boot c) (at_boot c)) (λ signal i. []))

  -- it is the value that the model's state has then
  abbrev pub AreReported : List Event → Type 0
  AreReported es = (signal : Signal) (i : ℕ) → i < count c signal → report_since_boot es signal i ≡ value_text (after_all (at_boot c) es) signal i
