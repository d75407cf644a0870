-- The lines of the values that an event changed.
use Rattle.std.specs.Prelude.{ℕ, zero, suc, Bool, true, false, not, ◌||◌, List, [], ◌∷◌, ◌++◌, if◌then◌else◌, codes, decimal}
use Rattle.std.specs.Str.{bytes_eq}
use Rattle.fmp_codes.specs.declared.records.Event.{Event}
use Rattle.fmp_setup.specs.Setup.{Setup}
use Rattle.fmp_run_view.specs.declared.signal.Signal.{Signal}
use Rattle.fmp_run_view.specs.declared.signal.TheConstants.{SIGNALS}
use Rattle.fmp_run_view.specs.Moments.{Moment, at_boot, following}
use Rattle.fmp_run_view.specs.Signals.{count, identifier}
use Rattle.fmp_run_view.specs.Values.{value_text}

-- a value of a signal at a place, by its text
pub record Change : Type 0 where
  pub signal : Signal
  pub place : ℕ
  pub text : List ℕ

-- its line
unfoldable pub value_line : Signal → ℕ → List ℕ → List ℕ
value_line signal i text = identifier signal i ++ codes " " ++ text ++ codes "\n"

-- the lines of some
abbrev pub lines_of : List Change → List ℕ
lines_of [] = []
lines_of (x ∷ xs) = value_line x.signal x.place x.text ++ lines_of xs

-- all values are told, or those whose text is another than it was
abbrev pub change_if : Bool → Signal → ℕ → List ℕ → List ℕ → List Change
change_if all signal i old new = if all || not (bytes_eq old new) then record { signal = signal; place = i; text = new } ∷ [] else []

module _ (c : Setup) (all : Bool) (before after : Moment) where
  -- those of the first n places
  unfoldable pub changes_to : Signal → ℕ → List Change
  changes_to signal zero = []
  changes_to signal (suc i) = changes_to signal i ++ change_if all signal i (value_text before signal i) (value_text after signal i)

  -- those of some signals
  abbrev pub changes_over : List Signal → List Change
  changes_over [] = []
  changes_over (signal ∷ signals) = changes_to signal (count c signal) ++ changes_over signals

  -- the lines of those of some signals
  abbrev pub lines_over : List Signal → List ℕ
  lines_over [] = []
  lines_over (signal ∷ signals) = lines_of (changes_to signal (count c signal)) ++ lines_over signals

  -- those of all signals
  unfoldable pub changes_between : List Change
  changes_between = changes_over SIGNALS.now

-- the number of the event that led here
unfoldable pub number_line : ℕ → List ℕ
number_line n = codes "#" ++ decimal n ++ codes "\n"

module _ (c : Setup) where
  -- an event with the values that it changed, by the moments before and after it
  unfoldable pub event_text : Moment → Moment → List ℕ
  event_text before after = number_line after.events ++ lines_of (changes_between c false before after)

  -- all values at a moment
  unfoldable pub values_text : Moment → List ℕ
  values_text m = number_line m.events ++ lines_of (changes_between c true m m)

  -- the events from a moment on
  unfoldable pub events_text : Moment → List Event → List ℕ
  events_text m [] = []
  events_text m (e ∷ es) = event_text m (following m e) ++ events_text (following m e) es

  -- what stands at boot, and what the events change
  abbrev pub changes_of : List Event → List ℕ
  changes_of es = values_text (at_boot c) ++ events_text (at_boot c) es
