-- When waits are over and handlers are due, by counts of ticks: a count stands until it is over or given anew, and need not be told at each tick.
use Rattle.std.specs.Prelude.{ℕ, ◌+◌, Option, None, Some, List, [], ◌++◌, codes, decimal, option_map}
use Rattle.fmp_codes.specs.declared.numbers.Proc.{Proc}
use Rattle.fmp_run_view.specs.Moments.{Moment, ticks_for}

-- how many ticks there will have been for what is assigned to this processor, when so many more are over
abbrev pub until_of : Moment → Proc → Option ℕ → Option ℕ
until_of m p left = option_map (λ (n : ℕ). n + ticks_for m p) left

-- such a count, where there is one
abbrev pub until_text : Option ℕ → List ℕ
until_text None = []
until_text (Some ticks) = codes " @" ++ decimal ticks

-- the processor on which a handler is started, or 0
abbrev pub started_on : Proc → Option ℕ → ℕ
started_on p None = 0
started_on p (Some until) = p.number

-- where a handler is started, and the count at which it is due
unfoldable pub started_text : Proc → Option ℕ → List ℕ
started_text p until = decimal (started_on p until) ++ until_text until
