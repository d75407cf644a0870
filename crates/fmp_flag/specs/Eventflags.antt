-- An eventflag with the tasks that wait for it.
use Rattle.std.specs.Prelude.{◌≡◌, ℕ, Bool, true, false, Option, None, Some, List, [], ◌∷◌, if◌then◌else◌, map, bit_or}
use Rattle.fmp_codes.specs.declared.numbers.Task.{Task}
use Rattle.fmp_codes.specs.declared.calls.Mode.TheVariants as mode
use Rattle.fmp_rules.specs.declared.machine.Eventflag.{Eventflag}
use Rattle.fmp_kernel_parts.specs.Digests.{added}
use Rattle.fmp_rules.specs.World.{first, item}
use Rattle.fmp_rules.specs.Objects.{holds}
use Rattle.fmp_waitq.specs.Queue.{Waiter, task_of, added_waiters, has_waiter, left_by}
use Rattle.fmp_flag.specs.declared.wanted.Wanted.{Wanted}

pub record EventflagState : Type 0 where
  pub eventflag : Eventflag
  pub waiters : List Waiter

-- what a digest is after it was added, with nothing of what the configuration says of it
abbrev pub added_eventflag : EventflagState → ℕ → ℕ
added_eventflag s sum = added_waiters s.waiters (added sum s.eventflag.pattern)

-- the first task that waits
abbrev pub waiter : EventflagState → Option Task
waiter s = first (map task_of s.waiters)

-- the same with another pattern
abbrev pub with_pattern : EventflagState → ℕ → EventflagState
with_pattern s x = record s { eventflag = record s.eventflag { pattern = x } }

-- no bit, of which one is never set
abbrev pub no_bits : Wanted
no_bits = record { pattern = 0; mode = mode.Orw }

-- what a task wants
abbrev pub wanted_by : List Wanted → Task → Wanted
wanted_by ws t = item no_bits ws t.number

-- what a task wants is set in x
abbrev pub is_met : ℕ → List Wanted → Task → Bool
is_met x ws t = holds x (wanted_by ws t).pattern (wanted_by ws t).mode

-- the pattern x after a release
abbrev pub cleared : EventflagState → ℕ → ℕ
cleared s x = if s.eventflag.setup.clears then 0 else x

-- a task is released with the pattern x
abbrev pub and_release : Task → ℕ → EventflagState × List (Task × ℕ) → EventflagState × List (Task × ℕ)
and_release t x did = (did.0, (t, x) ∷ did.1)

-- these tasks are gone over once with the pattern x: who wants what is set in x is released with x, which may clear it
abbrev pub served : EventflagState → List Wanted → ℕ → List Task → EventflagState × List (Task × ℕ)
served s ws x [] = (with_pattern s x, [])
served s ws x (t ∷ ts) =
    if is_met x ws t
    then and_release t x (served (record s { waiters = left_by t s.waiters }) ws (cleared s x) ts)
    else served s ws x ts

-- bits of the pattern are set, and the waiters are served
abbrev pub bits_set : EventflagState → List Wanted → ℕ → EventflagState × List (Task × ℕ)
bits_set s ws bits = served s ws (bit_or s.eventflag.pattern bits) (map task_of s.waiters)

-- the pattern is told where it has the bits, and may be cleared then
abbrev pub polled : EventflagState → Bool → EventflagState × Option ℕ
polled s true = (with_pattern s (cleared s s.eventflag.pattern), Some s.eventflag.pattern)
polled s false = (s, None)

-- tasks wait only for what is not set
abbrev pub WaitsUnmet : List Wanted → EventflagState → Type 0
WaitsUnmet ws s = (t : Task) → has_waiter t s.waiters ≡ true → is_met s.eventflag.pattern ws t ≡ false
