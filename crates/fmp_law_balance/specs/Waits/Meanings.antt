-- What times, patterns and ticks mean, in words of the laws' own: they cite no rule of the machine that the laws judge.
use Rattle.std.specs.Prelude.{ℕ, ◌+◌, ◌-◌, ◌==◌, ℤ, Bool, nat_lt, Option, option_map, bit_and}
use Rattle.fmp_codes.specs.declared.calls.Mode.{Mode}
use Rattle.fmp_codes.specs.declared.calls.Mode.TheVariants as mode
use Rattle.fmp_law_balance.specs.Words.{natural_in}

-- a time of n ticks is over at the tick n + 1 from now; a negative number means for ever
abbrev pub ticks_in : ℤ → Option ℕ
ticks_in time = option_map (λ n. n + 1) (natural_in time)

-- a tick takes one of the ticks left, where the count is one of ticks
abbrev pub after_tick : Option ℕ → Option ℕ
after_tick left = option_map (λ n. n - 1) left

-- a pattern has the bits that a task waits for: all of them, or at least one
abbrev pub has_bits : ℕ → ℕ → Mode → Bool
has_bits x wanted mode.Andw = bit_and x wanted == wanted
has_bits x wanted mode.Orw = nat_lt 0 (bit_and x wanted)
