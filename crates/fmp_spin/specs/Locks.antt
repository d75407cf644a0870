-- Spin locks as a list of their holders.
use Rattle.std.specs.Prelude.{◌+◌, Option, None, List, if◌then◌else◌, option_map}
use Rattle.std.specs.List.{position}
use Rattle.fmp_codes.specs.Numbers.{as_object}
use Rattle.fmp_codes.specs.declared.numbers.Proc.{Proc}
use Rattle.fmp_codes.specs.declared.numbers.Object.{Object}
use Rattle.fmp_rules.specs.Processors.{is_at}

-- the holder of a lock after a processor freed what it held
abbrev pub freed : Proc → Option Proc → Option Proc
freed p h = if is_at p h then None else h

-- the least lock that a processor holds
abbrev pub held_by : Proc → List (Option Proc) → Option Object
held_by p holders = option_map (λ i. as_object (i + 1)) (position (is_at p) holders)
