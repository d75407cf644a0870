-- Arguments, clocks and members of a class.
use Rattle.std.specs.Prelude.{ℕ, ◌+◌, ◌&&◌, ◌==◌, ℤ, pos, negsuc, Bool, false, Option, None, Some, List, [], ◌∷◌, if◌then◌else◌, int_le, nat_abs}
use Rattle.std.specs.Option.{option_map_or}
use Rattle.std.specs.List.{list_any}
use Rattle.fmp_codes.specs.declared.numbers.Proc.{Proc}
use Rattle.fmp_setup.specs.declared.setup.Class.{Class}
use Rattle.fmp_setup.specs.declared.setup.Timer.{Timer}
use Rattle.fmp_setup.specs.declared.setup.Timer.TheVariants as timer

-- a number from 1 to the last one
abbrev pub one_up_to : ℕ → ℤ → Option ℕ
one_up_to last id = if int_le (pos 1) id && int_le id (pos last) then Some (nat_abs id) else None

-- the processor whose ticks count for what is assigned to this one
abbrev pub clock_of : Timer → Proc → Proc
clock_of timer.Local p = p
clock_of (timer.Global master) p = master

-- ticks on p count for what is assigned to q; and p has ticks that count, since its own do
abbrev pub is_clocked_by : Timer → Proc → Proc → Bool
is_clocked_by timer p q = (clock_of timer q).number == p.number

abbrev pub is_clock : Timer → Proc → Bool
is_clock timer p = is_clocked_by timer p p

-- the numbers of those that are marked, from this number on
abbrev pub marked_from : ℕ → List Bool → List ℕ
marked_from n [] = []
marked_from n (b ∷ bs) = if b then n ∷ marked_from (n + 1) bs else marked_from (n + 1) bs

-- a processor is one of those of a class
abbrev pub is_member : Class → Proc → Bool
is_member class p = list_any (λ n. n == p.number) (marked_from 1 class.members)

-- the number of an argument that is not negative
abbrev pub natural_in : ℤ → Option ℕ
natural_in (pos n) = Some n
natural_in (negsuc n) = None

-- an argument is 0
abbrev pub says_nothing : ℤ → Bool
says_nothing id = option_map_or (λ n. n == 0) (natural_in id) false
