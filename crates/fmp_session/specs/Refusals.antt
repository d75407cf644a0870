-- Why something was not done, as a number.
use Rattle.std.specs.Prelude.{ℤ, pos}
use Rattle.fmp_session.specs.declared.refused.Refused.{Refused}
use Rattle.fmp_session.specs.declared.refused.Refused.TheVariants as refused

abbrev pub number_of : Refused → ℤ
number_of refused.Memory = pos 1
number_of refused.Text = pos 2
number_of refused.NoMachine = pos 3
number_of refused.Processor = pos 4
number_of refused.Call = pos 5
number_of refused.Argument = pos 6
number_of refused.Line = pos 7
number_of refused.Full = pos 8
number_of refused.Room = pos 9
number_of refused.Nothing = pos 10
number_of refused.Different = pos 11
