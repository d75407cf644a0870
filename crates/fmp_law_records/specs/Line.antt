-- The order in which tasks were put last, and which calls on a task put it last.
use Rattle.std.specs.Prelude.{ℕ, ◌+◌, Bool, true, false, not, ◌==◌, Some, List, [], ◌∷◌, if◌then◌else◌}
use Rattle.fmp_codes.specs.declared.numbers.Task.{Task}
use Rattle.fmp_codes.specs.declared.calls.TaskCall.{TaskCall}
use Rattle.fmp_codes.specs.declared.calls.TaskCall.TheVariants as tasks
use Rattle.fmp_codes.specs.declared.records.Answer.{Answer}
use Rattle.fmp_codes.specs.declared.records.Release.{Release}
use Rattle.fmp_codes.specs.Records.{is_gone}
use Rattle.fmp_setup.specs.declared.setup.Class.{Class}
use Rattle.fmp_law_balance.specs.Accepted.{is_accepted}
use Rattle.fmp_law_records.specs.Handlers.{taken_to}
use Rattle.fmp_law_records.specs.Lives.{LifeReported}

-- in which order the tasks were put last: the later, the greater the number
pub record Line : Type 0 where
  pub count : ℕ
  pub since : Task → ℕ

abbrev pub put_last : Line → Task → Line
put_last line t = record { count = line.count + 1; since = λ u. if u.number == t.number then line.count + 1 else line.since u }

-- the tasks that are released, one after the other
abbrev pub put_released : Line → List Release → Line
put_released line [] = line
put_released line (x ∷ xs) = put_released (put_last line x.task) xs

-- the answer with which a call on a task is done
abbrev pub is_done : TaskCall → Answer → Bool
is_done tasks.ExtTsk a = is_gone a
is_done c a = is_accepted a

-- done to a task of this life, the call puts it last: its life begins or ends, it gets a priority, goes elsewhere or is resumed
abbrev pub puts_it_last : Class → LifeReported → TaskCall → Bool
puts_it_last class life (tasks.ActTsk id) = not life.active
puts_it_last class life (tasks.IactTsk id) = not life.active
puts_it_last class life (tasks.MactTsk id to) = not life.active
puts_it_last class life (tasks.ImactTsk id to) = not life.active
puts_it_last class life (tasks.MigTsk id to) = not (life.at.number == (taken_to class (Some to) life.at).number)
puts_it_last class life tasks.ExtTsk = true
puts_it_last class life (tasks.TerTsk id) = true
puts_it_last class life (tasks.ChgPri id n) = true
puts_it_last class life (tasks.RsmTsk id) = true
puts_it_last class life other = false
