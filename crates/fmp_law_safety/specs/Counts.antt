-- How many there are of what a record may name, and which records name nothing else.
use Rattle.std.specs.Prelude.{◌≡◌, ℕ, ℤ, ◌<◌, ◌≤◌, ◌^◌, length, All, IfSome, Some}
use Rattle.fmp_codes.specs.Records.{processor_of, IsWithin, ValueFits, AnswerFits, Ascend}
use Rattle.fmp_codes.specs.declared.numbers.Task.{Task}
use Rattle.fmp_codes.specs.declared.numbers.Object.{Object}
use Rattle.fmp_codes.specs.declared.records.Runner.{Runner}
use Rattle.fmp_codes.specs.declared.records.Runner.TheVariants as runner
use Rattle.fmp_codes.specs.declared.records.Release.{Release}
use Rattle.fmp_codes.specs.declared.records.Record.{Record}
use Rattle.fmp_rules.specs.declared.machine.Wait.TheVariants as wait
use Rattle.fmp_setup.specs.Setup.{Setup}
use Rattle.fmp_rules.specs.World.{World, task}

pub record Counts : Type 0 where
  pub processors : ℕ
  pub tasks : ℕ
  pub cyclics : ℕ
  pub alarms : ℕ

-- what a configuration has
abbrev pub counts_of : Setup → Counts
counts_of c = record { processors = c.processors; tasks = length c.tasks; cyclics = length c.cyclics; alarms = length c.alarms }

-- one of so many tasks, cyclic handlers and alarms
abbrev pub IsRunnerOf : Counts → Runner → Type 0
IsRunnerOf n (runner.Task t) = t.number ≤ n.tasks
IsRunnerOf n (runner.Cyclic c) = c.number ≤ n.cyclics
IsRunnerOf n (runner.Alarm a) = a.number ≤ n.alarms

abbrev pub IsTaskOf : Counts → Task → Type 0
IsTaskOf n t = t.number ≤ n.tasks

-- the release of one of so many tasks
abbrev pub IsReleaseOf : Counts → Release → Type 0
IsReleaseOf n r = IsTaskOf n r.task × ValueFits r.value

-- what is kept of values is within the bits of its kind
pub record ValuesInBits {Q : Type 0} (w : World Q) : Type 0 where
  pub patterns : All (λ f. f.pattern < 2 ^ 32) w.eventflags
  pub contents : All (All (IsWithin (2 ^ 63))) w.contents
  pub offers : (t : Task) (d : Object) (value : ℤ) → (task w t).wait ≡ Some (wait.Send d value) → IsWithin (2 ^ 63) value
  pub blocks : All (λ m. m.setup.blocks ≤ 64) w.pools
  pub wakeups : w.limits.wakeups < 2 ^ 16

-- a state with so many of each, where no other handler is due
pub record HasCounts {Q : Type 0} (n : Counts) (w : World Q) : Type 0 where
  pub few : n.processors ≤ 8
  pub few_tasks : n.tasks ≤ 64
  pub processors : length w.processors ≡ n.processors
  pub tasks : length w.tasks ≡ n.tasks
  pub waits_left : length w.waits_left ≡ n.tasks
  pub cyclics : length w.cyclics ≡ n.cyclics
  pub alarms : length w.alarms ≡ n.alarms
  pub due : All (All (IsRunnerOf n)) w.due
  pub in_bits : ValuesInBits w

-- the record names only what there is, and its values are within 64 signed bits
pub record NamesOnly (n : Counts) (r : Record) : Type 0 where
  pub processor : (processor_of r.event).number ≤ n.processors
  pub runner : IfSome r.runner (IsRunnerOf n)
  pub answer : AnswerFits r.answer
  pub releases : All (IsReleaseOf n) r.releases
  pub few : length r.releases ≤ 64
  pub lost : ValueFits r.lost
  pub run_change : IfSome r.run_change (λ running. IfSome running (IsTaskOf n))
  pub requests : Ascend n.processors 0 r.requests
