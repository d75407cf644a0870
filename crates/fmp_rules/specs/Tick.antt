-- believed: see docs/PROOF.md, "What has to be believed"
-- A tick: the counts fall, and what reaches 0 is served.
use Rattle.std.specs.Prelude.{ℕ, Bool, false, ◌-◌, Option, None, Some, List, [], ◌∷◌, ◌++◌, ◌==◌, if◌then◌else◌, filter, length, map}
use Rattle.std.specs.List.{range_with_len}
use Rattle.fmp_codes.specs.Numbers.{as_object}
use Rattle.fmp_codes.specs.declared.numbers.Proc.{Proc}
use Rattle.fmp_codes.specs.declared.numbers.Task.{Task}
use Rattle.fmp_codes.specs.declared.numbers.Object.{Object}
use Rattle.fmp_codes.specs.declared.codes.Code.{Code}
use Rattle.fmp_codes.specs.declared.codes.Code.TheVariants as code
use Rattle.fmp_codes.specs.declared.records.Release.{Release}
use Rattle.fmp_codes.specs.declared.records.Answer.TheVariants as answer
use Rattle.fmp_codes.specs.declared.records.Runner.{Runner}
use Rattle.fmp_codes.specs.declared.records.Runner.TheVariants as runner
use Rattle.fmp_rules.specs.Effects.{Effect}
use Rattle.fmp_rules.specs.declared.machine.Wait.{Wait}
use Rattle.fmp_rules.specs.declared.machine.Wait.TheVariants as wait
use Rattle.fmp_setup.specs.Setup.{counts_for}
use Rattle.fmp_rules.specs.World.{World, task, item, with_item}
use Rattle.fmp_rules.specs.Objects.{cyclic}
use Rattle.fmp_rules.specs.Ordering.{Ordering}
use Rattle.fmp_rules.specs.Tasks.{make_ready}
use Rattle.fmp_rules.specs.Rows.{plain, and_release}
use Rattle.fmp_rules.specs.TimeCalls.{with_cyclic_left, with_alarm_left}

-- a count of ticks is one less
abbrev pub one_less : Option ℕ → Option ℕ
one_less None = None
one_less (Some n) = Some (n - 1)

-- the counts, one less where what they count for qualifies
abbrev pub lowered : {X : Type 0} → (X → Bool) → List X → List (Option ℕ) → List (Option ℕ)
lowered qualifies [] counts = counts
lowered qualifies (x ∷ xs) [] = []
lowered qualifies (x ∷ xs) (n ∷ ns) = (if qualifies x then one_less n else n) ∷ lowered qualifies xs ns

-- how a wait ends when its time is over
abbrev pub code_of : Option Wait → Code
code_of (Some wait.Delay) = code.Accepted
code_of other = code.TimedOut

-- there are ticks left, and they are 0
abbrev pub is_over : Option ℕ → Bool
is_over None = false
is_over (Some n) = n == 0

-- those of some tasks, and of all objects of a kind, whose ticks left are 0
abbrev pub tasks_expired : List (Option ℕ) → List Task → List Task
tasks_expired counts ts = filter (λ t. is_over (item None counts t.number)) ts

abbrev pub expired : {X : Type 0} → List (Option ℕ) → List X → List Object
expired counts xs = filter (λ o. is_over (item None counts o.number)) (map as_object (range_with_len 1 (length xs)))

module _ {Q : Type 0} where
  -- at a tick on p the counts fall of what it counts for
  unfoldable pub counted_down : World Q → Proc → World Q
  counted_down w p =
      record w {
        waits_left = lowered (λ r. counts_for w.timer p r.assigned) w.tasks w.waits_left;
        cyclics_left = lowered (λ c. counts_for w.timer p c.assigned) w.cyclics w.cyclics_left;
        alarms_left = lowered (λ a. counts_for w.timer p a.assigned) w.alarms w.alarms_left;
      }

  -- a handler is the last that is due on p
  abbrev pub with_due : World Q → Proc → Runner → World Q
  with_due w p h = record w { due = with_item w.due p.number (item [] w.due p.number ++ h ∷ []) }

  -- these alarms become due on p and are stopped
  abbrev pub alarms_due : World Q → Proc → List Object → World Q
  alarms_due w p [] = w
  alarms_due w p (a ∷ others) = alarms_due (with_alarm_left (with_due w p (runner.Alarm a)) a None) p others

  -- these cyclic handlers become due on p and begin a new period
  abbrev pub cyclics_due : World Q → Proc → List Object → World Q
  cyclics_due w p [] = w
  cyclics_due w p (c ∷ others) =
      cyclics_due (with_cyclic_left (with_due w p (runner.Cyclic c)) c (Some (cyclic w c).setup.period)) p others

  -- the alarms whose time is over become due on p, and then the cyclic handlers: they are assigned to it, since no other count fell (under a global
  -- timer all are the master's)
  unfoldable pub with_handlers_due : World Q → Proc → World Q
  with_handlers_due w p = cyclics_due (alarms_due w p (expired w.alarms_left w.alarms)) p (expired w.cyclics_left w.cyclics)

module _ {Q : Type 0} (k : Ordering Q) where
  -- these tasks are released, one after another
  abbrev pub released : World Q → List Task → World Q × List Release
  released w [] = (w, [])
  released w (t ∷ ts) =
      and_release (record { task = t; code = code_of (task w t).wait; value = None }) (released (make_ready k w t) ts)

  -- first the waits in the order in which they began, then the alarms and then the cyclic handlers by their numbers
  unfoldable pub ticked : World Q → Proc → World Q × Effect
  ticked w p =
      let waits = released w (tasks_expired w.waits_left (k.timed w.order w.waits_left)) in (
        with_handlers_due waits.0 p,
        record (plain answer.Taken) { releases = waits.1 },
      )

  abbrev pub tick : World Q → Proc → World Q × Effect
  tick w p = ticked (counted_down w p) p
