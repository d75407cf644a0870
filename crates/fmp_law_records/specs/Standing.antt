-- Which tasks are ready on each processor and in which order, told by records alone, and so who is the top.
use Rattle.std.specs.Prelude.{◌≡◌, ◌+◌, ℤ, pos, negsuc, Bool, false, not, ◌&&◌, ◌||◌, ◌==◌, nat_lt, Option, None, Some, List, [], ◌∷◌, if◌then◌else◌, length, is_some, slice_get}
use Rattle.fmp_codes.specs.Numbers.{as_proc, as_pri}
use Rattle.fmp_codes.specs.declared.numbers.Proc.{Proc}
use Rattle.fmp_codes.specs.declared.numbers.Task.{Task}
use Rattle.fmp_codes.specs.declared.numbers.Pri.{Pri}
use Rattle.fmp_codes.specs.declared.calls.Call.TheVariants as call
use Rattle.fmp_codes.specs.declared.calls.SystemCall.TheVariants as system
use Rattle.fmp_codes.specs.declared.records.Answer.{Answer}
use Rattle.fmp_codes.specs.declared.records.Event.{Event}
use Rattle.fmp_codes.specs.declared.records.Event.TheVariants as event
use Rattle.fmp_codes.specs.declared.records.Record.{Record}
use Rattle.fmp_codes.specs.declared.records.Runner.{Runner}
use Rattle.fmp_codes.specs.declared.records.Runner.TheVariants as runner
use Rattle.fmp_setup.specs.Setup.{Setup}
use Rattle.fmp_rules.specs.Ordering.{top}
use Rattle.fmp_rules.specs.Arrivals.{State, numbered}
use Rattle.fmp_law_balance.specs.Turns.{in_turn}
use Rattle.fmp_law_balance.specs.Accepted.{is_accepted}
use Rattle.fmp_law_balance.specs.Waits.Waits.{OpenWaits, after_record, nobody_waits, setup_of}
use Rattle.fmp_law_records.specs.Suspensions.{suspended_after}
use Rattle.fmp_law_records.specs.Priorities.{given_by, priority_after}
use Rattle.fmp_law_records.specs.Lives.{LifeReported, life_after, life_at_boot}
use Rattle.fmp_law_records.specs.Accepting.{is_about}
use Rattle.fmp_law_records.specs.Line.{Line, put_released, is_done, puts_it_last}

-- what the records say of all tasks
pub record Standing : Type 0 where
  pub life : Task → LifeReported
  pub suspended : Task → Bool
  pub priority : Task → Pri
  pub waits : OpenWaits
  pub line : Line

-- Who is ready.

-- a task is ready on p: it is active and assigned to p, waits for nothing and is not suspended
abbrev pub stands_at : Standing → Proc → Task → Bool
stands_at s p t = ((s.life t).active && not (is_some (s.waits t)) && not (s.suspended t)) && (s.life t).at.number == p.number

-- the more urgent task comes first, and of two of one priority the one that was put last before the other
abbrev pub comes_first : Standing → Task → Task → Bool
comes_first s t u = nat_lt (s.priority t).number (s.priority u).number || ((s.priority t).number == (s.priority u).number && nat_lt (s.line.since t) (s.line.since u))

-- the ready tasks of a processor and a priority in their order, and the top of a processor
abbrev pub ready_reported : Setup → Standing → Proc → Pri → List Task
ready_reported c s p n = in_turn (λ t. stands_at s p t && (s.priority t).number == n.number) (comes_first s) (length c.tasks)

abbrev pub top_reported : Setup → Standing → Proc → Option Task
top_reported c s p = slice_get (in_turn (stands_at s p) (comes_first s) (length c.tasks)) 0

-- Who is put last.

-- the priority that a call names, of which 0 is that of the task that makes it
abbrev pub own_priority : Standing → Option Runner → Pri
own_priority s (Some (runner.Task t)) = s.priority t
own_priority s other = as_pri 1

-- the processor that a call names
abbrev pub processor_of_number : ℤ → Proc
processor_of_number (pos n) = as_proc n
processor_of_number (negsuc n) = as_proc 1

-- the task that a call puts last which rotates the ready tasks of a priority: the first of them
abbrev pub rotates : Setup → Standing → Option Runner → Event → Option Task
rotates c s r (event.Call p (call.System (system.RotRdq n))) = slice_get (ready_reported c s p (given_by (own_priority s r) n)) 0
rotates c s r (event.Call p (call.System (system.IrotRdq n))) = slice_get (ready_reported c s p (given_by (own_priority s r) n)) 0
rotates c s r (event.Call p (call.System (system.MrotRdq n q))) = slice_get (ready_reported c s (processor_of_number q) (given_by (own_priority s r) n)) 0
rotates c s r (event.Call p (call.System (system.ImrotRdq n q))) = slice_get (ready_reported c s (processor_of_number q) (given_by (own_priority s r) n)) 0
rotates c s r other = None

abbrev pub is_that : Option Task → Task → Bool
is_that None t = false
is_that (Some u) t = u.number == t.number

-- a call puts this task last, besides those that it releases
abbrev pub puts_last : Setup → Standing → Option Runner → Answer → Event → Task → Bool
puts_last c s r a (event.Call p (call.Task x)) t = is_about t r x && (is_done x a && puts_it_last (setup_of c t).class (s.life t) x)
puts_last c s r a e t = is_accepted a && is_that (rotates c s r e) t

-- the line after a record
abbrev pub line_after : Setup → Standing → Record → Line
line_after c s r = let line = put_released s.line r.releases in record {
  count = line.count + 1;
  since = λ t. if puts_last c s r.runner r.answer r.event t then line.count + 1 else line.since t;
}

-- Along a run.

abbrev pub standing_after : Setup → Record → Standing → Standing
standing_after c r s = record {
  life = λ t. life_after (setup_of c t).class t r (s.life t);
  suspended = λ t. suspended_after t r (s.suspended t);
  priority = λ t. priority_after (setup_of c t).priority t r (s.priority t);
  waits = after_record c s.waits r;
  line = line_after c s r;
}

abbrev pub standing_by : Setup → List Record → Standing → Standing
standing_by c [] s = s
standing_by c (r ∷ rs) s = standing_by c rs (standing_after c r s)

-- at boot the tasks stand by number
abbrev pub standing_at_boot : Setup → Standing
standing_at_boot c = record {
  life = life_at_boot c;
  suspended = λ t. false;
  priority = λ t. (setup_of c t).priority;
  waits = nobody_waits;
  line = record { count = length c.tasks; since = λ t. t.number };
}

abbrev pub report_standing : Setup → List Record → Standing
report_standing c records = standing_by c records (standing_at_boot c)

-- on p the ready tasks of each priority stand as this says, and the top is the one that it says
pub record AreReadyReported (c : Setup) (s : Standing) (m : State) (p : Proc) : Type 0 where
  pub ready : (n : Pri) → numbered.ready m.order m.tasks p n ≡ ready_reported c s p n
  pub top : top numbered m p ≡ top_reported c s p
