-- In which order waiting tasks are served, told by records alone.
use Rattle.std.specs.Prelude.{◌≡◌, ℕ, ◌+◌, Bool, true, false, ◌&&◌, ◌||◌, ◌==◌, nat_lt, Option, None, Some, List, [], ◌∷◌, if◌then◌else◌, All, is_some, slice_index_or, ◌-◌}
use Rattle.fmp_codes.specs.declared.numbers.Task.{Task}
use Rattle.fmp_codes.specs.declared.numbers.Object.{Object}
use Rattle.fmp_codes.specs.declared.numbers.Pri.{Pri}
use Rattle.fmp_codes.specs.declared.records.Record.{Record}
use Rattle.fmp_codes.specs.declared.records.Release.{Release}
use Rattle.fmp_codes.specs.Records.{is_tick}
use Rattle.fmp_setup.specs.declared.setup.Order.{Order}
use Rattle.fmp_setup.specs.declared.setup.Order.TheVariants as order
use Rattle.fmp_setup.specs.Setup.{Setup, no_semaphore, no_eventflag, no_data_queue, no_pool}
use Rattle.fmp_rules.specs.declared.machine.Wait.{Wait}
use Rattle.fmp_rules.specs.declared.machine.Wait.TheVariants as wait
use Rattle.fmp_law_balance.specs.Accepted.{is_accepted}
use Rattle.fmp_law_balance.specs.Waits.Asked.{OpenWait}
use Rattle.fmp_law_balance.specs.Waits.Releases.{breaks_off, sets}
use Rattle.fmp_law_balance.specs.Waits.Waits.{OpenWaits, begins, after_record, nobody_waits, setup_of}
use Rattle.fmp_law_records.specs.Priorities.{gives_priority, priority_after}

-- The queues.

-- a queue is served by priority, and not by when each wait began
abbrev pub is_priority : Order → Bool
is_priority order.First = false
is_priority order.Priority = true

-- so is the one in which a task with this wait stands. Who waits to receive is served by when the wait began
abbrev pub is_by_priority : Setup → Wait → Bool
is_by_priority c (wait.Semaphore s) = is_priority (slice_index_or c.semaphores (s.number - 1) no_semaphore).order
is_by_priority c (wait.Eventflag f pattern mode) = is_priority (slice_index_or c.eventflags (f.number - 1) no_eventflag).order
is_by_priority c (wait.Send d value) = is_priority (slice_index_or c.data_queues (d.number - 1) no_data_queue).order
is_by_priority c (wait.Pool m) = is_priority (slice_index_or c.pools (m.number - 1) no_pool).order
is_by_priority c other = false

-- tasks with these waits stand in one queue
abbrev pub is_beside : Wait → Wait → Bool
is_beside (wait.Semaphore s) (wait.Semaphore z) = s.number == z.number
is_beside (wait.Eventflag f pattern mode) (wait.Eventflag g others how) = f.number == g.number
is_beside (wait.Send d value) (wait.Send e other) = d.number == e.number
is_beside (wait.Receive d) (wait.Receive e) = d.number == e.number
is_beside (wait.Pool m) (wait.Pool n) = m.number == n.number
is_beside x y = false

-- The places.

-- what the records so far say: how many they are, which waits are open, the priority of each task, and with which record its wait
-- began or took its place anew
pub record Places : Type 0 where
  pub count : ℕ
  pub waits : OpenWaits
  pub priority : Task → Pri
  pub since : Task → ℕ

-- a task with this wait takes its place anew where it is given a priority and stands in a queue by priority
abbrev pub is_placed_anew : Setup → Option OpenWait → Option Pri → Bool
is_placed_anew c None given = false
is_placed_anew c (Some o) given = is_some given && is_by_priority c o.wait

-- a task takes a place with this record: its wait begins, or it is placed anew
abbrev pub takes_place : Setup → Places → Record → Task → Bool
takes_place c before r t =
    is_some (begins t r) || (is_accepted r.answer && is_placed_anew c (before.waits t) (gives_priority (setup_of c t).priority t r.runner r.event))

abbrev pub places_after : Setup → Record → Places → Places
places_after c r before = record {
  count = before.count + 1;
  waits = after_record c before.waits r;
  priority = λ t. priority_after (setup_of c t).priority t r (before.priority t);
  since = λ t. if takes_place c before r t then before.count + 1 else before.since t;
}

-- after these records of a run from boot
abbrev pub places_by : Setup → List Record → Places → Places
places_by c [] before = before
places_by c (r ∷ rs) before = places_by c rs (places_after c r before)

abbrev pub places_at_boot : Setup → Places
places_at_boot c = record { count = 0; waits = nobody_waits; priority = λ t. (setup_of c t).priority; since = λ t. 0 }

-- Who comes first.

-- t took its place before u, and is served before u in a queue by priority or not
abbrev pub began_before : Places → Task → Task → Bool
began_before places t u = nat_lt (places.since t) (places.since u)

abbrev pub is_more_urgent : Places → Task → Task → Bool
is_more_urgent places t u =
    nat_lt (places.priority t).number (places.priority u).number || ((places.priority t).number == (places.priority u).number && began_before places t u)

abbrev pub is_served_before : Places → Bool → Task → Task → Bool
is_served_before places by_priority t u = if by_priority then is_more_urgent places t u else began_before places t u

-- nobody stands in the queue in which t waits who is served before t
abbrev pub IsNext : Setup → Places → Task → Type 0
IsNext c places t =
    (o x : OpenWait) (u : Task) → places.waits t ≡ Some o → places.waits u ≡ Some x → is_beside x.wait o.wait ≡ true →
    is_served_before places (is_by_priority c o.wait) u t ≡ false

-- none of these is served before one that is released before it
abbrev pub AreInOrder : (Task → Task → Bool) → List Release → Type 0
AreInOrder before [] = Unit {0}
AreInOrder before (x ∷ xs) = All (λ y. before y.task x.task ≡ false) xs × AreInOrder before xs

-- a wait for bits of an eventflag
abbrev pub is_flag_wait : Wait → Bool
is_flag_wait (wait.Eventflag f pattern mode) = true
is_flag_wait other = false

abbrev pub is_for_bits : Option OpenWait → Bool
is_for_bits None = false
is_for_bits (Some o) = is_flag_wait o.wait

-- an eventflag is served by priority
abbrev pub is_flag_by_priority : Setup → Object → Bool
is_flag_by_priority c f = is_priority (slice_index_or c.eventflags (f.number - 1) no_eventflag).order

-- where these are the places before a record, a task that a call gives something is the next in its queue, but for eventflags, of
-- which one call can serve several; all that a call on an eventflag releases come in the order of its queue; and those whose time is
-- over come in the order in which their waits began
pub record ServesInOrder (c : Setup) (places : Places) (r : Record) : Type 0 where
  pub next : is_accepted r.answer ≡ true → All (λ x. breaks_off x.task r.event ≡ false → is_for_bits (places.waits x.task) ≡ false → IsNext c places x.task) r.releases
  pub through : (f : Object) → sets f r.event ≡ true → AreInOrder (is_served_before places (is_flag_by_priority c f)) r.releases
  pub over : is_tick r.event ≡ true → AreInOrder (began_before places) r.releases
