-- Which tasks a record releases, with which codes and values, by the records before it.
use Rattle.std.specs.Prelude.{◌≡◌, ℕ, ◌&&◌, ◌==◌, ℤ, pos, Bool, false, Option, None, Some, List, [], ◌∷◌, if◌then◌else◌, filter, map, length, is_some, bit_or, slice_get, slice_index_or, ◌-◌}
use Rattle.fmp_codes.specs.declared.numbers.Proc.{Proc}
use Rattle.fmp_codes.specs.declared.numbers.Task.{Task}
use Rattle.fmp_codes.specs.declared.numbers.Object.{Object}
use Rattle.fmp_codes.specs.declared.calls.Call.{Call}
use Rattle.fmp_codes.specs.declared.calls.Call.TheVariants as call
use Rattle.fmp_codes.specs.declared.calls.TaskCall.TheVariants as tasks
use Rattle.fmp_codes.specs.declared.calls.SyncCall.TheVariants as sync
use Rattle.fmp_codes.specs.declared.calls.BufferCall.TheVariants as buffer
use Rattle.fmp_codes.specs.declared.codes.Code.{Code}
use Rattle.fmp_codes.specs.declared.codes.Code.TheVariants as code
use Rattle.fmp_codes.specs.declared.records.Answer.{Answer}
use Rattle.fmp_codes.specs.declared.records.Event.{Event}
use Rattle.fmp_codes.specs.declared.records.Event.TheVariants as event
use Rattle.fmp_codes.specs.declared.records.Record.{Record}
use Rattle.fmp_codes.specs.declared.records.Release.{Release}
use Rattle.fmp_codes.specs.declared.records.Runner.{Runner}
use Rattle.fmp_codes.specs.Records.{is_taken}
use Rattle.fmp_setup.specs.Setup.{Setup, no_semaphore, no_eventflag, no_data_queue, no_pool}
use Rattle.fmp_rules.specs.declared.machine.Wait.{Wait}
use Rattle.fmp_rules.specs.declared.machine.Wait.TheVariants as wait
use Rattle.fmp_law_balance.specs.Turns.{in_turn}
use Rattle.fmp_law_balance.specs.Words.{is_clocked_by}
use Rattle.fmp_law_balance.specs.Accepted.{is_accepted}
use Rattle.fmp_law_records.specs.Counts.Alarms.{is_last}
use Rattle.fmp_law_balance.specs.Waits.Asked.{OpenWait}
use Rattle.fmp_law_balance.specs.Waits.Releases.{over_code}
use Rattle.fmp_law_records.specs.Patterns.{are_there, handed_on, clears_of, report_pattern}
use Rattle.fmp_law_records.specs.Served.{is_priority, Places, began_before, is_served_before, places_by, places_at_boot}
use Rattle.fmp_law_records.specs.Refusals.Meanings.{task_of, task_meant, object_of}
use Rattle.fmp_law_records.specs.Refusals.Found.{for_wakeup, for_unit, for_bits, to_send, to_receive, waits_so}

abbrev pub released_with : Task → Code → Option ℤ → Release
released_with t x v = record { task = t; code = x; value = v }

-- who is given something is released with E_OK, and nobody else
abbrev pub given_to : Option Task → Option ℤ → List Release
given_to None v = []
given_to (Some t) v = released_with t code.Accepted v ∷ []

abbrev pub for_block : Object → Wait → Bool
for_block m (wait.Pool n) = n.number == m.number
for_block m other = false

-- what a task waits for is set in a pattern
abbrev pub is_set : ℕ → Wait → Bool
is_set pattern (wait.Eventflag f bits mode) = are_there mode pattern bits
is_set pattern other = false

abbrev pub is_timed : Option OpenWait → Bool
is_timed None = false
is_timed (Some o) = is_some o.left

-- how a wait ends that is over in time
abbrev pub how_over : Option OpenWait → Code
how_over None = code.TimedOut
how_over (Some o) = over_code o.wait

module _ (c : Setup) (x : Places) where
  -- the tasks that wait so, in the order in which they are served, by priority or not
  abbrev pub waiting_reported : Bool → (Wait → Bool) → List Task
  waiting_reported by_priority what = in_turn (λ t. waits_so what (x.waits t)) (is_served_before x by_priority) (length c.tasks)

  abbrev pub next_for_unit : Object → Option Task
  next_for_unit s = slice_get (waiting_reported (is_priority (slice_index_or c.semaphores (s.number - 1) no_semaphore).order) (for_unit s)) 0

  abbrev pub next_receiver : Object → Option Task
  next_receiver d = slice_get (waiting_reported false (to_receive d)) 0

  abbrev pub next_sender : Object → Option Task
  next_sender d = slice_get (waiting_reported (is_priority (slice_index_or c.data_queues (d.number - 1) no_data_queue).order) (to_send d)) 0

  abbrev pub next_for_block : Object → Option Task
  next_for_block m = slice_get (waiting_reported (is_priority (slice_index_or c.pools (m.number - 1) no_pool).order) (for_block m)) 0

  -- of these tasks each one is released for which the pattern has what it waits for, with this pattern, which may be cleared then
  abbrev pub handed_out : Bool → ℕ → List Task → List Release
  handed_out clears pattern [] = []
  handed_out clears pattern (t ∷ ts) =
      if waits_so (is_set pattern) (x.waits t) then released_with t code.Accepted (Some (pos pattern)) ∷ handed_out clears (handed_on clears pattern) ts
      else handed_out clears pattern ts

  abbrev pub flag_releases : Object → ℕ → List Release
  flag_releases f pattern = handed_out (clears_of c f) pattern (waiting_reported (is_priority (slice_index_or c.eventflags (f.number - 1) no_eventflag).order) (for_bits f))

  abbrev pub woken : Task → List Release
  woken t = if waits_so for_wakeup (x.waits t) then released_with t code.Accepted None ∷ [] else []

  -- what an accepted call releases
  abbrev pub call_releases : List Record → Option Runner → Call → List Release
  call_releases records r (call.Task (tasks.WupTsk id)) = woken (task_meant r id)
  call_releases records r (call.Task (tasks.IwupTsk id)) = woken (task_of id)
  call_releases records r (call.Task (tasks.RelWai id)) = released_with (task_of id) code.WaitReleased None ∷ []
  call_releases records r (call.Task (tasks.IrelWai id)) = released_with (task_of id) code.WaitReleased None ∷ []
  call_releases records r (call.Sync (sync.SigSem id)) = given_to (next_for_unit (object_of id)) None
  call_releases records r (call.Sync (sync.IsigSem id)) = given_to (next_for_unit (object_of id)) None
  call_releases records r (call.Sync (sync.SetFlg id bits)) = flag_releases (object_of id) (bit_or (report_pattern c (object_of id) records) bits)
  call_releases records r (call.Sync (sync.IsetFlg id bits)) = flag_releases (object_of id) (bit_or (report_pattern c (object_of id) records) bits)
  call_releases records r (call.Buffer (buffer.SndDtq id v)) = given_to (next_receiver (object_of id)) (Some v)
  call_releases records r (call.Buffer (buffer.TsndDtq id v timeout)) = given_to (next_receiver (object_of id)) (Some v)
  call_releases records r (call.Buffer (buffer.PsndDtq id v)) = given_to (next_receiver (object_of id)) (Some v)
  call_releases records r (call.Buffer (buffer.IpsndDtq id v)) = given_to (next_receiver (object_of id)) (Some v)
  call_releases records r (call.Buffer (buffer.FsndDtq id v)) = given_to (next_receiver (object_of id)) (Some v)
  call_releases records r (call.Buffer (buffer.IfsndDtq id v)) = given_to (next_receiver (object_of id)) (Some v)
  call_releases records r (call.Buffer (buffer.RcvDtq id)) = given_to (next_sender (object_of id)) None
  call_releases records r (call.Buffer (buffer.TrcvDtq id timeout)) = given_to (next_sender (object_of id)) None
  call_releases records r (call.Buffer (buffer.PrcvDtq id)) = given_to (next_sender (object_of id)) None
  call_releases records r (call.Buffer (buffer.RelMpf id b)) = given_to (next_for_block (object_of id)) (Some b)
  call_releases records r other = []

  -- a tick on p takes the last tick of its wait
  abbrev pub is_over_on : Proc → Option OpenWait → Bool
  is_over_on p None = false
  is_over_on p (Some o) = is_clocked_by c.timer p o.assigned && is_last o.left

  -- those whose time is over, in the order in which their waits began
  abbrev pub tick_releases : Proc → List Release
  tick_releases p =
      map (λ t. released_with t (how_over (x.waits t)) None)
      (filter (λ t. is_over_on p (x.waits t)) (in_turn (λ t. is_timed (x.waits t)) (began_before x) (length c.tasks)))

-- what an event with this answer releases where these are the records before it
abbrev pub releases_reported : Setup → List Record → Option Runner → Answer → Event → List Release
releases_reported c records r a (event.Call p y) = if is_accepted a then call_releases c (places_by c records (places_at_boot c)) records r y else []
releases_reported c records r a (event.Tick p) = if is_taken a then tick_releases c (places_by c records (places_at_boot c)) p else []
releases_reported c records r a (event.Ipi p) = []

abbrev pub AreReleasesReported : Setup → List Record → Record → Type 0
AreReleasesReported c records r = r.releases ≡ releases_reported c records r.runner r.answer r.event
