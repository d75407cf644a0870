-- Which releases end which waits.
use Rattle.std.specs.Prelude.{◌||◌, ◌&&◌, ◌≡◌, ◌≢◌, ℕ, ℤ, pos, Bool, true, false, Option, None, Some, List, [], ◌∷◌, ◌⊎◌, All, is_some}
use Rattle.fmp_codes.specs.declared.numbers.Task.{Task}
use Rattle.fmp_codes.specs.declared.calls.Call.TheVariants as call
use Rattle.fmp_codes.specs.declared.calls.TaskCall.TheVariants as task
use Rattle.fmp_codes.specs.declared.calls.SyncCall.TheVariants as sync
use Rattle.fmp_codes.specs.declared.codes.Code.{Code}
use Rattle.fmp_codes.specs.declared.codes.Code.TheVariants as code
use Rattle.fmp_codes.specs.declared.numbers.Object.{Object}
use Rattle.fmp_codes.specs.declared.records.Answer.{Answer}
use Rattle.fmp_codes.specs.declared.records.Event.{Event}
use Rattle.fmp_codes.specs.declared.records.Event.TheVariants as event
use Rattle.fmp_codes.specs.declared.records.Record.{Record}
use Rattle.fmp_codes.specs.declared.records.Release.{Release}
use Rattle.fmp_setup.specs.Setup.{Setup}
use Rattle.fmp_rules.specs.declared.machine.Wait.{Wait}
use Rattle.fmp_rules.specs.declared.machine.Wait.TheVariants as wait
use Rattle.fmp_law_balance.specs.Accepted.{is_accepted, names}
use Rattle.fmp_law_balance.specs.Semaphores.{signals}
use Rattle.fmp_law_balance.specs.Queues.{sends, receives}
use Rattle.fmp_law_balance.specs.Pools.{returns}
use Rattle.fmp_law_balance.specs.Waits.Meanings.{has_bits}
use Rattle.fmp_law_balance.specs.Waits.Asked.{OpenWait}
use Rattle.fmp_law_balance.specs.Waits.Waits.{OpenWaits, after_record, is_number_of, is_released, is_tick_for}

-- the event is a call that wakes this task up
abbrev pub wakes : Task → Event → Bool
wakes t (event.Call p (call.Task (task.WupTsk id))) = is_number_of t id
wakes t (event.Call p (call.Task (task.IwupTsk id))) = is_number_of t id
wakes t other = false

-- it is a call that ends the wait of this task by force
abbrev pub breaks_off : Task → Event → Bool
breaks_off t (event.Call p (call.Task (task.RelWai id))) = is_number_of t id
breaks_off t (event.Call p (call.Task (task.IrelWai id))) = is_number_of t id
breaks_off t other = false

-- it is a call that sets bits of this eventflag
abbrev pub sets : Object → Event → Bool
sets f (event.Call p (call.Sync (sync.SetFlg id pattern))) = names f id
sets f (event.Call p (call.Sync (sync.IsetFlg id pattern))) = names f id
sets f other = false

-- the event, where it is an accepted call, gives a task what it waits for, with this value: a unit, the block that was given
-- back, the value that was sent, a place for the value that it offers, or a pattern in which the bits are set
abbrev pub Gives : Event → Task → Wait → Option ℤ → Type 0
Gives e t wait.Sleep value = (wakes t e ≡ true) × (value ≡ None)
Gives e t wait.Delay value = ⊥
Gives e t (wait.Semaphore s) value = (signals s e ≡ true) × (value ≡ None)
Gives e t (wait.Eventflag f pattern mode) value = (sets f e ≡ true) × ((x : ℕ) × (value ≡ Some (pos x)) × (has_bits x pattern mode ≡ true))
Gives e t (wait.Send d offer) value = (receives d e ≡ true) × (value ≡ None)
Gives e t (wait.Receive d) value = (is_some (sends d e) ≡ true) × (value ≡ sends d e)
Gives e t (wait.Pool m) value = (is_some (returns m e) ≡ true) × (value ≡ returns m e)

-- an accepted call gave the released task what it waited for
pub record IsServed (o : OpenWait) (e : Event) (answered : Answer) (x : Release) : Type 0 where
  pub accepted : is_accepted answered ≡ true
  pub code : x.code ≡ code.Accepted
  pub given : Gives e x.task o.wait x.value

-- an accepted call ended its wait by force
pub record IsBrokenOff (o : OpenWait) (e : Event) (answered : Answer) (x : Release) : Type 0 where
  pub accepted : is_accepted answered ≡ true
  pub called : breaks_off x.task e ≡ true
  pub code : x.code ≡ code.WaitReleased
  pub value : x.value ≡ None

-- how a wait is over in time: a delay is done, and what any other waited for did not come
abbrev pub over_code : Wait → Code
over_code wait.Sleep = code.TimedOut
over_code wait.Delay = code.Accepted
over_code (wait.Semaphore s) = code.TimedOut
over_code (wait.Eventflag f pattern mode) = code.TimedOut
over_code (wait.Send d value) = code.TimedOut
over_code (wait.Receive d) = code.TimedOut
over_code (wait.Pool m) = code.TimedOut

-- a tick took the last of the ticks left
pub record IsOver (c : Setup) (o : OpenWait) (e : Event) (answered : Answer) (x : Release) : Type 0 where
  pub counts : is_tick_for c.timer o.assigned answered e ≡ true
  pub last : o.left ≡ Some 1
  pub code : x.code ≡ over_code o.wait
  pub value : x.value ≡ None

-- an event with this answer may end this wait by this release
abbrev pub Fits : Setup → OpenWait → Event → Answer → Release → Type 0
Fits c o e answered x = IsServed o e answered x ⊎ (IsBrokenOff o e answered x ⊎ IsOver c o e answered x)

-- the released task has an open wait, and this record's release may end it
abbrev pub EndsOpenWait : Setup → OpenWaits → Record → Release → Type 0
EndsOpenWait c pending r x = (o : OpenWait) × (pending x.task ≡ Some o) × Fits c o r.event r.answer x

-- no task is released twice
abbrev pub NoneTwice : List Release → Type 0
NoneTwice [] = Unit {0}
NoneTwice (x ∷ xs) = (is_released x.task xs ≡ false) × NoneTwice xs

-- no wait is open with a timeout of which no tick is left
abbrev pub NoneOverdue : OpenWaits → Type 0
NoneOverdue pending = (t : Task) (o : OpenWait) → pending t ≡ Some o → o.left ≢ Some 0

abbrev pub is_of_sleep : Wait → Bool
is_of_sleep wait.Sleep = true
is_of_sleep other = false

-- the event, where it is an accepted call, has to end this wait of this task: it wakes it up or breaks off its wait
abbrev pub must_end : Task → Wait → Event → Bool
must_end t y e = breaks_off t e || (wakes t e && is_of_sleep y)

-- whose wait an accepted call has to end is released
abbrev pub ReleasesCalled : OpenWaits → Record → Type 0
ReleasesCalled pending r =
    (t : Task) (o : OpenWait) → pending t ≡ Some o → is_accepted r.answer ≡ true → must_end t o.wait r.event ≡ true → is_released t r.releases ≡ true

-- each release of a record ends an open wait as it may be ended, and no two the same; whom its call wakes up or breaks off is
-- released, and so is whose time is over
pub record ReleasesFit (c : Setup) (pending : OpenWaits) (r : Record) : Type 0 where
  pub fit : All (EndsOpenWait c pending r) r.releases
  pub once : NoneTwice r.releases
  pub called : ReleasesCalled pending r
  pub in_time : NoneOverdue (after_record c pending r)

-- so it is of each of these records, where these waits were open before them
abbrev pub EachReleaseFits : Setup → OpenWaits → List Record → Type 0
EachReleaseFits c pending [] = Unit {0}
EachReleaseFits c pending (r ∷ rs) = ReleasesFit c pending r × EachReleaseFits c (after_record c pending r) rs
