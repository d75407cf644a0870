-- Events that are told by numbers.
use Rattle.std.specs.Prelude.{ℕ, ◌-◌, ◌^◌, ◌==◌, ℤ, unsigned_abs, List, [], ◌∷◌}
use Rattle.std.specs.Prelude.{Option, None, Some, Result, Ok, Err, option_and_then, option_map, slice_get, nat_le, if◌then◌else◌}
use Rattle.std.specs.Int.{is_negative}
use Rattle.std.specs.Option.{ok_or}
use Rattle.fmp_bytes.specs.Numerals.{signed_of, unsigned_limited}
use Rattle.fmp_codes.specs.Numbers.{as_proc}
use Rattle.fmp_codes.specs.declared.numbers.Proc.{Proc}
use Rattle.fmp_codes.specs.declared.calls.Call.{Call}
use Rattle.fmp_codes.specs.declared.calls.Call.TheVariants as calls
use Rattle.fmp_codes.specs.declared.calls.Mode.{Mode}
use Rattle.fmp_codes.specs.declared.calls.Mode.TheVariants.{Andw, Orw}
use Rattle.fmp_codes.specs.declared.records.Event.{Event}
use Rattle.fmp_codes.specs.declared.records.Event.TheVariants as events
use Rattle.fmp_codes.specs.declared.kinds.ArgumentKind.{ArgumentKind}
use Rattle.fmp_codes.specs.declared.kinds.ArgumentKind.TheVariants as kinds
use Rattle.fmp_codes.specs.declared.kinds.Value.{Value}
use Rattle.fmp_codes.specs.declared.kinds.Value.TheVariants as values
use Rattle.fmp_calls.specs.Table.{call_of, kinds_of}
use Rattle.fmp_calls.specs.declared.table.task.TheConstants.{TASK_CALLS}
use Rattle.fmp_calls.specs.declared.table.sync.TheConstants.{SYNC_CALLS}
use Rattle.fmp_calls.specs.declared.table.buffer.TheConstants.{BUFFER_CALLS}
use Rattle.fmp_calls.specs.declared.table.time.TheConstants.{TIME_CALLS}
use Rattle.fmp_calls.specs.declared.table.system.TheConstants.{SYSTEM_CALLS}
use Rattle.fmp_calls.specs.declared.table.spin.TheConstants.{SPIN_CALLS}
use Rattle.fmp_session.specs.declared.refused.Refused.{Refused}
use Rattle.fmp_session.specs.declared.refused.Refused.TheVariants as refused

-- the call of a family at a place from 0
unfoldable pub task_at : ℕ → Option Call
task_at place = option_map calls.Task (slice_get TASK_CALLS.now place)

unfoldable pub sync_at : ℕ → Option Call
sync_at place = option_map calls.Sync (slice_get SYNC_CALLS.now place)

unfoldable pub buffer_at : ℕ → Option Call
buffer_at place = option_map calls.Buffer (slice_get BUFFER_CALLS.now place)

unfoldable pub time_at : ℕ → Option Call
time_at place = option_map calls.Time (slice_get TIME_CALLS.now place)

unfoldable pub system_at : ℕ → Option Call
system_at place = option_map calls.System (slice_get SYSTEM_CALLS.now place)

unfoldable pub spin_at : ℕ → Option Call
spin_at place = option_map calls.Spin (slice_get SPIN_CALLS.now place)

-- the calls on time event handlers have the numbers 45 to 53, those on the system's state 54 to 71, those on spin locks 72 to 77, and
-- the return of a handler has 78
abbrev pub call_above : ℕ → Option Call
call_above n =
    if nat_le n 53 then time_at (n - 45)
    else (if nat_le n 71 then system_at (n - 54)
    else (if nat_le n 77 then spin_at (n - 72)
    else (if n == 78 then Some calls.RetHdr else None)))

-- the calls on tasks have the numbers 1 to 20, those on semaphores and eventflags 21 to 31, those on data queues and pools 32 to 44
abbrev pub call_at : ℕ → Option Call
call_at n =
    if n == 0 then None
    else (if nat_le n 20 then task_at (n - 1)
    else (if nat_le n 31 then sync_at (n - 21)
    else (if nat_le n 44 then buffer_at (n - 32)
    else call_above n)))

-- TWF_ORW and TWF_ANDW
abbrev pub mode_numbered : ℕ → Option Mode
mode_numbered n = if n == 1 then Some Orw else (if n == 2 then Some Andw else None)

-- a number within 32 bits, without a sign and with one
abbrev pub bits_from : ℤ → Option ℕ
bits_from n = unsigned_limited (is_negative n) (unsigned_abs n)

abbrev pub number_from : ℤ → Option ℤ
number_from n = signed_of (2 ^ 31) (is_negative n) (unsigned_abs n)

-- the value of an argument of a kind
abbrev pub value_from : ArgumentKind → ℤ → Option Value
value_from kinds.Data n = Some (values.Data n)
value_from kinds.Pattern n = option_map values.Pattern (bits_from n)
value_from kinds.Mode n = option_map values.Mode (option_and_then mode_numbered (bits_from n))
value_from _ n = option_map values.Number (number_from n)

-- those of arguments of these kinds. Numbers after them say nothing
abbrev pub values_from : List ArgumentKind → List ℤ → Option (List Value)
values_from [] numbers = Some []
values_from (kind ∷ kinds) [] = None
values_from (kind ∷ kinds) (n ∷ numbers) =
    option_and_then (λ value. option_map (λ values. value ∷ values) (values_from kinds numbers)) (value_from kind n)

-- the call of a number with these arguments
abbrev pub call_from : Option Call → List ℤ → Result Call Refused
call_from None numbers = Err refused.Call
call_from (Some call) numbers = ok_or (option_and_then (call_of call) (values_from (kinds_of call) numbers)) refused.Argument

-- that call on a processor
abbrev pub called_on : Proc → Result Call Refused → Result Event Refused
called_on p (Ok call) = Ok (events.Call p call)
called_on p (Err why) = Err why

-- what happens on a processor: a call, a tick with 79, an interrupt with 80
abbrev pub event_on : Proc → ℕ → List ℤ → Result Event Refused
event_on p n numbers =
    if n == 79 then Ok (events.Tick p)
    else (if n == 80 then Ok (events.Ipi p)
    else called_on p (call_from (call_at n) numbers))

-- the event of these numbers: of a processor, of what happens there, and its arguments
abbrev pub event_from : ℕ → ℕ → List ℤ → Result Event Refused
event_from processor n numbers =
    if nat_le 1 processor then (if nat_le processor 8 then event_on (as_proc processor) n numbers else Err refused.Processor) else Err refused.Processor
