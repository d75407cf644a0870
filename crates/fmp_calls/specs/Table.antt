-- believed: see docs/PROOF.md, "What has to be believed"
-- The table of the service calls, by families.
use Rattle.std.specs.Prelude.{ℕ, Bool, true, List, [], Option, None, Some, option_map, find, codes, if◌then◌else◌}
use Rattle.std.specs.Option.{option_or}
use Rattle.std.specs.Str.{bytes_eq}
use Rattle.fmp_codes.specs.declared.calls.Call.{Call}
use Rattle.fmp_codes.specs.declared.calls.Call.TheVariants as calls
use Rattle.fmp_calls.specs.declared.table.task.TheConstants.{TASK_CALLS}
use Rattle.fmp_calls.specs.declared.table.sync.TheConstants.{SYNC_CALLS}
use Rattle.fmp_calls.specs.declared.table.buffer.TheConstants.{BUFFER_CALLS}
use Rattle.fmp_calls.specs.declared.table.time.TheConstants.{TIME_CALLS}
use Rattle.fmp_calls.specs.declared.table.system.TheConstants.{SYSTEM_CALLS}
use Rattle.fmp_calls.specs.declared.table.spin.TheConstants.{SPIN_CALLS}
use Rattle.fmp_codes.specs.declared.kinds.ArgumentKind.{ArgumentKind}
use Rattle.fmp_codes.specs.declared.kinds.Value.{Value}
use Rattle.fmp_calls.specs.Entries.{Line, line}
use Rattle.fmp_codes.specs.Kinds.{are_of_kinds}
use Rattle.fmp_calls.specs.Tables.TaskTable as task
use Rattle.fmp_calls.specs.Tables.SyncTable as sync
use Rattle.fmp_calls.specs.Tables.BufferTable as buffer
use Rattle.fmp_calls.specs.Tables.TimeTable as time
use Rattle.fmp_calls.specs.Tables.SystemTable as system
use Rattle.fmp_calls.specs.Tables.SpinTable as spin

-- the line of a call of a family
abbrev pub among : {C : Type 0} → (C → Call) → Line C → Line Call
among family l = record { text = l.text; bare = l.bare; kinds = l.kinds; values = l.values; make = λ list. family (l.make list) }

-- a call's line
abbrev pub line_of : Call → Line Call
line_of (calls.Task call) = among calls.Task (task.line_of call)
line_of (calls.Sync call) = among calls.Sync (sync.line_of call)
line_of (calls.Buffer call) = among calls.Buffer (buffer.line_of call)
line_of (calls.Time call) = among calls.Time (time.line_of call)
line_of (calls.System call) = among calls.System (system.line_of call)
line_of (calls.Spin call) = among calls.Spin (spin.line_of call)
line_of calls.RetHdr = record (line (codes "ret_hdr") [] calls.RetHdr tt) { bare = true }

-- a call's name as it is written
abbrev pub text_of : Call → List ℕ
text_of call = (line_of call).text

-- a call is written without parentheses: the return of a handler
abbrev pub is_bare : Call → Bool
is_bare call = (line_of call).bare

-- the kinds of a call's arguments
abbrev pub kinds_of : Call → List ArgumentKind
kinds_of call = (line_of call).kinds

-- a call's arguments
abbrev pub values_of : Call → List Value
values_of call = (line_of call).values

-- the call of the same name with these arguments, where they are of its kinds
abbrev pub call_of : Call → List Value → Option Call
call_of call values = if are_of_kinds (kinds_of call) values then Some ((line_of call).make values) else None

-- the name of a call: the same call with blanks for its arguments
abbrev pub name_of : Call → Call
name_of call = (line_of call).make []

-- the call that is written so, with blanks for its arguments
abbrev pub named : List ℕ → Option Call
named word =
    option_or (option_map calls.Task (find (λ call. bytes_eq (task.line_of call).text word) TASK_CALLS.now)) (
    option_or (option_map calls.Sync (find (λ call. bytes_eq (sync.line_of call).text word) SYNC_CALLS.now)) (
    option_or (option_map calls.Buffer (find (λ call. bytes_eq (buffer.line_of call).text word) BUFFER_CALLS.now)) (
    option_or (option_map calls.Time (find (λ call. bytes_eq (time.line_of call).text word) TIME_CALLS.now)) (
    option_or (option_map calls.System (find (λ call. bytes_eq (system.line_of call).text word) SYSTEM_CALLS.now)) (
    option_or (option_map calls.Spin (find (λ call. bytes_eq (spin.line_of call).text word) SPIN_CALLS.now)) (
    if bytes_eq (codes "ret_hdr") word then Some calls.RetHdr else None))))))
