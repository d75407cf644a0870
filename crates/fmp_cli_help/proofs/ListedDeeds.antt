-- The tables of what the calls do have one row of each call, in the table of its family, and no other row.
use Rattle.std.proofs.Common.{◌≡◌, true, refl}
use Rattle.std.specs.Prelude.{count_by, is_some}
use Rattle.std.specs.List.{list_all}
use Rattle.std.specs.Str.{bytes_eq}
use Rattle.fmp_codes.specs.declared.calls.Call.{Call}
use Rattle.fmp_codes.specs.declared.calls.Call.TheVariants as calls
use Rattle.fmp_codes.specs.declared.calls.TaskCall.TheVariants as task
use Rattle.fmp_codes.specs.declared.calls.SyncCall.TheVariants as sync
use Rattle.fmp_codes.specs.declared.calls.BufferCall.TheVariants as buffer
use Rattle.fmp_codes.specs.declared.calls.TimeCall.TheVariants as time
use Rattle.fmp_codes.specs.declared.calls.SystemCall.TheVariants as system
use Rattle.fmp_codes.specs.declared.calls.SpinCall.TheVariants as spin
use Rattle.fmp_calls.specs.Table.{text_of, named}
use Rattle.fmp_cli_help.specs.Deeds.{rows, rows_of, task_rows, object_rows, system_rows}

-- by computing; a lemma goes through all calls, where its first clauses name one of each family
pub deed_once : (call : Call) → count_by (λ row. bytes_eq row.call (text_of call)) rows ≡ 1
unfolding rows task_rows object_rows system_rows
deed_once (calls.Task task.ExtTsk) = refl
deed_once (calls.Sync (sync.SigSem x)) = refl
deed_once (calls.Buffer (buffer.GetMpf x)) = refl
deed_once (calls.Time (time.StaCyc x)) = refl
deed_once (calls.System system.GetTid) = refl
deed_once (calls.Spin (spin.LocSpn x)) = refl
deed_once _ = refl

pub deed_in_family : (call : Call) → count_by (λ row. bytes_eq row.call (text_of call)) (rows_of call) ≡ 1
unfolding task_rows object_rows system_rows
deed_in_family (calls.Task task.ExtTsk) = refl
deed_in_family (calls.Sync (sync.SigSem x)) = refl
deed_in_family (calls.Buffer (buffer.GetMpf x)) = refl
deed_in_family (calls.Time (time.StaCyc x)) = refl
deed_in_family (calls.System system.GetTid) = refl
deed_in_family (calls.Spin (spin.LocSpn x)) = refl
deed_in_family _ = refl

pub deed_of_call : list_all (λ row. is_some (named row.call)) rows ≡ true
unfolding rows task_rows object_rows system_rows
deed_of_call = refl
