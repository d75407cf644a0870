-- What each service call does, and what it answers.
use Rattle.std.specs.Prelude.{ℕ, List, [], ◌++◌, find, map}
use Rattle.std.specs.Option.{option_map_or}
use Rattle.std.specs.Str.{bytes_eq}
use Rattle.fmp_codes.specs.declared.calls.Call.{Call}
use Rattle.fmp_codes.specs.declared.calls.Call.TheVariants.{Task, Sync, Buffer, Time, System, Spin, RetHdr}
use Rattle.fmp_calls.specs.Table.{text_of}
use Rattle.fmp_cli_help.specs.declared.deeds.TheConstants.{TASK_DEEDS, OBJECT_DEEDS, SYSTEM_DEEDS}

-- a call by its name, and what is told of it
pub record Row : Type 0 where
  pub call : List ℕ
  pub report : List ℕ

-- the rows of the tables
unfoldable pub task_rows : List Row
task_rows = map (λ row. record { call = row.0.now; report = row.1.now }) TASK_DEEDS

unfoldable pub object_rows : List Row
object_rows = map (λ row. record { call = row.0.now; report = row.1.now }) OBJECT_DEEDS

unfoldable pub system_rows : List Row
system_rows = map (λ row. record { call = row.0.now; report = row.1.now }) SYSTEM_DEEDS

-- all of them
unfoldable pub rows : List Row
rows = task_rows ++ object_rows ++ system_rows

-- those of the table of a call's family
abbrev pub rows_of : Call → List Row
rows_of (Task call) = task_rows
rows_of (Sync call) = object_rows
rows_of (Buffer call) = object_rows
rows_of (Time call) = object_rows
rows_of (System call) = system_rows
rows_of (Spin call) = system_rows
rows_of RetHdr = system_rows

-- what the first of these rows tells that has the name, and nothing where there is none
abbrev pub report_in : List Row → List ℕ → List ℕ
report_in rows name = option_map_or (λ row. row.report) (find (λ row. bytes_eq row.call name) rows) []

-- what the call does and what it answers, two lines
unfoldable pub deed : Call → List ℕ
deed call = report_in (rows_of call) (text_of call)
