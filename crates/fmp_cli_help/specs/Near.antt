-- The name that is nearest to a word.
use Rattle.std.specs.Prelude.{ℕ, ◌/◌, List, [], ◌∷◌, length, Option, Some, None, find, map, option_map, nat_eq, nat_le, nat_lt, ◌==◌, if◌then◌else◌}
use Rattle.std.specs.List.{starts_with}
use Rattle.std.specs.Option.{option_or}
use Rattle.std.specs.Str.{str_to_ascii_lowercase}
use Rattle.strsim.specs.Edits.{levenshtein_row}
use Rattle.fmp_codes.specs.declared.kinds.ObjectKind.{ObjectKind}
use Rattle.fmp_calls.specs.declared.table.task.TheConstants.{TASK_CALLS}
use Rattle.fmp_calls.specs.declared.table.sync.TheConstants.{SYNC_CALLS}
use Rattle.fmp_calls.specs.declared.table.buffer.TheConstants.{BUFFER_CALLS}
use Rattle.fmp_calls.specs.declared.table.time.TheConstants.{TIME_CALLS}
use Rattle.fmp_calls.specs.declared.table.system.TheConstants.{SYSTEM_CALLS}
use Rattle.fmp_calls.specs.declared.table.spin.TheConstants.{SPIN_CALLS}
use Rattle.fmp_calls.specs.Table as calls
use Rattle.fmp_codes.specs.Codes.{all_codes, name_of}
use Rattle.fmp_codes.specs.declared.calls.Call.{Call}
use Rattle.fmp_codes.specs.declared.calls.Call.TheVariants as families
use Rattle.fmp_config_statements.specs.declared.table.TheConstants as table
use Rattle.fmp_config_statements.specs.Attributes as attributes
use Rattle.fmp_config_statements.specs.Table as statements

-- how many letters have to be put in, left out or exchanged, but for capital and small ones
unfoldable pub distance : List ℕ → List ℕ → ℕ
distance word name = levenshtein_row nat_eq (str_to_ascii_lowercase word) (str_to_ascii_lowercase name) (length (str_to_ascii_lowercase name))

-- a name is near where that is at most one for each three bytes of the word, and nearer where it is less than to another
unfoldable pub nearer : List ℕ → Option (List ℕ) → List ℕ → Option (List ℕ)
nearer word None name = if nat_le (distance word name) (length word / 3) then Some name else None
nearer word (Some best) name = if nat_lt (distance word name) (distance word best) then Some name else Some best

-- the first of the nearest of these names and the best one before them
abbrev pub nearest : List ℕ → Option (List ℕ) → List (List ℕ) → Option (List ℕ)
nearest word best [] = best
nearest word best (name ∷ names) = nearest word (nearer word best name) names

-- the names of the calls of a family
abbrev pub calls_of : {C : Type 0} → (C → Call) → List C → List (List ℕ)
calls_of family list = map (λ call. calls.text_of (family call)) list

-- the nearest of the calls of each family, and of those before it
unfoldable pub near_task_call : List ℕ → Option (List ℕ)
near_task_call word = nearest word None (calls_of families.Task TASK_CALLS.now)

unfoldable pub near_sync_call : List ℕ → Option (List ℕ)
near_sync_call word = nearest word (near_task_call word) (calls_of families.Sync SYNC_CALLS.now)

unfoldable pub near_buffer_call : List ℕ → Option (List ℕ)
near_buffer_call word = nearest word (near_sync_call word) (calls_of families.Buffer BUFFER_CALLS.now)

unfoldable pub near_time_call : List ℕ → Option (List ℕ)
near_time_call word = nearest word (near_buffer_call word) (calls_of families.Time TIME_CALLS.now)

unfoldable pub near_system_call : List ℕ → Option (List ℕ)
near_system_call word = nearest word (near_time_call word) (calls_of families.System SYSTEM_CALLS.now)

unfoldable pub near_spin_call : List ℕ → Option (List ℕ)
near_spin_call word = nearest word (near_system_call word) (calls_of families.Spin SPIN_CALLS.now)

-- the nearest call
unfoldable pub near_call : List ℕ → Option (List ℕ)
near_call word = nearer word (near_spin_call word) (calls.text_of families.RetHdr)

-- the nearest statement
unfoldable pub near_statement : List ℕ → Option (List ℕ)
near_statement word = nearest word None (map statements.text_of table.STATEMENT_NAMES)

-- the first code whose name begins with a word of three bytes at least
unfoldable pub code_begun : List ℕ → Option (List ℕ)
code_begun word = if nat_lt (length word) 3 then None else option_map name_of (find (λ code. starts_with ◌==◌ (name_of code) word) all_codes)

-- the nearest call or code, or else a code that begins so
unfoldable pub near_answer : List ℕ → Option (List ℕ)
near_answer word = option_or (nearest word (near_call word) (map name_of all_codes)) (code_begun word)

-- the nearest call, statement or code, or else a code that begins so
unfoldable pub near_word : List ℕ → Option (List ℕ)
near_word word =
    option_or (nearest word (nearest word (near_call word) (map statements.text_of table.STATEMENT_NAMES)) (map name_of all_codes)) (code_begun word)

-- the nearest attribute of those that such an object may have
unfoldable pub near_attribute : ObjectKind → List ℕ → Option (List ℕ)
near_attribute kind word = nearest word None (map attributes.text_of (statements.allowed_of kind))
