-- Calls that are refused whenever a script makes them: those for tasks that handlers alone make, and the other way round.
use Rattle.std.specs.Prelude.{ℕ, ◌==◌, Bool, true, false, not, ◌&&◌, ◌||◌, List, ◌++◌, Option, None, Some, codes}
use Rattle.std.specs.List.{list_any, starts_with}
use Rattle.fmp_bytes.specs.Bytes.{following}
use Rattle.fmp_codes.specs.declared.calls.Call.{Call}
use Rattle.fmp_calls.specs.Table.{named, text_of}
use Rattle.fmp_setup.specs.Setup.{Setup}

-- a task runs the script of the function of this number, or a handler does
abbrev pub is_of_task : Setup → ℕ → Bool
is_of_task c f = list_any (λ t. t.main == f) c.tasks

abbrev pub is_of_cyclic : Setup → ℕ → Bool
is_of_cyclic c f = list_any (λ h. h.handler == f) c.cyclics

abbrev pub is_of_alarm : Setup → ℕ → Bool
is_of_alarm c f = list_any (λ h. h.handler == f) c.alarms

-- the names of calls for handlers begin so, and handlers may make calls whose names begin with `sns_`, too
abbrev pub is_for_handlers : List ℕ → Bool
is_for_handlers name = starts_with ◌==◌ name (codes "i")

abbrev pub is_for_tasks : List ℕ → Bool
is_for_tasks name = not (is_for_handlers name) && not (starts_with ◌==◌ name (codes "sns_"))

-- tasks alone run the script of the function, and the call is for handlers, or the other way round
abbrev pub is_misplaced_in : Bool → Bool → List ℕ → Bool
is_misplaced_in true false name = is_for_handlers name
is_misplaced_in false true name = is_for_tasks name
is_misplaced_in true true name = false
is_misplaced_in false false name = false

unfoldable pub is_misplaced : Setup → ℕ → Call → Bool
is_misplaced c f call = is_misplaced_in (is_of_task c f) (is_of_cyclic c f || is_of_alarm c f) (text_of call)

-- the call with this name after an `i`, if there is one
unfoldable pub for_handlers : List ℕ → Option Call
for_handlers name = named (codes "i" ++ name)

-- what to write in its place: that call, where there is one
abbrev pub for_handler : Option Call → List ℕ
for_handler (Some other) = codes "write " ++ text_of other
for_handler None = codes "let it wake a task that makes it, by iact_tsk, iwup_tsk, isig_sem or iset_flg"

unfoldable pub for_task : List ℕ → List ℕ
for_task other = codes " is always answered E_CTX, since a task makes it: write " ++ other

unfoldable pub by_handler : List ℕ → List ℕ
by_handler name = codes " is always answered E_CTX, since a handler makes it: " ++ for_handler (for_handlers name)

abbrev pub told_by : List ℕ → Option (List ℕ) → List ℕ
told_by name (Some other) = for_task other
told_by name None = by_handler name

unfoldable pub misplaced_text : List ℕ → List ℕ
misplaced_text name = told_by name (following 105 name)
