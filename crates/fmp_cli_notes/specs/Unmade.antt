-- Which calls of the scripts are told, and in which lines.
use Rattle.std.specs.Prelude.{◌≡◌, ◌⊎◌, ℕ, zero, suc, ◌+◌, ◌-◌, ◌/◌, ◌%◌, Bool, true, false, not, List, [], ◌∷◌, ◌++◌, length, take, slice_get, Option, None, Some, IfSome, is_some, if◌then◌else◌, codes, decimal}
use Rattle.fmp_calls.specs.Table.{text_of}
use Rattle.fmp_codes.specs.declared.calls.Call.{Call}
use Rattle.fmp_codes.specs.declared.kinds.NameKind.TheVariants.{Function}
use Rattle.fmp_codes.specs.declared.records.Event.TheVariants as event
use Rattle.fmp_codes.specs.Numbers.{as_proc}
use Rattle.fmp_names.specs.Names.{NameLists, name_of}
use Rattle.fmp_search.specs.declared.meeting.Met.{Met}
use Rattle.fmp_setup.specs.Setup.{Setup}
use Rattle.fmp_trace.specs.Lines.{event_text}
use Rattle.fmp_text_scripts.specs.Scripts.{Steps, script_of}
use Rattle.fmp_search_orders.specs.Made.{no_number, number_of_call}
use Rattle.fmp_run_explore.specs.declared.finding.Finding.{Finding}
use Rattle.fmp_run_explore.specs.declared.finding.Finding.TheVariants as finding
use Rattle.fmp_run_explore.specs.Made.{SaysMade}
use Rattle.fmp_run_explore.specs.Searched.{Searched}
use Rattle.fmp_search_orders.specs.Unknown.{IsNotKnown}
use Rattle.fmp_search_pattern.specs.declared.question.Step.{Step}
use Rattle.fmp_out.specs.Putting.{Adds, Putting}
use Rattle.fmp_cli_notes.specs.Lines.{head}
use Rattle.fmp_cli_notes.specs.Misplaced.{is_misplaced, misplaced_text}

-- a call has a number: it stands at the position n % 256 of the script of the function n / 256
abbrev pub call_of : List Steps → ℕ → Option Call
call_of scripts n = slice_get (script_of scripts (n / 256)) (n % 256)

-- of the call with this number it is told that no order makes it, where there are marks: it has none. Where there are none, that it is refused wherever
-- its script makes it
abbrev pub is_unmarked : Option Bool → Bool
is_unmarked (Some mark) = not mark
is_unmarked None = true

abbrev pub is_told_of : Setup → Option Call → Option Met → ℕ → Bool
is_told_of c None marks n = false
is_told_of c (Some call) (Some m) n = is_unmarked (slice_get m.marks.items (number_of_call (Some (n / 256)) (n % 256)))
is_told_of c (Some call) None n = is_misplaced c (n / 256) call

unfoldable pub is_told : Setup → List Steps → Option Met → ℕ → Bool
is_told c scripts marks n = is_told_of c (call_of scripts n) marks n

-- the numbers below n that are so, in their order
unfoldable pub below : (ℕ → Bool) → ℕ → List ℕ
below is_one zero = []
below is_one (suc n) = below is_one n ++ (if is_one n then n ∷ [] else [])

-- ---- their lines

-- no order makes it, or none of at most so many lines, or it is always refused
unfoldable pub of_part : ℕ → List ℕ
of_part turns = codes "no order of at most " ++ decimal turns ++ codes " lines makes "

abbrev pub of_orders : Bool → ℕ → List ℕ
of_orders true turns = codes "no order makes "
of_orders false turns = of_part turns

abbrev pub made_by : Option Met → ℕ → List ℕ
made_by (Some m) turns = of_orders m.whole turns
made_by None turns = []

-- where it is always refused, what is refused and why
abbrev pub refused : Option Met → Call → List ℕ
refused (Some m) call = []
refused None call = misplaced_text (text_of call)

abbrev pub name_text : Option (List ℕ) → List ℕ
name_text (Some name) = name
name_text None = codes "?"

-- which of its script a call is, and its text
unfoldable pub call_text : NameLists → ℕ → Call → List ℕ
call_text names n call =
    codes "call " ++ decimal (n % 256 + 1) ++ codes " of " ++ name_text (name_of names Function (n / 256)) ++ codes ": "
    ++ event_text names (event.Call (as_proc 1) call)

unfoldable pub call_words : NameLists → Option Met → ℕ → ℕ → Option Call → List ℕ
call_words names marks turns n (Some call) = made_by marks turns ++ call_text names n call ++ refused marks call
call_words names marks turns n None = made_by marks turns

abbrev pub call_line : List ℕ → Setup → List Steps → Option Met → ℕ → ℕ → List ℕ
call_line asked c scripts marks turns n = head asked ++ call_words c.names marks turns n (call_of scripts n) ++ codes "\n"

-- how many more there are
abbrev pub and_more : Option Met → List ℕ
and_more (Some m) = codes "nor "
and_more None = codes "and "

unfoldable pub more_line : List ℕ → Option Met → ℕ → List ℕ
more_line asked marks zero = []
more_line asked marks (suc n) = head asked ++ and_more marks ++ decimal (suc n) ++ codes " more calls of the scripts\n"

-- one line for each
abbrev pub each_line : (ℕ → List ℕ) → List ℕ → List ℕ
each_line line [] = []
each_line line (n ∷ calls) = line n ++ each_line line calls

-- of the first eight of them each has a line, and one tells how many more there are
unfoldable pub calls_lines : List ℕ → Setup → List Steps → Option Met → ℕ → List ℕ → List ℕ
calls_lines asked c scripts marks turns calls = each_line (call_line asked c scripts marks turns) (take 8 calls) ++ more_line asked marks (length calls - 8)

-- those that are told by marks, or without
unfoldable pub all_lines : List ℕ → Setup → List Steps → Option Met → ℕ → List ℕ
all_lines asked c scripts marks turns = calls_lines asked c scripts marks turns (below (is_told c scripts marks) no_number)

-- which calls are always refused, and which no order makes, where that is known
abbrev pub unmade_by : List ℕ → Setup → List Steps → Option Met → ℕ → List ℕ
unmade_by asked c scripts None turns = []
unmade_by asked c scripts (Some m) turns = all_lines asked c scripts (Some m) turns

unfoldable pub unmade_lines : List ℕ → Setup → List Steps → Option Met → ℕ → List ℕ
unmade_lines asked c scripts marks turns = all_lines asked c scripts None turns ++ unmade_by asked c scripts marks turns

-- ---- beside what a search found

-- a search for nothing may find more than one for this question did: a question of one step without `without` stops nowhere else
abbrev pub goes_farther : List Step → Bool
goes_farther [] = true
goes_farther (step ∷ []) = is_some step.without
goes_farther (step ∷ next ∷ steps) = true

-- it is made where all places were gone through, or where there was no room for more
abbrev pub may_know : Finding → List Step → Bool
may_know finding.Never question = true
may_know (finding.NotWithin n) question = goes_farther question
may_know finding.Shown question = false
may_know (finding.Wanting n) question = false
may_know (finding.Ended n) question = false

-- what is told by a search for nothing: of which calls it is known whether orders make them, or none where it is not to be made, has no room, or was ended
pub record TellsUnmade (asked : List ℕ) (s : Searched) (found : Finding) (turns room : ℕ) (over : Bool) (old new : Putting) : Type 0 where
  pub met : Option Met
  pub says : IfSome met (SaysMade s.config s.scripts s.rules turns)
  pub none : met ≡ None → (may_know found s.question ≡ false) ⊎ IsNotKnown s.config s.scripts s.rules turns room over
  pub told : Adds (unmade_lines asked s.config s.scripts met turns) old new
