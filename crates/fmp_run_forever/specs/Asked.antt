-- The faults of a question of what stays for ever.
use Rattle.std.specs.Prelude.{◌≡◌, ℕ, List, Err}
use Rattle.fmp_names.specs.Names.{NameLists}
use Rattle.fmp_search_question.specs.declared.fault.QuestionFault.{QuestionFault}
use Rattle.fmp_search_question.specs.Lasting.{lasting_in}
use Rattle.fmp_run_explore.specs.declared.fault.ExploreFault.{ExploreFault}
use Rattle.fmp_run_explore.specs.Faults.{QuestionFaultOver}

-- a fault of the question is the first one of its text
abbrev pub IsFirstOfLasting : List ℕ → NameLists → QuestionFault → ℕ → Type 0
IsFirstOfLasting text names fault place = lasting_in names text ≡ Err (fault, place)

-- the same, for the names of a right configuration
abbrev pub IsQuestionFault : List ℕ → List ℕ → ExploreFault → Type 0
IsQuestionFault config_text text = QuestionFaultOver (IsFirstOfLasting text) config_text
