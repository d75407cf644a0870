-- What is told of a question that no order shows: how many of its steps come, and whether an event has the patterns of the next one.
use Rattle.std.specs.Prelude.{ℕ, ◌+◌, ◌==◌, nat_lt, Bool, true, false, not, ◌&&◌, List, [], ◌++◌, Option, None, Some, Result, Ok, Err, if◌then◌else◌, codes, decimal}
use Rattle.fmp_run_explore.specs.declared.finding.Finding.{Finding}
use Rattle.fmp_run_explore.specs.declared.finding.Finding.TheVariants as finding
use Rattle.fmp_search_pattern.specs.declared.question.Step.{Step}
use Rattle.fmp_search_pattern.specs.Items.{Item}
use Rattle.fmp_search_question.specs.declared.fault.QuestionFault.{QuestionFault}
use Rattle.fmp_search_question.specs.Reading.{question_in}
use Rattle.fmp_setup.specs.Setup.{Setup}
use Rattle.fmp_cli_notes.specs.Lines.{head}
use Rattle.fmp_cli_notes.specs.NeverSo.{fact_note}
use Rattle.fmp_cli_notes.specs.Parts.{plain_item}
use Rattle.fmp_cli_notes.specs.Words.{asks_spurious}

-- it was found that no order shows the question
abbrev pub is_never : Finding → Bool
is_never finding.Never = true
is_never finding.Shown = false
is_never (finding.NotWithin n) = false
is_never (finding.Wanting n) = false
is_never (finding.Ended n) = false

-- which option has orders with such words
unfoldable pub spurious_line : List ℕ → List ℕ
spurious_line asked = head asked ++ codes "only with --spurious orders have 'ipi none' and 'ipi held'" ++ codes "\n"

abbrev pub spurious_note : List ℕ → Bool → List Step → List ℕ
spurious_note asked spurious question = if not spurious && asks_spurious question then spurious_line asked else []

-- how many steps come of so many
unfoldable pub no_step : ℕ → List ℕ
no_step count = codes "no order has step 1 of " ++ decimal count

unfoldable pub one_step : ℕ → List ℕ
one_step count = codes "some order has step 1 of " ++ decimal count ++ codes ", and none has step 2 after it"

unfoldable pub more_steps : ℕ → ℕ → List ℕ
more_steps n count =
    codes "some order has steps 1 to " ++ decimal n ++ codes " of " ++ decimal count ++ codes ", and none has step " ++ decimal (n + 1)
    ++ codes " after them"

abbrev pub steps_text : ℕ → ℕ → List ℕ
steps_text n count = if n == 0 then no_step count else if n == 1 then one_step count else more_steps n count

unfoldable pub steps_line : List ℕ → ℕ → ℕ → List ℕ
steps_line asked n count = head asked ++ steps_text n count ++ codes "\n"

abbrev pub steps_note : List ℕ → ℕ → ℕ → List ℕ
steps_note asked n count = if nat_lt 1 count then steps_line asked n count else []

-- an event of some order has a pattern, or none has
unfoldable pub pattern_line : List ℕ → List ℕ → Bool → List ℕ
pattern_line asked pattern has =
    head asked ++ (if has then codes "an event of some order has '" else codes "no event of any order has '") ++ pattern ++ codes "'" ++ codes "\n"

-- why none has
abbrev pub plain_note : List ℕ → Setup → Option Item → List ℕ
plain_note asked c None = []
plain_note asked c (Some item) = fact_note asked c item

abbrev pub reason_of : List ℕ → Setup → Result (List Step) (QuestionFault × ℕ) → List ℕ
reason_of asked c (Ok question) = plain_note asked c (plain_item question)
reason_of asked c (Err fault) = []

abbrev pub reason : List ℕ → Setup → List ℕ → List ℕ
reason asked c pattern = reason_of asked c (question_in c.names pattern)

-- what is told of a pattern, by whether an event has it, where that is known
abbrev pub pattern_note : List ℕ → Setup → List ℕ → Option Bool → List ℕ
pattern_note asked c pattern None = []
pattern_note asked c pattern (Some true) = pattern_line asked pattern true
pattern_note asked c pattern (Some false) = pattern_line asked pattern false ++ reason asked c pattern
