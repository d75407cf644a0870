-- What the searches say of a question that no order shows, and what is told by it.
use Rattle.std.specs.Prelude.{◌≡◌, ◌⊎◌, ℕ, Bool, true, false, List, [], ◌∷◌, ◌++◌, length, map, take, All, Option, None, Some, slice_get, MatchResult, if◌then◌else◌}
use Rattle.std.specs.Option.{option_and_then}
use Rattle.fmp_out.specs.Putting.{Adds, Putting}
use Rattle.fmp_run_explore.specs.Came.{IsCome}
use Rattle.fmp_run_explore.specs.Explored.{Finds, IsShown, status_of}
use Rattle.fmp_run_explore.specs.Searched.{Searched}
use Rattle.fmp_run_explore.specs.declared.finding.Finding.{Finding}
use Rattle.fmp_run_texts.specs.declared.status.Status.TheVariants.{Limit}
use Rattle.fmp_search_orders.specs.Shown.{NoneShows}
use Rattle.fmp_search_pattern.specs.declared.question.Step.{Step}
use Rattle.fmp_search_pattern.specs.Items.{Item}
use Rattle.fmp_search_question.specs.Reading.{question_in}
use Rattle.fmp_setup.specs.Setup.{Setup}
use Rattle.fmp_cli_notes.specs.Patterns.{words_of}
use Rattle.fmp_cli_notes.specs.Parts.{only_item, patterns_of_step}
use Rattle.fmp_cli_notes.specs.Unshown.{pattern_note, steps_note}

-- ---- patterns

-- a search did not say whether an order shows the question
pub record IsUnsaid (s : Searched) (turns room : ℕ) (question : List Step) : Type 0 where
  pub found : Finding
  pub text : List ℕ
  pub finds : Finds s.config s.scripts s.rules question turns room text found
  pub unknown : status_of found ≡ Limit

-- some order shows it, and there is a text that is its trace; or none does; or that was not said
abbrev pub IsJudgedBy : Searched → ℕ → ℕ → Option Bool → List Step → Type 0
IsJudgedBy s turns room (Some true) question = (text : List ℕ) × IsShown s.config s.scripts s.rules question turns text
IsJudgedBy s turns room (Some false) question = NoneShows s.config s.scripts s.rules question
IsJudgedBy s turns room None question = IsUnsaid s turns room question

-- a pattern is judged by the question that it spells in the names of the machine. One that spells none is not judged
abbrev pub IsJudged : Searched → ℕ → ℕ → List ℕ → Option Bool → Type 0
IsJudged s turns room pattern has = MatchResult (question_in s.config.names pattern) (IsJudgedBy s turns room has) (λ fault. has ≡ None)

-- a pattern that is all of the first step, which no order shows: so no event has it
pub record IsFirst (s : Searched) (pattern : List ℕ) (has : Option Bool) : Type 0 where
  pub item : Item
  pub first : option_and_then only_item (slice_get s.question 0) ≡ Some item
  pub positive : item.negated ≡ false
  pub words : pattern ≡ words_of item.wanted
  pub none : NoneShows s.config s.scripts s.rules (take 1 s.question)
  pub never : has ≡ Some false

abbrev pub IsKnown : Searched → ℕ → ℕ → List ℕ × Option Bool → Type 0
IsKnown s turns room known = IsJudged s turns room known.0 known.1 ⊎ IsFirst s known.0 known.1

-- a line for each pattern of which it is known whether an event has it, and behind one that none has, why
abbrev pub known_lines : List ℕ → Setup → List (List ℕ × Option Bool) → List ℕ
known_lines asked c [] = []
known_lines asked c (one ∷ known) = pattern_note asked c one.0 one.1 ++ known_lines asked c known

-- what is told of a pattern that is searched for
pub record TellsPattern (asked : List ℕ) (s : Searched) (turns room : ℕ) (pattern : List ℕ) (old new : Putting) : Type 0 where
  pub has : Option Bool
  pub judged : IsJudged s turns room pattern has
  pub told : Adds (pattern_note asked s.config pattern has) old new

-- what is told of these patterns, behind a lead
pub record TellsPatterns (lead asked : List ℕ) (s : Searched) (turns room : ℕ) (patterns : List (List ℕ)) (old new : Putting) : Type 0 where
  pub known : List (List ℕ × Option Bool)
  pub all : map (λ one. one.0) known ≡ patterns
  pub right : All (IsKnown s turns room) known
  pub told : Adds (lead ++ known_lines asked s.config known) old new

-- what is told of an item that is all of the first step
abbrev pub first_note : List ℕ → Setup → Item → List ℕ
first_note asked c item = if item.negated then [] else pattern_note asked c (words_of item.wanted) (Some false)

-- ---- steps

-- how many come: that is not known where one who may end the searches had done so before, or where one of them did not say
abbrev pub IsComeUnless : Searched → ℕ → ℕ → Bool → Option ℕ → Type 0
IsComeUnless s turns room over None = (over ≡ true) ⊎ IsCome s turns room over None
IsComeUnless s turns room over (Some n) = IsCome s turns room over (Some n)

abbrev pub come_note : List ℕ → List Step → Option ℕ → List ℕ
come_note asked question None = []
come_note asked question (Some n) = steps_note asked n (length question)

-- the patterns of the step that does not come
abbrev pub next_patterns : List Step → Option ℕ → List (List ℕ)
next_patterns question None = []
next_patterns question (Some n) = patterns_of_step (slice_get question n)

-- what is told behind a lead of a question that no order shows: how many of its steps come, and whether an event has the patterns of the next one
pub record TellsUnshown (lead asked : List ℕ) (s : Searched) (turns room : ℕ) (over : Bool) (old new : Putting) : Type 0 where
  pub come : Option ℕ
  pub steps : IsComeUnless s turns room over come
  pub told : TellsPatterns (lead ++ come_note asked s.question come) asked s turns room (next_patterns s.question come) old new
