-- What the runs of seeds come to, one seed after the other, where one is looked for: one that shows what a question asks, or else one at whose end
-- nothing is left to do and a task waits.
use Rattle.std.specs.Prelude.{◌≡◌, ◌==◌, ℕ, ◌+◌, ◌≤◌, ◌<◌, Bool, true, false, not, ◌&&◌, List, [], ◌++◌, length, take, Option, None, Some, Ok, if◌then◌else◌}
use Rattle.std.specs.Global.{Vec}
use Rattle.fmp_codes.specs.declared.records.Event.{Event}
use Rattle.fmp_names.specs.Names.{NameLists}
use Rattle.fmp_setup.specs.Setup.{Setup}
use Rattle.fmp_rules.specs.Arrivals.{numbered}
use Rattle.fmp_rules.specs.Boot.{booted}
use Rattle.fmp_rules.specs.Step.{replay}
use Rattle.fmp_text_scripts.specs.ScriptGrammar.{SpellsScripts}
use Rattle.fmp_text_scripts.specs.Scripts.{Steps}
use Rattle.fmp_trace_check.specs.Checking.{PrintsAnswers}
use Rattle.fmp_run_devices.specs.Devices.{BeginsWith}
use Rattle.fmp_search_pattern.specs.declared.question.Step.{Step}
use Rattle.fmp_search_question.specs.declared.fault.QuestionFault.{QuestionFault}
use Rattle.fmp_search_question.specs.Reading.{question_in}
use Rattle.fmp_search_shrink.specs.Seen.{IsShownAt}
use Rattle.fmp_show_state.specs.Waits.{waiting_lines}
use Rattle.fmp_run_texts.specs.declared.status.Status.{Status}
use Rattle.fmp_run_texts.specs.declared.status.Status.TheVariants.{Done, Different, Limit, Waiting}
use Rattle.fmp_run_texts.specs.Texts.{SaysConfig}
use Rattle.fmp_run_explore.specs.declared.fault.ExploreFault.{ExploreFault}
use Rattle.fmp_run_explore.specs.Faults.{IsFirstOfQuestion, QuestionFaultOver}
use Rattle.fmp_run_seeds.specs.declared.orders.SeedRuns.{SeedRuns}
use Rattle.fmp_run_seeds.specs.declared.seeking.SeedFound.{SeedFound}
use Rattle.fmp_run_seeds.specs.declared.seeking.SeedSearch.{SeedSearch}
use Rattle.fmp_run_seeds.specs.declared.seeking.SeedSearch.TheVariants as search
use Rattle.fmp_run_seeds.specs.Orders.{AreOfSeed, rules_of}

-- the lines of the tasks that wait after these events
abbrev pub waiting_after : Setup → List Event → List ℕ
waiting_after c events = waiting_lines c.names (replay numbered (booted c) events)

-- nothing is left to do, and these lines tell of a task that waits
abbrev pub is_stuck : Bool → List ℕ → Bool
is_stuck quiet waiting = quiet && not (length waiting == 0)

-- after how many events of a run it is what is looked for: after the fewest whose answers show the question, or else after all of them
abbrev pub IsAt : SeedRuns → Setup → Option (List Step) → List Event → Bool → Option ℕ → Type 0
IsAt runs c (Some question) events quiet at = IsShownAt c (rules_of runs.order runs.limits.ticks.count) question events at
IsAt runs c None events quiet at = at ≡ (if is_stuck quiet (waiting_after c events) then Some (length events) else None)

-- the run of a seed, and after how many of its events it is what is looked for
pub record Comes (runs : SeedRuns) (c : Setup) (scripts : List Steps) (asked : Option (List Step)) (seed : ℕ) (events : List Event) (at : Option ℕ) : Type 0 where
  pub quiet : Bool
  pub run : AreOfSeed runs.order seed c scripts runs.limits.ticks.count runs.limits.turns.count events quiet
  pub is_at : IsAt runs c asked events quiet at

-- the run of this seed is not what is looked for
abbrev pub IsPassed : SeedRuns → Setup → List Steps → Option (List Step) → ℕ → Type 0
IsPassed runs c scripts asked seed = (events : List Event) × Comes runs c scripts asked seed events None

-- nor are those of the seeds from the first one up to this
abbrev pub ArePassed : SeedRuns → Setup → List Steps → Option (List Step) → ℕ → ℕ → Type 0
ArePassed runs c scripts asked first end = (seed : ℕ) → first ≤ seed → seed < end → IsPassed runs c scripts asked seed

-- the events of the run of this seed up to where it is what is looked for, or it is not
abbrev pub Reaches : SeedRuns → Setup → List Steps → Option (List Step) → ℕ → Option (Vec Event) → Type 0
Reaches runs c scripts asked seed None = IsPassed runs c scripts asked seed
Reaches runs c scripts asked seed (Some front) =
    (events : List Event) × (at : ℕ) × Comes runs c scripts asked seed events (Some at) × (at ≤ length events) × (front.items ≡ take at events)

-- the run of this seed is what is looked for after so many lines, the text is the trace of this machine's answers up to there, and within the
-- limits of texts, and these lines tell the tasks that wait there
pub record IsFound (runs : SeedRuns) (c : Setup) (scripts : List Steps) (asked : Option (List Step)) (text : List ℕ) (seed line : ℕ) (waiting : List ℕ) : Type 0 where
  pub events : List Event
  pub comes : Comes runs c scripts asked seed events (Some line)
  pub within : line ≤ length events
  pub answers : PrintsAnswers c text (take line events)
  pub tells : waiting ≡ waiting_after c (take line events)

-- the run of a seed is such a one, of which this is told and written, or it is not
abbrev pub Tries : SeedRuns → Setup → List Steps → Option (List Step) → ℕ → Option (SeedFound × Vec ℕ) → Type 0
Tries runs c scripts asked seed None = IsPassed runs c scripts asked seed
Tries runs c scripts asked seed (Some found) =
    IsFound runs c scripts asked found.1.items seed found.0.line found.0.waiting.items × (found.0.seed ≡ seed)

-- what is known of the seeds from the first to the last, both included, and the text that is written of it: the first whose run is what is
-- looked for is this one, there is none, or there is none up to the one after which the search was ended
abbrev pub Seeks : SeedRuns → Setup → List Steps → Option (List Step) → ℕ → ℕ → List ℕ → SeedSearch → Type 0
Seeks runs c scripts asked first last text (search.Found found) =
    IsFound runs c scripts asked text found.seed found.line found.waiting.items × (first ≤ found.seed) × (found.seed ≤ last)
    × ArePassed runs c scripts asked first found.seed
Seeks runs c scripts asked first last text search.Passed = ArePassed runs c scripts asked first (last + 1) × (text ≡ [])
Seeks runs c scripts asked first last text (search.Ended seed) =
    ArePassed runs c scripts asked first (seed + 1) × (first ≤ seed) × (seed < last) × (text ≡ [])

-- where the search was ended, who may end it did
abbrev pub IsEndedBy : Bool → SeedSearch → Type 0
IsEndedBy over (search.Found found) = Unit {0}
IsEndedBy over search.Passed = Unit {0}
IsEndedBy over (search.Ended seed) = over ≡ true

-- what a text asks, where there is one
abbrev pub AsksFor : NameLists → Option (List ℕ) → Option (List Step) → Type 0
AsksFor names None None = Unit {0}
AsksFor names None (Some question) = ⊥
AsksFor names (Some text) None = ⊥
AsksFor names (Some text) (Some question) = question_in names text ≡ Ok question

-- a fault of the question is the first one of its text, and there is none without a question
abbrev pub IsFirstOfAsked : Option (List ℕ) → NameLists → QuestionFault → ℕ → Type 0
IsFirstOfAsked (Some text) names fault place = IsFirstOfQuestion text names fault place
IsFirstOfAsked None names fault place = ⊥

-- the same, for the names of a right configuration
abbrev pub IsQuestionFault : List ℕ → Option (List ℕ) → ExploreFault → Type 0
IsQuestionFault config_text text = QuestionFaultOver (IsFirstOfAsked text) config_text

-- the same of the one text's machine by the other's scripts, and what the third asks
pub record Sought (config_text script_text : List ℕ) (question_text : Option (List ℕ)) (runs : SeedRuns) (first last : ℕ) (output : List ℕ)
    (found : SeedSearch) : Type 0 where
  pub config : Setup
  pub scripts : List Steps
  pub asked : Option (List Step)
  pub says : SaysConfig config_text config
  pub spells : SpellsScripts config.names script_text scripts
  pub asks : AsksFor config.names question_text asked
  pub seeks : Seeks runs config scripts asked first last output found

-- the output was written after old, all of it
abbrev pub IsSought : List ℕ → List ℕ → Option (List ℕ) → SeedRuns → ℕ → ℕ → List ℕ → List ℕ → SeedSearch → Type 0
IsSought config_text script_text question_text runs first last old new found =
    (output : List ℕ) × Sought config_text script_text question_text runs first last output found × (new ≡ old ++ output)

-- a beginning of such an output was written after old
abbrev pub IsBegun : List ℕ → List ℕ → Option (List ℕ) → SeedRuns → ℕ → ℕ → List ℕ → List ℕ → Type 0
IsBegun config_text script_text question_text runs first last old new =
    (output : List ℕ) × (found : SeedSearch) × Sought config_text script_text question_text runs first last output found × BeginsWith old output new

-- how the program ends after it, where a question was asked or was not
abbrev pub status_of : Bool → SeedSearch → Status
status_of asked (search.Found found) = if asked then Different else Waiting
status_of asked search.Passed = Done
status_of asked (search.Ended seed) = Limit
