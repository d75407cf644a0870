-- The faults of a run through all orders.
use Rattle.std.specs.Prelude.{◌≡◌, ℕ, Bool, true, false, List, ◌++◌, Result, Ok, Err, IfErr, codes, decimal}
use Rattle.fmp_names.specs.Names.{NameLists}
use Rattle.fmp_setup.specs.Setup.{Setup}
use Rattle.fmp_search_question.specs.declared.fault.QuestionFault.{QuestionFault}
use Rattle.fmp_search_question.specs.declared.fault.QuestionFault.TheVariants as question
use Rattle.fmp_search_question.specs.Reading.{question_in}
use Rattle.fmp_run_devices.specs.Devices.{IsKnown, bytes_of}
use Rattle.fmp_run_devices.specs.Ends.{Ends, SinkEnd, SourceEnd}
use Rattle.fmp_run_texts.specs.declared.fault.RunFault.{RunFault}
use Rattle.fmp_run_texts.specs.declared.fault.RunFault.TheVariants.{Memory}
use Rattle.fmp_run_texts.specs.declared.status.Status.{Status}
use Rattle.fmp_run_texts.specs.declared.status.Status.TheVariants.{Faulty}
use Rattle.fmp_run_texts.specs.Faults.{is_thread_fault}
use Rattle.fmp_run_texts.specs.Owed.{OwesTexts}
use Rattle.fmp_run_texts.specs.Statuses as statuses
use Rattle.fmp_run_texts.specs.Texts.{SaysConfig, FirstConfigFault, FirstScriptFault}
use Rattle.fmp_run_explore.specs.declared.writing.WriteFault.{WriteFault}
use Rattle.fmp_run_explore.specs.declared.writing.WriteFault.TheVariants as unwritten
use Rattle.fmp_run_explore.specs.declared.fault.ExploreFault.{ExploreFault}
use Rattle.fmp_run_explore.specs.declared.fault.ExploreFault.TheVariants.{Run, Question}

-- how the program ends after a fault
abbrev pub status_of : ExploreFault → Status
status_of (Run fault) = statuses.status_of fault
status_of (Question fault place) = Faulty

-- how a run ended, but for its question: what devices and memory did, and the two texts
abbrev pub as_run : {T : Type 0} → Result T ExploreFault → Result (Unit {0}) RunFault
as_run (Ok value) = Ok tt
as_run (Err (Run fault)) = Err fault
as_run (Err (Question fault place)) = Ok tt

-- where the fault is one that a run without a question may have, this holds of it
abbrev pub OfRun : (RunFault → Type 0) → ExploreFault → Type 0
OfRun Holds (Run fault) = Holds fault
OfRun Holds (Question fault place) = Unit {0}

-- a fault of a text is its first one
abbrev pub IsConfigFault : List ℕ → ExploreFault → Type 0
IsConfigFault config_text = OfRun (FirstConfigFault config_text)

abbrev pub IsScriptFault : List ℕ → List ℕ → ExploreFault → Type 0
IsScriptFault config_text script_text = OfRun (FirstScriptFault config_text script_text)

-- a question was not read: it has this fault, at the byte of this number from 0, or memory ran out
abbrev pub IsUnasked : (QuestionFault → ℕ → Type 0) → ExploreFault → Type 0
IsUnasked IsFault (Run fault) = fault ≡ Memory
IsUnasked IsFault (Question fault place) = IsFault fault place

-- a fault of the question is as `IsFault` says, for the names of a right configuration
abbrev pub QuestionFaultOver : (NameLists → QuestionFault → ℕ → Type 0) → List ℕ → ExploreFault → Type 0
QuestionFaultOver IsFault config_text (Run fault) = Unit {0}
QuestionFaultOver IsFault config_text (Question fault place) = (config : Setup) × SaysConfig config_text config × IsFault config.names fault place

-- one of a question of steps is the first one of its text
abbrev pub IsFirstOfQuestion : List ℕ → NameLists → QuestionFault → ℕ → Type 0
IsFirstOfQuestion text names fault place = question_in names text ≡ Err (fault, place)

abbrev pub IsQuestionFault : List ℕ → List ℕ → ExploreFault → Type 0
IsQuestionFault config_text text = QuestionFaultOver (IsFirstOfQuestion text) config_text

-- What a run that is asked a question over a configuration and another text owes to these and to its devices, whatever it writes.
pub record OwesSearch {T : Type 0} (IsTextFault : List ℕ → List ℕ → ExploreFault → Type 0) (IsAskedFault : List ℕ → ExploreFault → Type 0)
    (config text : Ends SourceEnd) (output : Ends SinkEnd) (result : Result T ExploreFault) : Type 0 where
  -- what it owes to both texts and to its devices
  pub texts : OwesTexts IsConfigFault IsTextFault config text output (as_run result) result
  -- a fault of the question is its first one, for the names of a right configuration
  pub question_fault : IsKnown config.old.left → IfErr result (IsAskedFault (bytes_of config.old.left))
  -- no thread was started, so that none could fail
  pub no_thread_fault : IfErr (as_run result) (λ fault. is_thread_fault fault ≡ false)

-- the number and the words of a fault of a question
abbrev pub words_of : QuestionFault → List ℕ
words_of question.BadWord = codes "E1 bad byte"
words_of question.BadForm = codes "E2 bad word"
words_of question.UnknownName = codes "E3 unknown name"
words_of question.TooLong = codes "E7 too many"
words_of question.NoLine = codes "E9 no such line"

-- the line that tells it, at the byte of this number
abbrev pub question_line : QuestionFault → ℕ → List ℕ
question_line fault number = codes "fmpsim: --find: byte " ++ decimal number ++ codes ": " ++ words_of fault

-- a write or a flush of what was found failed
abbrev pub is_unwritten : {T : Type 0} → Result T WriteFault → Bool
is_unwritten (Ok value) = false
is_unwritten (Err unwritten.Memory) = false
is_unwritten (Err unwritten.Write) = true
