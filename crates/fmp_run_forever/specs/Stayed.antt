-- What a search for what stays for ever says, and what is written of it.
use Rattle.std.specs.Prelude.{◌≡◌, ◌≤◌, ◌<◌, ℕ, Bool, true, false, List, [], ◌++◌, length, Result, Ok, Err, codes, decimal}
use Rattle.fmp_codes.specs.declared.records.Record.{Record}
use Rattle.fmp_setup.specs.Setup.{Setup}
use Rattle.fmp_text_scripts.specs.ScriptGrammar.{SpellsScripts}
use Rattle.fmp_text_scripts.specs.Scripts.{Steps}
use Rattle.fmp_trace.specs.Lines.{lines_from}
use Rattle.fmp_trace_check.specs.Checking.{PrintsAnswers}
use Rattle.fmp_run_devices.specs.Devices.{BeginsWith}
use Rattle.fmp_smp_histories.specs.Histories.{events_of}
use Rattle.fmp_search.specs.Answers.{StopsAt}
use Rattle.fmp_search_pattern.specs.Lasting.{Lasting, is_so}
use Rattle.fmp_search_question.specs.Lasting.{lasting_in}
use Rattle.fmp_search_orders.specs.declared.rules.Rules.{Rules}
use Rattle.fmp_search_orders.specs.Lasting.{EndsSo, NoneEndsSo}
use Rattle.fmp_search_orders.specs.Places.{origin}
use Rattle.fmp_search_orders.specs.Watched.{lasting_at, watched, watched_after}
use Rattle.fmp_run_texts.specs.declared.status.Status.{Status}
use Rattle.fmp_run_texts.specs.declared.status.Status.TheVariants.{Done, Different, Limit}
use Rattle.fmp_run_texts.specs.Texts.{SaysConfig}
use Rattle.fmp_run_forever.specs.declared.staying.Staying.{Staying}
use Rattle.fmp_run_forever.specs.declared.staying.Staying.TheVariants as staying
use Rattle.fmp_run_forever.specs.declared.writing.WriteFault.{WriteFault}
use Rattle.fmp_run_forever.specs.declared.writing.WriteFault.TheVariants as unwritten

-- the text is the trace of an order of so many lines, and from its last line on what is asked under this number stays. It is a trace of this machine's
-- answers, and within the limits of texts
pub record IsStaying (c : Setup) (scripts : List Steps) (rules : Rules) (lasting : List Lasting) (turns number lines : ℕ) (text : List ℕ) : Type 0 where
  pub is_one : number < length lasting
  pub records : List Record
  pub ends : EndsSo c scripts rules (is_so (lasting_at lasting number)) records
  pub long : length records ≡ lines
  pub within : lines ≤ turns
  pub prints : text ≡ lines_from c.names 1 records
  pub answers : PrintsAnswers c text (events_of records)

-- no order of fewer lines ends so, whatever is asked
abbrev pub IsLeast : Setup → List Steps → Rules → List Lasting → ℕ → Type 0
IsLeast c scripts rules lasting lines = (k : ℕ) (h : List Record) → k < length lasting → EndsSo c scripts rules (is_so (lasting_at lasting k)) h → lines ≤ length h

-- what is known of all orders, and the text that tells it. Where that is not all, a place is as far as was asked for, the room for places was used up, memory for them
-- was wanting, or the search was ended
abbrev pub Finds : Setup → List Steps → Rules → List Lasting → ℕ → ℕ → List ℕ → Staying → Type 0
Finds c scripts rules lasting turns room text (staying.Shortest number lines) =
    IsStaying c scripts rules lasting turns number lines text × IsLeast c scripts rules lasting lines
Finds c scripts rules lasting turns room text (staying.Found number lines) = IsStaying c scripts rules lasting turns number lines text
Finds c scripts rules lasting turns room text staying.Never =
    ((k : ℕ) → k < length lasting → NoneEndsSo c scripts rules (is_so (lasting_at lasting k))) × (text ≡ codes "never\n")
Finds c scripts rules lasting turns room text (staying.NotWithin n) =
    (text ≡ codes "not within " ++ decimal n ++ codes "\n") × StopsAt watched_after (watched lasting (origin c scripts rules [])) turns room n
Finds c scripts rules lasting turns room text (staying.Wanting n) = (text ≡ codes "not within " ++ decimal n ++ codes "\n") × (n < turns)
Finds c scripts rules lasting turns room text (staying.Ended n) = (text ≡ codes "not within " ++ decimal n ++ codes "\n") × (n ≤ turns)

-- the output says what stays in the orders of the one text's machine, by the other's scripts, of what the third asks
pub record Explored (config_text script_text question_text : List ℕ) (rules : Rules) (turns room : ℕ) (output : List ℕ) (lasting : List Lasting)
    (found : Staying) : Type 0 where
  pub config : Setup
  pub scripts : List Steps
  pub says : SaysConfig config_text config
  pub spells : SpellsScripts config.names script_text scripts
  pub asks : lasting_in config.names question_text ≡ Ok lasting
  pub finds : Finds config scripts rules lasting turns room output found

-- the output was written after old, all of it
abbrev pub IsExplored : List ℕ → List ℕ → List ℕ → Rules → ℕ → ℕ → List ℕ → List ℕ → List Lasting → Staying → Type 0
IsExplored config_text script_text question_text rules turns room old new lasting found =
    (output : List ℕ) × Explored config_text script_text question_text rules turns room output lasting found × (new ≡ old ++ output)

-- a beginning of such an output was written after old
abbrev pub IsBegun : List ℕ → List ℕ → List ℕ → Rules → ℕ → ℕ → List ℕ → List ℕ → Type 0
IsBegun config_text script_text question_text rules turns room old new =
    (output : List ℕ) × (lasting : List Lasting) × (found : Staying) × Explored config_text script_text question_text rules turns room output lasting found
    × BeginsWith old output new

-- what is known of the orders of one machine was written after old, all of it, or a beginning
abbrev pub IsWritten : Setup → List Steps → Rules → List Lasting → ℕ → ℕ → List ℕ → List ℕ → Staying → Type 0
IsWritten c scripts rules lasting turns room old new found = (output : List ℕ) × Finds c scripts rules lasting turns room output found × (new ≡ old ++ output)

abbrev pub IsPartWritten : Setup → List Steps → Rules → List Lasting → ℕ → ℕ → List ℕ → List ℕ → Type 0
IsPartWritten c scripts rules lasting turns room old new =
    (output : List ℕ) × (found : Staying) × Finds c scripts rules lasting turns room output found × BeginsWith old output new

-- how the program ends after it
abbrev pub status_of : Staying → Status
status_of (staying.Shortest number lines) = Different
status_of (staying.Found number lines) = Different
status_of staying.Never = Done
status_of (staying.NotWithin n) = Limit
status_of (staying.Wanting n) = Limit
status_of (staying.Ended n) = Limit

-- a write or a flush of what was found failed
abbrev pub is_unwritten : {T : Type 0} → Result T WriteFault → Bool
is_unwritten (Ok value) = false
is_unwritten (Err unwritten.Memory) = false
is_unwritten (Err unwritten.Write) = true
