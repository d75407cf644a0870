-- The faults of a search through the orders that go on from a trace. Those of a search from boot are as in `fmp_run_explore`.
use Rattle.std.specs.Prelude.{◌≡◌, ℕ, false, List, Result, Ok, Err, IfErr}
use Rattle.fmp_search_orders.specs.declared.rules.Rules.{Rules}
use Rattle.fmp_run_devices.specs.Devices.{IsKnown, bytes_of}
use Rattle.fmp_run_devices.specs.Ends.{Ends, SinkEnd, SourceEnd}
use Rattle.fmp_run_texts.specs.Faults.{is_thread_fault}
use Rattle.fmp_run_texts.specs.Owed.{OwesTexts}
use Rattle.fmp_run_texts.specs.declared.fault.RunFault.{RunFault}
use Rattle.fmp_run_texts.specs.declared.status.Status.{Status}
use Rattle.fmp_run_texts.specs.declared.status.Status.TheVariants.{Faulty}
use Rattle.fmp_run_explore.specs.Faults as explore
use Rattle.fmp_run_explore_from.specs.declared.fault.FromFault.{FromFault}
use Rattle.fmp_run_explore_from.specs.declared.fault.FromFault.TheVariants.{Explore, Long, Stray}
use Rattle.fmp_run_explore_from.specs.Strays.{IsStray}

-- how the program ends after a fault
abbrev pub status_of : FromFault → Status
status_of (Explore fault) = explore.status_of fault
status_of Long = Faulty
status_of (Stray n) = Faulty

-- how a run ended, but for its question and the trace: what devices and memory did, and the two texts
abbrev pub as_run : {T : Type 0} → Result T FromFault → Result (Unit {0}) RunFault
as_run (Ok value) = Ok tt
as_run (Err (Explore fault)) = explore.as_run {T = Unit {0}} (Err fault)
as_run (Err Long) = Ok tt
as_run (Err (Stray n)) = Ok tt

-- a fault of a text or of the question is its first one
abbrev pub IsConfigFault : List ℕ → FromFault → Type 0
IsConfigFault config_text (Explore fault) = explore.IsConfigFault config_text fault
IsConfigFault config_text Long = Unit {0}
IsConfigFault config_text (Stray n) = Unit {0}

abbrev pub IsScriptFault : List ℕ → List ℕ → FromFault → Type 0
IsScriptFault config_text script_text (Explore fault) = explore.IsScriptFault config_text script_text fault
IsScriptFault config_text script_text Long = Unit {0}
IsScriptFault config_text script_text (Stray n) = Unit {0}

abbrev pub IsQuestionFault : List ℕ → List ℕ → FromFault → Type 0
IsQuestionFault config_text text (Explore fault) = explore.IsQuestionFault config_text text fault
IsQuestionFault config_text text Long = Unit {0}
IsQuestionFault config_text text (Stray n) = Unit {0}

-- a line of the trace that no order has is the first one
abbrev pub IsStrayFault : List ℕ → List ℕ → Rules → List ℕ → FromFault → Type 0
IsStrayFault config_text script_text rules begun_text (Explore fault) = Unit {0}
IsStrayFault config_text script_text rules begun_text Long = Unit {0}
IsStrayFault config_text script_text rules begun_text (Stray n) = IsStray config_text script_text rules begun_text n

-- What such a run owes to both texts, to its question and to its devices, whatever it writes.
pub record OwesSearchFrom {T : Type 0} (IsAskedFault : List ℕ → FromFault → Type 0) (config scripts : Ends SourceEnd) (output : Ends SinkEnd)
    (result : Result T FromFault) : Type 0 where
  -- what it owes to both texts and to its devices
  pub texts : OwesTexts IsConfigFault IsScriptFault config scripts output (as_run result) result
  -- a fault of the question is its first one, for the names of a right configuration
  pub question_fault : IsKnown config.old.left → IfErr result (IsAskedFault (bytes_of config.old.left))
  -- no thread was started, so that none could fail
  pub no_thread_fault : IfErr (as_run result) (λ fault. is_thread_fault fault ≡ false)
