-- The faults of a run.
use Rattle.std.specs.Prelude.{◌≡◌, ℕ, Bool, true, false, List, ◌++◌, Result, Ok, Err, codes}
use Rattle.fmp_config.specs.Faults.{text_of as config_text_of}
use Rattle.fmp_text.specs.Faults.{text_of as text_text_of}
use Rattle.fmp_text.specs.declared.fault.TextFault.{TextFault}
use Rattle.fmp_run_devices.specs.declared.whole.ReadFault.{ReadFault}
use Rattle.fmp_run_devices.specs.declared.whole.ReadFault.TheVariants as read
use Rattle.fmp_run_texts.specs.declared.fault.RunFault.{RunFault}
use Rattle.fmp_run_texts.specs.declared.fault.RunFault.TheVariants as run

-- the run's fault where a text was not read
abbrev pub read_fault_of : ReadFault → RunFault
read_fault_of read.Failed = run.Read
read_fault_of read.Memory = run.Memory

abbrev pub is_read : RunFault → Bool
is_read run.Read = true
is_read other = false

abbrev pub is_write : RunFault → Bool
is_write run.Write = true
is_write other = false

abbrev pub is_config : RunFault → Bool
is_config (run.Config fault) = true
is_config other = false

abbrev pub is_text : RunFault → Bool
is_text (run.Text fault) = true
is_text other = false

-- a fault that only threads have
abbrev pub is_thread_fault : RunFault → Bool
is_thread_fault run.Start = true
is_thread_fault run.Disagree = true
is_thread_fault other = false

-- a fault of the run's text that is no configuration, or want of memory: no device failed, and no thread
pub record IsOfText (fault : RunFault) : Type 0 where
  pub no_config : is_config fault ≡ false
  pub no_read : is_read fault ≡ false
  pub no_write : is_write fault ≡ false
  pub no_thread : is_thread_fault fault ≡ false

-- where the fault is one of that text, this holds of it
abbrev pub OnText : (TextFault → Type 0) → RunFault → Type 0
OnText Holds (run.Text fault) = Holds fault
OnText Holds other = Unit {0}

-- the run ended with a failed read, or with a failed write
abbrev pub failed_read : {T : Type 0} → Result T RunFault → Bool
failed_read (Ok value) = false
failed_read (Err fault) = is_read fault

abbrev pub failed_write : {T : Type 0} → Result T RunFault → Bool
failed_write (Ok value) = false
failed_write (Err fault) = is_write fault

-- a fault without its path
abbrev pub text_of : RunFault → List ℕ
text_of (run.Config fault) = config_text_of fault
text_of (run.Text fault) = text_text_of fault
text_of run.Read = codes "read failed"
text_of run.Write = codes "write failed"
text_of run.Memory = codes "want of memory"
text_of run.Start = codes "no thread could be started"
text_of run.Disagree = codes "receipts disagree"

-- the line that tells a fault, with the path of the configuration or of the other text where that has it
abbrev pub fault_line : List ℕ → List ℕ → RunFault → List ℕ
fault_line config text (run.Config fault) = codes "fmpsim: " ++ config ++ codes ": " ++ config_text_of fault
fault_line config text (run.Text fault) = codes "fmpsim: " ++ text ++ codes ": " ++ text_text_of fault
fault_line config text other = codes "fmpsim: " ++ text_of other
