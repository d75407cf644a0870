-- A verdict as it is written, and what a run writes that writes a verdict alone.
use Rattle.std.specs.Prelude.{◌≡◌, ◌≢◌, ℕ, List, [], ◌++◌, Result, Err, OnOk, IfOk, IfErr, codes, decimal}
use Rattle.fmp_trace_check.specs.declared.checking.Verdict.{Verdict}
use Rattle.fmp_trace_check.specs.declared.checking.Verdict.TheVariants.{Yes, No}
use Rattle.fmp_run_devices.specs.Devices.{BeginsWith, IsKnown, bytes_of}
use Rattle.fmp_run_devices.specs.Ends.{Ends, SinkEnd, SourceEnd}
use Rattle.fmp_run_texts.specs.declared.fault.RunFault.{RunFault}
use Rattle.fmp_run_texts.specs.declared.fault.RunFault.TheVariants.{Write}

abbrev pub verdict_text : Verdict → List ℕ
verdict_text Yes = codes "yes\n"
verdict_text (No n) = codes "no " ++ decimal n ++ codes "\n"

-- what an answer of some kind to both texts has to be, and how it is written
abbrev pub Checking : Type 0 → Type 1
Checking V = List ℕ → List ℕ → V → Type 0

-- a beginning of a right answer was written after old
abbrev pub IsAnswerBegun : {V : Type 0} → (V → List ℕ) → Checking V → List ℕ → List ℕ → List ℕ → List ℕ → Type 0
IsAnswerBegun {V} text_of Checks config_text trace_text old new = (answer : V) × Checks config_text trace_text answer × BeginsWith old (text_of answer) new

-- what a run that writes its answer to a configuration and a trace gives and writes
pub record WritesAnswer {V : Type 0} (text_of : V → List ℕ) (Checks : Checking V) (config trace : Ends SourceEnd) (answer : Ends SinkEnd) (result : Result V RunFault) : Type 0 where
  -- the answer is right
  pub checked : IsKnown config.old.left → IsKnown trace.old.left → IfOk result (Checks (bytes_of config.old.left) (bytes_of trace.old.left))
  -- and it is what is written
  pub written : IsKnown answer.old.written → IfOk result (λ told. bytes_of answer.new.written ≡ bytes_of answer.old.written ++ text_of told)
  -- of which nothing is held back
  pub passed : OnOk result (answer.new.buffered ≡ [])
  -- after a failed write or flush a beginning of the answer is out
  pub begun : IsKnown config.old.left → IsKnown trace.old.left → IsKnown answer.old.written → result ≡ Err Write
      → IsAnswerBegun text_of Checks (bytes_of config.old.left) (bytes_of trace.old.left) (bytes_of answer.old.written) (bytes_of answer.new.written)
  -- and after any other fault nothing is
  pub unwritten : IsKnown answer.old.written → IfErr result (λ fault. fault ≢ Write → bytes_of answer.new.written ≡ bytes_of answer.old.written)

-- the same of a verdict
abbrev pub WritesVerdict : Checking Verdict → Ends SourceEnd → Ends SourceEnd → Ends SinkEnd → Result Verdict RunFault → Type 0
WritesVerdict = WritesAnswer verdict_text
