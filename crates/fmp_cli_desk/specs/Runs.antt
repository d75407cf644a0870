-- What became of runs at a desk: over which texts, with which output and what they promised of these, and how that ends the program.
use Rattle.std.specs.Prelude.{◌≡◌, ◌⊎◌, ℕ, Bool, List, [], Option, Some, Result, Ok, Err}
use Rattle.fmp_config.specs.Limits.{most_bytes}
use Rattle.fmp_run_devices.specs.Ends.{Ends, SinkEnd}
use Rattle.fmp_run_texts.specs.declared.fault.RunFault.TheVariants.{Memory}
use Rattle.fmp_cli_runs.specs.Texts.{TextEnd}
use Rattle.fmp_cli_desk.specs.declared.ending.Ending.{Ending}
use Rattle.fmp_cli_desk.specs.declared.ending.Ending.TheVariants.{Fault}
use Rattle.fmp_cli_desk.specs.declared.keeping.Kept.{Kept}
use Rattle.fmp_cli_desk.specs.Endings.{with_texts}
use Rattle.fmp_cli_desk.specs.Texts.{AreRead, IsUnbegun}

-- what becomes of a run whose faults end it so, where its output was closed when the last write failed, or was not
abbrev pub settled : {T F : Type 0} → (F → Bool → Ending) → Result T F → Bool → Result T Ending
settled ending (Ok done) closed = Ok done
settled ending (Err fault) closed = Err (ending fault closed)

-- and of one that has read these texts
abbrev pub kept : {T : Type 0} → Result T Ending → Kept → Result T Ending
kept (Ok done) texts = Ok done
kept (Err ending) texts = Err (with_texts ending texts)

-- nothing was written to an output yet
pub record IsUnwritten (output : SinkEnd) : Type 0 where
  pub written : output.written ≡ Some []
  pub buffered : output.buffered ≡ []
  pub failures : output.failures ≡ 0

-- What a run promised, and what became of it.
pub record IsSettled {T F : Type 0} (Promises : Ends SinkEnd → Result T F → Type 0) (ending : F → Bool → Ending) (result : Result T Ending) : Type 0 where
  -- there is an output, to which nothing was written before, of which it promised so
  pub output : Ends SinkEnd
  pub begins : IsUnwritten output.old
  pub ended : Result T F
  pub promises : Promises output ended
  -- it was closed when the last write failed, or was not, and that is how the run ends the program
  pub closed : Bool
  pub is : result ≡ settled ending ended closed

-- a run over texts that were there: memory was wanting for an output
abbrev pub HasRun : {T F : Type 0} → (Ends SinkEnd → Result T F → Type 0) → (F → Bool → Ending) → Result T Ending → Type 0
HasRun Promises ending result = (result ≡ Err (Fault Memory)) ⊎ IsSettled Promises ending result

-- likewise over a text of which this holds before, where these are kept
pub record HasRunOver {T F : Type 0} (IsText : TextEnd → Type 0) (Promises : Ends TextEnd → Ends SinkEnd → Result T F → Type 0) (ending : F → Bool → Ending)
    (texts : Kept) (result : Result T Ending) : Type 0 where
  pub text : Ends TextEnd
  pub begins : IsText text.old
  pub run : Result T Ending
  pub has : HasRun (Promises text) ending run
  pub is : result ≡ kept run texts

-- Likewise where the configuration was read of a text that has this.
pub record HasBegun {T F : Type 0} (config : Option (List ℕ)) (IsText : TextEnd → Type 0)
    (Promises : List ℕ → Ends TextEnd → Ends SinkEnd → Result T F → Type 0) (ending : F → Bool → Ending) (result : Result T Ending) : Type 0 where
  pub texts : Kept
  pub read : AreRead most_bytes config texts.config.items
  pub over : HasRunOver IsText (Promises texts.config.items) ending texts result

-- or the run was not begun
abbrev pub IsNotBegun : {T : Type 0} → Option (List ℕ) → Result T Ending → Type 0
IsNotBegun config result = (end : Ending) × (result ≡ Err end) × IsUnbegun config end

abbrev pub HasWorked : {T F : Type 0} → Option (List ℕ) → (TextEnd → Type 0) → (List ℕ → Ends TextEnd → Ends SinkEnd → Result T F → Type 0)
    → (F → Bool → Ending) → Result T Ending → Type 0
HasWorked config IsText Promises ending result = IsNotBegun config result ⊎ HasBegun config IsText Promises ending result
