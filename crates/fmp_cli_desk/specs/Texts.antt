-- The texts of a run at a desk: what of them was read, and why a run is not begun.
use Rattle.std.specs.Prelude.{◌≡◌, ⊤, ℕ, false, List, [], Option, Some}
use Rattle.fmp_config.specs.Limits as config
use Rattle.fmp_text.specs.Limits.{most_bytes}
use Rattle.fmp_run_devices.specs.Devices.{IsKnown, ReadUpTo, bytes_of}
use Rattle.fmp_run_texts.specs.declared.fault.RunFault.{RunFault}
use Rattle.fmp_run_texts.specs.declared.fault.RunFault.TheVariants.{Memory}
use Rattle.fmp_run_texts.specs.Faults.{is_text, is_thread_fault, is_write}
use Rattle.fmp_run_texts.specs.Texts.{FirstConfigFault}
use Rattle.fmp_cli_runs.specs.Texts.{TextEnd}
use Rattle.fmp_cli_desk.specs.declared.ending.Ending.{Ending}
use Rattle.fmp_cli_desk.specs.declared.ending.Ending.TheVariants as ending

-- these bytes were read of a text, where it is known what that has: all of it, or so much that it is longer than the limit
abbrev pub AreRead : ℕ → Option (List ℕ) → List ℕ → Type 0
AreRead limit known bytes = IsKnown known → (rest : List ℕ) × ReadUpTo limit (bytes_of known) bytes rest

-- of a text that has this nothing was read yet
pub record IsNew (known : Option (List ℕ)) (text : TextEnd) : Type 0 where
  pub left : text.left ≡ known
  pub given : text.given ≡ []
  pub ended : text.ended ≡ false
  pub failures : text.failures ≡ 0

-- nor of one that has the bytes which were read whole of another text
pub record IsWhole (known : Option (List ℕ)) (text : TextEnd) : Type 0 where
  pub bytes : List ℕ
  pub are : AreRead most_bytes known bytes
  pub is : IsNew (Some bytes) text

-- a fault for which the other text is not wanted: the first one of the configuration, want of memory, or that a text cannot be read
pub record IsFaultBefore (config : List ℕ) (fault : RunFault) : Type 0 where
  pub first : FirstConfigFault config fault
  pub no_text : is_text fault ≡ false
  pub no_write : is_write fault ≡ false
  pub no_thread : is_thread_fault fault ≡ false

-- why a run is not begun over a configuration that has this: not both texts could be read, or the configuration has a fault
abbrev pub IsUnbegun : Option (List ℕ) → Ending → Type 0
IsUnbegun known (ending.Faulty fault texts) = AreRead config.most_bytes known texts.config.items × IsFaultBefore texts.config.items fault
IsUnbegun known (ending.Fault fault) = fault ≡ Memory
IsUnbegun known (ending.NoConfig cause) = ⊤
IsUnbegun known (ending.NoText cause) = ⊤
IsUnbegun known (ending.NoTrace cause) = ⊤
IsUnbegun known ending.OneInput = ⊤
IsUnbegun known ending.Unread = ⊥
IsUnbegun known (ending.Question fault place) = ⊥
IsUnbegun known ending.LongTrace = ⊥
IsUnbegun known (ending.Stray line) = ⊥
IsUnbegun known (ending.Asked fault place text) = ⊥
IsUnbegun known (ending.Name index) = ⊥
IsUnbegun known (ending.Unnamed index text) = ⊥
IsUnbegun known (ending.Unmade cause path) = ⊥
