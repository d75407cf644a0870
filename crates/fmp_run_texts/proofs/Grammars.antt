-- A configuration that is read of a text is one that the text says, and it says no other.
use Rattle.std.proofs.Common.{◌≡◌, ℕ, false, List, Ok, Err, sym, ◌∙◌, inl, inr}
use Rattle.std.proofs.lemmas.Bool.{false≢true}
use Rattle.fmp_config.specs.Reading.{config_in}
use Rattle.fmp_law_config.proofs.Configured.{config_read, config_was, one_machine}
use Rattle.fmp_setup.specs.Setup.{Setup}
use Rattle.fmp_run_texts.specs.declared.fault.RunFault.{RunFault}
use Rattle.fmp_run_texts.specs.declared.fault.RunFault.TheVariants as run
use Rattle.fmp_run_texts.specs.Traces.{IsYes}
use Rattle.fmp_run_texts.specs.Faults.{is_text}
use Rattle.fmp_run_texts.specs.Texts.{FirstConfigFault, SaysConfig}
use Rattle.fmp_run_texts.proofs.Prefixes.{config_in-ok}

pub said : (text : List ℕ) (config : Setup) → config_in text ≡ Ok config → SaysConfig text config
said text config is = record { configures = config_was text config is; short = config_in-ok text config is }

pub one_config : (text : List ℕ) (a b : Setup) → SaysConfig text a → SaysConfig text b → a ≡ b
one_config text a b one other = one_machine text a b one.configures other.configures

-- a text that says a configuration has no fault but want of memory
pub only_memory : (text : List ℕ) (c : Setup) (fault : RunFault) → SaysConfig text c → FirstConfigFault text fault → is_text fault ≡ false → IsYes (Err fault)
only_memory text c (run.Config fault) says (inl (first, gives, is)) other = let reads = config_read text c says.configures says.short in absurd (let e = sym reads ∙ gives in cc)
only_memory text c (run.Config fault) says (inr memory) other = memory.0
only_memory text c (run.Text fault) says first other = absurd (false≢true (sym other))
only_memory text c run.Read says first other = tt
only_memory text c run.Write says first other = tt
only_memory text c run.Memory says first other = tt
only_memory text c run.Start says first other = tt
only_memory text c run.Disagree says first other = tt
