-- What a search is given that is asked a question over a configuration and scripts.
use Rattle.std.specs.Prelude.{◌≡◌, ℕ, false, [], Result, OnOk, IfOk, IfErr}
use Rattle.fmp_names.specs.Names.{NameLists}
use Rattle.fmp_text_scripts.specs.ScriptGrammar.{SpellsScripts}
use Rattle.fmp_text_scripts.specs.Scripts.{AreInBits}
use Rattle.fmp_search_question.specs.declared.fault.QuestionFault.{QuestionFault}
use Rattle.fmp_run_devices.specs.Devices.{IsKnown, bytes_of}
use Rattle.fmp_run_devices.specs.Ends.{Ends, SourceEnd}
use Rattle.fmp_run_texts.specs.Faults.{failed_write, is_thread_fault}
use Rattle.fmp_run_texts.specs.Texts.{CountsReads, SaysConfig}
use Rattle.fmp_run_explore.specs.declared.asking.Asked.{Asked}
use Rattle.fmp_run_explore.specs.declared.fault.ExploreFault.{ExploreFault}
use Rattle.fmp_run_explore.specs.Faults.{IsConfigFault, IsScriptFault, QuestionFaultOver, as_run}

-- A configuration and scripts, both of which are read to their ends, and a question. `Asks` says that this is asked for these names, `Keeps` what holds
-- of it whatever is asked, and `IsFault` which fault that has.
pub record ReadsAsked {Q : Type 0} (Asks : NameLists → Q → Type 0) (Keeps : Q → Type 0) (IsFault : NameLists → QuestionFault → ℕ → Type 0)
    (config scripts : Ends SourceEnd) (result : Result (Asked Q) ExploreFault) : Type 0 where
  pub says : IsKnown config.old.left → IfOk result (λ asked. SaysConfig (bytes_of config.old.left) asked.config)
  pub spells : IsKnown scripts.old.left → IfOk result (λ asked. SpellsScripts asked.config.names (bytes_of scripts.old.left) asked.scripts)
  pub in_bits : IfOk result (λ asked. AreInBits asked.scripts)
  pub asks : IfOk result (λ asked. Asks asked.config.names asked.question)
  pub keeps : IfOk result (λ asked. Keeps asked.question)
  pub config_read : IsKnown config.old.left → OnOk result (bytes_of config.new.left ≡ [])
  pub scripts_read : IsKnown scripts.old.left → OnOk result (bytes_of scripts.new.left ≡ [])
  pub config_fault : IsKnown config.old.left → IfErr result (IsConfigFault (bytes_of config.old.left))
  pub script_fault : IsKnown config.old.left → IsKnown scripts.old.left → IfErr result (IsScriptFault (bytes_of config.old.left) (bytes_of scripts.old.left))
  pub question_fault : IsKnown config.old.left → IfErr result (QuestionFaultOver IsFault (bytes_of config.old.left))
  pub reads : CountsReads (as_run result) config.old.failures config.new.failures scripts.old.failures scripts.new.failures
  pub no_write : failed_write (as_run result) ≡ false
  pub no_thread_fault : IfErr (as_run result) (λ fault. is_thread_fault fault ≡ false)
