use Rattle.std.proofs.Common.{◌≡◌, ◌⊎◌, ◌∙◌, ap, sym, subst, Result, Err, List}
use Rattle.fmp_text_scripts.proofs.SpelledScripts.{text_is_spelled}
use Rattle.fmp_text_scripts.specs.Scripts.{Steps}
use Rattle.fmp_text_scripts.specs.Texts.{scripts_in}
use Rattle.fmp_text.specs.declared.fault.TextFault.{TextFault}
use Rattle.fmp_text.specs.Events.{IsMemory}
use Rattle.fmp_run_texts.proofs.Prefixes.{scripts_in-prefix, scripts_in-ok}
use Rattle.fmp_run_texts.proofs.scripts.ScriptReaderReader.read.Goals as goal

pub returns-in-Ok-clause-says : goal.returns-in-Ok-clause-says
returns-in-Ok-clause-says c = rw c.names.ensures.value at (text_is_spelled _ _ _ (ap (scripts_in _) (sym c.as_slice.ensures.value) ∙ c.in-Ok.ensures.exact))

pub returns-in-Ok-clause-short : goal.returns-in-Ok-clause-short
returns-in-Ok-clause-short c = rw c.as_slice.ensures.value at (scripts_in-ok _ c.as_slice.result.now _ c.in-Ok.ensures.exact)

pub returns-clause-fault : goal.returns-clause-fault
returns-clause-fault c = λ all rest read.
    let names = c.names.result.now in
    let same = scripts_in-prefix names _ _ _ read.prefix read.whole ∙ ap (scripts_in names) (sym c.as_slice.ensures.value) in
    rw (← c.names.ensures.value) (subst (λ (r : Result (List Steps) TextFault). (r ≡ Err c.in-Err.fault) ⊎ IsMemory c.in-Err.fault) (sym same) c.in-Err.ensures.exact)

pub returns-clause-accepted : goal.returns-clause-accepted
returns-clause-accepted c = λ all rest read no. absurd no
