use Rattle.std.proofs.Common.{sym, subst}
use Rattle.fmp_text.proofs.SpelledTexts.{text_is_spelled}
use Rattle.fmp_text.specs.Events.{IsFirst, Reading}
use Rattle.fmp_run_shrink.proofs.Prefixes.{reading_of-prefix, reading_of-ok}
use Rattle.fmp_run_shrink.proofs.events.EventReaderReader.read.Goals as goal

pub returns-in-Ok-clause-says : goal.returns-in-Ok-clause-says
returns-in-Ok-clause-says c = text_is_spelled _ _ _ (rw (c.names.ensures.value, c.as_slice.ensures.value) at c.in-Ok.ensures.ok)

pub returns-in-Ok-clause-short : goal.returns-in-Ok-clause-short
returns-in-Ok-clause-short c = rw c.as_slice.ensures.value at (reading_of-ok c.names.result.now c.as_slice.result.now _ c.in-Ok.ensures.ok)

pub returns-clause-fault : goal.returns-clause-fault
returns-clause-fault c = λ all rest read.
    subst (λ (r : Reading). IsFirst r c.in-Err.fault) (sym (reading_of-prefix c.args.config.now.names all c.args.text.items rest read.prefix read.whole))
    (rw (c.names.ensures.value, c.as_slice.ensures.value) at c.in-Err.ensures.err)

pub returns-clause-accepted : goal.returns-clause-accepted
returns-clause-accepted c = λ all rest read no. absurd no
