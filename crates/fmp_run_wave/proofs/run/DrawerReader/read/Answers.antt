use Rattle.std.proofs.Common.{◌⊎◌, ℕ, List, Ok, ◌∙◌, sym, ap, subst, arith}
use Rattle.fmp_trace_check.specs.declared.checking.Verdict.{Verdict}
use Rattle.fmp_trace_check.specs.Checking.{Judges, PrintsAnswers}
use Rattle.fmp_text.specs.Events.{IsMemory}
use Rattle.fmp_trace.specs.Prints.{FirstFault, PrintsWithin}
use Rattle.fmp_run_texts.proofs.JudgedTexts.{first_or_memory, has_failed, read_length, read_whole}
use Rattle.fmp_run_wave.proofs.Drawn.{is_drawn}
use Rattle.fmp_run_wave.proofs.run.DrawerReader.read.Goals as goal

pub returns-in-Ok-clause-says : goal.returns-in-Ok-clause-says
returns-in-Ok-clause-says c =
    let text = c.args.text.items in
    let config = c.args.config.now in
    let judges : Judges config text c.in-Ok.verdict = subst (λ (t : List ℕ). Judges config t c.in-Ok.verdict) c.as_slice.ensures.value c.in-Ok.ensures.verdict in
    record {
      judges = judges;
      draws = λ is_yes.
          is_drawn config text c.in-Ok.verdict c.in_ok-drawing.drawing c.check_watched.new.watcher c.in_ok-wave-in-Ok.wave.items judges is_yes c.in_ok-drawing.ensures
          (λ records prints. c.in-Ok.ensures.watched (ap (λ (v : Verdict). Ok v) is_yes) records (subst (λ (t : List ℕ). PrintsWithin config.names t records) (sym c.as_slice.ensures.value) prints))
          c.in_ok-wave-in-Ok.ensures;
    }

pub returns-clause-fault : goal.returns-clause-fault
returns-clause-fault c = λ all rest read.
    let fault = c.in-Err.fault in
    first_or_memory _ _ _ _ fault read
    (subst (λ (t : List ℕ). FirstFault c.args.config.now.names t fault ⊎ IsMemory fault) c.as_slice.ensures.value c.in-Err.ensures.fault)

pub returns-clause-accepted : goal.returns-clause-accepted
returns-clause-accepted c = λ all rest read own.
    let text = c.args.text.items in
    let fits = read_length all text rest read in
    let short = own.1.short in
    let same = read_whole all text rest read (omega (arith, fits, short)) in
    has_failed _ _ _ (c.in-Err.ensures.answers own.0 (subst (λ (t : List ℕ). PrintsAnswers c.args.config.now t own.0) (sym (c.as_slice.ensures.value ∙ same)) own.1))
