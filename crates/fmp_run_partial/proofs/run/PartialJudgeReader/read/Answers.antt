use Rattle.std.proofs.Common.{ℕ, List, ◌∙◌, sym, subst, arith, inl, inr}
use Rattle.fmp_trace_check.specs.Checking.{PrintsAnswers}
use Rattle.fmp_run_partial.specs.Verdicts.{PartlyPrintsAnswers}
use Rattle.fmp_run_partial.specs.Partials.{IsFirstOfPartial}
use Rattle.fmp_run_texts.proofs.JudgedTexts.{has_failed, read_length, read_whole}
use Rattle.fmp_run_partial.proofs.PartialTexts.{first_or_memory}
use Rattle.fmp_run_partial.proofs.run.PartialJudgeReader.read.Goals as goal

pub returns-clause-fault : goal.returns-clause-fault
returns-clause-fault c = λ all rest read.
    let fault = c.in-Err.fault in
    first_or_memory _ _ _ _ fault read
    (subst (λ (t : List ℕ). IsFirstOfPartial c.args.config.now.names t fault) c.as_slice.ensures.value c.in-Err.ensures.fault)

pub returns-clause-accepted : goal.returns-clause-accepted
returns-clause-accepted c = λ all rest read. elim [
  | inl own ↦
      let text = c.args.text.items in
      let fits = read_length all text rest read in
      let short = own.1.short in
      let same = read_whole all text rest read (omega (arith, fits, short)) in
      has_failed _ _ _ (c.in-Err.ensures.own own.0 (subst (λ (t : List ℕ). PrintsAnswers c.args.config.now t own.0) (sym (c.as_slice.ensures.value ∙ same)) own.1))
  | inr own ↦
      let text = c.args.text.items in
      let fits = read_length all text rest read in
      let short = own.1.short in
      let same = read_whole all text rest read (omega (arith, fits, short)) in
      has_failed _ _ _ (c.in-Err.ensures.answers own.0 (subst (λ (t : List ℕ). PartlyPrintsAnswers c.args.config.now t own.0) (sym (c.as_slice.ensures.value ∙ same)) own.1))
]
