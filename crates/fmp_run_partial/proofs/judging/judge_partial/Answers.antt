use Rattle.std.proofs.Common.{option_map, arith, subst}
use Rattle.fmp_names.specs.Names.{AreValid}
use Rattle.fmp_run_partial.proofs.Judged.{text_answers, text_complete, text_failed, text_fault, text_judged}
use Rattle.fmp_run_partial.proofs.NoEnds.{no_longer}
use Rattle.fmp_run_partial.proofs.PartlyPrinted.{whole_answers}
use Rattle.fmp_run_partial.proofs.Played.{has_few}
use Rattle.fmp_run_partial.proofs.judging.judge_partial.Goals as goal

pub show-requires : goal.show-requires
show-requires c =
    let fits = no_longer c.args.text.now c.split_ending-ends.result.0.now c.split_ending-ends.result.1 c.split_ending-ends.ensures in
    record {
      short = omega (arith, fits, c.if-text-gt-MOST_BYTES.false);
      few = has_few c.args.config.now c.split_ending-ends.result.0.now (subst AreValid c.names.ensures.value c.validity.ensures) c.in-Ok.finding.found
          (option_map (λ v. v.items) c.in-Ok.finding.order) c.in-Ok.ensures.verdict;
    }

pub returns-in_ok-show-in-Ok-clause-verdict : goal.returns-in_ok-show-in-Ok-clause-verdict
returns-in_ok-show-in-Ok-clause-verdict c =
    text_judged c.args.config.now c.args.text.now c.split_ending-ends.result.0.now c.split_ending-ends.result.1 c.split_ending-ends.ensures (omega (arith, c.if-text-gt-MOST_BYTES.false)) c.args.asked
    c.in-Ok.finding.found (option_map (λ v. v.items) c.in-Ok.finding.order) c.in_ok-show-in-Ok.field-0 c.in-Ok.ensures.verdict (rw c.to-verdict.ensures at c.in_ok-show-in-Ok.ensures)

pub returns-in_ok-show-in-Ok-clause-answers : goal.returns-in_ok-show-in-Ok-clause-answers
returns-in_ok-show-in-Ok-clause-answers c = λ events own.
    text_answers c.args.config.now c.args.text.now c.split_ending-ends.result.0.now c.split_ending-ends.result.1 c.split_ending-ends.ensures (omega (arith, c.if-text-gt-MOST_BYTES.false)) events own
    c.args.asked c.in-Ok.finding.found (option_map (λ v. v.items) c.in-Ok.finding.order) c.in_ok-show-in-Ok.field-0 c.in-Ok.ensures.verdict
    (rw c.to-verdict.ensures at c.in_ok-show-in-Ok.ensures) c.in-Ok.ensures.answers

pub returns-in_ok-show-in-Ok-clause-own : goal.returns-in_ok-show-in-Ok-clause-own
returns-in_ok-show-in-Ok-clause-own c = λ events own.
    text_answers c.args.config.now c.args.text.now c.split_ending-ends.result.0.now c.split_ending-ends.result.1 c.split_ending-ends.ensures (omega (arith, c.if-text-gt-MOST_BYTES.false)) events
    (whole_answers c.args.config.now c.args.text.now c.names.ensures.valid (subst AreValid c.names.ensures.value c.validity.ensures) events own)
    c.args.asked c.in-Ok.finding.found (option_map (λ v. v.items) c.in-Ok.finding.order) c.in_ok-show-in-Ok.field-0 c.in-Ok.ensures.verdict
    (rw c.to-verdict.ensures at c.in_ok-show-in-Ok.ensures) c.in-Ok.ensures.answers

pub returns-in-Err-clause-complete : goal.returns-in-Err-clause-complete
returns-in-Err-clause-complete c = text_complete c.args.config.now c.args.text.now c.split_ending-ends.result.0.now c.split_ending-ends.result.1 c.split_ending-ends.ensures (omega (arith, c.if-text-gt-MOST_BYTES.false)) c.in-Err.fault c.in-Err.ensures.complete

pub returns-in-Err-clause-answers : goal.returns-in-Err-clause-answers
returns-in-Err-clause-answers c = λ events own.
    text_failed c.args.config.now c.args.text.now c.split_ending-ends.result.0.now c.split_ending-ends.result.1 c.split_ending-ends.ensures (omega (arith, c.if-text-gt-MOST_BYTES.false)) events own
    c.in-Err.fault c.in-Err.ensures.answers

pub returns-in-Err-clause-own : goal.returns-in-Err-clause-own
returns-in-Err-clause-own c = λ events own.
    text_failed c.args.config.now c.args.text.now c.split_ending-ends.result.0.now c.split_ending-ends.result.1 c.split_ending-ends.ensures (omega (arith, c.if-text-gt-MOST_BYTES.false)) events
    (whole_answers c.args.config.now c.args.text.now c.names.ensures.valid (subst AreValid c.names.ensures.value c.validity.ensures) events own)
    c.in-Err.fault c.in-Err.ensures.answers

pub returns-in-Err-clause-fault : goal.returns-in-Err-clause-fault
returns-in-Err-clause-fault c = text_fault c.args.config.now c.args.text.now c.split_ending-ends.result.0.now c.split_ending-ends.result.1 c.split_ending-ends.ensures (omega (arith, c.if-text-gt-MOST_BYTES.false)) c.in-Err.fault c.in-Err.ensures.fault
