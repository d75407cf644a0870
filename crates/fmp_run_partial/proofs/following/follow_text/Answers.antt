use Rattle.std.proofs.Common.{subst}
use Rattle.fmp_names.specs.Names.{AreValid}
use Rattle.fmp_run_partial.proofs.PartlyPrinted.{is_judged, has_one, is_answered, is_own, is_first_fault}
use Rattle.fmp_run_partial.proofs.following.follow_text.Goals as goal

pub returns : goal.returns
returns c =
    let names_valid = subst AreValid c.names.ensures.value c.validity.ensures in
    let valid = c.names.ensures.valid in
    record {
      verdict = is_judged c.args.config.now c.args.text.now valid names_valid c.judge.result c.judge.ensures;
      complete = has_one c.args.config.now c.args.text.now valid names_valid c.judge.result c.judge.ensures;
      answers = is_answered c.args.config.now c.args.text.now valid names_valid c.judge.result c.judge.ensures;
      own = is_own c.args.config.now c.args.text.now valid names_valid c.judge.result c.judge.ensures;
      fault = is_first_fault c.args.config.now c.args.text.now valid names_valid c.judge.result c.judge.ensures;
    }
