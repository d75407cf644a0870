use Rattle.std.proofs.Common.{subst, ◌∙◌}
use Rattle.fmp_names.specs.Names.{AreValid}
use Rattle.fmp_trace_check.proofs.CheckedTexts.{is_judged, has_one, is_own, is_answered, is_reading_fault}
use Rattle.fmp_trace_check.proofs.Watched.{watched_text}
use Rattle.fmp_trace_check.proofs.checking.check_watched.Goals as goal

pub returns : goal.returns
returns g c =
    let valid = subst AreValid c.names.ensures.value c.validity.ensures in
    record {
      verdict = is_judged c.args.config.now c.args.text.now valid c.verdict_on.result c.verdict_on.ensures.verdict;
      complete = has_one c.args.config.now c.args.text.now valid c.verdict_on.result c.verdict_on.ensures.verdict;
      own = is_own c.args.config.now c.args.text.now valid c.verdict_on.result c.verdict_on.ensures.verdict;
      answers = is_answered c.args.config.now c.args.text.now valid c.verdict_on.result c.verdict_on.ensures.verdict c.names.ensures.valid;
      fault = is_reading_fault c.args.config.now c.args.text.now valid c.verdict_on.result c.verdict_on.ensures.verdict;
      watched = λ yes records prints. c.verdict_on.ensures.watched yes ∙ watched_text g.W.Watcher.watched c.args.config.now c.args.text.now records c.args.watcher.now valid prints;
    }
