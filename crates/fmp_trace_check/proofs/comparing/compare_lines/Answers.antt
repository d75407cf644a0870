use Rattle.std.proofs.Common.{subst}
use Rattle.fmp_names.specs.Names.{AreValid}
use Rattle.fmp_trace_check.proofs.Compared.{contrasts, judges, is_complete, is_answers, is_first_fault}
use Rattle.fmp_trace_check.proofs.comparing.compare_lines.Goals as goal

pub returns : goal.returns
returns c =
    let valid = subst AreValid c.names.ensures.value c.validity.ensures in
    record {
      lines = contrasts c.args.shown c.args.config.now c.args.text.now valid c.comparison_of.result c.comparison_of.ensures;
      verdict = judges c.args.shown c.args.config.now c.args.text.now valid c.comparison_of.result c.comparison_of.ensures;
      complete = is_complete c.args.shown c.args.config.now c.args.text.now valid c.comparison_of.result c.comparison_of.ensures;
      answers = is_answers c.args.shown c.args.config.now c.args.text.now valid c.comparison_of.result c.comparison_of.ensures c.names.ensures.valid;
      fault = is_first_fault c.args.shown c.args.config.now c.args.text.now valid c.comparison_of.result c.comparison_of.ensures;
    }
