use Rattle.std.proofs.Common.{rules}
use Rattle.fmp_trace_check.specs.declared.checking.Verdict.TheVariants.{Yes}
use Rattle.std.proofs.lemmas.Result.{err_from_is_err_and}
use Rattle.fmp_run_view.specs.declared.run.PageKind.TheVariants.{Own}
use Rattle.fmp_run_view.proofs.JudgedTexts.{shown_of_texts, late_owes, leaves_of_texts}
use Rattle.fmp_run_view.proofs.run.run_view.Goals as goal

pub returns-in_err-configuration-clause-owes : goal.returns-in_err-configuration-clause-owes
returns-in_err-configuration-clause-owes g c =
    let p = err_from_is_err_and c.from_residual.result c.from_residual.ensures.1 in
    record {
      texts = rw (p.1, p.2) c.in_err-configuration.ensures.texts;
      reads = search rules;
      sink = search rules;
    }

pub returns-in_err-show_judged-clause-owes : goal.returns-in_err-show_judged-clause-owes
returns-in_err-show_judged-clause-owes g c =
    let p = err_from_is_err_and c.from_residual-in_err-show_judged.result c.from_residual-in_err-show_judged.ensures.1 in
    record {
      texts = rw (p.1, p.2) (late_owes _ _ _ _ _ c.in_err-show_judged.ensures.kinds);
      reads = search rules;
      sink = search rules;
    }

pub returns-clause-owes : goal.returns-clause-owes
returns-clause-owes g c =
    record {
      texts = c.in_ok-configuration.ensures.texts;
      reads = search rules;
      sink = search rules;
    }

pub returns-in_err-show_judged-clause-writes : goal.returns-in_err-show_judged-clause-writes
returns-in_err-show_judged-clause-writes g c =
    let p = err_from_is_err_and c.from_residual-in_err-show_judged.result c.from_residual-in_err-show_judged.ensures.1 in
    let read = c.in_ok-configuration in
    let judged = read.judged in
    record {
      shown = search rules;
      passed = search rules;
      all_passed = search rules;
      same = search rules;
      leaves = λ tells tells_too tell.
          rw (p.1, p.2) (leaves_of_texts _ _ _ _ judged.text.items read.configuration (read.ensures.says tells) (read.ensures.made tells_too).whole c.args.kind _ (c.in_err-show_judged.ensures.leaves tell));
    }

pub returns-clause-writes : goal.returns-clause-writes
returns-clause-writes g c =
    let read = c.in_ok-configuration in
    let judged = read.judged in
    record {
      shown = λ tells tells_too tell.
          shown_of_texts _ _ _ _ judged.text.items read.configuration (read.ensures.says tells) (read.ensures.made tells_too).whole c.args.kind judged.verdict read.ensures.keeps (c.in_ok-show_judged.ensures.shown tell);
      passed = search rules;
      all_passed = search rules;
      same = λ tells tells_too tell yes.
          shown_of_texts _ _ _ _ judged.text.items read.configuration (read.ensures.says tells) (read.ensures.made tells_too).whole Own Yes (rw yes at read.ensures.keeps) (c.in_ok-show_judged.ensures.same tell yes);
      leaves = search rules;
    }
