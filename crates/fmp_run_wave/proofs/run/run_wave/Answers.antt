use Rattle.std.proofs.Common.{refl, rules}
use Rattle.std.proofs.lemmas.Result.{err_from_is_err_and}
use Rattle.fmp_run_texts.specs.Traces.{FirstTraceFault}
use Rattle.fmp_run_texts.specs.declared.fault.RunFault.TheVariants.{Write}
use Rattle.fmp_run_texts.proofs.Owed.{failed_late}
use Rattle.fmp_run_wave.proofs.JudgedTexts.{drawn_of_texts}
use Rattle.fmp_run_wave.proofs.run.run_wave.Goals as goal

pub returns-in_err-_config-clause-owes : goal.returns-in_err-_config-clause-owes
returns-in_err-_config-clause-owes g c =
    let p = err_from_is_err_and c.from_residual.result c.from_residual.ensures.1 in
    record {
      texts = rw (p.1, p.2) c.in_err-_config.ensures.texts;
      reads = search rules;
      sink = search rules;
    }

pub returns-in_err-write_drawn-clause-owes : goal.returns-in_err-write_drawn-clause-owes
returns-in_err-write_drawn-clause-owes g c =
    let p = err_from_is_err_and c.from_residual-in_err-write_drawn.result c.from_residual-in_err-write_drawn.ensures.1 in
    record {
      texts = rw (p.1, p.2, c.in_err-write_drawn.ensures.kinds) (failed_late FirstTraceFault _ _ _ _ Write refl refl refl tt);
      reads = search rules;
      sink = search rules;
    }

pub returns-clause-writes : goal.returns-clause-writes
returns-clause-writes g c =
    let read = c.in_ok-_config in
    let wrote = c.in_ok-write_drawn.ensures in
    record {
      drawn = λ tells tells_too tell.
          drawn_of_texts _ _ _ _ read._config (read.ensures.says tells) read.judged.verdict read.judged.wave.items (read.ensures.made tells_too) (wrote.yes tell) (wrote.no tell);
      passed = search rules;
      leaves = search rules;
    }

pub returns-clause-owes : goal.returns-clause-owes
returns-clause-owes g c =
    record {
      texts = c.in_ok-_config.ensures.texts;
      reads = search rules;
      sink = search rules;
    }
