use Rattle.std.proofs.Common.{refl, rules}
use Rattle.std.proofs.lemmas.Result.{err_from_is_err_and}
use Rattle.fmp_run_texts.specs.Traces.{FirstTraceFault}
use Rattle.fmp_run_texts.specs.declared.fault.RunFault.TheVariants.{Write}
use Rattle.fmp_run_texts.proofs.Owed.{failed_late}
use Rattle.fmp_run_events.proofs.check.run_check.Goals as goal

pub returns-in_err-_config-clause-owes : goal.returns-in_err-_config-clause-owes
returns-in_err-_config-clause-owes g c =
    let p = err_from_is_err_and c.from_residual.result c.from_residual.ensures.1 in
    record {
      texts = rw (p.1, p.2) c.in_err-_config.ensures.texts;
      reads = search rules;
      sink = search rules;
    }

pub returns-in_err-write_out-clause-owes : goal.returns-in_err-write_out-clause-owes
returns-in_err-write_out-clause-owes g c =
    let p = err_from_is_err_and c.from_residual-in_err-write_out.result c.from_residual-in_err-write_out.ensures.1 in
    record {
      texts = rw (p.1, p.2) (failed_late FirstTraceFault _ _ _ _ Write refl refl refl tt);
      reads = search rules;
      sink = search rules;
    }

pub returns-clause-owes : goal.returns-clause-owes
returns-clause-owes g c =
    record {
      texts = c.in_ok-_config.ensures.texts;
      reads = search rules;
      sink = search rules;
    }
