use Rattle.std.proofs.Common.{rules}
use Rattle.std.proofs.lemmas.Result.{err_from_is_err_and}
use Rattle.fmp_run_texts.proofs.RightConfig.{no_fault}
use Rattle.fmp_run_list.proofs.run.run_list.Goals as goal

pub returns-in_err-configuration-clause-owes : goal.returns-in_err-configuration-clause-owes
returns-in_err-configuration-clause-owes g c =
    let p = err_from_is_err_and c.from_residual.result c.from_residual.ensures.1 in
    record {
      config_read = search rules;
      right = λ tells setup says.
          rw (p.1, p.2) (no_fault _ setup c.in_err-configuration.field-0.0 says (c.in_err-configuration.ensures.fault tells) c.in_err-configuration.ensures.kinds.0);
      config_fault = search rules;
      no_text_fault = search rules;
      no_thread_fault = search rules;
      reads = search rules;
      sink = search rules;
    }
