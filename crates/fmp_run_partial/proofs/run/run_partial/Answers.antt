use Rattle.std.proofs.Common.{inr, refl, rules}
use Rattle.std.proofs.lemmas.Result.{err_from_is_err_and}
use Rattle.fmp_run_texts.specs.declared.fault.RunFault.TheVariants.{Write}
use Rattle.fmp_run_texts.proofs.Owed.{failed_late}
use Rattle.fmp_run_partial.specs.Partials.{FirstPartialFault}
use Rattle.fmp_run_partial.proofs.run.run_partial.Goals as goal

pub returns-in_err-_config-clause-owes : goal.returns-in_err-_config-clause-owes
returns-in_err-_config-clause-owes g c =
    let p = err_from_is_err_and c.from_residual.result c.from_residual.ensures.1 in
    record {
      texts = rw (p.1, p.2) c.in_err-_config.ensures.texts;
      reads = search rules;
      sink = search rules;
    }

pub returns-in_err-write_out-clause-owes : goal.returns-in_err-write_out-clause-owes
returns-in_err-write_out-clause-owes g c =
    let p = err_from_is_err_and c.from_residual-in_err-write_out.result c.from_residual-in_err-write_out.ensures.1 in
    record {
      texts = rw (p.1, p.2) (failed_late FirstPartialFault _ _ _ _ Write refl refl refl tt);
      reads = search rules;
      sink = search rules;
    }

pub returns-clause-owes : goal.returns-clause-owes
returns-clause-owes g c =
    record {
      texts = c.in_ok-_config.ensures.texts;
      reads = search rules;
      sink = search rules;
    }

pub returns-in_err-_config-clause-partly : goal.returns-in_err-_config-clause-partly
returns-in_err-_config-clause-partly g c = λ tells tells_too own.
    let p = err_from_is_err_and c.from_residual.result c.from_residual.ensures.1 in
    rw (p.1, p.2) (c.in_err-_config.ensures.accepted tells tells_too own.config own.says (inr (own.events, own.prints)))

pub returns-in_err-write_out-clause-partly : goal.returns-in_err-write_out-clause-partly
returns-in_err-write_out-clause-partly g c = λ tells tells_too own.
    let p = err_from_is_err_and c.from_residual-in_err-write_out.result c.from_residual-in_err-write_out.ensures.1 in
    rw (p.1, p.2) tt

pub returns-clause-partly : goal.returns-clause-partly
returns-clause-partly g c = λ tells tells_too own. c.in_ok-_config.ensures.accepted tells tells_too own.config own.says (inr (own.events, own.prints))

pub returns-in_err-write_out-clause-writes : goal.returns-in_err-write_out-clause-writes
returns-in_err-write_out-clause-writes g c =
    let p = err_from_is_err_and c.from_residual-in_err-write_out.result c.from_residual-in_err-write_out.ensures.1 in
    record {
      checked = λ tells tells_too. rw p.1 tt;
      written = λ known. rw p.1 tt;
      passed = rw p.1 tt;
      begun = λ tells tells_too known is. (
        c.in_ok-_config.shown,
        record { config = c.in_ok-_config._config; says = c.in_ok-_config.ensures.says tells; judges = c.in_ok-_config.ensures.made tells_too },
        rw c.as_slice.ensures.value at (c.in_err-write_out.ensures.err known),
      );
      unwritten = λ known. rw (p.1, p.2) (λ other. absurd (other refl));
    }
