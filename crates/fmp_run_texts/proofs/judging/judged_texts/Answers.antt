use Rattle.std.proofs.Common.{Ok, Err, rules, subst}
use Rattle.std.proofs.lemmas.Result.{err_from_is_err_and}
use Rattle.fmp_names.specs.Names.{AreValid}
use Rattle.fmp_setup.specs.Setup.{Setup}
use Rattle.fmp_run_devices.specs.Devices.{bytes_of}
use Rattle.fmp_run_texts.specs.Texts.{FaultOver}
use Rattle.fmp_run_texts.proofs.Owed.{config_refused, fault_over, no_text_fault, trace_judged}
use Rattle.fmp_run_texts.proofs.Grammars.{one_config, only_memory}
use Rattle.fmp_run_texts.proofs.judging.judged_texts.Goals as goal

pub returns-in_err-configuration : goal.returns-in_err-configuration
returns-in_err-configuration g c =
    let p = err_from_is_err_and c.from_residual.result c.from_residual.ensures.1 in
    let refused = c.in_err-configuration.ensures in
    let fault = c.in_err-configuration.field-0.0 in
    let IsFault = g.J.Reader.is_fault c.args.judge.now in
    let config_text = bytes_of (g.R.Source.left c.args.config.now) in
    let trace = bytes_of (g.S.Source.left c.args.trace.now) in
    record {
      says = search rules;
      made = search rules;
      keeps = search rules;
      accepted = λ known known_too config says own. rw (p.1, p.2) (only_memory config_text config fault says (refused.fault known) refused.kinds.0);
      texts = rw (p.1, p.2) (config_refused (FaultOver IsFault) _ _ _ _ fault refused.fault refused.kinds.0 refused.no_thread_fault (no_text_fault IsFault config_text trace fault refused.kinds.0));
      reads = search rules;
      no_write = search rules;
    }

pub returns-in_err-made : goal.returns-in_err-made
returns-in_err-made g c =
    let p = err_from_is_err_and c.from_residual-in_err-made.result c.from_residual-in_err-made.ensures.1 in
    let j = c.args.judge.now in
    let config = c.in_ok-configuration.configuration in
    let says = c.in_ok-configuration.ensures.ok in
    let fault = c.in_err-made.field-0.0 in
    let made = c.in_err-made.ensures.reads in
    let accepted = c.in_err-made.ensures.accepted in
    let trace = bytes_of (g.S.Source.left c.args.trace.now) in
    let IsFault = g.J.Reader.is_fault j in
    let config_text = bytes_of (g.R.Source.left c.args.config.now) in
    record {
      says = search rules;
      made = search rules;
      keeps = search rules;
      accepted = λ known known_too other says_too own.
          rw (p.1, p.2) (accepted known_too (subst (λ (s : Setup). g.J.Reader.accepts j s trace) (one_config _ other config says_too (says known)) own));
      texts = rw (p.1, p.2) (trace_judged (FaultOver IsFault) _ _ _ _ config (Err fault) says c.in_ok-configuration.ensures.read c.names.ensures.valid (subst AreValid c.names.ensures.value c.validity.ensures)
          (λ known events prints. accepted known (g.met.J.Judge.own j config trace events prints)) made.read
          (λ known known_too. fault_over IsFault config_text trace config (says known) fault (made.fault known_too)) made.kinds made.no_thread_fault);
      reads = search rules;
      no_write = search rules;
    }

pub returns : goal.returns
returns g c =
    let j = c.args.judge.now in
    let config = c.in_ok-configuration.configuration in
    let says = c.in_ok-configuration.ensures.ok in
    let made = c.in_ok-made.made in
    let accepted = c.in_ok-made.ensures.accepted in
    let trace = bytes_of (g.S.Source.left c.args.trace.now) in
    let IsFault = g.J.Reader.is_fault j in
    let config_text = bytes_of (g.R.Source.left c.args.config.now) in
    record {
      says = search rules;
      made = search rules;
      keeps = search rules;
      accepted = λ known known_too other says_too own.
          accepted known_too (subst (λ (s : Setup). g.J.Reader.accepts j s trace) (one_config _ other config says_too (says known)) own);
      texts = trace_judged (FaultOver IsFault) _ _ _ _ config (Ok (g.J.Reader.verdict j made)) says c.in_ok-configuration.ensures.read c.names.ensures.valid (subst AreValid c.names.ensures.value c.validity.ensures)
          (λ known events prints. accepted known (g.met.J.Judge.own j config trace events prints)) c.in_ok-made.ensures.reads.read (λ known known_too. tt) tt tt;
      reads = search rules;
      no_write = search rules;
    }
