use Rattle.std.proofs.Common.{rules}
use Rattle.std.proofs.lemmas.Result.{err_from_is_err_and}
use Rattle.fmp_run_devices.specs.Devices.{bytes_of}
use Rattle.fmp_run_texts.proofs.Owed.{fault_over, no_config_fault, no_text_fault}
use Rattle.fmp_run_texts.proofs.reading.texts_from.Goals as goal

pub returns-in_err-configuration : goal.returns-in_err-configuration
returns-in_err-configuration g c =
    let p = err_from_is_err_and c.from_residual.result c.from_residual.ensures.1 in
    let IsFault = g.T.Reader.is_fault c.args.reader.now in
    let config_text = bytes_of (g.R.Source.left c.args.config.now) in
    let text = bytes_of (g.S.Source.left c.args.text.now) in
    record {
      says = search rules;
      made = search rules;
      keeps = search rules;
      config_read = search rules;
      text_read = search rules;
      config_fault = search rules;
      text_fault = λ known known_too. rw (p.1, p.2) (no_text_fault IsFault config_text text c.in_err-configuration.field-0.0 c.in_err-configuration.ensures.kinds.0);
      reads = search rules;
      no_write = search rules;
      no_thread_fault = search rules;
    }

pub returns-in_err-made : goal.returns-in_err-made
returns-in_err-made g c =
    let p = err_from_is_err_and c.from_residual-in_err-made.result c.from_residual-in_err-made.ensures.1 in
    let IsFault = g.T.Reader.is_fault c.args.reader.now in
    let config_text = bytes_of (g.R.Source.left c.args.config.now) in
    let text = bytes_of (g.S.Source.left c.args.text.now) in
    let fault = c.in_err-made.field-0.0 in
    let made = c.in_err-made.ensures.reads in
    record {
      says = search rules;
      made = search rules;
      keeps = search rules;
      config_read = search rules;
      text_read = search rules;
      config_fault = λ known. rw (p.1, p.2) (no_config_fault config_text fault made.kinds.0);
      text_fault = λ known known_too. rw (p.1, p.2) (fault_over IsFault config_text text c.in_ok-configuration.configuration (c.in_ok-configuration.ensures.ok known) fault (made.fault known_too));
      reads = search rules;
      no_write = search rules;
      no_thread_fault = search rules;
    }
