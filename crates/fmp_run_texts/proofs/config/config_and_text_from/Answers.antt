use Rattle.std.proofs.Common.{◌∙◌, ap, sym, subst, rules}
use Rattle.fmp_config.specs.Reading.{config_in}
use Rattle.fmp_config.specs.Faults.{IsFirstFault}
use Rattle.fmp_config.proofs.Prefixes.{IsFirstFault-prefix}
use Rattle.fmp_run_texts.proofs.Prefixes.{config_in-prefix, config_in-ok}
use Rattle.fmp_run_texts.proofs.Grammars.{said}
use Rattle.fmp_run_texts.proofs.JudgedTexts.{read_whole}
use Rattle.fmp_run_texts.proofs.config.config_and_text_from.Goals as goal

pub returns-in-Ok : goal.returns-in-Ok
returns-in-Ok g c =
    let short = rw c.as_slice.ensures.value at (config_in-ok c.as_slice.result.now _ c.in-Ok.ensures.exact) in
    record {
      ok = λ tells.
          let read = c.in_ok-text.ensures.ok tells in
          (said _ _ (config_in-prefix _ _ _ read.prefix read.whole ∙ ap config_in (sym c.as_slice.ensures.value) ∙ c.in-Ok.ensures.exact), read_whole _ _ _ read short);
      read = λ tells. (c.in_ok-text.ensures.ok tells).whole short;
      fault = search rules;
      kinds = search rules;
      no_thread_fault = search rules;
      count = search rules;
    }

pub returns-in-Err : goal.returns-in-Err
returns-in-Err g c = record {
  ok = search rules;
  read = search rules;
  fault = λ tells.
      let read = c.in_ok-text.ensures.ok tells in
      IsFirstFault-prefix _ _ _ read.prefix read.whole c.in-Err.fault (subst (λ text. IsFirstFault text c.in-Err.fault) c.as_slice.ensures.value c.in-Err.ensures.exact);
  kinds = search rules;
  no_thread_fault = search rules;
  count = search rules;
}
