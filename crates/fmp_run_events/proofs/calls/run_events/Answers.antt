use Rattle.std.proofs.Common.{[], arith, rules, subst}
use Rattle.fmp_names.specs.Names.{AreValid}
use Rattle.std.proofs.lemmas.Result.{err_from_is_err_and}
use Rattle.fmp_run_events.proofs.Ended.{config_right, early_result, first_result, flush_result, leaves_result, no_text, nothing_out, right_result, written_result}
use Rattle.fmp_run_events.proofs.calls.run_events.Goals as goal

pub returns-in_err-configuration-clause-owes : goal.returns-in_err-configuration-clause-owes
returns-in_err-configuration-clause-owes g c = λ p.
    let e = err_from_is_err_and c.from_residual.result c.from_residual.ensures.1 in
    let failed = c.in_err-configuration.ensures in
    record {
      config_read = search rules;
      events_read = search rules;
      right = λ configs reads setup events says spells.
          rw (e.1, e.2) (config_right _ _ setup events says spells c.in_err-configuration.field-0.0 failed.kinds.0 (failed.fault configs));
      config_fault = search rules;
      text_fault = λ configs reads. rw (e.1, e.2) (no_text _ _ [] c.in_err-configuration.field-0.0 failed.kinds.0);
      no_thread_fault = search rules;
      reads = search rules;
      sink = search rules;
    }

pub returns-in_err-configuration-clause-writes : goal.returns-in_err-configuration-clause-writes
returns-in_err-configuration-clause-writes g c = λ p.
    let e = err_from_is_err_and c.from_residual.result c.from_residual.ensures.1 in
    let failed = c.in_err-configuration.ensures in
    record {
      answered = search rules;
      passed = search rules;
      unwritten = search rules;
      leaves = λ configs reads writes. rw (e.1, e.2) (nothing_out _ _ _ _ c.in_err-configuration.field-0.0 failed.kinds.0 failed.kinds.1);
      early = search rules;
      flush = search rules;
    }

pub returns-clause-owes : goal.returns-clause-owes
returns-clause-owes g c = λ p.
    let says = c.in_ok-configuration.ensures.ok in
    let valid = subst AreValid c.names.ensures.value c.validity.ensures in
    let answer = c.answer_text.ensures in
    let result = c.answer_text.result in
    record {
      config_read = search rules;
      events_read = search rules;
      right = λ configs reads setup events named spells.
          right_result _ _ setup events named spells c.in_ok-configuration.configuration (says configs) valid result answer.kinds (answer.first p);
      config_fault = search rules;
      text_fault = λ configs reads. first_result _ _ [] c.in_ok-configuration.configuration (says configs) result (answer.first p);
      no_thread_fault = search rules;
      reads = λ fine.
          let counted = c.in_ok-configuration.ensures.count in
          let read = answer.reads fine in
          record { sum = omega (arith, counted, read); first = omega (arith, counted); second = omega (arith, read) };
      sink = search rules;
    }

pub returns-clause-writes : goal.returns-clause-writes
returns-clause-writes g c = λ p.
    let config = c.in_ok-configuration.configuration in
    let says = c.in_ok-configuration.ensures.ok in
    let valid = subst AreValid c.names.ensures.value c.validity.ensures in
    let answer = c.answer_text.ensures in
    let result = c.answer_text.result in
    record {
      answered = λ configs reads writes. written_result _ _ _ config (says configs) c.args.detail _ result answer.valid (answer.answered p writes);
      passed = search rules;
      unwritten = search rules;
      leaves = λ configs reads writes. leaves_result _ _ _ config (says configs) c.args.detail _ result answer.kinds (answer.leaves p writes);
      early = λ is_line reads writes short.
          early_result config _ _ valid c.args.detail (record { lines = is_line; short = short }) _ result answer.kinds (answer.leaves p writes);
      flush = λ failed. (search rules, flush_result _ _ _ config says c.args.detail _ _ _ (answer.flush p));
    }
