use Rattle.std.proofs.Common.{[], ap, rules, subst}
use Rattle.fmp_run_texts.proofs.Grammars.{one_config}
use Rattle.fmp_names.specs.Names.{AreValid}
use Rattle.fmp_setup.specs.Setup.{Setup}
use Rattle.fmp_run_events.proofs.Ended.{config_right, events_right, first_out}
use Rattle.fmp_run_events.proofs.Living.{chosen_right, life_flush, life_leaves, life_reported}
use Rattle.fmp_run_events.proofs.lives.run_life.Goals as goal

pub returns-in-Err-clause-owes : goal.returns-in-Err-clause-owes
returns-in-Err-clause-owes g c = λ p.
    let failed = c.in-Err.ensures in
    record {
      config_read = search rules;
      events_read = search rules;
      right = λ configs reads setup events xs says spells named. config_right _ _ setup events says spells c.in-Err.fault failed.kinds.0 (failed.fault configs);
      config_fault = search rules;
      text_fault = search rules;
      name_fault = search rules;
      no_thread_fault = search rules;
      reads = search rules;
      sink = search rules;
    }

pub returns-in-Err-chosen_from-clause-owes : goal.returns-in-Err-chosen_from-clause-owes
returns-in-Err-chosen_from-clause-owes g c = λ p. record {
  config_read = search rules;
  events_read = search rules;
  right = λ configs reads setup events xs says spells named.
      chosen_right _ c.args.names.now c.in-Ok.machine setup _ xs c.names-2.ensures.value (c.in-Ok.ensures.ok configs) says named c.in-Err-chosen_from.fault
      c.in-Err-chosen_from.ensures.fault;
  config_fault = search rules;
  text_fault = search rules;
  name_fault = search rules;
  no_thread_fault = search rules;
  reads = search rules;
  sink = search rules;
}

pub returns-in-Ok-answer_text-clause-writes : goal.returns-in-Ok-answer_text-clause-writes
returns-in-Ok-answer_text-clause-writes g c = λ p. record {
  answered = λ configs reads writes.
      life_reported c.args.names.now c.in-Ok.machine _ c.names-2.ensures.value c.in-Ok-chosen_from.life c.in-Ok-chosen_from.ensures.things _ _ _ (c.in-Ok.ensures.ok configs) _
      c.in-Ok-answer_text.ensures.valid (c.in-Ok-answer_text.ensures.answered p writes);
  passed = search rules;
  unwritten = search rules;
  leaves = search rules;
  flush = search rules;
}

pub returns-clause-owes : goal.returns-clause-owes
returns-clause-owes g c = λ p.
    let valid = subst AreValid c.names.ensures.value c.validity.ensures in
    let failed = c.in-Err-answer_text.ensures in
    record {
      config_read = search rules;
      events_read = search rules;
      right = λ configs reads setup events xs says spells named.
          events_right _ _ setup events says spells _ (ap (λ (s : Setup). s.names) (one_config _ c.in-Ok.machine setup (c.in-Ok.ensures.ok configs) says)) valid
          c.in-Err-answer_text.fault failed.kinds (failed.first p);
      config_fault = search rules;
      text_fault = λ configs reads. first_out _ _ [] c.in-Ok.machine (c.in-Ok.ensures.ok configs) c.in-Err-answer_text.fault (failed.first p);
      name_fault = search rules;
      no_thread_fault = search rules;
      reads = search rules;
      sink = search rules;
    }

pub returns-clause-writes : goal.returns-clause-writes
returns-clause-writes g c = λ p.
    let failed = c.in-Err-answer_text.ensures in
    record {
      answered = search rules;
      passed = search rules;
      unwritten = search rules;
      leaves = λ configs reads writes.
          life_leaves c.args.names.now c.in-Ok.machine _ c.names-2.ensures.value c.in-Ok-chosen_from.life c.in-Ok-chosen_from.ensures.things _ _ _ (c.in-Ok.ensures.ok configs) _
          c.in-Err-answer_text.fault failed.kinds (failed.leaves p writes);
      flush = λ failing. (
        search rules,
        life_flush c.args.names.now c.in-Ok.machine _ c.names-2.ensures.value c.in-Ok-chosen_from.life c.in-Ok-chosen_from.ensures.things _ _ _ c.in-Ok.ensures.ok _ _ _
            (c.answer_text.ensures.flush p),
      );
    }
