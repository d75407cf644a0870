use Rattle.std.proofs.Common.{◌≡◌, false, ap, map, refl, rules, subst, Err}
use Rattle.std.proofs.lemmas.Result.{err_from_is_err_and}
use Rattle.fmp_run_texts.specs.declared.fault.RunFault.TheVariants.{Write}
use Rattle.fmp_run_devices.specs.Devices.{bytes_of}
use Rattle.fmp_run_texts.specs.Faults.{is_thread_fault}
use Rattle.fmp_run_texts.proofs.Owed.{no_config_fault}
use Rattle.fmp_names.specs.Names.{AreValid}
use Rattle.fmp_run_smp.proofs.Played.{any_seed, begun_played, no_script_fault, played, played_to_end, reads_kept, same_fault, tells_waiting}
use Rattle.fmp_run_smp.proofs.threads.run_scripts.Goals as goal

pub returns-in_err-waiting-clause-owes : goal.returns-in_err-waiting-clause-owes
returns-in_err-waiting-clause-owes g c =
    let p = err_from_is_err_and c.from_residual-in_err-waiting.result c.from_residual-in_err-waiting.ensures.1 in
    record {
      config_read = search rules;
      text_read = search rules;
      config_fault = λ configs.
          rw (p.1, p.2) (no_config_fault (bytes_of (g.R.Source.left c.args.config.now)) c.in_err-waiting.field-0.0 c.in_err-waiting.ensures.kinds.0);
      text_fault = λ configs texts.
          rw (p.1, p.2) (no_script_fault (bytes_of (g.R.Source.left c.args.config.now)) (bytes_of (g.S.Source.left c.args.scripts.now)) c.in_err-waiting.field-0.0 c.in_err-waiting.ensures.kinds.1);
      reads = rw (p.1, p.2) (reads_kept _ _ _ _ _ _ c.in_ok-machine.ensures.reads c.in_err-waiting.ensures.kinds.2);
      sink = record { known = search rules; none_held = search rules; count = rw (p.1, p.2) c.in_err-waiting.ensures.writes };
    }

pub returns-in_err-waiting-clause-writes : goal.returns-in_err-waiting-clause-writes
returns-in_err-waiting-clause-writes g c =
    let p = err_from_is_err_and c.from_residual-in_err-waiting.result c.from_residual-in_err-waiting.ensures.1 in
    record {
      whole = search rules;
      passed = search rules;
      begun = λ configs texts writes is.
          let read = c.in_ok-machine.ensures in
          let r = c.in_ok-run.run' in
          let failed = rw (p.1, p.2) at is in
          let fault : c.in_err-waiting.field-0.0 ≡ Write = same_fault c.in_err-waiting.field-0.0 Write failed in
          begun_played _ _ c.args.limits.ticks.count c.args.limits.turns.count c.in_ok-machine.machine r.history.records r.ended
          (played _ _ c.args.limits.ticks.count c.args.limits.turns.count c.in_ok-machine.machine c.in_ok-machine.list r.history.records (map (λ v. v.items) r.receipts.items) r.ended
          (read.says configs) c.names-names.ensures.valid (subst AreValid c.names-names.ensures.value c.validity.ensures) (read.made texts) read.keeps c.args.limits.turns.few c.in_ok-run.ensures.run c.in_ok-run.ensures.ticked)
          _ _ c.names-names.ensures.value refl _ _ (c.in_err-waiting.ensures.write writes (ap Err fault));
      unwritten = λ writes.
          rw (p.1, p.2) (c.in_err-waiting.ensures.unwritten writes);
    }

pub returns-clause-writes : goal.returns-clause-writes
returns-clause-writes g c =
    record {
      whole = λ configs texts writes.
          let read = c.in_ok-machine.ensures in
          let r = c.in_ok-run.run' in
          played_to_end _ _ c.args.limits.ticks.count c.args.limits.turns.count c.in_ok-machine.machine r.history.records r.ended
          (played _ _ c.args.limits.ticks.count c.args.limits.turns.count c.in_ok-machine.machine c.in_ok-machine.list r.history.records (map (λ v. v.items) r.receipts.items) r.ended
          (read.says configs) c.names-names.ensures.valid (subst AreValid c.names-names.ensures.value c.validity.ensures) (read.made texts) read.keeps c.args.limits.turns.few c.in_ok-run.ensures.run c.in_ok-run.ensures.ticked)
          _ _ c.names-names.ensures.value refl c.args.seed _ _ _ (c.in_ok-waiting.ensures.written writes) c.in_ok-run.ensures.ordered
          (tells_waiting c.in_ok-machine.machine _ _ r.history.records _ c.names-names.ensures.value c.in_ok-run.ensures.configured c.in_ok-waiting.ensures.waiting);
      passed = search rules;
      begun = search rules;
      unwritten = search rules;
    }

pub returns-in_err-waiting-clause-no_thread_fault : goal.returns-in_err-waiting-clause-no_thread_fault
returns-in_err-waiting-clause-no_thread_fault g c =
    let p = err_from_is_err_and c.from_residual-in_err-waiting.result c.from_residual-in_err-waiting.ensures.1 in
    rw (p.1, p.2) (any_seed c.args.seed (is_thread_fault c.in_err-waiting.field-0.0 ≡ false) c.in_err-waiting.ensures.no_thread_fault)

pub returns-in_err-run-clause-no_thread_fault : goal.returns-in_err-run-clause-no_thread_fault
returns-in_err-run-clause-no_thread_fault g c =
    let p = err_from_is_err_and c.from_residual-in_err-run.result c.from_residual-in_err-run.ensures.1 in
    rw (p.1, p.2) c.in_err-run.ensures.no_thread_fault
