use Rattle.std.proofs.Common.{rules}
use Rattle.fmp_run_smp.proofs.threads.run_threads.Goals as goal

pub returns-in-Ok-clause-writes : goal.returns-in-Ok-clause-writes
returns-in-Ok-clause-writes g c =
    record {
      whole = λ configs texts writes.
          let played = c.in-Ok.ensures.writes.whole configs texts writes in
          (played.0, played.1, played.2);
      passed = search rules;
      begun = search rules;
      unwritten = search rules;
    }
