use Rattle.std.proofs.Common.{◌++◌, ◌∙◌, ℕ, List, ap, subst, rules}
use Rattle.fmp_run_devices.specs.Devices.{BeginsWith, bytes_of}
use Rattle.fmp_run_seeds.proofs.Trying.{asked_short, sought_by}
use Rattle.fmp_run_seeds.proofs.run.run_seeds.Goals as goal

pub sought-requires-clause-short : goal.sought-requires-clause-short
sought-requires-clause-short g c = asked_short c.in-Ok.asked.config.names _ c.in-Ok.asked.question c.in-Ok.ensures.asks

pub returns-in-Ok-write_out-clause-writes : goal.returns-in-Ok-write_out-clause-writes
returns-in-Ok-write_out-clause-writes g c =
    record {
      whole = λ configs texts writes.
          let old = bytes_of (g.W.Sink.written c.args.trace.now) in (
            c.in-Ok-sought.sought.1.items,
            sought_by c.in-Ok.asked.config c.in-Ok.asked.scripts _ _ _ c.in-Ok.asked.question c.args.request.now.runs c.args.request.now.first c.args.request.now.last c.in-Ok-sought.sought.1.items c.in-Ok-sought.sought.0
                (c.in-Ok.ensures.says configs) (c.in-Ok.ensures.spells texts) c.in-Ok.ensures.asks c.in-Ok-sought.ensures.seeks,
            c.in-Ok-write_out.ensures.ok writes ∙ ap (λ (text : List ℕ). old ++ text) c.as_slice.ensures.value,
          );
      passed = search rules;
      begun = search rules;
      unwritten = search rules;
    }

pub returns-clause-writes : goal.returns-clause-writes
returns-clause-writes g c =
    record {
      whole = search rules;
      passed = search rules;
      begun = λ configs texts writes is.
          let old = bytes_of (g.W.Sink.written c.args.trace.now) in
          let new = bytes_of (g.W.Sink.written c.write_out.new.sink) in (
            c.in-Ok-sought.sought.1.items,
            c.in-Ok-sought.sought.0,
            sought_by c.in-Ok.asked.config c.in-Ok.asked.scripts _ _ _ c.in-Ok.asked.question c.args.request.now.runs c.args.request.now.first c.args.request.now.last c.in-Ok-sought.sought.1.items c.in-Ok-sought.sought.0
                (c.in-Ok.ensures.says configs) (c.in-Ok.ensures.spells texts) c.in-Ok.ensures.asks c.in-Ok-sought.ensures.seeks,
            subst (λ (text : List ℕ). BeginsWith old text new) c.as_slice.ensures.value (c.in-Err-write_out.ensures.err writes),
          );
      unwritten = search rules;
    }
