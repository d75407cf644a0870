use Rattle.std.proofs.Common.{◌++◌, ◌∙◌, ℕ, ◌-◌, List, ap, subst, rules}
use Rattle.fmp_run_devices.specs.Devices.{BeginsWith, bytes_of}
use Rattle.fmp_run_explore_from.proofs.Found.{explored_from}
use Rattle.fmp_run_explore_from.proofs.run.run_explore_from.Goals as goal

pub returns-in-Ok-write_out-clause-writes : goal.returns-in-Ok-write_out-clause-writes
returns-in-Ok-write_out-clause-writes g c =
    record {
      whole = λ configs texts writes.
          let old = bytes_of (g.W.Sink.written c.args.output.now) in (
            c.in-Ok-found_from.found.1.items,
            explored_from c.in-Ok.asked.config c.in-Ok.asked.scripts _ _ c.args.begun.now _ c.in-Ok.asked.question c.args.request.now.rules c.args.request.now.bounds.turns.count (c.args.request.now.bounds.places.count - 1) c.in-Ok-found_from.found.1.items c.in-Ok-found_from.found.0
                (c.in-Ok.ensures.says configs) (c.in-Ok.ensures.spells texts) c.in-Ok.ensures.asks c.in-Ok-found_from.ensures.found,
            c.in-Ok-write_out.ensures.ok writes ∙ ap (λ (text : List ℕ). old ++ text) c.as_slice.ensures.value,
          );
      passed = search rules;
      begun = search rules;
      unwritten = search rules;
    }

pub returns-clause-writes : goal.returns-clause-writes
returns-clause-writes g c =
    record {
      whole = search rules;
      passed = search rules;
      begun = λ configs texts writes is.
          let old = bytes_of (g.W.Sink.written c.args.output.now) in
          let new = bytes_of (g.W.Sink.written c.write_out.new.sink) in (
            c.in-Ok-found_from.found.1.items,
            c.in-Ok-found_from.found.0,
            explored_from c.in-Ok.asked.config c.in-Ok.asked.scripts _ _ c.args.begun.now _ c.in-Ok.asked.question c.args.request.now.rules c.args.request.now.bounds.turns.count (c.args.request.now.bounds.places.count - 1) c.in-Ok-found_from.found.1.items c.in-Ok-found_from.found.0
                (c.in-Ok.ensures.says configs) (c.in-Ok.ensures.spells texts) c.in-Ok.ensures.asks c.in-Ok-found_from.ensures.found,
            subst (λ (text : List ℕ). BeginsWith old text new) c.as_slice.ensures.value (c.in-Err-write_out.ensures.err writes),
          );
      unwritten = search rules;
    }
