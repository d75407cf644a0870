use Rattle.std.proofs.Common.{◌++◌, ◌∙◌, ◌-◌, ℕ, Bool, List, ap, subst, sym, rules}
use Rattle.fmp_run_devices.specs.Devices.{BeginsWith, bytes_of}
use Rattle.fmp_run_most.specs.Runs.{IsTable}
use Rattle.fmp_run_most.proofs.run.run_most.Goals as goal

pub returns-in-Ok-write_out-clause-writes : goal.returns-in-Ok-write_out-clause-writes
returns-in-Ok-write_out-clause-writes g c =
    record {
      whole = λ configs texts writes.
          let old = bytes_of (g.W.Sink.written c.args.output.now) in (
            c.in-Ok-told.told.0.items,
            record {
              config = c.in-Ok.texts.0;
              scripts = c.in-Ok.texts.1;
              says = c.in-Ok.ensures.says configs;
              spells = c.in-Ok.ensures.made texts;
              tells = subst
                  (λ (over : Bool). IsTable c.in-Ok.texts.0 c.in-Ok.texts.1 c.args.rules c.args.bounds.turns.count (c.args.bounds.places.count - 1) over c.in-Ok-told.told.0.items c.in-Ok-told.told.1)
                  (sym c.end.ensures) c.in-Ok-told.ensures;
            },
            c.in-Ok-write_out.ensures.ok writes ∙ ap (λ (text : List ℕ). old ++ text) c.as_slice.ensures.value,
          );
      passed = search rules;
      begun = search rules;
      unwritten = search rules;
    }

pub returns-clause-writes : goal.returns-clause-writes
returns-clause-writes g c =
    record {
      whole = search rules;
      passed = search rules;
      begun = λ configs texts writes is.
          let old = bytes_of (g.W.Sink.written c.args.output.now) in
          let new = bytes_of (g.W.Sink.written c.write_out.new.sink) in (
            c.in-Ok-told.told.0.items,
            c.in-Ok-told.told.1,
            record {
              config = c.in-Ok.texts.0;
              scripts = c.in-Ok.texts.1;
              says = c.in-Ok.ensures.says configs;
              spells = c.in-Ok.ensures.made texts;
              tells = subst
                  (λ (over : Bool). IsTable c.in-Ok.texts.0 c.in-Ok.texts.1 c.args.rules c.args.bounds.turns.count (c.args.bounds.places.count - 1) over c.in-Ok-told.told.0.items c.in-Ok-told.told.1)
                  (sym c.end.ensures) c.in-Ok-told.ensures;
            },
            subst (λ (text : List ℕ). BeginsWith old text new) c.as_slice.ensures.value (c.in-Err-write_out.ensures.err writes),
          );
      unwritten = search rules;
    }
