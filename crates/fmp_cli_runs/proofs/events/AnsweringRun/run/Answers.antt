use Rattle.std.proofs.Common.{◌≡◌, ◌++◌, ℕ, List, [], Some, ap, append-nil, refl, rules, sym}
use Rattle.fmp_run_devices.specs.Hearing.{Passes}
use Rattle.fmp_run_devices.proofs.Handed.{handed_back}
use Rattle.fmp_run_events.proofs.Ended.{answered, told}
use Rattle.fmp_cli_runs.specs.Asked.{detail_reported}
use Rattle.fmp_cli_runs.proofs.events.AnsweringRun.run.Goals as goal

pub returns-in-Ok : goal.returns-in-Ok
returns-in-Ok g c =
    let all-of : (text : List ℕ) → g.S.Source.given c.run_events.new.events ≡ g.S.Source.given c.args.text.now ++ text
    → Passes (g.S.Source.given c.args.text.now) (g.S.Source.given c.run_events.new.events) (g.S.Source.ended c.run_events.new.events) =
    λ text handed. record { all = text; rest = []; is = handed_back _ _ text text [] handed (sym (append-nil text)); end = λ ended. refl } in (
      record { left = Some c.run_events.new.config.rest.now; failures = c.run_events.new.config.failures },
      record {
        status = refl;
        moves = search rules;
        end = search rules;
        lines = λ report configs text handed writes.
            answered _ _ _ _ (rw (c.detail_for.ensures, report, c.new-config.ensures.bytes.0) at
            ((c.in-Ok.ensures.writes (all-of text handed)).answered configs refl writes));
        told = λ report configs text handed writes.
            told _ _ _ _ (rw (c.detail_for.ensures, report, c.new-config.ensures.bytes.0) at
            ((c.in-Ok.ensures.writes (all-of text handed)).answered configs refl writes));
        owes = λ p.
            let owed = rw (c.new-config.ensures.bytes.0, c.new-config.ensures.bytes.2) at (c.in-Ok.ensures.owes p) in
            record {
              config_read = owed.config_read;
              events_read = owed.events_read;
              right = λ configs reads setup events says spells. tt;
              config_fault = search rules;
              text_fault = search rules;
              no_thread_fault = search rules;
              reads = search rules;
              sink = search rules;
            };
        writes = λ p.
            let wrote = rw (c.detail_for.ensures, c.new-config.ensures.bytes.0, c.new-config.ensures.bytes.2) at (c.in-Ok.ensures.writes p) in
            record {
              answered = wrote.answered;
              passed = wrote.passed;
              unwritten = search rules;
              leaves = search rules;
              early = search rules;
              flush = search rules;
            };
      },
    )

pub returns-in-Err : goal.returns-in-Err
returns-in-Err g c = (
  record { left = Some c.run_events.new.config.rest.now; failures = c.run_events.new.config.failures },
  record {
    status = search rules;
    moves = search rules;
    end = search rules;
    lines = search rules;
    told = search rules;
    owes = λ p.
        let owed = rw (c.new-config.ensures.bytes.0, c.new-config.ensures.bytes.2) at (c.in-Err.ensures.owes p) in
        record {
          config_read = search rules;
          events_read = search rules;
          right = owed.right;
          config_fault = owed.config_fault;
          text_fault = owed.text_fault;
          no_thread_fault = owed.no_thread_fault;
          reads = search rules;
          sink = search rules;
        };
    writes = λ p.
        let wrote = rw (c.detail_for.ensures, c.new-config.ensures.bytes.0, c.new-config.ensures.bytes.2) at (c.in-Err.ensures.writes p) in
        record {
          answered = search rules;
          passed = search rules;
          unwritten = wrote.unwritten;
          leaves = wrote.leaves;
          early = λ is_line. wrote.early (ap detail_reported is_line);
          flush = search rules;
        };
  },
)
