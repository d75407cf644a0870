use Rattle.std.proofs.Common.{[], append-nil, refl, sym}
use Rattle.std.proofs.lemmas.Result.{on_ok_weaker}
use Rattle.fmp_run_devices.specs.Hearing.{Passes}
use Rattle.fmp_run_devices.proofs.Handed.{handed_back}
use Rattle.fmp_run_events.proofs.Ended.{answered, told}
use Rattle.fmp_run_events.proofs.calls.run_calls.Goals as goal

pub returns-clause-writes : goal.returns-clause-writes
returns-clause-writes g c = λ p.
    let wrote = c.run_events.ensures.writes p in
    record {
      answered = wrote.answered;
      passed = wrote.passed;
      unwritten = wrote.unwritten;
      leaves = wrote.leaves;
      early = λ lines. wrote.early refl;
      flush = wrote.flush;
    }

pub returns-clause-answered : goal.returns-clause-answered
returns-clause-answered g c = λ configs text handed writes.
    let p : Passes (g.S.Source.given c.args.events.now) (g.S.Source.given c.run_events.new.events) (g.S.Source.ended c.run_events.new.events) =
    record { all = text; rest = []; is = handed_back _ _ text text [] handed (sym (append-nil text)); end = λ ended. refl } in
    on_ok_weaker c.run_events.result (answered _ _ _ _) ((c.run_events.ensures.writes p).answered configs refl writes)

pub returns-clause-told : goal.returns-clause-told
returns-clause-told g c = λ configs text handed writes.
    let p : Passes (g.S.Source.given c.args.events.now) (g.S.Source.given c.run_events.new.events) (g.S.Source.ended c.run_events.new.events) =
    record { all = text; rest = []; is = handed_back _ _ text text [] handed (sym (append-nil text)); end = λ ended. refl } in
    on_ok_weaker c.run_events.result (told _ _ _ _) ((c.run_events.ensures.writes p).answered configs refl writes)
