use Rattle.fmp_run_events.proofs.report.write_head.Goals as goal

pub returns-in-Each-No-clause-err : goal.returns-in-Each-No-clause-err
returns-in-Each-No-clause-err g c = rw (c.in-Each-No.is-0, c.in-Each-No.is-1) c.write_all-in-Each-No.ensures.err
