use Rattle.fmp_run_seeds.proofs.orders.run_in_turn.Goals as goal

pub returns : goal.returns
returns c =
    let run = c.in_ok-run.run' in
    let e = c.in_ok-run.ensures in
    (run.history.records, run.ended, record { receipts = _; run = e.run; order = e.order; ticked = e.ticked }, c.in_ok-events.ensures, c.is_quiet.ensures)
