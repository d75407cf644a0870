use Rattle.std.proofs.Common.{sym}
use Rattle.std.specs.Prelude.{codes}
use Rattle.fmp_out.proofs.Puts.{both}
use Rattle.fmp_cli_notes.specs.Misplaced.{by_handler, for_handler, for_task}
use Rattle.fmp_cli_notes.proofs.misplaced.put_told_by.Goals as goal

pub returns-in-Some : goal.returns-in-Some
unfolding for_task
returns-in-Some c =
    let words = codes " is always answered E_CTX, since a task makes it: write " in
    rw c.in-Some.is (both words c.in-Some.other.now c.args.out.now c.put.new.self c.put-in-Some.new.self c.put.ensures c.put-in-Some.ensures)

pub returns-in-Ok : goal.returns-in-Ok
unfolding by_handler
returns-in-Ok c =
    let words = codes " is always answered E_CTX, since a handler makes it: " in
    rw (c.in-None.is, sym c.in-Ok.ensures)
    (both words (for_handler c.in-Ok.other) c.args.out.now c.put-in-None.new.self c.put_for_handler.new.out c.put-in-None.ensures c.put_for_handler.ensures)
