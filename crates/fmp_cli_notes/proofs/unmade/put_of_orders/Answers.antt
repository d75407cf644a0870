use Rattle.std.proofs.Common.{◌++◌, sym}
use Rattle.std.specs.Prelude.{codes, decimal}
use Rattle.fmp_out.proofs.Puts.{both}
use Rattle.fmp_cli_notes.specs.Unmade.{of_part}
use Rattle.fmp_cli_notes.proofs.unmade.put_of_orders.Goals as goal

pub returns-else-whole : goal.returns-else-whole
unfolding of_part
returns-else-whole c =
    let words = codes "no order of at most " in
    let number = decimal c.from.result in
    let old = c.args.out.now in
    let counted = both words number old c.put-else-whole.new.self c.put_number.new.self c.put-else-whole.ensures c.put_number.ensures in
    rw (c.if-whole.false, sym c.from.ensures) (both (words ++ number) (codes " lines makes ") old c.put_number.new.self c.put-else-whole-2.new.self counted c.put-else-whole-2.ensures)
