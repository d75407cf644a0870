use Rattle.std.proofs.Common.{◌++◌}
use Rattle.std.specs.Prelude.{codes, decimal}
use Rattle.fmp_out.proofs.Puts.{both}
use Rattle.fmp_run_list.specs.Listing.Listing.{processors_line}
use Rattle.fmp_run_list.proofs.listing.listing.put_processors_line.Goals as goal

pub returns : goal.returns
unfolding processors_line
returns c =
    let number = decimal c.args.processors in
    both (codes "processors ") (number ++ codes "\n") c.args.out.now c.put.new.self c.put_byte.new.self c.put.ensures
    (both number (codes "\n") c.put.new.self c.put_number.new.self c.put_byte.new.self c.put_number.ensures c.put_byte.ensures)
