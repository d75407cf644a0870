use Rattle.std.proofs.Common.{◌<◌, None, Option, length, arith, if◌then◌else◌}
use Rattle.fmp_codes.specs.declared.numbers.Proc.{Proc}
use Rattle.fmp_rules.specs.Processors.{is_at}
use Rattle.fmp_plain_machine.proofs.Changed.{one_changed}
use Rattle.fmp_plain_machine.proofs.locks.free.Goals as goal

pub loop-index-preserved : goal.loop-index-preserved
loop-index-preserved c =
    let freed : Option Proc → Option Proc = λ h. if is_at c.args.p h then None else h in
    let within : c.loop-index.index < length c.args.holders.now.items = omega arith in
    rw (c.free_at.ensures, c.loop-index.invariant) (one_changed freed c.args.holders.now.items c.loop-index.index None within)
