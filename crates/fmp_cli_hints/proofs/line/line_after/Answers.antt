use Rattle.std.proofs.Common.{◌≡◌, ◌+◌, ◌-◌, suc, Some, ap, sym, ◌∙◌, arith}
use Rattle.std.specs.Option.{option_copied}
use Rattle.fmp_bytes.specs.Bytes.{cut_at}
use Rattle.fmp_cli_hints.proofs.Lines.{goes_on}
use Rattle.fmp_cli_hints.proofs.line.line_after.Goals as goal

pub loop-step-preserved : goal.loop-step-preserved
loop-step-preserved c =
    let fewer : c.args.count - c.loop-step._step ≡ suc (c.args.count - (c.loop-step._step + 1)) = omega (arith, c.loop-step-test.true) in
    let more : (cut_at 10 c.loop-step.rest.now).1 ≡ Some c.in_ok-rest.rest.now = sym c.cut.ensures.rest ∙ ap option_copied c.in_ok-rest.was in
    goes_on (c.args.count - c.loop-step._step) (c.args.count - (c.loop-step._step + 1)) c.loop-step.rest.now c.in_ok-rest.rest.now _ fewer more c.loop-step.invariant
