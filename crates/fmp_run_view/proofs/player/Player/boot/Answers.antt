use Rattle.std.proofs.Common.{length, ap, ◌∙◌}
use Rattle.fmp_plain.specs.Run.{Run}
use Rattle.fmp_law_safety.proofs.Counted.{counts_booted}
use Rattle.fmp_run_view.proofs.player.Player.boot.Goals as goal

pub returns-clause-processors : goal.returns-clause-processors
returns-clause-processors c =
    ap (λ (r : Run). length r.state.processors) c.in_ok-boot.ensures.state ∙ (counts_booted c.args.config.now c.in_ok-boot.ensures.valid).processors
