use Rattle.std.proofs.Common.{rules, not}
use Rattle.std.proofs.lemmas.List.Elements.{filter_from_retain}
use Rattle.fmp_cli_diagnostics.specs.Options.{is_option}
use Rattle.fmp_cli_diagnostics.proofs.option.without_option.Goals as goal

pub returns : goal.returns
returns c = filter_from_retain _ (λ w. not (is_option w.bytes.items)) (λ p x b q e. search rules) _ _ _ c.retain.ensures.filtered
