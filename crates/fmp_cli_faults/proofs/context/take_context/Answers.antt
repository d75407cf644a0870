use Rattle.std.proofs.Common.{rules, not, ap, ◌∙◌}
use Rattle.std.proofs.lemmas.List.Elements.{filter_from_retain}
use Rattle.fmp_cli_faults.specs.Context.{is_context, others}
use Rattle.fmp_cli_faults.proofs.Words.{others_of}
use Rattle.fmp_cli_faults.proofs.context.take_context.Goals as goal

pub returns : goal.returns
returns c = ap others (filter_from_retain _ (λ w. not (is_context w.bytes.items)) (λ p x b q e. search rules) _ _ _ c.retain.ensures.filtered)
    ∙ others_of c.args.words.now.items
