use Rattle.std.proofs.Common.{◌∙◌, List, ap}
use Rattle.fmp_search_pattern.specs.declared.question.Step.{Step}
use Rattle.fmp_search_orders.specs.Places.{origin}
use Rattle.fmp_search_kernel.specs.Walked.{origin_of}
use Rattle.fmp_search_walks.proofs.walking.walk_from.Goals as goal

pub walk-requires-clause-begin : goal.walk-requires-clause-begin
walk-requires-clause-begin g c =
    c.in_ok-start_over.ensures.there ∙ ap origin_of c.in_ok-walker.ensures ∙ ap (λ (q : List Step). origin c.args.config.now c.args.scripts.now c.args.rules q) c.requires.none
