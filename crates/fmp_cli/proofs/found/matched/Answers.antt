use Rattle.std.proofs.Common.{◌∙◌, ap, map}
use Rattle.std.proofs.lemmas.Result.{IfOk-weaker}
use Rattle.clap.specs.Words.{App, is_simple, matches_of}
use Rattle.fmp_cli.specs.Found.{found_by}
use Rattle.fmp_cli.proofs.found.matched.Goals as goal

pub returns : goal.returns
unfolding found_by
returns c =
    let line = c.in_ok-line.ensures.line in
    IfOk-weaker c.try_get_matches_from.result _ _ (λ m has. (has (ap is_simple line ∙ c.requires)).0 ∙ ap (λ (a : App). matches_of a (map (λ w. w.bytes.items) c.args.words.now)) line) c.try_get_matches_from.ensures.matches
