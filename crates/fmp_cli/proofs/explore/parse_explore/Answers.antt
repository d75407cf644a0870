use Rattle.std.proofs.Common.{ap, map, subst, ◌∙◌, List}
use Rattle.std.specs.Prelude.{IfOk}
use Rattle.clap.specs.Words.{App, Row, is_simple, matches_of}
use Rattle.fmp_cli.specs.Explore.{Asks, found_in}
use Rattle.fmp_cli.proofs.explore.parse_explore.Goals as goal

pub returns-clause-asks : goal.returns-clause-asks
unfolding found_in
returns-clause-asks c =
    let line = c.in_ok-command.ensures in
    let rows = (c.in_ok-matches.ensures.ok.2 (ap is_simple line)).0 ∙ ap (λ (a : App). matches_of a (map (λ w. w.bytes.items) c.args.words.now)) line in
    subst (λ (r : List Row). IfOk c.request_from.result (Asks r)) rows c.request_from.ensures.asks
