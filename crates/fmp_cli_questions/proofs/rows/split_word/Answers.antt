use Rattle.std.proofs.Common.{◌≡◌, ap, ◌∙◌, rules, tests, take, drop}
use Rattle.std.specs.List.{prefix_len}
use Rattle.std.proofs.lemmas.Iterator.{YieldsList-from_slice}
use Rattle.std.proofs.lemmas.Iterator.Consumers.{count_from_yields_List}
use Rattle.std.proofs.lemmas.Iterator.Search.{YieldsList-from_take_while}
use Rattle.std.proofs.lemmas.List.Folds.{length-prefix_len}
use Rattle.fmp_cli_questions.specs.Rows.{is_solid}
use Rattle.fmp_cli_questions.proofs.rows.split_word.Goals as goal
use Rattle.fmp_cli_questions.proofs.rows.split_word.Goals.{After-count-end}

counted : (c : After-count-end) → c.count-end.result ≡ prefix_len is_solid c.args.text.now
counted c =
    count_from_yields_List c.take_while.result c.count-end.result c.count-end.ensures.ran (YieldsList-from_take_while _ is_solid (YieldsList-from_slice c.args.text.now cc) c.take_while.ensures.closure c.take_while.ensures.done (λ x b q k. search (rules, tests)))
    ∙ length-prefix_len is_solid c.args.text.now

pub returns-clause-word : goal.returns-clause-word
returns-clause-word c = c.split_at.ensures.front ∙ ap (λ n. take n c.args.text.now) (counted (goal.at.returns-clause-word c).After-count-end)

pub returns-clause-rest : goal.returns-clause-rest
returns-clause-rest c = c.split_at.ensures.back ∙ ap (λ n. drop n c.args.text.now) (counted (goal.at.returns-clause-rest c).After-count-end)
