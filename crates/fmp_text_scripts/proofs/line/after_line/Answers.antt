use Rattle.std.proofs.Common.{◌≡◌, ap, ◌∙◌, rules, tests, drop}
use Rattle.std.specs.List.{prefix_len}
use Rattle.std.proofs.lemmas.Iterator.{YieldsList-from_slice}
use Rattle.std.proofs.lemmas.Iterator.Consumers.{count_from_yields_List}
use Rattle.std.proofs.lemmas.Iterator.Search.{YieldsList-from_take_while}
use Rattle.std.proofs.lemmas.List.Folds.{length-prefix_len}
use Rattle.fmp_text_scripts.specs.Lines.{may_stand}
use Rattle.fmp_text_scripts.proofs.line.after_line.Goals as goal

pub returns : goal.returns
returns c =
    let counted : c.count-end.result ≡ prefix_len may_stand c.args.line.now =
    count_from_yields_List c.take_while.result c.count-end.result c.count-end.ensures.ran (YieldsList-from_take_while _ may_stand (YieldsList-from_slice c.args.line.now cc) c.take_while.ensures.closure c.take_while.ensures.done (λ x b q k. search (rules, tests)))
    ∙ length-prefix_len may_stand c.args.line.now
    in
    c.split_at.ensures.back ∙ ap (λ n. drop n c.args.line.now) counted
