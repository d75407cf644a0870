use Rattle.std.proofs.Common.{rules, ◌≡◌, sym}
use Rattle.fmp_cli_perform.proofs.questions.answered.Goals as goal

pub returns : goal.returns
returns g c =
    let same : c.in-false-Ok.question.now ≡ c.args.row.now.question = search rules in
    rw (sym same) c.in_ok-replied.ensures
