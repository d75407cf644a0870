use Rattle.std.proofs.Common.{rules}
use Rattle.fmp_cli_perform.specs.Searched.{EndsSearchingMost}
use Rattle.fmp_cli_perform.proofs.Done.{by_itself}
use Rattle.fmp_cli_perform.proofs.orders.searched.Goals as goal

pub returns-then-request : goal.returns-then-request
returns-then-request g c =
    let is : EndsSearchingMost (g.D.Desk.text_at c.args.desk.now c.args.paths.now.config.now) (g.D.Desk.text_at c.args.desk.now c.args.paths.now.text.now)
    c.args.request.now c.worked.result
    = (_, (c.worked.result, c.worked.ensures, by_itself c.worked.result)) in
    search rules
