use Rattle.std.proofs.Common.{◌-◌, subst}
use Rattle.fmp_run_explore.specs.Explored.{Finds}
use Rattle.fmp_run_explore.specs.Searched.{Searched}
use Rattle.fmp_run_explore.proofs.searched.Searched.finding.Goals as goal

pub returns-clause-finds : goal.returns-clause-finds
returns-clause-finds g c =
    let report = c.in_ok-report.report in (
      report.text.items,
      subst (λ (s : Searched). Finds s.config s.scripts s.rules c.args.question.now c.args.bounds.turns.count (c.args.bounds.places.count - 1) report.text.items report.finding)
          c.self.view_is c.in_ok-report.ensures.finds,
    )
