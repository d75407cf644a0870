use Rattle.std.proofs.Common.{Some, rules}
use Rattle.fmp_cli_runs.proofs.Parts.{checks_lines}
use Rattle.fmp_cli_runs.proofs.partly.JudgingPartlyRun.run.Goals as goal

pub returns-in-Page : goal.returns-in-Page
returns-in-Page g c = (
  record { left = Some c.args.config.now; failures = 0 },
  rw c.in-Page.is c.view_partly.ensures,
)

pub returns-in-DifferencesPage : goal.returns-in-DifferencesPage
returns-in-DifferencesPage g c = (
  record { left = Some c.args.config.now; failures = 0 },
  rw c.in-DifferencesPage.is c.view_partly-in-DifferencesPage.ensures,
)

pub returns-in_default : goal.returns-in_default
returns-in_default g c = (
  record { left = Some c.run_partial.new.config.rest.now; failures = c.run_partial.new.config.failures },
  checks_lines c.args.self.now.asked _ _ _ _ (search rules) (search rules)
      (record { owes = search rules; partly = search rules; writes = search rules }),
)
