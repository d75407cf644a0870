use Rattle.std.proofs.Common.{Some, rules}
use Rattle.fmp_cli_runs.proofs.traces.JudgingRun.run.Goals as goal

pub returns-in-Verdict : goal.returns-in-Verdict
returns-in-Verdict g c = (
  record { left = Some c.run_check.new.config.rest.now; failures = c.run_check.new.config.failures },
  record { owes = search rules; plays = search rules; writes = rw c.in-Verdict.is (search rules) },
)

pub returns-in-Differences : goal.returns-in-Differences
returns-in-Differences g c = (
  record { left = Some c.run_report.new.config.rest.now; failures = c.run_report.new.config.failures },
  record { owes = search rules; plays = search rules; writes = rw c.in-Differences.is (search rules) },
)

pub returns-in-Waveform : goal.returns-in-Waveform
returns-in-Waveform g c = (
  record { left = Some c.run_wave.new.config.rest.now; failures = c.run_wave.new.config.failures },
  record { owes = search rules; plays = search rules; writes = rw c.in-Waveform.is (search rules) },
)

pub returns-in-Page : goal.returns-in-Page
returns-in-Page g c = (
  record { left = Some c.run_view.new.config.rest.now; failures = c.run_view.new.config.failures },
  record { owes = search rules; plays = search rules; writes = rw c.in-Page.is (search rules) },
)

pub returns-in-DifferencesPage : goal.returns-in-DifferencesPage
returns-in-DifferencesPage g c = (
  record { left = Some c.run_view-in-DifferencesPage.new.config.rest.now; failures = c.run_view-in-DifferencesPage.new.config.failures },
  record { owes = search rules; plays = search rules; writes = rw c.in-DifferencesPage.is (search rules) },
)
