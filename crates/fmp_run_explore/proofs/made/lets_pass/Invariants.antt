use Rattle.std.proofs.Common.{◌≡◌, drop}
use Rattle.fmp_search_orders.specs.Made.{lets_pass}
use Rattle.fmp_run_explore.proofs.made.lets_pass.Given as goal

abbrev pub invariant-loop-step : goal.invariant-loop-step
invariant-loop-step l = lets_pass (drop l.step-index l.step-items) ≡ lets_pass l.fn.question
