use Rattle.fmp_run_seeds.specs.Found.{ArePassed}
use Rattle.fmp_run_seeds.proofs.seeking.sought.Given as goal

-- the seeds so far are passed
abbrev pub invariant-loop-seed : goal.invariant-loop-seed
invariant-loop-seed g l = ArePassed l.runs l.asked.config l.asked.scripts l.asked.question l.first l.seed
