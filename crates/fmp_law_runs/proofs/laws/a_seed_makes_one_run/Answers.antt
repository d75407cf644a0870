use Rattle.fmp_law_runs.proofs.Seeded.{are_one}
use Rattle.fmp_law_runs.proofs.laws.a_seed_makes_one_run.Goals as goal

pub returns : goal.returns
returns c = λ seed config scripts ticks turns h others ended other valid one two. are_one seed config scripts ticks turns valid h others ended other one two
