use Rattle.fmp_law_safety.proofs.First.{first_is_least, comes_before_is_strict, top_is_first, queue_is_first}
use Rattle.fmp_law_safety.proofs.laws.first_means_least.Goals as goal

pub returns-clause-first : goal.returns-clause-first
returns-clause-first c = first_is_least

pub returns-clause-strict : goal.returns-clause-strict
returns-clause-strict c = comes_before_is_strict

pub returns-clause-top : goal.returns-clause-top
returns-clause-top c = top_is_first

pub returns-clause-queue : goal.returns-clause-queue
returns-clause-queue c = queue_is_first
