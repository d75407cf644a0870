use Rattle.fmp_law_safety.specs.Runs.{processor_of}
use Rattle.fmp_law_lists.proofs.Steps.{lists_refine}
use Rattle.fmp_law_lists.proofs.Boots.{boot_stands}
use Rattle.fmp_law_lists.proofs.SafeLists.{lists_safe, numbers_safe, tells_alike, lists_are_right}
use Rattle.fmp_law_lists.proofs.laws.lists_refine_numbers.Goals as goal

pub returns-clause-boot : goal.returns-clause-boot
returns-clause-boot c = λ s v. boot_stands s v.few_tasks

pub returns-clause-step : goal.returns-clause-step
returns-clause-step c = λ k m event s safe n. lists_refine k m event s safe ((processor_of event).least, n)

pub returns-clause-tells : goal.returns-clause-tells
returns-clause-tells c = tells_alike

pub returns-clause-stands : goal.returns-clause-stands
returns-clause-stands c = lists_are_right

pub returns-clause-safe : goal.returns-clause-safe
returns-clause-safe c = lists_safe

pub returns-clause-safe_numbers : goal.returns-clause-safe_numbers
returns-clause-safe_numbers c = numbers_safe
