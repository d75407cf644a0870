-- The numbers of tasks and handlers: each kernel has one list of them, which is that of no other.
use Rattle.std.proofs.Common.{◌≡◌, ◌∙◌, ℕ, ◌+◌, List, [], ◌++◌, length, refl, sym, arith, append-nil}
use Rattle.std.proofs.lemmas.Grind.{common_steps}
use Rattle.fmp_interned.specs.Parts.{AreNumbersOf}
use Rattle.fmp_interned.proofs.Parts.{numbers_stay, same_numbers}
use Rattle.fmp_kernel_assigned.specs.Assignments.{Assignments}
use Rattle.fmp_kernel_packed.specs.Kept.{KeptHandled, AreHandledBefore, AreHandledOnce}
use Rattle.fmp_kernel_packed.specs.Packed.{AreHandled}
use Rattle.fmp_kernel_packed.proofs.Joined.{as_many, first_part, same_begun, same_kept}

-- there is one list of numbers, where no two that are kept are the same
pub handled_one : (kept : KeptHandled) (a : Assignments) (ns ms : List ℕ) → AreHandledOnce kept → AreHandled kept a ns → AreHandled kept a ms → ns ≡ ms
handled_one kept a ns ms once one other =
    let alarms = same_numbers kept.alarms one.alarms other.alarms a.alarms once.alarms one.of_alarms other.of_alarms in
    let cyclics = same_numbers kept.cyclics one.cyclics other.cyclics a.cyclics once.cyclics one.of_cyclics other.of_cyclics in
    let tasks = same_numbers kept.tasks one.tasks other.tasks a.tasks once.tasks one.of_tasks other.of_tasks in
    let joined : one.alarms ++ (one.cyclics ++ one.tasks) ≡ other.alarms ++ (other.cyclics ++ other.tasks) = rw (alarms, cyclics, tasks) refl in
    one.are ∙ joined ∙ sym other.are

-- the numbers are those of no others, of which there are as many
pub handled_only : (kept : KeptHandled) (a b : Assignments) (ns : List ℕ) → length a.alarms ≡ length b.alarms → length a.cyclics ≡ length b.cyclics → AreHandled kept a ns →
    AreHandled kept b ns → (a.alarms ≡ b.alarms) × (a.cyclics ≡ b.cyclics) × (a.tasks ≡ b.tasks)
handled_only kept a b ns alarms cyclics one other =
    let first = same_begun kept.alarms one.alarms other.alarms a.alarms b.alarms (one.cyclics ++ one.tasks) (other.cyclics ++ other.tasks) alarms one.of_alarms other.of_alarms
    (sym one.are ∙ other.are) in
    let next = same_begun kept.cyclics one.cyclics other.cyclics a.cyclics b.cyclics one.tasks other.tasks cyclics one.of_cyclics other.of_cyclics first.1 in
    (first.0, next.0, same_kept kept.tasks one.tasks other.tasks a.tasks b.tasks next.1 one.of_tasks other.of_tasks)

-- the numbers stay those where others are kept, too
pub handled_stays : (kept more : KeptHandled) (a : Assignments) (ns : List ℕ) → AreHandledBefore kept more → AreHandled kept a ns → AreHandled more a ns
handled_stays kept more a ns before is = record {
  alarms = is.alarms;
  cyclics = is.cyclics;
  tasks = is.tasks;
  are = is.are;
  of_alarms = numbers_stay kept.alarms more.alarms is.alarms a.alarms before.alarms is.of_alarms;
  of_cyclics = numbers_stay kept.cyclics more.cyclics is.cyclics a.cyclics before.cyclics is.of_cyclics;
  of_tasks = numbers_stay kept.tasks more.tasks is.tasks a.tasks before.tasks is.of_tasks;
}

-- there are as many numbers as alarms, cyclic handlers and tasks together
pub handled_long : (kept : KeptHandled) (a : Assignments) (ns : List ℕ) → AreHandled kept a ns → length ns ≡ length a.alarms + length a.cyclics + length a.tasks
handled_long kept a ns is =
    let are = is.are in
    let alarms = as_many kept.alarms is.alarms a.alarms is.of_alarms in
    let cyclics = as_many kept.cyclics is.cyclics a.cyclics is.of_cyclics in
    let tasks = as_many kept.tasks is.tasks a.tasks is.of_tasks in
    grind (arith, common_steps, are, alarms, cyclics, tasks)

-- the numbers of each
pub record AreApart (kept : KeptHandled) (a : Assignments) (alarms cyclics tasks : List ℕ) : Type 0 where
  pub of_alarms : AreNumbersOf kept.alarms alarms a.alarms
  pub of_cyclics : AreNumbersOf kept.cyclics cyclics a.cyclics
  pub of_tasks : AreNumbersOf kept.tasks tasks a.tasks

-- numbers are told apart by how many there are of each
pub handled_apart : (kept : KeptHandled) (a : Assignments) (numbers alarms rest cyclics others tasks last : List ℕ) → AreHandled kept a numbers → numbers ≡ alarms ++ rest →
    rest ≡ cyclics ++ others → others ≡ tasks ++ last → length alarms ≡ length a.alarms → length cyclics ≡ length a.cyclics → length tasks ≡ length a.tasks →
    AreApart kept a alarms cyclics tasks
handled_apart kept a numbers alarms rest cyclics others tasks last are one two three as_alarms as_cyclics as_tasks =
    let first = first_part kept.alarms are.alarms alarms a.alarms (are.cyclics ++ are.tasks) rest as_alarms are.of_alarms (sym are.are ∙ one) in
    let next = first_part kept.cyclics are.cyclics cyclics a.cyclics are.tasks others as_cyclics are.of_cyclics (first.1 ∙ two) in
    let end = first_part kept.tasks are.tasks tasks a.tasks [] last as_tasks are.of_tasks (append-nil are.tasks ∙ next.1 ∙ three) in record {
      of_alarms = first.0;
      of_cyclics = next.0;
      of_tasks = end.0;
    }
