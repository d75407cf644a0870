-- A tick with nothing due.
use Rattle.std.proofs.Common.{◌≡◌, List, [], ap, ◌∙◌}
use Rattle.fmp_codes.specs.declared.numbers.Proc.{Proc}
use Rattle.fmp_codes.specs.declared.numbers.Task.{Task}
use Rattle.fmp_codes.specs.declared.numbers.Object.{Object}
use Rattle.fmp_codes.specs.declared.records.Answer.TheVariants as answer
use Rattle.fmp_rules.specs.World.{World}
use Rattle.fmp_rules.specs.Ordering.{Ordering}
use Rattle.fmp_rules.specs.Rows.{plain}
use Rattle.fmp_rules.specs.Tick.{tasks_expired, expired, released, alarms_due, cyclics_due, with_handlers_due, ticked}

-- where nothing has 0 ticks left, it changes nothing and releases no task
pub nothing_ticked : {Q : Type 0} (k : Ordering Q) (w : World Q) (p : Proc) → tasks_expired w.waits_left (k.timed w.order w.waits_left) ≡ [] →
    expired w.alarms_left w.alarms ≡ [] → expired w.cyclics_left w.cyclics ≡ [] → ticked k w p ≡ (w, plain answer.Taken)
unfolding ticked with_handlers_due
nothing_ticked k w p waits alarms cyclics =
    ap (λ (ts : List Task). let did = released k w ts in (with_handlers_due did.0 p, record (plain answer.Taken) { releases = did.1 })) waits
    ∙ ap (λ (os : List Object). (cyclics_due (alarms_due w p os) p (expired w.cyclics_left w.cyclics), plain answer.Taken)) alarms
    ∙ ap (λ (os : List Object). (cyclics_due w p os, plain answer.Taken)) cyclics
