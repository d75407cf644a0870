-- believed: see docs/PROOF.md, "What has to be believed"
-- How a task begins, becomes ready, moves, and ends.
use Rattle.std.specs.Prelude.{◌-◌, true, false, Option, None, Some, nat_lt, ◌==◌, if◌then◌else◌, unwrap_or}
use Rattle.fmp_codes.specs.declared.numbers.Proc.{Proc}
use Rattle.fmp_codes.specs.declared.numbers.Task.{Task}
use Rattle.fmp_codes.specs.declared.numbers.Pri.{Pri}
use Rattle.fmp_rules.specs.declared.machine.TaskRecord.{TaskRecord}
use Rattle.fmp_rules.specs.World.{World, task}
use Rattle.fmp_rules.specs.Ordering.{Ordering, with_task, place, end_wait, requeue}

-- a task as it starts on p
abbrev pub started : TaskRecord → Proc → TaskRecord
started r p = record r { assigned = p; priority = r.setup.priority; active = true; wait = None; suspended = false; wakeups = 0 }

-- a task as it ends: dormant, or started anew by a queued activation, on the kept processor if there is one
abbrev pub ended : TaskRecord → TaskRecord
ended r =
    let kept = unwrap_or r.kept r.assigned in
    let over = record r { active = false; wait = None; suspended = false; activations = r.activations - 1; kept = None } in
    if nat_lt 0 r.activations then started over kept else over

module _ {Q : Type 0} (k : Ordering Q) (w : World Q) where
  -- a dormant task starts on p
  abbrev pub start : Task → Proc → World Q
  start t p = place k w t (started (task w t) p)

  -- a dormant task starts on p, and of another the activation is queued
  abbrev pub activate : Task → Proc → Option Proc → World Q
  activate t p kept = if (task w t).active then with_task w t (record (task w t) { activations = 1; kept = kept }) else start t p

  -- a task ends, and its wait with it
  unfoldable pub finish : Task → World Q
  finish t = end_wait k w t (ended (task w t))

  -- the wait of a task is over, and it is ready last of its priority unless it is suspended
  abbrev pub make_ready : Task → World Q
  make_ready t = end_wait k w t (record (task w t) { wait = None })

  -- a task has this priority from now on, and comes last of it
  abbrev pub change_priority : Task → Pri → World Q
  change_priority t n = requeue k w t (record (task w t) { priority = n })

  -- a task is assigned to p, and comes last of its priority there if it is ready; at its present processor nothing changes
  abbrev pub migrate : Task → Proc → World Q
  migrate t p = if (task w t).assigned.number == p.number then w else place k w t (record (task w t) { assigned = p })

  -- this task, if there is one, comes last of its priority
  abbrev pub rotate : Option Task → World Q
  rotate None = w
  rotate (Some t) = place k w t (task w t)
