-- What the words by which calls change tasks do to the waits.
use Rattle.std.proofs.Common.{◌≡◌, ℕ, ◌-◌, ◌≤◌, ◌==◌, length, refl, sym, ap, ◌∙◌, subst, Option, Some, None}
use Rattle.std.specs.Prelude.{if◌then◌else◌}
use Rattle.std.specs.Option.{option_or}
use Rattle.std.proofs.lemmas.List.{length-set}
use Rattle.fmp_codes.specs.declared.numbers.Task.{Task}
use Rattle.fmp_setup.specs.Setup.{Setup}
use Rattle.fmp_rules.specs.declared.machine.TaskRecord.{TaskRecord}
use Rattle.fmp_rules.specs.World.{World, item, with_item, no_task, task}
use Rattle.fmp_law_safety.proofs.Items.{item_after, item_put, item_same, item_other, task_at}
use Rattle.fmp_law_balance.specs.Waits.Asked.{OpenWait}
use Rattle.fmp_law_balance.specs.Waits.Waits.{OpenWaits, setup_of}
use Rattle.fmp_law_balance.specs.Waits.Laws.{Waits, IsReported}
use Rattle.fmp_law_balance.proofs.waits.Named.{by_task}

-- from w to v there are as many tasks, waits and eventflags, and the timer is the same
abbrev pub SameCounts : {Q : Type 0} → World Q → World Q → Type 0
SameCounts w v = (length v.tasks ≡ length w.tasks) × (length v.waits_left ≡ length w.waits_left) × (length v.eventflags ≡ length w.eventflags) × (v.timer ≡ w.timer)

-- a task with this record and these ticks left has this open wait, and it is as configured
abbrev pub KeptAs : Setup → Task → Option OpenWait → TaskRecord → Option ℕ → Type 0
KeptAs c t pending r ticks = Waits pending r.wait ticks r.assigned × (r.setup ≡ setup_of c t)

abbrev pub IsKept : {Q : Type 0} → Setup → World Q → Task → Option OpenWait → Type 0
IsKept c w t pending = KeptAs c t pending (task w t) (item None w.waits_left t.number)

module _ {Q : Type 0} (w : World Q) where
  pub same_counts_then : (u v : World Q) → SameCounts w u → SameCounts u v → SameCounts w v
  same_counts_then u v a b = (b.0 ∙ a.0, b.1 ∙ a.1, b.2 ∙ a.2, b.3 ∙ a.3)

  -- one task changes
  pub counts_task : (t : Task) (r : TaskRecord) (q : Q) → SameCounts w (record w { tasks = with_item w.tasks t.number r; order = q })
  counts_task t r q = (length-set w.tasks (t.number - 1) r, refl, refl, refl)

  -- and the ticks that it has left
  pub counts_wait : (t : Task) (r : TaskRecord) (left : Option ℕ) (q : Q) →
      SameCounts w (record w { tasks = with_item w.tasks t.number r; waits_left = with_item w.waits_left t.number left; order = q })
  counts_wait t r left q = (length-set w.tasks (t.number - 1) r, length-set w.waits_left (t.number - 1) left, refl, refl)

module _ {Q : Type 0} (c : Setup) (w : World Q) (pending : OpenWaits) (report : (t : Task) → IsKept c w t (pending t)) where
  -- a task changes, and its wait stays
  pub report_kept : (u : Task) (r : TaskRecord) (q : Q) → KeptAs c u (pending u) r (item None w.waits_left u.number) →
      (t : Task) → IsKept c (record w { tasks = with_item w.tasks u.number r; order = q }) t (pending t)
  report_kept u r q here t =
      item_after no_task w.tasks u.number r (λ (x : TaskRecord). KeptAs c t (pending t) x (item None w.waits_left t.number)) t.number
      (λ i. subst (λ v. KeptAs c v (pending v) r (item None w.waits_left v.number)) (sym (task_at t u i)) here) (report t)

  -- the setup of each task, where that of one stays
  setup_kept : (u : Task) (r : TaskRecord) → r.setup ≡ (task w u).setup → (t : Task) → (item no_task (with_item w.tasks u.number r) t.number).setup ≡ setup_of c t
  setup_kept u r same t =
      item_after no_task w.tasks u.number r (λ (x : TaskRecord). x.setup ≡ setup_of c t) t.number
      (λ i. same ∙ (report u).1 ∙ ap (λ v. setup_of c v) (sym (task_at t u i))) (report t).1

  -- all others stay
  others : (u : Task) (r : TaskRecord) (left : Option ℕ) (t : Task) → (t.number ≡ u.number → ⊥) →
      Waits (pending t) (item no_task (with_item w.tasks u.number r) t.number).wait (item None (with_item w.waits_left u.number left) t.number) (item no_task (with_item w.tasks u.number r) t.number).assigned
  others u r left t d =
      subst (λ (x : TaskRecord). Waits (pending t) x.wait (item None (with_item w.waits_left u.number left) t.number) x.assigned) (sym (item_other no_task w.tasks u.number r t.number t.least u.least d))
      (subst (λ l. Waits (pending t) (task w t).wait l (task w t).assigned) (sym (item_other None w.waits_left u.number left t.number t.least u.least d)) (report t).0)

  -- its wait ends
  pub report_ended : (u : Task) (r : TaskRecord) (q : Q) → r.wait ≡ None → r.setup ≡ (task w u).setup →
      (t : Task) → IsKept c (record w { tasks = with_item w.tasks u.number r; waits_left = with_item w.waits_left u.number None; order = q }) t (if u.number == t.number then None else pending t)
  report_ended u r q none same t = (
    by_task (λ x b. IsReported (record w { tasks = with_item w.tasks u.number r; waits_left = with_item w.waits_left u.number None; order = q }) x (if b then None else pending x)) u t
        (λ e. record {
          wait = item_put no_task w.tasks u.number r (λ (x : TaskRecord). x.wait ≡ None) none refl;
          left = item_put None w.waits_left u.number None (λ (x : Option ℕ). x ≡ None) refl refl;
          assigned = tt;
        })
        (λ d. others u r None t d),
    setup_kept u r same t,
  )

  -- it begins to wait
  pub report_begun : (u : Task) (r : TaskRecord) (o : OpenWait) (q : Q) → r.wait ≡ Some o.wait → r.assigned ≡ o.assigned → r.setup ≡ (task w u).setup → u.number ≤ length w.tasks → u.number ≤ length w.waits_left →
      (t : Task) →
      IsKept c (record w { tasks = with_item w.tasks u.number r; waits_left = with_item w.waits_left u.number o.left; order = q }) t (option_or (if u.number == t.number then Some o else None) (pending t))
  report_begun u r o q is at same within timed t = (
    by_task
        (λ x b. IsReported (record w { tasks = with_item w.tasks u.number r; waits_left = with_item w.waits_left u.number o.left; order = q }) x (option_or (if b then Some o else None) (pending x))) u t
        (λ e. record {
          wait = ap (λ (x : TaskRecord). x.wait) (item_same no_task w.tasks u.number r u.least within) ∙ is;
          left = item_same None w.waits_left u.number o.left u.least timed;
          assigned = ap (λ (x : TaskRecord). x.assigned) (item_same no_task w.tasks u.number r u.least within) ∙ at;
        })
        (λ d. others u r o.left t d),
    setup_kept u r same t,
  )
