-- What the record of a task may become.
use Rattle.std.proofs.Common.{◌≡◌, ℕ, ◌≤◌, ◌-◌, ◌==◌, ◌&&◌, inl, inr, Bool, true, false, refl, sym, subst, ◌∙◌, arith, lit≤, Option, Some, None}
use Rattle.std.specs.Prelude.{nat_lt, is_none, unwrap_or}
use Rattle.std.proofs.lemmas.Bool.{and_parts, and_from, false_from_ne_true, both_ways, cond_both, eqb-true, true≢false, ltb-false}
use Rattle.std.proofs.lemmas.Option.{none-some, same_Some}
use Rattle.fmp_codes.specs.declared.numbers.Proc.{Proc}
use Rattle.fmp_codes.specs.declared.numbers.Task.{Task}
use Rattle.fmp_codes.specs.declared.numbers.Pri.{Pri}
use Rattle.fmp_setup.specs.declared.setup.Class.{Class}
use Rattle.fmp_setup.specs.declared.setup.Limits.{Limits}
use Rattle.fmp_rules.specs.declared.machine.TaskRecord.{TaskRecord}
use Rattle.fmp_rules.specs.declared.machine.Wait.{Wait}
use Rattle.fmp_setup.specs.Setup.{has_member}
use Rattle.fmp_rules.specs.World.{World, task, processor, is_held}
use Rattle.fmp_rules.specs.Tasks.{started, ended}
use Rattle.fmp_law_safety.specs.Safe.{may_run_on, TaskInRange}
use Rattle.fmp_law_safety.proofs.Rests.{MayBegin}
use Rattle.fmp_law_safety.proofs.Keeps.{Becomes}

pub record MayRunOn (p : Proc) (r : TaskRecord) : Type 0 where
  pub active : r.active ≡ true
  pub assigned : r.assigned.number ≡ p.number
  pub wait : is_none r.wait ≡ true

pub may_run_parts : (p : Proc) (r : TaskRecord) → may_run_on p r ≡ true → MayRunOn p r
may_run_parts p r e =
    let parts = and_parts r.active ((r.assigned.number == p.number) && is_none r.wait) e in
    let others = and_parts (r.assigned.number == p.number) (is_none r.wait) parts.1 in
    record { active = parts.0; assigned = eqb-true r.assigned.number p.number others.0; wait = others.1 }

kept_or_assigned : (c : Class) (kept : Option Proc) (p : Proc) → has_member c p ≡ true → ((q : Proc) → kept ≡ Some q → has_member c q ≡ true) →
    has_member c (unwrap_or kept p) ≡ true
kept_or_assigned c None p a f = a
kept_or_assigned c (Some q) p a f = f q refl

pub runs_without_wait : (p : Proc) (o : TaskRecord) → may_run_on p o ≡ true → may_run_on p (record o { wait = None }) ≡ true
runs_without_wait p o m =
    let parts = and_parts o.active ((o.assigned.number == p.number) && is_none o.wait) m in
    and_from _ _ parts.0 (and_from _ _ (and_parts (o.assigned.number == p.number) (is_none o.wait) parts.1).0 refl)

module _ {Q : Type 0} (w : World Q) (p : Proc) (t : Task) where
  -- fields change of which nothing depends that runs or waits
  pub becomes_noted : (r : TaskRecord) → r.active ≡ (task w t).active → r.assigned ≡ (task w t).assigned → r.wait ≡ (task w t).wait →
      (TaskInRange w.limits (task w t) → TaskInRange w.limits r) → Becomes w p t r
  becomes_noted r a b c range =
      let same : (q : Proc) → may_run_on q (task w t) ≡ may_run_on q r = λ q. rw (a, b, c) refl in
      record {
        others = λ q d m. sym (same q) ∙ m;
        own = λ e h m. sym (same p) ∙ m;
        waits = λ x e. inl (sym c ∙ e);
        range = range;
      }

  -- a task has another number of queued wakeups
  pub becomes_counted : (n : ℕ) → ((task w t).wakeups ≤ w.limits.wakeups → n ≤ w.limits.wakeups) → Becomes w p t (record (task w t) { wakeups = n })
  becomes_counted n most =
      becomes_noted (record (task w t) { wakeups = n }) refl refl refl
      (λ r. record { activations = r.activations; wakeups = most r.wakeups; assigned = r.assigned; kept = r.kept; dormant = r.dormant })

  -- a task has another priority, or is suspended while it is active, or no longer
  pub becomes_changed : (n : Pri) (suspended : Bool) → (suspended ≡ true → (task w t).active ≡ true) → Becomes w p t (record (task w t) { priority = n; suspended = suspended })
  becomes_changed n suspended active =
      becomes_noted (record (task w t) { priority = n; suspended = suspended }) refl refl refl
      (λ r. record {
        activations = r.activations;
        wakeups = r.wakeups;
        assigned = r.assigned;
        kept = r.kept;
        dormant = λ e. ((r.dormant e).0, (r.dormant e).1, false_from_ne_true suspended (λ s. both_ways _ e (active s)));
      })

  -- a wait is over, if there was one
  pub becomes_released : Becomes w p t (record (task w t) { wait = None })
  becomes_released = record {
    others = λ q d m. runs_without_wait q (task w t) m;
    own = λ e h m. runs_without_wait p (task w t) m;
    waits = λ x e. absurd (none-some x e);
    range = λ r. record { activations = r.activations; wakeups = r.wakeups; assigned = r.assigned; kept = r.kept; dormant = λ e. ((r.dormant e).0, refl, (r.dormant e).2) };
  }

  -- what p may run begins to wait, where p is not held
  pub becomes_waiting : (x : Wait) → may_run_on p (task w t) ≡ true → is_held w p ≡ false → MayBegin w x → Becomes w p t (record (task w t) { wait = Some x })
  becomes_waiting x mine free may = record {
    others = λ q d m. absurd (d (sym (may_run_parts q (task w t) m).assigned ∙ (may_run_parts p (task w t) mine).assigned));
    own = λ e h m. absurd (both_ways _ free h);
    waits = λ y e. inr (subst (MayBegin w) (same_Some x y e) may);
    range = λ r. record { activations = r.activations; wakeups = r.wakeups; assigned = r.assigned; kept = r.kept; dormant = λ e. absurd (both_ways _ e (may_run_parts p (task w t) mine).active) };
  }

  -- a dormant task starts on a processor of its class
  pub becomes_started : (to : Proc) → (task w t).active ≡ false → (TaskInRange w.limits (task w t) → has_member (task w t).setup.class to ≡ true) →
      Becomes w p t (started (task w t) to)
  becomes_started to dormant member = record {
    others = λ q d m. absurd (both_ways _ dormant (may_run_parts q (task w t) m).active);
    own = λ e h m. absurd (both_ways _ dormant (may_run_parts p (task w t) m).active);
    waits = λ x e. absurd (none-some x e);
    range = λ r. record { activations = r.activations; wakeups = omega arith; assigned = member r; kept = r.kept; dormant = λ e. absurd (true≢false e) };
  }

  -- a task that is assigned to p moves to another processor of its class, where it does not run while p is held
  pub becomes_moved : (to : Proc) → (task w t).assigned.number ≡ p.number → ((processor w p).running ≡ Some t → is_held w p ≡ false) →
      has_member (task w t).setup.class to ≡ true → Becomes w p t (record (task w t) { assigned = to })
  becomes_moved to here free member = record {
    others = λ q d m. absurd (d (sym (may_run_parts q (task w t) m).assigned ∙ here));
    own = λ e h m. absurd (both_ways _ (free e) h);
    waits = λ x e. inl e;
    range = λ r. record { activations = r.activations; wakeups = r.wakeups; assigned = member; kept = r.kept; dormant = r.dormant };
  }

  -- queued activations are taken back
  pub becomes_unqueued : Becomes w p t (record (task w t) { activations = 0; kept = None })
  becomes_unqueued =
      becomes_noted (record (task w t) { activations = 0; kept = None }) refl refl refl
      (λ r. record { activations = lit≤ tt; wakeups = r.wakeups; assigned = r.assigned; kept = λ q e. absurd (none-some q e); dormant = λ e. (refl, (r.dormant e).1, (r.dormant e).2) })

-- the record of a task that is over
abbrev over : TaskRecord → TaskRecord
over o = record o { active = false; wait = None; suspended = false; activations = o.activations - 1; kept = None }

abbrev next_on : TaskRecord → Proc
next_on o = unwrap_or o.kept o.assigned

again : (limits : Limits) (o : TaskRecord) → TaskInRange limits o → TaskInRange limits (started (over o) (next_on o))
again limits o r = record {
  activations = omega (arith, r.activations);
  wakeups = omega arith;
  assigned = kept_or_assigned o.setup.class o.kept o.assigned r.assigned (λ q e. (r.kept q e).0);
  kept = λ q e. absurd (none-some q e);
  dormant = λ e. absurd (true≢false e);
}

at_rest : (limits : Limits) (o : TaskRecord) → TaskInRange limits o → nat_lt 0 o.activations ≡ false → TaskInRange limits (over o)
at_rest limits o r none = record {
  activations = omega (arith, r.activations);
  wakeups = r.wakeups;
  assigned = r.assigned;
  kept = λ q e. absurd (none-some q e);
  dormant = λ e. (omega (arith, ltb-false 0 o.activations none), refl, refl);
}

pub no_wait_ended : (o : TaskRecord) → (ended o).wait ≡ None
no_wait_ended o = cond_both (nat_lt 0 o.activations) (started (over o) (next_on o)) (over o) (λ (r : TaskRecord). r.wait ≡ None) (λ _. refl) (λ _. refl)

module _ {Q : Type 0} (w : World Q) (p : Proc) (t : Task) where
  -- a task that is assigned to p ends, where it does not run there while p is held
  pub becomes_ended : (task w t).assigned.number ≡ p.number → ((processor w p).running ≡ Some t → is_held w p ≡ false) → Becomes w p t (ended (task w t))
  becomes_ended here free = record {
    others = λ q d m. absurd (d (sym (may_run_parts q (task w t) m).assigned ∙ here));
    own = λ e h m. absurd (both_ways _ (free e) h);
    waits = λ x e. absurd (none-some x (sym (no_wait_ended (task w t)) ∙ e));
    range = λ r.
        cond_both (nat_lt 0 (task w t).activations) (started (over (task w t)) (next_on (task w t))) (over (task w t)) (TaskInRange w.limits)
        (λ _. again w.limits (task w t) r) (λ none. at_rest w.limits (task w t) r none);
  }
