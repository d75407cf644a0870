-- The kernel's lists are those of the tasks, so cells that are closed are enough for all places of their tasks.
use Rattle.std.proofs.Common.{◌≡◌, ℕ, zero, suc, ◌+◌, ◌*◌, ◌<◌, ◌≤◌, ◌==◌, Bool, true, false, ◌||◌, List, [], ◌∷◌, length, drop, refl, sym, ap, ◌∙◌, subst, ⊎_elim, Option, None, Some, arith}
use Rattle.std.specs.Prelude.{slice_index_or, is_some}
use Rattle.std.specs.List.{list_any}
use Rattle.std.proofs.lemmas.Bool.{and_parts, cases_lt, eqb-true, false≢true}
use Rattle.std.proofs.lemmas.List.{drop_all, length-take}
use Rattle.fmp_codes.specs.Numbers.{as_proc, as_pri, within}
use Rattle.fmp_codes.specs.declared.numbers.Pri.{Pri}
use Rattle.fmp_codes.specs.declared.numbers.Proc.{Proc}
use Rattle.fmp_codes.specs.declared.numbers.Task.{Task}
use Rattle.fmp_rules.specs.declared.machine.TaskRecord.{TaskRecord}
use Rattle.fmp_rules.specs.World.{no_task}
use Rattle.fmp_rules.specs.Ordering.{is_runnable}
use Rattle.fmp_rules.specs.Arrivals.{State, is_ready_on, priority_in}
use Rattle.fmp_kernel_parts.specs.Tasks.{has_task}
use Rattle.fmp_ready.specs.Queues.{list_number, queue_at}
use Rattle.fmp_kernel_order.specs.Queues.{Queues}
use Rattle.fmp_law_lists.specs.Stands.{ReadyIs, AreListsOf}
use Rattle.fmp_law_footprint.specs.Cells.{Cell, SpotOf, ReadyOn, TimedWaits, at, on}
use Rattle.fmp_law_footprint.specs.Footprints.{InTimed, Closed}
use Rattle.fmp_law_lists.specs.Lists.{lists_on, StandsInside}
use Rattle.fmp_law_lists.proofs.ListsRead.{list_there}

-- where a list has one that passes a test, it has a place for it
any_at : {X : Type 0} (f : X → Bool) (d : X) (xs : List X) → list_any f xs ≡ true → (j : ℕ) × (j < length xs) × (f (slice_index_or xs j d) ≡ true)
any_at f d [] e = absurd (false≢true e)
any_at f d (x ∷ xs) e = by (f x) refl (λ r. any_at f d xs r) e
  where
    by : (b : Bool) → f x ≡ b → (list_any f xs ≡ true → (j : ℕ) × (j < length xs) × (f (slice_index_or xs j d) ≡ true)) → (b || list_any f xs) ≡ true
        → (j : ℕ) × (j < length (x ∷ xs)) × (f (slice_index_or (x ∷ xs) j d) ≡ true)
    by true is rest e = (zero, omega arith, is)
    by false is rest e = let i = rest e in let below = i.1 in (suc i.0, omega (arith, below), i.2)

module _ (S : Cell → Type 0) (tasks : List TaskRecord) (left : List (Option ℕ)) (closed : Closed S tasks left) (q : Queues) (ns : List ℕ) (next : ℕ)
    (ready : ReadyIs tasks q.ready ns next) where
  -- who stands in a list of a processor is assigned to it
  assigned_there : (n j : ℕ) (t : Task) → n < 8 → j < 32 → has_task t (queue_at q.ready (32 * n + j)) ≡ true → on (slice_index_or tasks (at t) no_task).assigned ≡ n
  assigned_there n j t few less e =
      let p : Proc = as_proc (n + 1) in
      let i : Pri = as_pri (j + 1) in
      let there : within 8 (n + 1) ≡ n + 1 = omega (arith, few) in
      let here : within 32 (j + 1) ≡ j + 1 = omega (arith, less) in
      let index : list_number p i ≡ 32 * n + j = omega (arith, there, here) in
      let member = sym ((ready.lists p i).members t) ∙ ap (λ m. has_task t (queue_at q.ready m)) index ∙ e in
      let parts = and_parts (is_ready_on tasks p t) (priority_in tasks t == i.number) member in
      let r : TaskRecord = slice_index_or tasks (at t) no_task in
      let number = eqb-true r.assigned.number p.number (and_parts (is_runnable r) (r.assigned.number == p.number) parts.0).1 in
      omega (arith, number, there)

  none_past : (n : ℕ) (t : Task) → 8 ≤ n → list_any (has_task t) (lists_on q.ready n) ≡ true → ⊥
  none_past n t far e =
      let all : length q.ready ≤ 32 * n = let l = ready.sized in omega (arith, l, far) in
      false≢true (rw (drop_all (32 * n) q.ready all) at e)

  stands_ready : (n : ℕ) (t : Task) → list_any (has_task t) (lists_on q.ready n) ≡ true → S (SpotOf (at t)) → S (ReadyOn n)
  stands_ready n t e spot =
      ⊎_elim
      (λ (few : n < 8).
      let i = any_at (has_task t) [] (lists_on q.ready n) e in
      let least = length-take 32 (drop (32 * n) q.ready) in
      let short : length (lists_on q.ready n) ≤ 32 = omega (arith, least) in
      let below = i.1 in
      let less : i.0 < 32 = omega (arith, below, short) in
      subst (λ m. S (ReadyOn m)) (assigned_there n i.0 t few less (ap (has_task t) (list_there q.ready n i.0 less) ∙ i.2)) (closed.ready (at t) spot))
      (λ (far : 8 ≤ n). absurd (none_past n t far e))
      (cases_lt n 8)

has_left : (S : Cell → Type 0) (o : Option ℕ) → is_some o ≡ true → InTimed S o → S TimedWaits
has_left S None e h = absurd (false≢true e)
has_left S (Some n) e h = h

-- so cells that are closed are enough
pub lists_stand_inside : (S : Cell → Type 0) (q : Queues) (m : State) → AreListsOf q m → Closed S m.tasks m.waits_left → StandsInside S q
lists_stand_inside S q m l closed = record {
  ready = stands_ready S m.tasks m.waits_left closed q m.order.ready m.order.next l.ready;
  timed = λ t e spot. has_left S (slice_index_or m.waits_left (at t) None) (sym (l.waits.timed.members t) ∙ e) (closed.timed (at t) spot);
}
