-- The first task of a processor in the model: it is the same where no task that is ready there changes.
use Rattle.std.proofs.Common.{◌≡◌, ℕ, zero, suc, ◌-◌, ◌==◌, Bool, true, false, ◌&&◌, ◌||◌, not, List, [], ◌∷◌, length, refl, ap, ◌∙◌, subst}
use Rattle.std.specs.Prelude.{slice_index_or, is_some, nat_lt, if◌then◌else◌}
use Rattle.std.proofs.lemmas.Bool.{cond_both, and_parts, eqb-true}
use Rattle.fmp_codes.specs.Numbers.{as_task}
use Rattle.fmp_codes.specs.declared.numbers.Proc.{Proc}
use Rattle.fmp_codes.specs.declared.numbers.Task.{Task}
use Rattle.fmp_rules.specs.declared.machine.TaskRecord.{TaskRecord}
use Rattle.fmp_rules.specs.World.{no_task, first}
use Rattle.fmp_rules.specs.Ordering.{is_runnable, top}
use Rattle.fmp_rules.specs.Arrivals.{State, numbered, inserted, inserted_if, in_order, comes_before, priority_in, is_ready_on}
use Rattle.fmp_law_footprint.specs.Cells.{Cell, OfTask, WaitOf, SpotOf, ReadyOn, Shape, at, on}
use Rattle.fmp_law_footprint.specs.Footprints.{Good, Moved, TellsTops}
use Rattle.fmp_law_footprint.specs.Numbers.{Numbers, numbers, Anywhere, Spotted}
use Rattle.fmp_law_footprint.specs.Words.{Each}

-- Lists in order.

module _ (qualifies : Task → Bool) (before later : Task → Task → Bool) where
  inserted_same : (t : Task) (us : List Task) → Each (λ u. before t u ≡ later t u) us → inserted before t us ≡ inserted later t us
  inserted_same t [] h = refl
  inserted_same t (u ∷ us) h = λ i. if h.0 i then t ∷ u ∷ us else u ∷ inserted_same t us h.1 i

  each_inserted : (P : Task → Type 0) (t : Task) (us : List Task) → P t → Each P us → Each P (inserted before t us)
  each_inserted P t [] new old = (new, tt)
  each_inserted P t (u ∷ us) new old = cond_both (before t u) _ _ (Each P) (λ _. (new, old)) (λ _. (old.0, each_inserted P t us new old.1))

  each_qualifies : (n : ℕ) → Each (λ u. qualifies u ≡ true) (in_order qualifies before n)
  each_qualifies zero = tt
  each_qualifies (suc n) = placed (qualifies (as_task (suc n))) refl (in_order qualifies before n) (each_qualifies n)
    where
      placed : (b : Bool) → qualifies (as_task (suc n)) ≡ b → (us : List Task) → Each (λ u. qualifies u ≡ true) us
          → Each (λ u. qualifies u ≡ true) (inserted_if b before (as_task (suc n)) us)
      placed true e us h = each_inserted (λ u. qualifies u ≡ true) (as_task (suc n)) us e h
      placed false e us h = h

  each_map : (P R : Task → Type 0) (us : List Task) → ((u : Task) → P u → R u) → Each P us → Each R us
  each_map P R [] f h = tt
  each_map P R (u ∷ us) f h = (f u h.0, each_map P R us f h.1)

  module _ (same : (t u : Task) → qualifies t ≡ true → qualifies u ≡ true → before t u ≡ later t u) where
    in_order_same : (n : ℕ) → in_order qualifies before n ≡ in_order qualifies later n
    in_order_same zero = refl
    in_order_same (suc n) =
        placed (qualifies (as_task (suc n))) refl (in_order qualifies before n) (each_qualifies n) ∙ ap
        (inserted_if (qualifies (as_task (suc n))) later (as_task (suc n))) (in_order_same n)
      where
        placed : (b : Bool) → qualifies (as_task (suc n)) ≡ b → (us : List Task) → Each (λ u. qualifies u ≡ true) us
            → inserted_if b before (as_task (suc n)) us ≡ inserted_if b later (as_task (suc n)) us
        placed true e us h =
            inserted_same (as_task (suc n)) us (each_map _ (λ u. before (as_task (suc n)) u ≡ later (as_task (suc n)) u) us (λ u f. same (as_task (suc n)) u e f) h)
        placed false e us h = refl

-- The model.

either_alike : (a b : Bool) → (a ≡ true → a ≡ b) → (b ≡ true → a ≡ b) → a ≡ b
either_alike true b f g = f refl
either_alike false true f g = g refl
either_alike false false f g = refl

module _ (S : Cell → Type 0) (spotted : Spotted S) (w v : State) (p : Proc) (g : Good Numbers numbers S Anywhere w) (m : Moved Numbers numbers S Anywhere w v)
    (off : S (ReadyOn (on p)) → ⊥) where
  away : (tasks : List TaskRecord) → ((n : ℕ) → S (SpotOf n) → S (ReadyOn (on (slice_index_or tasks n no_task).assigned))) → (t : Task) → is_ready_on tasks p t ≡ true
      → S (SpotOf (at t)) → ⊥
  away tasks closed t e spot =
      let r : TaskRecord = slice_index_or tasks (at t) no_task in
      let here : r.assigned.number ≡ p.number = eqb-true r.assigned.number p.number (and_parts (is_runnable r) (r.assigned.number == p.number) e).1 in
      off (subst (λ n. S (ReadyOn (n - 1))) here (closed (at t) spot))

  -- a task whose spot is not in S is ready on p as it was
  ready_same : (t : Task) → (S (SpotOf (at t)) → ⊥) → is_ready_on v.tasks p t ≡ is_ready_on w.tasks p t
  ready_same t none =
      let rest = m.leaves (OfTask (at t)) (λ h. none (spotted.task (at t) h)) in
      let waits = m.leaves (WaitOf (at t)) (λ h. none (spotted.wait (at t) h)) in
      λ i. ((rest i).active && not (is_some (waits i)) && not (rest i).suspended) && (rest i).assigned.number == p.number

  same_ready : (t : Task) → is_ready_on v.tasks p t ≡ is_ready_on w.tasks p t
  same_ready t = either_alike _ _ (λ e. ready_same t (away v.tasks m.closed.ready t e)) (λ e. ready_same t (away w.tasks g.closed.ready t e))

  priority_same : (t : Task) → (S (SpotOf (at t)) → ⊥) → priority_in v.tasks t ≡ priority_in w.tasks t
  priority_same t none = ap (λ (r : TaskRecord). r.priority.number) (m.leaves (OfTask (at t)) (λ h. none (spotted.task (at t) h)))

  number_same : (t : Task) → (S (SpotOf (at t)) → ⊥) → slice_index_or v.order.ready (at t) 0 ≡ slice_index_or w.order.ready (at t) 0
  number_same t none = ap (λ x. x.0) (m.spares (SpotOf (at t)) none)

  before_same : (t u : Task) → is_ready_on v.tasks p t ≡ true → is_ready_on v.tasks p u ≡ true
      → comes_before (priority_in v.tasks) v.order.ready t u ≡ comes_before (priority_in w.tasks) w.order.ready t u
  before_same t u e f =
      let a = away v.tasks m.closed.ready t e in
      let b = away v.tasks m.closed.ready u f in
      λ i. nat_lt (priority_same t a i) (priority_same u b i) || (priority_same t a i == priority_same u b i && nat_lt (number_same t a i) (number_same u b i))

  top_same : top numbered v p ≡ top numbered w p
  unfolding numbered
  top_same =
      ap first (in_order_same (is_ready_on v.tasks p) (comes_before (priority_in v.tasks) v.order.ready) (comes_before (priority_in w.tasks) w.order.ready) before_same
      (length v.tasks))
      ∙ (λ i. first (in_order (λ t. same_ready t i) (comes_before (priority_in w.tasks) w.order.ready) ((m.leaves Shape spotted.shape i).tasks)))

pub numbered_tells : (S : Cell → Type 0) → Spotted S → TellsTops Numbers numbers S Anywhere numbered
numbered_tells S spotted = record { top = λ w v p g m off. top_same S spotted w v p g m off }
