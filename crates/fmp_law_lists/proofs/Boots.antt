-- The lists at boot stand for the state at boot.
use Rattle.std.proofs.Common.{◌≡◌, ℕ, zero, suc, ◌+◌, ◌-◌, ◌<◌, ◌≤◌, Bool, true, false, if◌then◌else◌, List, [], ◌∷◌, length, map, refl, sym, ap, ◌∙◌, subst, arith, lit≤, Option, None, ⊎_elim}
use Rattle.std.specs.Prelude.{is_some, slice_index_or, replicate}
use Rattle.std.proofs.lemmas.Bool.{cases_lt, and_left, false≢true}
use Rattle.std.proofs.lemmas.List.{get_or-map, get_or_past, get_or-replicate, length-map, length-replicate, length-set}
use Rattle.fmp_codes.specs.Numbers.{as_task, within}
use Rattle.fmp_codes.specs.declared.numbers.Proc.{Proc}
use Rattle.fmp_codes.specs.declared.numbers.Task.{Task}
use Rattle.fmp_codes.specs.declared.numbers.Object.{Object}
use Rattle.fmp_setup.specs.declared.setup.TaskSetup.{TaskSetup}
use Rattle.fmp_rules.specs.declared.machine.TaskRecord.{TaskRecord}
use Rattle.fmp_rules.specs.declared.machine.QueueKind.{QueueKind}
use Rattle.fmp_rules.specs.declared.machine.QueueKind.TheVariants as kind
use Rattle.fmp_setup.specs.Setup.{Setup}
use Rattle.fmp_rules.specs.World.{World, with_item, no_task, task, processor, with_processor, processors_to, resting}
use Rattle.fmp_rules.specs.Ordering.{is_runnable, waits_in, order_in}
use Rattle.fmp_rules.specs.Arrivals.{State, numbered, rank_in}
use Rattle.fmp_rules.specs.Tasks.{start, started}
use Rattle.fmp_rules.specs.Rows.{done}
use Rattle.fmp_rules.specs.Boot.{blank, all_started, with_top_running, with_tops_running, boot, booted, unnumbered}
use Rattle.fmp_law_safety.proofs.Items.{item_after}
use Rattle.fmp_ready.specs.Queues.{list_number, queue_at}
use Rattle.fmp_waitq.specs.Queue.{task_of}
use Rattle.fmp_kernel_order.specs.Queues.{WaitQueues, Queues, queue, queues, listed, no_queues}
use Rattle.fmp_law_lists.specs.Listing.{IsListOf}
use Rattle.fmp_law_lists.specs.Stands.{record_in, runs_in, waits_for, is_ready_at, is_waiter_of, has_ticks, AreNumbered, AreRanked, count_in, with_order, AreListsOf, Stands}
use Rattle.fmp_law_lists.proofs.Matching.{placed_free}
use Rattle.fmp_law_lists.proofs.Steps.{same_tops}

blanks_at : {X Y : Type 0} (x : Y) (xs : List X) (i : ℕ) → slice_index_or (map (λ s. x) xs) i x ≡ x
blanks_at x [] i = get_or_past [] i x (omega arith)
blanks_at x (y ∷ ys) zero = refl
blanks_at x (y ∷ ys) (suc i) = blanks_at x ys i

-- Nothing is kept of tasks that all are dormant.

module _ (c : Setup) (few : length c.tasks ≤ 64) where
  abbrev tasks : List TaskRecord
  tasks = map resting c.tasks

  abbrev ws : WaitQueues
  ws = (no_queues c).waits

  at_rest : (X : Type 0) (f : TaskRecord → X) → ((s : TaskSetup) → f (resting s) ≡ f no_task) → (t : Task) → f (record_in tasks t) ≡ f no_task
  at_rest X f same t = ⊎_elim
      (λ (l : t.number - 1 < length c.tasks). ap f (get_or-map resting c.tasks (t.number - 1) no_task.setup no_task l) ∙ same (slice_index_or c.tasks (t.number - 1) no_task.setup))
      (λ (l : length c.tasks ≤ t.number - 1). ap f (get_or_past tasks (t.number - 1) no_task (rw (length-map c.tasks resting) l)))
      (cases_lt (t.number - 1) (length c.tasks))

  none_runs : (t : Task) → runs_in tasks t ≡ false
  none_runs t = at_rest Bool is_runnable (λ _. refl) t

  none_waits : (t : Task) → (record_in tasks t).wait ≡ None
  none_waits t = at_rest _ (λ r. r.wait) (λ _. refl) t

  empty_list : (q : Task → Bool) (before : Task → Task → Bool) → ((t : Task) → q t ≡ false) → (us : List Task) → us ≡ [] → IsListOf q before us
  empty_list q before none us e = subst (IsListOf q before) (sym e) (record { members = λ t. sym (none t); ordered = tt })

  empty_queue : (x : QueueKind) (o : Object) → queue ws x o ≡ []
  empty_queue kind.Semaphore o = blanks_at [] c.semaphores (o.number - 1)
  empty_queue kind.Eventflag o = blanks_at [] c.eventflags (o.number - 1)
  empty_queue kind.Send o = blanks_at [] c.data_queues (o.number - 1)
  empty_queue kind.Receive o = blanks_at [] c.data_queues (o.number - 1)
  empty_queue kind.Pool o = blanks_at [] c.pools (o.number - 1)

  no_ticks : (t : Task) → has_ticks (map (λ s. None) c.tasks) t ≡ false
  no_ticks t = ap is_some (blanks_at None c.tasks (t.number - 1))

  none_numbered : (q : Task → Bool) (ns : List ℕ) (next : ℕ) → ((t : Task) → q t ≡ false) → AreNumbered q ns next
  none_numbered q ns next none = record { distinct = λ t u e. absurd (false≢true (sym (none t) ∙ e)); below = λ t e. absurd (false≢true (sym (none t) ∙ e)) }

  blank_list : (i : ℕ) → queue_at (replicate 256 []) i ≡ []
  blank_list i = ⊎_elim (λ (l : i < 256). get_or-replicate 256 i [] [] l) (λ (l : 256 ≤ i). get_or_past (replicate 256 []) i [] (rw (length-replicate {A = List Task} 256 []) l)) (cases_lt i 256)

  as_many : (x : QueueKind) → length (queues ws x) ≡ count_in (blank (unnumbered c) c) x
  as_many kind.Semaphore = length-map c.semaphores _ ∙ sym (length-map c.semaphores _)
  as_many kind.Eventflag = length-map c.eventflags _ ∙ sym (length-map c.eventflags _)
  as_many kind.Send = length-map c.data_queues _
  as_many kind.Receive = length-map c.data_queues _
  as_many kind.Pool = length-map c.pools _ ∙ sym (length-map c.pools _)

  blank_keeps : AreListsOf (no_queues c) (blank (unnumbered c) c)
  blank_keeps = record {
    ready = record {
      lists = λ p n. empty_list (is_ready_at tasks p n) _ (λ t. and_left _ _ (and_left _ _ (none_runs t))) (queue_at (replicate 256 []) (list_number p n)) (blank_list (list_number p n));
      numbered = none_numbered (runs_in tasks) _ 0 none_runs;
      sized = length-replicate {A = List Task} 256 [];
      counted = length-map c.tasks _ ∙ sym (length-map c.tasks resting);
      few = rw (length-map c.tasks resting) few;
    };
    waits = record {
      lists = λ x o. empty_list (is_waiter_of tasks x o) _ (λ t. ap (waits_in x o) (none_waits t)) (map task_of (queue ws x o)) (ap (map task_of) (empty_queue x o));
      ranked = λ x o. subst (AreRanked (rank_in (order_in (blank (unnumbered c) c) x o) tasks)) (sym (empty_queue x o)) tt;
      timed = empty_list (has_ticks (map (λ s. None) c.tasks)) _ no_ticks [] refl;
      timed_wait = λ t e. absurd (false≢true (sym (no_ticks t) ∙ e));
      numbered = none_numbered (waits_for tasks) _ 0 (λ t. ap is_some (none_waits t));
      counted = length-map c.tasks _ ∙ sym (length-map c.tasks resting);
      left_counted = length-map c.tasks _ ∙ sym (length-map c.tasks resting);
    };
    sized = as_many;
  }

-- Tasks are started.

abbrev NoneWaits : State → Type 0
NoneWaits m = (u : Task) → (task m u).wait ≡ None

abbrev StartAlike : State → Queues → ℕ → List TaskSetup → Type 0
StartAlike m q t ss = Stands (all_started listed (with_order m q) t ss) (all_started numbered m t ss)

started_stands : (m : State) (q : Queues) → AreListsOf q m → NoneWaits m → (t : ℕ) (ss : List TaskSetup) → 1 ≤ t → t + length ss ≤ length m.tasks + 1 → length m.tasks ≤ 64 → StartAlike m q t ss
started_stands m q s free t [] one h few = record { same = refl; order = s }
started_stands m q s free t (x ∷ ss) one h few = go x.starts (λ n y k f a b. started_stands n y k f (t + 1) ss (omega (arith, one)) a b)
  where
    GoesOn : Type 0
    GoesOn = (n : State) (y : Queues) → AreListsOf y n → NoneWaits n → t + 1 + length ss ≤ length n.tasks + 1 → length n.tasks ≤ 64 → StartAlike n y (t + 1) ss

    -- a task is started or not, and then the others
    go : (b : Bool) → GoesOn →
        Stands (all_started listed (if b then start listed (with_order m q) (as_task t) x.class.initial else with_order m q) (t + 1) ss)
        (all_started numbered (if b then start numbered m (as_task t) x.class.initial else m) (t + 1) ss)
    go false rest = rest m q s free (omega (arith, h)) few
    go true rest =
        let number : within 64 t ≤ length m.tasks = omega (arith, one, h) in
        let r : TaskRecord = started (task m (as_task t)) x.class.initial in
        let did = placed_free m q s (as_task t) number r done refl (free (as_task t)) in
        let size : length (with_item m.tasks (as_task t).number r) ≡ length m.tasks = length-set m.tasks _ r in
        rest (start numbered m (as_task t) x.class.initial) (start listed (with_order m q) (as_task t) x.class.initial).order did.stands.order
        (λ u. item_after no_task m.tasks (as_task t).number r (λ o. o.wait ≡ None) u.number (λ _. refl) (free u)) (rw size (omega (arith, h))) (rw size few)

-- The processors run their tops.

running_stands : (m : State) (q : Queues) → AreListsOf q m → (ps : List Proc) → Stands (with_tops_running listed (with_order m q) ps) (with_tops_running numbered m ps)
running_stands m q s [] = record { same = refl; order = s }
running_stands m q s (p ∷ ps) =
    subst (λ (f : Proc → Option Task). Stands (with_tops_running listed (with_order (running (f p)) q) ps) (with_tops_running numbered (with_top_running numbered m p) ps))
    (sym (same_tops m q s)) (running_stands (with_top_running numbered m p) q s ps)
  where
    running : Option Task → State
    running t = with_processor m p (record (processor m p) { running = t })

pub boot_stands : (c : Setup) → length c.tasks ≤ 64 → Stands (boot listed (no_queues c) c) (booted c)
boot_stands c few =
    let m : State = blank (unnumbered c) c in
    let size : length m.tasks ≡ length c.tasks = length-map c.tasks resting in
    let all = started_stands m (no_queues c) (blank_keeps c few) (none_waits c few) 1 c.tasks (lit≤ tt) (omega (arith, size)) (omega (arith, size, few)) in
    subst (λ (y : World Queues). Stands (with_tops_running listed y (processors_to c.processors)) (booted c)) (sym all.same)
    (running_stands (all_started numbered m 1 c.tasks) (all_started listed (with_order m (no_queues c)) 1 c.tasks).order all.order (processors_to c.processors))
