-- What a state has where this is told of it: who waits, which blocks are free, and who holds a spin lock.
use Rattle.std.proofs.Common.{◌≡◌, ◌≤◌, ◌<◌, ◌+◌, ◌-◌, ◌==◌, ℕ, suc, ℤ, zero-add, Bool, true, false, not, ◌&&◌, ◌||◌, List, [], ◌∷◌, length, get_or, arith, refl, sym}
use Rattle.std.proofs.Common.{ap, ◌∙◌, Option, Some, None, ⊎_elim}
use Rattle.std.specs.Prelude.{if◌then◌else◌, is_some, nat_lt, option_map, slice_index_or, take, bit_and}
use Rattle.std.specs.List.{list_any, range_with_len, position, position_from}
use Rattle.std.proofs.lemmas.Bool.{cond_both, false≢true, lt-ltb, ne_eqb, cases_eq}
use Rattle.std.proofs.lemmas.List.{get_or-take, length-take-le}
use Rattle.std.proofs.lemmas.List.Elements.{All-from_get_or}
use Rattle.std.proofs.lemmas.List.Folds.{list_any_at, list_any_none}
use Rattle.std.proofs.lemmas.List.FromFn.{length-map-range_with_len, get_or-map-range_with_len, length-range_with_len, get_or-range_with_len}
use Rattle.std.proofs.lemmas.Iterator.Adapters.{position_from-zero}
use Rattle.std.proofs.Math.ListN.{get_or-map}
use Rattle.fmp_codes.specs.Numbers.{as_task, as_object, within}
use Rattle.fmp_codes.specs.declared.numbers.Proc.{Proc}
use Rattle.fmp_codes.specs.declared.numbers.Task.{Task}
use Rattle.fmp_codes.specs.declared.numbers.Object.{Object}
use Rattle.fmp_codes.specs.declared.calls.Mode.{Mode}
use Rattle.fmp_codes.specs.declared.calls.Mode.TheVariants as mode
use Rattle.fmp_setup.specs.declared.setup.DataQueueSetup.{DataQueueSetup}
use Rattle.fmp_setup.specs.declared.setup.EventflagSetup.{EventflagSetup}
use Rattle.fmp_setup.specs.declared.setup.PoolSetup.{PoolSetup}
use Rattle.fmp_setup.specs.Setup.{Setup, no_pool, no_data_queue}
use Rattle.fmp_rules.specs.declared.machine.Pool.{Pool}
use Rattle.fmp_rules.specs.declared.machine.TaskRecord.{TaskRecord}
use Rattle.fmp_rules.specs.declared.machine.Wait.{Wait}
use Rattle.fmp_rules.specs.declared.machine.Wait.TheVariants as wait
use Rattle.fmp_rules.specs.declared.machine.QueueKind.{QueueKind}
use Rattle.fmp_rules.specs.declared.machine.QueueKind.TheVariants as kind
use Rattle.fmp_rules.specs.World.{World, no_task, task, first}
use Rattle.fmp_rules.specs.Objects.{blank_pool, semaphore, eventflag, data_queue, values, pool, free_block, holder, holds}
use Rattle.fmp_rules.specs.Ordering.{Ordering, waits_in, queue}
use Rattle.fmp_rules.specs.Processors.{is_at, holds_lock as machine_holds}
use Rattle.fmp_rules.specs.TaskCalls.{is_sleep}
use Rattle.fmp_rules.specs.SyncCalls.{is_taken}
use Rattle.fmp_rules.specs.BufferCalls.{can_send, can_receive, sender}
use Rattle.fmp_law_safety.proofs.First.{as_task_same}
use Rattle.fmp_law_safety.proofs.Listed.{not_past}
use Rattle.fmp_law_safety.proofs.Queues.{Lists, none_there, nobody_waits, first_waits}
use Rattle.fmp_law_balance.specs.Waits.Asked.{OpenWait}
use Rattle.fmp_law_records.specs.Patterns.{are_there}
use Rattle.fmp_law_records.specs.Locks.{is_holder}
use Rattle.fmp_law_records.proofs.Accepting.{Agrees}
use Rattle.fmp_law_records.specs.Refusals.Arguments.{pool_setup}
use Rattle.fmp_law_records.specs.Refusals.Found.{FoundReported, eventflag_setup as eventflag_reported, data_queue_setup, all_tasks, all_locks, for_wakeup, for_unit, for_bits, to_send}
use Rattle.fmp_law_records.specs.Refusals.Found.{to_receive, waits_so, somebody_waits, is_used, has_bits, takes_value, gives_value, has_block, holds_lock}
use Rattle.fmp_law_records.proofs.refusals.Frames.{Frame}
use Rattle.fmp_law_records.proofs.refusals.Configured.{Configured, pool_setup_same, eventflag_setup, holders_same}

-- Lists that are looked through.

-- a list has an element that passes, or none
any_is : {X : Type 0} (p : X → Bool) (xs : List X) (d : X) (b : Bool) → (b ≡ true → (i : ℕ) × (i < length xs) × (p (get_or xs i d) ≡ true)) →
    (b ≡ false → (i : ℕ) → i < length xs → p (get_or xs i d) ≡ false) → list_any p xs ≡ b
any_is p xs d true some none = let there = some refl in list_any_at p xs there.0 d there.1 there.2
any_is p xs d false some none = list_any_none p xs (All-from_get_or (λ x. p x ≡ false) xs d (none refl))

-- two lists whose elements pass alike
any_same : {X Y : Type 0} (p : X → Bool) (q : Y → Bool) (xs : List X) (ys : List Y) (d : X) (e : Y) → length xs ≡ length ys →
    ((i : ℕ) → i < length xs → p (get_or xs i d) ≡ q (get_or ys i e)) → list_any p xs ≡ list_any q ys
any_same p q [] [] d e same alike = refl
any_same p q [] (y ∷ ys) d e same alike = absurd (omega (arith, same))
any_same p q (x ∷ xs) [] d e same alike = absurd (omega (arith, same))
any_same p q (x ∷ xs) (y ∷ ys) d e same alike =
    ap (λ b. b || list_any p xs) (alike 0 (omega arith)) ∙ ap (λ b. q y || b) (any_same p q xs ys d e (omega (arith, same)) (λ i h. alike (suc i) (omega (arith, h))))

some_of : {X : Type 0} (o : Option X) → is_some o ≡ true → (x : X) × (o ≡ Some x)
some_of None e = absurd (false≢true e)
some_of (Some x) e = (x, refl)

-- and so their first elements that pass stand at one place
position_same : {X Y : Type 0} (p : X → Bool) (q : Y → Bool) (xs : List X) (ys : List Y) (d : X) (e : Y) → length xs ≡ length ys →
    ((i : ℕ) → i < length xs → p (get_or xs i d) ≡ q (get_or ys i e)) →
    position p xs ≡ position q ys
position_same {X = X} {Y = Y} p q xs ys d e same alike = position_from-zero p xs ∙ go 0 xs ys same alike ∙ sym (position_from-zero q ys)
  where
    go : (n : ℕ) (xs : List X) (ys : List Y) → length xs ≡ length ys → ((i : ℕ) → i < length xs → p (get_or xs i d) ≡ q (get_or ys i e)) →
        position_from p n xs ≡ position_from q n ys
    go n [] [] same alike = refl
    go n [] (y ∷ ys) same alike = absurd (omega (arith, same))
    go n (x ∷ xs) [] same alike = absurd (omega (arith, same))
    go n (x ∷ xs) (y ∷ ys) same alike =
        ap (λ b. if b then Some n else position_from p (n + 1) xs) (alike 0 (omega arith))
        ∙ ap (λ o. if q y then Some n else o) (go (n + 1) xs ys (omega (arith, same)) (λ i h. alike (suc i) (omega (arith, h))))

position_is : {X : Type 0} (p : X → Bool) (xs : List X) → is_some (position p xs) ≡ list_any p xs
position_is {X = X} p xs = ap is_some (position_from-zero p xs) ∙ go 0 xs
  where
    go : (i : ℕ) (xs : List X) → is_some (position_from p i xs) ≡ list_any p xs
    go i [] = refl
    go i (x ∷ xs) = cond_both (p x) (Some i) (position_from p (i + 1) xs) (λ o. is_some o ≡ (p x || list_any p xs)) (λ yes_. sym (ap (λ b. b || list_any p xs) yes_))
        (λ no_. go (i + 1) xs ∙ sym (ap (λ b. b || list_any p xs) no_))

-- What is told.

pub record Finds {Q : Type 0} (c : Setup) (x : FoundReported) (w : World Q) : Type 0 where
  pub tasks : (t : Task) → t.number ≤ length w.tasks → Agrees (x.task t) (task w t)
  pub waits : (t : Task) → (task w t).wait ≡ option_map (λ y. y.wait) (x.task t).wait
  pub priority : (t : Task) → t.number ≤ length w.tasks → (task w t).active ≡ true → (task w t).priority ≡ x.priority t
  pub wakeups : (t : Task) → t.number ≤ length w.tasks → (task w t).active ≡ true → (task w t).wakeups ≡ x.wakeups t
  pub units : (s : Object) → (semaphore w s).count ≡ x.units s
  pub pattern : (f : Object) → (eventflag w f).pattern ≡ x.pattern f
  pub values : (d : Object) → length (values w d) ≡ x.values d
  pub out : (m : Object) (b : ℕ) → slice_index_or (pool w m).handed b false ≡ x.out m b
  pub holder : (l : Object) → holder w l ≡ x.holder l

-- The waits of the machine are those that are told.

abbrev now : Option OpenWait → Option Wait
now o = option_map (λ y. y.wait) o

sleeps_so : (o : Option OpenWait) → is_sleep (now o) ≡ waits_so for_wakeup o
sleeps_so None = refl
sleeps_so (Some o) = go o.wait
  where
    go : (x : Wait) → is_sleep (Some x) ≡ for_wakeup x
    go wait.Sleep = refl
    go x = refl

for_unit_so : (s : Object) (x : Wait) → waits_in kind.Semaphore s (Some x) ≡ for_unit s x
for_unit_so s (wait.Semaphore z) = refl
for_unit_so s x = refl

for_bits_so : (f : Object) (x : Wait) → waits_in kind.Eventflag f (Some x) ≡ for_bits f x
for_bits_so f (wait.Eventflag g bits m) = refl
for_bits_so f x = refl

to_send_so : (d : Object) (x : Wait) → waits_in kind.Send d (Some x) ≡ to_send d x
to_send_so d (wait.Send e v) = refl
to_send_so d x = refl

to_receive_so : (d : Object) (x : Wait) → waits_in kind.Receive d (Some x) ≡ to_receive d x
to_receive_so d (wait.Receive e) = refl
to_receive_so d x = refl

in_queue_so : (q : QueueKind) (o : Object) (what : Wait → Bool) → ((x : Wait) → waits_in q o (Some x) ≡ what x) → (a : Option OpenWait) →
    waits_in q o (now a) ≡ waits_so what a
in_queue_so q o what same None = refl
in_queue_so q o what same (Some y) = same y.wait

pub holds_same : (x bits : ℕ) (m : Mode) → holds x bits m ≡ are_there m x bits
holds_same x bits mode.Andw = refl
holds_same x bits mode.Orw = some_bits (bit_and x bits)
  where
    some_bits : (n : ℕ) → nat_lt 0 n ≡ not (n == 0)
    some_bits n = ⊎_elim (λ (z : n ≡ 0). rw z refl) (λ (d : n ≡ 0 → ⊥). lt-ltb 0 n (omega (arith, d)) ∙ sym (ap not (ne_eqb n 0 d))) (cases_eq n 0)

module _ {Q : Type 0} (k : Ordering Q) (c : Setup) (x : FoundReported) (w : World Q) (l : Lists k w) (h : Configured c w) (found : Finds c x w) where
  pub asleep : (t : Task) → is_sleep (task w t).wait ≡ waits_so for_wakeup (x.task t).wait
  asleep t = ap is_sleep (found.waits t) ∙ sleeps_so (x.task t).wait

  -- somebody waits just where a queue has a first task
  somebody : (q : QueueKind) (o : Object) (what : Wait → Bool) → ((y : Wait) → waits_in q o (Some y) ≡ what y) →
      is_some (first (queue k w q o)) ≡ somebody_waits c x what
  somebody q o what same =
      sym (any_is (λ t. waits_so what (x.task t).wait) (all_tasks c) (as_task 1) (is_some (first (queue k w q o)))
      (λ e.
      let t = (some_of (first (queue k w q o)) e).0 in
      let waits : waits_in q o (task w t).wait ≡ true = first_waits k w l q o t (some_of (first (queue k w q o)) e).1 in
      let here : t.number ≤ length w.tasks = not_past (λ (r : TaskRecord). waits_in q o r.wait) no_task w.tasks t.number t.least refl waits in
      let less : t.number - 1 < length c.tasks = omega (arith, here, h.tasks, t.least) in
      let at : get_or (all_tasks c) (t.number - 1) (as_task 1) ≡ t =
      get_or-map-range_with_len as_task 1 (length c.tasks) (t.number - 1) (1 + (t.number - 1)) (as_task 1) less refl
      ∙ as_task_same t (1 + (t.number - 1)) (omega (arith, t.least)) in
      (t.number - 1, rw (length-map-range_with_len as_task 1 (length c.tasks)) less, ap (λ (u : Task). waits_so what (x.task u).wait) at ∙ sym (report t) ∙ waits))
      (λ e i less. sym (report (get_or (all_tasks c) i (as_task 1)))
      ∙ nobody_waits k w l q o (none_there (first (queue k w q o)) e) (get_or (all_tasks c) i (as_task 1))))
    where
      report : (t : Task) → waits_in q o (task w t).wait ≡ waits_so what (x.task t).wait
      report t = ap (waits_in q o) (found.waits t) ∙ in_queue_so q o what same (x.task t).wait

  pub for_units : (s : Object) → is_some (first (queue k w kind.Semaphore s)) ≡ somebody_waits c x (for_unit s)
  for_units s = somebody kind.Semaphore s (for_unit s) (for_unit_so s)

  pub taken_same : (f : Object) → is_taken k w f ≡ is_used c x f
  taken_same f =
      ap (λ (y : EventflagSetup). not y.many && is_some (first (queue k w kind.Eventflag f))) (eventflag_setup c w h f)
      ∙ ap (λ b. not (eventflag_reported c f).many && b) (somebody kind.Eventflag f (for_bits f) (for_bits_so f))

  pub bits_same : (f : Object) (bits : ℕ) (m : Mode) → holds (eventflag w f).pattern bits m ≡ has_bits c x f bits m
  bits_same f bits m = holds_same (eventflag w f).pattern bits m ∙ ap (λ n. are_there m n bits) (found.pattern f)

  capacity_same : (d : Object) → data_queue w d ≡ data_queue_setup c d
  capacity_same d = ap (λ (y : Frame). slice_index_or y.data_queues (d.number - 1) no_data_queue) h.frame

  pub capacity_is : (d : Object) → (data_queue w d).capacity ≡ (data_queue_setup c d).capacity
  capacity_is d = ap (λ (y : DataQueueSetup). y.capacity) (capacity_same d)

  pub takes_same : (d : Object) → can_send k w d ≡ takes_value c x d
  takes_same d =
      ap (λ b. b || nat_lt (length (values w d)) (data_queue w d).capacity) (somebody kind.Receive d (to_receive d) (to_receive_so d))
      ∙ ap (λ n. somebody_waits c x (to_receive d) || nat_lt n (data_queue w d).capacity) (found.values d)
      ∙ ap (λ n. somebody_waits c x (to_receive d) || nat_lt (x.values d) n) (capacity_is d)

  pub gives_same : (d : Object) → can_receive k w d ≡ gives_value c x d
  gives_same d =
      ap (λ b. b || is_some (sender k w d)) (some_first (values w d))
      ∙ ap (λ n. nat_lt 0 n || is_some (sender k w d)) (found.values d)
      ∙ ap (λ b. nat_lt 0 (x.values d) || b) (somebody kind.Send d (to_send d) (to_send_so d))
    where
      some_first : (vs : List ℤ) → is_some (first vs) ≡ nat_lt 0 (length vs)
      some_first [] = refl
      some_first (v ∷ vs) = sym (lt-ltb 0 (length (v ∷ vs)) (omega arith))

  -- a block is free
  marks_are : (m : Object) → length (pool w m).handed ≡ 64
  marks_are m =
      sym (get_or-map (λ (y : Pool). length y.handed) w.pools (m.number - 1) blank_pool) ∙ ap (λ (y : Frame). get_or y.marks (m.number - 1) 64) h.frame
      ∙ get_or-map (λ (y : PoolSetup). 64) c.pools (m.number - 1) no_pool

  module _ (few : (m : Object) → (pool_setup c m).blocks ≤ 64) (m : Object) where
    pub least_is : free_block w m ≡ position (λ b. not (x.out m b)) (range_with_len 0 (pool_setup c m).blocks)
    least_is =
        let n : ℕ = (pool w m).setup.blocks in
        let blocks : n ≡ (pool_setup c m).blocks = ap (λ (y : PoolSetup). y.blocks) (pool_setup_same c w h m) in
        let most : n ≤ length (pool w m).handed = omega (arith, blocks, few m, marks_are m) in
        let many : length (take n (pool w m).handed) ≡ n = length-take-le n (pool w m).handed most in
        position_same not (λ b. not (x.out m b)) (take n (pool w m).handed) (range_with_len 0 (pool_setup c m).blocks) false 0
        (many ∙ blocks ∙ sym (length-range_with_len 0 (pool_setup c m).blocks))
        (λ i less.
        let within : i < n = rw many at less in
        ap not (get_or-take n (pool w m).handed i false within ∙ found.out m i
        ∙ sym (ap (x.out m) (get_or-range_with_len 0 (pool_setup c m).blocks i 0 (omega (arith, within, blocks)) ∙ zero-add i))))

    pub block_free : is_some (free_block w m) ≡ has_block c x m
    block_free = ap is_some least_is ∙ position_is (λ b. not (x.out m b)) (range_with_len 0 (pool_setup c m).blocks)

  -- a processor holds a lock
  at_holder : (p : Proc) (o : Option Proc) → is_at p o ≡ is_holder p o
  at_holder p None = refl
  at_holder p (Some q) = refl

  pub holder_same : (p : Proc) (o : Object) → is_at p (holder w o) ≡ is_holder p (x.holder o)
  holder_same p o = at_holder p (holder w o) ∙ ap (is_holder p) (found.holder o)

  pub lock_held : c.spin_locks ≤ 32 → (p : Proc) → machine_holds w p ≡ holds_lock c x p
  lock_held few p =
      let count : length w.holders ≡ c.spin_locks = holders_same c w h in
      any_same (is_at p) (λ o. is_holder p (x.holder o)) w.holders (all_locks c) None (as_object 1) (count ∙ sym (length-map-range_with_len as_object 1 c.spin_locks))
      (λ i less.
      let within_ : i < c.spin_locks = omega (arith, less, count) in
      let number : within 32 (1 + i) - 1 ≡ i = omega (arith, within_, few) in
      ap (λ j. is_at p (get_or w.holders j None)) (sym number) ∙ holder_same p (as_object (1 + i))
      ∙ sym (ap (λ (o : Object). is_holder p (x.holder o)) (get_or-map-range_with_len as_object 1 c.spin_locks i (1 + i) (as_object 1) within_ refl)))
