-- What the kernel's lists tell of ready tasks, a queue and timed waits is told by one cell, and each word leaves cells the same that were the same.
use Rattle.std.proofs.Common.{◌≡◌, ℕ, ◌-◌, ◌+◌, ◌*◌, ◌<◌, List, [], ◌∷◌, ◌++◌, map, take, drop, refl, sym, ap, ◌∙◌, subst, ⊎_elim, Option, None, Some, arith}
use Rattle.std.specs.Prelude.{slice_index_or, slice_set}
use Rattle.std.proofs.lemmas.Bool.{cases_eq}
use Rattle.std.proofs.lemmas.List.{drop-set-add, get_or-drop, get_or-take}
use Rattle.std.proofs.Math.Seq.{take-set-lt}
use Rattle.fmp_codes.specs.declared.numbers.Pri.{Pri}
use Rattle.fmp_codes.specs.declared.numbers.Proc.{Proc}
use Rattle.fmp_codes.specs.declared.numbers.Task.{Task}
use Rattle.fmp_rules.specs.declared.machine.TaskRecord.{TaskRecord}
use Rattle.fmp_rules.specs.declared.machine.QueueKind.{QueueKind}
use Rattle.fmp_rules.specs.declared.machine.QueueKind.TheVariants as kind
use Rattle.fmp_rules.specs.declared.machine.Wait.{Wait}
use Rattle.fmp_rules.specs.declared.machine.Wait.TheVariants as wait
use Rattle.fmp_kernel_parts.specs.Tasks.{without}
use Rattle.fmp_ready.specs.Queues.{list_number, queue_at, push_last, take_out, first_of}
use Rattle.fmp_waitq.specs.Queue.{Waiter, task_of, left_by, joined_by, waiter_of}
use Rattle.fmp_kernel_order.specs.Queues.{Queues, listed, changed, place_in, timed_by, queues}
use Rattle.fmp_law_footprint.specs.Cells.{Cell, ReadyOn, WaitersOf, TimedWaits, there, on}
use Rattle.fmp_law_lists.specs.Reads.{Same, ReadsCells}
use Rattle.fmp_law_lists.specs.Lists.{Lists, lists, lists_on, queue_on}
use Rattle.fmp_law_lists.proofs.Listed.{lists_other, lists_out, queue_other}

-- the list of a processor and a priority is one of the processor's lists
pub list_there : (q : List (List Task)) (n j : ℕ) → j < 32 → queue_at q (32 * n + j) ≡ queue_at (lists_on q n) j
list_there q n j few = sym (get_or-drop (32 * n) q j []) ∙ sym (get_or-take 32 (drop (32 * n) q) j [] few)

-- and where it changes, that list does
lists_pushed : (q : List (List Task)) (n j : ℕ) (t : Task) → j < 32 → lists_on (push_last q (32 * n + j) t) n ≡ push_last (lists_on q n) j t
lists_pushed q n j t few =
    ap (take 32) (drop-set-add (32 * n) q j (queue_at q (32 * n + j) ++ t ∷ [])) ∙ take-set-lt 32 (drop (32 * n) q) j (queue_at q (32 * n + j) ++ t ∷ []) few
    ∙ ap (λ us. slice_set (lists_on q n) j (us ++ t ∷ [])) (list_there q n j few)

-- the same of the queue of an object
queue_there : (qs : List (List Waiter)) (n : ℕ) → slice_index_or qs n [] ≡ slice_index_or (queue_on qs n) 0 []
queue_there qs n = ap (λ i. slice_index_or qs i []) (zero_more n) ∙ sym (get_or-drop n qs 0 []) ∙ sym (get_or-take 1 (drop n qs) 0 [] (omega arith))
  where
    zero_more : (n : ℕ) → n ≡ n + 0
    zero_more n = omega arith

queue_here : (f : List Waiter → List Waiter) (qs : List (List Waiter)) (n : ℕ) → queue_on (slice_set qs n (f (slice_index_or qs n []))) n ≡ map f (queue_on qs n)
queue_here f qs n =
    ap (λ i. queue_on (slice_set qs i (f (slice_index_or qs n []))) n) (zero_more n) ∙ ap (take 1) (drop-set-add n qs 0 (f (slice_index_or qs n [])))
    ∙ ap (λ us. take 1 (slice_set (drop n qs) 0 (f us))) (ap (λ i. slice_index_or qs i []) (zero_more n) ∙ sym (get_or-drop n qs 0 [])) ∙ first_changed (drop n qs)
  where
    zero_more : (n : ℕ) → n ≡ n + 0
    zero_more n = omega arith

    first_changed : (us : List (List Waiter)) → take 1 (slice_set us 0 (f (slice_index_or us 0 []))) ≡ map f (take 1 us)
    first_changed [] = refl
    first_changed (u ∷ us) = refl

module _ (S : Cell → Type 0) where
  abbrev Alike : Queues → Queues → Type 0
  Alike = Same Lists lists S

  outs : (q r : Queues) (t : Task) → Alike q r → Alike (record q { ready = take_out q.ready t }) (record r { ready = take_out r.ready t })
  outs q r t same (ReadyOn n) h = lists_out q.ready t n ∙ ap (map (without t)) (same (ReadyOn n) h) ∙ sym (lists_out r.ready t n)
  outs q r t same c h = same c h

  pushes_alike : (q r : Queues) (p : Proc) (i : Pri) (t : Task) → Alike q r
      → Alike (record q { ready = push_last q.ready (list_number p i) t }) (record r { ready = push_last r.ready (list_number p i) t })
  pushes_alike q r p i t same (ReadyOn n) h =
      let few : i.number - 1 < 32 = let l = i.most in let m = i.least in omega (arith, l, m) in
      ⊎_elim
      (λ (here : n ≡ on p).
      subst (λ m. S (ReadyOn m) → lists_on (push_last q.ready (list_number p i) t) m ≡ lists_on (push_last r.ready (list_number p i) t) m) (sym here)
      (λ s. lists_pushed q.ready (on p) (i.number - 1) t few ∙ ap (λ qs. push_last qs (i.number - 1) t) (same (ReadyOn (on p)) s) ∙ sym
      (lists_pushed r.ready (on p) (i.number - 1) t few)) h)
      (λ (other : n ≡ on p → ⊥). lists_other q.ready n (on p) (i.number - 1) _ few other ∙ same (ReadyOn n) h ∙ sym
      (lists_other r.ready n (on p) (i.number - 1) _ few other))
      (cases_eq n (on p))
  pushes_alike q r p i t same c h = same c h

  -- one queue of a kind changes
  one_alike : (x : QueueKind) (f : List Waiter → List Waiter) (m : ℕ) (qs rs : List (List Waiter)) → ((n : ℕ) → S (WaitersOf x n) → queue_on qs n ≡ queue_on rs n)
      → (n : ℕ) → S (WaitersOf x n)
      → queue_on (slice_set qs m (f (slice_index_or qs m []))) n ≡ queue_on (slice_set rs m (f (slice_index_or rs m []))) n
  one_alike x f m qs rs same n h =
      ⊎_elim
      (λ (here : n ≡ m).
      subst (λ j. queue_on (slice_set qs j (f (slice_index_or qs j []))) n ≡ queue_on (slice_set rs j (f (slice_index_or rs j []))) n) here
      (queue_here f qs n ∙ ap (map f) (same n h) ∙ sym (queue_here f rs n)))
      (λ (other : n ≡ m → ⊥). queue_other qs n m _ other ∙ same n h ∙ sym (queue_other rs n m _ other))
      (cases_eq n m)

  changes_alike : (q r : Queues) (x : Option Wait) (f : List Waiter → List Waiter) → Alike q r
      → Alike (record q { waits = changed q.waits (place_in x) f }) (record r { waits = changed r.waits (place_in x) f })
  changes_alike q r None f same (WaitersOf y n) h = same (WaitersOf y n) h
  changes_alike q r None f same c h = same c h
  changes_alike q r (Some wait.Sleep) f same c h = same c h
  changes_alike q r (Some wait.Delay) f same c h = same c h
  changes_alike q r (Some (wait.Semaphore s)) f same (WaitersOf kind.Semaphore n) h =
      one_alike kind.Semaphore f (there s) q.waits.semaphores r.waits.semaphores (λ m. same (WaitersOf kind.Semaphore m)) n h
  changes_alike q r (Some (wait.Semaphore s)) f same (WaitersOf y n) h = same (WaitersOf y n) h
  changes_alike q r (Some (wait.Semaphore s)) f same c h = same c h
  changes_alike q r (Some (wait.Eventflag o x m)) f same (WaitersOf kind.Eventflag n) h =
      one_alike kind.Eventflag f (there o) q.waits.eventflags r.waits.eventflags (λ m. same (WaitersOf kind.Eventflag m)) n h
  changes_alike q r (Some (wait.Eventflag o x m)) f same (WaitersOf y n) h = same (WaitersOf y n) h
  changes_alike q r (Some (wait.Eventflag o x m)) f same c h = same c h
  changes_alike q r (Some (wait.Send d v)) f same (WaitersOf kind.Send n) h =
      one_alike kind.Send f (there d) q.waits.senders r.waits.senders (λ m. same (WaitersOf kind.Send m)) n h
  changes_alike q r (Some (wait.Send d v)) f same (WaitersOf y n) h = same (WaitersOf y n) h
  changes_alike q r (Some (wait.Send d v)) f same c h = same c h
  changes_alike q r (Some (wait.Receive d)) f same (WaitersOf kind.Receive n) h =
      one_alike kind.Receive f (there d) q.waits.receivers r.waits.receivers (λ m. same (WaitersOf kind.Receive m)) n h
  changes_alike q r (Some (wait.Receive d)) f same (WaitersOf y n) h = same (WaitersOf y n) h
  changes_alike q r (Some (wait.Receive d)) f same c h = same c h
  changes_alike q r (Some (wait.Pool m)) f same (WaitersOf kind.Pool n) h =
      one_alike kind.Pool f (there m) q.waits.pools r.waits.pools (λ j. same (WaitersOf kind.Pool j)) n h
  changes_alike q r (Some (wait.Pool m)) f same (WaitersOf y n) h = same (WaitersOf y n) h
  changes_alike q r (Some (wait.Pool m)) f same c h = same c h

  timed_alike : (q r : Queues) (left : Option ℕ) (t : Task) → Alike q r
      → Alike (record q { timed = timed_by left t q.timed }) (record r { timed = timed_by left t r.timed })
  timed_alike q r left t same TimedWaits h = ap (timed_by left t) (same TimedWaits h)
  timed_alike q r left t same c h = same c h

  waits_alike : (q r : Queues) (x y : Option Wait) (f : List Waiter → List Waiter) → x ≡ y → Alike q r
      → Alike (record q { waits = changed q.waits (place_in x) f }) (record r { waits = changed r.waits (place_in y) f })
  waits_alike q r x y f e same =
      subst (λ z. Alike (record q { waits = changed q.waits (place_in x) f }) (record r { waits = changed r.waits (place_in z) f })) e (changes_alike q r x f same)

  pub listed_reads : ReadsCells Lists lists S listed
  unfolding listed
  listed_reads = record {
    put_last = λ q r x y t stands same.
        let u : Queues = record q { ready = take_out q.ready t } in
        let v : Queues = record r { ready = take_out r.ready t } in
        subst (λ (z : TaskRecord). Alike (record q { ready = push_last (take_out q.ready t) (list_number x.assigned x.priority) t })
        (record r { ready = push_last (take_out r.ready t) (list_number z.assigned z.priority) t }))
        stands (pushes_alike u v x.assigned x.priority t (outs q r t same));
    take_out = λ q r x y t stands same. outs q r t same;
    join = λ q r o x y left t stands waits same.
        let f : List Waiter → List Waiter = joined_by (waiter_of o t x.priority) in
        subst (λ (z : TaskRecord). Alike (record q { waits = changed q.waits (place_in x.wait) f; timed = timed_by left t q.timed })
        (record r { waits = changed r.waits (place_in y.wait) (joined_by (waiter_of o t z.priority)); timed = timed_by left t r.timed }))
        stands (timed_alike (record q { waits = changed q.waits (place_in x.wait) f }) (record r { waits = changed r.waits (place_in y.wait) f }) left t
        (waits_alike q r x.wait y.wait f waits same));
    leave = λ q r x y t waits same.
        timed_alike (record q { waits = changed q.waits (place_in x.wait) (left_by t) }) (record r { waits = changed r.waits (place_in y.wait) (left_by t) }) None t
        (waits_alike q r x.wait y.wait (left_by t) waits same);
    top = λ q r ts us p h same. ap first_of (same (ReadyOn (on p)) h);
    ready = λ q r ts us p n h same.
        let few : n.number - 1 < 32 = let l = n.most in let m = n.least in omega (arith, l, m) in
        list_there q.ready (on p) (n.number - 1) few ∙ ap (λ qs. queue_at qs (n.number - 1)) (same (ReadyOn (on p)) h) ∙ sym
        (list_there r.ready (on p) (n.number - 1) few);
    waiters = λ q r ts us o x n h same.
        ap (map task_of)
        (queue_there (queues q.waits x) (there n) ∙ ap (λ qs. slice_index_or qs 0 []) (same (WaitersOf x (there n)) h) ∙ sym
        (queue_there (queues r.waits x) (there n)));
    timed = λ q r ns ms h same. same TimedWaits h;
  }
