-- What calls do, on lists and on numbers.
use Rattle.std.proofs.Common.{◌≡◌, ℕ, ◌≤◌, ℤ, Bool, length, refl, sym, ap, ◌∙◌, subst, Option, Some, None}
use Rattle.std.proofs.lemmas.Bool.{false≢true}
use Rattle.fmp_codes.specs.declared.numbers.Proc.{Proc}
use Rattle.fmp_codes.specs.declared.numbers.Task.{Task}
use Rattle.fmp_codes.specs.declared.numbers.Object.{Object}
use Rattle.fmp_codes.specs.declared.numbers.Pri.{Pri}
use Rattle.fmp_codes.specs.declared.codes.Code.{Code}
use Rattle.fmp_setup.specs.declared.setup.Order.{Order}
use Rattle.fmp_setup.specs.declared.setup.Order.TheVariants as order
use Rattle.fmp_rules.specs.Effects.{Effect}
use Rattle.fmp_rules.specs.declared.machine.TaskRecord.{TaskRecord}
use Rattle.fmp_rules.specs.declared.machine.Wait.{Wait}
use Rattle.fmp_rules.specs.declared.machine.QueueKind.{QueueKind}
use Rattle.fmp_rules.specs.World.{World, task, item, with_item}
use Rattle.fmp_rules.specs.Ordering.{is_runnable, waits_in, order_in, order_of, with_task, place, end_wait, begin_wait, requeue, put_last, rejoin}
use Rattle.fmp_rules.specs.Arrivals.{Arrivals, State, numbered}
use Rattle.fmp_rules.specs.Tasks.{finish, ended, change_priority}
use Rattle.fmp_rules.specs.Arguments.{caller, is_zero, ticks_of}
use Rattle.fmp_rules.specs.Rows.{Row, check, called, called_by, wait_for, done_or_wait, release}
use Rattle.fmp_law_safety.proofs.Calls.{Accepts, accepts}
use Rattle.fmp_law_safety.proofs.KeepsTasks.{no_wait_ended}
use Rattle.fmp_waitq.specs.Queue.{rank_of}
use Rattle.fmp_kernel_order.specs.Queues.{Queues, place_in, listed}
use Rattle.fmp_law_lists.specs.Stands.{count_in, with_order, AreListsOf, IsOrderOf, Matches}
use Rattle.fmp_law_lists.proofs.Places.{stands_at, HasPlace}
use Rattle.fmp_law_lists.proofs.Waits.{SameRank}
use Rattle.fmp_law_lists.proofs.Words.{by_tests, order_with_task, order_place, order_end, order_begin, order_anew, order_stays, order_at}

-- where nothing moves in an order
pub matches : (m : State) (q : Queues) → AreListsOf q m → (e : Effect) → Matches (with_order m q, e) (m, e)
matches m q s e = record { stands = record { same = refl; order = s }; effect = refl }

module _ (m : State) (q : Queues) (s : AreListsOf q m) where
  abbrev w : World Queues
  w = with_order m q

  -- One task changes.
  module _ (u : Task) (within : u.number ≤ length m.tasks) where
    abbrev o : TaskRecord
    o = task m u

    pub noted : (r : TaskRecord) (e : Effect) → is_runnable r ≡ is_runnable o → r.assigned ≡ o.assigned → r.priority ≡ o.priority → r.wait ≡ o.wait →
        Matches (with_task w u r, e) (with_task m u r, e)
    noted r e a b c d = matches (with_task m u r) q (order_with_task m.tasks (order_in m) (count_in m) m.order u within r m.waits_left q s a b c d) e

    pub placed : (r : TaskRecord) (e : Effect) → r.wait ≡ o.wait → SameRank (order_in m) o r → Matches (place listed w u r, e) (place numbered m u r, e)
    placed r e a b = matches (place numbered m u r) _ (order_place m.tasks (order_in m) (count_in m) m.order u within r m.waits_left q s a b) e

    -- with the same priority
    pub placed_again : (r : TaskRecord) (e : Effect) → r.wait ≡ o.wait → r.priority ≡ o.priority → Matches (place listed w u r, e) (place numbered m u r, e)
    placed_again r e a b = placed r e a (λ x i _. ap (rank_of (order_in m x i)) b)

    -- who waits in no queue has the same rank in each
    free_of_rank : (r : TaskRecord) → o.wait ≡ None → SameRank (order_in m) o r
    free_of_rank r b x i h = absurd (false≢true (sym (ap (waits_in x i) b) ∙ h))

    -- of a task without a wait
    pub placed_free : (r : TaskRecord) (e : Effect) → r.wait ≡ None → o.wait ≡ None → Matches (place listed w u r, e) (place numbered m u r, e)
    placed_free r e a b = placed r e (a ∙ sym b) (free_of_rank r b)

    pub wait_ended : (r : TaskRecord) (e : Effect) → r.wait ≡ None → Matches (end_wait listed w u r, e) (end_wait numbered m u r, e)
    wait_ended r e a = matches (end_wait numbered m u r) _ (order_end m.tasks (order_in m) (count_in m) m.order u within r m.waits_left q s a) e

    pub released : (c : Code) (v : Option ℤ) → Matches (release listed w u c v) (release numbered m u c v)
    released c v = wait_ended (record o { wait = None }) _ refl

    pub wait_begun : (x : Wait) (l : Option ℕ) (e : Effect) → o.wait ≡ None → HasPlace (count_in m) x → Matches (begin_wait listed w u x l, e) (begin_wait numbered m u x l, e)
    wait_begun x l e none known =
        let r : TaskRecord = record o { wait = Some x } in
        matches (begin_wait numbered m u x l) _ (order_begin m.tasks (order_in m) (count_in m) m.order u within r x refl (order_of m x) (order_at m x) m.waits_left q s l none known) e

    pub requeued : (r : TaskRecord) (e : Effect) → r.wait ≡ o.wait → Matches (requeue listed w u r, e) (requeue numbered m u r, e)
    requeued r e same = matches (requeue numbered m u r) _ (go o.wait refl) e
      where
        Fits : Queues → Arrivals → Type 0
        Fits x n = IsOrderOf (with_item m.tasks u.number r) (order_in m) (count_in m) m.waits_left x n

        -- in a queue by arrival the rank stays
        first_rank : (x : Wait) → o.wait ≡ Some x → order_of m x ≡ order.First → SameRank (order_in m) o r
        first_rank x b f y j h =
            let k = stands_at y j o.wait h in
            let there : order_in m k.at.kind k.at.object ≡ order.First = order_at m x k.at (sym (ap place_in b) ∙ k.place) ∙ f in
            let here : order_in m y j ≡ order.First =
            ap (λ (a : QueueKind). order_in m a j) (sym k.kind) ∙ ap (λ (i : Object). order_in m k.at.kind i) (sym k.object) ∙ there in
            ap (λ i. rank_of i r.priority) here ∙ sym (ap (λ i. rank_of i o.priority) here)

        go : (a : Option Wait) → o.wait ≡ a → Fits (put_last listed w u r a) (put_last numbered m u r a)
        go None b = order_place m.tasks (order_in m) (count_in m) m.order u within r m.waits_left q s same (free_of_rank r b)
        go (Some x) b = by_order (order_of m x) refl
          where
            by_order : (i : Order) → order_of m x ≡ i →
                Fits (rejoin listed q i r (item None m.waits_left u.number) u) (rejoin numbered m.order i r (item None m.waits_left u.number) u)
            by_order order.First f =
                order_stays m.tasks (order_in m) (count_in m) m.order u within r x (same ∙ b) order.First (λ at e. order_at m x at e ∙ f) m.waits_left q s same (first_rank x b f)
            by_order order.Priority f =
                order_anew m.tasks (order_in m) (count_in m) m.order u within r x (same ∙ b) order.Priority (λ at e. order_at m x at e ∙ f) m.waits_left q s same

    pub priority_changed : (n : Pri) (e : Effect) → Matches (change_priority listed w u n, e) (change_priority numbered m u n, e)
    priority_changed n e = requeued (record o { priority = n }) e refl

    pub finished : (e : Effect) → Matches (finish listed w u, e) (finish numbered m u, e)
    unfolding finish
    finished e = wait_ended (ended o) e (no_wait_ended o)

  -- What can be done is done, or else the caller waits.

  pub waited : (u : Task) → u.number ≤ length m.tasks → (task m u).wait ≡ None → (x : Wait) (timeout : ℤ) → HasPlace (count_in m) x →
      Matches (wait_for listed w u x timeout) (wait_for numbered m u x timeout)
  waited u within none x timeout known = by_tests Matches (is_zero timeout) _ _ _ _ (λ _. matches m q s _) (λ _. wait_begun u within x (ticks_of timeout) _ none known)

  pub done_or_waited : (p : Proc) → (caller m p).number ≤ length m.tasks → (task m (caller m p)).wait ≡ None →
      (can : Bool) (a : World Queues × Effect) (b : State × Effect) (x : Wait) (timeout : ℤ) → Matches a b → HasPlace (count_in m) x →
      Matches (done_or_wait listed w p can a x timeout) (done_or_wait numbered m p can b x timeout)
  done_or_waited p within none can a b x timeout did known = by_tests Matches can _ _ _ _ (λ _. did) (λ _. waited (caller m p) within none x timeout known)

  -- a call whose checks are the same, and its effect where it is accepted
  pub called_matches : (p : Proc) (a : Row Queues) (b : Row Arrivals) → check w p a ≡ check m p b → (Accepts m p b → Matches a.effect b.effect) →
      Matches (called w p a) (called m p b)
  called_matches p a b same did = go (check w p a) (check m p b) same refl
    where
      go : (c d : Option Code) → c ≡ d → check m p b ≡ d → Matches (called_by w a.effect c) (called_by m b.effect d)
      go c None e f = subst (λ x. Matches (called_by w a.effect x) b.effect) (sym e) (did (accepts m p b f))
      go c (Some x) e f = subst (λ y. Matches (called_by w a.effect y) (called_by m b.effect (Some x))) (sym e) (matches m q s _)
