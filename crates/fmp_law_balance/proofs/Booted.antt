-- At boot nothing was brought, handed out or put in. So every run balances.
use Rattle.std.proofs.Common.{◌≡◌, ℕ, zero, suc, ◌+◌, ◌-◌, ◌<◌, ◌≤◌, ℤ, false, List, [], ◌∷◌, ◌++◌, length, map, replicate, refl, sym, ap, ◌∙◌, subst, arith, None, ⊎_elim}
use Rattle.std.specs.Prelude.{All, if◌then◌else◌, slice_index_or, take}
use Rattle.std.proofs.lemmas.Bool.{cond_both, cases_lt}
use Rattle.std.proofs.lemmas.List.{get_or_past, get_or-replicate, length-map, length-replicate, length-take, take_all, take-take}
use Rattle.std.proofs.lemmas.List.Elements.{All-nil, All-replicate, All-map}
use Rattle.std.proofs.lemmas.Option.{none-some}
use Rattle.fmp_codes.specs.Numbers.{as_task}
use Rattle.fmp_codes.specs.declared.numbers.Proc.{Proc}
use Rattle.fmp_codes.specs.declared.numbers.Task.{Task}
use Rattle.fmp_codes.specs.declared.numbers.Object.{Object}
use Rattle.fmp_codes.specs.declared.records.Event.{Event}
use Rattle.fmp_setup.specs.declared.setup.TaskSetup.{TaskSetup}
use Rattle.fmp_setup.specs.declared.setup.SemaphoreSetup.{SemaphoreSetup}
use Rattle.fmp_rules.specs.declared.machine.TaskRecord.{TaskRecord}
use Rattle.fmp_rules.specs.declared.machine.Semaphore.{Semaphore}
use Rattle.fmp_rules.specs.declared.machine.Pool.{Pool}
use Rattle.fmp_rules.specs.declared.machine.Wait.TheVariants as wait
use Rattle.fmp_setup.specs.Setup.{Setup}
use Rattle.fmp_setup.specs.Valid.{AreFew}
use Rattle.fmp_rules.specs.World.{World, no_task, item, task, processors_to, resting}
use Rattle.fmp_rules.specs.Objects.{blank_semaphore, semaphore, pool, values}
use Rattle.fmp_rules.specs.Ordering.{Ordering}
use Rattle.fmp_rules.specs.Arrivals.{State, numbered}
use Rattle.fmp_rules.specs.Tasks.{start}
use Rattle.fmp_rules.specs.Step.{replay, answers}
use Rattle.fmp_rules.specs.Boot.{blank, all_started, with_top_running, with_tops_running, booted, unnumbered}
use Rattle.fmp_rules.proofs.Replays.{answers_take}
use Rattle.fmp_law_safety.specs.Safe.{Safe}
use Rattle.fmp_law_safety.specs.Runs.{IsSafeThroughout}
use Rattle.fmp_law_safety.proofs.Items.{item_holds}
use Rattle.fmp_law_safety.proofs.Queues.{first_waits}
use Rattle.fmp_law_safety.proofs.Listed.{numbered_lists}
use Rattle.fmp_law_balance.specs.Accepted.{one_if}
use Rattle.fmp_law_balance.specs.Semaphores.{brought, granted}
use Rattle.fmp_law_balance.specs.Pools.{handed_out, given_back}
use Rattle.fmp_law_balance.specs.Queues.{puts}
use Rattle.fmp_law_balance.specs.Balance.{Balance, IsBalancedThroughout}
use Rattle.fmp_law_balance.proofs.Leaving.{IsHandler, AreHandlers, Leaves, leaves_all, leaves_then, leaves_processors, leaves_task}
use Rattle.fmp_law_balance.proofs.Steps.{sums}
use Rattle.fmp_law_balance.proofs.Semaphores.{counts_step}
use Rattle.fmp_law_balance.proofs.Pools.{mark, hands_step}
use Rattle.fmp_law_balance.proofs.Queues.{WaitersWait}
use Rattle.fmp_law_balance.proofs.Senders.{SentLast}
use Rattle.fmp_law_balance.proofs.Shapes.{Few, few_step}
use Rattle.fmp_law_balance.proofs.Runs.{queue_sums}

-- the model's first in a queue waits in it
pub waiters_wait : WaitersWait numbered
waiters_wait w x o t e = first_waits numbered w (numbered_lists w) x o t e

-- Boot changes no object.

module _ {Q : Type 0} (k : Ordering Q) where
  leaves_start : (w : World Q) (t : Task) (p : Proc) → Leaves w (start k w t p)
  leaves_start w t p = leaves_task w t _ w.waits_left _ (λ d x e. absurd (none-some (wait.Send d x) e))

  leaves_started : (w : World Q) (t : ℕ) (ss : List TaskSetup) → Leaves w (all_started k w t ss)
  leaves_started w t [] = leaves_all w
  leaves_started w t (s ∷ ss) =
      let v : World Q = if s.starts then start k w (as_task t) s.class.initial else w in
      leaves_then w v (all_started k v (t + 1) ss)
      (cond_both s.starts (start k w (as_task t) s.class.initial) w (λ (u : World Q). Leaves w u) (λ _. leaves_start w (as_task t) s.class.initial) (λ _. leaves_all w))
      (leaves_started v (t + 1) ss)

  leaves_running : (w : World Q) (ps : List Proc) → Leaves w (with_tops_running k w ps)
  leaves_running w [] = leaves_all w
  leaves_running w (p ∷ ps) =
      leaves_then w (with_top_running k w p) (with_tops_running k (with_top_running k w p) ps) (leaves_processors w _ w.holders) (leaves_running (with_top_running k w p) ps)

module _ (c : Setup) where
  abbrev at_first : State
  at_first = blank (unnumbered c) c

  leaves_boot : Leaves at_first (booted c)
  leaves_boot =
      let w : State = all_started numbered at_first 1 c.tasks in
      leaves_then at_first w (booted c) (leaves_started numbered at_first 1 c.tasks) (leaves_running numbered w (processors_to c.processors))

  -- the counts of the semaphores

  initial_count : (ss : List SemaphoreSetup) (i : ℕ) →
      (slice_index_or {A = Semaphore} (map (λ x. record { setup = x; count = x.initial }) ss) i blank_semaphore).count ≡ slice_index_or (map (λ (x : SemaphoreSetup). x.initial) ss) i 0
  initial_count [] i = refl
  initial_count (x ∷ ss) zero = refl
  initial_count (x ∷ ss) (suc i) = initial_count ss i

  booted_count : (s : Object) → (semaphore (booted c) s).count ≡ item 0 (map (λ x. x.initial) c.semaphores) s.number
  booted_count s =
      ap (λ (xs : List Semaphore). (semaphore (record (booted c) { semaphores = xs }) s).count) leaves_boot.semaphores ∙ initial_count c.semaphores (s.number - 1)

  -- the blocks of the pools

  none_out : (n b : ℕ) → slice_index_or (replicate n false) b false ≡ false
  none_out n b =
      ⊎_elim (λ (h : b < n). get_or-replicate n b false false h) (λ (h : n ≤ b). get_or_past (replicate n false) b false (rw (length-replicate n false) h)) (cases_lt b n)

  booted_mark : (m : Object) (b : ℕ) → mark (pool (booted c) m).handed b ≡ 0
  booted_mark m b =
      let P : Pool → Type 0 = λ x. mark x.handed b ≡ 0 in
      let none : one_if (slice_index_or (replicate 64 false) b false) ≡ 0 = ap one_if (none_out 64 b) in
      ap (λ (xs : List Pool). mark (pool (record (booted c) { pools = xs }) m).handed b) leaves_boot.pools
      ∙ item_holds P _ at_first.pools m.number none (All-map P _ c.pools (λ i d h. none))

  -- the values of the data queues

  booted_values : (d : Object) → values (booted c) d ≡ []
  booted_values d =
      let P : List ℤ → Type 0 = λ vs. vs ≡ [] in
      ap (λ (xs : List (List ℤ)). values (record (booted c) { contents = xs }) d) leaves_boot.contents
      ∙ item_holds P [] at_first.contents d.number refl (All-map P _ c.data_queues (λ i x h. refl))

  booted_contents : length (booted c).contents ≡ length (booted c).data_queues
  booted_contents = ap length leaves_boot.contents ∙ length-map c.data_queues _ ∙ ap length (sym leaves_boot.data_queues)

  booted_due : AreHandlers (booted c).due
  booted_due = leaves_boot.due (All-replicate (All IsHandler) c.processors [] (All-nil IsHandler))

  booted_sent : SentLast [] (booted c)
  booted_sent d t x e =
      let P : TaskRecord → Type 0 = λ r. r.wait ≡ None in
      let none : (task at_first t).wait ≡ None = item_holds P no_task at_first.tasks t.number refl (All-map P resting c.tasks (λ i y h. refl)) in
      absurd (none-some (wait.Send d x) (sym none ∙ leaves_boot.senders t d x e))

  booted_few : AreFew c → Few (booted c)
  booted_few few = record {
    semaphores = rw (leaves_boot.semaphores, length-map {B = Semaphore} c.semaphores (λ x. record { setup = x; count = x.initial })) few.semaphores;
    pools = rw (leaves_boot.pools, length-map {B = Pool} c.pools (λ x. record { setup = x; handed = replicate 64 false })) few.pools;
    data_queues = rw leaves_boot.data_queues few.data_queues;
  }

  balanced : Few (booted c) → (es : List Event) → ((n : ℕ) → Safe numbered (replay numbered (booted c) (take n es))) → Balance c (answers numbered (booted c) es) (replay numbered (booted c) es)
  balanced few es safe = record {
    semaphores = λ s. rw (← booted_count s) (sums numbered Few (few_step numbered) (λ v. (semaphore v s).count) (brought s) (granted s) (λ w few. counts_step numbered s w few.semaphores) (booted c) es few);
    pools = λ m b.
        let all = sums numbered Few (few_step numbered) (λ v. mark (pool v m).handed b) (handed_out m b) (given_back m b) (λ w few. hands_step numbered m b w few.pools) (booted c) es few in
        omega (arith, all, booted_mark m b);
    data_queues = λ d.
        ap (λ vs. vs ++ puts d [] (answers numbered (booted c) es)) (sym (booted_values d))
        ∙ queue_sums numbered waiters_wait d [] (booted c) es booted_contents few booted_due booted_sent safe;
  }

-- the prefix of a prefix is a prefix
prefix_of_prefix : {X : Type 0} (j n : ℕ) (xs : List X) → (i : ℕ) × (take j (take n xs) ≡ take i xs)
prefix_of_prefix j n xs =
    ⊎_elim (λ (h : n < j). (n, take_all j (take n xs) (omega (arith, h, length-take n xs)))) (λ (h : j ≤ n). (j, take-take j n xs h)) (cases_lt n j)

pub balanced_throughout : (c : Setup) (events : List Event) → AreFew c → IsSafeThroughout (booted c) events → IsBalancedThroughout c events (answers numbered (booted c) events)
balanced_throughout c events few safe n =
    let at_prefix : (j : ℕ) → Safe numbered (replay numbered (booted c) (take j (take n events))) =
    λ j. let prefix = prefix_of_prefix j n events in subst (λ es. Safe numbered (replay numbered (booted c) es)) (sym prefix.1) (safe prefix.0) in
    subst (λ rs. Balance c rs (replay numbered (booted c) (take n events))) (answers_take n (booted c) events) (balanced c (booted_few c few) (take n events) at_prefix)
