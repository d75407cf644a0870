-- Values of objects, on which no order depends: the count of a semaphore, the pattern of an eventflag, the blocks of a pool.
use Rattle.std.proofs.Common.{◌≡◌, ℕ, Bool, List, length, refl, sym, ap, ◌∙◌, subst}
use Rattle.std.specs.Prelude.{slice_index_or}
use Rattle.std.proofs.lemmas.List.{length-set}
use Rattle.fmp_codes.specs.declared.numbers.Object.{Object}
use Rattle.fmp_setup.specs.declared.setup.Order.{Order}
use Rattle.fmp_rules.specs.declared.machine.Semaphore.{Semaphore}
use Rattle.fmp_rules.specs.declared.machine.Eventflag.{Eventflag}
use Rattle.fmp_rules.specs.declared.machine.Pool.{Pool}
use Rattle.fmp_rules.specs.declared.machine.QueueKind.{QueueKind}
use Rattle.fmp_rules.specs.declared.machine.QueueKind.TheVariants as kind
use Rattle.fmp_rules.specs.World.{item, with_item}
use Rattle.fmp_rules.specs.Objects.{blank_semaphore, blank_eventflag, blank_pool}
use Rattle.fmp_rules.specs.Ordering.{order_in}
use Rattle.fmp_rules.specs.Arrivals.{State}
use Rattle.fmp_rules.specs.SyncCalls.{with_count, with_pattern}
use Rattle.fmp_rules.specs.BufferCalls.{with_handed}
use Rattle.fmp_law_safety.proofs.Items.{item_after}
use Rattle.fmp_kernel_order.specs.Queues.{Queues}
use Rattle.fmp_law_lists.specs.Stands.{count_in, AreListsOf, IsOrderOf}

-- as many objects, of the same orders
record AreAlike {X : Type 0} (order : X → Order) (blank : X) (xs ys : List X) : Type 0 where
  pub orders : (o : Object) → order (item blank xs o.number) ≡ order (item blank ys o.number)
  pub count : length xs ≡ length ys

alike : {X : Type 0} (order : X → Order) (blank : X) (xs : List X) → AreAlike order blank xs xs
alike order blank xs = record { orders = λ o. refl; count = refl }

-- one object is put for another of the same order
put : {X : Type 0} (order : X → Order) (blank : X) (xs : List X) (n : ℕ) (x : X) → order (item blank xs n) ≡ order x → AreAlike order blank xs (with_item xs n x)
put order blank xs n x same = record {
  orders = λ o. item_after blank xs n x (λ y. order (item blank xs o.number) ≡ order y) o.number (λ e. ap (λ i. order (slice_index_or xs i blank)) e ∙ same) refl;
  count = sym (length-set xs _ _);
}

abbrev semaphore_order : Semaphore → Order
semaphore_order s = s.setup.order

abbrev eventflag_order : Eventflag → Order
eventflag_order f = f.setup.order

abbrev pool_order : Pool → Order
pool_order p = p.setup.order

module _ (m : State) (q : Queues) (s : AreListsOf q m) where
  keeps_alike : (ss : List Semaphore) (fs : List Eventflag) (ps : List Pool) → AreAlike semaphore_order blank_semaphore m.semaphores ss → AreAlike eventflag_order blank_eventflag m.eventflags fs →
      AreAlike pool_order blank_pool m.pools ps → AreListsOf q (record m { semaphores = ss; eventflags = fs; pools = ps })
  keeps_alike ss fs ps a b c =
      subst (λ (n : QueueKind → ℕ). IsOrderOf m.tasks (order_in v) n m.waits_left q m.order) (λ i x. counts x i)
      (subst (λ (o : QueueKind → Object → Order). IsOrderOf m.tasks o (count_in m) m.waits_left q m.order) (λ i x o. orders x o i) s)
    where
      v : State
      v = record m { semaphores = ss; eventflags = fs; pools = ps }

      orders : (x : QueueKind) (o : Object) → order_in m x o ≡ order_in v x o
      orders kind.Semaphore o = a.orders o
      orders kind.Eventflag o = b.orders o
      orders kind.Send o = refl
      orders kind.Receive o = refl
      orders kind.Pool o = c.orders o

      counts : (x : QueueKind) → count_in m x ≡ count_in v x
      counts kind.Semaphore = a.count
      counts kind.Eventflag = b.count
      counts kind.Send = refl
      counts kind.Receive = refl
      counts kind.Pool = c.count

  module _ (i : Object) where
    pub keeps_count : (n : ℕ) → AreListsOf q (with_count m i n)
    keeps_count n =
        keeps_alike (with_count m i n).semaphores m.eventflags m.pools (put semaphore_order blank_semaphore m.semaphores i.number _ refl) (alike eventflag_order blank_eventflag m.eventflags) (alike pool_order blank_pool m.pools)

    pub keeps_pattern : (x : ℕ) → AreListsOf q (with_pattern m i x)
    keeps_pattern x =
        keeps_alike m.semaphores (with_pattern m i x).eventflags m.pools (alike semaphore_order blank_semaphore m.semaphores) (put eventflag_order blank_eventflag m.eventflags i.number _ refl) (alike pool_order blank_pool m.pools)

    pub keeps_handed : (b : ℕ) (handed : Bool) → AreListsOf q (with_handed m i b handed)
    keeps_handed b handed =
        keeps_alike m.semaphores m.eventflags (with_handed m i b handed).pools (alike semaphore_order blank_semaphore m.semaphores) (alike eventflag_order blank_eventflag m.eventflags) (put pool_order blank_pool m.pools i.number _ refl)
