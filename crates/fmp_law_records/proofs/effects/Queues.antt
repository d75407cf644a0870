-- The queues that are told are those of the machine, and each task stands once in a queue.
use Rattle.std.proofs.Common.{◌≡◌, ℕ, zero, suc, ◌≤◌, ◌==◌, Bool, true, false, ◌||◌, ◌&&◌, List, [], ◌∷◌, length, arith, refl, sym, ap, ◌∙◌, Option, Some, None}
use Rattle.std.specs.Prelude.{All, is_some, nat_lt, option_map, filter}
use Rattle.std.proofs.lemmas.Bool.{cond_both, false≢true}
use Rattle.std.proofs.lemmas.List.Elements.{All-nil, All-cons, All-head, All-tail, All-filter}
use Rattle.fmp_codes.specs.Numbers.{as_task, within}
use Rattle.fmp_codes.specs.declared.numbers.Task.{Task}
use Rattle.fmp_codes.specs.declared.numbers.Pri.{Pri}
use Rattle.fmp_codes.specs.declared.numbers.Object.{Object}
use Rattle.fmp_setup.specs.declared.setup.Order.{Order}
use Rattle.fmp_setup.specs.declared.setup.Order.TheVariants as order
use Rattle.fmp_setup.specs.Setup.{Setup}
use Rattle.fmp_rules.specs.declared.machine.Wait.{Wait}
use Rattle.fmp_rules.specs.declared.machine.QueueKind.{QueueKind}
use Rattle.fmp_rules.specs.World.{item, task}
use Rattle.fmp_rules.specs.Ordering.{is_in, waits_in, order_in, queue}
use Rattle.fmp_rules.specs.Arrivals.{State, numbered, inserted, inserted_if, in_order, comes_before, rank_in}
use Rattle.fmp_law_balance.specs.Waits.Asked.{OpenWait}
use Rattle.fmp_law_balance.proofs.waits.Several.{Distinct}
use Rattle.fmp_law_balance.proofs.waits.Words.{IsKept}
use Rattle.fmp_law_records.specs.Served.{is_priority, Places, is_served_before}
use Rattle.fmp_law_balance.proofs.Turns.{turns_ordered}
use Rattle.fmp_law_records.proofs.Alike.{in_order_alike}
use Rattle.fmp_law_records.proofs.Places.{ordered_as, ArePlaced}
use Rattle.fmp_law_records.specs.Refusals.Found.{waits_so}
use Rattle.fmp_law_records.specs.Effects.Releases.{waiting_reported}

-- Each task stands once in a list that is made in an order.

module _ (before : Task → Task → Bool) where
  all_inserted : (P : Task → Type 0) (u : Task) (ts : List Task) → P u → All P ts → All P (inserted before u ts)
  all_inserted P u [] this all = All-cons P u [] this all
  all_inserted P u (t ∷ ts) this all =
      cond_both (before u t) (u ∷ t ∷ ts) (t ∷ inserted before u ts) (All P) (λ _. All-cons P u (t ∷ ts) this all)
      (λ _. All-cons P t (inserted before u ts) (All-head P t ts all) (all_inserted P u ts this (All-tail P t ts all)))

  distinct_inserted : (u : Task) (ts : List Task) → All (λ t. t.number ≡ u.number → ⊥) ts → Distinct ts → Distinct (inserted before u ts)
  distinct_inserted u [] other distinct = (All-nil (λ t. t.number ≡ u.number → ⊥), tt)
  distinct_inserted u (t ∷ ts) other distinct =
      let P : Task → Type 0 = λ v. v.number ≡ u.number → ⊥ in
      cond_both (before u t) (u ∷ t ∷ ts) (t ∷ inserted before u ts) Distinct (λ _. (other, distinct))
      (λ _. (
        all_inserted (λ v. v.number ≡ t.number → ⊥) u ts (λ e. All-head P t ts other (sym e)) distinct.0,
        distinct_inserted u ts (All-tail P t ts other) distinct.1,
      ))

  module _ (qualifies : Task → Bool) where
    up_to : (b : Bool) (u : Task) (n : ℕ) (ts : List Task) → u.number ≡ suc n → All (λ t. t.number ≤ n) ts → All (λ t. t.number ≤ suc n) (inserted_if b before u ts)
    up_to true u n ts e all = all_inserted (λ t. t.number ≤ suc n) u ts (omega (arith, e)) (λ i d h. let most = all i d h in omega (arith, most))
    up_to false u n ts e all = λ i d h. let most = all i d h in omega (arith, most)

    distinct_up_to : (b : Bool) (u : Task) (n : ℕ) (ts : List Task) → u.number ≡ suc n → All (λ t. t.number ≤ n) ts → Distinct ts → Distinct (inserted_if b before u ts)
    distinct_up_to true u n ts e all distinct = distinct_inserted u ts (λ i d h same. let most = all i d h in absurd (omega (arith, most, same, e))) distinct
    distinct_up_to false u n ts e all distinct = distinct

    at_most : (n : ℕ) → n ≤ 64 → All (λ t. t.number ≤ n) (in_order qualifies before n)
    at_most zero few = All-nil (λ t. t.number ≤ 0)
    at_most (suc n) few =
        let number : within 64 (suc n) ≡ suc n = omega (arith, few) in
        up_to (qualifies (as_task (suc n))) (as_task (suc n)) n (in_order qualifies before n) number (at_most n (omega (arith, few)))

    pub in_order_distinct : (n : ℕ) → n ≤ 64 → Distinct (in_order qualifies before n)
    in_order_distinct zero few = tt
    in_order_distinct (suc n) few =
        let number : within 64 (suc n) ≡ suc n = omega (arith, few) in
        distinct_up_to (qualifies (as_task (suc n))) (as_task (suc n)) n (in_order qualifies before n) number (at_most n (omega (arith, few)))
        (in_order_distinct n (omega (arith, few)))

pub distinct_filter : (test : Task → Bool) (ts : List Task) → Distinct ts → Distinct (filter test ts)
distinct_filter test [] d = tt
distinct_filter test (t ∷ ts) d =
    cond_both (test t) (t ∷ filter test ts) (filter test ts) Distinct
    (λ _. (All-filter test (λ u. u.number ≡ t.number → ⊥) ts d.0, distinct_filter test ts d.1)) (λ _. distinct_filter test ts d.1)

-- The queues of the machine.

waits_some : (k : QueueKind) (o : Object) (w : Option Wait) (q : Option OpenWait) → w ≡ option_map (λ y. y.wait) q → waits_in k o w ≡ true → is_some q ≡ true
waits_some k o w (Some y) is e = refl
waits_some k o w None is e = absurd (false≢true (sym (ap (waits_in k o) is) ∙ e))

in_so : (k : QueueKind) (o : Object) (what : Wait → Bool) → ((y : Wait) → is_in k o y ≡ what y) → (q : Option OpenWait) →
    waits_in k o (option_map (λ y. y.wait) q) ≡ waits_so what q
in_so k o what same None = refl
in_so k o what same (Some y) = same y.wait

module _ (c : Setup) (m : State) (x : Places) (placed : ArePlaced c x m) (waits : (t : Task) → IsKept c m t (x.waits t))
    (priorities : (t : Task) → is_some (x.waits t) ≡ true → (task m t).priority ≡ x.priority t) (count : length m.tasks ≡ length c.tasks)
    (few : length m.tasks ≤ 64) where
  abbrev is_urgent : Pri → Pri → Bool → Bool
  is_urgent p q earlier = nat_lt p.number q.number || (p.number == q.number && earlier)

  same_first : (o : Order) (t u : Task) → is_some (x.waits t) ≡ true → is_some (x.waits u) ≡ true →
      comes_before (rank_in o m.tasks) m.order.begun t u ≡ is_served_before x (is_priority o) t u
  same_first order.First t u a b = sym (placed.same t u a b)
  same_first order.Priority t u a b =
      let earlier : Bool = nat_lt (item 0 m.order.begun t.number) (item 0 m.order.begun u.number) in
      ap (λ p. is_urgent p (task m u).priority earlier) (priorities t a) ∙ ap (λ p. is_urgent (x.priority t) p earlier) (priorities u b)
      ∙ ap (is_urgent (x.priority t) (x.priority u)) (sym (placed.same t u a b))

  pub queue_same : (k : QueueKind) (o : Object) (what : Wait → Bool) → ((y : Wait) → is_in k o y ≡ what y) →
      queue numbered m k o ≡ waiting_reported c x (is_priority (ordered_as c k o)) what
  unfolding numbered
  queue_same k o what same =
      let open_ : (t : Task) → waits_in k o (task m t).wait ≡ true → is_some (x.waits t) ≡ true = λ t e. waits_some k o (task m t).wait (x.waits t) (waits t).0.wait e in
      in_order_alike (length m.tasks) few (λ t. waits_in k o (task m t).wait) (λ t. waits_so what (x.waits t))
      (comes_before (rank_in (order_in m k o) m.tasks) m.order.begun) (is_served_before x (is_priority (order_in m k o)))
      (λ t _. ap (waits_in k o) (waits t).0.wait ∙ in_so k o what same (x.waits t))
      (λ t u _ _ a b. same_first (order_in m k o) t u (open_ t a) (open_ u b)) (length m.tasks) (omega arith)
      ∙ ap (in_order (λ t. waits_so what (x.waits t)) (is_served_before x (is_priority (order_in m k o)))) count
      ∙ ap (λ z. in_order (λ t. waits_so what (x.waits t)) (is_served_before x (is_priority z)) (length c.tasks)) (placed.orders k o)
      ∙ sym (turns_ordered (λ t. waits_so what (x.waits t)) (is_served_before x (is_priority (ordered_as c k o))) (length c.tasks))

  -- each task stands in a queue once
  pub queue_distinct : (k : QueueKind) (o : Object) → Distinct (queue numbered m k o)
  unfolding numbered
  queue_distinct k o = in_order_distinct (comes_before (rank_in (order_in m k o) m.tasks) m.order.begun) (λ t. waits_in k o (task m t).wait) (length m.tasks) few
