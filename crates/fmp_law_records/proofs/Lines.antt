-- The numbers of the ready tasks stay in the order in which the tasks were put last, whatever is done to one task.
use Rattle.std.proofs.Common.{◌≡◌, ℕ, ◌+◌, ◌-◌, ◌≤◌, ◌<◌, ◌==◌, Bool, true, false, not, ◌&&◌, List, length, arith, refl, sym, ap, ◌∙◌, subst, Option, Some, None, ⊎_elim}
use Rattle.std.specs.Prelude.{nat_lt, is_some}
use Rattle.std.proofs.lemmas.Bool.{cond_both, cond-true, cond-false, cases_eq, both_ways, lt-ltb, le-ltb, eq-eqb, ne_eqb}
use Rattle.std.proofs.lemmas.List.{length-set}
use Rattle.fmp_codes.specs.declared.numbers.Task.{Task}
use Rattle.fmp_codes.proofs.Same.{tasks_same}
use Rattle.fmp_rules.specs.declared.machine.TaskRecord.{TaskRecord}
use Rattle.fmp_rules.specs.declared.machine.Wait.{Wait}
use Rattle.fmp_rules.specs.World.{no_task, item, with_item, task}
use Rattle.fmp_rules.specs.Ordering.{is_runnable, arrive, place, begin_wait, end_wait, with_task, rejoin, put_last as order_last, order_of}
use Rattle.fmp_rules.specs.Arrivals.{Arrivals, State, numbered}
use Rattle.fmp_rules.specs.Tasks.{make_ready, change_priority}
use Rattle.fmp_codes.specs.declared.numbers.Pri.{Pri}
use Rattle.fmp_setup.specs.declared.setup.Order.{Order}
use Rattle.fmp_setup.specs.declared.setup.Order.TheVariants as order
use Rattle.fmp_law_records.proofs.counts.Tasks.{after_change}
use Rattle.fmp_law_safety.proofs.Items.{item_put, item_same, item_other}
use Rattle.fmp_law_safety.proofs.Listed.{not_past}
use Rattle.fmp_law_records.specs.Line.{Line, put_last}
use Rattle.fmp_law_records.proofs.Joins.{departs}

abbrev pub can_run : List TaskRecord → Task → Bool
can_run ts t = is_runnable (item no_task ts t.number)

abbrev pub number_of : List ℕ → Task → ℕ
number_of ns t = item 0 ns t.number

-- tasks that are ready have their numbers in the order of the line
pub record Ordered (l : Line) (ts : List TaskRecord) (ns : List ℕ) (next : ℕ) : Type 0 where
  pub since : (t : Task) → can_run ts t ≡ true → l.since t ≤ l.count
  pub before : (t : Task) → can_run ts t ≡ true → number_of ns t < next
  pub same : (t u : Task) → can_run ts t ≡ true → can_run ts u ≡ true → nat_lt (l.since t) (l.since u) ≡ nat_lt (number_of ns t) (number_of ns u)
  pub count : length ns ≡ length ts

abbrev pub OrderedIn : Line → State → Type 0
OrderedIn l m = Ordered l m.tasks m.order.ready m.order.next

pub ready_within : (ts : List TaskRecord) (t : Task) → can_run ts t ≡ true → t.number ≤ length ts
ready_within ts t e = not_past is_runnable no_task ts t.number t.least refl e

-- nobody becomes ready, and those who stay so keep their places
pub ordered_still : (l j : Line) (ts us : List TaskRecord) (ns : List ℕ) (n m : ℕ) → Ordered l ts ns n → l.count ≤ j.count → n ≤ m → length us ≡ length ts →
    ((t : Task) → can_run us t ≡ true → can_run ts t ≡ true) → ((t : Task) → can_run us t ≡ true → j.since t ≡ l.since t) → Ordered j us ns m
ordered_still l j ts us ns n m h counts nexts lengths was kept = record {
  since = λ t e. let old = h.since t (was t e) in rw (kept t e) (omega (arith, old, counts));
  before = λ t e. let old = h.before t (was t e) in omega (arith, old, nexts);
  same = λ t u e f. ap (λ x. nat_lt x (j.since u)) (kept t e) ∙ ap (nat_lt (l.since t)) (kept u f) ∙ h.same t u (was t e) (was u f);
  count = h.count ∙ sym lengths;
}

-- one task changes, and where it is ready then it is put last
pub ordered_one : (l j : Line) (ts us : List TaskRecord) (ns ms : List ℕ) (n m : ℕ) (u : Task) → Ordered l ts ns n → l.count ≤ j.count → n ≤ m → length ms ≡ length us →
    ((t : Task) → (t.number ≡ u.number → ⊥) → can_run us t ≡ true → (can_run ts t ≡ true) × (number_of ms t ≡ number_of ns t) × (j.since t ≡ l.since t)) →
    (can_run us u ≡ true → (number_of ms u ≡ n) × (n < m) × (l.count < j.since u) × (j.since u ≤ j.count)) → Ordered j us ms m
ordered_one l j ts us ns ms n m u h counts nexts lengths others this = record {
  since = λ t e. ⊎_elim
      (λ (i : t.number ≡ u.number). subst (λ (x : Task). j.since x ≤ j.count) (sym (tasks_same t u i)) (mine t i e).3)
      (λ d. let o = others t d e in let old = h.since t o.0 in rw (o.2) (omega (arith, old, counts))) (cases_eq t.number u.number);
  before = λ t e. ⊎_elim
      (λ (i : t.number ≡ u.number). let at = mine t i e in let a = at.0 in let b = at.1 in subst (λ (x : Task). number_of ms x < m) (sym (tasks_same t u i)) (omega (arith, a, b)))
      (λ d. let o = others t d e in let old = h.before t o.0 in rw (o.1) (omega (arith, old, nexts))) (cases_eq t.number u.number);
  same = λ t v e f. ⊎_elim
      (λ (i : t.number ≡ u.number). ⊎_elim
      (λ (k : v.number ≡ u.number). subst (λ (x : Task). nat_lt (j.since t) (j.since x) ≡ nat_lt (number_of ms t) (number_of ms x)) (tasks_same t v (i ∙ sym k))
      (le-ltb (j.since t) (j.since t) (omega arith) ∙ sym (le-ltb (number_of ms t) (number_of ms t) (omega arith))))
      (λ d. subst (λ (x : Task). nat_lt (j.since x) (j.since v) ≡ nat_lt (number_of ms x) (number_of ms v)) (sym (tasks_same t u i)) (last_after v d f (mine t i e))) (cases_eq v.number u.number))
      (λ d. ⊎_elim
      (λ (k : v.number ≡ u.number). subst (λ (x : Task). nat_lt (j.since t) (j.since x) ≡ nat_lt (number_of ms t) (number_of ms x)) (sym (tasks_same v u k)) (ahead t d e (mine v k f)))
      (λ g. let o = others t d e in let w = others v g f in
      ap (λ x. nat_lt x (j.since v)) o.2 ∙ ap (nat_lt (l.since t)) w.2 ∙ h.same t v o.0 w.0 ∙ sym (ap (λ x. nat_lt x (number_of ms v)) o.1 ∙ ap (nat_lt (number_of ns t)) w.1)) (cases_eq v.number u.number)) (cases_eq t.number u.number);
  count = lengths;
}
  where
    mine : (t : Task) → t.number ≡ u.number → can_run us t ≡ true → (number_of ms u ≡ n) × (n < m) × (l.count < j.since u) × (j.since u ≤ j.count)
    mine t i e = this (subst (λ (x : Task). can_run us x ≡ true) (tasks_same t u i) e)

    last_after : (v : Task) → (v.number ≡ u.number → ⊥) → can_run us v ≡ true → (number_of ms u ≡ n) × (n < m) × (l.count < j.since u) × (j.since u ≤ j.count) → nat_lt (j.since u) (j.since v) ≡ nat_lt (number_of ms u) (number_of ms v)
    last_after v d f at =
        let o = others v d f in
        let a = at.0 in let c = at.2 in let s = h.since v o.0 in let b = h.before v o.0 in let x = o.1 in let y = o.2 in
        le-ltb (j.since u) (j.since v) (omega (arith, c, s, y)) ∙ sym (le-ltb (number_of ms u) (number_of ms v) (omega (arith, a, b, x)))

    ahead : (t : Task) → (t.number ≡ u.number → ⊥) → can_run us t ≡ true → (number_of ms u ≡ n) × (n < m) × (l.count < j.since u) × (j.since u ≤ j.count) → nat_lt (j.since t) (j.since u) ≡ nat_lt (number_of ms t) (number_of ms u)
    ahead t d e at =
        let o = others t d e in
        let a = at.0 in let c = at.2 in let s = h.since t o.0 in let b = h.before t o.0 in let x = o.1 in let y = o.2 in
        lt-ltb (j.since t) (j.since u) (omega (arith, c, s, y)) ∙ sym (lt-ltb (number_of ms t) (number_of ms u) (omega (arith, a, b, x)))

module _ (m : State) where
  -- a task changes and goes last where it is ready
  pub ordered_place : (l j : Line) (u : Task) (r : TaskRecord) → OrderedIn l m → l.count ≤ j.count → ((t : Task) → (t.number ≡ u.number → ⊥) → can_run m.tasks t ≡ true → j.since t ≡ l.since t) →
      (u.number ≤ length m.tasks → is_runnable r ≡ true → (l.count < j.since u) × (j.since u ≤ j.count)) → OrderedIn j (place numbered m u r)
  unfolding numbered
  ordered_place l j u r h counts others this =
      let us : List TaskRecord = with_item m.tasks u.number r in
      let put : Arrivals = record m.order { ready = with_item m.order.ready u.number m.order.next; next = m.order.next + 1 } in
      let same : (t : Task) → (t.number ≡ u.number → ⊥) → item no_task us t.number ≡ item no_task m.tasks t.number = λ t d. item_other no_task m.tasks u.number r t.number t.least u.least d in
      let was : (t : Task) → (t.number ≡ u.number → ⊥) → can_run us t ≡ true → can_run m.tasks t ≡ true = λ t d e. sym (ap is_runnable (same t d)) ∙ e in
      subst (λ (q : Arrivals). Ordered j us (arrive numbered q r u).ready (arrive numbered q r u).next) (sym (departs m.order (task m u) u))
      (cond_both (is_runnable r) put m.order (λ (q : Arrivals). Ordered j us q.ready q.next)
      (λ runs.
      ordered_one l j m.tasks us m.order.ready put.ready m.order.next put.next u h counts (omega arith) (length-set m.order.ready (u.number - 1) m.order.next ∙ h.count ∙ sym (length-set m.tasks (u.number - 1) r))
      (λ t d e. (was t d e, item_other 0 m.order.ready u.number m.order.next t.number t.least u.least d, others t d (was t d e)))
      (λ e.
      let in_us = ready_within us u e in
      let within : u.number ≤ length m.tasks = subst (λ n. u.number ≤ n) (length-set m.tasks (u.number - 1) r) in_us in
      (item_same 0 m.order.ready u.number m.order.next u.least (rw h.count within), omega arith, (this within runs).0, (this within runs).1)))
      (λ stops.
      ordered_one l j m.tasks us m.order.ready m.order.ready m.order.next m.order.next u h counts (omega arith) (h.count ∙ sym (length-set m.tasks (u.number - 1) r))
      (λ t d e. (was t d e, refl, others t d (was t d e)))
      (λ e. absurd (both_ways _ (item_put no_task m.tasks u.number r (λ (x : TaskRecord). is_runnable x ≡ false) stops refl) e))))

  -- a task that changes and is not ready then leaves the others where they are
  pub ordered_apart : (l j : Line) (u : Task) (r : TaskRecord) (n : ℕ) → OrderedIn l m → l.count ≤ j.count → ((t : Task) → (t.number ≡ u.number → ⊥) → can_run m.tasks t ≡ true → j.since t ≡ l.since t) →
      m.order.next ≤ n → is_runnable r ≡ false → Ordered j (with_item m.tasks u.number r) m.order.ready n
  ordered_apart l j u r n h counts others nexts stops =
      let us : List TaskRecord = with_item m.tasks u.number r in
      let was : (t : Task) → (t.number ≡ u.number → ⊥) → can_run us t ≡ true → can_run m.tasks t ≡ true = λ t d e. sym (ap is_runnable (item_other no_task m.tasks u.number r t.number t.least u.least d)) ∙ e in
      ordered_one l j m.tasks us m.order.ready m.order.ready m.order.next n u h counts nexts (h.count ∙ sym (length-set m.tasks (u.number - 1) r))
      (λ t d e. (was t d e, refl, others t d (was t d e)))
      (λ e. absurd (both_ways _ (item_put no_task m.tasks u.number r (λ (x : TaskRecord). is_runnable x ≡ false) stops refl) e))

  pub ordered_without : (l : Line) (u : Task) (r : TaskRecord) (n : ℕ) → OrderedIn l m → m.order.next ≤ n → is_runnable r ≡ false → Ordered l (with_item m.tasks u.number r) m.order.ready n
  ordered_without l u r n h nexts stops = ordered_apart l l u r n h (omega arith) (λ t d e. refl) nexts stops

  -- a task changes that is ready then if it was
  pub ordered_with : (l : Line) (u : Task) (r : TaskRecord) → is_runnable r ≡ is_runnable (task m u) → OrderedIn l m → OrderedIn l (with_task m u r)
  ordered_with l u r same h =
      ordered_still l l m.tasks (with_item m.tasks u.number r) m.order.ready m.order.next m.order.next h (omega arith) (omega arith) (length-set m.tasks (u.number - 1) r)
      (λ t. after_change m u r t (λ (x : TaskRecord). is_runnable x ≡ true → can_run m.tasks t ≡ true)
      (λ was e. was (sym same ∙ e)) (λ e. e)) (λ t e. refl)

  -- a task ends its wait and changes
  pub ordered_end : (l j : Line) (u : Task) (r : TaskRecord) → OrderedIn l m → l.count ≤ j.count → ((t : Task) → (t.number ≡ u.number → ⊥) → can_run m.tasks t ≡ true → j.since t ≡ l.since t) →
      (u.number ≤ length m.tasks → is_runnable r ≡ true → (l.count < j.since u) × (j.since u ≤ j.count)) → OrderedIn j (end_wait numbered m u r)
  unfolding numbered
  ordered_end l j u r h counts others this = ordered_place l j u r h counts others this

  -- it is placed anew where it waits in a queue by priority, and goes last where it is ready
  pub ordered_requeue : (l j : Line) (u : Task) (n : Pri) → OrderedIn l m → l.count ≤ j.count → ((t : Task) → (t.number ≡ u.number → ⊥) → can_run m.tasks t ≡ true → j.since t ≡ l.since t) →
      (u.number ≤ length m.tasks → (l.count < j.since u) × (j.since u ≤ j.count)) → OrderedIn j (change_priority numbered m u n)
  unfolding numbered
  ordered_requeue l j u n h counts others this = go (task m u).wait refl
    where
      after : TaskRecord
      after = record (task m u) { priority = n }

      stops : (y : Wait) → (task m u).wait ≡ Some y → is_runnable after ≡ false
      stops y e = ap (λ (o : Option Wait). (task m u).active && not (is_some o) && not (task m u).suspended) e ∙ none (task m u).active
        where
          none : (b : Bool) → (b && not true && not (task m u).suspended) ≡ false
          none true = refl
          none false = refl

      anew : (o : Order) (y : Wait) → (task m u).wait ≡ Some y → (left : Option ℕ) → Ordered j (with_item m.tasks u.number after) (rejoin numbered m.order o after left u).ready (rejoin numbered m.order o after left u).next
      anew order.First y e left = ordered_apart l j u after m.order.next h counts others (omega arith) (stops y e)
      anew order.Priority y e left = ordered_apart l j u after (m.order.next + 1) h counts others (omega arith) (stops y e)

      go : (o : Option Wait) → (task m u).wait ≡ o → Ordered j (with_item m.tasks u.number after) (order_last numbered m u after o).ready (order_last numbered m u after o).next
      go None e = ordered_place l j u after h counts others (λ within runs. this within)
      go (Some y) e = anew (order_of m y) y e (item None m.waits_left u.number)

  -- a wait is over
  pub ordered_ready : (l : Line) (u : Task) → OrderedIn l m → OrderedIn (put_last l u) (make_ready numbered m u)
  unfolding numbered
  ordered_ready l u h =
      ordered_place l (put_last l u) u (record (task m u) { wait = None }) h (omega arith) (λ t d e. cond-false (t.number == u.number) _ _ (ne_eqb t.number u.number d))
      (λ within runs. let is : (put_last l u).since u ≡ l.count + 1 = cond-true (u.number == u.number) (l.count + 1) (l.since u) (eq-eqb u.number u.number refl) in (omega (arith, is), omega (arith, is)))

  -- a wait begins
  pub ordered_begin : (l : Line) (u : Task) (x : Wait) (left : Option ℕ) → OrderedIn l m → OrderedIn l (begin_wait numbered m u x left)
  unfolding numbered
  ordered_begin l u x left h =
      let r : TaskRecord = record (task m u) { wait = Some x } in
      subst (λ (q : Arrivals). Ordered l (with_item m.tasks u.number r) q.ready (q.next + 1)) (sym (departs m.order (task m u) u)) (ordered_without l u r (m.order.next + 1) h (omega arith) (stops (task m u).active))
    where
      stops : (b : Bool) → (b && not true && not (task m u).suspended) ≡ false
      stops true = refl
      stops false = refl
