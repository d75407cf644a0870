-- Where all of this is told of a state, its ready tasks stand as told.
use Rattle.std.proofs.Common.{◌≡◌, ◌≤◌, ◌==◌, Bool, true, false, not, ◌&&◌, ◌||◌, length, refl, ap, sym, ◌∙◌, Option, Some, None, arith}
use Rattle.std.specs.Prelude.{is_some, nat_lt, option_map}
use Rattle.std.proofs.lemmas.Bool.{and_parts}
use Rattle.fmp_codes.specs.declared.numbers.Proc.{Proc}
use Rattle.fmp_codes.specs.declared.numbers.Pri.{Pri}
use Rattle.fmp_codes.specs.declared.numbers.Task.{Task}
use Rattle.fmp_setup.specs.Setup.{Setup}
use Rattle.fmp_rules.specs.declared.machine.TaskRecord.{TaskRecord}
use Rattle.fmp_rules.specs.declared.machine.Wait.{Wait}
use Rattle.fmp_rules.specs.World.{task, first}
use Rattle.fmp_rules.specs.Ordering.{top}
use Rattle.fmp_rules.specs.Arrivals.{State, numbered, in_order, is_ready_on, priority_in, comes_before}
use Rattle.fmp_law_balance.specs.Waits.Waits.{setup_of}
use Rattle.fmp_law_balance.specs.Waits.Asked.{OpenWait}
use Rattle.fmp_law_records.specs.Standing.{Standing, stands_at, comes_first, ready_reported, top_reported}
use Rattle.fmp_law_balance.specs.Turns.{in_turn}
use Rattle.fmp_law_balance.proofs.Turns.{turns_ordered}
use Rattle.fmp_law_balance.proofs.Words.{head_same}
use Rattle.fmp_law_records.proofs.Alike.{in_order_alike}
use Rattle.fmp_law_records.proofs.Lines.{OrderedIn, can_run, number_of}
use Rattle.fmp_law_records.proofs.Lives.{HasLife}
use Rattle.fmp_law_records.proofs.Priorities.{HasPriority}

-- all of this is told of the state
pub record Stands (c : Setup) (s : Standing) (m : State) : Type 0 where
  pub life : (t : Task) → t.number ≤ length m.tasks → HasLife (setup_of c t).class (s.life t) (task m t)
  pub suspended : (t : Task) → t.number ≤ length m.tasks → (task m t).suspended ≡ s.suspended t
  pub priority : (t : Task) → t.number ≤ length m.tasks → HasPriority (setup_of c t).priority (s.priority t) (task m t)
  pub waits : (t : Task) → (task m t).wait ≡ option_map (λ y. y.wait) (s.waits t)
  pub line : OrderedIn s.line m
  pub count : length m.tasks ≡ length c.tasks

both_and : (p q x y : Bool) → p ≡ q → (p ≡ true → x ≡ y) → (p && x) ≡ (q && y)
both_and true q x y e f = f refl ∙ ap (λ b. b && y) e
both_and false q x y e f = ap (λ b. b && y) e

some_same : (o : Option Wait) (q : Option OpenWait) → o ≡ option_map (λ y. y.wait) q → is_some o ≡ is_some q
some_same o None e = ap is_some e
some_same o (Some y) e = ap is_some e

module _ (c : Setup) (s : Standing) (m : State) (h : Stands c s m) (few : length m.tasks ≤ 64) (p : Proc) where
  stands_same : (t : Task) → t.number ≤ length m.tasks → is_ready_on m.tasks p t ≡ stands_at s p t
  stands_same t n =
      let r : TaskRecord = task m t in
      let l = h.life t n in
      ap (λ x. (x && not (is_some r.wait) && not r.suspended) && r.assigned.number == p.number) l.active
      ∙ ap (λ x. ((s.life t).active && not x && not r.suspended) && r.assigned.number == p.number) (some_same r.wait (s.waits t) (h.waits t))
      ∙ ap (λ x. ((s.life t).active && not (is_some (s.waits t)) && not x) && r.assigned.number == p.number) (h.suspended t n)
      ∙ ap (λ (x : Proc). ((s.life t).active && not (is_some (s.waits t)) && not (s.suspended t)) && x.number == p.number) l.at

  runs : (t : Task) → is_ready_on m.tasks p t ≡ true → can_run m.tasks t ≡ true
  runs t e = (and_parts (can_run m.tasks t) _ e).0

  priority_same : (t : Task) → t.number ≤ length m.tasks → is_ready_on m.tasks p t ≡ true → priority_in m.tasks t ≡ (s.priority t).number
  priority_same t n e = ap (λ (x : Pri). x.number) ((h.priority t n).active (and_parts (task m t).active (not (is_some (task m t).wait)) (and_parts _ (not (task m t).suspended) (runs t e)).0).0)

  first_same : (t u : Task) → t.number ≤ length m.tasks → u.number ≤ length m.tasks → is_ready_on m.tasks p t ≡ true → is_ready_on m.tasks p u ≡ true →
      comes_before (priority_in m.tasks) m.order.ready t u ≡ comes_first s t u
  first_same t u a b e f =
      let x = priority_same t a e in
      let y = priority_same u b f in
      let v : Bool = nat_lt (number_of m.order.ready t) (number_of m.order.ready u) in
      ap (λ n. nat_lt n (priority_in m.tasks u) || (n == priority_in m.tasks u && v)) x
      ∙ ap (λ n. nat_lt (s.priority t).number n || ((s.priority t).number == n && v)) y
      ∙ ap (λ z. nat_lt (s.priority t).number (s.priority u).number || ((s.priority t).number == (s.priority u).number && z)) (sym (h.line.same t u (runs t e) (runs u f)))

  pub ready_same : (n : Pri) → numbered.ready m.order m.tasks p n ≡ ready_reported c s p n
  unfolding numbered
  ready_same n =
      in_order_alike (length m.tasks) few (λ t. is_ready_on m.tasks p t && priority_in m.tasks t == n.number) (λ t. stands_at s p t && (s.priority t).number == n.number) (comes_before (priority_in m.tasks) m.order.ready) (comes_first s)
      (λ t a. both_and _ _ _ _ (stands_same t a) (λ e. ap (λ k. k == n.number) (priority_same t a e)))
      (λ t u a b e f. first_same t u a b (and_parts _ _ e).0 (and_parts _ _ f).0) (length m.tasks) (omega arith)
      ∙ ap (in_order (λ t. stands_at s p t && (s.priority t).number == n.number) (comes_first s)) h.count
      ∙ sym (turns_ordered (λ t. stands_at s p t && (s.priority t).number == n.number) (comes_first s) (length c.tasks))

  pub top_same : top numbered m p ≡ top_reported c s p
  unfolding numbered
  top_same =
      ap first
      (in_order_alike (length m.tasks) few (is_ready_on m.tasks p) (stands_at s p) (comes_before (priority_in m.tasks) m.order.ready) (comes_first s) stands_same first_same (length m.tasks) (omega arith)
      ∙ ap (in_order (stands_at s p) (comes_first s)) h.count ∙ sym (turns_ordered (stands_at s p) (comes_first s) (length c.tasks)))
      ∙ sym (head_same (in_turn (stands_at s p) (comes_first s) (length c.tasks)))
