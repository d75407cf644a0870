-- The ready queues stay those of the tasks.
use Rattle.std.proofs.Common.{◌≡◌, ℕ, ◌+◌, ◌-◌, ◌<◌, ◌≤◌, ◌==◌, Bool, true, false, zero, suc, ◌&&◌, List, [], ◌∷◌, ◌++◌, if◌then◌else◌, length, slice_set, refl, sym, ap, ◌∙◌, subst, arith, ⊎_elim}
use Rattle.std.proofs.lemmas.Bool.{cases_eq, cases_Bool, cond_both, and_parts, and_from, eqb-true, eq-eqb, false_from_ne_true}
use Rattle.std.proofs.lemmas.List.{length-set, length-map, get_or-set_same, get_or-set_other}
use Rattle.fmp_codes.specs.declared.numbers.Proc.{Proc}
use Rattle.fmp_codes.specs.declared.numbers.Task.{Task}
use Rattle.fmp_codes.specs.declared.numbers.Pri.{Pri}
use Rattle.fmp_rules.specs.declared.machine.TaskRecord.{TaskRecord}
use Rattle.fmp_rules.specs.World.{item, with_item, no_task}
use Rattle.fmp_rules.specs.Ordering.{is_runnable}
use Rattle.fmp_rules.specs.Arrivals.{comes_before, priority_in}
use Rattle.fmp_law_safety.proofs.First.{comes_before_is_strict}
use Rattle.fmp_kernel_parts.specs.Tasks.{without}
use Rattle.fmp_ready.specs.Queues.{list_number, queue_at, push_last, take_out}
use Rattle.fmp_law_lists.specs.Listing.{is_task, all_but, IsListOf}
use Rattle.fmp_law_lists.specs.Stands.{record_in, runs_in, is_ready_at, AreNumbered, ReadyIs}
use Rattle.fmp_law_lists.proofs.Listings.{at_same, but_other, but_none, listing_agree, listing_same, listing_out, listing_gone, listing_last}
use Rattle.fmp_law_lists.proofs.Numbering.{other_item, own_item, but_agree, before_agree, later_comes_after, numbered_same, numbered_but, numbered_change, numbered_in}

-- the lists without a task, which stands in none
pub record ReadyBut (u : Task) (tasks : List TaskRecord) (ready : List (List Task)) (ns : List ℕ) (next : ℕ) : Type 0 where
  pub lists : (p : Proc) (n : Pri) → IsListOf (all_but u (is_ready_at tasks p n)) (comes_before (priority_in tasks) ns) (queue_at ready (list_number p n))
  pub numbered : AreNumbered (all_but u (runs_in tasks)) ns next
  pub sized : length ready ≡ 256
  pub counted : length ns ≡ length tasks
  pub few : length tasks ≤ 64

-- The list of a processor and a priority.

number_within : (p : Proc) (n : Pri) → list_number p n < 256
number_within p n = let a = p.most in let b = n.most in let c = p.least in let d = n.least in omega (arith, a, b, c, d)

list_after : (ready : List (List Task)) (i : Proc) (j : Pri) (ts : List Task) (p : Proc) (n : Pri) (P : List Task → Type 0) → length ready ≡ 256 →
    (list_number p n ≡ list_number i j → P ts) → ((list_number p n ≡ list_number i j → ⊥) → P (queue_at ready (list_number p n))) →
    P (queue_at (slice_set ready (list_number i j) ts) (list_number p n))
list_after ready i j ts p n P size here elsewhere = ⊎_elim
    (λ (e : list_number p n ≡ list_number i j).
    let within : list_number i j < length ready = let l = number_within i j in omega (arith, l, size) in
    subst P (sym (ap (queue_at (slice_set ready (list_number i j) ts)) e ∙ get_or-set_same ready (list_number i j) ts [] within)) (here e))
    (λ (d : list_number p n ≡ list_number i j → ⊥). subst P (sym (get_or-set_other ready (list_number i j) (list_number p n) ts [] d)) (elsewhere d))
    (cases_eq (list_number p n) (list_number i j))

list_without : (ready : List (List Task)) (u : Task) (i : ℕ) → queue_at (take_out ready u) i ≡ without u (queue_at ready i)
list_without [] u i = refl
list_without (ts ∷ ready) u zero = refl
list_without (ts ∷ ready) u (suc i) = list_without ready u i

-- where a record is ready
abbrev fits : TaskRecord → Proc → Pri → Bool
fits r p n = (is_runnable r && r.assigned.number == p.number) && r.priority.number == n.number

record Fits (r : TaskRecord) (p : Proc) (n : Pri) : Type 0 where
  runnable : is_runnable r ≡ true
  assigned : r.assigned.number ≡ p.number
  priority : r.priority.number ≡ n.number

fits_parts : (r : TaskRecord) (p : Proc) (n : Pri) → fits r p n ≡ true → Fits r p n
fits_parts r p n e =
    let a = and_parts (is_runnable r && r.assigned.number == p.number) (r.priority.number == n.number) e in
    let b = and_parts (is_runnable r) (r.assigned.number == p.number) a.0 in
    record { runnable = b.0; assigned = eqb-true _ _ b.1; priority = eqb-true _ _ a.1 }

fits_at : (r : TaskRecord) (p : Proc) (n : Pri) → is_runnable r ≡ true → list_number p n ≡ list_number r.assigned r.priority → fits r p n ≡ true
fits_at r p n e i =
    let p1 = p.least in let p2 = r.assigned.least in let n1 = n.least in let n2 = r.priority.least in let n3 = n.most in let n4 = r.priority.most in
    let a : r.assigned.number ≡ p.number = omega (arith, i, p1, p2, n1, n2, n3, n4) in
    let b : r.priority.number ≡ n.number = omega (arith, i, a, n1, n2) in
    and_from _ _ (and_from _ _ e (eq-eqb _ _ a)) (eq-eqb _ _ b)

fits_list : (r : TaskRecord) (p : Proc) (n : Pri) → fits r p n ≡ true → list_number p n ≡ list_number r.assigned r.priority
fits_list r p n e = let f = fits_parts r p n e in let a = f.assigned in let b = f.priority in rw (a, b) refl

fits_not : (r : TaskRecord) (p : Proc) (n : Pri) → is_runnable r ≡ false → fits r p n ≡ false
fits_not r p n e = rw e refl

-- two tasks stand in the same order after a change
ready_agree : (tasks others : List TaskRecord) (ns ms : List ℕ) (t u : Task) →
    (record_in tasks t).priority ≡ (record_in others t).priority → (record_in tasks u).priority ≡ (record_in others u).priority →
    item 0 ns t.number ≡ item 0 ms t.number → item 0 ns u.number ≡ item 0 ms u.number → comes_before (priority_in tasks) ns t u ≡ comes_before (priority_in others) ms t u
ready_agree tasks others ns ms t u a b c d = before_agree (priority_in tasks) (priority_in others) ns ms t u (ap (λ n. n.number) a) (ap (λ n. n.number) b) c d

-- A task leaves its list.

abbrev pub departed : TaskRecord → Task → List (List Task) → List (List Task)
departed r u ready = if is_runnable r then take_out ready u else ready

module _ (u : Task) (tasks : List TaskRecord) (ready : List (List Task)) (ns : List ℕ) (next : ℕ) where
  -- it stands in none
  pub ready_still : is_runnable (record_in tasks u) ≡ false → ReadyIs tasks ready ns next → ReadyBut u tasks ready ns next
  ready_still rests s = record {
    lists = λ p n. listing_same (λ t. sym (but_none u (is_ready_at tasks p n) (fits_not (record_in tasks u) p n rests) t)) (s.lists p n);
    numbered = numbered_but u (runs_in tasks) s.numbered;
    sized = s.sized;
    counted = s.counted;
    few = s.few;
  }

  ready_taken : ReadyIs tasks ready ns next → ReadyBut u tasks (take_out ready u) ns next
  ready_taken s = record {
    lists = λ p n. subst (IsListOf (all_but u (is_ready_at tasks p n)) _) (sym (list_without ready u (list_number p n))) (listing_out u (s.lists p n));
    numbered = numbered_but u (runs_in tasks) s.numbered;
    sized = length-map ready (without u) ∙ s.sized;
    counted = s.counted;
    few = s.few;
  }

  pub ready_out : ReadyIs tasks ready ns next → ReadyBut u tasks (departed (record_in tasks u) u ready) ns next
  ready_out s = cond_both (is_runnable (record_in tasks u)) (take_out ready u) ready (λ x. ReadyBut u tasks x ns next) (λ _. ready_taken s) (λ rests. ready_still rests s)

  -- to take it out once more changes nothing
  ready_gone : ReadyBut u tasks ready ns next → ReadyBut u tasks (take_out ready u) ns next
  ready_gone s = record {
    lists = λ p n. subst (IsListOf (all_but u (is_ready_at tasks p n)) _) (sym (list_without ready u (list_number p n))) (listing_gone u (is_ready_at tasks p n) (s.lists p n));
    numbered = s.numbered;
    sized = length-map ready (without u) ∙ s.sized;
    counted = s.counted;
    few = s.few;
  }

-- Its record and its number change.

pub ready_changed : (u : Task) (r : TaskRecord) (tasks : List TaskRecord) (ready : List (List Task)) (ns ms : List ℕ) (next more : ℕ) →
    ((t : Task) → is_task t u ≡ false → item 0 ns t.number ≡ item 0 ms t.number) → next ≤ more → length ms ≡ length ns →
    ReadyBut u tasks ready ns next → ReadyBut u (with_item tasks u.number r) ready ms more
ready_changed u r tasks ready ns ms next more same l count s = record {
  lists = λ p n. listing_agree (but_agree u (is_ready_at tasks p n) (is_ready_at new p n) (λ t d. ap (λ x. fits x p n) (sym (other t d))))
      (λ t v e f. let d = (but_other u (is_ready_at new p n) t e).0 in let g = (but_other u (is_ready_at new p n) v f).0 in
      ready_agree tasks new ns ms t v (ap (λ x. x.priority) (sym (other t d))) (ap (λ x. x.priority) (sym (other v g))) (same t d) (same v g))
      (s.lists p n);
  numbered = numbered_change (λ t e. same t (but_other u (runs_in new) t e).0) l
      (numbered_same (but_agree u (runs_in tasks) (runs_in new) (λ t d. ap is_runnable (sym (other t d)))) s.numbered);
  sized = s.sized;
  counted = count ∙ s.counted ∙ sym (length-set tasks _ r);
  few = rw (length-set tasks (u.number - 1) r) s.few;
}
  where
    new : List TaskRecord
    new = with_item tasks u.number r

    other : (t : Task) → is_task t u ≡ false → record_in new t ≡ record_in tasks t
    other t d = other_item no_task tasks r u t d

-- It comes back: where it is not ready, or as the last of its list.

module _ (u : Task) (tasks : List TaskRecord) (ready : List (List Task)) (ns : List ℕ) (next : ℕ) (s : ReadyBut u tasks ready ns next) where
  pub ready_rest : is_runnable (record_in tasks u) ≡ false → ReadyIs tasks ready ns next
  ready_rest rests = record {
    lists = λ p n. listing_same (but_none u (is_ready_at tasks p n) (fits_not (record_in tasks u) p n rests)) (s.lists p n);
    numbered = numbered_same (but_none u (runs_in tasks) rests) s.numbered;
    sized = s.sized;
    counted = s.counted;
    few = s.few;
  }

  abbrev r : TaskRecord
  r = record_in tasks u

  abbrev before : Task → Task → Bool
  before = comes_before (priority_in tasks) ns

  pub ready_in : is_runnable r ≡ true → ((t : Task) → is_task t u ≡ false → runs_in tasks t ≡ true → item 0 ns t.number < item 0 ns u.number) → item 0 ns u.number < next →
      ReadyIs tasks (push_last ready (list_number r.assigned r.priority) u) ns next
  ready_in runs last low = record {
    lists = λ p n. list_after ready r.assigned r.priority _ p n (IsListOf (is_ready_at tasks p n) before) s.sized
        (λ e. subst (λ (i : ℕ). IsListOf (is_ready_at tasks p n) before (queue_at ready i ++ u ∷ [])) e (arrived p n e))
        (λ d. listing_same (but_none u (is_ready_at tasks p n) (false_from_ne_true _ (λ e. d (fits_list r p n e)))) (s.lists p n));
    numbered = numbered_in u (runs_in tasks) ns next last low s.numbered;
    sized = length-set ready _ _ ∙ s.sized;
    counted = s.counted;
    few = s.few;
  }
    where
      arrived : (p : Proc) (n : Pri) → list_number p n ≡ list_number r.assigned r.priority →
          IsListOf (is_ready_at tasks p n) before (queue_at ready (list_number p n) ++ u ∷ [])
      arrived p n e =
          listing_last u (is_ready_at tasks p n) before (comes_before_is_strict (priority_in tasks) ns) (queue_at ready (list_number p n))
          (fits_at r p n runs e)
          (λ t d f. let a = fits_parts (record_in tasks t) p n f in let b = fits_parts r p n (fits_at r p n runs e) in
          later_comes_after (priority_in tasks) ns t u (a.priority ∙ sym b.priority) (last t d a.runnable))
          (s.lists p n)

-- Its record changes: it leaves and comes back, or stays away.

module _ (u : Task) (r : TaskRecord) (tasks : List TaskRecord) (ready : List (List Task)) (ns : List ℕ) (next : ℕ) (within : u.number ≤ length tasks) where
  abbrev new : List TaskRecord
  new = with_item tasks u.number r

  mine : record_in new u ≡ r
  mine = own_item no_task tasks r u within

  pub ready_away : is_runnable r ≡ false → (more : ℕ) → next ≤ more → ReadyBut u tasks ready ns next → ReadyIs new ready ns more
  ready_away rests more up s = ready_rest u new ready ns more (ready_changed u r tasks ready ns ns next more (λ _ _. refl) up refl s) (ap is_runnable mine ∙ rests)

  pub ready_arrives : is_runnable r ≡ true → ReadyBut u tasks ready ns next →
      ReadyIs new (push_last (take_out ready u) (list_number r.assigned r.priority) u) (with_item ns u.number next) (next + 1)
  ready_arrives runs s =
      subst (λ (x : TaskRecord). ReadyIs new (push_last (take_out ready u) (list_number x.assigned x.priority) u) (with_item ns u.number next) (next + 1)) mine
      (ready_in u new (take_out ready u) (with_item ns u.number next) (next + 1)
      (ready_changed u r tasks (take_out ready u) ns (with_item ns u.number next) next (next + 1) (λ t d. sym (other_item 0 ns next u t d)) (omega arith) (length-set ns _ next)
      (ready_gone u tasks ready ns next s))
      (ap is_runnable mine ∙ runs) last (let b = number in omega (arith, b)))
    where
      number : item 0 (with_item ns u.number next) u.number ≡ next
      number = own_item 0 ns next u (rw s.counted within)

      last : (t : Task) → is_task t u ≡ false → runs_in new t ≡ true → item 0 (with_item ns u.number next) t.number < item 0 (with_item ns u.number next) u.number
      last t d e =
          let l = s.numbered.below t (rw d (ap is_runnable (sym (other_item no_task tasks r u t d)) ∙ e)) in
          let a = other_item 0 ns next u t d in let b = number in omega (arith, l, a, b)

  -- a change at which it keeps its place
  pub ready_noted : is_runnable r ≡ is_runnable (record_in tasks u) → r.assigned ≡ (record_in tasks u).assigned → r.priority ≡ (record_in tasks u).priority →
      ReadyIs tasks ready ns next → ReadyIs new ready ns next
  ready_noted runs assigned priority s = record {
    lists = λ p n. listing_agree (λ t. by_task (λ a b. fits a p n ≡ fits b p n) t (rw (runs, assigned, priority) refl) (λ _. refl))
        (λ t v _ _. ready_agree tasks new ns ns t v (same_priority t) (same_priority v) refl refl) (s.lists p n);
    numbered = numbered_same (λ t. by_task (λ a b. is_runnable a ≡ is_runnable b) t (sym runs) (λ _. refl)) s.numbered;
    sized = s.sized;
    counted = s.counted ∙ sym (length-set tasks _ r);
    few = rw (length-set tasks (u.number - 1) r) s.few;
  }
    where
      by_task : (P : TaskRecord → TaskRecord → Type 0) (t : Task) → P (record_in tasks u) r → ((x : TaskRecord) → P x x) → P (record_in tasks t) (record_in new t)
      by_task P t here others = ⊎_elim
          (λ (a : is_task t u ≡ true). at_same (λ x. P (record_in tasks x) (record_in new x)) t u a (subst (P (record_in tasks u)) (sym mine) here))
          (λ (a : is_task t u ≡ false). subst (P (record_in tasks t)) (sym (other_item no_task tasks r u t a)) (others (record_in tasks t))) (cases_Bool (is_task t u))

      same_priority : (t : Task) → (record_in tasks t).priority ≡ (record_in new t).priority
      same_priority t = by_task (λ a b. a.priority ≡ b.priority) t (sym priority) (λ _. refl)
