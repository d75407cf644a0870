-- Tasks and objects by the arguments that name them, and the open wait of a task by how it waits.
use Rattle.std.proofs.Common.{◌≡◌, ℕ, ◌≤◌, ℤ, pos, negsuc, ◌==◌, Bool, true, false, ◌&&◌, List, length, refl, sym, ap, ◌∙◌, subst, arith, Option, Some, None, ⊎_elim}
use Rattle.std.specs.Prelude.{nat_le, is_some, unwrap_or, option_map}
use Rattle.std.proofs.lemmas.Bool.{cases_eq, cond_both, cond-true, and_parts, and_from, eqb-true, eq-eqb, ne_eqb, leb-true, le-leb, false≢true}
use Rattle.std.proofs.lemmas.Option.{none-some, same_Some}
use Rattle.fmp_codes.specs.Numbers.{as_task, as_object, within}
use Rattle.fmp_codes.specs.declared.numbers.Proc.{Proc}
use Rattle.fmp_codes.specs.declared.numbers.Task.{Task}
use Rattle.fmp_codes.specs.declared.numbers.Object.{Object}
use Rattle.fmp_codes.specs.declared.calls.Mode.{Mode}
use Rattle.fmp_rules.specs.declared.machine.Wait.{Wait}
use Rattle.fmp_rules.specs.declared.machine.Wait.TheVariants as wait
use Rattle.fmp_rules.specs.declared.machine.QueueKind.TheVariants as kind
use Rattle.fmp_rules.specs.World.{World, processor, handler, runner_of}
use Rattle.fmp_rules.specs.Ordering.{waits_in}
use Rattle.fmp_rules.specs.Arguments.{caller, object_named, task_named, ticks_of}
use Rattle.fmp_law_safety.proofs.Calls.{FromTask}
use Rattle.std.specs.Option.{option_or}
use Rattle.fmp_codes.specs.declared.records.Runner.{Runner}
use Rattle.fmp_codes.specs.declared.records.Runner.TheVariants as runner
use Rattle.fmp_codes.proofs.Same.{tasks_same, objects_same}
use Rattle.fmp_law_balance.specs.Accepted.{names}
use Rattle.fmp_law_balance.proofs.Objects.{object_known}
use Rattle.fmp_law_balance.specs.Words.{one_up_to}
use Rattle.fmp_rules.specs.Tick.{one_less}
use Rattle.fmp_law_balance.specs.Waits.Meanings.{ticks_in, after_tick}
use Rattle.fmp_law_balance.specs.Waits.Asked.{OpenWait, asked_of}
use Rattle.fmp_law_balance.specs.Waits.Waits.{is_number_of}
use Rattle.fmp_law_balance.specs.Waits.Laws.{Waits}

-- times and ticks mean what they do in the machine
pub ticks_same : (time : ℤ) → ticks_in time ≡ ticks_of time
ticks_same (pos n) = refl
ticks_same (negsuc n) = refl

pub tick_same : (left : Option ℕ) → after_tick left ≡ one_less left
tick_same None = refl
tick_same (Some n) = refl

pub eqb_sym : (m n : ℕ) → (m == n) ≡ (n == m)
eqb_sym m n =
    ⊎_elim (λ (e : m ≡ n). eq-eqb m n e ∙ sym (eq-eqb n m (sym e))) (λ (d : m ≡ n → ⊥). ne_eqb m n d ∙ sym (ne_eqb n m (λ e. d (sym e)))) (cases_eq m n)

-- what holds of this task, and of all others
pub by_task : (P : Task → Bool → Type 0) (u t : Task) → (u.number ≡ t.number → P u true) → ((t.number ≡ u.number → ⊥) → P t false) → P t (u.number == t.number)
by_task P u t same other =
    ⊎_elim
    (λ (e : u.number ≡ t.number). subst (P t) (sym (eq-eqb u.number t.number e)) (subst (λ (x : Task). P x true) (tasks_same u t e) (same e)))
    (λ (d : u.number ≡ t.number → ⊥). subst (P t) (sym (ne_eqb u.number t.number d)) (other (λ e. d (sym e)))) (cases_eq u.number t.number)

-- a task that makes a call runs
pub caller_runs : {Q : Type 0} (w : World Q) (p : Proc) → FromTask w p → runner_of w p ≡ Some (runner.Task (caller w p))
caller_runs w p f = go (handler w p) (processor w p).running f.handler f.running
  where
    go : (h : Option Runner) (o : Option Task) → is_some h ≡ false → o ≡ Some (caller w p) → option_or h (option_map runner.Task o) ≡ Some (runner.Task (caller w p))
    go None o no_handler e = ap (option_map runner.Task) e
    go (Some r) o no_handler e = absurd (false≢true (sym no_handler))

-- an argument that names one of so few tasks is its number
pub task_known : {Q : Type 0} (w : World Q) (id : ℤ) → length w.tasks ≤ 64 → is_some (task_named w id) ≡ true →
    (t : Task) → is_number_of t id ≡ ((unwrap_or (task_named w id) (as_task 1)).number == t.number)
task_known w (negsuc n) few e = absurd (false≢true e)
task_known w (pos n) few e =
    cond_both (nat_le 1 n && nat_le n (length w.tasks)) (Some n) None
    (λ (o : Option ℕ). is_some (option_map as_task o) ≡ true → (t : Task) → (n == t.number) ≡ ((unwrap_or (option_map as_task o) (as_task 1)).number == t.number))
    (λ h _ t.
    let parts = and_parts (nat_le 1 n) (nat_le n (length w.tasks)) h in
    let most : n ≤ length w.tasks = leb-true n (length w.tasks) parts.1 in
    let least : 1 ≤ n = leb-true 1 n parts.0 in
    let number : n ≡ within 64 n = omega (arith, most, least, few) in
    ap (λ i. i == t.number) number)
    (λ _ bad. absurd (false≢true bad)) e

-- the object that an argument names has the number that it says
pub names_itself : {X : Type 0} (xs : List X) (id : ℤ) → length xs ≤ 32 → is_some (object_named xs id) ≡ true →
    names (unwrap_or (object_named xs id) (as_object 1)) id ≡ true
names_itself xs id few known =
    let o : Object = unwrap_or (object_named xs id) (as_object 1) in
    (object_known xs id few known).names o ∙ eq-eqb o.number o.number refl

-- what a call from p asked for of the object that its argument names, which is one of so few
pub asked_named : {X : Type 0} (xs : List X) (waits : Object → Wait) (id timeout : ℤ) (p : Proc) → length xs ≤ 32 → is_some (object_named xs id) ≡ true →
    asked_of waits id (ticks_in timeout) p ≡ Some (record { wait = waits (unwrap_or (object_named xs id) (as_object 1)); left = ticks_of timeout; assigned = p })
asked_named xs waits (negsuc n) timeout p few e = absurd (false≢true e)
asked_named xs waits (pos n) timeout p few e =
    let A : ℕ → OpenWait = λ i. record { wait = waits (as_object i); left = ticks_of timeout; assigned = p } in
    ap (λ l. asked_of waits (pos n) l p) (ticks_same timeout)
    ∙ cond_both (nat_le 1 n && nat_le n (length xs)) (Some n) None
    (λ (o : Option ℕ). is_some (option_map as_object o) ≡ true →
    option_map A (one_up_to 32 (pos n)) ≡ Some (record { wait = waits (unwrap_or (option_map as_object o) (as_object 1)); left = ticks_of timeout; assigned = p }))
    (λ h _.
    let parts = and_parts (nat_le 1 n) (nat_le n (length xs)) h in
    let most : n ≤ length xs = leb-true n (length xs) parts.1 in
    ap (λ o. option_map A o) (cond-true (nat_le 1 n && nat_le n 32) (Some n) None (and_from (nat_le 1 n) (nat_le n 32) parts.0 (le-leb n 32 (omega (arith, most, few))))))
    (λ _ bad. absurd (false≢true bad)) e

-- Who waits in a queue waits for its object.

pub waits_for_semaphore : (o : Object) (a : Option Wait) → waits_in kind.Semaphore o a ≡ true → a ≡ Some (wait.Semaphore o)
waits_for_semaphore o (Some (wait.Semaphore d)) e = ap (λ (x : Object). Some (wait.Semaphore x)) (objects_same d o (eqb-true d.number o.number e))
waits_for_semaphore o (Some wait.Sleep) e = absurd (false≢true e)
waits_for_semaphore o _ e = absurd (false≢true e)

pub waits_for_flag : (o : Object) (a : Option Wait) → waits_in kind.Eventflag o a ≡ true → (x : ℕ) × (m : Mode) × (a ≡ Some (wait.Eventflag o x m))
waits_for_flag o (Some (wait.Eventflag d x m)) e = (x, m, ap (λ (i : Object). Some (wait.Eventflag i x m)) (objects_same d o (eqb-true d.number o.number e)))
waits_for_flag o (Some wait.Sleep) e = absurd (false≢true e)
waits_for_flag o _ e = absurd (false≢true e)

pub waits_for_block : (o : Object) (a : Option Wait) → waits_in kind.Pool o a ≡ true → a ≡ Some (wait.Pool o)
waits_for_block o (Some (wait.Pool d)) e = ap (λ (x : Object). Some (wait.Pool x)) (objects_same d o (eqb-true d.number o.number e))
waits_for_block o (Some wait.Sleep) e = absurd (false≢true e)
waits_for_block o _ e = absurd (false≢true e)

-- The open wait of a task, by how it waits.

-- a task that waits for this has this open wait
pub record HasOpen (pending : Option OpenWait) (y : Wait) (ticks : Option ℕ) (processor : Proc) : Type 0 where
  pub what : OpenWait
  pub is : pending ≡ Some what
  pub wait : what.wait ≡ y
  pub left : ticks ≡ what.left
  pub assigned : processor ≡ what.assigned

pub open_of : (pending : Option OpenWait) (a : Option Wait) (ticks : Option ℕ) (q : Proc) → Waits pending a ticks q → (y : Wait) → a ≡ Some y → HasOpen pending y ticks q
open_of None a ticks q h y e = absurd (none-some y (sym h.wait ∙ e))
open_of (Some o) a ticks q h y e = record { what = o; is = refl; wait = same_Some o.wait y (sym h.wait ∙ e); left = h.left; assigned = h.assigned }

pub none_open : (pending : Option OpenWait) (a : Option Wait) (ticks : Option ℕ) (q : Proc) → Waits pending a ticks q → a ≡ None → pending ≡ None
none_open None a ticks q h e = refl
none_open (Some o) a ticks q h e = absurd (none-some o.wait (sym e ∙ h.wait))

-- a task without an open wait may be assigned to any processor
pub waits_not : (a : Option Wait) (ticks : Option ℕ) (q r : Proc) (pending : Option OpenWait) → Waits pending a ticks q → a ≡ None → Waits pending None ticks r
waits_not a ticks q r None h e = record { wait = refl; left = h.left; assigned = tt }
waits_not a ticks q r (Some o) h e = absurd (none-some o.wait (sym e ∙ h.wait))
