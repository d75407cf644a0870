-- What a call asks of the queue of an object, and the caller that waits in it.
use Rattle.std.proofs.Common.{◌≡◌, ℕ, ◌≤◌, ℤ, pos, negsuc, Bool, true, false, not, ◌&&◌, List, [], ◌∷◌, length, sym, ◌∙◌, subst, arith, Option, Some, None}
use Rattle.std.specs.Prelude.{is_some, nat_le, unwrap_or, option_map}
use Rattle.std.proofs.lemmas.Bool.{cond_both, and_parts, leb-true, false≢true, or_left}
use Rattle.std.proofs.lemmas.Option.{same_Some}
use Rattle.fmp_codes.specs.Numbers.{as_object}
use Rattle.fmp_codes.specs.declared.numbers.Proc.{Proc}
use Rattle.fmp_codes.specs.declared.numbers.Task.{Task}
use Rattle.fmp_codes.specs.declared.numbers.Object.{Object}
use Rattle.fmp_codes.specs.declared.codes.Code.TheVariants as code
use Rattle.fmp_rules.specs.Effects.{Effect}
use Rattle.fmp_rules.specs.declared.machine.Context.TheVariants as context
use Rattle.fmp_rules.specs.declared.machine.Wait.{Wait}
use Rattle.fmp_rules.specs.declared.machine.QueueKind.{QueueKind}
use Rattle.fmp_rules.specs.World.{World, first}
use Rattle.fmp_rules.specs.Ordering.{order_in, queue}
use Rattle.fmp_rules.specs.Arrivals.{Arrivals, State, numbered}
use Rattle.fmp_rules.specs.Arguments.{object_named}
use Rattle.fmp_rules.specs.Rows.{Row, is_refused_context, first_error, check, done_or_wait}
use Rattle.fmp_law_safety.specs.Safe.{IsNumberOf, Safe}
use Rattle.fmp_law_safety.proofs.Calls.{from_task}
use Rattle.fmp_kernel_order.specs.Queues.{Queues, Place, place_of, listed}
use Rattle.fmp_law_lists.specs.Stands.{count_in, with_order, AreListsOf, Matches}
use Rattle.fmp_law_lists.proofs.Listings.{In, itself}
use Rattle.fmp_law_lists.proofs.Waits.{waiter_waits}
use Rattle.fmp_law_lists.proofs.Tops.{same_waiters, waits_within}
use Rattle.fmp_law_lists.proofs.Callers.{caller_within, caller_free}
use Rattle.fmp_law_lists.proofs.Matching.{done_or_waited}

-- the object that an argument names is there
pub object_within : {X : Type 0} (xs : List X) (id : ℤ) → is_some (object_named xs id) ≡ true → (unwrap_or (object_named xs id) (as_object 1)).number ≤ length xs
object_within xs (negsuc n) e = absurd (false≢true e)
object_within xs (pos n) e =
    cond_both (nat_le 1 n && nat_le n (length xs)) (Some n) None (λ (o : Option ℕ). is_some (option_map as_object o) ≡ true → (unwrap_or (option_map as_object o) (as_object 1)).number ≤ length xs)
    (λ b _. let both = and_parts (nat_le 1 n) (nat_le n (length xs)) b in let least = leb-true _ _ both.0 in let most = leb-true _ _ both.1 in omega (arith, least, most))
    (λ _ none. absurd (false≢true none)) e

module _ (m : State) (q : Queues) (s : AreListsOf q m) where
  abbrev w : World Queues
  w = with_order m q

  pub same_queue : (x : QueueKind) (o : Object) → queue listed w x o ≡ queue numbered m x o
  same_queue x o = same_waiters m.tasks (order_in m) (count_in m) m.waits_left q m.order s x o

  pub waiter_within : (x : QueueKind) (o : Object) (t : Task) → In t (queue listed w x o) → t.number ≤ length m.tasks
  unfolding listed
  waiter_within x o t i = waits_within m.tasks t (waiter_waits x o _ (sym ((s.waits.lists x o).members t) ∙ i))

  -- what is done by the first waiter of a queue
  pub by_first : (x : QueueKind) (o : Object) (f : Option Task → World Queues × Effect) (g : Option Task → State × Effect) → Matches (f None) (g None) →
      ((t : Task) → t.number ≤ length m.tasks → Matches (f (Some t)) (g (Some t))) → Matches (f (first (queue listed w x o))) (g (first (queue numbered m x o)))
  by_first x o f g none some = subst (λ ts. Matches (f (first (queue listed w x o))) (g (first ts))) (same_queue x o) (go (queue listed w x o) (waiter_within x o))
    where
      go : (ts : List Task) → ((t : Task) → In t ts → t.number ≤ length m.tasks) → Matches (f (first ts)) (g (first ts))
      go [] h = none
      go (t ∷ ts) h = some t (h t (or_left _ _ (itself t)))

  -- checks whose errors ask the order
  pub same_checks : (p : Proc) (a : Row Queues) (b : Row Arrivals) → a.rule ≡ b.rule → a.known ≡ b.known → a.proper ≡ b.proper → a.errors ≡ b.errors → check w p a ≡ check m p b
  same_checks p a b rule known proper errors =
      λ i. first_error ((is_refused_context m p (rule i), code.Context) ∷ (not (known i), code.Identifier) ∷ (not (proper i), code.Parameter) ∷ errors i)

-- the queue of an object that is there
pub in_place : (m : State) (x : QueueKind) (o : Object) → o.number ≤ count_in m x → (at : Place) → Some (record { kind = x; object = o }) ≡ Some at → at.object.number ≤ count_in m at.kind
in_place m x o within at e = subst (λ (y : Place). y.object.number ≤ count_in m y.kind) (same_Some _ at e) within

module _ (m : State) (q : Queues) (s : AreListsOf q m) (safe : Safe numbered m) (p : Proc) (there : IsNumberOf m.processors p.number) where
  -- what can be done is done, or else the task that calls waits
  pub does_or_waits : is_refused_context m p (record { context = context.Task; when_locked = false; unheld = true }) ≡ false → (can : Bool) (a : World Queues × Effect) (b : State × Effect) (x : Wait) (timeout : ℤ) →
      ((at : Place) → place_of x ≡ Some at → at.object.number ≤ count_in m at.kind) → Matches a b → Matches (done_or_wait listed (with_order m q) p can a x timeout) (done_or_wait numbered m p can b x timeout)
  does_or_waits accepted can a b x timeout known did =
      let f = from_task m p false true accepted in done_or_waited m q s p (caller_within m safe p there f) (caller_free m safe p there f) can a b x timeout did known
