-- What the lists of an order tell: they have the tasks of which the records say so, and no others.
use Rattle.std.proofs.Common.{◌≡◌, ◌≤◌, ◌⊎◌, inl, true, false, List, [], ◌∷◌, length, refl, Option, Some, None}
use Rattle.std.specs.Prelude.{is_some, is_none}
use Rattle.std.proofs.lemmas.Bool.{false_from_ne_true}
use Rattle.std.proofs.lemmas.Option.{none-some, same_Some}
use Rattle.fmp_codes.specs.declared.numbers.Task.{Task}
use Rattle.fmp_codes.specs.declared.numbers.Object.{Object}
use Rattle.fmp_rules.specs.declared.machine.QueueKind.{QueueKind}
use Rattle.fmp_rules.specs.World.{World, item, first, task}
use Rattle.fmp_rules.specs.Ordering.{Ordering, waits_in, queue}

-- x is one of these
abbrev pub IsAmong : {X : Type 0} → X → List X → Type 0
IsAmong x [] = ⊥
IsAmong x (y ∷ ys) = (y ≡ x) ⊎ IsAmong x ys

pub record Lists {Q : Type 0} (k : Ordering Q) (w : World Q) : Type 0 where
  -- the queue of an object
  pub waiting : (x : QueueKind) (o : Object) (t : Task) → waits_in x o (task w t).wait ≡ true → IsAmong t (queue k w x o)
  pub only_waiting : (x : QueueKind) (o : Object) (t : Task) → IsAmong t (queue k w x o) → waits_in x o (task w t).wait ≡ true
  pub few_waiting : (x : QueueKind) (o : Object) → length (queue k w x o) ≤ length w.tasks
  -- the tasks with ticks left
  pub timed : (t : Task) → is_some (item None w.waits_left t.number) ≡ true → IsAmong t (k.timed w.order w.waits_left)
  pub only_timed : (t : Task) → IsAmong t (k.timed w.order w.waits_left) → t.number ≤ length w.waits_left
  pub few_timed : length (k.timed w.order w.waits_left) ≤ length w.waits_left

first_none : {X : Type 0} (x : X) (xs : List X) → is_none (first xs) ≡ true → IsAmong x xs → ⊥
first_none x [] e i = i
first_none x (y ∷ ys) e i = absurd (cc)

first_some : {X : Type 0} (x : X) (xs : List X) → first xs ≡ Some x → IsAmong x xs
first_some x [] e = absurd (none-some x e)
first_some x (y ∷ ys) e = inl (same_Some y x e)

pub none_there : {X : Type 0} (o : Option X) → is_some o ≡ false → is_none o ≡ true
none_there None e = refl
none_there (Some x) e = absurd (cc)

module _ {Q : Type 0} (k : Ordering Q) (w : World Q) (l : Lists k w) (x : QueueKind) (o : Object) where
  -- where a queue has no first task, nobody waits in it
  pub nobody_waits : is_none (first (queue k w x o)) ≡ true → (t : Task) → waits_in x o (task w t).wait ≡ false
  nobody_waits e t = false_from_ne_true _ (λ waits. first_none t (queue k w x o) e (l.waiting x o t waits))

  -- the first task of a queue waits in it
  pub first_waits : (t : Task) → first (queue k w x o) ≡ Some t → waits_in x o (task w t).wait ≡ true
  first_waits t e = l.only_waiting x o t (first_some t (queue k w x o) e)
