-- Queues of objects: which wait stands where, and what a change of one queue leaves.
use Rattle.std.proofs.Common.{◌≡◌, ◌==◌, ℕ, ◌-◌, ◌<◌, ◌≤◌, true, false, List, [], length, refl, sym, ap, ◌∙◌, subst, arith, Option, Some, None, ⊎_elim}
use Rattle.std.proofs.lemmas.Bool.{cases_eq, cases_lt, eqb-true, eq-eqb, false≢true, false_from_ne_true}
use Rattle.std.proofs.lemmas.Option.{none-some, same_Some}
use Rattle.std.proofs.lemmas.List.{get_or_past, length-set}
use Rattle.fmp_codes.specs.declared.numbers.Object.{Object}
use Rattle.fmp_codes.proofs.Same.{objects_same}
use Rattle.fmp_setup.specs.declared.setup.Order.{Order}
use Rattle.fmp_rules.specs.declared.machine.Wait.{Wait}
use Rattle.fmp_rules.specs.declared.machine.Wait.TheVariants as wait
use Rattle.fmp_rules.specs.declared.machine.QueueKind.{QueueKind}
use Rattle.fmp_rules.specs.declared.machine.QueueKind.TheVariants as kind
use Rattle.fmp_rules.specs.World.{item, with_item}
use Rattle.fmp_rules.specs.Ordering.{is_in, waits_in}
use Rattle.fmp_law_safety.proofs.Items.{item_same, item_other}
use Rattle.fmp_waitq.specs.Queue.{Waiter}
use Rattle.fmp_kernel_order.specs.Queues.{WaitQueues, queues, with_queues, queue, Place, place_of, place_in, changed}

-- Where a wait stands.

pub record StandsAt (x : QueueKind) (o : Object) (a : Option Wait) : Type 0 where
  pub at : Place
  pub place : place_in a ≡ Some at
  pub kind : at.kind ≡ x
  pub object : at.object ≡ o

-- this wait in the queue of s, where it is that of o
in_queue_of : (x : QueueKind) (s o : Object) (w : Wait) → place_of w ≡ Some (record { kind = x; object = s }) → (s.number == o.number) ≡ true → StandsAt x o (Some w)
in_queue_of x s o w place e = record { at = record { kind = x; object = s }; place = place; kind = refl; object = objects_same s o (eqb-true s.number o.number e) }

in_place : (x : QueueKind) (o : Object) (w : Wait) → is_in x o w ≡ true → StandsAt x o (Some w)
in_place kind.Semaphore o (wait.Semaphore s) e = in_queue_of kind.Semaphore s o (wait.Semaphore s) refl e
in_place kind.Eventflag o (wait.Eventflag s pattern mode) e = in_queue_of kind.Eventflag s o (wait.Eventflag s pattern mode) refl e
in_place kind.Send o (wait.Send s value) e = in_queue_of kind.Send s o (wait.Send s value) refl e
in_place kind.Receive o (wait.Receive s) e = in_queue_of kind.Receive s o (wait.Receive s) refl e
in_place kind.Pool o (wait.Pool s) e = in_queue_of kind.Pool s o (wait.Pool s) refl e
in_place x o w e = absurd (false≢true e)

pub stands_at : (x : QueueKind) (o : Object) (a : Option Wait) → waits_in x o a ≡ true → StandsAt x o a
stands_at x o None e = absurd (false≢true e)
stands_at x o (Some w) e = in_place x o w e

of_object : (x : QueueKind) (s : Object) (w : Wait) (at : Place) → is_in x s w ≡ true → Some (record { kind = x; object = s }) ≡ Some at → is_in at.kind at.object w ≡ true
of_object x s w at i g = subst (λ (p : Place). is_in p.kind p.object w ≡ true) (same_Some (record { kind = x; object = s }) at g) i

in_own_place : (w : Wait) (at : Place) → place_of w ≡ Some at → is_in at.kind at.object w ≡ true
in_own_place wait.Sleep at e = absurd (none-some at e)
in_own_place wait.Delay at e = absurd (none-some at e)
in_own_place (wait.Semaphore s) at e = of_object kind.Semaphore s (wait.Semaphore s) at (eq-eqb s.number s.number refl) e
in_own_place (wait.Eventflag s pattern mode) at e = of_object kind.Eventflag s (wait.Eventflag s pattern mode) at (eq-eqb s.number s.number refl) e
in_own_place (wait.Send s value) at e = of_object kind.Send s (wait.Send s value) at (eq-eqb s.number s.number refl) e
in_own_place (wait.Receive s) at e = of_object kind.Receive s (wait.Receive s) at (eq-eqb s.number s.number refl) e
in_own_place (wait.Pool s) at e = of_object kind.Pool s (wait.Pool s) at (eq-eqb s.number s.number refl) e

-- a wait is in the queue of its place and in no other

pub in_its_place : (a : Option Wait) (at : Place) → place_in a ≡ Some at → waits_in at.kind at.object a ≡ true
in_its_place None at e = absurd (none-some at e)
in_its_place (Some w) at e = in_own_place w at e

pub in_no_place : (x : QueueKind) (o : Object) (a : Option Wait) → place_in a ≡ None → waits_in x o a ≡ false
in_no_place x o a e = false_from_ne_true _ (λ g. let h = stands_at x o a g in none-some h.at (sym e ∙ h.place))

pub in_other_place : (x : QueueKind) (o : Object) (a : Option Wait) (at : Place) →
    place_in a ≡ Some at → (x ≡ at.kind → o ≡ at.object → ⊥) → waits_in x o a ≡ false
in_other_place x o a at e other = false_from_ne_true _ (λ g.
    let h = stands_at x o a g in
    let same : h.at ≡ at = same_Some h.at at (sym h.place ∙ e) in
    other (sym h.kind ∙ ap (λ (p : Place). p.kind) same) (sym h.object ∙ ap (λ (p : Place). p.object) same))

-- the queue in which this wait stands is there, where there are so many objects of each kind
abbrev pub HasPlace : (QueueKind → ℕ) → Wait → Type 0
HasPlace counts w = (at : Place) → place_of w ≡ Some at → at.object.number ≤ counts at.kind

-- that queue has this order
abbrev pub HasOrder : (QueueKind → Object → Order) → Wait → Order → Type 0
HasOrder orders w i = (at : Place) → place_of w ≡ Some at → orders at.kind at.object ≡ i

-- The queues after a change of one.

pub queues_after : (q : WaitQueues) (k : QueueKind) (v : List (List Waiter)) (x : QueueKind) (P : List (List Waiter) → Type 0) →
    (x ≡ k → P v) → ((x ≡ k → ⊥) → P (queues q x)) → P (queues (with_queues q k v) x)
queues_after q kind.Semaphore v kind.Semaphore P here elsewhere = here refl
queues_after q kind.Semaphore v kind.Eventflag P here elsewhere = elsewhere (λ e. cc)
queues_after q kind.Semaphore v kind.Send P here elsewhere = elsewhere (λ e. cc)
queues_after q kind.Semaphore v kind.Receive P here elsewhere = elsewhere (λ e. cc)
queues_after q kind.Semaphore v kind.Pool P here elsewhere = elsewhere (λ e. cc)
queues_after q kind.Eventflag v kind.Eventflag P here elsewhere = here refl
queues_after q kind.Eventflag v kind.Semaphore P here elsewhere = elsewhere (λ e. cc)
queues_after q kind.Eventflag v kind.Send P here elsewhere = elsewhere (λ e. cc)
queues_after q kind.Eventflag v kind.Receive P here elsewhere = elsewhere (λ e. cc)
queues_after q kind.Eventflag v kind.Pool P here elsewhere = elsewhere (λ e. cc)
queues_after q kind.Send v kind.Send P here elsewhere = here refl
queues_after q kind.Send v kind.Semaphore P here elsewhere = elsewhere (λ e. cc)
queues_after q kind.Send v kind.Eventflag P here elsewhere = elsewhere (λ e. cc)
queues_after q kind.Send v kind.Receive P here elsewhere = elsewhere (λ e. cc)
queues_after q kind.Send v kind.Pool P here elsewhere = elsewhere (λ e. cc)
queues_after q kind.Receive v kind.Receive P here elsewhere = here refl
queues_after q kind.Receive v kind.Semaphore P here elsewhere = elsewhere (λ e. cc)
queues_after q kind.Receive v kind.Eventflag P here elsewhere = elsewhere (λ e. cc)
queues_after q kind.Receive v kind.Send P here elsewhere = elsewhere (λ e. cc)
queues_after q kind.Receive v kind.Pool P here elsewhere = elsewhere (λ e. cc)
queues_after q kind.Pool v kind.Pool P here elsewhere = here refl
queues_after q kind.Pool v kind.Semaphore P here elsewhere = elsewhere (λ e. cc)
queues_after q kind.Pool v kind.Eventflag P here elsewhere = elsewhere (λ e. cc)
queues_after q kind.Pool v kind.Send P here elsewhere = elsewhere (λ e. cc)
queues_after q kind.Pool v kind.Receive P here elsewhere = elsewhere (λ e. cc)

-- there is a queue of an object, or a change of none makes none
abbrev pub IsThere : WaitQueues → Place → (List Waiter → List Waiter) → Type 0
IsThere q at f = length (queues q at.kind) < at.object.number → f [] ≡ []

pub queue_after : (q : WaitQueues) (at : Place) (f : List Waiter → List Waiter) (x : QueueKind) (o : Object) (S : QueueKind → Object → List Waiter → Type 0) →
    IsThere q at f → S at.kind at.object (f (queue q at.kind at.object)) → ((x ≡ at.kind → o ≡ at.object → ⊥) → S x o (queue q x o)) →
    S x o (queue (changed q (Some at) f) x o)
queue_after q at f x o S there here elsewhere =
    queues_after q at.kind after x (λ v. S x o (item [] v o.number))
    (λ e. ⊎_elim
    (λ (g : o.number ≡ at.object.number).
    let same : o ≡ at.object = objects_same o at.object g in
    subst (λ y. S y o (item [] after o.number)) (sym e)
    (subst (λ i. S at.kind i (item [] after i.number)) (sym same) (subst (S at.kind at.object) (sym own) here)))
    (λ (d : o.number ≡ at.object.number → ⊥).
    let same = item_other [] (queues q at.kind) at.object.number (f (queue q at.kind at.object)) o.number o.least at.object.least d in
    subst (S x o) (ap (λ y. queue q y o) e ∙ sym same) (elsewhere (λ _ s. d (ap (λ (i : Object). i.number) s))))
    (cases_eq o.number at.object.number))
    (λ d. elsewhere (λ e _. d e))
  where
    after : List (List Waiter)
    after = with_item (queues q at.kind) at.object.number (f (queue q at.kind at.object))

    own : item [] (with_item (queues q at.kind) at.object.number (f (queue q at.kind at.object))) at.object.number ≡ f (queue q at.kind at.object)
    own = ⊎_elim
        (λ (l : length (queues q at.kind) < at.object.number).
        let past : length (queues q at.kind) ≤ at.object.number - 1 = omega (arith, l) in
        get_or_past _ (at.object.number - 1) [] (rw (length-set (queues q at.kind) (at.object.number - 1) (f (queue q at.kind at.object))) past)
        ∙ sym (ap f (get_or_past (queues q at.kind) (at.object.number - 1) [] past) ∙ there l))
        (λ (l : at.object.number ≤ length (queues q at.kind)). item_same [] (queues q at.kind) at.object.number (f (queue q at.kind at.object)) at.object.least l)
        (cases_lt (length (queues q at.kind)) at.object.number)
