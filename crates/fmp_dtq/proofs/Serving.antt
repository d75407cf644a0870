-- Each change of a data queue leaves nobody waiting for what is to be had.
use Rattle.std.proofs.Common.{◌≡◌, ℤ, ◌<◌, ◌≤◌, Bool, true, false, Option, Some, None, List, [], ◌∷◌, ◌++◌, length, map, refl, sym, ap, ◌∙◌, subst, arith, length-append}
use Rattle.std.specs.Prelude.{nat_lt, is_some}
use Rattle.std.proofs.lemmas.Bool.{or_parts, lt-ltb, le-ltb}
use Rattle.fmp_codes.specs.declared.numbers.Task.{Task}
use Rattle.fmp_rules.specs.World.{first, rest}
use Rattle.fmp_waitq.specs.Queue.{Waiter, task_of, has_waiter, left_by}
use Rattle.fmp_waitq.proofs.Waiters.{waited_before}
use Rattle.fmp_dtq.specs.DataQueue.{DataQueue, sender, receiver}
use Rattle.fmp_dtq.specs.Served.{can_send, can_receive, IsServed}

-- where a task is, some task is the first
is_first : (t : Task) (es : List Waiter) → has_waiter t es ≡ true → is_some (first (map task_of es)) ≡ true
is_first t [] h = cc
is_first t (e ∷ es) h = refl

-- where nobody waits nobody does after one left
nobody : (t : Task) (es : List Waiter) → is_some (first (map task_of es)) ≡ false → is_some (first (map task_of (left_by t es))) ≡ false
nobody t [] h = refl
nobody t (e ∷ es) h = cc

clash : {X : Type 0} (b : Bool) → b ≡ true → b ≡ false → X
clash b h g = absurd (let bad : true ≡ false = sym h ∙ g in cc)

not_first : {X : Type 0} (t : Task) (es : List Waiter) → has_waiter t es ≡ true → first (map task_of es) ≡ None → X
not_first t es h e = clash (is_some (first (map task_of es))) (is_first t es h) (ap (λ (o : Option Task). is_some o) e)

pub served_senders : (q : DataQueue) (es : List Waiter) → can_send q ≡ false → IsServed q → IsServed (record q { senders = es })
served_senders q es e h = record {
  send = λ t g. e;
  receive = λ t g. clash (is_some (receiver q)) (is_first t q.receivers g) (or_parts (is_some (receiver q)) (nat_lt (length q.values) q.setup.capacity) e).0;
}

pub served_receivers : (q : DataQueue) (es : List Waiter) → can_receive q ≡ false → IsServed q → IsServed (record q { receivers = es })
served_receivers q es e h = record {
  send = λ t g. clash (is_some (sender q)) (is_first t q.senders g) (or_parts (is_some (first q.values)) (is_some (sender q)) e).1;
  receive = λ t g. e;
}

pub served_sender_left : (q : DataQueue) (t : Task) → IsServed q → IsServed (record q { senders = left_by t q.senders })
served_sender_left q t h = record {
  send = λ u g. h.send u (waited_before u t q.senders g).1;
  receive = λ u g.
      let p = or_parts (is_some (first q.values)) (is_some (sender q)) (h.receive u g) in
      rw (p.0, nobody t q.senders p.1) refl;
}

pub served_receiver_left : (q : DataQueue) (t : Task) → IsServed q → IsServed (record q { receivers = left_by t q.receivers })
served_receiver_left q t h = record {
  send = λ u g.
      let p = or_parts (is_some (receiver q)) (nat_lt (length q.values) q.setup.capacity) (h.send u g) in
      rw (nobody t q.receivers p.0, p.1) refl;
  receive = λ u g. h.receive u (waited_before u t q.receivers g).1;
}

-- a value goes last where no task waits to receive and a place is free
pub served_kept : (q : DataQueue) (v : ℤ) → receiver q ≡ None → length q.values < q.setup.capacity → IsServed q → IsServed (record q { values = q.values ++ v ∷ [] })
served_kept q v e l h = record {
  send = λ t g.
      clash (nat_lt (length q.values) q.setup.capacity) (lt-ltb (length q.values) q.setup.capacity l)
      (or_parts (is_some (receiver q)) (nat_lt (length q.values) q.setup.capacity) (h.send t g)).1;
  receive = λ t g. not_first t q.receivers g e;
}

-- as many values as there were fill the data queue as they did
exchanged : (vs : List ℤ) (v : ℤ) → length (rest (vs ++ v ∷ [])) ≡ length vs
exchanged [] v = refl
exchanged (w ∷ vs) v = length-append vs (v ∷ []) ∙ omega arith

served_lost : (q : DataQueue) (v : ℤ) → receiver q ≡ None → q.setup.capacity ≤ length q.values → 0 < q.setup.capacity → IsServed q → IsServed (record q { values = rest q.values ++ v ∷ [] })
served_lost q v e l p h = record {
  send = λ t g. rw e (le-ltb (length (rest q.values ++ v ∷ [])) q.setup.capacity (filled q.values l));
  receive = λ t g. not_first t q.receivers g e;
}
  where
    filled : (vs : List ℤ) → q.setup.capacity ≤ length vs → q.setup.capacity ≤ length (rest vs ++ v ∷ [])
    filled [] m = absurd (omega (arith, m, p))
    filled (w ∷ vs) m = let same = length-append vs (v ∷ []) in omega (arith, m, same)

-- the oldest value goes, where there is one and no task waits to send
pub served_taken : (q : DataQueue) (v : ℤ) → sender q ≡ None → first q.values ≡ Some v → IsServed q → IsServed (record q { values = rest q.values })
served_taken q v e f h = record {
  send = λ t g. not_first t q.senders g e;
  receive = λ t g.
      clash (is_some (first q.values)) (ap (λ (o : Option ℤ). is_some o) f) (or_parts (is_some (first q.values)) (is_some (sender q)) (h.receive t g)).0;
}

-- the first sender is released, and its value goes last
served_exchanged : (q : DataQueue) (t : Task) (v : ℤ) → sender q ≡ Some t → IsServed q → IsServed (record q { values = rest (q.values ++ v ∷ []); senders = left_by t q.senders })
served_exchanged q t v e h = record {
  send = λ u g.
      let p = or_parts (is_some (receiver q)) (nat_lt (length q.values) q.setup.capacity) (h.send u (waited_before u t q.senders g).1) in
      rw (p.0, exchanged q.values v) p.1;
  receive = λ u g.
      clash (is_some (sender q)) (ap (λ (o : Option Task). is_some o) e) (or_parts (is_some (first q.values)) (is_some (sender q)) (h.receive u g)).1;
}

-- the same of what the steps make of a data queue one after the other
pub lost_is : (q r s : DataQueue) (v : ℤ) → r ≡ record q { values = rest q.values } → s ≡ record r { values = r.values ++ v ∷ [] } →
    receiver q ≡ None → q.setup.capacity ≤ length q.values → 0 < q.setup.capacity → IsServed q → IsServed s
lost_is q r s v d a e l p h = subst IsServed (sym (a ∙ ap (λ (x : DataQueue). record x { values = x.values ++ v ∷ [] }) d)) (served_lost q v e l p h)

pub exchanged_is : (q r s : DataQueue) (t : Task) (v : ℤ) → r ≡ record q { senders = left_by t q.senders } → s ≡ record r { values = rest (r.values ++ v ∷ []) } →
    sender q ≡ Some t → IsServed q → IsServed s
exchanged_is q r s t v d a e h = subst IsServed (sym (a ∙ ap (λ (x : DataQueue). record x { values = rest (x.values ++ v ∷ []) }) d)) (served_exchanged q t v e h)
