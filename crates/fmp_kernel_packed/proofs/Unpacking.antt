-- A state becomes another one of its shape by the numbers of that one, part by part.
use Rattle.std.proofs.Common.{◌≡◌, ◌∙◌, ℕ, ◌+◌, ◌-◌, ◌<◌, ◌≤◌, List, ◌++◌, append_assoc, arith, drop, length, sym, ap, subst, take}
use Rattle.std.specs.Prelude.{Some, slice_get}
use Rattle.std.proofs.Math.Seq.{drop-append_seam, take-append_seam}
use Rattle.std.proofs.lemmas.Grind.{common_steps}
use Rattle.std.proofs.lemmas.List.{length-take, take_rest}
use Rattle.std.proofs.lemmas.Option.{same_Some, slice_get_within}
use Rattle.fmp_interned.specs.Trees.{HasTree, IsTree}
use Rattle.fmp_kernel_assigned.specs.Assignments.{assignments_of}
use Rattle.fmp_kernel_assigned.specs.Counting.{AreInStep}
use Rattle.fmp_kernel_assigned.specs.Telling.{times_in}
use Rattle.fmp_kernel_machine.specs.Parts.{assignments_in, dispatching_in, with_times}
use Rattle.fmp_kernel_objects.specs.Objects.{AreAlike, objects_of}
use Rattle.fmp_kernel_order.specs.Queues.{Queues}
use Rattle.fmp_kernel_packed.specs.Kept.{KeptParts}
use Rattle.fmp_kernel_packed.specs.Packed.{AreHandled, AreObjects, IsPacked, IsRest}
use Rattle.fmp_kernel_packed.specs.Shaped.{AreShaped}
use Rattle.fmp_kernel_packed.proofs.HandledLaws.{handled_long}
use Rattle.fmp_kernel_packed.proofs.ObjectsLaws.{objects_long}
use Rattle.fmp_kernel_packed.proofs.Packing.{rest_long, world_of}
use Rattle.fmp_rules.specs.World.{World}
use Rattle.fmp_time.specs.Times.{Times, no_times}
use Rattle.fmp_time.specs.Words.{made_from, words_of}

-- a list of three parts, the first two of which are so long
begun : (ns xs ys zs : List ℕ) (h : ℕ) → ns ≡ xs ++ (ys ++ zs) → length xs ≡ h → take h ns ≡ xs
begun ns xs ys zs h are long =
    subst (λ n. take n ns ≡ xs) long (subst (λ (us : List ℕ). take (length xs) us ≡ xs) (sym are) (take-append_seam xs (ys ++ zs)))

then : (ns xs ys zs : List ℕ) (h o : ℕ) → ns ≡ xs ++ (ys ++ zs) → length xs ≡ h → length ys ≡ o → take (h + o - h) (drop h ns) ≡ ys
then ns xs ys zs h o are long as_long =
    let after : drop h ns ≡ ys ++ zs = subst (λ n. drop n ns ≡ ys ++ zs) long (subst (λ (us : List ℕ). drop (length xs) us ≡ ys ++ zs) (sym are) (drop-append_seam xs (ys ++ zs))) in
    let many : length ys ≡ h + o - h = omega (arith, as_long) in
    subst (λ n. take n (drop h ns) ≡ ys) many (subst (λ (us : List ℕ). take (length ys) us ≡ ys) (sym after) (take-append_seam ys zs))

last : (ns xs ys zs : List ℕ) (h o : ℕ) → ns ≡ xs ++ (ys ++ zs) → length xs ≡ h → length ys ≡ o → take (length ns - (h + o)) (drop (h + o) ns) ≡ zs
last ns xs ys zs h o are long as_long =
    let many : length (xs ++ ys) ≡ h + o = grind (arith, common_steps, long, as_long) in
    let joined : ns ≡ (xs ++ ys) ++ zs = are ∙ sym (append_assoc xs ys zs) in
    take_rest ns (h + o)
    ∙ subst (λ n. drop n ns ≡ zs) many (subst (λ (us : List ℕ). drop (length (xs ++ ys)) us ≡ zs) (sym joined) (drop-append_seam (xs ++ ys) zs))

-- the numbers of the parts of a state, one after the other
pub record Unpacks (kept : KeptParts) (w : World Queues) (h o : ℕ) (ns : List ℕ) : Type 0 where
  pub of_handled : AreHandled kept.handled (assignments_in w) (take h ns)
  pub of_objects : AreObjects kept.objects (objects_of w) (take (h + o - h) (drop h ns))
  pub of_rest : IsRest kept.rest w (take (length ns - (h + o)) (drop (h + o) ns))

module _ (kept : KeptParts) (v w : World Queues) (m n h o : ℕ) (is : IsPacked kept w m n) (shaped : AreShaped v w) (handled : h ≡ length v.alarms + length v.cyclics + length v.tasks)
    (objects : o ≡ length v.pools + length v.eventflags + length v.semaphores + length v.data_queues) where
  handled_many : length is.handled ≡ h
  handled_many =
      let long = handled_long kept.handled (assignments_in w) is.handled is.of_handled in
      let alarms = shaped.alarms in
      let cyclics = shaped.cyclics in
      let tasks = shaped.tasks in
      omega (arith, long, handled, alarms, cyclics, tasks)

  objects_many : length is.objects ≡ o
  objects_many =
      let long = objects_long kept.objects (objects_of w) is.objects is.of_objects in
      let pools = shaped.alike.objects.pools in
      let eventflags = shaped.alike.objects.eventflags in
      let semaphores = shaped.alike.objects.semaphores in
      let queues : length v.data_queues ≡ length w.data_queues = ap (λ qs. length qs) shaped.alike.objects.data_queues in
      omega (arith, long, objects, pools, eventflags, semaphores, queues)

  all_many : length (is.handled ++ (is.objects ++ is.rest)) ≡ h + o + 3
  all_many =
      let first = handled_many in
      let next = objects_many in
      let few = rest_long kept w is.rest is.of_rest in
      grind (arith, common_steps, first, next, few)

  rooted : HasTree kept.pairs (h + o + 3) m
  rooted = (is.handled ++ (is.objects ++ is.rest), all_many, is.tree)

  apart : (ns : List ℕ) → ((xs : List ℕ) → length xs ≡ h + o + 3 → IsTree kept.pairs xs m → ns ≡ xs) → Unpacks kept w h o ns
  apart ns put =
      let are : ns ≡ is.handled ++ (is.objects ++ is.rest) = put (is.handled ++ (is.objects ++ is.rest)) all_many is.tree in record {
        of_handled = subst (λ (xs : List ℕ). AreHandled kept.handled (assignments_in w) xs) (sym (begun ns is.handled is.objects is.rest h are handled_many)) is.of_handled;
        of_objects = subst (λ (xs : List ℕ). AreObjects kept.objects (objects_of w) xs) (sym (then ns is.handled is.objects is.rest h o are handled_many objects_many)) is.of_objects;
        of_rest = subst (λ (xs : List ℕ). IsRest kept.rest w xs) (sym (last ns is.handled is.objects is.rest h o are handled_many objects_many)) is.of_rest;
      }

-- a list of so many numbers has the key
pub has_tree : (inside kept : KeptParts) (v w : World Queues) (m n h o : ℕ) → inside ≡ kept → IsPacked kept w m n → AreShaped v w →
    h ≡ length v.alarms + length v.cyclics + length v.tasks → o ≡ length v.pools + length v.eventflags + length v.semaphores + length v.data_queues → HasTree inside.pairs (h + o + 3) m
has_tree inside kept v w m n h o same is shaped handled objects =
    rooted inside v w m n h o (subst (λ (k : KeptParts). IsPacked k w m n) (sym same) is) shaped handled objects

-- what the only list of so many numbers that has the key tells
pub unpacks : (inside kept : KeptParts) (v w : World Queues) (m n h o : ℕ) (ns : List ℕ) → inside ≡ kept → IsPacked kept w m n → AreShaped v w →
    h ≡ length v.alarms + length v.cyclics + length v.tasks → o ≡ length v.pools + length v.eventflags + length v.semaphores + length v.data_queues →
    ((xs : List ℕ) → length xs ≡ h + o + 3 → IsTree inside.pairs xs m → ns ≡ xs) → Unpacks inside w h o ns
unpacks inside kept v w m n h o ns same is shaped handled objects put =
    apart inside v w m n h o (subst (λ (k : KeptParts). IsPacked k w m n) (sym same) is) shaped handled objects ns put

-- so many numbers fit into the room
pub room_taken : (room : List ℕ) (h o : ℕ) → 259 ≤ length room → h ≤ 128 → o ≤ 128 → length (take (h + o + 3) room) ≡ h + o + 3
room_taken room h o fits few as_few = let long = length-take (h + o + 3) room in omega (arith, long, fits, few, as_few)

abbrev pub with_handled : World Queues → World Queues → World Queues
with_handled v w = record v { alarms = w.alarms; cyclics = w.cyclics; tasks = w.tasks }

abbrev pub with_objects : World Queues → World Queues → World Queues
with_objects v w = record v {
  semaphores = w.semaphores;
  eventflags = w.eventflags;
  data_queues = w.data_queues;
  contents = w.contents;
  pools = w.pools;
  order = record v.order { waits = w.order.waits };
}

abbrev pub with_rest : World Queues → World Queues → World Queues
with_rest v w = record v { processors = w.processors; due = w.due; holders = w.holders; order = record v.order { ready = w.order.ready } }

-- after its handlers and tasks the places for its objects are there
pub alike_still : (v w x : World Queues) → AreShaped v w → x ≡ with_handled v w → AreAlike (objects_of x) (objects_of w)
alike_still v w x shaped first = subst (λ (u : World Queues). AreAlike (objects_of u) (objects_of w)) (sym first) shaped.alike.objects

-- and after its objects as many processors
pub processors_still : (v w x y : World Queues) → AreShaped v w → x ≡ with_handled v w → y ≡ with_objects x w → length y.processors ≡ length w.processors
processors_still v w x y shaped first next =
    ap (λ (u : World Queues). length u.processors) next ∙ ap (λ (u : World Queues). length u.processors) first ∙ shaped.alike.processors

abbrev put_all : World Queues → World Queues → World Queues
put_all v w = with_rest (with_objects (with_handled v w) w) w

put_each : (v w x y z : World Queues) → x ≡ with_handled v w → y ≡ with_objects x w → z ≡ with_rest y w → z ≡ put_all v w
put_each v w x y z first next last =
    last ∙ ap (λ (u : World Queues). with_rest u w) (next ∙ ap (λ (u : World Queues). with_objects u w) first)

-- the numbers that are kept of what counts tell it again
times_back : (kept : KeptParts) (w : World Queues) (m n : ℕ) (words : List ℕ) → IsPacked kept w m n → slice_get kept.counting n ≡ Some words →
    times_in (assignments_in w) ≡ made_from no_times words
times_back kept w m n words is there =
    sym is.told.back ∙ ap (λ (ws : List ℕ). made_from no_times ws) (same_Some (words_of (times_in (assignments_in w))) words (sym is.of_counting ∙ there))

pub counted : (inside kept : KeptParts) (w : World Queues) (m n : ℕ) → inside ≡ kept → IsPacked kept w m n → n < length inside.counting
counted inside kept w m n same is =
    subst (λ (k : KeptParts). n < length k.counting) (sym same) (slice_get_within kept.counting n (words_of (times_in (assignments_in w))) is.of_counting)

-- what counts is on the processors to which the parts are assigned
pub in_step : (inside kept : KeptParts) (v w x y z : World Queues) (m n : ℕ) (words : List ℕ) → inside ≡ kept → IsPacked kept w m n → slice_get inside.counting n ≡ Some words →
    x ≡ with_handled v w → y ≡ with_objects x w → z ≡ with_rest y w → AreInStep z.tasks z.cyclics z.alarms (made_from no_times words).left
in_step inside kept v w x y z m n words same is there first next last =
    let packed = subst (λ (k : KeptParts). IsPacked k w m n) (sym same) is in
    subst (λ (u : World Queues). AreInStep u.tasks u.cyclics u.alarms (made_from no_times words).left) (sym (put_each v w x y z first next last))
    (subst (λ (t : Times). AreInStep w.tasks w.cyclics w.alarms t.left) (times_back inside w m n words packed there) is.told.step)

-- and with what counts it has become that state
pub whole : (inside kept : KeptParts) (v w x y z u : World Queues) (m n : ℕ) (words : List ℕ) → inside ≡ kept → IsPacked kept w m n → AreShaped v w →
    slice_get inside.counting n ≡ Some words → x ≡ with_handled v w → y ≡ with_objects x w → z ≡ with_rest y w → u ≡ with_times z (made_from no_times words) → u ≡ w
whole inside kept v w x y z u m n words same is shaped there first next last end =
    let packed = subst (λ (k : KeptParts). IsPacked k w m n) (sym same) is in
    end ∙ ap (λ (s : World Queues). with_times s (made_from no_times words)) (put_each v w x y z first next last)
    ∙ ap (λ (t : Times). with_times (put_all v w) t) (sym (times_back inside w m n words packed there))
    ∙ ap (λ l. world_of l (assignments_of v.timer w.tasks w.cyclics w.alarms (times_in (assignments_in w))) (objects_of w) w.holders (dispatching_in w) w.order.ready) shaped.limits
    ∙ ap (λ t. world_of w.limits (assignments_of t w.tasks w.cyclics w.alarms (times_in (assignments_in w))) (objects_of w) w.holders (dispatching_in w) w.order.ready) shaped.timer
    ∙ ap (λ a. world_of w.limits a (objects_of w) w.holders (dispatching_in w) w.order.ready) is.told.all
