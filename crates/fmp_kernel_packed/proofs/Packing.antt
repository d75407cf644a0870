-- The numbers of the parts of kernels: each kernel has one pair of them, which among those of one shape is that of no other.
use Rattle.std.proofs.Common.{◌≡◌, ◌∙◌, ℕ, List, ◌++◌, length, sym, ap, subst, arith}
use Rattle.std.proofs.lemmas.Option.{same_Some}
use Rattle.std.proofs.lemmas.Grind.{common_steps}
use Rattle.fmp_interned.specs.Trees.{IsTree}
use Rattle.fmp_interned.proofs.Trees.{one_tree, tree_list, tree_stays}
use Rattle.fmp_interned.proofs.Numbers.{number_stays}
use Rattle.std.specs.Prelude.{Option}
use Rattle.fmp_codes.specs.declared.numbers.Proc.{Proc}
use Rattle.fmp_codes.specs.declared.numbers.Task.{Task}
use Rattle.fmp_dispatch.specs.Dispatching.{Dispatching}
use Rattle.fmp_setup.specs.declared.setup.Limits.{Limits}
use Rattle.fmp_kernel_assigned.specs.Assignments.{Assignments, assignments_of}
use Rattle.fmp_kernel_assigned.specs.Telling.{times_in, IsTold}
use Rattle.fmp_kernel_machine.specs.Parts.{assignments_in, dispatching_in}
use Rattle.fmp_kernel_objects.specs.Objects.{AllObjects, objects_of}
use Rattle.fmp_kernel_order.specs.Queues.{Queues}
use Rattle.fmp_kernel_packed.specs.Kept.{KeptParts, ArePartsBefore, ArePartsOnce}
use Rattle.fmp_kernel_packed.specs.Packed.{AreHandled, AreObjects, IsPacked, IsRest}
use Rattle.fmp_kernel_packed.specs.Shaped.{AreShaped}
use Rattle.fmp_kernel_packed.proofs.HandledLaws.{handled_long, handled_one, handled_only, handled_stays}
use Rattle.fmp_kernel_packed.proofs.Joined.{same_parts}
use Rattle.fmp_kernel_packed.proofs.ObjectsLaws.{objects_long, objects_one, objects_only, objects_stays}
use Rattle.fmp_kernel_packed.proofs.RestLaws.{rest_one, rest_only, rest_stays}
use Rattle.fmp_rules.specs.World.{World}
use Rattle.fmp_time.specs.Times.{no_times}
use Rattle.fmp_time.specs.Words.{made_from, words_of}

pub packed_one : (kept : KeptParts) (w : World Queues) (m n c d : ℕ) → ArePartsOnce kept → IsPacked kept w m c → IsPacked kept w n d → (n ≡ m) × (d ≡ c)
packed_one kept w m n c d once one two =
    let handled : two.handled ≡ one.handled = handled_one kept.handled (assignments_in w) two.handled one.handled once.handled two.of_handled one.of_handled in
    let objects : two.objects ≡ one.objects = objects_one kept.objects (objects_of w) two.objects one.objects once.objects two.of_objects one.of_objects in
    let rest : two.rest ≡ one.rest = rest_one kept.rest w two.rest one.rest once.rest two.of_rest one.of_rest in
    let all : two.handled ++ (two.objects ++ two.rest) ≡ one.handled ++ (one.objects ++ one.rest) = cc in (
      one_tree kept.pairs (one.handled ++ (one.objects ++ one.rest)) n m once.pairs (subst (λ (ns : List ℕ). IsTree kept.pairs ns n) all two.tree) one.tree,
      once.counting d c (words_of (times_in (assignments_in w))) two.of_counting one.of_counting,
    )

pub packed_stays : (kept more : KeptParts) (w : World Queues) (m c : ℕ) → ArePartsBefore kept more → IsPacked kept w m c → IsPacked more w m c
packed_stays kept more w m c before is = record {
  handled = is.handled;
  objects = is.objects;
  rest = is.rest;
  tree = tree_stays kept.pairs more.pairs (is.handled ++ (is.objects ++ is.rest)) m before.pairs is.tree;
  of_handled = handled_stays kept.handled more.handled (assignments_in w) is.handled before.handled is.of_handled;
  of_objects = objects_stays kept.objects more.objects (objects_of w) is.objects before.objects is.of_objects;
  of_rest = rest_stays kept.rest more.rest w is.rest before.rest is.of_rest;
  of_counting = number_stays kept.counting more.counting c (words_of (times_in (assignments_in w))) before.counting is.of_counting;
  told = is.told;
}

-- what is told by the same numbers, and assigned to the same processors, is the same
same_assignments : (a b : Assignments) → IsTold a → IsTold b → a.timer ≡ b.timer → a.tasks ≡ b.tasks → a.cyclics ≡ b.cyclics → a.alarms ≡ b.alarms →
    words_of (times_in a) ≡ words_of (times_in b) → a ≡ b
same_assignments a b told_a told_b timer tasks cyclics alarms words =
    let times : times_in a ≡ times_in b = sym told_a.back ∙ ap (made_from no_times) words ∙ told_b.back in
    let all : assignments_of a.timer a.tasks a.cyclics a.alarms (times_in a) ≡ assignments_of b.timer b.tasks b.cyclics b.alarms (times_in b) =
    ap (λ t. assignments_of t a.tasks a.cyclics a.alarms (times_in a)) timer ∙ ap (λ t. assignments_of b.timer t a.cyclics a.alarms (times_in a)) tasks
    ∙ ap (λ t. assignments_of b.timer b.tasks t a.alarms (times_in a)) cyclics ∙ ap (λ t. assignments_of b.timer b.tasks b.cyclics t (times_in a)) alarms
    ∙ ap (λ t. assignments_of b.timer b.tasks b.cyclics b.alarms t) times in
    sym told_a.all ∙ all ∙ told_b.all

-- three numbers are told of the rest
pub rest_long : (kept : KeptParts) (w : World Queues) (ns : List ℕ) → IsRest kept.rest w ns → length ns ≡ 3
rest_long kept w ns is = ap (λ (xs : List ℕ). length xs) is.are ∙ grind (arith, common_steps)

-- a state by its parts
abbrev pub world_of : Limits → Assignments → AllObjects → List (Option Proc) → Dispatching → List (List Task) → World Queues
world_of limits a o holders d ready = record {
  timer = a.timer;
  limits = limits;
  tasks = a.tasks;
  waits_left = a.waits_left;
  processors = d.processors;
  due = d.due;
  semaphores = o.semaphores;
  eventflags = o.eventflags;
  data_queues = o.data_queues;
  contents = o.contents;
  pools = o.pools;
  cyclics = a.cyclics;
  cyclics_left = a.cyclics_left;
  alarms = a.alarms;
  alarms_left = a.alarms_left;
  holders = holders;
  order = record { ready = ready; waits = o.waits; timed = a.timed };
}

-- states whose parts are the same are the same
same_worlds : (v w : World Queues) → v.limits ≡ w.limits → assignments_in v ≡ assignments_in w → objects_of v ≡ objects_of w → v.holders ≡ w.holders →
    dispatching_in v ≡ dispatching_in w → v.order.ready ≡ w.order.ready → v ≡ w
same_worlds v w limits assignments objects holders dispatch ready =
    ap (λ l. world_of l (assignments_in v) (objects_of v) v.holders (dispatching_in v) v.order.ready) limits
    ∙ ap (λ a. world_of w.limits a (objects_of v) v.holders (dispatching_in v) v.order.ready) assignments
    ∙ ap (λ o. world_of w.limits (assignments_in w) o v.holders (dispatching_in v) v.order.ready) objects
    ∙ ap (λ hs. world_of w.limits (assignments_in w) (objects_of w) hs (dispatching_in v) v.order.ready) holders
    ∙ ap (λ d. world_of w.limits (assignments_in w) (objects_of w) w.holders d v.order.ready) dispatch
    ∙ ap (λ ts. world_of w.limits (assignments_in w) (objects_of w) w.holders (dispatching_in w) ts) ready

module _ (kept : KeptParts) (v w : World Queues) (m c : ℕ) (shaped : AreShaped v w) (one : IsPacked kept v m c) (two : IsPacked kept w m c) where
  same_lengths : (length one.handled ≡ length two.handled) × (length one.objects ≡ length two.objects) × (length one.rest ≡ length two.rest)
  same_lengths =
      let h = handled_long kept.handled (assignments_in v) one.handled one.of_handled in
      let i = handled_long kept.handled (assignments_in w) two.handled two.of_handled in
      let o = objects_long kept.objects (objects_of v) one.objects one.of_objects in
      let p = objects_long kept.objects (objects_of w) two.objects two.of_objects in
      let queues : length v.data_queues ≡ length w.data_queues = ap (λ qs. length qs) shaped.alike.objects.data_queues in
      let alarms = shaped.alarms in
      let cyclics = shaped.cyclics in
      let tasks = shaped.tasks in
      let pools = shaped.alike.objects.pools in
      let eventflags = shaped.alike.objects.eventflags in
      let semaphores = shaped.alike.objects.semaphores in
      (omega arith, omega arith, rest_long kept v one.rest one.of_rest ∙ sym (rest_long kept w two.rest two.of_rest))

  same_numbers : (one.handled ≡ two.handled) × (one.objects ≡ two.objects) × (one.rest ≡ two.rest)
  same_numbers =
      let long = same_lengths in
      let handled = long.0 in
      let objects = long.1 in
      let rest = long.2 in
      let all : length (one.handled ++ (one.objects ++ one.rest)) ≡ length (two.handled ++ (two.objects ++ two.rest)) = grind (arith, common_steps, handled, objects, rest) in
      let lists = tree_list kept.pairs (one.handled ++ (one.objects ++ one.rest)) (two.handled ++ (two.objects ++ two.rest)) m all one.tree two.tree in
      let first = same_parts one.handled two.handled (one.objects ++ one.rest) (two.objects ++ two.rest) handled lists in
      let then = same_parts one.objects two.objects one.rest two.rest objects first.1 in
      (first.0, then.0, then.1)

  same_words : words_of (times_in (assignments_in v)) ≡ words_of (times_in (assignments_in w))
  same_words = same_Some (words_of (times_in (assignments_in v))) (words_of (times_in (assignments_in w))) (sym one.of_counting ∙ two.of_counting)

  pub packed_same : v ≡ w
  packed_same =
      let numbers = same_numbers in
      let like = shaped.alike.objects in
      let handled = handled_only kept.handled (assignments_in v) (assignments_in w) two.handled shaped.alarms shaped.cyclics
      (subst (λ (ns : List ℕ). AreHandled kept.handled (assignments_in v) ns) numbers.0 one.of_handled) two.of_handled in
      let objects = objects_only kept.objects (objects_of v) (objects_of w) two.objects like.pools like.eventflags like.semaphores
      (subst (λ (ns : List ℕ). AreObjects kept.objects (objects_of v) ns) numbers.1 one.of_objects) two.of_objects in
      let rest = rest_only kept.rest v w two.rest (subst (λ (ns : List ℕ). IsRest kept.rest v ns) numbers.2 one.of_rest) two.of_rest in
      let assignments = same_assignments (assignments_in v) (assignments_in w) one.told two.told shaped.timer handled.2 handled.1 handled.0 same_words in
      let dispatch : dispatching_in v ≡ dispatching_in w = cc (rest.1, rest.2) in
      same_worlds v w shaped.limits assignments objects rest.0 dispatch rest.3

pub packed_only : (kept : KeptParts) (v w : World Queues) (m c : ℕ) → AreShaped v w → IsPacked kept v m c → IsPacked kept w m c → v ≡ w
packed_only kept v w m c shaped one two = packed_same kept v w m c shaped one two
