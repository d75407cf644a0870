-- What went in and came out, computed for runs with a data queue, a pool and a semaphore.
use Rattle.std.proofs.Common.{◌≡◌, ℕ, pos, Bool, true, false, List, [], ◌∷◌, flat_map, refl, sym, subst, arith, lit≤}
use Rattle.std.specs.Prelude.{All, ◌≤◌, sum_by, codes, Contains, if◌then◌else◌}
use Rattle.std.specs.Str.{bytes_eq}
use Rattle.std.proofs.lemmas.List.Elements.{All-nil, All-cons}
use Rattle.std.proofs.lemmas.Slice.Eq.{bytes_eq-Decides}
use Rattle.fmp_codes.specs.Numbers.{as_object}
use Rattle.fmp_codes.specs.declared.calls.Call.TheVariants as call
use Rattle.fmp_codes.specs.declared.calls.SyncCall.{SyncCall}
use Rattle.fmp_codes.specs.declared.calls.SyncCall.TheVariants as sync
use Rattle.fmp_codes.specs.declared.calls.BufferCall.{BufferCall}
use Rattle.fmp_codes.specs.declared.calls.BufferCall.TheVariants as buffer
use Rattle.fmp_codes.specs.declared.records.Event.{Event}
use Rattle.fmp_codes.specs.declared.records.Record.{Record}
use Rattle.fmp_setup.specs.declared.setup.Order.TheVariants as order
use Rattle.fmp_names.specs.Names.{times, is_name, is_object, is_defined, is_reserved, is_processor_word, is_constant}
use Rattle.fmp_bytes.specs.Bytes.{is_of, following}
use Rattle.fmp_setup.specs.declared.setup.DataQueueSetup.{DataQueueSetup}
use Rattle.fmp_setup.specs.declared.setup.TaskSetup.{TaskSetup}
use Rattle.fmp_setup.specs.Setup.{Setup, of_tasks}
use Rattle.fmp_setup.specs.Valid.{IsSemaphore, IsPool, AreInRange, AreFew, IsValid}
use Rattle.fmp_rules.specs.Objects.{semaphore, values}
use Rattle.fmp_rules.specs.Arrivals.{numbered}
use Rattle.fmp_rules.specs.SyncCalls.{sig_sem, twai_sem}
use Rattle.fmp_rules.specs.BufferCalls.{tsnd_dtq, fsnd_dtq, trcv_dtq, tget_mpf, pget_mpf, rel_mpf}
use Rattle.fmp_rules.specs.Step.{replay, answers, before_event, settled, unchanged}
use Rattle.fmp_rules.specs.Boot.{booted}
use Rattle.fmp_rules.proofs.Scenario.{a_task, both, call_on}
use Rattle.fmp_law_balance.specs.Semaphores.{brought, granted}
use Rattle.fmp_law_balance.specs.Pools.{handed_out, given_back}
use Rattle.fmp_law_balance.specs.Queues.{puts, out_by}

-- a task on each of two processors, a semaphore, a data queue and a pool, with names
abbrev objects : Setup
objects =
    record (of_tasks 2 (a_task (both 1) 10 true ∷ a_task (both 2) 10 true ∷ [])) {
      classes = both 1 ∷ both 2 ∷ [];
      class_names = codes "C1" ∷ codes "C2" ∷ [];
      semaphores = record { order = order.First; initial = 1; most = 2 } ∷ [];
      data_queues = record { order = order.First; capacity = 1 } ∷ [];
      pools = record { order = order.First; blocks = 2 } ∷ [];
      names = record {
        processors = 2;
        objects = (codes "T1" ∷ codes "T2" ∷ []) ∷ (codes "S1" ∷ []) ∷ [] ∷ (codes "D1" ∷ []) ∷ (codes "M1" ∷ []) ∷ [] ∷ [] ∷ [] ∷ [];
        functions = codes "main" ∷ [];
        defined = [];
      };
    }

few : AreFew objects
few = record {
  semaphores = lit≤ tt;
  eventflags = lit≤ tt;
  data_queues = lit≤ tt;
  pools = lit≤ tt;
  cyclics = lit≤ tt;
  alarms = lit≤ tt;
  spin_locks = lit≤ tt;
}

in_range : AreInRange objects
in_range = record {
  semaphores = All-cons IsSemaphore _ [] (record { least = lit≤ tt; most = lit≤ tt; initial = lit≤ tt }) (All-nil IsSemaphore);
  eventflags = All-nil _;
  data_queues = All-cons (λ (d : DataQueueSetup). d.capacity ≤ 1024) _ [] (lit≤ tt) (All-nil _);
  pools = All-cons IsPool _ [] (record { least = lit≤ tt; most = lit≤ tt }) (All-nil IsPool);
  cyclics = All-nil _;
}

-- of two different names none is two of them
distinct : (name : List ℕ) → times name (codes "C1" ∷ codes "C2" ∷ []) ≤ 1
distinct name = go (bytes_eq name (codes "C1")) refl
  where
    at_most : (b : Bool) → if◌then◌else◌ {A = ℕ} b 1 0 ≤ 1
    at_most true = lit≤ tt
    at_most false = lit≤ tt

    go : (b : Bool) → bytes_eq name (codes "C1") ≡ b → times name (codes "C1" ∷ codes "C2" ∷ []) ≤ 1
    go true e = subst (λ n. times n (codes "C1" ∷ codes "C2" ∷ []) ≤ 1) (sym ((bytes_eq-Decides name (codes "C1")).0 e)) (lit≤ tt)
    go false e = rw e (omega (arith, at_most (bytes_eq name (codes "C2"))))

abbrev HasClass : TaskSetup → Type 0
HasClass t = Contains objects.classes t.class

in_classes : All HasClass objects.tasks
in_classes =
    let first : TaskSetup = a_task (both 1) 10 true in
    let second : TaskSetup = a_task (both 2) 10 true in
    All-cons HasClass first (second ∷ []) (0, lit≤ tt, refl) (All-cons HasClass second [] (1, lit≤ tt, refl) (All-nil HasClass))

abbrev IsInLimits : TaskSetup → Type 0
IsInLimits t = t.priority.number ≤ 16

in_limits : All IsInLimits objects.tasks
in_limits =
    let first : TaskSetup = a_task (both 1) 10 true in
    let second : TaskSetup = a_task (both 2) 10 true in
    All-cons IsInLimits first (second ∷ []) (lit≤ tt) (All-cons IsInLimits second [] (lit≤ tt) (All-nil IsInLimits))

-- the configuration is valid, so the law speaks of its runs
valid : IsValid objects
unfolding is_name is_object is_defined is_reserved is_processor_word is_constant is_of following
valid = record {
  has_processors = lit≤ tt;
  few_processors = lit≤ tt;
  few_classes = lit≤ tt;
  few_tasks = lit≤ tt;
  few = few;
  in_range = in_range;
  sound_classes = refl;
  classes = refl;
  cyclics = refl;
  alarms = refl;
  task_classes = in_classes;
  cyclic_classes = All-nil _;
  alarm_classes = All-nil _;
  named_classes = refl;
  class_names = refl;
  distinct_classes = distinct;
  apart = refl;
  undefined = refl;
  same_processors = refl;
  named_objects = refl;
  functions = refl;
  cyclic_functions = refl;
  alarm_functions = refl;
  few_functions = lit≤ tt;
  timer = tt;
  cyclics_served = All-nil _;
  alarms_served = All-nil _;
  limits = record { least_wakeups = lit≤ tt; most_wakeups = lit≤ tt; least_priorities = lit≤ tt; most_priorities = lit≤ tt };
  priorities = in_limits;
}

abbrev report : List Event → List Record
report events = answers numbered (booted objects) events

abbrev buffered : ℕ → BufferCall → Event
buffered p c = call_on p (call.Buffer c)

abbrev signalled : ℕ → SyncCall → Event
signalled p c = call_on p (call.Sync c)

-- a forced send passes over a waiting sender, whose value goes in at the receive and is left
abbrev sending : List Event
sending =
    buffered 1 (buffer.SndDtq (pos 1) (pos 1))
    ∷ buffered 2 (buffer.SndDtq (pos 1) (pos 2))
    ∷ buffered 1 (buffer.FsndDtq (pos 1) (pos 3))
    ∷ buffered 1 (buffer.RcvDtq (pos 1))
    ∷ []

values_in : puts (as_object 1) [] (report sending) ≡ pos 1 ∷ pos 3 ∷ pos 2 ∷ []
unfolding numbered before_event settled unchanged tsnd_dtq fsnd_dtq trcv_dtq
values_in = refl

values_out : flat_map (out_by (as_object 1)) (report sending) ≡ pos 1 ∷ pos 3 ∷ []
unfolding numbered before_event settled unchanged tsnd_dtq fsnd_dtq trcv_dtq
values_out = refl

values_left : values (replay numbered (booted objects) sending) (as_object 1) ≡ pos 2 ∷ []
unfolding numbered before_event settled unchanged tsnd_dtq fsnd_dtq trcv_dtq
values_left = refl

-- both blocks are handed out, a task waits for one, and the second is given to it
abbrev getting : List Event
getting =
    buffered 1 (buffer.GetMpf (pos 1))
    ∷ buffered 1 (buffer.PgetMpf (pos 1))
    ∷ buffered 2 (buffer.GetMpf (pos 1))
    ∷ buffered 1 (buffer.RelMpf (pos 1) (pos 1))
    ∷ buffered 1 (buffer.RelMpf (pos 1) (pos 0))
    ∷ []

block_0 : sum_by (handed_out (as_object 1) 0) (report getting) ∷ sum_by (given_back (as_object 1) 0) (report getting) ∷ [] ≡ 1 ∷ 1 ∷ []
unfolding numbered before_event settled unchanged tget_mpf pget_mpf rel_mpf
block_0 = refl

block_1 : sum_by (handed_out (as_object 1) 1) (report getting) ∷ sum_by (given_back (as_object 1) 1) (report getting) ∷ [] ≡ 2 ∷ 1 ∷ []
unfolding numbered before_event settled unchanged tget_mpf pget_mpf rel_mpf
block_1 = refl

-- one unit is taken, a second waited for and granted by a signal; a further signal counts
abbrev signalling : List Event
signalling =
    signalled 1 (sync.WaiSem (pos 1))
    ∷ signalled 2 (sync.WaiSem (pos 1))
    ∷ signalled 1 (sync.SigSem (pos 1))
    ∷ signalled 1 (sync.SigSem (pos 1))
    ∷ []

units : sum_by (brought (as_object 1)) (report signalling) ∷ sum_by (granted (as_object 1)) (report signalling) ∷ (semaphore (replay numbered (booted objects) signalling) (as_object 1)).count ∷ []
    ≡ 2 ∷ 2 ∷ 1 ∷ []
unfolding numbered before_event settled unchanged sig_sem twai_sem
units = refl
