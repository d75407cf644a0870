-- When a configuration is valid.
use Rattle.std.specs.Prelude.{◌≡◌, ℕ, ◌≤◌, ◌<◌, ◌^◌, ◌+◌, Bool, true, not, ◌&&◌, List, [], ◌∷◌, length, map, drop, nat_le, IsTrue, All, Contains}
use Rattle.std.specs.List.{list_all, list_any}
use Rattle.fmp_names.specs.Names.{is_name, is_object, is_defined, is_reserved, times}
use Rattle.fmp_setup.specs.declared.setup.Class.{Class}
use Rattle.fmp_setup.specs.declared.setup.Timer.{Timer}
use Rattle.fmp_setup.specs.declared.setup.Timer.TheVariants as timer
use Rattle.fmp_setup.specs.declared.setup.Limits.{Limits}
use Rattle.fmp_setup.specs.declared.setup.SemaphoreSetup.{SemaphoreSetup}
use Rattle.fmp_setup.specs.declared.setup.PoolSetup.{PoolSetup}
use Rattle.fmp_setup.specs.declared.setup.CyclicSetup.{CyclicSetup}
use Rattle.fmp_setup.specs.Setup.{Setup, has_member, MayHandle}

-- on a machine of n processors: the initial processor is one of the class, and the class has none past the last
abbrev pub is_class_of : ℕ → Class → Bool
is_class_of n c = has_member c c.initial && not (list_any (λ m. m) (drop n c.members))

-- a number of one of so many functions, from 1
abbrev pub is_function_of : ℕ → ℕ → Bool
is_function_of count n = nat_le 1 n && nat_le n count

-- a greatest count from 1 to 65535, and no more than that at boot
pub record IsSemaphore (s : SemaphoreSetup) : Type 0 where
  pub least : 1 ≤ s.most
  pub most : s.most ≤ 65535
  pub initial : s.initial ≤ s.most

-- from 1 to 64 blocks
pub record IsPool (m : PoolSetup) : Type 0 where
  pub least : 1 ≤ m.blocks
  pub most : m.blocks ≤ 64

-- a period from 1 tick on, and a phase
pub record AreTimes (period offset : ℕ) : Type 0 where
  pub least : 1 ≤ period
  pub most : period ≤ 2147483647
  pub phase : offset ≤ 2147483647

abbrev pub IsCyclic : CyclicSetup → Type 0
IsCyclic h = AreTimes h.period h.phase

-- the values of the objects are in their ranges
pub record AreInRange (c : Setup) : Type 0 where
  pub semaphores : All IsSemaphore c.semaphores
  pub eventflags : All (λ f. f.initial < 2 ^ 32) c.eventflags
  pub data_queues : All (λ d. d.capacity ≤ 1024) c.data_queues
  pub pools : All IsPool c.pools
  pub cyclics : All IsCyclic c.cyclics

-- the master of a global timer is one of so many processors
abbrev pub IsTimerOf : ℕ → Timer → Type 0
IsTimerOf n timer.Local = Unit {0}
IsTimerOf n (timer.Global master) = master.number ≤ n

-- wakeups from 1 to 255, priorities from 16 to 32
pub record AreLimits (limits : Limits) : Type 0 where
  pub least_wakeups : 1 ≤ limits.wakeups
  pub most_wakeups : limits.wakeups ≤ 255
  pub least_priorities : 16 ≤ limits.priorities
  pub most_priorities : limits.priorities ≤ 32

-- at most 32 objects of each kind but tasks
pub record AreFew (c : Setup) : Type 0 where
  pub semaphores : length c.semaphores ≤ 32
  pub eventflags : length c.eventflags ≤ 32
  pub data_queues : length c.data_queues ≤ 32
  pub pools : length c.pools ≤ 32
  pub cyclics : length c.cyclics ≤ 32
  pub alarms : length c.alarms ≤ 32
  pub spin_locks : c.spin_locks ≤ 32

-- how many objects of each kind there are
abbrev pub objects_of_kinds : Setup → List ℕ
objects_of_kinds c = length c.tasks ∷ length c.semaphores ∷ length c.eventflags ∷ length c.data_queues ∷ length c.pools ∷ length c.cyclics ∷ length c.alarms
    ∷ c.spin_locks ∷ []

pub record IsValid (c : Setup) : Type 0 where
  pub has_processors : 1 ≤ c.processors
  pub few_processors : c.processors ≤ 8
  pub few_classes : length c.classes ≤ 32
  pub few_tasks : length c.tasks ≤ 64
  pub few : AreFew c
  pub in_range : AreInRange c
  -- each class is one of this machine, and that of each task and handler is one of the classes
  pub sound_classes : IsTrue (list_all (is_class_of c.processors) c.classes)
  pub classes : IsTrue (list_all (λ t. is_class_of c.processors t.class) c.tasks)
  pub cyclics : IsTrue (list_all (λ h. is_class_of c.processors h.class) c.cyclics)
  pub alarms : IsTrue (list_all (λ h. is_class_of c.processors h.class) c.alarms)
  pub task_classes : All (λ t. Contains c.classes t.class) c.tasks
  pub cyclic_classes : All (λ h. Contains c.classes h.class) c.cyclics
  pub alarm_classes : All (λ h. Contains c.classes h.class) c.alarms
  -- each class has a name of its own, which no object has and which is not defined to stand for a number
  pub named_classes : length c.class_names ≡ length c.classes
  pub class_names : list_all (λ name. is_name name && not (is_reserved name)) c.class_names ≡ true
  pub distinct_classes : (name : List ℕ) → times name c.class_names ≤ 1
  pub apart : list_all (λ name. not (is_object c.names name)) c.class_names ≡ true
  pub undefined : list_all (λ name. not (is_defined c.names name)) c.class_names ≡ true
  -- the names are those of this machine: as many of each kind as there are objects, and the function of each task and handler
  pub same_processors : c.names.processors ≡ c.processors
  pub named_objects : map length c.names.objects ≡ objects_of_kinds c
  pub functions : list_all (λ t. is_function_of (length c.names.functions) t.main) c.tasks ≡ true
  pub cyclic_functions : list_all (λ h. is_function_of (length c.names.functions) h.handler) c.cyclics ≡ true
  pub alarm_functions : list_all (λ h. is_function_of (length c.names.functions) h.handler) c.alarms ≡ true
  pub few_functions : length c.names.functions ≤ length c.tasks + length c.cyclics + length c.alarms
  -- the master of a global timer is one of the processors, and all handlers are its own
  pub timer : IsTimerOf c.processors c.timer
  pub cyclics_served : All (λ h. MayHandle c.timer h.class) c.cyclics
  pub alarms_served : All (λ h. MayHandle c.timer h.class) c.alarms
  -- no task has a priority beyond the limits
  pub limits : AreLimits c.limits
  pub priorities : All (λ t. t.priority.number ≤ c.limits.priorities) c.tasks
