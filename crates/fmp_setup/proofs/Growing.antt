-- A configuration stays valid as it grows.
use Rattle.std.proofs.Common.{◌≡◌, ℕ, ◌+◌, ◌≤◌, ◌<◌, Bool, true, false, not, ◌&&◌, List, [], ◌∷◌, ◌++◌, length, Option, Some, None, refl, sym, ap, subst, ◌∙◌, inl, inr, arith, length-append}
use Rattle.std.specs.Prelude.{All, Contains}
use Rattle.std.specs.List.{list_all}
use Rattle.std.specs.Str.{bytes_eq}
use Rattle.std.proofs.lemmas.Bool.{cases_Bool, false≢true}
use Rattle.std.proofs.lemmas.List.Elements.{All-nil, Contains-append_left, Contains-append_right}
use Rattle.std.proofs.lemmas.List.Sums.{AllPass-from_list_all}
use Rattle.std.proofs.lemmas.Slice.Eq.{bytes_eq-Decides}
use Rattle.fmp_names.specs.Names.{NameLists, is_name, is_object, is_defined, is_reserved, times}
use Rattle.fmp_names.proofs.Listed.{list_all-push, times-none, times-push}
use Rattle.fmp_names.proofs.Valid.{once_more}
use Rattle.fmp_setup.specs.declared.setup.Class.{Class}
use Rattle.fmp_setup.specs.declared.setup.Limits.{Limits}
use Rattle.fmp_setup.specs.declared.setup.Timer.{Timer}
use Rattle.fmp_setup.specs.declared.setup.Timer.TheVariants as timers
use Rattle.fmp_setup.specs.Building.{IsSoundClass, class_in, class_named, is_refused, with_class, with_defined, with_limits, with_processors, with_timer}
use Rattle.fmp_setup.specs.Setup.{Setup, MayHandle}
use Rattle.fmp_setup.specs.Valid.{AreLimits, IsTimerOf, IsValid, is_class_of}
use Rattle.fmp_setup.proofs.Named.{not_refused, undefined_from}
pub use Rattle.fmp_setup.proofs.Objects.{object_added}

-- ---- a class

-- what holds of the elements still holds where the list grows
module _ (c : Setup) (valid : IsValid c) (name : List ℕ) (class : Class) where
  pub class_added : is_name name ≡ true → is_refused c name ≡ false → length c.classes < 32 → is_class_of c.processors class ≡ true → IsValid (with_class c name class)
  unfolding with_class
  class_added named new room sound =
      let parts = not_refused c name new in
      let free : (is_name name && not (is_reserved name)) ≡ true = let r = parts.0 in rw (named, r) refl in
      let far : not (is_object c.names name) ≡ true = let o = parts.2 in rw o refl in
      let undefined : not (is_defined c.names name) ≡ true = let u = parts.3 in rw u refl in
      record {
        has_processors = valid.has_processors;
        few_processors = valid.few_processors;
        few_classes = omega (arith, length-append c.classes (class ∷ []), room);
        few_tasks = valid.few_tasks;
        few = record {
          semaphores = valid.few.semaphores;
          eventflags = valid.few.eventflags;
          data_queues = valid.few.data_queues;
          pools = valid.few.pools;
          cyclics = valid.few.cyclics;
          alarms = valid.few.alarms;
          spin_locks = valid.few.spin_locks;
        };
        in_range = record {
          semaphores = valid.in_range.semaphores;
          eventflags = valid.in_range.eventflags;
          data_queues = valid.in_range.data_queues;
          pools = valid.in_range.pools;
          cyclics = valid.in_range.cyclics;
        };
        sound_classes = list_all-push (is_class_of c.processors) c.classes class valid.sound_classes sound;
        classes = valid.classes;
        cyclics = valid.cyclics;
        alarms = valid.alarms;
        task_classes = λ k d lt. Contains-append_left c.classes (class ∷ []) _ (valid.task_classes k d lt);
        cyclic_classes = λ k d lt. Contains-append_left c.classes (class ∷ []) _ (valid.cyclic_classes k d lt);
        alarm_classes = λ k d lt. Contains-append_left c.classes (class ∷ []) _ (valid.alarm_classes k d lt);
        named_classes = omega (arith, length-append c.classes (class ∷ []), length-append c.class_names (name ∷ []), valid.named_classes);
        class_names = list_all-push (λ n. is_name n && not (is_reserved n)) c.class_names name valid.class_names free;
        distinct_classes = λ other. once_more other name (times other c.class_names) (times other (c.class_names ++ name ∷ [])) (times-push other name c.class_names)
            (λ same. ap (λ (n : List ℕ). times n c.class_names) ((bytes_eq-Decides other name).0 same) ∙ times-none name c.class_names parts.1) (valid.distinct_classes other);
        apart = list_all-push (λ n. not (is_object c.names n)) c.class_names name valid.apart far;
        undefined = list_all-push (λ n. not (is_defined c.names n)) c.class_names name valid.undefined undefined;
        same_processors = valid.same_processors;
        named_objects = valid.named_objects;
        functions = valid.functions;
        cyclic_functions = valid.cyclic_functions;
        alarm_functions = valid.alarm_functions;
        few_functions = valid.few_functions;
        timer = valid.timer;
        cyclics_served = valid.cyclics_served;
        alarms_served = valid.alarms_served;
        limits = valid.limits;
        priorities = valid.priorities;
      }

-- ---- a class that is named

some_of : Class → Option Class → Class
some_of d None = d
some_of d (Some x) = x

is_there : Option Class → Bool
is_there None = false
is_there (Some x) = true

none_some : {class : Class} → None ≡ Some class → false ≡ true
unfolding is_there
none_some e = ap is_there e

some_is : {a b : Class} → Some a ≡ Some b → a ≡ b
unfolding some_of
some_is {a} {b} e = ap (some_of a) e

found : (names : List (List ℕ)) (classes : List Class) (name : List ℕ) (class : Class) → class_in names classes name ≡ Some class → Contains classes class
found [] classes name class e = absurd (false≢true (none_some e))
found (n ∷ ns) [] name class e = absurd (false≢true (none_some e))
found (n ∷ ns) (first ∷ others) name class e =
    elim (cases_Bool (bytes_eq name n)) [
      | inl t ↦ (0, omega arith, some_is (rw t at e))
      | inr f ↦ let rest = found ns others name class (rw f at e) in Contains-append_right (first ∷ []) others class rest
    ]

all_contained : (p : Class → Bool) (classes : List Class) (class : Class) → list_all p classes ≡ true → Contains classes class → p class ≡ true
all_contained p classes class all (k, lt, here) = ap p (sym here) ∙ AllPass-from_list_all p classes all k class lt

pub named_is_sound : (c : Setup) (name : List ℕ) (class : Class) → IsValid c → class_named c name ≡ Some class → IsSoundClass c class
unfolding class_named
named_is_sound c name class valid e =
    let here = found c.class_names c.classes name class e in
    (here, all_contained (is_class_of c.processors) c.classes class valid.sound_classes here)

-- ---- defined names, the timer and the limits

-- other defined names, another timer and other limits leave the rest
module _ (c : Setup) (valid : IsValid c) (defined : List (List ℕ × ℕ)) (timer : Timer) (limits : Limits) where
  abbrev names : NameLists
  names = record c.names { defined = defined }

  valid_beside : list_all (λ name. not (is_defined names name)) c.class_names ≡ true → IsTimerOf c.processors timer → All (λ h. MayHandle timer h.class) c.cyclics → All (λ h. MayHandle timer h.class) c.alarms
      → AreLimits limits → All (λ t. t.priority.number ≤ limits.priorities) c.tasks → IsValid (record c { names = names; timer = timer; limits = limits })
  unfolding is_object
  valid_beside undefined is_timer cyclics alarms are_limits priorities =
      record {
        has_processors = valid.has_processors;
        few_processors = valid.few_processors;
        few_classes = valid.few_classes;
        few_tasks = valid.few_tasks;
        few = record {
          semaphores = valid.few.semaphores;
          eventflags = valid.few.eventflags;
          data_queues = valid.few.data_queues;
          pools = valid.few.pools;
          cyclics = valid.few.cyclics;
          alarms = valid.few.alarms;
          spin_locks = valid.few.spin_locks;
        };
        in_range = record {
          semaphores = valid.in_range.semaphores;
          eventflags = valid.in_range.eventflags;
          data_queues = valid.in_range.data_queues;
          pools = valid.in_range.pools;
          cyclics = valid.in_range.cyclics;
        };
        sound_classes = valid.sound_classes;
        classes = valid.classes;
        cyclics = valid.cyclics;
        alarms = valid.alarms;
        task_classes = valid.task_classes;
        cyclic_classes = valid.cyclic_classes;
        alarm_classes = valid.alarm_classes;
        named_classes = valid.named_classes;
        class_names = valid.class_names;
        distinct_classes = valid.distinct_classes;
        apart = valid.apart;
        undefined = undefined;
        same_processors = valid.same_processors;
        named_objects = valid.named_objects;
        functions = valid.functions;
        cyclic_functions = valid.cyclic_functions;
        alarm_functions = valid.alarm_functions;
        few_functions = valid.few_functions;
        timer = is_timer;
        cyclics_served = cyclics;
        alarms_served = alarms;
        limits = are_limits;
        priorities = priorities;
      }

module _ (c : Setup) (valid : IsValid c) where
  pub defined_added : (name : List ℕ) (number : ℕ) → is_refused c name ≡ false → IsValid (with_defined c name number)
  unfolding with_defined
  defined_added name number new =
      let parts = not_refused c name new in
      valid_beside c valid (c.names.defined ++ (name, number) ∷ []) c.timer c.limits (undefined_from c.names name number c.class_names parts.1 valid.undefined) valid.timer valid.cyclics_served valid.alarms_served valid.limits valid.priorities

  -- while there are no handlers
  pub timer_set : (timer : Timer) → IsTimerOf c.processors timer → c.cyclics ≡ [] → c.alarms ≡ [] → IsValid (with_timer c timer)
  timer_set timer is_timer no_cyclics no_alarms =
      valid_beside c valid c.names.defined timer c.limits valid.undefined is_timer (rw no_cyclics (All-nil (λ h. MayHandle timer h.class))) (rw no_alarms (All-nil (λ h. MayHandle timer h.class))) valid.limits valid.priorities

  -- while there are no tasks
  pub limits_set : (limits : Limits) → AreLimits limits → c.tasks ≡ [] → IsValid (with_limits c limits)
  limits_set limits are_limits no_tasks =
      valid_beside c valid c.names.defined c.timer limits valid.undefined valid.timer valid.cyclics_served valid.alarms_served are_limits (rw no_tasks (All-nil (λ t. t.priority.number ≤ limits.priorities)))

  -- while there are no tasks, no handlers and no classes
  pub processors_set : (n : ℕ) → 1 ≤ n → n ≤ 8 → c.tasks ≡ [] → c.cyclics ≡ [] → c.alarms ≡ [] → c.classes ≡ [] → c.timer ≡ timers.Local → IsValid (with_processors c n)
  unfolding with_processors is_object is_defined
  processors_set n least most no_tasks no_cyclics no_alarms no_classes local =
      record {
        has_processors = least;
        few_processors = most;
        few_classes = valid.few_classes;
        few_tasks = valid.few_tasks;
        few = record {
          semaphores = valid.few.semaphores;
          eventflags = valid.few.eventflags;
          data_queues = valid.few.data_queues;
          pools = valid.few.pools;
          cyclics = valid.few.cyclics;
          alarms = valid.few.alarms;
          spin_locks = valid.few.spin_locks;
        };
        in_range = record {
          semaphores = valid.in_range.semaphores;
          eventflags = valid.in_range.eventflags;
          data_queues = valid.in_range.data_queues;
          pools = valid.in_range.pools;
          cyclics = valid.in_range.cyclics;
        };
        sound_classes = ap (list_all (is_class_of n)) no_classes;
        classes = ap (list_all (λ t. is_class_of n t.class)) no_tasks;
        cyclics = ap (list_all (λ h. is_class_of n h.class)) no_cyclics;
        alarms = ap (list_all (λ h. is_class_of n h.class)) no_alarms;
        task_classes = valid.task_classes;
        cyclic_classes = valid.cyclic_classes;
        alarm_classes = valid.alarm_classes;
        named_classes = valid.named_classes;
        class_names = valid.class_names;
        distinct_classes = valid.distinct_classes;
        apart = valid.apart;
        undefined = valid.undefined;
        same_processors = refl;
        named_objects = valid.named_objects;
        functions = valid.functions;
        cyclic_functions = valid.cyclic_functions;
        alarm_functions = valid.alarm_functions;
        few_functions = valid.few_functions;
        timer = subst (IsTimerOf n) (sym local) tt;
        cyclics_served = valid.cyclics_served;
        alarms_served = valid.alarms_served;
        limits = valid.limits;
        priorities = valid.priorities;
      }
