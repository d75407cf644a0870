-- A configuration stays valid as an object is added.
use Rattle.std.proofs.Common.{◌≡◌, ℕ, ◌+◌, ◌≤◌, ◌<◌, ◌^◌, Bool, true, false, cond, List, [], ◌∷◌, ◌++◌, length, map, set, get_or, refl, sym, ap, subst, ◌∙◌, arith, length-append}
use Rattle.std.specs.Prelude.{All, Contains, nat_le}
use Rattle.std.proofs.lemmas.Bool.{and_parts, and_from, ltb-true, leb-true, le-leb}
use Rattle.std.proofs.lemmas.List.Elements.{All-append, All-cons, All-nil}
use Rattle.std.proofs.lemmas.List.Sums.{AllPass-from_list_all, list_all-from_AllPass}
use Rattle.fmp_codes.specs.Kinds.{most_of, place_of}
use Rattle.fmp_codes.specs.declared.kinds.NameKind.TheVariants.{Object}
use Rattle.fmp_names.specs.Names.{NameLists, has_room, is_object, is_defined}
use Rattle.fmp_setup.specs.declared.parts.Fields.{Fields}
use Rattle.fmp_setup.specs.declared.parts.Fields.TheVariants as fields
use Rattle.fmp_setup.specs.declared.setup.AlarmSetup.{AlarmSetup}
use Rattle.fmp_setup.specs.declared.setup.Class.{Class}
use Rattle.fmp_setup.specs.declared.setup.CyclicSetup.{CyclicSetup}
use Rattle.fmp_setup.specs.declared.setup.TaskSetup.{TaskSetup}
use Rattle.fmp_setup.specs.Building.{FieldsInRange, IsSoundClass, cyclic_setup, function_number, has_function, is_refused, kind_of, task_setup, with_object, with_object_names, with_setup}
use Rattle.fmp_setup.specs.Setup.{Setup, MayHandle}
use Rattle.fmp_setup.specs.Valid.{IsCyclic, IsPool, IsSemaphore, IsValid, is_class_of, is_function_of, objects_of_kinds}
use Rattle.fmp_setup.proofs.Named.{not_refused, length_at, with_one-lengths, apart_from, number_most, number_within, AddsObject, object_adds}

all_push : {X : Type 0} (P : X → Type 0) (xs : List X) (x : X) → All P xs → P x → All P (xs ++ x ∷ [])
all_push P xs x all here = All-append P xs (x ∷ []) all (All-cons P x [] here (All-nil P))

-- a number of a function, by its range
in_range : (count n : ℕ) → 1 ≤ n → n ≤ count → is_function_of count n ≡ true
in_range count n least most = and_from (nat_le 1 n) (nat_le n count) (le-leb 1 n least) (le-leb n count most)

wider : (count more n : ℕ) → count ≤ more → is_function_of count n ≡ true → is_function_of more n ≡ true
wider count more n le within =
    let parts = and_parts (nat_le 1 n) (nat_le n count) within in
    in_range more n (leb-true 1 n parts.0) (omega (arith, leb-true n count parts.1, le))

-- ---- what is of a configuration with so many functions

record HasClass (c : Setup) (class : Class) : Type 0 where
  pub sound : is_class_of c.processors class ≡ true
  pub among : Contains c.classes class

record IsTaskOf (c : Setup) (functions : ℕ) (t : TaskSetup) : Type 0 where
  pub class : HasClass c t.class
  pub main : is_function_of functions t.main ≡ true
  pub priority : t.priority.number ≤ c.limits.priorities

record IsHandlerOf (c : Setup) (functions : ℕ) (its : Class) (handler : ℕ) : Type 0 where
  pub class : HasClass c its
  pub main : is_function_of functions handler ≡ true
  pub served : MayHandle c.timer its

module _ (c : Setup) (valid : IsValid c) (functions : ℕ) (more : length c.names.functions ≤ functions) where
  tasks_of : All (IsTaskOf c functions) c.tasks
  tasks_of k d lt = record {
    class = record { sound = AllPass-from_list_all (λ t. is_class_of c.processors t.class) c.tasks valid.classes k d lt; among = valid.task_classes k d lt };
    main = wider (length c.names.functions) functions _ more (AllPass-from_list_all (λ t. is_function_of (length c.names.functions) t.main) c.tasks valid.functions k d lt);
    priority = valid.priorities k d lt;
  }

  cyclics_of : All (λ h. IsHandlerOf c functions h.class h.handler) c.cyclics
  cyclics_of k d lt = record {
    class = record { sound = AllPass-from_list_all (λ h. is_class_of c.processors h.class) c.cyclics valid.cyclics k d lt; among = valid.cyclic_classes k d lt };
    main = wider (length c.names.functions) functions _ more (AllPass-from_list_all (λ h. is_function_of (length c.names.functions) h.handler) c.cyclics valid.cyclic_functions k d lt);
    served = valid.cyclics_served k d lt;
  }

  alarms_of : All (λ h. IsHandlerOf c functions h.class h.handler) c.alarms
  alarms_of k d lt = record {
    class = record { sound = AllPass-from_list_all (λ h. is_class_of c.processors h.class) c.alarms valid.alarms k d lt; among = valid.alarm_classes k d lt };
    main = wider (length c.names.functions) functions _ more (AllPass-from_list_all (λ h. is_function_of (length c.names.functions) h.handler) c.alarms valid.alarm_functions k d lt);
    served = valid.alarms_served k d lt;
  }

-- ---- the lists with one object more

module _ (c : Setup) (valid : IsValid c) (class : Class) (number : ℕ) where
  abbrev grown : Fields → Setup
  grown said = with_setup c class number said

  abbrev alarm : AlarmSetup
  alarm = record { class = class; handler = number }

  -- nothing else changes
  lists_alone : (said : Fields) → grown said ≡ record c { tasks = (grown said).tasks; semaphores = (grown said).semaphores; eventflags = (grown said).eventflags; data_queues = (grown said).data_queues; pools = (grown said).pools; cyclics = (grown said).cyclics; alarms = (grown said).alarms; spin_locks = (grown said).spin_locks }
  unfolding with_setup
  lists_alone fields.SpinLock = refl
  lists_alone _ = refl

  -- there are fewer of the kind than there may be
  abbrev HasRoom : Fields → Type 0
  HasRoom said = get_or (objects_of_kinds c) (place_of (kind_of said)) 0 < most_of (kind_of said)

  few_tasks : (said : Fields) → HasRoom said → length (grown said).tasks ≤ 64
  unfolding with_setup
  few_tasks (fields.Task t) room = omega (arith, room, length-append c.tasks (task_setup class number t ∷ []))
  few_tasks _ room = valid.few_tasks

  few_semaphores : (said : Fields) → HasRoom said → length (grown said).semaphores ≤ 32
  unfolding with_setup
  few_semaphores (fields.Semaphore s) room = omega (arith, room, length-append c.semaphores (s ∷ []))
  few_semaphores _ room = valid.few.semaphores

  few_eventflags : (said : Fields) → HasRoom said → length (grown said).eventflags ≤ 32
  unfolding with_setup
  few_eventflags (fields.Eventflag f) room = omega (arith, room, length-append c.eventflags (f ∷ []))
  few_eventflags _ room = valid.few.eventflags

  few_data_queues : (said : Fields) → HasRoom said → length (grown said).data_queues ≤ 32
  unfolding with_setup
  few_data_queues (fields.DataQueue d) room = omega (arith, room, length-append c.data_queues (d ∷ []))
  few_data_queues _ room = valid.few.data_queues

  few_pools : (said : Fields) → HasRoom said → length (grown said).pools ≤ 32
  unfolding with_setup
  few_pools (fields.Pool m) room = omega (arith, room, length-append c.pools (m ∷ []))
  few_pools _ room = valid.few.pools

  few_cyclics : (said : Fields) → HasRoom said → length (grown said).cyclics ≤ 32
  unfolding with_setup
  few_cyclics (fields.Cyclic h) room = omega (arith, room, length-append c.cyclics (cyclic_setup class number h ∷ []))
  few_cyclics _ room = valid.few.cyclics

  few_alarms : (said : Fields) → HasRoom said → length (grown said).alarms ≤ 32
  unfolding with_setup
  few_alarms fields.Alarm room = omega (arith, room, length-append c.alarms (alarm ∷ []))
  few_alarms _ room = valid.few.alarms

  few_spin_locks : (said : Fields) → HasRoom said → (grown said).spin_locks ≤ 32
  unfolding with_setup
  few_spin_locks fields.SpinLock room = omega (arith, room)
  few_spin_locks _ room = valid.few.spin_locks

  one_more : (said : Fields) → set (objects_of_kinds c) (place_of (kind_of said)) (get_or (objects_of_kinds c) (place_of (kind_of said)) 0 + 1) ≡ objects_of_kinds (grown said)
  unfolding with_setup
  one_more (fields.Task t) = rw (length-append c.tasks (task_setup class number t ∷ [])) refl
  one_more (fields.Semaphore s) = rw (length-append c.semaphores (s ∷ [])) refl
  one_more (fields.Eventflag f) = rw (length-append c.eventflags (f ∷ [])) refl
  one_more (fields.DataQueue d) = rw (length-append c.data_queues (d ∷ [])) refl
  one_more (fields.Pool m) = rw (length-append c.pools (m ∷ [])) refl
  one_more (fields.Cyclic h) = rw (length-append c.cyclics (cyclic_setup class number h ∷ [])) refl
  one_more fields.Alarm = rw (length-append c.alarms (alarm ∷ [])) refl
  one_more fields.SpinLock = refl

  semaphores_in_range : (said : Fields) → FieldsInRange c class said → All IsSemaphore (grown said).semaphores
  unfolding with_setup
  semaphores_in_range (fields.Semaphore s) fits = all_push IsSemaphore c.semaphores s valid.in_range.semaphores fits
  semaphores_in_range _ fits = valid.in_range.semaphores

  eventflags_in_range : (said : Fields) → FieldsInRange c class said → All (λ f. f.initial < 2 ^ 32) (grown said).eventflags
  unfolding with_setup
  eventflags_in_range (fields.Eventflag f) fits = all_push (λ f. f.initial < 2 ^ 32) c.eventflags f valid.in_range.eventflags fits
  eventflags_in_range _ fits = valid.in_range.eventflags

  data_queues_in_range : (said : Fields) → FieldsInRange c class said → All (λ d. d.capacity ≤ 1024) (grown said).data_queues
  unfolding with_setup
  data_queues_in_range (fields.DataQueue d) fits = all_push (λ d. d.capacity ≤ 1024) c.data_queues d valid.in_range.data_queues fits
  data_queues_in_range _ fits = valid.in_range.data_queues

  pools_in_range : (said : Fields) → FieldsInRange c class said → All IsPool (grown said).pools
  unfolding with_setup
  pools_in_range (fields.Pool m) fits = all_push IsPool c.pools m valid.in_range.pools fits
  pools_in_range _ fits = valid.in_range.pools

  cyclics_in_range : (said : Fields) → FieldsInRange c class said → All IsCyclic (grown said).cyclics
  unfolding with_setup
  cyclics_in_range (fields.Cyclic h) fits = all_push IsCyclic c.cyclics (cyclic_setup class number h) valid.in_range.cyclics fits.0
  cyclics_in_range _ fits = valid.in_range.cyclics

  few_functions : (said : Fields) (functions : ℕ) → functions ≤ length c.names.functions + cond (has_function (kind_of said)) 1 0 → functions ≤ length (grown said).tasks + length (grown said).cyclics + length (grown said).alarms
  unfolding with_setup
  few_functions (fields.Task t) functions most = omega (arith, most, valid.few_functions, length-append c.tasks (task_setup class number t ∷ []))
  few_functions (fields.Cyclic h) functions most = omega (arith, most, valid.few_functions, length-append c.cyclics (cyclic_setup class number h ∷ []))
  few_functions fields.Alarm functions most = omega (arith, most, valid.few_functions, length-append c.alarms (alarm ∷ []))
  few_functions _ functions most = omega (arith, most, valid.few_functions)

  module _ (functions : ℕ) (more : length c.names.functions ≤ functions) (sound : HasClass c class) where
    abbrev IsFunction : Fields → Type 0
    IsFunction said = has_function (kind_of said) ≡ true → is_function_of functions number ≡ true

    tasks_still : (said : Fields) → FieldsInRange c class said → IsFunction said → All (IsTaskOf c functions) (grown said).tasks
    unfolding with_setup
    tasks_still (fields.Task t) fits is = all_push (IsTaskOf c functions) c.tasks (task_setup class number t) (tasks_of c valid functions more) (record { class = sound; main = is refl; priority = fits })
    tasks_still _ fits is = tasks_of c valid functions more

    cyclics_still : (said : Fields) → FieldsInRange c class said → IsFunction said → All (λ h. IsHandlerOf c functions h.class h.handler) (grown said).cyclics
    unfolding with_setup
    cyclics_still (fields.Cyclic h) fits is =
        all_push (λ (h : CyclicSetup). IsHandlerOf c functions h.class h.handler) c.cyclics (cyclic_setup class number h) (cyclics_of c valid functions more) (record { class = sound; main = is refl; served = fits.1 })
    cyclics_still _ fits is = cyclics_of c valid functions more

    alarms_still : (said : Fields) → FieldsInRange c class said → IsFunction said → All (λ h. IsHandlerOf c functions h.class h.handler) (grown said).alarms
    unfolding with_setup
    alarms_still fields.Alarm fits is = all_push (λ (h : AlarmSetup). IsHandlerOf c functions h.class h.handler) c.alarms alarm (alarms_of c valid functions more) (record { class = sound; main = is refl; served = fits })
    alarms_still _ fits is = alarms_of c valid functions more

-- ---- an object and its names

module _ (c : Setup) (valid : IsValid c) (name function : List ℕ) (said : Fields) (new : is_refused c name ≡ false) (room : has_room c.names (Object (kind_of said)) ≡ true) where
  abbrev names : NameLists
  names = with_object_names c.names (kind_of said) name function

  abbrev number : ℕ
  number = function_number names function

  adds : AddsObject c.names names (kind_of said) (has_function (kind_of said)) name function
  adds = object_adds c.names (kind_of said) name function

  has_place : get_or (objects_of_kinds c) (place_of (kind_of said)) 0 < most_of (kind_of said)
  has_place =
      let counted : get_or (objects_of_kinds c) (place_of (kind_of said)) 0 ≡ length (get_or c.names.objects (place_of (kind_of said)) []) =
      ap (λ (ns : List ℕ). get_or ns (place_of (kind_of said)) 0) (sym valid.named_objects) ∙ length_at c.names.objects (place_of (kind_of said)) in
      omega (arith, counted, ltb-true (length (get_or c.names.objects (place_of (kind_of said)) [])) (most_of (kind_of said)) room)

  functions_most : length names.functions ≤ 129
  functions_most =
      let few = valid.few in
      omega (arith, adds.most, one_at_most (has_function (kind_of said)), valid.few_functions, valid.few_tasks, few.cyclics, few.alarms)
    where
      one_at_most : (b : Bool) → cond b 1 0 ≤ 1
      one_at_most true = omega arith
      one_at_most false = omega arith

  pub number_within_byte : number ≤ 129
  number_within_byte = omega (arith, number_most names function, functions_most)

  is_function : has_function (kind_of said) ≡ true → is_function_of (length names.functions) number ≡ true
  is_function e = let n = number_within names function (adds.there e) in in_range (length names.functions) number n.0 n.1

  module _ (class : Class) (sound : IsSoundClass c class) (fits : FieldsInRange c class said) where
    abbrev more : Setup
    more = with_setup c class number said

    has_class : HasClass c class
    has_class = record { sound = sound.1; among = sound.0 }

    tasks_held : All (IsTaskOf c (length names.functions)) more.tasks
    tasks_held = tasks_still c valid class number (length names.functions) adds.least has_class said fits is_function

    cyclics_held : All (λ h. IsHandlerOf c (length names.functions) h.class h.handler) more.cyclics
    cyclics_held = cyclics_still c valid class number (length names.functions) adds.least has_class said fits is_function

    alarms_held : All (λ h. IsHandlerOf c (length names.functions) h.class h.handler) more.alarms
    alarms_held = alarms_still c valid class number (length names.functions) adds.least has_class said fits is_function

    named : map length names.objects ≡ objects_of_kinds more
    named =
        ap (map length) adds.objects ∙ with_one-lengths c.names.objects (place_of (kind_of said)) name
        ∙ ap (λ (ns : List ℕ). set ns (place_of (kind_of said)) (get_or ns (place_of (kind_of said)) 0 + 1)) valid.named_objects ∙ one_more c valid class number said

    pub object_added : IsValid (with_object c class name function said)
    unfolding with_object is_object is_defined
    object_added =
        let parts = not_refused c name new in
        subst IsValid (ap (λ (s : Setup). record s { names = names }) (sym (lists_alone c valid class number said)))
        (record {
          has_processors = valid.has_processors;
          few_processors = valid.few_processors;
          few_classes = valid.few_classes;
          few_tasks = few_tasks c valid class number said has_place;
          few = record {
            semaphores = few_semaphores c valid class number said has_place;
            eventflags = few_eventflags c valid class number said has_place;
            data_queues = few_data_queues c valid class number said has_place;
            pools = few_pools c valid class number said has_place;
            cyclics = few_cyclics c valid class number said has_place;
            alarms = few_alarms c valid class number said has_place;
            spin_locks = few_spin_locks c valid class number said has_place;
          };
          in_range = record {
            semaphores = semaphores_in_range c valid class number said fits;
            eventflags = eventflags_in_range c valid class number said fits;
            data_queues = data_queues_in_range c valid class number said fits;
            pools = pools_in_range c valid class number said fits;
            cyclics = cyclics_in_range c valid class number said fits;
          };
          sound_classes = valid.sound_classes;
          classes = list_all-from_AllPass (λ t. is_class_of c.processors t.class) more.tasks (λ k d lt. (tasks_held k d lt).class.sound);
          cyclics = list_all-from_AllPass (λ h. is_class_of c.processors h.class) more.cyclics (λ k d lt. (cyclics_held k d lt).class.sound);
          alarms = list_all-from_AllPass (λ h. is_class_of c.processors h.class) more.alarms (λ k d lt. (alarms_held k d lt).class.sound);
          task_classes = λ k d lt. (tasks_held k d lt).class.among;
          cyclic_classes = λ k d lt. (cyclics_held k d lt).class.among;
          alarm_classes = λ k d lt. (alarms_held k d lt).class.among;
          named_classes = valid.named_classes;
          class_names = valid.class_names;
          distinct_classes = valid.distinct_classes;
          apart = rw adds.objects (apart_from c.names.objects (place_of (kind_of said)) name c.class_names parts.1 valid.apart);
          undefined = rw adds.defined valid.undefined;
          same_processors = adds.processors ∙ valid.same_processors;
          named_objects = named;
          functions = list_all-from_AllPass (λ t. is_function_of (length names.functions) t.main) more.tasks (λ k d lt. (tasks_held k d lt).main);
          cyclic_functions = list_all-from_AllPass (λ h. is_function_of (length names.functions) h.handler) more.cyclics (λ k d lt. (cyclics_held k d lt).main);
          alarm_functions = list_all-from_AllPass (λ h. is_function_of (length names.functions) h.handler) more.alarms (λ k d lt. (alarms_held k d lt).main);
          few_functions = few_functions c valid class number said (length names.functions) adds.most;
          timer = valid.timer;
          cyclics_served = λ k d lt. (cyclics_held k d lt).served;
          alarms_served = λ k d lt. (alarms_held k d lt).served;
          limits = valid.limits;
          priorities = λ k d lt. (tasks_held k d lt).priority;
        })

-- ---- how parts grow

-- an object is added beside other names as beside the old ones
apart_names : (c : Setup) (others : NameLists) (class : Class) (n : ℕ) (said : Fields) → with_setup (record c { names = others }) class n said ≡ record (with_setup c class n said) { names = others }
unfolding with_setup
apart_names c others class n fields.SpinLock = refl
apart_names c others class n _ = refl

pub object_pushed : (c : Setup) (others : NameLists) (class : Class) (name function : List ℕ) (said : Fields) (n : ℕ) → c.names.processors ≡ c.processors
    → others ≡ with_object_names c.names (kind_of said) name function → n ≡ function_number others function
    → with_setup (record c { processors = others.processors; names = others }) class n said ≡ with_object c class name function said
unfolding with_object
object_pushed c others class name function said n same e1 e2 =
    let processors : others.processors ≡ c.processors = ap (λ (m : NameLists). m.processors) e1 ∙ (object_adds c.names (kind_of said) name function).processors ∙ same in
    ap (λ (m : ℕ). with_setup (record c { processors = m; names = others }) class n said) processors ∙ apart_names c others class n said
    ∙ ap (λ (m : ℕ). record (with_setup c class m said) { names = others }) e2 ∙ ap (λ (m : NameLists). record (with_setup c class (function_number m function) said) { names = m }) e1
