-- What was read stays sound where a whole statement is taken in.
use Rattle.std.proofs.Common.{◌≡◌, ℕ, ◌≤◌, ◌<◌, Bool, true, false, List, [], ◌∷◌, length, Option, Some, None, Result, Ok, Err, if◌then◌else◌, refl, sym, subst, ◌∙◌, arith}
use Rattle.std.specs.Prelude.{nat_lt, ◌==◌}
use Rattle.std.specs.Option.{ok_or}
use Rattle.std.proofs.lemmas.Bool.{false≢true, ltb-true}
use Rattle.std.proofs.lemmas.List.Elements.{Contains-append_left}
use Rattle.fmp_bytes.specs.Results.{◌>>=◌}
use Rattle.fmp_codes.specs.Numbers.{as_proc}
use Rattle.fmp_names.specs.Names.{is_name}
use Rattle.fmp_config_statements.specs.declared.fault.ConfigKind.TheVariants.{BadClass, UnknownClass}
use Rattle.fmp_config_statements.specs.declared.table.StatementName.{StatementName}
use Rattle.fmp_config_statements.specs.declared.table.StatementName.TheVariants as statements
use Rattle.fmp_config_statements.specs.Faults.{Fault, fault_at, fault_in}
use Rattle.fmp_config_statements.specs.Forms.{Form}
use Rattle.fmp_config_statements.specs.Pieces.{Pieces}
use Rattle.fmp_config_statements.specs.Words.{Word}
use Rattle.fmp_config.specs.declared.draft.OpenClass.{OpenClass}
use Rattle.fmp_config.specs.declared.draft.Phase.TheVariants as phases
use Rattle.fmp_config.specs.Drafts.{Draft, is_start, is_body}
use Rattle.fmp_config.specs.Judging.{begin_class, choose_timer, count_processors, define_class, judged, set_limits, timer_of}
use Rattle.fmp_config.specs.Objects.{new_name}
use Rattle.fmp_config.specs.Places.{place_fault}
use Rattle.fmp_config.specs.Numbers.{all_numbers, class_of, members_in, number_within, numbers_of, processor_at, sound_class, value_at}
use Rattle.fmp_config.specs.Sound.{IsNamedAs, IsSound, IsSoundOpen}
use Rattle.fmp_config.proofs.Created.{create_sound}
use Rattle.fmp_config.proofs.Defined.{new_and_room, still_open}
use Rattle.fmp_config.proofs.Places.{class_past_start, limits_in_head, processors_at_start, start_is_no_body, timer_in_head}
use Rattle.fmp_config.proofs.Ranges.{numbers_in_range, within_range}
use Rattle.fmp_config.proofs.Steps.{bound, not_ok, ok_is, passed, some_of}
use Rattle.fmp_setup.specs.declared.setup.Class.{Class}
use Rattle.fmp_setup.specs.declared.setup.Timer.{Timer}
use Rattle.fmp_setup.specs.declared.setup.Timer.TheVariants as timers
use Rattle.fmp_setup.specs.Building.{class_named, is_refused, with_class, with_limits, with_processors, with_timer}
use Rattle.fmp_setup.specs.Setup.{Setup}
use Rattle.fmp_setup.specs.Valid.{IsTimerOf, IsValid, is_class_of}
use Rattle.fmp_setup.proofs.Growing.{class_added, limits_set, named_is_sound, processors_set, timer_set}

never : {A : Type 0} (b : Bool) → b ≡ false → b ≡ true → A
never b is other = absurd (false≢true (sym is ∙ other))

-- ---- the number of processors, the timer and the limits

processors_counted : (d : Draft) (n : ℕ) → IsSound d → is_start d.phase ≡ true → 1 ≤ n → n ≤ 8 → IsSound (record d { setup = with_processors d.setup n; phase = phases.Head })
unfolding with_processors
processors_counted d n sound start least most =
    let head = start_is_no_body d.phase start in
    let objects = sound.before_classes head in
    let classes = sound.before_processors start in
    record {
      valid = processors_set d.setup sound.valid n least most objects.tasks objects.cyclics objects.alarms classes.classes classes.timer;
      open_class = none_open d.open_class sound.open_class head;
      before_classes = λ head. record { tasks = objects.tasks; cyclics = objects.cyclics; alarms = objects.alarms };
      before_processors = λ start. absurd (false≢true start);
    }
  where
    none_open : (o : Option OpenClass) → IsSoundOpen d o → is_body d.phase ≡ false → IsSoundOpen (record d { setup = with_processors d.setup n; phase = phases.Head }) o
    none_open None was head = tt
    none_open (Some o) was head = never (is_body d.phase) head was.1

count_sound : (d next : Draft) (f : Form) → IsSound d → is_start d.phase ≡ true → count_processors d f ≡ Ok next → IsSound next
unfolding count_processors
count_sound d next f sound start e =
    let (n, are_numbers, same) = bound (numbers_of d.setup statements.Processors f.pieces) (λ n. Ok (record d { setup = with_processors d.setup n.first; phase = phases.Head })) next e in
    let (least, most) = (numbers_in_range d.setup statements.Processors f.pieces n are_numbers).0 in
    subst IsSound (ok_is (record d { setup = with_processors d.setup n.first; phase = phases.Head }) next same) (processors_counted d n.first sound start least most)

timer_chosen : (d : Draft) (timer : Timer) → IsSound d → is_start d.phase ≡ false → is_body d.phase ≡ false → IsTimerOf d.setup.processors timer → IsSound (record d { setup = with_timer d.setup timer; timer_stood = true })
timer_chosen d timer sound following head is_timer =
    let objects = sound.before_classes head in
    record {
      valid = timer_set d.setup sound.valid timer is_timer objects.cyclics objects.alarms;
      open_class = still_open d (record d { setup = with_timer d.setup timer; timer_stood = true }) d.open_class refl refl (λ body. body) sound.open_class;
      before_classes = λ head. record { tasks = objects.tasks; cyclics = objects.cyclics; alarms = objects.alarms };
      before_processors = λ start. never (is_start d.phase) following start;
    }

timer_in : (c : Setup) (word : Word) (timer : Timer) (b : Bool) → IsValid c → (if b then Ok timers.Local else (number_within c.names (record { least = 1; most = c.processors }) word >>= λ n. Ok (timers.Global (as_proc n)))) ≡ Ok timer → IsTimerOf c.processors timer
timer_in c word timer true valid e = subst (IsTimerOf c.processors) (ok_is timers.Local timer e) tt
timer_in c word timer false valid e =
    let (n, is_number, same) = bound (number_within c.names (record { least = 1; most = c.processors }) word) (λ n. Ok (timers.Global (as_proc n))) timer e in
    let (least, most) = within_range c.names (record { least = 1; most = c.processors }) word n is_number in
    subst (IsTimerOf c.processors) (ok_is (timers.Global (as_proc n)) timer same) (omega arith)

choose_sound : (d next : Draft) (f : Form) → IsSound d → is_start d.phase ≡ false → is_body d.phase ≡ false → choose_timer d f ≡ Ok next → IsSound next
unfolding choose_timer timer_of
choose_sound d next f sound following head e =
    let (timer, is_timer, same) = bound (timer_of d.setup f.pieces.first) (λ t. Ok (record d { setup = with_timer d.setup t; timer_stood = true })) next e in
    subst IsSound (ok_is (record d { setup = with_timer d.setup timer; timer_stood = true }) next same)
    (timer_chosen d timer sound following head (timer_in d.setup f.pieces.first timer (length f.pieces.first.text == 0) sound.valid is_timer))

limits_sound : (d next : Draft) (f : Form) → IsSound d → is_start d.phase ≡ false → is_body d.phase ≡ false → set_limits d f ≡ Ok next → IsSound next
unfolding set_limits
limits_sound d next f sound following head e =
    let (n, are_numbers, same) =
    bound (numbers_of d.setup statements.Limits f.pieces) (λ n. Ok (record d { setup = with_limits d.setup (record { wakeups = n.first; priorities = n.second }); limits_stood = true })) next e in
    let (wakeups, priorities) = numbers_in_range d.setup statements.Limits f.pieces n are_numbers in
    let objects = sound.before_classes head in
    subst IsSound (ok_is (record d { setup = with_limits d.setup (record { wakeups = n.first; priorities = n.second }); limits_stood = true }) next same)
    (record {
      valid = limits_set d.setup sound.valid (record { wakeups = n.first; priorities = n.second }) (record { least_wakeups = wakeups.0; most_wakeups = wakeups.1; least_priorities = priorities.0; most_priorities = priorities.1 }) objects.tasks;
      open_class = still_open d (record d { setup = with_limits d.setup (record { wakeups = n.first; priorities = n.second }); limits_stood = true }) d.open_class refl refl (λ body. body) sound.open_class;
      before_classes = λ head. record { tasks = objects.tasks; cyclics = objects.cyclics; alarms = objects.alarms };
      before_processors = λ start. never (is_start d.phase) following start;
    })

-- ---- classes

last_of : {A B C D E : Type 0} (a : Result A Fault) (b : Result B Fault) (c : Result C Fault) (d : Result D Fault) (f : C → D → Result E Fault) (y : E)
    → (a >>= λ number. b >>= λ unit. c >>= λ x. d >>= λ m. f x m) ≡ Ok y → (x : C) × (m : D) × (f x m ≡ Ok y)
last_of (Err fault) b c d f y e = absurd (not_ok fault y e)
last_of (Ok number) (Err fault) c d f y e = absurd (not_ok fault y e)
last_of (Ok number) (Ok unit) (Err fault) d f y e = absurd (not_ok fault y e)
last_of (Ok number) (Ok unit) (Ok x) (Err fault) f y e = absurd (not_ok fault y e)
last_of (Ok number) (Ok unit) (Ok x) (Ok m) f y e = (x, m, e)

class_is_sound : (c : Setup) (line : ℕ) (pieces : Pieces) (class : Class) → class_of c line pieces ≡ Ok class → is_class_of c.processors class ≡ true
unfolding class_of sound_class
class_is_sound c line pieces class e =
    let (initial, members, last) =
    last_of (value_at c.names pieces.first) (all_numbers c pieces.series) (processor_at c line pieces.first) (members_in c line pieces.series)
    (λ initial members. sound_class c.processors line pieces.first (record { initial = initial; members = members })) class e in
    let made : Class = record { initial = initial; members = members } in
    let (sound, same) = passed (is_class_of c.processors made) (Ok made) (fault_in BadClass line pieces.first) class last in
    subst (λ (x : Class). is_class_of c.processors x ≡ true) (ok_is made class same) sound

one_class_more : (d : Draft) (name : List ℕ) (class : Class) → IsSound d → is_start d.phase ≡ false → is_name name ≡ true → is_refused d.setup name ≡ false → length d.setup.classes < 32
    → is_class_of d.setup.processors class ≡ true → IsSound (record d { setup = with_class d.setup name class })
unfolding with_class
one_class_more d name class sound following named new room is_class =
    record {
      valid = class_added d.setup sound.valid name class named new room is_class;
      open_class = among d.open_class sound.open_class;
      before_classes = λ head. let objects = sound.before_classes head in record { tasks = objects.tasks; cyclics = objects.cyclics; alarms = objects.alarms };
      before_processors = λ start. never (is_start d.phase) following start;
    }
  where
    among : (o : Option OpenClass) → IsSoundOpen d o → IsSoundOpen (record d { setup = with_class d.setup name class }) o
    among None was = tt
    among (Some o) was = ((Contains-append_left d.setup.classes (class ∷ []) o.class was.0.0, was.0.1), was.1)

class_sound : (d next : Draft) (f : Form) → IsSound d → is_start d.phase ≡ false → is_name f.pieces.name.text ≡ true → define_class d f ≡ Ok next → IsSound next
unfolding define_class
class_sound d next f sound following named e =
    let (unit, is_new, e1) =
    bound (new_name d.setup (nat_lt (length d.setup.classes) 32) f.line f.pieces.name)
    (λ unit. class_of d.setup f.line f.pieces >>= λ class. Ok (record d { setup = with_class d.setup f.pieces.name.text class })) next e in
    let (class, is_class, same) = bound (class_of d.setup f.line f.pieces) (λ class. Ok (record d { setup = with_class d.setup f.pieces.name.text class })) next e1 in
    let (new, room) = new_and_room d.setup (nat_lt (length d.setup.classes) 32) f.line f.pieces.name is_new in
    subst IsSound (ok_is (record d { setup = with_class d.setup f.pieces.name.text class }) next same)
    (one_class_more d f.pieces.name.text class sound following named new (ltb-true (length d.setup.classes) 32 room) (class_is_sound d.setup f.line f.pieces class is_class))

begin_sound : (d next : Draft) (f : Form) → IsSound d → begin_class d f ≡ Ok next → IsSound next
unfolding begin_class
begin_sound d next f sound e =
    let (class, is_class, same) =
    bound (ok_or (class_named d.setup f.pieces.name.text) (fault_at UnknownClass f.pieces.name)) (λ class. Ok (record d { open_class = Some (record { line = f.line; class = class }); phase = phases.Body })) next e in
    let named = some_of (class_named d.setup f.pieces.name.text) (fault_at UnknownClass f.pieces.name) class is_class in
    subst IsSound (ok_is (record d { open_class = Some (record { line = f.line; class = class }); phase = phases.Body }) next same)
    (record {
      valid = sound.valid;
      open_class = (named_is_sound d.setup f.pieces.name.text class sound.valid named, refl);
      before_classes = λ head. absurd (false≢true (sym head));
      before_processors = λ start. absurd (false≢true start);
    })

-- ---- a whole statement

pub judged_sound : (d next : Draft) (name : StatementName) (f : Form) → IsSound d → place_fault d name ≡ None → IsNamedAs name f → judged d name f ≡ Ok next → IsSound next
unfolding judged
judged_sound d next statements.Include f sound place named e = subst IsSound (ok_is d next e) sound
judged_sound d next statements.Processors f sound place named e = count_sound d next f sound (processors_at_start d place) e
judged_sound d next statements.Timer f sound place named e = let (following, head) = timer_in_head d place in choose_sound d next f sound following head e
judged_sound d next statements.Limits f sound place named e = let (following, head) = limits_in_head d place in limits_sound d next f sound following head e
judged_sound d next statements.DefClass f sound place named e = class_sound d next f sound (class_past_start d place) named e
judged_sound d next statements.Class f sound place named e = begin_sound d next f sound e
judged_sound d next (statements.Create kind) f sound place named e = create_sound d next kind f sound e
