-- What was read stays sound where a name is defined.
use Rattle.std.proofs.Common.{◌≡◌, ℕ, Bool, true, false, Option, Some, None, if◌then◌else◌, Ok, Err, refl, subst}
use Rattle.std.specs.Prelude.{◌==◌}
use Rattle.std.specs.Option.{option_map_or}
use Rattle.fmp_bytes.specs.Results.{◌>>=◌}
use Rattle.fmp_names.specs.Names.{has_room_to_define, number_defined}
use Rattle.fmp_config_statements.specs.declared.directive.Directive.{Directive}
use Rattle.fmp_config_statements.specs.declared.directive.Directive.TheVariants as directives
use Rattle.fmp_config_statements.specs.declared.fault.ConfigKind.TheVariants.{Syntax, NameTaken, TooMany}
use Rattle.fmp_config_statements.specs.declared.table.StatementName.{StatementName}
use Rattle.fmp_config_statements.specs.Faults.{fault_at, fault_in, fault_of_line}
use Rattle.fmp_config_statements.specs.Words.{Word}
use Rattle.fmp_config.specs.declared.draft.OpenClass.{OpenClass}
use Rattle.fmp_config.specs.Drafts.{Draft, is_body}
use Rattle.fmp_config.specs.Judging.{define, ended}
use Rattle.fmp_config.specs.Objects.{new_name}
use Rattle.fmp_config.specs.Places.{place_fault}
use Rattle.fmp_config.specs.Sound.{IsSound, IsSoundOpen}
use Rattle.fmp_config.proofs.Places.{place_beside}
use Rattle.fmp_config.proofs.Steps.{bound, not_ok, ok_is, passed, refused}
use Rattle.fmp_setup.specs.Building.{is_refused, with_defined}
use Rattle.fmp_setup.specs.Setup.{Setup}
use Rattle.fmp_setup.proofs.Growing.{defined_added}

pub new_and_room : (c : Setup) (room : Bool) (line : ℕ) (name : Word) → new_name c room line name ≡ Ok tt → (is_refused c name.text ≡ false) × (room ≡ true)
unfolding new_name
new_and_room c room line name e =
    let (new, following) = refused (is_refused c name.text) (if room then Ok tt else Err (fault_in TooMany line name)) (fault_at NameTaken name) tt e in
    (new, (passed room (Ok tt) (fault_in TooMany line name) tt following).0)

-- the class that is open is still one where all classes and processors stay, and the text has come as far
pub still_open : (d e : Draft) (o : Option OpenClass) → d.setup.classes ≡ e.setup.classes → d.setup.processors ≡ e.setup.processors → (is_body d.phase ≡ true → is_body e.phase ≡ true) → IsSoundOpen d o → IsSoundOpen e o
still_open d e None classes processors body sound = tt
still_open d e (Some o) classes processors body sound = ((rw (← classes) sound.0.0, rw (← processors) sound.0.1), body sound.1)

defined : (d : Draft) (name : Word) (number : ℕ) → IsSound d → is_refused d.setup name.text ≡ false → IsSound (record d { setup = with_defined d.setup name.text number })
unfolding with_defined
defined d name number sound new =
    record {
      valid = defined_added d.setup sound.valid name.text number new;
      open_class = still_open d (record d { setup = with_defined d.setup name.text number }) d.open_class refl refl (λ body. body) sound.open_class;
      before_classes = λ head. let none = sound.before_classes head in record { tasks = none.tasks; cyclics = none.cyclics; alarms = none.alarms };
      before_processors = λ start. let none = sound.before_processors start in record { classes = none.classes; timer = none.timer };
    }

defining : (d next : Draft) (line : ℕ) (name : Word) (number : ℕ) (o : Option ℕ) → IsSound d
    → option_map_or (λ n. if n == number then Ok d else Err (fault_at NameTaken name)) o (new_name d.setup (has_room_to_define d.setup.names) line name >>= λ unit. Ok (record d { setup = with_defined d.setup name.text number })) ≡ Ok next
    → IsSound next × ((other : StatementName) → place_fault next other ≡ place_fault d other)
defining d next line name number (Some n) sound e =
    let same = ok_is d next (passed (n == number) (Ok d) (fault_at NameTaken name) next e).1 in
    subst (λ (x : Draft). IsSound x × ((other : StatementName) → place_fault x other ≡ place_fault d other)) same (sound, λ other. refl)
defining d next line name number None sound e =
    let (unit, new, here) = bound (new_name d.setup (has_room_to_define d.setup.names) line name) (λ unit. Ok (record d { setup = with_defined d.setup name.text number })) next e in
    let free = (new_and_room d.setup (has_room_to_define d.setup.names) line name new).0 in
    subst (λ (x : Draft). IsSound x × ((other : StatementName) → place_fault x other ≡ place_fault d other)) (ok_is (record d { setup = with_defined d.setup name.text number }) next here)
    (defined d name number sound free, λ other. place_beside d (with_defined d.setup name.text number) other)

pub define_sound : (d next : Draft) (line : ℕ) (name : Word) (number : ℕ) → IsSound d → define d line name number ≡ Ok next → IsSound next × ((other : StatementName) → place_fault next other ≡ place_fault d other)
unfolding define
define_sound d next line name number sound e = defining d next line name number (number_defined d.setup.names name.text) sound e

-- a directive changes nothing but names, so statements may stand where they might before
pub ended_sound : (d next : Draft) (directive : Directive) → IsSound d → ended d directive ≡ Ok next → IsSound next × ((other : StatementName) → place_fault next other ≡ place_fault d other)
unfolding ended
ended_sound d next (directives.Defining line name number) sound e = define_sound d next line name number sound e
ended_sound d next (directives.Marked line) sound e = absurd (not_ok (fault_of_line Syntax line) next e)
ended_sound d next _ sound e = subst (λ (x : Draft). IsSound x × ((other : StatementName) → place_fault x other ≡ place_fault d other)) (ok_is d next e) (sound, λ other. refl)
