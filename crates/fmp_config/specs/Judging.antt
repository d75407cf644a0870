-- What a whole statement or directive says, or its first fault.
use Rattle.std.specs.Prelude.{ℕ, true, length, Some, Result, Ok, Err, nat_lt, ◌==◌, if◌then◌else◌}
use Rattle.std.specs.Option.{ok_or, option_map_or}
use Rattle.fmp_bytes.specs.Results.{◌>>=◌}
use Rattle.fmp_codes.specs.Numbers.{as_proc}
use Rattle.fmp_names.specs.Names.{number_defined, has_room_to_define}
use Rattle.fmp_config_statements.specs.declared.directive.Directive.{Directive}
use Rattle.fmp_config_statements.specs.declared.directive.Directive.TheVariants as directives
use Rattle.fmp_config_statements.specs.declared.fault.ConfigKind.TheVariants.{Syntax, UnknownClass, NameTaken}
use Rattle.fmp_config_statements.specs.declared.table.StatementName.{StatementName}
use Rattle.fmp_config_statements.specs.declared.table.StatementName.TheVariants as statements
use Rattle.fmp_config_statements.specs.Faults.{Fault, fault_at, fault_of_line}
use Rattle.fmp_config_statements.specs.Forms.{Form}
use Rattle.fmp_config_statements.specs.Words.{Word}
use Rattle.fmp_config.specs.declared.draft.Phase.TheVariants as phases
use Rattle.fmp_config.specs.Drafts.{Draft}
use Rattle.fmp_config.specs.Numbers.{number_within, numbers_of, class_of}
use Rattle.fmp_setup.specs.declared.setup.Timer.{Timer}
use Rattle.fmp_setup.specs.declared.setup.Timer.TheVariants as timer
use Rattle.fmp_setup.specs.Building.{class_named, with_class, with_defined, with_timer, with_limits, with_processors}
use Rattle.fmp_setup.specs.Setup.{Setup}
use Rattle.fmp_config.specs.Objects.{new_name, create}

-- ---- directives

-- a name that is to stand for a number: the same once more changes nothing
unfoldable pub define : Draft → ℕ → Word → ℕ → Result Draft Fault
define d line name number =
    option_map_or (λ n. if n == number then Ok d else Err (fault_at NameTaken name)) (number_defined d.setup.names name.text)
    (new_name d.setup (has_room_to_define d.setup.names) line name >>= λ unit. Ok (record d { setup = with_defined d.setup name.text number }))

-- the end of a directive
unfoldable pub ended : Draft → Directive → Result Draft Fault
ended d (directives.Marked line) = Err (fault_of_line Syntax line)
ended d (directives.Defining line name number) = define d line name number
ended d _ = Ok d

-- ---- statements

unfoldable pub count_processors : Draft → Form → Result Draft Fault
count_processors d f = numbers_of d.setup statements.Processors f.pieces >>= λ n. Ok (record d { setup = with_processors d.setup n.first; phase = phases.Head })

-- the processors whose ticks count: each for itself, or the one that is named
unfoldable pub timer_of : Setup → Word → Result Timer Fault
timer_of c word =
    if length word.text == 0 then Ok timer.Local
    else (number_within c.names (record { least = 1; most = c.processors }) word >>= λ n. Ok (timer.Global (as_proc n)))

unfoldable pub choose_timer : Draft → Form → Result Draft Fault
choose_timer d f = timer_of d.setup f.pieces.first >>= λ t. Ok (record d { setup = with_timer d.setup t; timer_stood = true })

unfoldable pub set_limits : Draft → Form → Result Draft Fault
set_limits d f =
    numbers_of d.setup statements.Limits f.pieces
    >>= λ n. Ok (record d { setup = with_limits d.setup (record { wakeups = n.first; priorities = n.second }); limits_stood = true })

unfoldable pub define_class : Draft → Form → Result Draft Fault
define_class d f = do
  new ← new_name d.setup (nat_lt (length d.setup.classes) 32) f.line f.pieces.name
  class ← class_of d.setup f.line f.pieces
  Ok (record d { setup = with_class d.setup f.pieces.name.text class })

unfoldable pub begin_class : Draft → Form → Result Draft Fault
begin_class d f =
    ok_or (class_named d.setup f.pieces.name.text) (fault_at UnknownClass f.pieces.name)
    >>= λ class. Ok (record d { open_class = Some (record { line = f.line; class = class }); phase = phases.Body })

-- what a whole statement says
unfoldable pub judged : Draft → StatementName → Form → Result Draft Fault
judged d statements.Include f = Ok d
judged d statements.Processors f = count_processors d f
judged d statements.Timer f = choose_timer d f
judged d statements.Limits f = set_limits d f
judged d statements.DefClass f = define_class d f
judged d statements.Class f = begin_class d f
judged d (statements.Create kind) f = create d kind f
