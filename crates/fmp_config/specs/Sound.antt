-- What holds of what was read, as statements and directives are read.
use Rattle.std.specs.Prelude.{◌≡◌, ℕ, ◌≤◌, true, false, [], Option, Some, None}
use Rattle.fmp_codes.specs.declared.kinds.ObjectKind.{ObjectKind}
use Rattle.fmp_codes.specs.declared.kinds.ObjectKind.TheVariants as objects
use Rattle.fmp_names.specs.Names.{is_name}
use Rattle.fmp_config_statements.specs.declared.directive.Directive.{Directive}
use Rattle.fmp_config_statements.specs.declared.directive.Directive.TheVariants.{Numbering, Defining}
use Rattle.fmp_config_statements.specs.declared.table.StatementName.{StatementName}
use Rattle.fmp_config_statements.specs.declared.table.StatementName.TheVariants as statements
use Rattle.fmp_config_statements.specs.Forms.{Form}
use Rattle.fmp_config_statements.specs.Named.{IsPromised}
use Rattle.fmp_config_statements.specs.Words.{Word}
use Rattle.fmp_config.specs.declared.draft.OpenClass.{OpenClass}
use Rattle.fmp_config.specs.declared.numbers.Numbers.{Numbers}
use Rattle.fmp_config.specs.Drafts.{Draft, is_start, is_body}
use Rattle.fmp_config.specs.Places.{place_fault}
use Rattle.fmp_config.specs.Reading.{State}
use Rattle.fmp_setup.specs.declared.setup.Timer.TheVariants as timer
use Rattle.fmp_setup.specs.Building.{IsSoundClass, has_function}
use Rattle.fmp_setup.specs.Setup.{Setup}
use Rattle.fmp_setup.specs.Valid.{IsValid}

-- the class that is open is one of the configuration
abbrev pub IsSoundOpen : Draft → Option OpenClass → Type 0
IsSoundOpen d None = Unit {0}
IsSoundOpen d (Some o) = IsSoundClass d.setup o.class × (is_body d.phase ≡ true)

-- no object whose timer, priority or class could be another one
pub record HasNoObjects (c : Setup) : Type 0 where
  pub tasks : c.tasks ≡ []
  pub cyclics : c.cyclics ≡ []
  pub alarms : c.alarms ≡ []

-- nothing that depends on the number of processors
pub record HasNoClasses (c : Setup) : Type 0 where
  pub classes : c.classes ≡ []
  pub timer : c.timer ≡ timer.Local

pub record IsSound (d : Draft) : Type 0 where
  pub valid : IsValid d.setup
  pub open_class : IsSoundOpen d d.open_class
  pub before_classes : is_body d.phase ≡ false → HasNoObjects d.setup
  pub before_processors : is_start d.phase ≡ true → HasNoClasses d.setup

-- a name and a number that a directive can define
abbrev pub MayStandFor : Word → ℕ → Type 0
MayStandFor name number = (is_name name.text ≡ true) × (number ≤ 4294967295)

abbrev pub IsSoundDirective : Directive → Type 0
IsSoundDirective (Numbering line name) = is_name name.text ≡ true
IsSoundDirective (Defining line name number) = MayStandFor name number
IsSoundDirective _ = Unit {0}

-- the numbers of an object are such that its fields can hold them
abbrev pub Fit : ObjectKind → Numbers → Type 0
Fit objects.Task n = (1 ≤ n.first) × (n.first ≤ 32)
Fit objects.Semaphore n = (n.first ≤ 65535) × (n.second ≤ 65535)
Fit objects.Eventflag n = n.first ≤ 4294967295
Fit objects.DataQueue n = n.first ≤ 1024
Fit objects.Pool n = n.first ≤ 64
Fit objects.Cyclic n = (n.first ≤ 2147483647) × (n.second ≤ 2147483647)
Fit objects.Alarm n = Unit {0}
Fit objects.SpinLock n = Unit {0}

-- a whole statement has the names that it has to have
abbrev pub IsNamedAs : StatementName → Form → Type 0
IsNamedAs statements.DefClass f = is_name f.pieces.name.text ≡ true
IsNamedAs (statements.Create kind) f = (is_name f.pieces.name.text ≡ true) × (has_function kind ≡ true → is_name f.pieces.function.text ≡ true)
IsNamedAs _ f = Unit {0}

abbrev pub IsWhole : Form → Type 0
IsWhole f = IsNamedAs f.name f

-- a statement that stands where it may stand, and has its names or will have them
abbrev pub IsSoundForm : Draft → Option Form → Type 0
IsSoundForm d None = Unit {0}
IsSoundForm d (Some f) = (place_fault d f.name ≡ None) × IsPromised f

pub record IsSoundState (s : State) : Type 0 where
  pub draft : IsSound s.draft
  pub form : IsSoundForm s.draft s.form
  pub directive : IsSoundDirective s.directive
