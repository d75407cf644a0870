-- Where a statement may stand.
use Rattle.std.specs.Prelude.{Option, Some, None, if◌then◌else◌}
use Rattle.std.specs.Option.{option_map_or}
use Rattle.fmp_config_statements.specs.declared.fault.ConfigKind.{ConfigKind}
use Rattle.fmp_config_statements.specs.declared.fault.ConfigKind.TheVariants.{Syntax, OutsideClass, TooMany, NoProcessors}
use Rattle.fmp_config_statements.specs.declared.table.StatementName.{StatementName}
use Rattle.fmp_config_statements.specs.declared.table.StatementName.TheVariants as statements
use Rattle.fmp_config.specs.Drafts.{Draft, is_start, is_body}

-- outside a class, after the number of processors: the kind of fault of a statement that may not stand there
abbrev pub fault_outside : Draft → StatementName → Option ConfigKind
fault_outside d statements.Include = None
fault_outside d statements.Processors = Some TooMany
fault_outside d statements.Timer = if d.timer_stood then Some TooMany else (if is_body d.phase then Some Syntax else None)
fault_outside d statements.Limits = if d.limits_stood then Some TooMany else (if is_body d.phase then Some Syntax else None)
fault_outside d statements.DefClass = None
fault_outside d statements.Class = None
fault_outside d (statements.Create kind) = Some OutsideClass

-- in a class
abbrev pub fault_inside : StatementName → Option ConfigKind
fault_inside statements.Include = None
fault_inside (statements.Create kind) = None
fault_inside _ = Some Syntax

-- before the number of processors
abbrev pub fault_before : StatementName → Option ConfigKind
fault_before statements.Include = None
fault_before statements.Processors = None
fault_before _ = Some NoProcessors

unfoldable pub place_fault : Draft → StatementName → Option ConfigKind
place_fault d name =
    if is_start d.phase then fault_before name else option_map_or (λ class. fault_inside name) d.open_class (fault_outside d name)
