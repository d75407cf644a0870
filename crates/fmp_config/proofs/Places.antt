-- Where a statement stands that may stand there.
use Rattle.std.proofs.Common.{◌≡◌, Bool, true, false, Option, Some, None, if◌then◌else◌, refl}
use Rattle.std.specs.Option.{option_map_or}
use Rattle.std.proofs.lemmas.Bool.{false≢true}
use Rattle.fmp_config_statements.specs.declared.fault.ConfigKind.{ConfigKind}
use Rattle.fmp_config_statements.specs.declared.fault.ConfigKind.TheVariants.{Syntax, TooMany, NoProcessors}
use Rattle.fmp_config_statements.specs.declared.table.StatementName.{StatementName}
use Rattle.fmp_config_statements.specs.declared.table.StatementName.TheVariants as statements
use Rattle.fmp_config.specs.declared.draft.OpenClass.{OpenClass}
use Rattle.fmp_config.specs.declared.draft.Phase.{Phase}
use Rattle.fmp_config.specs.declared.draft.Phase.TheVariants as phases
use Rattle.fmp_config.specs.Drafts.{Draft, is_start, is_body}
use Rattle.fmp_config.specs.Places.{place_fault}
use Rattle.fmp_setup.specs.Setup.{Setup}

-- the same in another configuration
pub place_beside : (d : Draft) (setup : Setup) (name : StatementName) → place_fault (record d { setup = setup }) name ≡ place_fault d name
unfolding place_fault
place_beside d setup name = refl

pub start_is_no_body : (phase : Phase) → is_start phase ≡ true → is_body phase ≡ false
start_is_no_body phases.Start start = refl
start_is_no_body phases.Head start = absurd (false≢true start)
start_is_no_body phases.Body start = absurd (false≢true start)

no_fault : (kind : ConfigKind) → Some kind ≡ None → ⊥
no_fault kind e = cc

at_start : (start : Bool) (o : Option OpenClass) → (if start then None else option_map_or (λ class. Some Syntax) o (Some TooMany)) ≡ None → start ≡ true
at_start true o e = refl
at_start false None e = absurd (no_fault TooMany e)
at_start false (Some class) e = absurd (no_fault Syntax e)

pub processors_at_start : (d : Draft) → place_fault d statements.Processors ≡ None → is_start d.phase ≡ true
unfolding place_fault
processors_at_start d e = at_start (is_start d.phase) d.open_class e

past_start : (start : Bool) (o : Option ConfigKind) → (if start then Some NoProcessors else o) ≡ None → start ≡ false
past_start true o e = absurd (no_fault NoProcessors e)
past_start false o e = refl

pub class_past_start : (d : Draft) → place_fault d statements.DefClass ≡ None → is_start d.phase ≡ false
unfolding place_fault
class_past_start d e = past_start (is_start d.phase) (option_map_or (λ class. Some Syntax) d.open_class None) e

in_head : (start stood body : Bool) (o : Option OpenClass) → (if start then Some NoProcessors else option_map_or (λ class. Some Syntax) o (if stood then Some TooMany else (if body then Some Syntax else None))) ≡ None → (start ≡ false) × (body ≡ false)
in_head true stood body o e = absurd (no_fault NoProcessors e)
in_head false stood body (Some class) e = absurd (no_fault Syntax e)
in_head false true body None e = absurd (no_fault TooMany e)
in_head false false true None e = absurd (no_fault Syntax e)
in_head false false false None e = (refl, refl)

pub timer_in_head : (d : Draft) → place_fault d statements.Timer ≡ None → (is_start d.phase ≡ false) × (is_body d.phase ≡ false)
unfolding place_fault
timer_in_head d e = in_head (is_start d.phase) d.timer_stood (is_body d.phase) d.open_class e

pub limits_in_head : (d : Draft) → place_fault d statements.Limits ≡ None → (is_start d.phase ≡ false) × (is_body d.phase ≡ false)
unfolding place_fault
limits_in_head d e = in_head (is_start d.phase) d.limits_stood (is_body d.phase) d.open_class e
