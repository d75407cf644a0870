-- believed: see docs/PROOF.md, "What has to be believed"
-- How names, values, calls and events are printed.
use Rattle.std.specs.Prelude.{ℕ, zero, suc, ◌+◌, ℤ, pos, negsuc, List, [], ◌∷◌, ◌++◌, unwrap_or, if◌then◌else◌, codes, decimal}
use Rattle.std.specs.Fmt.{signed_decimal}
use Rattle.fmp_codes.specs.declared.calls.Call.{Call}
use Rattle.fmp_codes.specs.declared.calls.Mode.{Mode}
use Rattle.fmp_codes.specs.declared.calls.Mode.TheVariants as modes
use Rattle.fmp_codes.specs.declared.records.Event.{Event}
use Rattle.fmp_codes.specs.declared.records.Event.TheVariants as events
use Rattle.fmp_codes.specs.declared.kinds.ArgumentKind.{ArgumentKind}
use Rattle.fmp_codes.specs.declared.kinds.ArgumentKind.TheVariants as kinds
use Rattle.fmp_codes.specs.declared.kinds.NameKind.TheVariants.{Object}
use Rattle.fmp_codes.specs.declared.kinds.ObjectKind.{ObjectKind}
use Rattle.fmp_codes.specs.declared.kinds.ObjectKind.TheVariants as objects
use Rattle.fmp_codes.specs.declared.kinds.Value.{Value}
use Rattle.fmp_codes.specs.declared.kinds.Value.TheVariants as values
use Rattle.fmp_names.specs.Names.{NameLists, name_of}
use Rattle.fmp_calls.specs.Table as table

-- the name of an object, or the number where no object has it
unfoldable pub named : NameLists → ObjectKind → ℕ → List ℕ
named lists kind n = unwrap_or (name_of lists (Object kind) n) (decimal n)

-- an argument that stands for an object: 0 is the caller where a task is meant
unfoldable pub object_text : NameLists → ObjectKind → ℤ → List ℕ
object_text lists objects.Task (pos zero) = codes "TSK_SELF"
object_text lists kind (pos n) = named lists kind n
object_text lists kind (negsuc n) = signed_decimal (negsuc n)

abbrev pub mode_text : Mode → List ℕ
mode_text modes.Andw = codes "TWF_ANDW"
mode_text modes.Orw = codes "TWF_ORW"

-- an argument of this kind
unfoldable pub value_text : NameLists → ArgumentKind → Value → List ℕ
value_text lists (kinds.Object kind) (values.Number n) = object_text lists kind n
value_text lists kind (values.Number n) = signed_decimal n
value_text lists kind (values.Pattern bits) = decimal bits
value_text lists kind (values.Data value) = signed_decimal value
value_text lists kind (values.Mode mode) = mode_text mode

-- what stands before the argument at this index
abbrev pub separator : ℕ → List ℕ
separator zero = []
separator (suc i) = codes ", "

-- the arguments from this index on, with a comma and a blank between them
abbrev pub arguments_from : NameLists → ℕ → List ArgumentKind → List Value → List ℕ
arguments_from lists i [] values = []
arguments_from lists i (kind ∷ kinds) [] = []
arguments_from lists i (kind ∷ kinds) (value ∷ values) = separator i ++ value_text lists kind value ++ arguments_from lists (i + 1) kinds values

-- what stands after a call's name: nothing where the call is bare, else its arguments in parentheses
unfoldable pub after_name : NameLists → Call → List ℕ
after_name lists call =
    if table.is_bare call then []
    else (codes "(" ++ arguments_from lists 0 (table.kinds_of call) (table.values_of call) ++ codes ")")

-- a call with its arguments
unfoldable pub call_text : NameLists → Call → List ℕ
call_text lists call = table.text_of call ++ after_name lists call

-- an event without its processor
abbrev pub event_text : NameLists → Event → List ℕ
event_text lists (events.Call p call) = call_text lists call
event_text lists (events.Tick p) = codes "tick"
event_text lists (events.Ipi p) = codes "ipi"
