-- believed: see docs/PROOF.md, "What has to be believed"
-- A name that is to be new, and what the statement of an object says, or its first fault.
use Rattle.std.specs.Prelude.{ℕ, Bool, true, false, not, ◌&&◌, List, [], ◌∷◌, Result, Ok, Err, nat_le, if◌then◌else◌}
use Rattle.std.specs.Option.{option_map_or}
use Rattle.fmp_bytes.specs.Results.{◌>>=◌}
use Rattle.fmp_codes.specs.Numbers.{as_pri}
use Rattle.fmp_codes.specs.declared.numbers.Proc.{Proc}
use Rattle.fmp_codes.specs.declared.kinds.NameKind.TheVariants.{Object}
use Rattle.fmp_codes.specs.declared.kinds.ObjectKind.{ObjectKind}
use Rattle.fmp_codes.specs.declared.kinds.ObjectKind.TheVariants as objects
use Rattle.fmp_names.specs.Names.{has_room}
use Rattle.fmp_config_statements.specs.declared.attributes.Attributes.{Attributes}
use Rattle.fmp_config_statements.specs.declared.fault.ConfigKind.TheVariants.{OutsideClass, NameTaken, OutOfRange, TooMany, ForeignHandler}
use Rattle.fmp_config_statements.specs.declared.table.StatementName.TheVariants as statements
use Rattle.fmp_config_statements.specs.Attributes.{attributes_in}
use Rattle.fmp_config_statements.specs.Faults.{Fault, fault_at, fault_in, fault_of_line}
use Rattle.fmp_config_statements.specs.Forms.{Form}
use Rattle.fmp_config_statements.specs.Table.{allowed_of}
use Rattle.fmp_config_statements.specs.Words.{Word}
use Rattle.fmp_config.specs.declared.numbers.Numbers.{Numbers}
use Rattle.fmp_config.specs.Drafts.{Draft}
use Rattle.fmp_config.specs.Numbers.{numbers_of}
use Rattle.fmp_setup.specs.declared.parts.Fields.{Fields}
use Rattle.fmp_setup.specs.declared.parts.Fields.TheVariants as fields
use Rattle.fmp_setup.specs.declared.setup.Class.{Class}
use Rattle.fmp_setup.specs.declared.setup.Order.{Order}
use Rattle.fmp_setup.specs.declared.setup.Order.TheVariants as orders
use Rattle.fmp_setup.specs.declared.setup.Timer.{Timer}
use Rattle.fmp_setup.specs.declared.setup.Timer.TheVariants as timer
use Rattle.fmp_setup.specs.Building.{is_refused, with_object}
use Rattle.fmp_setup.specs.Setup.{Setup, alone}

-- a name that is to be new, where there is room for one more
unfoldable pub new_name : Setup → Bool → ℕ → Word → Result (Unit {0}) Fault
new_name c room line name =
    if is_refused c name.text then Err (fault_at NameTaken name) else (if room then Ok tt else Err (fault_in TooMany line name))

-- a semaphore counts at boot to its greatest count at most
abbrev pub counts_fit : ObjectKind → Numbers → Bool
counts_fit objects.Semaphore n = nat_le n.first n.second
counts_fit kind n = true

unfoldable pub fitting_counts : ObjectKind → Numbers → Word → Result (Unit {0}) Fault
fitting_counts kind n first = if counts_fit kind n then Ok tt else Err (fault_at OutOfRange first)

-- two lists are the same
abbrev pub same : List Bool → List Bool → Bool
same [] [] = true
same (a ∷ xs) (b ∷ ys) = (if a then b else not b) && same xs ys
same _ _ = false

-- the class has this processor alone
abbrev pub is_alone : Proc → Class → Bool
is_alone master class = same class.members (alone master)

-- ticks on the processors of the class count, and those of no other processor count for it
abbrev pub is_served : Timer → Class → Bool
is_served timer.Local class = true
is_served (timer.Global master) class = is_alone master class

-- a handler is one of a class that has the processor alone whose ticks count
abbrev pub is_handled : Timer → Class → ObjectKind → Bool
is_handled timer class objects.Cyclic = is_served timer class
is_handled timer class objects.Alarm = is_served timer class
is_handled timer class kind = true

unfoldable pub served : Timer → Class → ObjectKind → ℕ → Word → Result (Unit {0}) Fault
served timer class kind line name = if is_handled timer class kind then Ok tt else Err (fault_in ForeignHandler line name)

abbrev pub order_of : Attributes → Order
order_of a = if a.by_priority then orders.Priority else orders.First

-- what the attributes and numbers of an object say
abbrev pub fields_of : ObjectKind → Attributes → Numbers → Fields
fields_of objects.Task a n = fields.Task (record { starts = a.starts; priority = as_pri n.first })
fields_of objects.Semaphore a n = fields.Semaphore (record { order = order_of a; initial = n.first; most = n.second })
fields_of objects.Eventflag a n = fields.Eventflag (record { order = order_of a; many = a.many; clears = a.clears; initial = n.first })
fields_of objects.DataQueue a n = fields.DataQueue (record { order = order_of a; capacity = n.first })
fields_of objects.Pool a n = fields.Pool (record { order = order_of a; blocks = n.first })
fields_of objects.Cyclic a n = fields.Cyclic (record { period = n.first; phase = n.second; starts = a.starts })
fields_of objects.Alarm a n = fields.Alarm
fields_of objects.SpinLock a n = fields.SpinLock

-- an object that is created in a class
unfoldable pub fields_in : Setup → Class → ObjectKind → Form → Result Fields Fault
fields_in c class kind f = do
  new ← new_name c (has_room c.names (Object kind)) f.line f.pieces.name
  own ← served c.timer class kind f.line f.pieces.name
  attributes ← attributes_in (allowed_of kind) f.pieces.series
  n ← numbers_of c (statements.Create kind) f.pieces
  fit ← fitting_counts kind n f.pieces.first
  Ok (fields_of kind attributes n)

unfoldable pub create_in : Draft → Class → ObjectKind → Form → Result Draft Fault
create_in d class kind f =
    fields_in d.setup class kind f >>= λ fields. Ok (record d { setup = with_object d.setup class f.pieces.name.text f.pieces.function.text fields })

unfoldable pub create : Draft → ObjectKind → Form → Result Draft Fault
create d kind f = option_map_or (λ o. create_in d o.class kind f) d.open_class (Err (fault_of_line OutsideClass f.line))
