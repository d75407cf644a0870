-- Tasks, time event handlers and objects, and their names.
use Rattle.std.specs.Prelude.{ℕ, ◌+◌, List, [], ◌∷◌, Option, None, Some, Result, Ok, Err, option_map}
use Rattle.std.specs.Option.{option_or}
use Rattle.fmp_codes.specs.Numbers.{as_object, as_task}
use Rattle.fmp_bytes.specs.Bytes.{comma, pieces_of}
use Rattle.fmp_codes.specs.declared.kinds.NameKind.TheVariants as names
use Rattle.fmp_codes.specs.declared.kinds.ObjectKind.{ObjectKind}
use Rattle.fmp_codes.specs.declared.kinds.ObjectKind.TheVariants as objects
use Rattle.fmp_names.specs.Names.{NameLists, number_of}
use Rattle.fmp_show_changes.specs.declared.life.things.Thing.{Thing}
use Rattle.fmp_show_changes.specs.declared.life.things.Thing.TheVariants as thing

-- the thing of a kind with this number
abbrev pub thing_of : ObjectKind → ℕ → Thing
thing_of objects.Task n = thing.Task (as_task n)
thing_of objects.Semaphore n = thing.Semaphore (as_object n)
thing_of objects.Eventflag n = thing.Eventflag (as_object n)
thing_of objects.DataQueue n = thing.DataQueue (as_object n)
thing_of objects.Pool n = thing.Pool (as_object n)
thing_of objects.Cyclic n = thing.Cyclic (as_object n)
thing_of objects.Alarm n = thing.Alarm (as_object n)
thing_of objects.SpinLock n = thing.SpinLock (as_object n)

-- the thing of this kind that has the name
abbrev pub named_as : NameLists → List ℕ → ObjectKind → Option Thing
named_as lists name kind = option_map (thing_of kind) (number_of lists (names.Object kind) name)

abbrev pub kinds : List ObjectKind
kinds = objects.Task ∷ objects.Semaphore ∷ objects.Eventflag ∷ objects.DataQueue ∷ objects.Pool ∷ objects.Cyclic ∷ objects.Alarm ∷ objects.SpinLock ∷ []

-- the thing of one of these kinds that has the name
abbrev pub named_among : NameLists → List ℕ → List ObjectKind → Option Thing
named_among lists name [] = None
named_among lists name (kind ∷ kinds) = option_or (named_as lists name kind) (named_among lists name kinds)

-- the thing that has the name: names are distinct, so there is one at most
unfoldable pub thing_named : NameLists → List ℕ → Option Thing
thing_named lists name = named_among lists name kinds

-- the thing of the name with number i in a list, before the others, or that it names nothing
abbrev pub before_others : Option Thing → ℕ → Result (List Thing) ℕ → Result (List Thing) ℕ
before_others None i others = Err i
before_others (Some x) i (Ok xs) = Ok (x ∷ xs)
before_others (Some x) i (Err j) = Err j

-- the things that these names name, which count from i on, or the number of the first name that names nothing
abbrev pub things_from : NameLists → ℕ → List (List ℕ) → Result (List Thing) ℕ
things_from lists i [] = Ok []
things_from lists i (name ∷ names) = before_others (thing_named lists name) i (things_from lists (i + 1) names)

-- the things that are named between commas, or the number, from 0, of the first name that names nothing
abbrev pub chosen_in : NameLists → List ℕ → Result (List Thing) ℕ
chosen_in lists text = things_from lists 0 (pieces_of comma text)
