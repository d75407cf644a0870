-- That tasks wait for ever: what `deadlock` asks.
use Rattle.std.specs.Prelude.{ℕ, false, not, List, [], ◌∷◌, ◌++◌, filter, map, Option, None, Some, codes}
use Rattle.fmp_bytes.specs.Bytes.{space, pieces_of}
use Rattle.fmp_codes.specs.declared.kinds.ObjectKind.TheVariants.{Task}
use Rattle.fmp_codes.specs.declared.kinds.NameKind.TheVariants.{Object}
use Rattle.fmp_names.specs.Names.{NameLists, names_of, has_name}
use Rattle.fmp_search_pattern.specs.declared.items.Wanted.TheVariants as wanted
use Rattle.fmp_search_pattern.specs.Items.{Item}
use Rattle.fmp_search_pattern.specs.Lasting.{Lasting}

-- the moment of one pattern, which has no star
abbrev pub only : List ℕ → List (List Item)
only words = (record { negated = false; wanted = wanted.Line (words ∷ []) } ∷ []) ∷ []

-- that a task waits: a fact of the state, whether it is suspended too or not
abbrev pub waits : List ℕ → Lasting
waits name = only (space ∷ name ++ codes " waits ")

-- those that are listed after `but`, if it stands there
abbrev pub comma : ℕ
comma = 44

abbrev pub listed_in : Option (List ℕ) → List (List ℕ)
listed_in None = []
listed_in (Some list) = pieces_of comma list

-- one for each of some names but these
abbrev pub waits_of : List (List ℕ) → List (List ℕ) → List Lasting
waits_of but names = map waits (filter (λ name. not (has_name but name)) names)

abbrev pub tasks_of : NameLists → List (List ℕ)
tasks_of names = names_of names (Object Task)

-- and for each task
abbrev pub waits_but : NameLists → List (List ℕ) → List Lasting
waits_but names but = waits_of but (tasks_of names)
