-- The nearest of all tasks, handlers and objects of a configuration.
use Rattle.std.specs.Prelude.{ℕ, List, [], ◌∷◌, Option, None}
use Rattle.fmp_codes.specs.declared.kinds.NameKind.TheVariants.{Object}
use Rattle.fmp_codes.specs.declared.kinds.ObjectKind.{ObjectKind}
use Rattle.fmp_cli_help.specs.Near.{nearest}
use Rattle.fmp_cli_hints.specs.declared.things.TheConstants.{KINDS}
use Rattle.fmp_names.specs.Names.{NameLists, names_of}

-- the nearest of the objects of these kinds and the best name before them
abbrev pub near_name : NameLists → List ℕ → Option (List ℕ) → List ObjectKind → Option (List ℕ)
near_name names word best [] = best
near_name names word best (kind ∷ kinds) = near_name names word (nearest word best (names_of names (Object kind))) kinds

-- the nearest of all of them
unfoldable pub near_thing : NameLists → List ℕ → Option (List ℕ)
near_thing names word = near_name names word None KINDS
