-- The name that is nearest to a word in the place of an argument.
use Rattle.std.specs.Prelude.{ℕ, List, [], ◌∷◌, Option, None, codes}
use Rattle.fmp_codes.specs.declared.kinds.ArgumentKind.{ArgumentKind}
use Rattle.fmp_codes.specs.declared.kinds.ArgumentKind.TheVariants as arguments
use Rattle.fmp_codes.specs.declared.kinds.NameKind.TheVariants.{Object}
use Rattle.fmp_codes.specs.declared.kinds.ObjectKind.TheVariants.{Task}
use Rattle.fmp_cli_help.specs.Near.{nearest}
use Rattle.fmp_names.specs.Names.{NameLists, names_of}

-- the constants of a kind
abbrev pub constants_of : ArgumentKind → List (List ℕ)
constants_of (arguments.Object Task) = codes "TSK_SELF" ∷ []
constants_of arguments.Priority = codes "TPRI_SELF" ∷ codes "TPRI_INI" ∷ []
constants_of arguments.Processor = codes "TPRC_INI" ∷ []
constants_of arguments.Timeout = codes "TMO_POL" ∷ codes "TMO_FEVR" ∷ []
constants_of arguments.Mode = codes "TWF_ANDW" ∷ codes "TWF_ORW" ∷ []
constants_of kind = []

-- the objects of a kind
abbrev pub objects_of : NameLists → ArgumentKind → List (List ℕ)
objects_of names (arguments.Object kind) = names_of names (Object kind)
objects_of names kind = []

-- the nearest object or constant
unfoldable pub near_argument : NameLists → ArgumentKind → List ℕ → Option (List ℕ)
near_argument names kind word = nearest word (nearest word None (objects_of names kind)) (constants_of kind)
