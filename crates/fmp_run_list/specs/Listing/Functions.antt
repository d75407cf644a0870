-- The lines of the functions, and the name of a function in other lines.
use Rattle.std.specs.Prelude.{ℕ, ◌+◌, unwrap_or, List, [], ◌∷◌, ◌++◌, codes, decimal}
use Rattle.fmp_codes.specs.declared.kinds.NameKind.TheVariants.{Function}
use Rattle.fmp_names.specs.Names.{name_of}
use Rattle.fmp_setup.specs.Setup.{Setup}

-- the name of the function of this number
unfoldable pub function_name : Setup → ℕ → List ℕ
function_name c n = unwrap_or (name_of c.names Function n) (codes "-")

unfoldable pub function_line : ℕ → List ℕ → List ℕ
function_line n name = codes "function " ++ decimal n ++ codes " " ++ name ++ codes "\n"

-- functions of these names, of which the first has number n
abbrev pub functions_from : ℕ → List (List ℕ) → List ℕ
functions_from n [] = []
functions_from n (name ∷ names) = function_line n name ++ functions_from (n + 1) names
