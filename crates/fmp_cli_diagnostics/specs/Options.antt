-- The words of a command line that say which form fault lines have.
use Rattle.std.specs.Prelude.{ℕ, ◌==◌, ◌||◌, Bool, String, List, [], ◌∷◌, codes, if◌then◌else◌}
use Rattle.std.specs.Global.{Global}
use Rattle.std.specs.List.{starts_with}
use Rattle.std.specs.Str.{bytes_eq}
use Rattle.fmp_cli_diagnostics.specs.declared.option.LineForm.{LineForm}
use Rattle.fmp_cli_diagnostics.specs.declared.option.LineForm.TheVariants.{Plain, Gcc, Other}

-- the form without such a word
abbrev pub plain : LineForm
plain = Plain

-- the option, with whatever value
unfoldable pub is_option : List ℕ → Bool
is_option word = bytes_eq word (codes "--diagnostics") || starts_with ◌==◌ word (codes "--diagnostics=")

-- the form by a word, after others that say this one
unfoldable pub form_after : LineForm → List ℕ → LineForm
form_after form word =
    if bytes_eq word (codes "--diagnostics=gcc") then Gcc
    else (if bytes_eq word (codes "--diagnostics=plain") then Plain
    else (if is_option word then Other else form))

-- the form by these words
abbrev pub form_from : LineForm → List (String Global) → LineForm
form_from form [] = form
form_from form (word ∷ words) = form_from (form_after form word.bytes.items) words
