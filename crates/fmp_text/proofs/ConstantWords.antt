-- The words of the constants, and their kinds.
use Rattle.std.proofs.Common.{◌≡◌, pos, negsuc, true, List, ℕ, Option, Some, None, refl, sym, ap, ◌∙◌}
use Rattle.std.specs.Prelude.{find, is_some, option_and_then}
use Rattle.std.specs.Str.{bytes_eq}
use Rattle.std.proofs.lemmas.Slice.Eq.{bytes_eq-Decides}
use Rattle.fmp_bytes.specs.Bytes.{is_of, is_identifier}
use Rattle.fmp_codes.specs.declared.calls.Mode.TheVariants as modes
use Rattle.fmp_codes.specs.declared.kinds.ArgumentKind.{ArgumentKind}
use Rattle.fmp_codes.specs.declared.kinds.ArgumentKind.TheVariants as kinds
use Rattle.fmp_codes.specs.declared.kinds.ObjectKind.TheVariants as objects
use Rattle.fmp_codes.specs.declared.kinds.Value.{Value}
use Rattle.fmp_codes.specs.declared.kinds.Value.TheVariants as values
use Rattle.fmp_names.specs.declared.constants.Constant.{Constant}
use Rattle.fmp_names.specs.declared.constants.Constant.TheVariants.{TskSelf, TpriSelf, TpriIni, TprcIni, TmoPol, TmoFevr, TwfAndw, TwfOrw}
use Rattle.fmp_text.specs.Argument.{constant_of}
use Rattle.fmp_names.specs.Constants.{all_constants, constant_in, value_of, word_of}
use Rattle.fmp_names.specs.Names.{is_constant}
use Rattle.fmp_calls.proofs.Found.{found_passes}
use Rattle.fmp_bytes.proofs.Parsed.{and_then_parts}

word_is_name : (constant : Constant) → is_identifier (word_of constant) ≡ true
unfolding is_of
word_is_name TskSelf = refl
word_is_name TpriSelf = refl
word_is_name TpriIni = refl
word_is_name TprcIni = refl
word_is_name TmoPol = refl
word_is_name TmoFevr = refl
word_is_name TwfAndw = refl
word_is_name TwfOrw = refl

-- a constant of a kind is an identifier and one of the constants
pub constant_word : (kind : ArgumentKind) (word : List ℕ) (value : Value) → constant_of kind word ≡ Some value → (is_identifier word ≡ true) × (is_constant word ≡ true)
unfolding constant_of is_constant
constant_word kind word value e =
    let p = and_then_parts (find (λ c. bytes_eq (word_of c) word) all_constants) (λ c. value_of c kind) value e in
    let same = (bytes_eq-Decides (word_of p.0) word).0 (found_passes (λ c. bytes_eq (word_of c) word) all_constants p.0 p.1) in
    (ap is_identifier (sym same) ∙ word_is_name p.0, ap is_some p.1)

-- the kind and the value of a constant
meaning : (constant : Constant) → (kind : ArgumentKind) × (value : Value) × (value_of constant kind ≡ Some value)
meaning TskSelf = (kinds.Object objects.Task, values.Number (pos 0), refl)
meaning TpriSelf = (kinds.Priority, values.Number (pos 0), refl)
meaning TpriIni = (kinds.Priority, values.Number (pos 0), refl)
meaning TprcIni = (kinds.Processor, values.Number (pos 0), refl)
meaning TmoPol = (kinds.Timeout, values.Number (pos 0), refl)
meaning TmoFevr = (kinds.Timeout, values.Number (negsuc 0), refl)
meaning TwfAndw = (kinds.Mode, values.Mode modes.Andw, refl)
meaning TwfOrw = (kinds.Mode, values.Mode modes.Orw, refl)

found_meaning : (found : Option Constant) → is_some found ≡ true → (kind : ArgumentKind) × (value : Value) × (option_and_then (λ c. value_of c kind) found ≡ Some value)
found_meaning None e = absurd cc
found_meaning (Some c) e = meaning c

pub constant_has_kind : (word : List ℕ) → is_constant word ≡ true → (kind : ArgumentKind) × (value : Value) × (constant_of kind word ≡ Some value)
unfolding is_constant constant_of
constant_has_kind word e = found_meaning (constant_in word) e
