-- believed: see docs/PROOF.md, "What has to be believed"
-- The words that stand for values in the arguments of calls.
use Rattle.std.specs.Prelude.{ℕ, pos, negsuc, List, [], ◌∷◌, Option, Some, None, find, codes}
use Rattle.std.specs.Str.{bytes_eq}
use Rattle.fmp_codes.specs.declared.calls.Mode.TheVariants.{Andw, Orw}
use Rattle.fmp_codes.specs.declared.kinds.ArgumentKind.{ArgumentKind}
use Rattle.fmp_codes.specs.declared.kinds.ArgumentKind.TheVariants as kinds
use Rattle.fmp_codes.specs.declared.kinds.ObjectKind.TheVariants as objects
use Rattle.fmp_codes.specs.declared.kinds.Value.{Value}
use Rattle.fmp_codes.specs.declared.kinds.Value.TheVariants as values
use Rattle.fmp_names.specs.declared.constants.Constant.{Constant}
use Rattle.fmp_names.specs.declared.constants.Constant.TheVariants.{TskSelf, TpriSelf, TpriIni, TprcIni, TmoPol, TmoFevr, TwfAndw, TwfOrw}

-- all constants, in the order in which they are declared
abbrev pub all_constants : List Constant
all_constants = TskSelf ∷ TpriSelf ∷ TpriIni ∷ TprcIni ∷ TmoPol ∷ TmoFevr ∷ TwfAndw ∷ TwfOrw ∷ []

abbrev pub word_of : Constant → List ℕ
word_of TskSelf = codes "TSK_SELF"
word_of TpriSelf = codes "TPRI_SELF"
word_of TpriIni = codes "TPRI_INI"
word_of TprcIni = codes "TPRC_INI"
word_of TmoPol = codes "TMO_POL"
word_of TmoFevr = codes "TMO_FEVR"
word_of TwfAndw = codes "TWF_ANDW"
word_of TwfOrw = codes "TWF_ORW"

-- what a constant stands for in a place of this kind, where it is one of that kind
abbrev pub value_of : Constant → ArgumentKind → Option Value
value_of TskSelf (kinds.Object objects.Task) = Some (values.Number (pos 0))
value_of TpriSelf kinds.Priority = Some (values.Number (pos 0))
value_of TpriIni kinds.Priority = Some (values.Number (pos 0))
value_of TprcIni kinds.Processor = Some (values.Number (pos 0))
value_of TmoPol kinds.Timeout = Some (values.Number (pos 0))
value_of TmoFevr kinds.Timeout = Some (values.Number (negsuc 0))
value_of TwfAndw kinds.Mode = Some (values.Mode Andw)
value_of TwfOrw kinds.Mode = Some (values.Mode Orw)
value_of _ _ = None

-- the constant with this word
abbrev pub constant_in : List ℕ → Option Constant
constant_in word = find (λ c. bytes_eq (word_of c) word) all_constants
