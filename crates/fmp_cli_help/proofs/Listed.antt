-- The lists of the faults have each of them once, in the order of their numbers, and each is told where its number is asked for.
use Rattle.std.proofs.Common.{◌≡◌, ◌∙◌, ℕ, zero, suc, ◌+◌, List, [], ◌∷◌, ◌++◌, Some, refl, sym, ap, subst, arith, lit<, rules}
use Rattle.std.specs.Prelude.{Contains, slice_get, codes, decimal}
use Rattle.std.specs.Fmt.{digits}
use Rattle.fmp_config_statements.specs.Faults as configs
use Rattle.fmp_config_statements.specs.declared.fault.ConfigKind.{ConfigKind}
use Rattle.fmp_config_statements.specs.declared.fault.ConfigKind.TheVariants as config
use Rattle.fmp_config_statements.specs.Table.{statement_of}
use Rattle.fmp_text.specs.Faults as texts
use Rattle.fmp_text.specs.declared.fault.TextKind.{TextKind}
use Rattle.fmp_text.specs.declared.fault.TextKind.TheVariants as text
use Rattle.fmp_cli_help.specs.declared.faults.TheConstants.{CONFIG_KINDS, TEXT_KINDS}
use Rattle.fmp_cli_help.specs.declared.listing.Subject.TheVariants.{ConfigFault, TextFault}
use Rattle.fmp_cli_help.specs.Listing.{subject_of, other_subject}

-- the kinds of a list have these places, from n on
abbrev AreFrom : {K : Type 0} → ℕ → (K → ℕ) → List K → Type 0
AreFrom n place [] = Unit {0}
AreFrom n place (kind ∷ kinds) = (place kind ≡ n) × AreFrom (n + 1) place kinds

-- a kind stands at its own place alone
place_in : {K : Type 0} (n : ℕ) (place : K → ℕ) (kinds : List K) → AreFrom n place kinds
    → (i : ℕ) (kind : K) → slice_get kinds i ≡ Some kind → place kind ≡ n + i
place_in n place [] are i kind e = absurd cc
place_in n place (first ∷ kinds) are zero kind e =
    let same : first ≡ kind = cc in
    let at : place kind ≡ n = ap place (sym same) ∙ are.0 in
    omega (arith, at)
place_in n place (first ∷ kinds) are (suc i) kind e =
    let following = place_in (n + 1) place kinds are.1 i kind e in
    omega (arith, following)

-- ---- the faults of a configuration

abbrev config_place : ConfigKind → ℕ
config_place config.Syntax = 0
config_place config.CutShort = 1
config_place config.Unsupported = 2
config_place config.OutsideClass = 3
config_place config.UnknownClass = 4
config_place config.NameTaken = 5
config_place config.OutOfRange = 6
config_place config.BadAttribute = 7
config_place config.TooMany = 8
config_place config.NoProcessors = 9
config_place config.BadClass = 10
config_place config.Memory = 11
config_place config.ForeignHandler = 12

pub config_listed : (kind : ConfigKind) → Contains CONFIG_KINDS kind
config_listed config.Syntax = (0, lit< tt, refl)
config_listed config.CutShort = (1, lit< tt, refl)
config_listed config.Unsupported = (2, lit< tt, refl)
config_listed config.OutsideClass = (3, lit< tt, refl)
config_listed config.UnknownClass = (4, lit< tt, refl)
config_listed config.NameTaken = (5, lit< tt, refl)
config_listed config.OutOfRange = (6, lit< tt, refl)
config_listed config.BadAttribute = (7, lit< tt, refl)
config_listed config.TooMany = (8, lit< tt, refl)
config_listed config.NoProcessors = (9, lit< tt, refl)
config_listed config.BadClass = (10, lit< tt, refl)
config_listed config.Memory = (11, lit< tt, refl)
config_listed config.ForeignHandler = (12, lit< tt, refl)

config_places : AreFrom 0 config_place CONFIG_KINDS
config_places = search rules

config_at : (i : ℕ) (kind : ConfigKind) → slice_get CONFIG_KINDS i ≡ Some kind → config_place kind ≡ i
config_at i kind e = let at = place_in 0 config_place CONFIG_KINDS config_places i kind e in omega (arith, at)

pub config_listed_once : (i j : ℕ) (kind : ConfigKind) → slice_get CONFIG_KINDS i ≡ Some kind → slice_get CONFIG_KINDS j ≡ Some kind → i ≡ j
config_listed_once i j kind ei ej = sym (config_at i kind ei) ∙ config_at j kind ej

config_number : (kind : ConfigKind) → configs.code_of kind ≡ codes "F" ++ decimal (config_place kind + 1)
unfolding digits
config_number config.Syntax = refl
config_number config.CutShort = refl
config_number config.Unsupported = refl
config_number config.OutsideClass = refl
config_number config.UnknownClass = refl
config_number config.NameTaken = refl
config_number config.OutOfRange = refl
config_number config.BadAttribute = refl
config_number config.TooMany = refl
config_number config.NoProcessors = refl
config_number config.BadClass = refl
config_number config.Memory = refl
config_number config.ForeignHandler = refl

pub config_in_order : (i : ℕ) (kind : ConfigKind) → slice_get CONFIG_KINDS i ≡ Some kind → configs.code_of kind ≡ codes "F" ++ decimal (i + 1)
config_in_order i kind e =
    subst (λ (place : ℕ). configs.code_of kind ≡ codes "F" ++ decimal (place + 1)) (config_at i kind e) (config_number kind)

pub config_reported : (kind : ConfigKind) → subject_of (configs.code_of kind) ≡ Some (ConfigFault kind)
unfolding subject_of other_subject statement_of
config_reported config.Syntax = refl
config_reported config.CutShort = refl
config_reported config.Unsupported = refl
config_reported config.OutsideClass = refl
config_reported config.UnknownClass = refl
config_reported config.NameTaken = refl
config_reported config.OutOfRange = refl
config_reported config.BadAttribute = refl
config_reported config.TooMany = refl
config_reported config.NoProcessors = refl
config_reported config.BadClass = refl
config_reported config.Memory = refl
config_reported config.ForeignHandler = refl

-- ---- the faults of events, scripts and traces

abbrev text_place : TextKind → ℕ
text_place text.BadByte = 0
text_place text.BadWord = 1
text_place text.UnknownName = 2
text_place text.WrongArguments = 3
text_place text.NumberOutOfRange = 4
text_place text.CutShort = 5
text_place text.TooMany = 6
text_place text.Memory = 7

pub text_listed : (kind : TextKind) → Contains TEXT_KINDS kind
text_listed text.BadByte = (0, lit< tt, refl)
text_listed text.BadWord = (1, lit< tt, refl)
text_listed text.UnknownName = (2, lit< tt, refl)
text_listed text.WrongArguments = (3, lit< tt, refl)
text_listed text.NumberOutOfRange = (4, lit< tt, refl)
text_listed text.CutShort = (5, lit< tt, refl)
text_listed text.TooMany = (6, lit< tt, refl)
text_listed text.Memory = (7, lit< tt, refl)

text_places : AreFrom 0 text_place TEXT_KINDS
text_places = search rules

text_at : (i : ℕ) (kind : TextKind) → slice_get TEXT_KINDS i ≡ Some kind → text_place kind ≡ i
text_at i kind e = let at = place_in 0 text_place TEXT_KINDS text_places i kind e in omega (arith, at)

pub text_listed_once : (i j : ℕ) (kind : TextKind) → slice_get TEXT_KINDS i ≡ Some kind → slice_get TEXT_KINDS j ≡ Some kind → i ≡ j
text_listed_once i j kind ei ej = sym (text_at i kind ei) ∙ text_at j kind ej

text_number : (kind : TextKind) → texts.code_of kind ≡ codes "E" ++ decimal (text_place kind + 1)
unfolding digits
text_number text.BadByte = refl
text_number text.BadWord = refl
text_number text.UnknownName = refl
text_number text.WrongArguments = refl
text_number text.NumberOutOfRange = refl
text_number text.CutShort = refl
text_number text.TooMany = refl
text_number text.Memory = refl

pub text_in_order : (i : ℕ) (kind : TextKind) → slice_get TEXT_KINDS i ≡ Some kind → texts.code_of kind ≡ codes "E" ++ decimal (i + 1)
text_in_order i kind e =
    subst (λ (place : ℕ). texts.code_of kind ≡ codes "E" ++ decimal (place + 1)) (text_at i kind e) (text_number kind)

pub text_reported : (kind : TextKind) → subject_of (texts.code_of kind) ≡ Some (TextFault kind)
unfolding subject_of other_subject statement_of
text_reported text.BadByte = refl
text_reported text.BadWord = refl
text_reported text.UnknownName = refl
text_reported text.WrongArguments = refl
text_reported text.NumberOutOfRange = refl
text_reported text.CutShort = refl
text_reported text.TooMany = refl
text_reported text.Memory = refl
