-- A value is read exactly where it is spelled.
use Rattle.std.proofs.Common.{◌≡◌, ℕ, pos, true, false, ◌||◌, ◌⊎◌, cond, inl, inr, Bool, List, Option, Some, None, option_map, option_and_then, Ok, Err, refl, sym, ap, ◌∙◌}
use Rattle.std.specs.Prelude.{codes}
use Rattle.std.specs.Option.{ok_or, option_map_or, option_or}
use Rattle.std.specs.Str.{bytes_eq}
use Rattle.std.proofs.lemmas.Bool.{cases_Bool, and_parts, false≢true, or_left}
use Rattle.std.proofs.Math.Bool.{or-true}
use Rattle.fmp_bytes.specs.declared.numerals.Number.{Number}
use Rattle.fmp_bytes.specs.Bytes.{is_identifier}
use Rattle.fmp_bytes.specs.Numerals.{number_of}
use Rattle.fmp_bytes.proofs.Spelled.{number_of-spelled, number_is_spelled, number_of-identifier}
use Rattle.fmp_codes.specs.declared.kinds.ArgumentKind.{ArgumentKind}
use Rattle.fmp_codes.specs.declared.kinds.ArgumentKind.TheVariants as kinds
use Rattle.fmp_codes.specs.declared.kinds.NameKind.TheVariants as name_kinds
use Rattle.fmp_codes.specs.declared.kinds.Value.{Value}
use Rattle.fmp_codes.specs.declared.kinds.Value.TheVariants as values
use Rattle.fmp_text.specs.declared.fault.TextKind.TheVariants.{NumberOutOfRange, WrongArguments, UnknownName}
use Rattle.fmp_names.specs.Names.{NameLists, AreValid, is_name, is_reserved, is_constant, is_object, is_processor_word}
use Rattle.fmp_names.specs.Names.{number_of as number_of_name}
use Rattle.fmp_text.specs.Argument.{is_argument, ranged, number_value, judged_number, constant_of, object_of, named_value, value_at}
use Rattle.fmp_text.specs.Grammar.{IsNumber, IsObjectName, SpellsValue}
use Rattle.fmp_text.proofs.ConstantWords.{constant_word}
use Rattle.fmp_names.proofs.Placed.{number_of-name_of, name_of-number_of, object_name}

-- ---- numbers

ok_or_is : (found : Option Value) (value : Value) → ok_or found NumberOutOfRange ≡ Ok value → found ≡ Some value
ok_or_is None value e = absurd cc
ok_or_is (Some v) value e = let same : v ≡ value = cc in ap (λ (x : Value). Some x) same

-- a mode is no number
nothing : (negative : Bool) (magnitude : Option ℕ) → option_and_then (ranged kinds.Mode negative) magnitude ≡ None
nothing negative None = refl
nothing negative (Some n) = refl

no_mode : (number : Number) → number_value kinds.Mode number ≡ None
unfolding number_value
no_mode number =
    elim (cases_Bool number.zero_led) [
      | inl t ↦ rw t refl
      | inr f ↦ rw f (nothing number.negative number.magnitude)
    ]

-- outside of modes a number is judged by its value
judged : (kind : ArgumentKind) (number : Number) (value : Value) → number_value kind number ≡ Some value → judged_number kind number ≡ Ok value
unfolding judged_number
judged kinds.Mode number value e = absurd (let none = no_mode number in cc)
judged _ number value e = rw e refl

unjudged : (kind : ArgumentKind) (number : Number) (value : Value) → judged_number kind number ≡ Ok value → number_value kind number ≡ Some value
unfolding judged_number
unjudged kinds.Mode number value e = absurd cc
unjudged _ number value e = ok_or_is _ value e

value_at-number : (names : NameLists) (kind : ArgumentKind) (token : List ℕ) (value : Value) → IsNumber kind token value → (is_argument token ≡ true) × (value_at names kind token ≡ Ok value)
unfolding is_argument value_at number_value
value_at-number names kind token value s =
    let read = number_of-spelled token s.negative s.magnitude s.spelled in
    let here = judged kind (record { negative = s.negative; magnitude = Some s.magnitude; zero_led = false }) value s.in_range in
    (rw read (or-true (is_identifier token)), rw read here)

-- ---- constants

value_at-constant : (names : NameLists) (kind : ArgumentKind) (token : List ℕ) (value : Value) → constant_of kind token ≡ Some value → (is_argument token ≡ true) × (value_at names kind token ≡ Ok value)
unfolding is_argument value_at named_value
value_at-constant names kind token value e =
    let word = constant_word kind token value e in
    (or_left (is_identifier token) _ word.0, rw (number_of-identifier token word.0, e) refl)

-- ---- names

-- what is not reserved is no constant
not_one : (kind : ArgumentKind) (token : List ℕ) → is_reserved token ≡ false → (found : Option Value) → constant_of kind token ≡ found → constant_of kind token ≡ None
unfolding is_reserved
not_one kind token free None e = e
not_one kind token free (Some value) e = absurd (let word = (constant_word kind token value e).1 in false≢true (sym free ∙ rw word (or-true (bytes_eq token (codes "idle") || is_processor_word token))))

not_constant : (kind : ArgumentKind) (token : List ℕ) → is_reserved token ≡ false → constant_of kind token ≡ None
not_constant kind token free = not_one kind token free (constant_of kind token) refl

value_at-object : (names : NameLists) (kind : ArgumentKind) (token : List ℕ) (value : Value) → AreValid names → IsObjectName names kind token value → (is_argument token ≡ true) × (value_at names kind token ≡ Ok value)
unfolding is_argument value_at named_value object_of is_name
value_at-object names kind token value valid s =
    let word = object_name names s.object s.number token valid s.is_name in
    let identifier = (and_parts (is_identifier token) _ word.0).0 in
    let number = number_of-name_of names (name_kinds.Object s.object) s.number token valid s.is_name in
    (or_left (is_identifier token) _ identifier, rw (number_of-identifier token identifier, not_constant kind token word.1, s.is_kind, number, s.is_value) refl)

pub value_at-spelled : (names : NameLists) (kind : ArgumentKind) (token : List ℕ) (value : Value) → AreValid names → SpellsValue names kind token value → (is_argument token ≡ true) × (value_at names kind token ≡ Ok value)
value_at-spelled names kind token value valid (inl s) = value_at-number names kind token value s
value_at-spelled names kind token value valid (inr (inl s)) = value_at-constant names kind token value s
value_at-spelled names kind token value valid (inr (inr s)) = value_at-object names kind token value valid s

-- ---- what is read is spelled

magnitude_parts : (kind : ArgumentKind) (negative : Bool) (magnitude : Option ℕ) (value : Value) → option_and_then (ranged kind negative) magnitude ≡ Some value → (n : ℕ) × (magnitude ≡ Some n) × (ranged kind negative n ≡ Some value)
magnitude_parts kind negative None value e = absurd cc
magnitude_parts kind negative (Some n) value e = (n, refl, e)

-- the parts of a number in range
ranged_parts : (kind : ArgumentKind) (r : Number) (value : Value) → number_value kind r ≡ Some value → (r.zero_led ≡ false) × ((n : ℕ) × (r.magnitude ≡ Some n) × (ranged kind r.negative n ≡ Some value))
unfolding number_value
ranged_parts kind r value e =
    elim (cases_Bool r.zero_led) [
      | inl t ↦ let e2 = rw t at e in absurd cc
      | inr f ↦ (f, magnitude_parts kind r.negative r.magnitude value (rw f at e))
    ]

numbered_value : (found : Option ℕ) (value : Value) → option_map values.Number (option_map pos found) ≡ Some value → (n : ℕ) × (found ≡ Some n) × (value ≡ values.Number (pos n))
numbered_value None value e = absurd cc
numbered_value (Some n) value e = let same : values.Number (pos n) ≡ value = cc in (n, refl, sym same)

object_is_spelled : (names : NameLists) (kind : ArgumentKind) (token : List ℕ) (value : Value) → object_of names kind token ≡ Some value → IsObjectName names kind token value
unfolding object_of
object_is_spelled names (kinds.Object kind) token value e =
    let n = numbered_value (number_of_name names (name_kinds.Object kind) token) value e in
    record { object = kind; number = n.0; is_kind = refl; is_name = name_of-number_of names (name_kinds.Object kind) n.0 token n.1; is_value = n.2 }
object_is_spelled names _ token value e = absurd cc

named_parts : (constant object : Option Value) (wrong : Bool) (value : Value)
    → option_map_or (λ (v : Value). Ok v) (option_or constant object) (cond wrong (Err WrongArguments) (Err UnknownName)) ≡ Ok value → (constant ≡ Some value) ⊎ (object ≡ Some value)
named_parts (Some v) object wrong value e = let same : v ≡ value = cc in inl (ap (λ (x : Value). Some x) same)
named_parts None (Some v) wrong value e = let same : v ≡ value = cc in inr (ap (λ (x : Value). Some x) same)
named_parts None None true value e = absurd cc
named_parts None None false value e = absurd cc

judged_is_spelled : (names : NameLists) (kind : ArgumentKind) (token : List ℕ) (found : Option Number) (value : Value) → number_of token ≡ found
    → option_map_or (judged_number kind) found (named_value names kind token) ≡ Ok value → SpellsValue names kind token value
unfolding named_value
judged_is_spelled names kind token None value h e =
    elim (named_parts (constant_of kind token) (object_of names kind token) (is_constant token || is_object names token) value e) [
      | inl constant ↦ inr (inl constant)
      | inr object ↦ inr (inr (object_is_spelled names kind token value object))
    ]
judged_is_spelled names kind token (Some r) value h e =
    let p = ranged_parts kind r value (unjudged kind r value e) in
    inl (record { negative = r.negative; magnitude = p.1.0; spelled = number_is_spelled token r p.1.0 h p.0 p.1.1; in_range = p.1.2 })

pub value_is_spelled : (names : NameLists) (kind : ArgumentKind) (token : List ℕ) (value : Value) → value_at names kind token ≡ Ok value → SpellsValue names kind token value
unfolding value_at
value_is_spelled names kind token value e = judged_is_spelled names kind token (number_of token) value refl e
