-- believed: see docs/PROOF.md, "What has to be believed"
-- The arguments of a call: their form, and the values that they stand for.
use Rattle.std.specs.Prelude.{ℕ, pos, ◌^◌, Bool, true, false, ◌&&◌, ◌||◌, List, [], ◌∷◌, length, Option, Some, None, option_map, option_and_then, is_some, Result, Ok}
use Rattle.std.specs.Prelude.{Err, nat_le, if◌then◌else◌}
use Rattle.std.specs.List.{list_all}
use Rattle.std.specs.Option.{ok_or, option_map_or, option_or}
use Rattle.fmp_bytes.specs.declared.classes.Class.TheVariants.{Blank, Argument}
use Rattle.fmp_bytes.specs.declared.numerals.Number.{Number}
use Rattle.fmp_bytes.specs.Bytes.{is_of, prefix, after, following, cut_at, pieces_of, is_identifier, close_parenthesis, comma, open_parenthesis}
use Rattle.fmp_bytes.specs.Numerals.{number_of, signed_of, unsigned_limited}
use Rattle.fmp_codes.specs.declared.kinds.ArgumentKind.{ArgumentKind}
use Rattle.fmp_codes.specs.declared.kinds.ArgumentKind.TheVariants as kinds
use Rattle.fmp_codes.specs.declared.kinds.NameKind.TheVariants as names
use Rattle.fmp_codes.specs.declared.kinds.Value.{Value}
use Rattle.fmp_codes.specs.declared.kinds.Value.TheVariants as values
use Rattle.fmp_text.specs.declared.fault.TextKind.{TextKind}
use Rattle.fmp_text.specs.declared.fault.TextKind.TheVariants.{UnknownName, WrongArguments, NumberOutOfRange}
use Rattle.fmp_names.specs.Names.{number_of as number_of_name}
use Rattle.fmp_names.specs.Names.{NameLists, is_object, is_constant}
use Rattle.fmp_names.specs.Constants.{constant_in, value_of}

-- reading goes on with a value that is there
infixl 10 ◌>>=◌
abbrev pub ◌>>=◌ : {A B : Type 0} → Option A → (A → Option B) → Option B
o >>= f = option_and_then f o

-- ---- form

-- an identifier or a number
unfoldable pub is_argument : List ℕ → Bool
is_argument token = is_identifier token || is_some (number_of token)

-- the one argument in a piece of text, with blanks around
unfoldable pub token_in : List ℕ → Option (List ℕ)
token_in piece =
    if is_argument (prefix Argument (after Blank piece)) && list_all (is_of Blank) (after Argument (after Blank piece)) then Some (prefix Argument (after Blank piece))
    else None

-- the arguments in the pieces between commas
abbrev pub tokens_in : List (List ℕ) → Option (List (List ℕ))
tokens_in [] = Some []
tokens_in (piece ∷ pieces) = do
  token ← token_in piece
  tokens ← tokens_in pieces
  Some (token ∷ tokens)

-- at most so many
abbrev pub at_most : ℕ → Option (List (List ℕ)) → Option (List (List ℕ))
at_most most tokens = do
  list ← tokens
  if nat_le (length list) most then Some list else None

-- the arguments between the parentheses
unfoldable pub arguments_in : ℕ → List ℕ → Option (List (List ℕ))
arguments_in most text = if list_all (is_of Blank) text then Some [] else at_most most (tokens_in (pieces_of comma text))

-- what stands before the first closing parenthesis, with only blanks after it
unfoldable pub before_close : List ℕ → Option (List ℕ)
before_close text = do
  rest ← (cut_at close_parenthesis text).1
  if list_all (is_of Blank) rest then Some (cut_at close_parenthesis text).0 else None

-- what stands between parentheses, with blanks around
unfoldable pub enclosed_in : List ℕ → Option (List ℕ)
enclosed_in text = do
  rest ← following open_parenthesis (after Blank text)
  before_close rest

-- the arguments in what follows a name, at most so many. After a bare name only blanks may stand
unfoldable pub arguments_after : ℕ → Bool → List ℕ → Option (List (List ℕ))
arguments_after most true rest = if list_all (is_of Blank) rest then Some [] else None
arguments_after most false rest = do
  inner ← enclosed_in rest
  arguments_in most inner

-- ---- values

-- a number in 32 signed bits
abbrev pub number32 : Bool → ℕ → Option Value
number32 negative magnitude = option_map values.Number (signed_of (2 ^ 31) negative magnitude)

-- the value of a sign and a magnitude, where it is in the range of its kind. No number is a mode
abbrev pub ranged : ArgumentKind → Bool → ℕ → Option Value
ranged (kinds.Object k) negative magnitude = number32 negative magnitude
ranged kinds.Priority negative magnitude = number32 negative magnitude
ranged kinds.Processor negative magnitude = number32 negative magnitude
ranged kinds.Time negative magnitude = number32 negative magnitude
ranged kinds.Timeout negative magnitude = number32 negative magnitude
ranged kinds.Pattern negative magnitude = option_map values.Pattern (unsigned_limited negative magnitude)
ranged kinds.Data negative magnitude = option_map values.Data (signed_of (2 ^ 63) negative magnitude)
ranged kinds.Mode negative magnitude = None
ranged kinds.Block negative magnitude = number32 negative magnitude

-- the value of a number, where it has no leading zero and is in the range of its kind
unfoldable pub number_value : ArgumentKind → Number → Option Value
number_value kind number = if number.zero_led then None else option_and_then (ranged kind number.negative) number.magnitude

-- the value of a constant of this kind
unfoldable pub constant_of : ArgumentKind → List ℕ → Option Value
constant_of kind word = do
  constant ← constant_in word
  value_of constant kind

-- the objects of a kind
unfoldable pub object_of : NameLists → ArgumentKind → List ℕ → Option Value
object_of lists (kinds.Object kind) word = option_map values.Number (option_map pos (number_of_name lists (names.Object kind) word))
object_of lists _ word = None

-- the value of a name, which is first a constant
unfoldable pub named_value : NameLists → ArgumentKind → List ℕ → Result Value TextKind
named_value lists kind word =
    option_map_or (λ value. Ok value) (option_or (constant_of kind word) (object_of lists kind word))
    (if is_constant word || is_object lists word then Err WrongArguments else Err UnknownName)

-- the value of a number, or what is wrong with it
unfoldable pub judged_number : ArgumentKind → Number → Result Value TextKind
judged_number kinds.Mode number = Err WrongArguments
judged_number kind number = ok_or (number_value kind number) NumberOutOfRange

-- the value of an argument, or what is wrong with it
unfoldable pub value_at : NameLists → ArgumentKind → List ℕ → Result Value TextKind
value_at lists kind token = option_map_or (judged_number kind) (number_of token) (named_value lists kind token)
