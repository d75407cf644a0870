-- What is wrong with a line of an event text, apart from how it is read: rows of faults, each where none above it is there.
use Rattle.std.specs.Prelude.{◌≡◌, ◌≢◌, ◌≤◌, ℕ, ◌⊎◌, true, false, List, [], ◌∷◌, ◌++◌, length, is_some, decimal, codes}
use Rattle.std.specs.List.{list_all, join_with_byte}
use Rattle.fmp_bytes.specs.Bytes.{is_of, prefix, after, is_identifier, close_parenthesis, comma, letter_p, open_parenthesis}
use Rattle.fmp_bytes.specs.Numerals.{are_digits, number_of}
use Rattle.fmp_bytes.specs.declared.classes.Class.TheVariants.{Blank, Word, Line}
use Rattle.fmp_calls.specs.Table.{is_bare, kinds_of, text_of}
use Rattle.fmp_codes.specs.declared.kinds.ArgumentKind.{ArgumentKind}
use Rattle.fmp_codes.specs.declared.kinds.ArgumentKind.TheVariants.{Mode}
use Rattle.fmp_codes.specs.declared.kinds.Value.{Value}
use Rattle.fmp_codes.specs.declared.calls.Call.{Call}
use Rattle.fmp_names.specs.Names.{NameLists, is_object, is_constant}
use Rattle.fmp_text.specs.Argument.{is_argument}
use Rattle.fmp_text.specs.Grammar.{AreBlank, Padded, SpellsValue}
use Rattle.fmp_text.specs.Lines.{without_return}
use Rattle.fmp_text.specs.TextGrammar.{SpellsNothing}
use Rattle.fmp_text.specs.declared.fault.TextKind.{TextKind}
use Rattle.fmp_text.specs.declared.fault.TextKind.TheVariants.{BadByte, BadWord, UnknownName, WrongArguments, NumberOutOfRange}

-- the first word after blanks, and what follows it
abbrev pub first_word : List ℕ → List ℕ
first_word text = prefix Word (after Blank text)

abbrev pub following_word : List ℕ → List ℕ
following_word text = after Word (after Blank text)

-- ---- the form of a call

-- each piece is an argument with blanks around
abbrev pub ArePieces : List (List ℕ) → List (List ℕ) → Type 0
ArePieces [] [] = Unit {0}
ArePieces (token ∷ tokens) (piece ∷ pieces) = Padded token piece × (is_argument token ≡ true) × ArePieces tokens pieces
ArePieces _ _ = ⊥

-- arguments with commas between them, or blanks alone
abbrev pub AreArguments : List (List ℕ) → List ℕ → Type 0
AreArguments [] text = AreBlank text
AreArguments (token ∷ tokens) text = (pieces : List (List ℕ)) × (text ≡ join_with_byte comma pieces) × ArePieces (token ∷ tokens) pieces

-- arguments in parentheses, with blanks around
pub record AreEnclosed (tokens : List (List ℕ)) (text : List ℕ) : Type 0 where
  pub between : List ℕ
  pub inner : List ℕ
  pub following : List ℕ
  pub between_blank : AreBlank between
  pub after_blank : AreBlank following
  pub arguments : AreArguments tokens inner
  pub parts : text ≡ between ++ (open_parenthesis ∷ (inner ++ (close_parenthesis ∷ following)))

-- what follows a call's name has its form: blanks where the call is bare, else as many arguments as it has
abbrev pub HasForm : Call → List (List ℕ) → List ℕ → Type 0
HasForm call tokens text = (length tokens ≡ length (kinds_of call)) × (((is_bare call ≡ true) × AreBlank text) ⊎ ((is_bare call ≡ false) × AreEnclosed tokens text))

-- ---- faults

-- why an argument stands for no value of its kind: an identifier of no object and no constant; one of another kind, or a number as a mode; a number that
-- is not in the range
abbrev pub ArgumentFault : NameLists → ArgumentKind → List ℕ → TextKind → Type 0
ArgumentFault names kind token UnknownName = (is_identifier token ≡ true) × (is_constant token ≡ false) × (is_object names token ≡ false)
ArgumentFault names kind token WrongArguments =
    ((is_identifier token ≡ true) × ((is_constant token ≡ true) ⊎ (is_object names token ≡ true))) ⊎ ((is_some (number_of token) ≡ true) × (kind ≡ Mode))
ArgumentFault names kind token NumberOutOfRange = (is_some (number_of token) ≡ true) × (kind ≢ Mode)
ArgumentFault names kind token _ = ⊥

-- the first argument, from left to right, that stands for no value
abbrev pub ArgumentsFault : NameLists → List ArgumentKind → List (List ℕ) → TextKind → Type 0
ArgumentsFault names (kind ∷ kinds) (token ∷ tokens) fault =
    (((value : Value) → ¬ (SpellsValue names kind token value)) × ArgumentFault names kind token fault)
    ⊎ (((value : Value) × SpellsValue names kind token value) × ArgumentsFault names kinds tokens fault)
ArgumentsFault names _ _ fault = ⊥

-- what follows a call's name has not its form, or an argument is at fault
abbrev pub CallFault : NameLists → Call → List ℕ → TextKind → Type 0
CallFault names call text fault =
    ((fault ≡ WrongArguments) × ((tokens : List (List ℕ)) → ¬ (HasForm call tokens text)))
    ⊎ ((tokens : List (List ℕ)) × HasForm call tokens text × ArgumentsFault names (kinds_of call) tokens fault)

-- after the processor: no event's name; more than blanks after `tick` or `ipi`; or a fault of a call
abbrev pub HappeningFault : NameLists → List ℕ → TextKind → Type 0
HappeningFault names text fault =
    ((fault ≡ BadWord) × (first_word text ≢ codes "tick") × (first_word text ≢ codes "ipi") × ((call : Call) → text_of call ≢ first_word text))
    ⊎ (((fault ≡ WrongArguments) × ((first_word text ≡ codes "tick") ⊎ (first_word text ≡ codes "ipi")) × ¬ (AreBlank (following_word text)))
    ⊎ ((call : Call) × (text_of call ≡ first_word text) × CallFault names call (following_word text) fault))

-- `P` and decimal digits
abbrev pub IsProcessorWord : List ℕ → Type 0
IsProcessorWord word = (digits : List ℕ) × (word ≡ letter_p ∷ digits) × (are_digits 10 digits ≡ true)

-- `P` and the number of a processor of the machine
abbrev pub NamesProcessor : NameLists → List ℕ → Type 0
NamesProcessor names word = (number : ℕ) × (1 ≤ number) × (number ≤ names.processors) × (word ≡ letter_p ∷ decimal number)

-- a byte that may stand in no line; no processor's word first; no such processor; or a fault after it
abbrev pub CoreFault : NameLists → List ℕ → TextKind → Type 0
CoreFault names text fault =
    ((fault ≡ BadByte) × (list_all (is_of Line) text ≡ false))
    ⊎ ((list_all (is_of Line) text ≡ true) × (((fault ≡ BadWord) × ¬ (IsProcessorWord (first_word text)))
    ⊎ (IsProcessorWord (first_word text) × (((fault ≡ NumberOutOfRange) × ¬ (NamesProcessor names (first_word text)))
    ⊎ (NamesProcessor names (first_word text) × HappeningFault names (following_word text) fault)))))

-- a line that is not blank and no comment has this fault
abbrev pub EventFault : NameLists → List ℕ → TextKind → Type 0
EventFault names line fault = ¬ (SpellsNothing line) × CoreFault names (without_return line) fault
