-- believed: see docs/PROOF.md, "What has to be believed"
-- The grammar of calls, apart from how they are read: which texts spell which value, argument list and call.
use Rattle.std.specs.Prelude.{◌≡◌, ℕ, pos, ◌⊎◌, Bool, true, false, List, [], ◌∷◌, ◌++◌, Some}
use Rattle.std.specs.List.{list_all, join_with_byte}
use Rattle.fmp_codes.specs.declared.calls.Call.{Call}
use Rattle.fmp_bytes.specs.declared.classes.Class.TheVariants.{Blank}
use Rattle.fmp_bytes.specs.Bytes.{is_of, close_parenthesis, comma, open_parenthesis}
use Rattle.fmp_bytes.specs.Spelling.{SpellsNumber}
use Rattle.fmp_codes.specs.declared.kinds.ArgumentKind.{ArgumentKind}
use Rattle.fmp_codes.specs.declared.kinds.ArgumentKind.TheVariants as kinds
use Rattle.fmp_codes.specs.declared.kinds.ObjectKind.{ObjectKind}
use Rattle.fmp_codes.specs.declared.kinds.NameKind.TheVariants as name_kinds
use Rattle.fmp_codes.specs.declared.kinds.Value.{Value}
use Rattle.fmp_codes.specs.declared.kinds.Value.TheVariants as values
use Rattle.fmp_names.specs.Names.{NameLists, name_of}
use Rattle.fmp_calls.specs.Table.{text_of, is_bare, kinds_of, values_of}
use Rattle.fmp_text.specs.Argument.{ranged, constant_of}

-- spaces and tabs, or nothing
abbrev pub AreBlank : List ℕ → Type 0
AreBlank bytes = list_all (is_of Blank) bytes ≡ true

-- a text is this core with blanks around
pub record Padded (core text : List ℕ) : Type 0 where
  pub before : List ℕ
  pub following : List ℕ
  pub before_blank : AreBlank before
  pub after_blank : AreBlank following
  pub parts : text ≡ before ++ (core ++ following)

-- a number in the range of its kind
pub record IsNumber (kind : ArgumentKind) (token : List ℕ) (value : Value) : Type 0 where
  pub negative : Bool
  pub magnitude : ℕ
  pub spelled : SpellsNumber token negative magnitude
  pub in_range : ranged kind negative magnitude ≡ Some value

-- the name of an object of the argument's kind, which stands for the object's number
pub record IsObjectName (names : NameLists) (kind : ArgumentKind) (token : List ℕ) (value : Value) : Type 0 where
  pub object : ObjectKind
  pub number : ℕ
  pub is_kind : kind ≡ kinds.Object object
  pub is_name : name_of names (name_kinds.Object object) number ≡ Some token
  pub is_value : value ≡ values.Number (pos number)

-- a value is written as a number, as a constant of its kind, or as an object's name
abbrev pub SpellsValue : NameLists → ArgumentKind → List ℕ → Value → Type 0
SpellsValue names kind token value = IsNumber kind token value ⊎ ((constant_of kind token ≡ Some value) ⊎ IsObjectName names kind token value)

-- each piece is an argument with blanks around
abbrev pub SpellsPieces : NameLists → List ArgumentKind → List Value → List (List ℕ) → Type 0
SpellsPieces names [] [] [] = Unit {0}
SpellsPieces names (kind ∷ kinds) (value ∷ values) (piece ∷ pieces) = ((token : List ℕ) × Padded token piece × SpellsValue names kind token value)
    × SpellsPieces names kinds values pieces
SpellsPieces names _ _ _ = ⊥

-- arguments with commas between them, or blanks alone
abbrev pub SpellsArguments : NameLists → List ArgumentKind → List Value → List ℕ → Type 0
SpellsArguments names [] values text = AreBlank text × (values ≡ [])
SpellsArguments names (kind ∷ kinds) values text = (pieces : List (List ℕ)) × (text ≡ join_with_byte comma pieces) × SpellsPieces names (kind ∷ kinds) values pieces

-- arguments in parentheses, with blanks around
pub record SpellsEnclosed (names : NameLists) (call : Call) (text : List ℕ) : Type 0 where
  pub between : List ℕ
  pub inner : List ℕ
  pub following : List ℕ
  pub between_blank : AreBlank between
  pub after_blank : AreBlank following
  pub arguments : SpellsArguments names (kinds_of call) (values_of call) inner
  pub parts : text ≡ between ++ (open_parenthesis ∷ (inner ++ (close_parenthesis ∷ following)))

-- what follows a call's name: blanks where the call is bare, else its arguments
abbrev pub FollowsName : NameLists → Call → List ℕ → Type 0
FollowsName names call text = ((is_bare call ≡ true) × AreBlank text) ⊎ ((is_bare call ≡ false) × SpellsEnclosed names call text)

-- blanks, a call's name, and what follows it
pub record SpellsCall (names : NameLists) (text : List ℕ) (call : Call) : Type 0 where
  pub before : List ℕ
  pub rest : List ℕ
  pub before_blank : AreBlank before
  pub follows : FollowsName names call rest
  pub parts : text ≡ before ++ (text_of call ++ rest)
