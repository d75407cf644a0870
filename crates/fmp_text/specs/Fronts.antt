-- What stands at the front of a text, as the short reader takes it apart: an event, in it a call, and its arguments.
use Rattle.std.specs.Prelude.{◌≡◌, ◌≢◌, ℕ, ◌≤◌, ◌⊎◌, Bool, true, false, List, [], ◌∷◌, ◌++◌, codes}
use Rattle.fmp_bytes.specs.declared.classes.Class.TheVariants.{Blank}
use Rattle.fmp_bytes.specs.Bytes.{is_of, carriage_return, close_parenthesis, comma, line_feed}
use Rattle.fmp_codes.specs.Numbers.{as_proc}
use Rattle.fmp_codes.specs.declared.calls.Call.{Call}
use Rattle.fmp_codes.specs.declared.numbers.Proc.{Proc}
use Rattle.fmp_codes.specs.declared.records.Event.{Event}
use Rattle.fmp_codes.specs.declared.records.Event.TheVariants as events
use Rattle.fmp_codes.specs.declared.kinds.ArgumentKind.{ArgumentKind}
use Rattle.fmp_codes.specs.declared.kinds.ArgumentKind.TheVariants as kinds
use Rattle.fmp_codes.specs.declared.kinds.Value.{Value}
use Rattle.fmp_calls.specs.Table.{text_of, is_bare, kinds_of, values_of}
use Rattle.fmp_names.specs.Names.{NameLists}
use Rattle.fmp_text.specs.Grammar.{AreBlank, SpellsArguments, SpellsCall}
use Rattle.fmp_text.specs.TextGrammar.{IsAlone}

-- a text begins with a token that spells the value, and the rest follows
pub record IsFront {X : Type 0} (Spells : List ℕ → X → Type 0) (text : List ℕ) (value : X) (rest : List ℕ) : Type 0 where
  pub token : List ℕ
  pub spelled : Spells token value
  pub parts : text ≡ token ++ rest

-- one blank, and the rest follows
abbrev pub IsAfterBlank : List ℕ → List ℕ → Type 0
IsAfterBlank text rest = (blank : ℕ) × (is_of Blank blank ≡ true) × (text ≡ blank ∷ rest)

-- blanks or none, and the rest follows
pub record IsAfterBlanks (text rest : List ℕ) : Type 0 where
  pub blanks : List ℕ
  pub blank : AreBlank blanks
  pub parts : text ≡ blanks ++ rest

-- the end of a line, and the rest follows
abbrev pub IsAfterEnd : List ℕ → List ℕ → Type 0
IsAfterEnd text rest = (text ≡ line_feed ∷ rest) ⊎ (text ≡ carriage_return ∷ (line_feed ∷ rest))

-- a comma and blanks, and the rest follows
pub record IsAfterComma (text rest : List ℕ) : Type 0 where
  pub blanks : List ℕ
  pub blank : AreBlank blanks
  pub parts : text ≡ comma ∷ (blanks ++ rest)

-- arguments of these kinds and the closing parenthesis, and the rest follows
pub record IsClosed (names : NameLists) (kinds : List ArgumentKind) (values : List Value) (text rest : List ℕ) : Type 0 where
  pub inner : List ℕ
  pub arguments : SpellsArguments names kinds values inner
  pub parts : text ≡ inner ++ (close_parenthesis ∷ rest)

-- a call of the same name, with the arguments that the text spells after the opening parenthesis
pub record IsMade (names : NameLists) (name : Call) (text : List ℕ) (made : Call) (rest : List ℕ) : Type 0 where
  pub same_text : text_of made ≡ text_of name
  pub same_bare : is_bare made ≡ is_bare name
  pub closed : IsClosed names (kinds_of made) (values_of made) text rest

-- a processor's number, of one digit
pub record IsNumberOf (names : NameLists) (number : ℕ) (processor : Proc) : Type 0 where
  pub least : 1 ≤ number
  pub most : number ≤ 9
  pub within : number ≤ names.processors
  pub is_number : processor ≡ as_proc number

-- the event is on this processor, and the token says what happens there
abbrev pub Happens : NameLists → Proc → List ℕ → Event → Type 0
Happens names processor token (events.Tick on) = (on ≡ processor) × IsAlone (codes "tick") token
Happens names processor token (events.Ipi on) = (on ≡ processor) × IsAlone (codes "ipi") token
Happens names processor token (events.Call on call) = (on ≡ processor) × SpellsCall names token call

-- values of this kind are printed as numbers
abbrev pub prints_number : ArgumentKind → Bool
prints_number (kinds.Object kind) = false
prints_number kind = true

-- a text that is kept is this one. None is kept where it is empty
abbrev pub IsEcho : List ℕ → List ℕ → Type 0
IsEcho kept text = kept ≢ [] → kept ≡ text
