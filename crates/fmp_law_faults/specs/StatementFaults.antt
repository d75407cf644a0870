-- What is wrong with a statement of a configuration, apart from how it is read: rows of faults, each where none above it is there.
use Rattle.std.specs.Prelude.{◌≡◌, ◌<◌, ◌≤◌, ◌⊎◌, ◌==◌, ℕ, Bool, true, false, ◌&&◌, List, [], ◌∷◌, ◌++◌, length, map, Option, Some, None, is_none, is_some, if◌then◌else◌, All, Contains}
use Rattle.std.specs.List.{list_all, list_any}
use Rattle.fmp_bytes.specs.Bytes.{close_brace}
use Rattle.fmp_bytes.specs.Numerals.{number_of}
use Rattle.fmp_bytes.specs.declared.numerals.Number.{Number}
use Rattle.fmp_codes.specs.declared.kinds.NameKind.TheVariants.{Object}
use Rattle.fmp_codes.specs.declared.kinds.ObjectKind.{ObjectKind}
use Rattle.fmp_names.specs.Names.{NameLists, has_room, number_defined}
use Rattle.fmp_config.specs.declared.numbers.Numbers.{Numbers}
use Rattle.fmp_config.specs.Drafts.{is_start}
use Rattle.fmp_config.specs.Objects.{counts_fit, is_handled}
use Rattle.fmp_config_statements.specs.declared.attributes.Attribute.{Attribute}
use Rattle.fmp_config_statements.specs.declared.fault.ConfigKind.{ConfigKind}
use Rattle.fmp_config_statements.specs.declared.fault.ConfigKind.TheVariants.{Syntax, Unsupported, OutsideClass, UnknownClass, NameTaken, OutOfRange, BadAttribute, TooMany, NoProcessors, BadClass, ForeignHandler}
use Rattle.fmp_config_statements.specs.declared.table.StatementName.{StatementName}
use Rattle.fmp_config_statements.specs.declared.table.StatementName.TheVariants as statements
use Rattle.fmp_config_statements.specs.Attributes as attribute
use Rattle.fmp_config_statements.specs.Table.{allowed_of, parts_of, text_of}
use Rattle.fmp_config_statements.specs.Words.{is_identifier_kind}
use Rattle.fmp_setup.specs.declared.setup.Class.{Class}
use Rattle.fmp_setup.specs.Building.{class_named, is_refused}
use Rattle.fmp_setup.specs.Setup.{Setup}
use Rattle.fmp_law_config.specs.Tokens.{Glyph}
use Rattle.fmp_law_config.specs.Elements.{symbol}
use Rattle.fmp_law_config.specs.Phrases.{Phrase, SpellsParts, no_words}
use Rattle.fmp_law_config.specs.Stages.{Stage, SayNumbers, SpellNumbers, SpellsNumber, is_processor}
use Rattle.fmp_law_config.specs.Meaning.{may_stand}

-- ---- its first word

-- statements of which there is one
abbrev pub stood : Stage → StatementName → Bool
stood s statements.Processors = true
stood s statements.Timer = s.timer_stood
stood s statements.Limits = s.limits_stood
stood s _ = false

abbrev pub creates : StatementName → Bool
creates (statements.Create kind) = true
creates _ = false

-- the statement may not stand there: no number of processors was said; outside a class one that stood before, or one that creates an object; any other
abbrev pub place_of : Stage → StatementName → Option ConfigKind
place_of s name =
    if may_stand s name then None
    else if is_start s.phase then Some NoProcessors
    else if is_none s.class && stood s name then Some TooMany
    else if is_none s.class && creates name then Some OutsideClass
    else Some Syntax

-- the brace that ends a class
abbrev pub EndsClass : Stage → Glyph → Type 0
EndsClass s g = (is_some s.class ≡ true) × (g ≡ symbol close_brace)

-- a token where a statement has to begin is no identifier; no statement is called so; or it may not stand there
abbrev pub FirstWordFault : Stage → Glyph → ConfigKind → Type 0
FirstWordFault s g fault =
    ¬ (EndsClass s g) × (((fault ≡ Syntax) × (is_identifier_kind g.kind ≡ false))
    ⊎ ((is_identifier_kind g.kind ≡ true) × (((fault ≡ Unsupported) × ((name : StatementName) → ¬ (text_of name ≡ g.text)))
    ⊎ ((name : StatementName) × (text_of name ≡ g.text) × (place_of s name ≡ Some fault)))))

-- ---- its words

-- there are no such numbers in their ranges
abbrev pub HasNoNumbers : Setup → StatementName → Phrase → Type 0
HasNoNumbers c name phrase = (n : Numbers) → ¬ (SayNumbers c name phrase n)

-- a number of whatever size: digits without a zero in front, or hexadecimal digits; or the name of one
abbrev pub IsNumber : NameLists → List ℕ → Type 0
IsNumber names word = ((n : Number) × (number_of word ≡ Some n) × (n.zero_led ≡ false)) ⊎ (is_some (number_defined names word) ≡ true)

abbrev pub AreNumbers : NameLists → List (List ℕ) → Type 0
AreNumbers names [] = Unit {0}
AreNumbers names (word ∷ words) = IsNumber names word × AreNumbers names words

-- processors of this machine, with the initial one among those that are listed
pub record ListsProcessors (c : Setup) (phrase : Phrase) : Type 0 where
  pub initial : ℕ
  pub members : List ℕ
  pub initial_is : SpellsNumber c.names phrase.first initial
  pub members_are : SpellNumbers c.names phrase.series members
  pub initial_within : is_processor c.processors initial ≡ true
  pub members_within : list_all (is_processor c.processors) members ≡ true
  pub begins_within : list_any (λ n. n == initial) members ≡ true

-- the name is taken; there are too many classes; what should be a number is none; the numbers are not processors as they have to be
abbrev pub ClassFault : Stage → Phrase → ConfigKind → Type 0
ClassFault s phrase fault =
    ((fault ≡ NameTaken) × (is_refused s.setup phrase.name ≡ true))
    ⊎ ((is_refused s.setup phrase.name ≡ false) × (((fault ≡ TooMany) × (32 ≤ length s.setup.classes))
    ⊎ ((length s.setup.classes < 32) × (((fault ≡ OutOfRange) × ¬ (AreNumbers s.setup.names (phrase.first ∷ phrase.series)))
    ⊎ (AreNumbers s.setup.names (phrase.first ∷ phrase.series) × (fault ≡ BadClass) × ¬ (ListsProcessors s.setup phrase))))))

-- attributes of these names, each of which the kind allows
abbrev pub AreAllowed : ObjectKind → List (List ℕ) → Type 0
AreAllowed kind words = (attributes : List Attribute) × (map attribute.text_of attributes ≡ words) × All (λ a. Contains (allowed_of kind) a) attributes

-- the name is taken; there are too many of the kind; a handler whose class is not the time master's alone; an attribute is not allowed; a number is not in
-- its range, or the first above the second
abbrev pub ObjectFault : Stage → Class → ObjectKind → Phrase → ConfigKind → Type 0
ObjectFault s class kind phrase fault =
    ((fault ≡ NameTaken) × (is_refused s.setup phrase.name ≡ true))
    ⊎ ((is_refused s.setup phrase.name ≡ false) × (((fault ≡ TooMany) × (has_room s.setup.names (Object kind) ≡ false))
    ⊎ ((has_room s.setup.names (Object kind) ≡ true) × (((fault ≡ ForeignHandler) × (is_handled s.setup.timer class kind ≡ false))
    ⊎ ((is_handled s.setup.timer class kind ≡ true) × (((fault ≡ BadAttribute) × ¬ (AreAllowed kind phrase.series))
    ⊎ (AreAllowed kind phrase.series × (fault ≡ OutOfRange) × ((n : Numbers) → SayNumbers s.setup (statements.Create kind) phrase n → counts_fit kind n ≡ false))))))))

-- the fault of a whole statement of these words
abbrev pub StatementFault : Stage → StatementName → Phrase → ConfigKind → Type 0
StatementFault s statements.Include phrase fault = ⊥
StatementFault s statements.Processors phrase fault = (fault ≡ OutOfRange) × HasNoNumbers s.setup statements.Processors phrase
StatementFault s statements.Timer phrase fault =
    (fault ≡ OutOfRange) × (1 ≤ length phrase.first) × ((n : ℕ) → SpellsNumber s.setup.names phrase.first n → is_processor s.setup.processors n ≡ false)
StatementFault s statements.Limits phrase fault = (fault ≡ OutOfRange) × HasNoNumbers s.setup statements.Limits phrase
StatementFault s statements.DefClass phrase fault = ClassFault s phrase fault
StatementFault s statements.Class phrase fault = (fault ≡ UnknownClass) × (class_named s.setup phrase.name ≡ None)
StatementFault s (statements.Create kind) phrase fault = (class : Class) × (s.class ≡ Some class) × ObjectFault s class kind phrase fault

-- ---- its tokens

-- these tokens after the first word are the whole of the statement, with these words; or others follow them in it
abbrev pub AreWhole : StatementName → List Glyph → Phrase → Type 0
AreWhole name glyphs phrase = SpellsParts (parts_of name) no_words phrase glyphs

abbrev pub GoOn : StatementName → List Glyph → Type 0
GoOn name glyphs = (phrase : Phrase) × (next : Glyph) × (more : List Glyph) × AreWhole name (glyphs ++ (next ∷ more)) phrase

-- no statement of this name begins with these tokens
abbrev pub FitNothing : StatementName → List Glyph → Type 0
FitNothing name glyphs = ¬ (GoOn name glyphs) × ((phrase : Phrase) → ¬ (AreWhole name glyphs phrase))

-- with one token more: it does not fit the form; or the statement is whole with it, and is at fault
abbrev pub TokenFault : Stage → StatementName → List Glyph → ConfigKind → Type 0
TokenFault s name glyphs fault =
    ((fault ≡ Syntax) × FitNothing name glyphs) ⊎ ((phrase : Phrase) × AreWhole name glyphs phrase × StatementFault s name phrase fault)
