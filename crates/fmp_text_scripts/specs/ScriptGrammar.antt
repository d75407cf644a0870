-- The grammar of script texts, apart from how they are read: which texts spell which scripts. It has two levels: the lines spell sources (`Sources`), in which
-- labels have names; and the names of a source say where its script goes on.
use Rattle.std.specs.Prelude.{◌≡◌, ◌≢◌, ℕ, ◌^◌, ◌≤◌, ◌⊎◌, ◌==◌, Bool, true, false, not, List, [], ◌∷◌, ◌++◌, length, Option, Some, None, All, codes}
use Rattle.std.specs.List.{list_all, join_with_byte, AllPairs}
use Rattle.fmp_bytes.specs.Bytes.{colon, is_identifier, line_feed}
use Rattle.fmp_bytes.specs.Numerals.{signed_of}
use Rattle.fmp_bytes.specs.Spelling.{SpellsNumber}
use Rattle.fmp_codes.specs.Codes as code
use Rattle.fmp_codes.specs.declared.calls.Call.{Call}
use Rattle.fmp_codes.specs.declared.calls.Call.TheVariants as calls
use Rattle.fmp_codes.specs.declared.kinds.NameKind.TheVariants.{Function}
use Rattle.fmp_names.specs.Names.{NameLists, name_of}
use Rattle.fmp_text.specs.Limits.{most_bytes}
use Rattle.fmp_text.specs.Grammar.{AreBlank, Padded, SpellsCall}
use Rattle.fmp_text.specs.TextGrammar.{Ended, SpellsNothing, IsRest}
use Rattle.fmp_text_scripts.specs.declared.ways.Pattern.{Pattern}
use Rattle.fmp_text_scripts.specs.declared.ways.Pattern.TheVariants as pattern
use Rattle.fmp_text_scripts.specs.Lines.{is_taken}
use Rattle.fmp_text_scripts.specs.Scripts.{Steps}
use Rattle.fmp_text_scripts.specs.Sources.{Part, Asks, Stands, Jumps, Source, AreScripts}
use Rattle.fmp_text_scripts.specs.Ways.{most_steps, most_ways}

-- `script`, at least one blank, and the name of a function, with blanks around
pub record SpellsHead (names : NameLists) (text : List ℕ) (function : ℕ) : Type 0 where
  pub between : List ℕ
  pub name : List ℕ
  pub apart : 1 ≤ length between
  pub between_blank : AreBlank between
  pub is_name : name_of names Function function ≡ Some name
  pub padded : Padded (codes "script" ++ (between ++ name)) text

-- `end`, with blanks around
abbrev pub SpellsEnd : List ℕ → Type 0
SpellsEnd text = Padded (codes "end") text

-- a call, but not the return of a handler
abbrev pub SpellsStep : NameLists → List ℕ → Call → Type 0
SpellsStep names text call = SpellsCall names text call × (call ≢ calls.RetHdr)

-- the name of a label: an identifier that begins no other line of a script
abbrev pub IsLabelName : List ℕ → Type 0
IsLabelName name = (is_identifier name ≡ true) × (is_taken name ≡ false)

-- a name, blanks or none, and `:`, with blanks around
pub record SpellsLabel (text name : List ℕ) : Type 0 where
  pub between : List ℕ
  pub between_blank : AreBlank between
  pub is_name : IsLabelName name
  pub padded : Padded (name ++ (between ++ (colon ∷ []))) text

-- blanks, `goto`, blanks and the name of a label
pub record SpellsGoal (text name : List ℕ) : Type 0 where
  pub between : List ℕ
  pub apart : 1 ≤ length between
  pub between_blank : AreBlank between
  pub is_name : IsLabelName name
  pub padded : Padded (codes "goto" ++ (between ++ name)) text

-- the answers that a word is for: `refused`, the name of a code, or that with a value
abbrev pub SpellsAnswer : List ℕ → Pattern → Type 0
SpellsAnswer token pattern.Any = ⊥
SpellsAnswer token pattern.Refused = token ≡ codes "refused"
SpellsAnswer token (pattern.Coded c) = token ≡ code.name_of c
SpellsAnswer token (pattern.Valued c v) =
    (number : List ℕ) × (negative : Bool) × (magnitude : ℕ) × SpellsNumber number negative magnitude × (signed_of (2 ^ 63) negative magnitude ≡ Some v)
    × (token ≡ code.name_of c ++ (colon ∷ number))

-- blanks, `on`, blanks, an answer, and blanks before `goto` and a name
pub record SpellsOn (text : List ℕ) (answer : Pattern) (name : List ℕ) : Type 0 where
  pub before : List ℕ
  pub between : List ℕ
  pub token : List ℕ
  pub rest : List ℕ
  pub before_blank : AreBlank before
  pub between_blank : AreBlank between
  pub apart : 1 ≤ length between
  pub is_answer : SpellsAnswer token answer
  pub goal : SpellsGoal rest name
  pub goal_apart : 1 ≤ length goal.padded.before
  pub parts : text ≡ before ++ (codes "on" ++ (between ++ (token ++ rest)))

abbrev pub SpellsPart : NameLists → List ℕ → Part → Type 0
SpellsPart names text (Asks call) = SpellsStep names text call
SpellsPart names text (Stands name) = SpellsLabel text name
SpellsPart names text (Jumps pattern.Any name) = SpellsGoal text name
SpellsPart names text (Jumps answer name) = SpellsOn text answer name

-- a line that is so, or with a carriage return at its end
abbrev pub IsLine : (List ℕ → Type 0) → List ℕ → Type 0
IsLine Is line = (core : List ℕ) × Ended core line × Is core

-- the lines spell parts, each line one part or none
abbrev pub SpellsParts : NameLists → List (List ℕ) → List Part → Type 0
SpellsParts names [] parts = parts ≡ []
SpellsParts names (line ∷ lines) parts =
    (SpellsNothing line × SpellsParts names lines parts)
    ⊎ ((part : Part) × (others : List Part) × IsLine (λ text. SpellsPart names text part) line × (parts ≡ part ∷ others) × SpellsParts names lines others)

-- the lines spell the sources. Where a script is open, they spell its other parts before these
abbrev pub SpellsLines : NameLists → List (List ℕ) → Option (List Part) → List Source → Type 0
SpellsLines names [] inside sources = ⊥
SpellsLines names (last ∷ []) None sources = IsRest last × (sources ≡ [])
SpellsLines names (last ∷ []) (Some parts) sources = ⊥
SpellsLines names (line ∷ next ∷ lines) None sources =
    (SpellsNothing line × SpellsLines names (next ∷ lines) None sources)
    ⊎ ((s : Source) × (others : List Source) × IsLine (λ text. SpellsHead names text s.function) line × (sources ≡ s ∷ others)
    × SpellsLines names (next ∷ lines) (Some s.parts) others)
SpellsLines names (line ∷ next ∷ lines) (Some parts) sources =
    (SpellsNothing line × SpellsLines names (next ∷ lines) (Some parts) sources)
    ⊎ ((IsLine SpellsEnd line × (parts ≡ []) × SpellsLines names (next ∷ lines) None sources)
    ⊎ ((part : Part) × (others : List Part) × IsLine (λ text. SpellsPart names text part) line × (parts ≡ part ∷ others)
    × SpellsLines names (next ∷ lines) (Some others) sources))

-- a whole text: lines with line feeds between them, within the limits, and no function with two scripts
pub record SpellsScripts (names : NameLists) (text : List ℕ) (scripts : List Steps) : Type 0 where
  pub lines : List (List ℕ)
  pub sources : List Source
  pub parts : text ≡ join_with_byte line_feed lines
  pub cut : list_all (list_all (λ b. not (b == line_feed))) lines ≡ true
  pub spelled : SpellsLines names lines None sources
  pub linked : AreScripts sources scripts
  pub once : AllPairs (λ s t. s.function ≢ t.function) scripts
  pub few : All (λ s. length s.steps ≤ most_steps) scripts
  pub few_ways : All (λ s. length s.ways ≤ most_ways) scripts
  pub short : length text ≤ most_bytes
