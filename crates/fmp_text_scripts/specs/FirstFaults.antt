-- Where the first fault of a script text stands, and of which kind it is: how the lines before it can go on, and which texts have the same fault.
use Rattle.std.specs.Prelude.{◌≡◌, ◌<◌, ◌≤◌, ℕ, ◌+◌, ◌⊎◌, List, [], ◌∷◌, ◌++◌, length, Option, None, Some, Err, false, All, codes, if◌then◌else◌}
use Rattle.fmp_bytes.specs.Bytes.{colon, line_feed}
use Rattle.fmp_names.specs.Names.{NameLists}
use Rattle.fmp_text.specs.Limits.{most_bytes}
use Rattle.fmp_text.specs.declared.fault.TextFault.{TextFault}
use Rattle.fmp_text.specs.declared.fault.TextKind.TheVariants.{CutShort, TooMany}
use Rattle.fmp_text.specs.FirstFaults.{lines_text, AreApart}
use Rattle.fmp_text.specs.TextGrammar.{IsRest}
use Rattle.fmp_text_scripts.specs.declared.linking.Jump.{Jump}
use Rattle.fmp_text_scripts.specs.declared.linking.Label.{Label}
use Rattle.fmp_text_scripts.specs.declared.ways.Way.{Way}
use Rattle.fmp_text_scripts.specs.Linking.{has_label, linked}
use Rattle.fmp_text_scripts.specs.Scripts.{Steps}
use Rattle.fmp_text_scripts.specs.Ways.{most_labels}
use Rattle.fmp_text_scripts.specs.ScriptFaults.{ScriptFault}
use Rattle.fmp_text_scripts.specs.ScriptGrammar.{IsLine, SpellsEnd, SpellsHead, SpellsParts, SpellsScripts}
use Rattle.fmp_text_scripts.specs.Sources.{Part, ArePlaced, AreNew, calls_of, is_after, jumps_of, labels_of}
use Rattle.fmp_text_scripts.specs.Texts.{Open, scripts_in}

-- these whole lines say these scripts and leave this one open: those before its head spell the scripts, and those after it its parts
pub record LeaveOpen (names : NameLists) (lines : List (List ℕ)) (done : List Steps) (o : Open) : Type 0 where
  pub before : List (List ℕ)
  pub head : List ℕ
  pub following : List (List ℕ)
  pub parts : List Part
  pub lines_are : lines ≡ before ++ (head ∷ following)
  pub number : o.line ≡ length before + 1
  pub spelled : length (lines_text before) ≤ most_bytes → SpellsScripts names (lines_text before) done
  pub opens : IsLine (λ text. SpellsHead names text o.function) head
  pub says : SpellsParts names following parts
  pub steps : o.steps ≡ calls_of parts
  pub jumps : o.jumps ≡ jumps_of 0 parts
  pub labels : o.labels ≡ labels_of 0 parts
  pub after_is : o.following ≡ is_after false parts
  pub placed : ArePlaced false parts
  pub new : AreNew 0 [] parts

-- the labels of an open script, and those that its jumps are in want of, after so many calls
abbrev pub all_labels : ℕ → List Label → List Jump → List Label
all_labels at labels [] = labels
all_labels at labels (j ∷ jumps) =
    if has_label labels j.name then all_labels at labels jumps
    else all_labels at (labels ++ record { name = j.name; at = at } ∷ []) jumps

-- the lines that end an open script: a label for each name that its jumps are in want of, and `end`
abbrev pub ending : ℕ → List Label → List Jump → List ℕ
ending at labels [] = codes "end\n"
ending at labels (j ∷ jumps) =
    if has_label labels j.name then ending at labels jumps
    else (j.name ++ (colon ∷ [])) ++ (line_feed ∷ ending at (labels ++ record { name = j.name; at = at } ∷ []) jumps)

-- with these lines after them the whole lines spell scripts, where there is room for them: those that are done, and the open one with a way for each jump.
-- Where no jump is in want of a label, as in a script without jumps, these lines are `end` alone
pub record CanEnd (names : NameLists) (lines : List (List ℕ)) (done : List Steps) (o : Open) : Type 0 where
  pub ways : List Way
  pub linked : linked (all_labels (length o.steps) o.labels o.jumps) o.jumps ≡ Some ways
  pub spelled : length (lines_text lines ++ ending (length o.steps) o.labels o.jumps) ≤ most_bytes → length (all_labels (length o.steps) o.labels o.jumps) ≤ most_labels
      → SpellsScripts names (lines_text lines ++ ending (length o.steps) o.labels o.jumps) (done ++ record { function = o.function; steps = o.steps; ways = ways } ∷ [])

-- these whole lines say these scripts, and leave none open or this one
abbrev pub Say : NameLists → List (List ℕ) → List Steps → Option Open → Type 0
Say names lines done None = length (lines_text lines) ≤ most_bytes → SpellsScripts names (lines_text lines) done
Say names lines done (Some o) = LeaveOpen names lines done o × CanEnd names lines done o

-- these whole lines have no fault. They say some scripts, and can go on so that the text spells scripts; and however a text goes on after them, its fault stands
-- after them too, or it is cut short
pub record HaveNoFault (names : NameLists) (lines : List (List ℕ)) : Type 0 where
  pub complete : (done : List Steps) × (unclosed : Option Open) × Say names lines done unclosed
  pub clean : (more : List ℕ) (fault : TextFault) → length (lines_text lines ++ more) ≤ most_bytes → scripts_in names (lines_text lines ++ more) ≡ Err fault
      → (length lines < fault.line) ⊎ (fault.kind ≡ CutShort)

-- the fault stands in a whole line: those before it have none, no text that goes on from this line spells scripts, and each that does, within the limit,
-- has this fault. Its kind is that of the table, after the scripts that the lines before it say and the one that they leave open
pub record FaultInLine (names : NameLists) (text : List ℕ) (fault : TextFault) : Type 0 where
  pub before : List (List ℕ)
  pub line : List ℕ
  pub rest : List ℕ
  pub parts : text ≡ lines_text before ++ (line ++ (line_feed ∷ rest))
  pub apart : AreApart (line ∷ before)
  pub number : fault.line ≡ length before + 1
  pub faultless : HaveNoFault names before
  pub never : (more : List ℕ) (scripts : List Steps) → SpellsScripts names (lines_text before ++ (line ++ (line_feed ∷ more))) scripts → ⊥
  pub kind : (done : List Steps) × (unclosed : Option Open) × Say names before done unclosed × ScriptFault names done unclosed line fault.kind
  pub report : (more : List ℕ) → length (lines_text before ++ (line ++ (line_feed ∷ more))) ≤ most_bytes
      → scripts_in names (lines_text before ++ (line ++ (line_feed ∷ more))) ≡ Err fault

-- the lines leave a script open that begins in line n: those before it spell scripts, and none after it is an `end`
pub record AreOpen (names : NameLists) (lines : List (List ℕ)) (n : ℕ) : Type 0 where
  pub before : List (List ℕ)
  pub head : List ℕ
  pub following : List (List ℕ)
  pub function : ℕ
  pub scripts : List Steps
  pub parts : lines ≡ before ++ (head ∷ following)
  pub number : n ≡ length before + 1
  pub spelled : SpellsScripts names (lines_text before) scripts
  pub opens : IsLine (λ text. SpellsHead names text function) head
  pub unended : All (λ line. ¬ (IsLine SpellsEnd line)) following

-- the text is cut short: its whole lines have no fault, and after them stands what is neither blank nor a comment, or a script is open
pub record FaultAtEnd (names : NameLists) (text : List ℕ) (fault : TextFault) : Type 0 where
  pub before : List (List ℕ)
  pub last : List ℕ
  pub parts : text ≡ lines_text before ++ last
  pub apart : AreApart (last ∷ before)
  pub kind : fault.kind ≡ CutShort
  pub faultless : HaveNoFault names before
  pub here : ((IsRest last → ⊥) × (fault.line ≡ length before + 1)) ⊎ (IsRest last × AreOpen names before fault.line)

-- the text is too long, or its fault stands in a whole line or at its end
abbrev pub FirstFault : NameLists → List ℕ → TextFault → Type 0
FirstFault names text fault =
    ((most_bytes < length text) × (fault ≡ record { kind = TooMany; line = 0 }))
    ⊎ ((length text ≤ most_bytes) × (FaultInLine names text fault ⊎ FaultAtEnd names text fault))
