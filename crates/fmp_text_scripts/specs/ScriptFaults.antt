-- What is wrong with a line of a script text, apart from how it is read: rows of faults, each where none above it is there. They are told after the
-- scripts that the lines before it say, and the one that these leave open.
use Rattle.std.specs.Prelude.{◌≡◌, ◌≢◌, ℕ, ℤ, ◌^◌, ◌≤◌, ◌⊎◌, ◌==◌, Bool, true, false, is_some, List, length, Option, None, Some, codes}
use Rattle.std.specs.List.{list_all, list_any}
use Rattle.fmp_bytes.specs.declared.classes.Class.TheVariants.{Argument, Blank, Line}
use Rattle.fmp_bytes.specs.Bytes.{is_of, prefix, after, following, colon, is_identifier}
use Rattle.fmp_bytes.specs.Numerals.{number_of, signed_of}
use Rattle.fmp_bytes.specs.Spelling.{SpellsNumber}
use Rattle.fmp_calls.specs.Table.{text_of}
use Rattle.fmp_codes.specs.declared.kinds.NameKind.TheVariants.{Function}
use Rattle.fmp_codes.specs.Codes as code
use Rattle.fmp_codes.specs.declared.calls.Call.{Call}
use Rattle.fmp_codes.specs.declared.codes.Code.{Code}
use Rattle.fmp_names.specs.Names.{NameLists, name_of}
use Rattle.fmp_text.specs.EventFaults.{following_word, first_word, CallFault}
use Rattle.fmp_text.specs.Grammar.{AreBlank, Padded, SpellsCall}
use Rattle.fmp_text.specs.Lines.{without_return}
use Rattle.fmp_text.specs.TextGrammar.{SpellsNothing}
use Rattle.fmp_text.specs.declared.fault.TextKind.{TextKind}
use Rattle.fmp_text.specs.declared.fault.TextKind.TheVariants.{BadByte, BadWord, UnknownName, WrongArguments, NumberOutOfRange, TooMany}
use Rattle.fmp_text_scripts.specs.declared.ways.Pattern.{Pattern}
use Rattle.fmp_text_scripts.specs.Lines.{are_line, is_taken}
use Rattle.fmp_text_scripts.specs.Linking.{has_label, linked}
use Rattle.fmp_text_scripts.specs.Scripts.{Steps}
use Rattle.fmp_text_scripts.specs.ScriptGrammar.{SpellsPart}
use Rattle.fmp_text_scripts.specs.Sources.{Jumps}
use Rattle.fmp_text_scripts.specs.Texts.{Open}
use Rattle.fmp_text_scripts.specs.Ways.{most_steps, most_labels, most_ways}

-- one identifier, with blanks around
abbrev pub IsOneName : List ℕ → List ℕ → Type 0
IsOneName name text = Padded name text × (is_identifier name ≡ true)

-- after `script`: not one name; the name of no function; that of a function that has a script
abbrev pub HeadFault : NameLists → List Steps → List ℕ → TextKind → Type 0
HeadFault names done text fault =
    ((fault ≡ WrongArguments) × ((name : List ℕ) → ¬ (IsOneName name text)))
    ⊎ ((name : List ℕ) × IsOneName name text × (((fault ≡ UnknownName) × ((f : ℕ) → name_of names Function f ≢ Some name))
    ⊎ ((f : ℕ) × (name_of names Function f ≡ Some name) × (fault ≡ WrongArguments) × (list_any (λ s. s.function == f) done ≡ true))))

-- after `end`: more than blanks; a jump of the script to a name that none of its labels has
abbrev pub EndFault : Open → List ℕ → TextKind → Type 0
EndFault o text fault = ((fault ≡ WrongArguments) × ¬ (AreBlank text)) ⊎ (AreBlank text × (fault ≡ UnknownName) × (linked o.labels o.jumps ≡ None))

-- after `goto`: not one name; one that no label may have
abbrev pub NameFault : List ℕ → TextKind → Type 0
NameFault text fault =
    ((fault ≡ WrongArguments) × ((name : List ℕ) → ¬ (IsOneName name text)))
    ⊎ ((name : List ℕ) × IsOneName name text × (fault ≡ UnknownName) × (is_taken name ≡ true))

-- after an answer: no `goto`, or a fault after that
abbrev pub GoalFault : List ℕ → TextKind → Type 0
GoalFault text fault = ((fault ≡ WrongArguments) × (first_word text ≢ codes "goto")) ⊎ ((first_word text ≡ codes "goto") × NameFault (following_word text) fault)

-- a number of 64 bits with a sign
abbrev pub SpellsData : List ℕ → ℤ → Type 0
SpellsData token v = (negative : Bool) × (magnitude : ℕ) × SpellsNumber token negative magnitude × (signed_of (2 ^ 63) negative magnitude ≡ Some v)

-- after the colon of a code: no number; one that is no such number
abbrev pub ValueFault : List ℕ → TextKind → Type 0
ValueFault token fault =
    ((fault ≡ WrongArguments) × (number_of token ≡ None))
    ⊎ ((fault ≡ NumberOutOfRange) × (is_some (number_of token) ≡ true) × ((v : ℤ) → ¬ (SpellsData token v)))

abbrev pub IsNoCode : List ℕ → Type 0
IsNoCode word = (c : Code) → code.name_of c ≢ word

-- after `on`, from left to right: no identifier; one that is neither `refused` nor a code, or with a colon no code; a value; what stands after the answer
abbrev pub TurnFault : List ℕ → List ℕ → Option (List ℕ) → TextKind → Type 0
TurnFault word rest None fault =
    ((fault ≡ WrongArguments) × (is_identifier word ≡ false))
    ⊎ ((is_identifier word ≡ true) × (((fault ≡ UnknownName) × (word ≢ codes "refused") × IsNoCode word)
    ⊎ (((word ≡ codes "refused") ⊎ ((c : Code) × (code.name_of c ≡ word))) × GoalFault rest fault)))
TurnFault word rest (Some text) fault =
    ((fault ≡ WrongArguments) × (is_identifier word ≡ false))
    ⊎ ((is_identifier word ≡ true) × (((fault ≡ UnknownName) × IsNoCode word)
    ⊎ ((c : Code) × (code.name_of c ≡ word)
    × (ValueFault (prefix Argument text) fault ⊎ ((v : ℤ) × SpellsData (prefix Argument text) v × GoalFault (after Argument text) fault)))))

-- a label: its name is no identifier, or more than blanks follow its colon; another label of the script has the name; one label more than a script may have
abbrev pub LabelFault : Open → List ℕ → List ℕ → TextKind → Type 0
LabelFault o name text fault =
    ((fault ≡ WrongArguments) × ((is_identifier name ≡ false) ⊎ ¬ (AreBlank text)))
    ⊎ ((is_identifier name ≡ true) × AreBlank text × (((fault ≡ WrongArguments) × (has_label o.labels name ≡ true))
    ⊎ ((fault ≡ TooMany) × (has_label o.labels name ≡ false) × (most_labels ≤ length o.labels))))

-- a step: a colon; no name of a call; a fault of its call; one step more than a script may have
abbrev pub StepFault : NameLists → Open → List ℕ → TextKind → Type 0
StepFault names o text fault =
    ((fault ≡ BadByte) × (list_all (is_of Line) text ≡ false))
    ⊎ ((list_all (is_of Line) text ≡ true) × (((fault ≡ BadWord) × ((call : Call) → text_of call ≢ first_word text))
    ⊎ (((call : Call) × (text_of call ≡ first_word text) × CallFault names call (following_word text) fault)
    ⊎ (((call : Call) × SpellsCall names text call) × (fault ≡ TooMany) × (most_steps ≤ length o.steps)))))

-- a jump that stands after no call and no `on`; one way more than a script may have
abbrev pub JumpFault : Open → TextKind → Type 0
JumpFault o fault = ((fault ≡ BadWord) × (o.following ≡ false)) ⊎ ((fault ≡ TooMany) × (o.following ≡ true) × (most_ways ≤ length o.jumps))

-- by what stands after the first word, which is none of the other words: a label's colon, or else it is a step
abbrev pub OtherFault : NameLists → Open → List ℕ → Option (List ℕ) → TextKind → Type 0
OtherFault names o text None fault = StepFault names o text fault
OtherFault names o text (Some rest) fault = LabelFault o (first_word text) rest fault

-- where no script is open, another word than `script`, or a fault after that; where one is open, `script` or the return of a handler, a fault after one of
-- the other words, or a fault of a jump, a label or a step
abbrev pub WordFault : NameLists → List Steps → Option Open → List ℕ → TextKind → Type 0
WordFault names done None text fault =
    ((fault ≡ BadWord) × (first_word text ≢ codes "script")) ⊎ ((first_word text ≡ codes "script") × HeadFault names done (following_word text) fault)
WordFault names done (Some o) text fault =
    ((fault ≡ BadWord) × ((first_word text ≡ codes "script") ⊎ (first_word text ≡ codes "ret_hdr")))
    ⊎ (((first_word text ≡ codes "end") × EndFault o (following_word text) fault)
    ⊎ (((first_word text ≡ codes "on") × TurnFault (first_word (following_word text)) (following_word (following_word text)) (following colon (following_word (following_word text))) fault)
    ⊎ (((first_word text ≡ codes "goto") × NameFault (following_word text) fault)
    ⊎ (((answer : Pattern) × (name : List ℕ) × SpellsPart names text (Jumps answer name) × JumpFault o fault)
    ⊎ ((is_taken (first_word text) ≡ false) × OtherFault names o text (following colon (after Blank (following_word text))) fault)))))

-- a line that is not blank and no comment has this fault: a byte that may stand in no line, or one by its first word
abbrev pub ScriptFault : NameLists → List Steps → Option Open → List ℕ → TextKind → Type 0
ScriptFault names done unclosed line fault =
    ¬ (SpellsNothing line) × (((fault ≡ BadByte) × (are_line (without_return line) ≡ false))
    ⊎ ((are_line (without_return line) ≡ true) × WordFault names done unclosed (without_return line) fault))
