-- Reading a line of a script text from left to right, up to the first byte that does not fit.
use Rattle.std.specs.Prelude.{◌≡◌, ℕ, not, List, Option, None, Some, Result, Ok, Err, if◌then◌else◌, codes}
use Rattle.std.specs.List.{list_all}
use Rattle.std.specs.Option.{ok_or}
use Rattle.std.specs.Str.{bytes_eq}
use Rattle.fmp_bytes.specs.declared.classes.Class.TheVariants.{Argument, Blank, Line}
use Rattle.fmp_bytes.specs.Bytes.{is_of, prefix, after, following, colon, is_identifier}
use Rattle.fmp_bytes.specs.Results.{◌>>=◌}
use Rattle.fmp_calls.specs.Table.{named}
use Rattle.fmp_codes.specs.declared.calls.Call.{Call}
use Rattle.fmp_codes.specs.declared.codes.Code.{Code}
use Rattle.fmp_codes.specs.declared.kinds.NameKind.TheVariants.{Function}
use Rattle.fmp_names.specs.Names.{NameLists, number_of}
use Rattle.fmp_text.specs.declared.fault.TextKind.{TextKind}
use Rattle.fmp_text.specs.declared.fault.TextKind.TheVariants.{BadByte, BadWord, UnknownName, WrongArguments}
use Rattle.fmp_text.specs.EventFaults.{first_word, following_word}
use Rattle.fmp_text.specs.Places.{call_after}
use Rattle.fmp_text.specs.Places.{Place as CallPlace}
use Rattle.fmp_text_scripts.specs.declared.line.Said.{Said}
use Rattle.fmp_text_scripts.specs.declared.line.Said.TheVariants as said
use Rattle.fmp_text_scripts.specs.declared.misfit.Misfit.{Misfit}
use Rattle.fmp_text_scripts.specs.declared.misfit.Wanted.{Wanted}
use Rattle.fmp_text_scripts.specs.declared.misfit.Wanted.TheVariants as wants
use Rattle.fmp_text_scripts.specs.declared.ways.Pattern.{Pattern}
use Rattle.fmp_text_scripts.specs.declared.ways.Pattern.TheVariants as pattern
use Rattle.fmp_text_scripts.specs.Lines.{code_in, is_taken, pattern_of, value_in}

-- a fault, the rest of the line from the first byte at fault on, and what is wanted there
pub record Place : Type 0 where
  pub kind : TextKind
  pub rest : List ℕ
  pub wanted : Wanted

abbrev pub fault_at : TextKind → List ℕ → Wanted → Place
fault_at kind rest wanted = record { kind = kind; rest = rest; wanted = wanted }

-- a fault of what begins this text
abbrev pub faults_at : {A : Type 0} → List ℕ → Wanted → Result A TextKind → Result A Place
faults_at rest wanted (Ok x) = Ok x
faults_at rest wanted (Err kind) = Err (fault_at kind rest wanted)

-- nothing more but blanks
unfoldable pub ending : List ℕ → Result (Unit {0}) Place
ending text = if list_all (is_of Blank) text then Ok tt else Err (fault_at WrongArguments (after Blank text) wants.LineEnd)

-- exactly one name, in whose place this is wanted
unfoldable pub name_in : Wanted → List ℕ → Result (List ℕ) Place
name_in wanted text =
    if is_identifier (first_word text) then (ending (following_word text) >>= λ end. Ok (first_word text))
    else Err (fault_at WrongArguments (after Blank text) wanted)

-- after `script`: the name of a function
unfoldable pub begins : NameLists → List ℕ → Result Said Place
begins names text = do
  name ← name_in wants.Function text
  f ← ok_or (number_of names Function name) (fault_at UnknownName (after Blank text) wants.Function)
  Ok (said.Opens f)

-- exactly one name, which a label may have
unfoldable pub label_in : List ℕ → Result (List ℕ) Place
label_in text = do
  name ← name_in wants.LabelName text
  if is_taken name then Err (fault_at UnknownName (after Blank text) wants.LabelName) else Ok name

-- `goto`, and exactly one name
unfoldable pub goal_in : List ℕ → Result (List ℕ) Place
goal_in text =
    if bytes_eq (first_word text) (codes "goto") then label_in (following_word text)
    else Err (fault_at WrongArguments (after Blank text) wants.Goal)

-- the code that has a value after it
unfoldable pub coded : List ℕ → Result Code TextKind
coded word = if not (is_identifier word) then Err WrongArguments else ok_or (code_in word) UnknownName

-- a code, and the value that begins what follows its colon
unfoldable pub valued : List ℕ → List ℕ → Result Pattern Place
valued text value = do
  c ← faults_at (after Blank text) wants.Answered (coded (first_word text))
  v ← faults_at value wants.AnsweredValue (value_in (prefix Argument value))
  Ok (pattern.Valued c v)

-- answers, and where the script goes on after them
abbrev pub turned : Result Pattern Place → List ℕ → Result Said Place
turned answer rest = (answer >>= λ a. goal_in rest >>= λ name. Ok (said.Jumps a name))

-- after `on`: by whether a colon follows the first word
abbrev pub turn_with : List ℕ → Option (List ℕ) → Result Said Place
turn_with text None = turned (faults_at (after Blank text) wants.Answered (pattern_of (first_word text))) (following_word text)
turn_with text (Some value) = turned (valued text value) (after Argument value)

unfoldable pub turn_in : List ℕ → Result Said Place
turn_in text = turn_with text (following colon (following_word text))

-- a label: its name, and nothing after its colon
unfoldable pub stands : List ℕ → List ℕ → Result Said Place
stands text rest =
    if is_identifier (first_word text) then (ending rest >>= λ end. Ok (said.Stands (first_word text)))
    else Err (fault_at WrongArguments (after Blank text) wants.LabelName)

-- a step by its call, which stops where the call does
abbrev pub asked : Result Call CallPlace → Result Said Place
asked (Ok call) = Ok (said.Asks call)
asked (Err place) = Err (fault_at place.kind place.rest (wants.Call place.wanted))

-- a step: no colon stands in it
unfoldable pub asks : NameLists → List ℕ → Result Said Place
asks names text =
    if list_all (is_of Line) text then (ok_or (named (first_word text)) (fault_at BadWord (after Blank text) wants.Step) >>= λ call. asked (call_after names call (following_word text)))
    else Err (fault_at BadByte (after Line text) wants.LineByte)

abbrev pub other_said : NameLists → List ℕ → Option (List ℕ) → Result Said Place
other_said names text None = asks names text
other_said names text (Some rest) = stands text rest

-- a line by its first word, wherever it stands
unfoldable pub said_by : NameLists → List ℕ → Result Said Place
said_by names text =
    if bytes_eq (first_word text) (codes "script") then begins names (following_word text)
    else (if bytes_eq (first_word text) (codes "end") then (ending (following_word text) >>= λ end. Ok said.Closes)
    else (if bytes_eq (first_word text) (codes "on") then turn_in (following_word text)
    else (if bytes_eq (first_word text) (codes "goto") then (label_in (following_word text) >>= λ name. Ok (said.Jumps pattern.Any name))
    else other_said names text (following colon (after Blank (following_word text))))))

abbrev pub place_of : Misfit → Place
place_of misfit = fault_at misfit.kind misfit.rest.now misfit.wanted

-- what a function returned, seen by view, is what reading gives
abbrev pub Gives : {X Y : Type 0} → (X → Y) → Result X Misfit → Result Y Place → Type 0
Gives view (Ok x) read = read ≡ Ok (view x)
Gives view (Err misfit) read = read ≡ Err (place_of misfit)
