-- Reading a line from left to right, up to the first byte that does not fit.
use Rattle.std.specs.Prelude.{◌≡◌, ◌++◌, ℕ, zero, suc, ◌+◌, List, [], ◌∷◌, Option, Some, None, Result, Ok, Err, if◌then◌else◌, codes}
use Rattle.std.specs.List.{list_all}
use Rattle.std.specs.Option.{ok_or}
use Rattle.std.specs.Str.{bytes_eq}
use Rattle.fmp_bytes.specs.declared.classes.Class.TheVariants.{Blank, Word, Argument, Line}
use Rattle.fmp_bytes.specs.Bytes.{is_of, prefix, after, following, close_parenthesis, comma, open_parenthesis}
use Rattle.fmp_bytes.specs.Results.{◌>>=◌}
use Rattle.fmp_calls.specs.Table.{is_bare, kinds_of, call_of, named}
use Rattle.fmp_codes.specs.declared.calls.Call.{Call}
use Rattle.fmp_codes.specs.declared.kinds.ArgumentKind.{ArgumentKind}
use Rattle.fmp_codes.specs.declared.kinds.Value.{Value}
use Rattle.fmp_codes.specs.declared.numbers.Proc.{Proc}
use Rattle.fmp_codes.specs.declared.records.Event.{Event}
use Rattle.fmp_codes.specs.declared.records.Event.TheVariants as events
use Rattle.fmp_names.specs.Names.{NameLists}
use Rattle.fmp_text.specs.declared.fault.TextKind.{TextKind}
use Rattle.fmp_text.specs.declared.fault.TextKind.TheVariants.{BadByte, BadWord, WrongArguments}
use Rattle.fmp_text.specs.declared.misfit.Misfit.{Misfit}
use Rattle.fmp_text.specs.declared.misfit.Wanted.{Wanted}
use Rattle.fmp_text.specs.declared.misfit.Wanted.TheVariants as wants
use Rattle.fmp_text.specs.Argument.{is_argument, value_at}
use Rattle.fmp_text.specs.Lines.{is_skipped, processor_in, without_return}

-- a fault, the rest of the line from the first byte at fault on, and what is wanted there
pub record Place : Type 0 where
  pub kind : TextKind
  pub rest : List ℕ
  pub wanted : Wanted

abbrev pub fault_at : TextKind → List ℕ → Wanted → Place
fault_at kind rest wanted = record { kind = kind; rest = rest; wanted = wanted }

-- a fault of what begins this text
abbrev pub faults_at : {A : Type 0} → List ℕ → Wanted → Result A TextKind → Result A Place
faults_at rest wanted (Ok x) = Ok x
faults_at rest wanted (Err kind) = Err (fault_at kind rest wanted)

-- blanks, and a byte
unfoldable pub mark : Call → ℕ → List ℕ → Result (List ℕ) Place
mark call byte text = ok_or (following byte (after Blank text)) (fault_at WrongArguments (after Blank text) (wants.Mark call byte))

-- blanks up to the argument of this index, with a comma before them unless it is the first
abbrev pub start : Call → ℕ → List ℕ → Result (List ℕ) Place
start call zero text = Ok (after Blank text)
start call (suc i) text = do
  rest ← mark call comma text
  Ok (after Blank rest)

-- what follows the argument that begins a text
unfoldable pub argument : Call → ArgumentKind → List ℕ → Result (List ℕ) Place
argument call kind text = if is_argument (prefix Argument text) then Ok (after Argument text) else Err (fault_at WrongArguments text (wants.Argument call kind))

-- the arguments from this index on: the text from each on, and what follows the last one
abbrev pub arguments : Call → ℕ → List ArgumentKind → List ℕ → Result (List (List ℕ) × List ℕ) Place
arguments call index [] text = Ok ([], text)
arguments call index (kind ∷ kinds) text = do
  first ← start call index text
  rest ← argument call kind first
  others ← arguments call (index + 1) kinds rest
  Ok (first ∷ others.0, others.1)

-- nothing more but blanks
unfoldable pub ending : Wanted → List ℕ → Result (Unit {0}) Place
ending wanted text = if list_all (is_of Blank) text then Ok tt else Err (fault_at WrongArguments (after Blank text) wanted)

-- parentheses with arguments of these kinds: the text from each argument on
unfoldable pub enclosed : Call → List ArgumentKind → List ℕ → Result (List (List ℕ)) Place
enclosed call kinds text = do
  inner ← mark call open_parenthesis text
  read ← arguments call 0 kinds inner
  rest ← mark call close_parenthesis read.1
  end ← ending (wants.CallEnd call) rest
  Ok read.0

-- what follows a call's name, as far as its form is concerned
unfoldable pub formed : Call → List ℕ → Result (List (List ℕ)) Place
formed call text = if is_bare call then (ending (wants.CallEnd call) text >>= λ end. Ok []) else enclosed call (kinds_of call) text

-- the value of the argument that begins a text
unfoldable pub value : NameLists → Call → ArgumentKind → List ℕ → Result Value Place
value names call kind text = faults_at text (wants.Argument call kind) (value_at names kind (prefix Argument text))

-- the values of the arguments that begin these texts
abbrev pub values : NameLists → Call → List ArgumentKind → List (List ℕ) → Result (List Value) Place
values names call [] texts = Ok []
values names call (kind ∷ kinds) [] = Ok []
values names call (kind ∷ kinds) (text ∷ texts) = do
  first ← value names call kind text
  others ← values names call kinds texts
  Ok (first ∷ others)

-- the call of this name: first its form is judged, and then the values of its arguments
unfoldable pub call_after : NameLists → Call → List ℕ → Result Call Place
call_after names call text = do
  texts ← formed call text
  list ← values names call (kinds_of call) texts
  ok_or (call_of call list) (fault_at WrongArguments text (wants.CallEnd call))

-- a call with no blanks before it
unfoldable pub call_at : NameLists → List ℕ → Result Call Place
call_at names text = do
  call ← ok_or (named (prefix Word text)) (fault_at BadWord text wants.Happening)
  call_after names call (after Word text)

-- an event without arguments, with what follows its word
abbrev pub alone : Event → List ℕ → Result Event Place
alone event rest = ending wants.LineEnd rest >>= λ end. Ok event

-- what happens on a processor
unfoldable pub event_of : NameLists → Proc → List ℕ → Result Event Place
event_of names processor text =
    if bytes_eq (prefix Word text) (codes "tick") then alone (events.Tick processor) (after Word text)
    else (if bytes_eq (prefix Word text) (codes "ipi") then alone (events.Ipi processor) (after Word text)
    else (call_at names text >>= λ call. Ok (events.Call processor call)))

-- a line that begins with no blank
unfoldable pub event_at : NameLists → List ℕ → Result Event Place
event_at names text = do
  processor ← faults_at text wants.Processor (processor_in names (prefix Word text))
  event_of names processor (after Blank (after Word text))

-- a line that is not to be skipped
unfoldable pub event_in : NameLists → List ℕ → Result Event Place
event_in names line = if list_all (is_of Line) line then event_at names (after Blank line) else Err (fault_at BadByte (after Line line) wants.LineByte)

-- a whole line. A carriage return at its end is no part of it
unfoldable pub line_event : NameLists → List ℕ → Result (Option Event) Place
line_event names line =
    if is_skipped (without_return line) then Ok None
    else (event_in names (without_return line) >>= λ event. Ok (Some event))

abbrev pub place_of : Misfit → Place
place_of misfit = fault_at misfit.kind misfit.rest.now misfit.wanted

-- what a function returned, seen by view, is what reading gives
abbrev pub Gives : {X Y : Type 0} → (X → Y) → Result X Misfit → Result Y Place → Type 0
Gives view (Ok x) read = read ≡ Ok (view x)
Gives view (Err misfit) read = read ≡ Err (place_of misfit)

-- what a function returned, with the fault alone
abbrev pub without_place : {X : Type 0} → Result X Misfit → Result X TextKind
without_place (Ok x) = Ok x
without_place (Err misfit) = Err misfit.kind

-- the end of a line
abbrev pub IsEnd : List ℕ → List ℕ → Type 0
IsEnd rest line = (before : List ℕ) × (line ≡ before ++ rest)
