-- Reading a call from left to right, with the first fault that is met.
use Rattle.std.specs.Prelude.{◌≡◌, ℕ, List, [], ◌∷◌, length, Result, Ok, Err, ◌==◌, if◌then◌else◌}
use Rattle.std.specs.List.{list_all}
use Rattle.std.specs.Option.{ok_or}
use Rattle.fmp_codes.specs.declared.calls.Call.{Call}
use Rattle.fmp_codes.specs.declared.kinds.ArgumentKind.{ArgumentKind}
use Rattle.fmp_codes.specs.declared.kinds.Value.{Value}
use Rattle.fmp_codes.specs.Kinds.{most_arguments}
use Rattle.fmp_calls.specs.Table.{is_bare, kinds_of, call_of, named}
use Rattle.fmp_bytes.specs.declared.classes.Class.TheVariants.{Blank, Word, Line}
use Rattle.fmp_text.specs.declared.fault.TextKind.{TextKind}
use Rattle.fmp_text.specs.declared.fault.TextKind.TheVariants.{BadByte, BadWord, WrongArguments}
use Rattle.fmp_bytes.specs.Bytes.{is_of, prefix, after}
use Rattle.fmp_bytes.specs.Results.{◌>>=◌}
use Rattle.fmp_names.specs.Names.{NameLists}
use Rattle.fmp_text.specs.Argument.{arguments_after, value_at}

-- the call that is written so, with blanks for its arguments
unfoldable pub named_call : List ℕ → Result Call TextKind
named_call word = ok_or (named word) BadWord

-- the values of the arguments, from left to right
abbrev pub values_at : NameLists → List ArgumentKind → List (List ℕ) → Result (List Value) TextKind
values_at names [] tokens = Ok []
values_at names (kind ∷ kinds) [] = Ok []
values_at names (kind ∷ kinds) (token ∷ tokens) = do
  value ← value_at names kind token
  values ← values_at names kinds tokens
  Ok (value ∷ values)

-- the call with this name and these arguments
unfoldable pub call_with : NameLists → Call → List (List ℕ) → Result Call TextKind
call_with names name tokens =
    if length tokens == length (kinds_of name) then (values_at names (kinds_of name) tokens >>= λ values. ok_or (call_of name values) WrongArguments)
    else Err WrongArguments

-- the call with this name and what follows the name
unfoldable pub call_after : NameLists → Call → List ℕ → Result Call TextKind
call_after names name rest = do
  tokens ← ok_or (arguments_after most_arguments (is_bare name) rest) WrongArguments
  call_with names name tokens

-- a call with no blanks before it
unfoldable pub call_at : NameLists → List ℕ → Result Call TextKind
call_at names text = do
  name ← named_call (prefix Word text)
  call_after names name (after Word text)

-- the bytes of one call
unfoldable pub call_in : NameLists → List ℕ → Result Call TextKind
call_in names bytes = if list_all (is_of Line) bytes then call_at names (after Blank bytes) else Err BadByte

-- what a function returned, seen by view, is what reading gives
abbrev pub Gives : {X Y E : Type 0} → (X → Y) → Result X E → Result Y E → Type 0
Gives view (Ok x) read = read ≡ Ok (view x)
Gives view (Err e) read = read ≡ Err e
