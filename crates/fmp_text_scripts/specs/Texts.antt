-- Reading a script text, up to its first fault.
use Rattle.std.specs.Prelude.{◌≡◌, ◌⊎◌, ℕ, ◌+◌, ◌==◌, nat_lt, Bool, true, false, not, List, [], ◌∷◌, ◌++◌, length, Option, Some, None, is_some, Result, Ok, Err}
use Rattle.std.specs.Prelude.{if◌then◌else◌}
use Rattle.std.specs.List.{list_any}
use Rattle.fmp_bytes.specs.Bytes.{line_feed}
use Rattle.fmp_bytes.specs.Results.{◌>>=◌}
use Rattle.fmp_codes.specs.declared.calls.Call.{Call}
use Rattle.fmp_text.specs.declared.fault.TextFault.{TextFault}
use Rattle.fmp_text.specs.declared.fault.TextKind.{TextKind}
use Rattle.fmp_text.specs.declared.fault.TextKind.TheVariants.{BadWord, UnknownName, WrongArguments, CutShort, TooMany}
use Rattle.fmp_text.specs.Limits.{most_bytes}
use Rattle.fmp_text.specs.Events.{IsMemory}
use Rattle.fmp_text.specs.Lines.{is_skipped}
use Rattle.fmp_names.specs.Names.{NameLists}
use Rattle.fmp_text_scripts.specs.declared.line.Said.{Said}
use Rattle.fmp_text_scripts.specs.declared.line.Said.TheVariants as said
use Rattle.fmp_text_scripts.specs.declared.ways.Pattern.{Pattern}
use Rattle.fmp_text_scripts.specs.declared.ways.Way.{Way}
use Rattle.fmp_text_scripts.specs.Scripts.{Steps}
use Rattle.fmp_text_scripts.specs.Ways.{most_steps, most_labels, most_ways}
use Rattle.fmp_text_scripts.specs.declared.linking.Jump.{Jump}
use Rattle.fmp_text_scripts.specs.declared.linking.Label.{Label}
use Rattle.fmp_text_scripts.specs.Linking.{is_any, has_label, linked}
use Rattle.fmp_text_scripts.specs.Lines.{said_in}

-- a script that is open, with the line that opened it; `following` says that the last line which said something is a call or an `on`
pub record Open : Type 0 where
  pub line : ℕ
  pub function : ℕ
  pub steps : List Call
  pub jumps : List Jump
  pub labels : List Label
  pub following : Bool

-- what the lines of a text say so far
pub record Reading : Type 0 where
  pub scripts : List Steps
  pub unclosed : Option Open

abbrev pub nothing_read : Reading
nothing_read = record { scripts = []; unclosed = None }

-- one step more of the open script
abbrev pub asked : Reading → Call → Option Open → Result Reading TextKind
asked r call None = Ok r
asked r call (Some o) =
    if nat_lt (length o.steps) most_steps
    then Ok (record r { unclosed = Some (record o { steps = o.steps ++ call ∷ []; following = true }) })
    else Err TooMany

-- one label more of the open script, whose name no other of its labels may have
abbrev pub labelled : Reading → List ℕ → Option Open → Result Reading TextKind
labelled r name None = Ok r
labelled r name (Some o) =
    if has_label o.labels name then Err WrongArguments
    else (if nat_lt (length o.labels) most_labels
    then Ok (record r { unclosed = Some (record o { labels = o.labels ++ record { name = name; at = length o.steps } ∷ []; following = false }) })
    else Err TooMany)

-- one jump more of the open script, which has to stand after a call or an `on`
abbrev pub jumped : Reading → Pattern → List ℕ → Option Open → Result Reading TextKind
jumped r answer name None = Ok r
jumped r answer name (Some o) =
    if o.following
    then (if nat_lt (length o.jumps) most_ways
    then Ok (record r {
      unclosed = Some (record o {
        jumps = o.jumps ++ record { after = length o.steps; answer = answer; name = name } ∷ [];
        following = not (is_any answer);
      });
    })
    else Err TooMany)
    else Err BadWord

-- the open script with its ways, if each of its jumps has a label
abbrev pub ended : Reading → Open → Option (List Way) → Result Reading TextKind
ended r o None = Err UnknownName
ended r o (Some ways) = Ok (record { scripts = r.scripts ++ record { function = o.function; steps = o.steps; ways = ways } ∷ []; unclosed = None })

-- the open script is closed
abbrev pub closed : Reading → Option Open → Result Reading TextKind
closed r None = Ok r
closed r (Some o) = ended r o (linked o.labels o.jumps)

-- what is read with a line of this number that says so
abbrev pub took : ℕ → Reading → Option Said → Result Reading TextKind
took line r None = Ok r
took line r (Some (said.Opens f)) =
    if list_any (λ s. s.function == f) r.scripts then Err WrongArguments
    else Ok (record r { unclosed = Some (record { line = line; function = f; steps = []; jumps = []; labels = []; following = false }) })
took line r (Some (said.Asks call)) = asked r call r.unclosed
took line r (Some (said.Stands name)) = labelled r name r.unclosed
took line r (Some (said.Jumps answer name)) = jumped r answer name r.unclosed
took line r (Some said.Closes) = closed r r.unclosed

-- what is read with a whole line of this number
abbrev pub with_line : NameLists → ℕ → Reading → List ℕ → Result Reading TextKind
with_line names line r text = said_in names (is_some r.unclosed) text >>= λ s. took line r s

abbrev pub fault_at : TextKind → ℕ → Result (List Steps) TextFault
fault_at kind line = Err (record { kind = kind; line = line })

-- the end of the text: a script that is open is cut short
abbrev pub at_end : Reading → Option Open → Result (List Steps) TextFault
at_end r None = Ok r.scripts
at_end r (Some o) = fault_at CutShort o.line

-- a line, and what follows where it has no fault
abbrev pub after_line : ℕ → Result Reading TextKind → (Reading → Result (List Steps) TextFault) → Result (List Steps) TextFault
after_line line (Ok r) rest = rest r
after_line line (Err kind) rest = fault_at kind line

-- what bytes give after so many whole lines, of which this was read, and the beginning of a line
unfoldable pub scripts_from : NameLists → ℕ → Reading → List ℕ → List ℕ → Result (List Steps) TextFault
scripts_from names lines r begun [] = if is_skipped begun then at_end r r.unclosed else fault_at CutShort (lines + 1)
scripts_from names lines r begun (byte ∷ bytes) =
    if byte == line_feed then after_line (lines + 1) (with_line names (lines + 1) r begun) (λ next. scripts_from names (lines + 1) next [] bytes)
    else scripts_from names lines r (begun ++ byte ∷ []) bytes

-- what a whole text gives, or its first fault. One that is too long has that fault before all others
unfoldable pub scripts_in : NameLists → List ℕ → Result (List Steps) TextFault
scripts_in names text = if nat_lt most_bytes (length text) then fault_at TooMany 0 else scripts_from names 0 nothing_read [] text

-- a line was taken, or has this fault; or memory ran out
abbrev pub Takes : {X : Type 0} → Result Reading TextKind → ℕ → Result X TextFault → Reading → Type 0
Takes judged line (Ok x) new = judged ≡ Ok new
Takes judged line (Err fault) new = ((judged ≡ Err fault.kind) × (fault.line ≡ line)) ⊎ IsMemory fault

-- these scripts, or the first fault; or memory ran out
abbrev pub ReadsAs : {X : Type 0} → (X → List Steps) → Result (List Steps) TextFault → Result X TextFault → Type 0
ReadsAs view judged (Ok x) = judged ≡ Ok (view x)
ReadsAs view judged (Err fault) = (judged ≡ Err fault) ⊎ IsMemory fault
