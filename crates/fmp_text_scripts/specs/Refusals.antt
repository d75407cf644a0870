-- Where a line of a script text that is refused is at fault, and what is wanted there.
use Rattle.std.specs.Prelude.{ℕ, Bool, not, ◌||◌, List, drop, Result, Ok, Err, if◌then◌else◌, codes}
use Rattle.std.specs.List.{prefix_len}
use Rattle.std.specs.Str.{bytes_eq}
use Rattle.fmp_bytes.specs.declared.classes.Class.TheVariants.{Blank}
use Rattle.fmp_bytes.specs.Bytes.{after}
use Rattle.fmp_names.specs.Names.{NameLists}
use Rattle.fmp_text.specs.declared.fault.TextKind.{TextKind}
use Rattle.fmp_text.specs.declared.fault.TextKind.TheVariants.{BadByte, BadWord, UnknownName, WrongArguments}
use Rattle.fmp_text.specs.EventFaults.{first_word, following_word}
use Rattle.fmp_text.specs.Lines.{without_return}
use Rattle.fmp_text_scripts.specs.declared.line.Said.{Said}
use Rattle.fmp_text_scripts.specs.declared.line.Said.TheVariants as said
use Rattle.fmp_text_scripts.specs.declared.misfit.Wanted.{Wanted}
use Rattle.fmp_text_scripts.specs.declared.misfit.Wanted.TheVariants as wants
use Rattle.fmp_text_scripts.specs.Lines.{are_line, may_stand}
use Rattle.fmp_text_scripts.specs.Places.{Place, fault_at, said_by}

-- inside a script no other one begins, outside of one no other word stands, and the return of a handler is no step
abbrev pub is_misplaced : Bool → List ℕ → Bool
is_misplaced inside word = if bytes_eq word (codes "script") then inside else not inside || bytes_eq word (codes "ret_hdr")

-- what is wanted in place of a first word that may not stand there
abbrev pub wanted_for : List ℕ → Wanted
wanted_for word =
    if bytes_eq word (codes "script") then wants.ScriptEnd
    else (if bytes_eq word (codes "on") || bytes_eq word (codes "goto") then wants.JumpPlace else wants.Step)

abbrev pub misplaced : List ℕ → Place
misplaced text = fault_at BadWord (after Blank text) (wanted_for (first_word text))

-- from the first byte on that stands in no line of a script text
abbrev pub after_line : List ℕ → List ℕ
after_line line = drop (prefix_len may_stand line) line

-- a line that says so, and is refused after those before it: its function has a script; the script has its label; a jump of the script has no label; or
-- the word may not stand there
abbrev pub unfit : List ℕ → Said → Place
unfit text (said.Opens f) = fault_at WrongArguments (after Blank (following_word text)) wants.Function
unfit text (said.Stands name) = fault_at WrongArguments (after Blank text) wants.NewLabel
unfit text said.Closes = fault_at UnknownName (after Blank text) wants.Labels
unfit text other = misplaced text

abbrev pub refused : List ℕ → Result Said Place → Place
refused text (Ok s) = unfit text s
refused text (Err place) = place

abbrev pub placed : NameLists → TextKind → List ℕ → Place
placed names BadWord text = misplaced text
placed names kind text = refused text (said_by names text)

-- where a line that is refused with this fault is at fault, whatever stands before it. A carriage return at its end is no part of it
unfoldable pub place : NameLists → TextKind → List ℕ → Place
place names kind line = if are_line (without_return line) then placed names kind (without_return line) else fault_at BadByte (after_line (without_return line)) wants.LineByte
