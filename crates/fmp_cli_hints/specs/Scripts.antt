-- The first byte at fault of a line of a script text, and what is wanted there.
use Rattle.std.specs.Prelude.{ℕ, Bool, ◌&&◌, ◌||◌, List, [], ◌∷◌, ◌==◌, if◌then◌else◌, codes}
use Rattle.std.specs.Str.{bytes_eq}
use Rattle.fmp_bytes.specs.declared.classes.Class.TheVariants.{Blank}
use Rattle.fmp_bytes.specs.Bytes.{after}
use Rattle.fmp_cli_hints.specs.declared.wanted.Wanted.{Wanted}
use Rattle.fmp_cli_hints.specs.declared.wanted.Wanted.TheVariants as wants
use Rattle.fmp_cli_hints.specs.Places.{Walk, event_wanted, going, is_operator, stuck}
use Rattle.fmp_cli_hints.specs.Places.{byte_wanted as any_byte_wanted}
use Rattle.fmp_names.specs.Names.{NameLists}
use Rattle.fmp_text.specs.declared.fault.TextKind.{TextKind}
use Rattle.fmp_text.specs.declared.fault.TextKind.TheVariants.{BadByte, BadWord, CutShort, Memory, TooMany}
use Rattle.fmp_text.specs.EventFaults.{first_word}
use Rattle.fmp_text.specs.Lines.{without_return}
use Rattle.fmp_text_scripts.specs.declared.misfit.Wanted.{Wanted as ScriptWanted}
use Rattle.fmp_text_scripts.specs.declared.misfit.Wanted.TheVariants as scripts
use Rattle.fmp_text_scripts.specs.Places.{Place}
use Rattle.fmp_text_scripts.specs.Refusals as refusals

-- the words by which C programs choose and repeat
abbrev pub is_of_c : List ℕ → Bool
is_of_c word =
    bytes_eq word (codes "if") || (bytes_eq word (codes "else") || (bytes_eq word (codes "while") || (bytes_eq word (codes "for") || (bytes_eq word (codes "do")
    || (bytes_eq word (codes "switch") || (bytes_eq word (codes "break") || (bytes_eq word (codes "continue") || bytes_eq word (codes "return"))))))))

-- the bytes with which they look at a part of a value: `&`, `=`, `!`, `*`, `.` and those of what would have to be computed
abbrev pub is_of_part : ℕ → Bool
is_of_part b = b == 38 || b == 61 || b == 33 || b == 42 || b == 46 || is_operator b

-- what is wanted in place of a byte that may not stand in a line with this first word: no brace, an answer as a whole, or a jump in place of `=`
abbrev pub byte_wanted : List ℕ → List ℕ → Wanted
byte_wanted word [] = wants.LineByte
byte_wanted word (b ∷ bytes) =
    if b == 123 || b == 125 then wants.NoBrace
    else (if is_of_part b && bytes_eq word (codes "on") then wants.WholeAnswer
    else (if b == 61 then wants.Jumps else any_byte_wanted (b ∷ bytes)))

-- what is wanted before this rest of a line with this first word
abbrev pub script_wanted : List ℕ → List ℕ → ScriptWanted → Wanted
script_wanted word rest scripts.LineByte = byte_wanted word rest
script_wanted word rest scripts.LineEnd = wants.LineEnd
script_wanted word rest (scripts.Call wanted) = event_wanted rest wanted
script_wanted word rest wanted = wants.Script wanted

-- where a line with this first word that is refused at this place is at fault
abbrev pub refused : List ℕ → Place → Walk
refused word place = stuck place.rest (script_wanted word place.rest place.wanted)

-- a line that begins with a word of C is so from there on
abbrev pub worded : List ℕ → Place → Walk
worded text place = if is_of_c (first_word text) then stuck (after Blank text) wants.Jumps else refused (first_word text) place

-- how far a line with this fault is read. Of one that is one too many, or cut short, nothing is at fault
unfoldable pub script_place : NameLists → List ℕ → TextKind → Walk
script_place names line CutShort = going (after Blank (without_return line))
script_place names line TooMany = going (after Blank (without_return line))
script_place names line Memory = going (after Blank (without_return line))
script_place names line BadByte = worded (without_return line) (refusals.place names BadByte line)
script_place names line BadWord = worded (without_return line) (refusals.place names BadWord line)
script_place names line kind = refused (first_word (without_return line)) (refusals.place names kind line)
