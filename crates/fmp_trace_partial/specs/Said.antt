-- What a line of a partial trace is guessed to say: what it prints, where it partly prints a record, and anything or nothing else.
use Rattle.std.specs.Prelude.{ℕ, Bool, true, false, not, ◌&&◌, ◌||◌, List, [], length, Option, None, Some, ◌==◌, if◌then◌else◌, is_some, codes}
use Rattle.std.specs.Option.{option_map_or}
use Rattle.std.specs.Str.{bytes_eq}
use Rattle.fmp_codes.specs.declared.numbers.Proc.{Proc}
use Rattle.fmp_codes.specs.declared.records.Record.{Record}
use Rattle.fmp_bytes.specs.declared.classes.Class.TheVariants.{Word}
use Rattle.fmp_bytes.specs.Bytes.{prefix, after, following, cut_at, letter_p, open_parenthesis, space}
use Rattle.fmp_text.specs.Argument.{◌>>=◌}
use Rattle.fmp_text.specs.Lines.{processor_numbered}
use Rattle.fmp_names.specs.Names.{NameLists}
use Rattle.fmp_trace.specs.Guess.{guess_event, guess_runner}
use Rattle.fmp_trace_partial.specs.Marks.{filled, marks_in}
use Rattle.fmp_trace_partial.specs.declared.codes_kept.AnswerKept.TheVariants as of_answer
use Rattle.fmp_trace_partial.specs.declared.kept.Kept.{Kept}
use Rattle.fmp_trace_partial.specs.declared.marks.Marks.{Marks}
use Rattle.fmp_trace_partial.specs.declared.telling.Said.{Said}

-- ---- where the runner is left out

-- the text begins with a word and a parenthesis
unfoldable pub opens : List ℕ → Bool
opens text = is_some (following open_parenthesis (after Word text))

-- the text begins with an event: a call, or one of the three words that are events
unfoldable pub begins_event : List ℕ → Bool
begins_event text = opens text ||
    (bytes_eq (prefix Word text) (codes "tick") || (bytes_eq (prefix Word text) (codes "ipi") || bytes_eq (prefix Word text) (codes "ret_hdr")))

-- what stands after the processor begins with a runner: it is no call, and an event follows its first word
unfoldable pub tells_runner : List ℕ → Bool
tells_runner text = not (opens text) && option_map_or begins_event (cut_at space text).1 false

-- ---- a line

-- what a line writes that says this record, but for its codes
abbrev pub kept_of : Bool → Bool → Record → Kept
kept_of number runner r =
    record {
      number = number;
      runner = runner;
      answer = of_answer.Whole;
      releases = [];
      lost = is_some r.lost;
      run_change = is_some r.run_change;
      requests = not (length r.requests == 0);
    }

unfoldable pub guess_from : NameLists → Bool → Proc → List ℕ → Option Record
guess_from names runner p text = if runner then guess_runner names p text else guess_event names None p text

-- what a line says from the number of its processor on
unfoldable pub guess_on : NameLists → Bool → List ℕ → Option Said
guess_on names number digits = do
  rest ← (cut_at space digits).1
  p ← processor_numbered names (cut_at space digits).0
  r ← guess_from names (tells_runner rest) p rest
  Some (record { kept = kept_of number (tells_runner rest) r; entry = r; bound = None })

unfoldable pub guess_numbered : NameLists → List ℕ → Option Said
guess_numbered names line = do
  rest ← (cut_at space line).1
  digits ← following letter_p rest
  guess_on names true digits

abbrev pub guess_line : NameLists → List ℕ → Option (List ℕ) → Option Said
guess_line names line None = guess_numbered names line
guess_line names line (Some digits) = guess_on names false digits

-- what a line says that leaves nothing out of its codes and has no bound, whatever its number
unfoldable pub guess_plain : NameLists → List ℕ → Option Said
guess_plain names line = guess_line names line (following letter_p line)

-- the same, where this is left out, with this bound
abbrev pub marked : Marks → Said → Said
marked m s = record { kept = record s.kept { answer = m.answer; releases = m.releases }; entry = s.entry; bound = m.bound }

-- what a line says, which is as much as this other line where something is put in
unfoldable pub guess_marked : NameLists → List ℕ → List ℕ → Option Said
guess_marked names line full = do
  m ← marks_in line
  s ← guess_plain names full
  Some (marked m s)

-- what a line says
unfoldable pub guess_said : NameLists → List ℕ → Option Said
guess_said names line = guess_marked names line (filled line)
