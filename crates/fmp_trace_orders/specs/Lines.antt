-- The lines of a text, and what is read of them.
use Rattle.std.specs.Prelude.{◌≡◌, ℕ, ◌+◌, ◌-◌, Bool, true, false, not, List, [], ◌∷◌, map, Result, Ok, Err, if◌then◌else◌}
use Rattle.std.specs.Option.{option_map_or}
use Rattle.fmp_bytes.specs.Bytes.{line_feed, pieces_of}
use Rattle.fmp_names.specs.Names.{NameLists}
use Rattle.fmp_text.specs.declared.fault.TextFault.{TextFault}
use Rattle.fmp_trace.specs.Reading.{Fails}
use Rattle.fmp_trace_partial.specs.Saying.{said_in}
use Rattle.fmp_trace_partial.specs.declared.codes_kept.AnswerKept.{AnswerKept}
use Rattle.fmp_trace_partial.specs.declared.codes_kept.AnswerKept.TheVariants as of_answer
use Rattle.fmp_trace_partial.specs.declared.telling.Said.{Said}
use Rattle.fmp_trace_orders.specs.Playing.{lines_from}
use Rattle.fmp_trace_orders.specs.declared.lines.Lines.{Lines}

-- ---- what a line says of orders

-- an event of which no end is told may not have taken effect
abbrev pub is_open : AnswerKept → Bool
is_open of_answer.Open = true
is_open _ = false

-- any line may come before one whose event has no end: a number above those of all lines
abbrev pub no_last : ℕ
no_last = 4294967295

-- the last line that may come before line i, which says this: the line itself where it has no bound. Both are counted from 0, and a bound is from 1
abbrev pub last_of : ℕ → Said → ℕ
last_of i s = if is_open s.kept.answer then no_last else option_map_or (λ n. n - 1) s.bound i

-- whether a line that says this has to be taken
abbrev pub must_of : Said → Bool
must_of s = not (is_open s.kept.answer)

-- the last lines of lines of which the first is line i
abbrev pub lasts_from : ℕ → List Said → List ℕ
lasts_from i [] = []
lasts_from i (s ∷ ss) = last_of i s ∷ lasts_from (i + 1) ss

-- ---- texts

-- all pieces but the last, which follows the last line feed
abbrev pub all_but_last : List (List ℕ) → List (List ℕ)
all_but_last [] = []
all_but_last (last ∷ []) = []
all_but_last (line ∷ next ∷ lines) = line ∷ all_but_last (next ∷ lines)

-- the lines of a text, without their line feeds
abbrev pub lines_of : List ℕ → List (List ℕ)
lines_of text = all_but_last (pieces_of line_feed text)

-- these are lines that begin there and say this
pub record AreSaidSo (starts : List ℕ) (said : List Said) (lines : Lines) : Type 0 where
  pub begins : lines.starts.items ≡ starts
  pub events : lines.events.items ≡ map (λ s. s.entry.event) said
  pub lasts : lines.lasts.items ≡ lasts_from 0 said
  pub musts : lines.musts.items ≡ map must_of said

-- the text was read, and these are its lines
pub record AreLinesOf (names : NameLists) (text : List ℕ) (lines : Lines) : Type 0 where
  pub said : List Said
  pub read : said_in names text ≡ Ok said
  pub starts : lines_from text lines.starts.items ≡ lines_of text
  pub so : AreSaidSo lines.starts.items said lines

-- the lines of a text were read as this, or it has this fault, unless memory ran out
abbrev pub GivesLines : NameLists → List ℕ → Result (List Said) TextFault → Result Lines TextFault → Type 0
GivesLines names text read (Ok lines) =
    (said : List Said) × (read ≡ Ok said) × (lines_from text lines.starts.items ≡ lines_of text) × AreSaidSo lines.starts.items said lines
GivesLines names text read (Err fault) = Fails fault read
