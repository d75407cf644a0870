-- What is known of what a line says.
use Rattle.std.proofs.Common.{◌≡◌, ℕ, ◌+◌, ◌≤◌, List, Some, Result, Ok, Err, length, slice_get, ap, subst, arith}
use Rattle.std.proofs.lemmas.Option.{slice_get_within}
use Rattle.fmp_codes.specs.Records.{processor_of}
use Rattle.fmp_names.specs.Names.{NameLists, AreValid}
use Rattle.fmp_setup.specs.Setup.{Setup}
use Rattle.fmp_setup.specs.Valid.{IsValid}
use Rattle.fmp_text.specs.Limits.{most_events}
use Rattle.fmp_text.specs.declared.fault.TextKind.{TextKind}
use Rattle.fmp_trace.specs.Reading.{at_line}
use Rattle.fmp_trace_partial.specs.Saying.{line_said}
use Rattle.fmp_trace_partial.specs.declared.telling.Said.{Said}
use Rattle.fmp_trace_partial.proofs.SaidTexts.{IsSaid, LineReported, line_reported}

pub is_said : (names : NameLists) (n : ℕ) (line : List ℕ) (s : Said) → AreValid names → n ≤ most_events → line_said names n line ≡ Ok s → IsSaid names n line s
is_said names n line s valid few read =
    let report = subst (LineReported names n line) read (line_reported names n line valid (omega (arith, few))) in
    report.0

-- the event of a line is one of the machine's processors
pub said_on : (c : Setup) (n : ℕ) (line : List ℕ) (s : Said) → IsValid c → AreValid c.names → n ≤ most_events → line_said c.names n line ≡ Ok s →
    (processor_of s.entry.event).number ≤ c.processors
said_on c n line s valid names_valid few read =
    subst (λ k. (processor_of s.entry.event).number ≤ k) valid.same_processors (is_said c.names n line s names_valid few read).fits.processor

pub few_before : (lines : List (List ℕ)) (j : ℕ) (line : List ℕ) → length lines ≤ most_events → slice_get lines j ≡ Some line → j + 1 ≤ most_events
few_before lines j line few here = omega (arith, few, slice_get_within lines j line here)

pub at_line_parts : (n : ℕ) (read : Result Said TextKind) (s : Said) → at_line n read ≡ Ok s → read ≡ Ok s
at_line_parts n (Ok x) s e = let same : x ≡ s = cc in ap (λ (y : Said). Ok y) same
at_line_parts n (Err kind) s e = absurd cc

-- so is that of a line that was read with the names of the configuration
pub read_on : (c : Setup) (names : NameLists) (n : ℕ) (line : List ℕ) (s : Said) → IsValid c → AreValid names → names ≡ c.names → n ≤ most_events →
    at_line n (line_said names n line) ≡ Ok s → (processor_of s.entry.event).number ≤ c.processors
read_on c names n line s valid names_valid named few read =
    said_on c n line s valid (subst AreValid named names_valid) few
    (subst (λ (x : NameLists). line_said x n line ≡ Ok s) named (at_line_parts n (line_said names n line) s read))
