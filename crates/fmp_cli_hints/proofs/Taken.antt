-- A guess is taken where it prints the line.
use Rattle.std.proofs.Common.{◌≡◌, ℕ, Bool, true, false, List, Result, Ok, Err, refl, if◌then◌else◌}
use Rattle.std.specs.Prelude.{nat_lt}
use Rattle.std.specs.Str.{bytes_eq}
use Rattle.fmp_cli_hints.specs.Traces.{is_taken}
use Rattle.fmp_codes.specs.declared.records.Record.{Record}
use Rattle.fmp_names.specs.Names.{NameLists}
use Rattle.fmp_text.specs.Limits.{most_events}
use Rattle.fmp_text.specs.declared.fault.TextKind.{TextKind}
use Rattle.fmp_text.specs.declared.fault.TextKind.TheVariants.{BadWord, TooMany}
use Rattle.fmp_trace.specs.Lines.{core_text}
use Rattle.fmp_trace.specs.Reading.{confirmed, limited}

pub taken_confirmed : (names : NameLists) (n : ℕ) (line : List ℕ) (r : Record) → is_taken (confirmed names n line r) ≡ bytes_eq (core_text names n r) line
unfolding confirmed limited
taken_confirmed names n line r = by (bytes_eq (core_text names n r) line) (nat_lt most_events n)
  where
    kind : Bool → Bool → Result Record TextKind
    kind same much = if same then (if much then Err TooMany else Ok r) else Err BadWord

    by : (same much : Bool) → is_taken (kind same much) ≡ same
    by false much = refl
    by true true = refl
    by true false = refl
