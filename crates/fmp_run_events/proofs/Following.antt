-- The state of the machine after so many lines of a trace.
use Rattle.std.proofs.Common.{◌≡◌, ℕ, zero, suc, ◌+◌, ◌<◌, ◌^◌, List, [], ◌∷◌, Some, None, length, map, take, refl, arith}
use Rattle.fmp_bytes.specs.Bytes.{cut_at, pieces_of}
use Rattle.fmp_bytes.proofs.Cutting.{pieces_of-cut}
use Rattle.fmp_codes.specs.declared.records.Record.{Record}
use Rattle.fmp_rules.specs.Arrivals.{State, numbered}
use Rattle.fmp_rules.specs.Step.{step, replay}
use Rattle.fmp_names.specs.Names.{NameLists, AreValid}
use Rattle.fmp_trace.specs.Fits.{AllFit}
use Rattle.fmp_trace.specs.Heads.{event_of}
use Rattle.fmp_trace.specs.Lines.{core_text, lines_from}
use Rattle.fmp_trace.proofs.GuessedLines.{line_guessed}
use Rattle.fmp_trace.proofs.Headed.{guess-event}
use Rattle.fmp_trace.proofs.Numbered.{first_piece, only_piece}
use Rattle.fmp_trace.proofs.ReadTexts.{lines_pieces}
use Rattle.fmp_trace_check.specs.Walking.{following}
use Rattle.fmp_run_events.specs.Before.{after_lines}

-- the first line of a text with a line feed
after_line : (names : NameLists) (k : ℕ) (w : State) (line rest : List ℕ) →
    after_lines names (suc k) w (line ∷ pieces_of 10 rest) ≡ after_lines names k (following w (event_of names line)) (pieces_of 10 rest)
unfolding after_lines
after_line names k w line rest = rw (pieces_of-cut 10 rest) refl

pub line_played : (names : NameLists) (k : ℕ) (w : State) (text line rest : List ℕ) → (cut_at 10 text).0 ≡ line → (cut_at 10 text).1 ≡ Some rest →
    after_lines names (suc k) w (pieces_of 10 text) ≡ after_lines names k (following w (event_of names line)) (pieces_of 10 rest)
line_played names k w text line rest is_line cut = rw (first_piece text line rest is_line cut) (after_line names k w line rest)

pub none_played : (names : NameLists) (k : ℕ) (w : State) (text : List ℕ) → (cut_at 10 text).1 ≡ None → after_lines names k w (pieces_of 10 text) ≡ w
unfolding after_lines
none_played names zero w text none = refl
none_played names (suc k) w text none = rw (only_piece text none) refl

pub none_left : (names : NameLists) (w : State) (lines : List (List ℕ)) → after_lines names 0 w lines ≡ w
unfolding after_lines
none_left names w lines = refl

-- the lines of records tell their events
pub records_played : (names : NameLists) (n k : ℕ) (w : State) (rs : List Record) → AreValid names → AllFit names rs → n + length rs < 2 ^ 64 →
    after_lines names k w (pieces_of 10 (lines_from names n rs)) ≡ replay numbered w (map (λ r. r.event) (take k rs))
unfolding after_lines pieces_of
records_played names n zero w rs valid fit few = refl
records_played names n (suc k) w [] valid fit few = refl
records_played names n (suc k) w (r ∷ rs) valid fit few =
    let small : n < 2 ^ 64 = omega (arith, few) in
    let event : event_of names (core_text names n r) ≡ Some r.event = guess-event names (core_text names n r) r (line_guessed names r valid fit.0 n small) in
    rw (lines_pieces names n r rs valid, after_line names k w (core_text names n r) (lines_from names (n + 1) rs), event)
    (records_played names (n + 1) k (step numbered w r.event).0 rs valid fit.1 (omega (arith, few)))
