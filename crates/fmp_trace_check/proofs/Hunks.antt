-- A hunk for each line that is not the machine's own, as the loop adds them.
use Rattle.std.proofs.Common.{◌≡◌, ℕ, ◌+◌, true, false, cond, List, [], ◌∷◌, ◌++◌, Some, None, refl}
use Rattle.fmp_bytes.specs.Bytes.{cut_at, pieces_of}
use Rattle.fmp_bytes.proofs.Cutting.{pieces_of-cut}
use Rattle.fmp_rules.specs.Arrivals.{State}
use Rattle.fmp_names.specs.Names.{NameLists}
use Rattle.fmp_trace.specs.Heads.{event_of}
use Rattle.fmp_trace.proofs.Numbered.{first_piece, only_piece}
use Rattle.fmp_trace_check.specs.declared.comparing.Shown.TheVariants.{Each}
use Rattle.fmp_trace_check.specs.Comparing.{difference_at, hunks_from}
use Rattle.fmp_trace_check.specs.Differences.{difference_text}
use Rattle.fmp_trace_check.specs.Walking.{following, prints_answer}

-- the first line of a text with a line feed
pub hunks_from-line : (names : NameLists) (w : State) (n : ℕ) (line rest : List ℕ) → hunks_from names w n (line ∷ pieces_of 10 rest)
    ≡ cond (prints_answer names w n line (event_of names line)) [] (difference_text Each (difference_at names w n line)) ++ hunks_from names (following w (event_of names line)) (n + 1) (pieces_of 10 rest)
unfolding hunks_from
hunks_from-line names w n line rest = rw (pieces_of-cut 10 rest) refl

module _ (names : NameLists) (w : State) (n : ℕ) (text : List ℕ) where
  pub hunk_of_own : (line rest : List ℕ) → (cut_at 10 text).0 ≡ line → (cut_at 10 text).1 ≡ Some rest → prints_answer names w n line (event_of names line) ≡ true
      → hunks_from names w n (pieces_of 10 text) ≡ hunks_from names (following w (event_of names line)) (n + 1) (pieces_of 10 rest)
  hunk_of_own line rest is_line cut own = rw (first_piece text line rest is_line cut, hunks_from-line, own) refl

  pub hunk_of_other : (line rest : List ℕ) → (cut_at 10 text).0 ≡ line → (cut_at 10 text).1 ≡ Some rest → prints_answer names w n line (event_of names line) ≡ false
      → hunks_from names w n (pieces_of 10 text) ≡ difference_text Each (difference_at names w n line) ++ hunks_from names (following w (event_of names line)) (n + 1) (pieces_of 10 rest)
  hunk_of_other line rest is_line cut other = rw (first_piece text line rest is_line cut, hunks_from-line, other) refl

  pub no_hunks : (cut_at 10 text).1 ≡ None → hunks_from names w n (pieces_of 10 text) ≡ []
  unfolding hunks_from
  no_hunks none = rw (only_piece text none) refl
