-- Each line that is not the machine's, as the loop adds them.
use Rattle.std.proofs.Common.{◌≡◌, ℕ, ◌+◌, List, [], ◌∷◌, ◌++◌, Some, None, refl}
use Rattle.fmp_bytes.specs.Bytes.{cut_at, pieces_of}
use Rattle.fmp_bytes.proofs.Cutting.{pieces_of-cut}
use Rattle.fmp_rules.specs.Arrivals.{State}
use Rattle.fmp_names.specs.Names.{NameLists}
use Rattle.fmp_trace.proofs.Numbered.{first_piece, only_piece}
use Rattle.fmp_trace_partial.specs.Saying.{line_said}
use Rattle.fmp_run_partial.specs.Differing.{beyond, difference, differences_from}

-- the first line of a text with a line feed
differences_from-line : (names : NameLists) (n : ℕ) (w : State) (line rest : List ℕ) → differences_from names n w (line ∷ pieces_of 10 rest)
    ≡ difference names n w line (line_said names n line) ++ differences_from names (n + 1) (beyond w (line_said names n line)) (pieces_of 10 rest)
unfolding differences_from
differences_from-line names n w line rest = rw (pieces_of-cut 10 rest) refl

module _ (names : NameLists) (n : ℕ) (w : State) (text : List ℕ) where
  pub first_line : (line rest : List ℕ) → (cut_at 10 text).0 ≡ line → (cut_at 10 text).1 ≡ Some rest → differences_from names n w (pieces_of 10 text)
      ≡ difference names n w line (line_said names n line) ++ differences_from names (n + 1) (beyond w (line_said names n line)) (pieces_of 10 rest)
  first_line line rest is_line cut = rw (first_piece text line rest is_line cut, differences_from-line) refl

  pub no_lines : (cut_at 10 text).1 ≡ None → differences_from names n w (pieces_of 10 text) ≡ []
  unfolding differences_from
  no_lines none = rw (only_piece text none) refl
