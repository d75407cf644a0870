-- The command line of leaving events out, and what it gives.
use Rattle.std.specs.Prelude.{◌≡◌, List, [], ◌∷◌, codes}
use Rattle.clap.specs.Words.{App, Row, Text, one_of}
use Rattle.fmp_cli.specs.Found.{IsFlag, found_by, text_of}
use Rattle.fmp_cli.specs.Parts.{flag_rule, line_of, path_rule, wanted_rule}
use Rattle.fmp_cli.specs.declared.shrink.ShrinkRequest.{ShrinkRequest}

-- the command line, as a parse reads it
abbrev pub shrink_line : App
shrink_line = line_of (codes "shrink") (
    path_rule (codes "CFG") ∷ path_rule (codes "EVENTS") ∷ wanted_rule (codes "find") ∷ flag_rule (codes "runs") ∷ flag_rule (codes "context") ∷ [])

-- what clap finds in the words of that command line, by the ids of the arguments
abbrev pub found_in : List Text → List Row
found_in words = found_by shrink_line words

-- the request is what was found: each of its parts is that of one id
pub record Asks (rows : List Row) (r : ShrinkRequest) : Type 0 where
  pub config : r.config.now ≡ text_of (codes "CFG") rows
  pub events : r.events.now ≡ text_of (codes "EVENTS") rows
  pub question : r.question.now ≡ text_of (codes "find") rows
  pub runs : IsFlag (one_of (codes "runs") rows) r.runs
  pub context : IsFlag (one_of (codes "context") rows) r.context
