-- What clap found, by the ids of the parts.
use Rattle.std.specs.Prelude.{◌≡◌, Bool, true, false, List, [], Option, Some, None, codes, unwrap_or}
use Rattle.clap.specs.Words.{App, Row, Text, first_of, found_of, matches_of, rows_of}
use Rattle.clap.specs.declared.parser.matches.ArgMatches.{ArgMatches}

-- what clap finds in the words of a command line
unfoldable pub found_by : App → List Text → List Row
found_by line words = matches_of line words

-- what the matches have
abbrev pub rows_in : ArgMatches → List Row
rows_in m = rows_of (found_of m)

-- the first text of an id, or none
abbrev pub text_of : Text → List Row → Text
text_of id rows = unwrap_or (first_of id rows) []

-- whether a flag is set, by its text
pub record IsFlag (text : Option Text) (b : Bool) : Type 0 where
  pub missing : text ≡ None → b ≡ false
  pub set : text ≡ Some (codes "true") → b ≡ true
  pub unset : text ≡ Some (codes "false") → b ≡ false
