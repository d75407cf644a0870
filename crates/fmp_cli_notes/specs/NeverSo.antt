-- In which lines it is told why no event of any order has a pattern, where the configuration or the way of `explore` says so.
use Rattle.std.specs.Prelude.{ℕ, Bool, not, List, [], ◌++◌, Option, None, Some, if◌then◌else◌, codes, decimal}
use Rattle.fmp_search_kernel.specs.Seen.{so_at_boot}
use Rattle.fmp_search_pattern.specs.declared.items.Wanted.{Wanted}
use Rattle.fmp_search_pattern.specs.declared.items.Wanted.TheVariants as wanted
use Rattle.fmp_search_pattern.specs.Items.{Item}
use Rattle.fmp_setup.specs.Setup.{Setup}
use Rattle.fmp_cli_notes.specs.Limits.{exceeded}
use Rattle.fmp_cli_notes.specs.Lines.{head}
use Rattle.fmp_cli_notes.specs.Patterns.{negation, words_of}
use Rattle.fmp_cli_notes.specs.Words.{is_given_alone}

-- facts are so at boot, or it is so there that they are not
abbrev pub is_at_boot : Setup → Item → Bool
is_at_boot c item = if item.negated then not (so_at_boot c item.wanted) else so_at_boot c item.wanted

unfoldable pub boot_line : List ℕ → Bool → List ℕ → List ℕ
boot_line asked negated words = head asked ++ codes "'" ++ negation negated ++ words ++ codes "' is so at boot, before any event" ++ codes "\n"

abbrev pub boot_note : List ℕ → Setup → Item → List ℕ → List ℕ
boot_note asked c item words = if is_at_boot c item then boot_line asked item.negated words else []

-- there is not so much
unfoldable pub most_line : List ℕ → List ℕ → ℕ → List ℕ
most_line asked words most = head asked ++ codes "'" ++ words ++ codes "' is more than there can be: at most " ++ decimal most ++ codes "\n"

abbrev pub most_note : List ℕ → List ℕ → Option ℕ → List ℕ
most_note asked words None = []
most_note asked words (Some most) = most_line asked words most

abbrev pub state_note : List ℕ → Setup → Item → List ℕ → List ℕ
state_note asked c item words = boot_note asked c item words ++ most_note asked words (exceeded c item.wanted)

-- the words are of events which are given alone
unfoldable pub given_line : List ℕ → List ℕ → List ℕ
given_line asked words =
    head asked ++ codes "'" ++ words ++ codes "' is of an event at which nothing can happen: shrink looks at these, and explore makes none" ++ codes "\n"

abbrev pub given_note : List ℕ → List ℕ → List ℕ
given_note asked words = if is_given_alone words then given_line asked words else []

-- of an item with these words, by what it asks for
abbrev pub reason_note : List ℕ → Setup → Item → List ℕ → Wanted → List ℕ
reason_note asked c item words wanted.Refused = []
reason_note asked c item words wanted.End = []
reason_note asked c item words (wanted.Line pattern) = given_note asked words
reason_note asked c item words (wanted.State pattern choice) = state_note asked c item words

-- of a pattern, or of `not` and one, that no event of any order has: why that may be so
abbrev pub fact_note : List ℕ → Setup → Item → List ℕ
fact_note asked c item = reason_note asked c item (words_of item.wanted) item.wanted
