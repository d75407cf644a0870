-- The name that is nearest to a word of a question.
use Rattle.std.specs.Prelude.{ℕ, List, Option, map}
use Rattle.std.specs.Option.{option_or}
use Rattle.fmp_cli_help.specs.Near.{near_answer, nearest}
use Rattle.fmp_cli_hints.specs.Things.{near_thing}
use Rattle.fmp_names.specs.Names.{NameLists}
use Rattle.fmp_search_pattern.specs.declared.words.TheConstants.{TRACE_WORDS}

-- the nearest of what may stand in a line of a trace or of a state: an object or a word, or else a call or a code
unfoldable pub near_known : NameLists → List ℕ → Option (List ℕ)
near_known names word = option_or (nearest word (near_thing names word) (map (λ w. w.now) TRACE_WORDS)) (near_answer word)
