-- A question once its patterns are resolved: those that speak of the state become tests of it, and the others stay patterns of a record.
use Rattle.std.specs.Prelude.{ℕ, List, [], ◌∷◌, map, option_map, if◌then◌else◌}
use Rattle.std.specs.List.{join_with_byte}
use Rattle.fmp_names.specs.Names.{NameLists}
use Rattle.fmp_facts.specs.Asking.{Asked}
use Rattle.fmp_fact_words.specs.Asking.{asked_by}
use Rattle.fmp_fact_words.specs.Speaking.{may_ask}
use Rattle.fmp_search_pattern.specs.declared.items.Wanted.{Wanted}
use Rattle.fmp_search_pattern.specs.declared.items.Wanted.TheVariants as wanted
use Rattle.fmp_search_pattern.specs.declared.question.Step.{Step}
use Rattle.fmp_search_pattern.specs.Items.{Item}
use Rattle.fmp_search_pattern.specs.Lasting.{Lasting}
use Rattle.fmp_search_pattern.specs.Words.{star}
use Rattle.fmp_search_question.specs.Places.{is_end, words_of}

-- the words of a pattern, by its pieces between stars
abbrev pub words_in : List (List ℕ) → List (List ℕ)
words_in pieces = words_of (join_with_byte star pieces)

-- what the words of a pattern ask of a state, with the pattern itself; and the pattern of a record where they ask nothing
abbrev pub by_facts : List (List ℕ) → List Asked → Wanted
by_facts pieces [] = wanted.Line pieces
by_facts pieces (one ∷ more) = wanted.State pieces (one ∷ more)

module _ (names : NameLists) where
  -- `end` alone, words that may ask for facts and do, or a pattern of a record
  unfoldable pub resolved_words : List (List ℕ) → List (List ℕ) → Wanted
  resolved_words pieces words =
      if is_end words then wanted.End else (if may_ask names words then by_facts pieces (asked_by names words) else wanted.Line pieces)

  abbrev pub resolved_wanted : Wanted → Wanted
  resolved_wanted wanted.Refused = wanted.Refused
  resolved_wanted wanted.End = wanted.End
  resolved_wanted (wanted.Line pieces) = resolved_words pieces (words_in pieces)
  resolved_wanted (wanted.State pieces asked) = wanted.State pieces asked

  abbrev pub resolved_item : Item → Item
  resolved_item i = record { negated = i.negated; wanted = resolved_wanted i.wanted }

  abbrev pub resolved_part : List Item → List Item
  resolved_part part = map resolved_item part

  abbrev pub resolved_moment : List (List Item) → List (List Item)
  resolved_moment moment = map resolved_part moment

  abbrev pub resolved_step : Step → Step
  resolved_step s = record { moment = resolved_moment s.moment; without = option_map resolved_moment s.without }

  -- a question, by its steps
  abbrev pub resolved : List Step → List Step
  resolved steps = map resolved_step steps

  -- what stays for ever, by its parts
  abbrev pub resolved_lasting : List Lasting → List Lasting
  resolved_lasting parts = map resolved_moment parts
