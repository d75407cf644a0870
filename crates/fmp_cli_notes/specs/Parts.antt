-- What a question is made of: the item that is all of it, and the patterns of a step.
use Rattle.std.specs.Prelude.{ℕ, List, [], ◌∷◌, ◌++◌, Option, None, Some, if◌then◌else◌}
use Rattle.std.specs.List.{fold, list_any}
use Rattle.std.specs.Option.{option_and_then}
use Rattle.std.specs.Str.{bytes_eq}
use Rattle.fmp_search_pattern.specs.declared.question.Step.{Step}
use Rattle.fmp_search_pattern.specs.Items.{Item}
use Rattle.fmp_cli_notes.specs.Patterns.{words_of}

-- the only one of a list
abbrev pub only : {A : Type 0} → List A → Option A
only [] = None
only (x ∷ []) = Some x
only (x ∷ y ∷ others) = None

-- the item that is all of a step
abbrev pub only_item_of : Option (List (List Item)) → List (List Item) → Option Item
only_item_of None moment = option_and_then only (only moment)
only_item_of (Some without) moment = None

abbrev pub only_item : Step → Option Item
only_item s = only_item_of s.without s.moment

-- the item that is all of a question: of it `never` says everything
abbrev pub plain_item : List Step → Option Item
plain_item question = option_and_then only_item (only question)

-- a text behind others, if it is none of them
abbrev pub with_new : List (List ℕ) → List ℕ → List (List ℕ)
with_new texts text = if list_any (bytes_eq text) texts then texts else texts ++ text ∷ []

-- the pattern of an item that has to be there
abbrev pub with_item : List (List ℕ) → Item → List (List ℕ)
with_item texts i = if i.negated then texts else with_new texts (words_of i.wanted)

abbrev pub with_part : List (List ℕ) → List Item → List (List ℕ)
with_part texts part = fold with_item texts part

-- the patterns of a moment that have to be there, each once, in the order in which they first come
abbrev pub patterns_of : List (List Item) → List (List ℕ)
patterns_of moment = fold with_part [] moment

-- those of the step behind so many
abbrev pub patterns_of_step : Option Step → List (List ℕ)
patterns_of_step None = []
patterns_of_step (Some s) = patterns_of s.moment
