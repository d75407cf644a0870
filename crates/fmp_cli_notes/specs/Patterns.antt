-- The words of what is asked, as a question has them.
use Rattle.std.specs.Prelude.{ℕ, ◌-◌, Bool, List, [], ◌∷◌, ◌++◌, length, take, drop, if◌then◌else◌, codes}
use Rattle.std.specs.List.{prefix_len, suffix_len}
use Rattle.std.specs.Char.{is_ascii_whitespace}
use Rattle.fmp_search_pattern.specs.declared.items.Wanted.{Wanted}
use Rattle.fmp_search_pattern.specs.declared.items.Wanted.TheVariants as wanted
use Rattle.fmp_search_pattern.specs.Items.{Item}

-- a text without the blanks around it
abbrev pub without_tail : List ℕ → List ℕ
without_tail text = take (length text - suffix_len is_ascii_whitespace text) text

unfoldable pub trimmed : List ℕ → List ℕ
trimmed text = without_tail (drop (prefix_len is_ascii_whitespace text) text)

-- the pieces of a pattern, with a star between them
abbrev pub behind_stars : List (List ℕ) → List ℕ
behind_stars [] = []
behind_stars (piece ∷ pieces) = codes "*" ++ piece ++ behind_stars pieces

abbrev pub pieces_text : List (List ℕ) → List ℕ
pieces_text [] = []
pieces_text (piece ∷ pieces) = piece ++ behind_stars pieces

-- what is asked for
abbrev pub words_of : Wanted → List ℕ
words_of wanted.Refused = codes "refused"
words_of wanted.End = codes "end"
words_of (wanted.Line pattern) = trimmed (pieces_text pattern)
words_of (wanted.State pattern facts) = trimmed (pieces_text pattern)

-- and whether it must not be there
abbrev pub negation : Bool → List ℕ
negation negated = if negated then codes "not " else []

unfoldable pub item_text : Item → List ℕ
item_text item = negation item.negated ++ words_of item.wanted

-- the items of a part, which are asked for together
abbrev pub behind_signs : List Item → List ℕ
behind_signs [] = []
behind_signs (item ∷ items) = codes " & " ++ item_text item ++ behind_signs items

abbrev pub items_text : List Item → List ℕ
items_text [] = []
items_text (item ∷ items) = item_text item ++ behind_signs items
