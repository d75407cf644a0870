-- The grammar of questions of what stays for ever, apart from how they are read: which texts ask what.
use Rattle.std.specs.Prelude.{◌≡◌, ℕ, ◌≤◌, ◌⊎◌, ◌==◌, Bool, true, false, not, ◌||◌, List, [], ◌∷◌, ◌++◌, length, codes}
use Rattle.std.specs.List.{list_all, join_with_byte}
use Rattle.std.specs.Str.{bytes_eq}
use Rattle.fmp_bytes.specs.Bytes.{pieces_of, space}
use Rattle.fmp_names.specs.Names.{NameLists}
use Rattle.fmp_search_pattern.specs.Items.{Item}
use Rattle.fmp_search_pattern.specs.Lasting.{Lasting}
use Rattle.fmp_search_pattern.specs.Words.{is_printed}
use Rattle.fmp_search_question.specs.Waiting.{comma, waits_but}
use Rattle.fmp_search_question.specs.Lasting.{are_tasks, begins_so, most_parts}
use Rattle.fmp_search_question.specs.Resolved.{resolved_lasting}
use Rattle.fmp_search_question.specs.Grammar.Rows.{SpellsRow}
use Rattle.fmp_search_question.specs.Grammar.Grammar.{SpellsPart}

-- the words after a moment
abbrev pub is_end : List ℕ → Bool
is_end word = bytes_eq word (codes "for") || bytes_eq word (codes "ever")

-- items with `&` between each two, and `for ever` after them. None of their words is one of those after a moment
pub record SpellsLasting (names : NameLists) (words : List (List ℕ)) (l : Lasting) : Type 0 where
  pub front : List (List ℕ)
  pub part : List Item
  pub parts : words ≡ front ++ (codes "for" ∷ codes "ever" ∷ [])
  pub spelled : SpellsPart names front part
  pub inner : list_all (λ w. not (is_end w)) front ≡ true
  pub is : l ≡ part ∷ []

-- `deadlock`: each task waits, but those whose names stand after `but`, with commas between them. Some task is not among these
abbrev pub SpellsDeadlock : NameLists → List (List ℕ) → List Lasting → Type 0
SpellsDeadlock names words lasting =
    ((words ≡ codes "deadlock" ∷ []) × (lasting ≡ waits_but names []))
    ⊎ ((list : List ℕ) × (words ≡ codes "deadlock" ∷ codes "but" ∷ list ∷ []) × (is_printed list ≡ true) × (are_tasks names list ≡ true)
    × (lasting ≡ waits_but names (pieces_of comma list)) × (1 ≤ length lasting))

-- or one or more such moments, with `or` between each two
abbrev pub AsksForEverWords : NameLists → List (List ℕ) → List Lasting → Type 0
AsksForEverWords names words lasting = SpellsDeadlock names words lasting ⊎ ((begins_so words ≡ false) × SpellsRow (SpellsLasting names) (codes "or") words lasting)

-- a text of words, with one blank between each two, and what is written there, each pattern as one of a record. It is not too much
pub record WritesForEver (names : NameLists) (text : List ℕ) (lasting : List Lasting) : Type 0 where
  pub words : List (List ℕ)
  pub parts : text ≡ join_with_byte space words
  pub cut : list_all (list_all (λ b. not (b == space))) words ≡ true
  pub asked : AsksForEverWords names words lasting
  pub few : length lasting ≤ most_parts

-- what is written asks for facts wherever its patterns speak of a state
abbrev pub AsksForEver : NameLists → List ℕ → List Lasting → Type 0
AsksForEver names text lasting = (written : List Lasting) × WritesForEver names text written × (lasting ≡ resolved_lasting names written)
