-- What is asked is read.
use Rattle.std.proofs.Common.{◌≡◌, ℕ, ◌≤◌, Bool, true, false, List, [], ◌∷◌, ◌++◌, length, Option, Some, None, Ok, refl, sym, ap, subst, ◌∙◌, arith, append_assoc}
use Rattle.std.specs.Prelude.{codes, unwrap_or}
use Rattle.std.specs.List.{list_all}
use Rattle.std.specs.Option.{option_map_or}
use Rattle.std.proofs.lemmas.Bool.{and_parts}
use Rattle.fmp_bytes.specs.Bytes.{is_of, space}
use Rattle.fmp_names.specs.Names.{NameLists}
use Rattle.fmp_search_pattern.specs.declared.spot.Spot.{Spot}
use Rattle.fmp_search_pattern.specs.declared.items.Wanted.{Wanted}
use Rattle.fmp_search_pattern.specs.declared.items.Wanted.TheVariants as wanted
use Rattle.fmp_search_pattern.specs.declared.question.Step.{Step}
use Rattle.fmp_search_pattern.specs.Items.{Item}
use Rattle.fmp_search_question.specs.Reading.{Draft, after_word, nothing_read, with_part, with_pattern, with_refused, wanted_by}
use Rattle.fmp_search_pattern.specs.Spots.{may_end}
use Rattle.fmp_search_question.specs.Grammar.Rows.{SpellsRow}
use Rattle.fmp_search_question.specs.Grammar.Grammar.{Negated, SpellsItem, SpellsMoment, SpellsPart, SpellsPattern, SpellsWanted, is_pattern_word, placed, spaced}
use Rattle.fmp_search_question.proofs.grammar.Led.{led_first, led_on}
use Rattle.fmp_search_question.proofs.grammar.Steps.{Leads, fresh, led}
use Rattle.fmp_search_question.proofs.grammar.Patterns.{longer_by-first, one_parts, other_wanted, some_length, words_taken}

-- ---- an item

-- where the words of a pattern end
end_of : (o : Option Spot) → option_map_or may_end o false ≡ true → (place : Spot) × (o ≡ Some place) × (may_end place ≡ true)
end_of None is = absurd cc
end_of (Some place) is = (place, refl, is)

module _ (names : NameLists) (steps : List Step) (times : Option ℕ) (moment : Option (List (List Item))) (parts : List (List Item)) (items : List Item) where
  -- `not` was read, or nothing
  abbrev begun : Bool → Draft
  begun negated = record (fresh steps times moment parts items) { negated = negated }

  abbrev with_item : Item → Draft
  with_item item = fresh steps times moment parts (items ++ item ∷ [])

  abbrev read_item : Bool → Wanted → Draft
  read_item negated asked = with_item (record { negated = negated; wanted = asked })

  refused_led : (negated : Bool) → Leads names (begun negated) (codes "refused" ∷ []) with_pattern (read_item negated wanted.Refused)
  unfolding after_word is_of with_pattern
  refused_led negated = (unwrap_or (with_refused (begun negated)) nothing_read, refl, refl)

  pattern_ends : (negated : Bool) (word : List ℕ) (words : List (List ℕ)) (pattern : List (List ℕ)) (place : Spot)
      → wanted_by (spaced (word ∷ words)) ≡ wanted.Line pattern → may_end place ≡ true
      → with_pattern (record (begun negated) { pattern = spaced (word ∷ words); spot = place }) ≡ Some (read_item negated (wanted.Line pattern))
  unfolding with_pattern
  pattern_ends negated word words pattern place asked ends =
      let some = some_length space (word ++ spaced words) in
      rw (some, ends, asked) refl

  pattern_led : (negated : Bool) (words : List (List ℕ)) (pattern : List (List ℕ)) → SpellsPattern names words pattern
      → Leads names (begun negated) words with_pattern (read_item negated (wanted.Line pattern))
  pattern_led negated [] pattern s = absurd (omega (arith, s.some))
  pattern_led negated (word ∷ words) pattern s =
      let end = end_of (placed names [] nothing_read.spot (word ∷ words)) s.stand in
      let whole = longer_by-first word words in
      let read = words_taken names (begun negated) [] (word ∷ words) end.0 refl s.each (subst (λ (p : List ℕ). length p ≤ 1024) (sym whole) s.short) end.1 in
      let first = one_parts names word (and_parts (is_pattern_word names word) (list_all (is_pattern_word names) words) s.each).0 in
      let asked = other_wanted word words first.is_foreign.no_refused ∙ ap (λ (p : List (List ℕ)). wanted.Line p) (sym s.pieces) in (
        record (begun negated) { pattern = spaced (word ∷ words); spot = end.0 },
        read ∙ ap (λ (p : List ℕ). Some (record (begun negated) { pattern = p; spot = end.0 })) whole,
        pattern_ends negated word words pattern end.0 asked end.2,
      )

  wanted_led : (negated : Bool) (words : List (List ℕ)) (asked : Wanted) → SpellsWanted names words asked
      → Leads names (begun negated) words with_pattern (read_item negated asked)
  wanted_led negated words wanted.Refused is =
      subst (λ (ws : List (List ℕ)). Leads names (begun negated) ws with_pattern (read_item negated wanted.Refused)) (sym is) (refused_led negated)
  wanted_led negated words (wanted.Line pattern) s = pattern_led negated words pattern s
  wanted_led negated words wanted.End s = absurd s
  wanted_led negated words (wanted.State pattern choice) s = absurd s

  not_taken : after_word names (begun false) (codes "not") ≡ Ok (begun true)
  unfolding after_word is_of
  not_taken = refl

  negated_led : (negated : Bool) (words : List (List ℕ)) (asked : Wanted) → Negated (λ rest. SpellsWanted names rest asked) negated words
      → Leads names (begun false) words with_pattern (read_item negated asked)
  negated_led false words asked s = wanted_led false words asked s
  negated_led true words asked s =
      let read = wanted_led true s.0 asked s.2 in
      (read.0, ap (led names (begun false)) s.1 ∙ led_first (after_word names) (begun false) (begun true) (codes "not") s.0 not_taken ∙ read.1, read.2)

  pub item_led : (words : List (List ℕ)) (item : Item) → SpellsItem names words item
      → Leads names (fresh steps times moment parts items) words with_pattern (with_item item)
  item_led words item s = negated_led item.negated words item.wanted s

-- ---- rows

-- a row of what leads on, each closed by the word between
module _ {A : Type 0} (names : NameLists) (Spells : List (List ℕ) → A → Type 0) (between : List ℕ) (added : List A → Draft) (close : Draft → Option Draft)
    (one_led : (before : List A) (words : List (List ℕ)) (one : A) → Spells words one → Leads names (added before) words close (added (before ++ one ∷ [])))
    (closed : (e f : Draft) → close e ≡ Some f → after_word names e between ≡ Ok f) where
  pub row_led : (before : List A) (words : List (List ℕ)) (row : List A) → SpellsRow Spells between words row
      → Leads names (added before) words close (added (before ++ row))
  row_led before words [] s = absurd s
  row_led before words (one ∷ []) s = one_led before words one s
  row_led before words (one ∷ next ∷ more) s =
      let first = one_led before s.0 one s.3 in
      let others = row_led (before ++ one ∷ []) s.1 (next ∷ more) s.4 in (
        others.0,
        ap (led names (added before)) s.2 ∙ led_on (after_word names) (added before) first.0 s.0 (between ∷ s.1) first.1
            ∙ led_first (after_word names) first.0 (added (before ++ one ∷ [])) between s.1 (closed first.0 _ first.2) ∙ others.1,
        others.2 ∙ ap (λ (row : List A). Some (added row)) (append_assoc before (one ∷ []) (next ∷ more)),
      )

module _ (names : NameLists) (e f : Draft) where
  and_taken : with_pattern e ≡ Some f → after_word names e (codes "&") ≡ Ok f
  unfolding after_word is_of
  and_taken is = rw is refl

  or_taken : with_part e ≡ Some f → after_word names e (codes "or") ≡ Ok f
  unfolding after_word is_of
  or_taken is = rw is refl

module _ (names : NameLists) (steps : List Step) (times : Option ℕ) (moment : Option (List (List Item))) where
  pub part_led : (parts : List (List Item)) (items : List Item) (words : List (List ℕ)) (part : List Item) → SpellsPart names words part
      → Leads names (fresh steps times moment parts items) words with_pattern (fresh steps times moment parts (items ++ part))
  part_led parts items words part s =
      let one_item = item_led names steps times moment parts in
      row_led names (SpellsItem names) (codes "&") (fresh steps times moment parts) with_pattern one_item (and_taken names) items words part s

  one_part_led : (parts : List (List Item)) (words : List (List ℕ)) (part : List Item) → SpellsPart names words part
      → Leads names (fresh steps times moment parts []) words with_part (fresh steps times moment (parts ++ part ∷ []) [])
  unfolding with_part
  one_part_led parts words part s =
      let read = part_led parts [] words part s in
      let ends = read.2 in
      (read.0, read.1, rw ends refl)

  pub moment_led : (parts : List (List Item)) (words : List (List ℕ)) (more : List (List Item)) → SpellsMoment names words more
      → Leads names (fresh steps times moment parts []) words with_part (fresh steps times moment (parts ++ more) [])
  moment_led parts words more s =
      row_led names (SpellsPart names) (codes "or") (λ ps. fresh steps times moment ps []) with_part one_part_led (or_taken names) parts words more s
