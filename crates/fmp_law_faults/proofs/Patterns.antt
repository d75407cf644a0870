-- The pattern that words leave open, with one more word.
use Rattle.std.proofs.Common.{◌≡◌, ℕ, ◌≤◌, eqb, Bool, true, false, not, ◌&&◌, ◌||◌, List, [], ◌∷◌, ◌++◌, length, Option, Some, None, inl, inr, refl, sym, ap, ◌∙◌, arith, append_assoc, append-nil, subst}
use Rattle.std.specs.Prelude.{codes, option_and_then}
use Rattle.std.specs.List.{list_all, list_any}
use Rattle.std.specs.Option.{option_map_or}
use Rattle.std.specs.Str.{bytes_eq}
use Rattle.std.proofs.lemmas.Bool.{and_from, and_parts, false≢true}
use Rattle.std.proofs.lemmas.Bool.Decides.{nat_tests}
use Rattle.std.proofs.lemmas.List.Folds.{list_all-append}
use Rattle.fmp_bytes.specs.Bytes.{space, pieces_of}
use Rattle.fmp_names.specs.Names.{NameLists}
use Rattle.fmp_search_pattern.specs.declared.spot.Spot.{Spot}
use Rattle.fmp_search_pattern.specs.declared.spot.Spot.TheVariants.{Front, Whole}
use Rattle.fmp_search_pattern.specs.Spots.{may_end, may_follow, stepped}
use Rattle.fmp_search_pattern.specs.Words.{is_fine, is_printed, runs_of, star}
use Rattle.fmp_search_pattern.specs.declared.items.Wanted.{Wanted}
use Rattle.fmp_search_pattern.specs.declared.items.Wanted.TheVariants as wanted
use Rattle.fmp_search_question.specs.Places.{last_spot, longer, next_spot, words_of}
use Rattle.fmp_search_question.specs.Grammar.Grammar.{SpellsWanted, is_pattern_word, own_words, place_after, placed, spaced}
use Rattle.fmp_law_faults.specs.QuestionFaults.{HasNoPlace}

-- the text of a pattern
abbrev pub text_of : List (List ℕ) → List ℕ
text_of [] = []
text_of (word ∷ words) = spaced (word ∷ words)

-- a list with an element has some length
pub some_length : {A : Type 0} (x : A) (xs : List A) → eqb (length (x ∷ xs)) 0 ≡ false
some_length x xs = grind (arith, nat_tests)

regrouped : (a b c d : List ℕ) → a ++ ((b ++ c) ++ d) ≡ ((a ++ b) ++ c) ++ d
regrouped a b c d = simp append_assoc

spaced-more : (words : List (List ℕ)) (word : List ℕ) → spaced (words ++ word ∷ []) ≡ (spaced words ++ word) ++ space ∷ []
spaced-more [] word = refl
spaced-more (first ∷ words) word =
    ap (λ (text : List ℕ). space ∷ (first ++ text)) (spaced-more words word) ∙ ap (λ (text : List ℕ). space ∷ text) (regrouped first (spaced words) word (space ∷ []))

pub longer_is : (words : List (List ℕ)) (word : List ℕ) → longer (text_of words) word ≡ spaced (words ++ word ∷ [])
longer_is [] word = refl
longer_is (first ∷ words) word = let some = some_length space (first ++ spaced words) in rw some (sym (spaced-more (first ∷ words) word))

-- ---- what is open

-- `refused`, or words that stand one after the other
pub data IsOpen (names : NameLists) (words : List (List ℕ)) (place : Spot) : Type 0 where
  refusal : words ≡ codes "refused" ∷ [] → place ≡ Whole → IsOpen names words place
  row : list_all (is_pattern_word names) words ≡ true → length (spaced words) ≤ 1024 → placed names [] Front words ≡ Some place → IsOpen names words place

pub nothing_open : (names : NameLists) (words : List (List ℕ)) (place : Spot) → words ≡ [] → place ≡ Front → IsOpen names words place
nothing_open names words place empty front =
    subst (λ (ws : List (List ℕ)). IsOpen names ws place) (sym empty) (row refl (omega arith) (ap (λ (s : Spot). Some s) (sym front)))

pub front_place : (names : NameLists) (words : List (List ℕ)) (place : Spot) → IsOpen names words place → words ≡ [] → place ≡ Front
front_place names words place (refusal are at) empty = let both : codes "refused" ∷ [] ≡ [] = sym are ∙ empty in absurd cc
front_place names words place (row each short stand) empty =
    let same : Some Front ≡ Some place = ap (placed names [] Front) (sym empty) ∙ stand in cc

-- `refused` is no word of a pattern
not_refused : (names : NameLists) (words : List (List ℕ)) → list_all (is_pattern_word names) words ≡ true → words ≡ codes "refused" ∷ [] → ⊥
not_refused names words each are =
    let all = ap (list_all (is_pattern_word names)) (sym are) ∙ each in
    let first = and_parts (is_pattern_word names (codes "refused")) true all in
    let word = and_parts (is_printed (codes "refused")) (not (list_any (bytes_eq (codes "refused")) own_words) && list_all (is_fine names) (runs_of (codes "refused"))) first.0 in
    false≢true word.1

-- ---- a pattern ends there

-- no pattern ends there
abbrev pub has_no_end : List ℕ → Spot → Bool
has_no_end pattern place = eqb (length pattern) 0 || not (may_end place)

pub can_end : (names : NameLists) (words : List (List ℕ)) (place : Spot) (one : Wanted) → IsOpen names words place → SpellsWanted names words one
    → has_no_end (text_of words) place ≡ false
can_end names words place wanted.Refused (refusal are at) spelled = rw are (rw at refl)
can_end names words place wanted.Refused (row each short stand) spelled = absurd (not_refused names words each spelled)
can_end names words place (wanted.Line pattern) (refusal are at) spelled = absurd (not_refused names words spelled.each are)
can_end names [] place (wanted.Line pattern) (row each short stand) spelled = let some = spelled.some in absurd (omega (arith, some))
can_end names (word ∷ rest) place (wanted.Line pattern) (row each short stand) spelled =
    let some = some_length space (word ++ spaced rest) in
    let ends : may_end place ≡ true = sym (ap (λ (o : Option Spot). option_map_or may_end o false) stand) ∙ spelled.stand in
    rw some (rw ends refl)
can_end names words place wanted.End is spelled = absurd spelled
can_end names words place (wanted.State pattern asked) is spelled = absurd spelled

unless : (b : Bool) → not b ≡ false → b ≡ true
unless true e = refl
unless false e = absurd cc

pub is_spelled : (names : NameLists) (words : List (List ℕ)) (place : Spot) → IsOpen names words place → has_no_end (text_of words) place ≡ false
    → (one : Wanted) × SpellsWanted names words one
is_spelled names words place (refusal are at) ends = (wanted.Refused, are)
is_spelled names [] place (row each short stand) ends = absurd (false≢true (sym ends))
is_spelled names (word ∷ rest) place (row each short stand) ends =
    let some = some_length space (word ++ spaced rest) in
    let after = unless (may_end place) (rw some at ends) in (
      wanted.Line (pieces_of star (spaced (word ∷ rest))),
      record {
        some = omega arith;
        each = each;
        short = short;
        stand = ap (λ (o : Option Spot). option_map_or may_end o false) stand ∙ after;
        pieces = refl;
      },
    )

-- ---- one word more

then_some : {A : Type 0} (o : Option A) → option_and_then (λ (x : A). Some x) o ≡ o
then_some None = refl
then_some (Some x) = refl

placed-more : (names : NameLists) (front : List (List ℕ)) (from : Spot) (words : List (List ℕ)) (word : List ℕ)
    → placed names front from (words ++ word ∷ []) ≡ option_and_then (λ place. place_after names (front ++ words) place word) (placed names front from words)
placed-more names front from [] word =
    then_some (place_after names front from word) ∙ ap (λ (ws : List (List ℕ)). place_after names ws from word) (sym (append-nil front))
placed-more names front from (first ∷ words) word = go (λ next. placed-more names (front ++ first ∷ []) next words word) (place_after names front from first) where
  go : ((next : Spot) → placed names (front ++ first ∷ []) next (words ++ word ∷ [])
      ≡ option_and_then (λ place. place_after names ((front ++ first ∷ []) ++ words) place word) (placed names (front ++ first ∷ []) next words)) → (o : Option Spot) → option_and_then (λ next. placed names (front ++ first ∷ []) next (words ++ word ∷ [])) o
      ≡ option_and_then (λ place. place_after names (front ++ first ∷ words) place word) (option_and_then (λ next. placed names (front ++ first ∷ []) next words) o)
  go rest None = refl
  go rest (Some next) =
      rest next
      ∙ ap (λ (ws : List (List ℕ)). option_and_then (λ place. place_after names ws place word) (placed names (front ++ first ∷ []) next words)) (append_assoc front (first ∷ []) words)

-- after `refused` nothing stands
whole_stops : (next : Option Spot) → stepped Whole next ≡ None
unfolding may_follow
whole_stops None = refl
whole_stops (Some next) = refl

module _ (names : NameLists) (words : List (List ℕ)) (place : Spot) (word : List ℕ) where
  next_is : next_spot names (text_of words) place word ≡ place_after names words place word
  next_is = ap (λ (text : List ℕ). stepped place (last_spot names (words_of text) word)) (longer_is words word)

  placed_next : placed names [] Front words ≡ Some place → placed names [] Front (words ++ word ∷ []) ≡ next_spot names (text_of words) place word
  placed_next stand =
      placed-more names [] Front words word ∙ ap (λ (o : Option Spot). option_and_then (λ s. place_after names words s word) o) stand ∙ sym next_is

  refused_stops : place ≡ Whole → next_spot names (text_of words) place word ≡ None
  refused_stops whole = ap (λ (s : Spot). stepped s (last_spot names (words_of (longer (text_of words) word)) word)) whole ∙ whole_stops (last_spot names (words_of (longer (text_of words) word)) word)

  pub has_no_place : IsOpen names words place → next_spot names (text_of words) place word ≡ None → HasNoPlace names words word
  has_no_place (refusal are at) none = inl are
  has_no_place (row each short stand) none = inr (placed_next stand ∙ none)

  pub has_place : (next : Spot) → IsOpen names words place → next_spot names (text_of words) place word ≡ Some next → ¬ (HasNoPlace names words word)
  has_place next (refusal are at) some none = let both : Some next ≡ None = sym some ∙ refused_stops at in cc
  has_place next (row each short stand) some (inl are) = not_refused names words each are
  has_place next (row each short stand) some (inr none) = let both : Some next ≡ None = sym some ∙ sym (placed_next stand) ∙ none in cc

  pub open_more : (next : Spot) → IsOpen names words place → is_pattern_word names word ≡ true → length (spaced (words ++ word ∷ [])) ≤ 1024
      → next_spot names (text_of words) place word ≡ Some next → IsOpen names (words ++ word ∷ []) next
  open_more next (refusal are at) one short some = let both : Some next ≡ None = sym some ∙ refused_stops at in absurd cc
  open_more next (row each few stand) one short some =
      row (list_all-append (is_pattern_word names) words (word ∷ []) ∙ and_from (list_all (is_pattern_word names) words) _ each (rw one refl)) short (placed_next stand ∙ some)
