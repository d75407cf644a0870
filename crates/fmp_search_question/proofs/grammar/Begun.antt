-- What was read of an item so far.
use Rattle.std.proofs.Common.{◌≡◌, ℕ, ◌≤◌, Bool, true, false, not, ◌&&◌, ◌||◌, eqb, List, [], ◌∷◌, ◌++◌, length}
use Rattle.std.proofs.Common.{Option, Some, None, refl, sym, ap, subst, ◌∙◌, arith, append_assoc, append-nil}
use Rattle.std.specs.Prelude.{codes, unwrap_or}
use Rattle.std.specs.List.{list_all}
use Rattle.std.proofs.lemmas.Bool.{and_parts}
use Rattle.fmp_bytes.specs.Bytes.{pieces_of, space}
use Rattle.fmp_names.specs.Names.{NameLists}
use Rattle.fmp_search_pattern.specs.declared.spot.Spot.{Spot}
use Rattle.fmp_search_pattern.specs.declared.items.Wanted.{Wanted}
use Rattle.fmp_search_pattern.specs.declared.items.Wanted.TheVariants as wanted
use Rattle.fmp_search_pattern.specs.Items.{Item}
use Rattle.fmp_search_question.specs.Places.{longer, next_spot}
use Rattle.fmp_search_question.specs.Reading.{Draft, nothing_read, with_not, with_pattern, with_refused, wanted_by}
use Rattle.fmp_search_pattern.specs.Spots.{may_end, may_follow, stepped}
use Rattle.fmp_search_pattern.specs.Words.{star}
use Rattle.fmp_search_question.specs.Grammar.Grammar.{Negated, SpellsItem, SpellsWanted, is_pattern_word, may_stand, place_after, placed, spaced}
use Rattle.fmp_search_question.proofs.grammar.Patterns.{all_more, longer-more, longer_by-first, not_parts, one_parts, or_parts, other_wanted, placed_parts, same_spot, some_length, unless_parts}
use Rattle.fmp_search_question.proofs.grammar.Taken.{following_word, when_false, when_true}

-- ---- the words of a pattern

-- which words were read of a pattern, with what was kept of them
pub data Begun (names : NameLists) (words : List (List ℕ)) (pattern : List ℕ) (place : Spot) : Type 0 where
  nothing : words ≡ [] → pattern ≡ [] → place ≡ nothing_read.spot → Begun names words pattern place
  refusal : words ≡ codes "refused" ∷ [] → pattern ≡ codes " refused " → ((next : Option Spot) → stepped place next ≡ None) → Begun names words pattern place
  some : (first : List ℕ) (rest : List (List ℕ)) → words ≡ first ∷ rest → list_all (is_pattern_word names) (first ∷ rest) ≡ true → pattern ≡ spaced (first ∷ rest)
      → length (spaced (first ∷ rest)) ≤ 1024 → placed names [] nothing_read.spot (first ∷ rest) ≡ Some place → Begun names words pattern place

-- one word more after the others
spaced-more : (words : List (List ℕ)) (word : List ℕ) → (spaced words ++ word) ++ space ∷ [] ≡ spaced (words ++ word ∷ [])
spaced-more [] word = refl
spaced-more (first ∷ words) word =
    ap (λ (bytes : List ℕ). space ∷ bytes)
    (ap (λ (bytes : List ℕ). bytes ++ space ∷ []) (append_assoc first (spaced words) word) ∙ append_assoc first (spaced words ++ word) (space ∷ [])
    ∙ ap (λ (bytes : List ℕ). first ++ bytes) (spaced-more words word))

placed-more : (names : NameLists) (before : List (List ℕ)) (from place next : Spot) (words : List (List ℕ)) (word : List ℕ) → placed names before from words ≡ Some place
    → place_after names (before ++ words) place word ≡ Some next
    → placed names before from (words ++ word ∷ []) ≡ Some next
placed-more names before from place next [] word stand is =
    let same : from ≡ place = cc in
    let step : place_after names before from word ≡ Some next =
    ap (λ (p : Spot). place_after names before p word) same ∙ ap (λ (ws : List (List ℕ)). place_after names ws place word) (sym (append-nil before)) ∙ is in
    rw step refl
placed-more names before from place next (first ∷ words) word stand is =
    let p = placed_parts names before from place first words stand in
    let step = p.1 in
    let rest = placed-more names (before ++ first ∷ []) p.0 place next words word p.2
    (ap (λ (ws : List (List ℕ)). place_after names ws place word) (append_assoc before (first ∷ []) words) ∙ is) in
    rw step rest

module _ (names : NameLists) (words : List (List ℕ)) (word : List ℕ) (place next : Spot) where
  pub begun_more : (pattern : List ℕ) → Begun names words pattern place → is_pattern_word names word ≡ true → length (longer pattern word) ≤ 1024
      → next_spot names pattern place word ≡ Some next
      → Begun names (words ++ word ∷ []) (longer pattern word) next
  begun_more pattern (nothing none empty at) is short stands =
      let alone : longer pattern word ≡ spaced (word ∷ []) = ap (λ (p : List ℕ). longer p word) empty in
      let step : place_after names [] nothing_read.spot word ≡ Some next =
      ap (λ (p : Spot). place_after names [] p word) (sym at) ∙ sym (same_spot names [] pattern word place empty) ∙ stands in
      some word [] (ap (λ (ws : List (List ℕ)). ws ++ word ∷ []) none) (rw is refl) alone (subst (λ (p : List ℕ). length p ≤ 1024) alone short) (rw step refl)
  begun_more pattern (refusal only text last) is short stands = absurd (none (sym (last _) ∙ stands)) where
    none : ◌≡◌ {A = Option Spot} None (Some next) → ⊥
    none e = cc
  begun_more pattern (some first rest are each text few stand) is short stands =
      let whole : longer pattern word ≡ spaced (first ∷ (rest ++ word ∷ [])) =
      ap (λ (p : List ℕ). longer p word) text ∙ longer-more space (first ++ spaced rest) word ∙ spaced-more (first ∷ rest) word in
      let all : list_all (is_pattern_word names) (first ∷ (rest ++ word ∷ [])) ≡ true =
      all_more names (first ∷ rest) word each is in
      let step : place_after names (first ∷ rest) place word ≡ Some next =
      sym (same_spot names (first ∷ rest) pattern word place (text ∙ sym (longer_by-first first rest))) ∙ stands in
      some first (rest ++ word ∷ []) (ap (λ (ws : List (List ℕ)). ws ++ word ∷ []) are) all whole (subst (λ (p : List ℕ). length p ≤ 1024) whole short)
      (placed-more names [] nothing_read.spot place next (first ∷ rest) word stand step)

-- a complete pattern is spelled
pub wanted_spelled : (names : NameLists) (words : List (List ℕ)) (pattern : List ℕ) (place : Spot) → Begun names words pattern place
    → eqb (length pattern) 0 ≡ false → may_end place ≡ true
    → SpellsWanted names words (wanted_by pattern)
wanted_spelled names words pattern place (nothing none empty at) longer_than ends =
    absurd (contrary (sym (ap (λ (p : List ℕ). eqb (length p) 0) empty) ∙ longer_than)) where
      contrary : true ≡ false → ⊥
      contrary e = cc
wanted_spelled names words pattern place (refusal only text last) longer_than ends =
    subst (λ (p : List ℕ). SpellsWanted names words (wanted_by p)) (sym text) only
wanted_spelled names words pattern place (some first rest are each text few stand) longer_than ends =
    let one = one_parts names first (and_parts (is_pattern_word names first) (list_all (is_pattern_word names) rest) each).0 in
    let asked : wanted_by pattern ≡ wanted.Line (pieces_of star (spaced (first ∷ rest))) = ap wanted_by text ∙ other_wanted first rest one.is_foreign.no_refused in
    let stands : may_stand names (first ∷ rest) ≡ true = rw (stand, ends) refl in
    subst (λ (w : Wanted). SpellsWanted names words w) (sym asked)
    (subst (λ (ws : List (List ℕ)). SpellsWanted names ws (wanted.Line (pieces_of star (spaced (first ∷ rest))))) (sym are)
    (record { some = omega arith; each = each; short = few; stand = stands; pieces = refl }))

-- ---- an item

abbrev pub not_words : Bool → List (List ℕ)
not_words true = codes "not" ∷ []
not_words false = []

-- which words were read of an item
pub record HasItem (names : NameLists) (words : List (List ℕ)) (d : Draft) : Type 0 where
  pub rest : List (List ℕ)
  pub parts : words ≡ not_words d.negated ++ rest
  pub pattern : Begun names rest d.pattern d.spot

pub no_item : (names : NameLists) (d : Draft) → d.negated ≡ false → d.pattern ≡ [] → d.spot ≡ nothing_read.spot → HasItem names [] d
no_item names d negated pattern spot = record { rest = []; parts = sym (ap (λ (b : Bool). not_words b ++ []) negated); pattern = nothing refl pattern spot }

pub negated_spelled : (Spells : List (List ℕ) → Type 0) (negated : Bool) (words rest : List (List ℕ)) → words ≡ not_words negated ++ rest → Spells rest
    → Negated Spells negated words
negated_spelled Spells true words rest are s = (rest, are, s)
negated_spelled Spells false words rest are s = subst Spells (sym are) s

-- a complete item is spelled
abbrev pub item_of : Draft → Item
item_of d = record { negated = d.negated; wanted = wanted_by d.pattern }

abbrev pub after_item : Draft → Draft
after_item d = record d { items = d.items ++ item_of d ∷ []; negated = false; pattern = []; spot = nothing_read.spot }

pub item_spelled : (names : NameLists) (words : List (List ℕ)) (d e : Draft) → HasItem names words d → with_pattern d ≡ Some e
    → SpellsItem names words (item_of d) × (after_item d ≡ e)
unfolding with_pattern
item_spelled names words d e s is =
    let p = when_false (eqb (length d.pattern) 0 || not (may_end d.spot)) (after_item d) e is in
    let q = or_parts (eqb (length d.pattern) 0) (not (may_end d.spot)) p.0 in
    let asked = wanted_spelled names s.rest d.pattern d.spot s.pattern q.0 (unless_parts (may_end d.spot) q.1) in
    (negated_spelled (λ rest. SpellsWanted names rest (wanted_by d.pattern)) d.negated words s.rest s.parts asked, p.1)

-- ---- `not`, `refused`, and a word more

pub empty_begun : (names : NameLists) (words : List (List ℕ)) (pattern : List ℕ) (place : Spot) → Begun names words pattern place → eqb (length pattern) 0 ≡ true
    → words ≡ []
empty_begun names words pattern place (nothing none empty at) is = none
empty_begun names words pattern place (refusal only text last) is = absurd (contrary (sym (ap (λ (p : List ℕ). eqb (length p) 0) text) ∙ is)) where
  contrary : false ≡ true → ⊥
  contrary e = cc
empty_begun names words pattern place (some first rest are each text few stand) is =
    absurd (contrary (sym (some_length space (first ++ spaced rest)) ∙ sym (ap (λ (p : List ℕ). eqb (length p) 0) text) ∙ is)) where
      contrary : false ≡ true → ⊥
      contrary e = cc

module _ (names : NameLists) (words : List (List ℕ)) (d e : Draft) (s : HasItem names words d) where
  -- nothing but `not`
  only_negation : eqb (length d.pattern) 0 ≡ true → words ≡ not_words d.negated
  only_negation empty = s.parts ∙ ap (λ (rest : List (List ℕ)). not_words d.negated ++ rest) (empty_begun names s.rest d.pattern d.spot s.pattern empty)
      ∙ append-nil (not_words d.negated)

  pub not_taken : with_not d ≡ Some e → HasItem names (words ++ codes "not" ∷ []) (record d { negated = true }) × (record d { negated = true } ≡ e)
  not_taken is =
      let p = when_true (eqb (length d.pattern) 0 && not d.negated) (record d { negated = true }) e is in
      let q = and_parts (eqb (length d.pattern) 0) (not d.negated) p.0 in
      let none : words ≡ [] = only_negation q.0 ∙ ap not_words (not_parts d.negated q.1) in
      let begun = subst (λ (ws : List (List ℕ)). Begun names ws d.pattern d.spot) (empty_begun names s.rest d.pattern d.spot s.pattern q.0) s.pattern in
      (record { rest = []; parts = ap (λ (ws : List (List ℕ)). ws ++ codes "not" ∷ []) none; pattern = begun }, p.1)

  -- the draft with the pattern that another one has
  abbrev pub with_pattern_of : Draft → Draft
  with_pattern_of f = record d { pattern = f.pattern; spot = f.spot }

  pub refused_taken : with_refused d ≡ Some e → HasItem names (words ++ codes "refused" ∷ []) (with_pattern_of e) × (with_pattern_of e ≡ e)
  unfolding may_follow
  refused_taken is =
      let p = when_true (eqb (length d.pattern) 0) _ e is in
      let pattern : codes " refused " ≡ e.pattern = ap (λ (f : Draft). f.pattern) p.1 in
      let last : (next : Option Spot) → stepped e.spot next ≡ None = subst (λ (f : Draft). (next : Option Spot) → stepped f.spot next ≡ None) p.1 nowhere in
      let only = ap (λ (ws : List (List ℕ)). ws ++ codes "refused" ∷ []) (only_negation p.0) in
      (record { rest = codes "refused" ∷ []; parts = only; pattern = refusal refl (sym pattern) last }, subst (λ (f : Draft). with_pattern_of f ≡ f) p.1 refl) where
        nowhere : (next : Option Spot) → stepped (unwrap_or (with_refused nothing_read) nothing_read).spot next ≡ None
        nowhere None = refl
        nowhere (Some next) = refl

  pub word_taken : (word : List ℕ) (place : Spot) → is_pattern_word names word ≡ true → length (longer d.pattern word) ≤ 1024 → next_spot names d.pattern d.spot word ≡ Some place
      → HasItem names (words ++ word ∷ []) (following_word d word place)
  word_taken word place is short stands =
      record {
        rest = s.rest ++ word ∷ [];
        parts = ap (λ (ws : List (List ℕ)). ws ++ word ∷ []) s.parts ∙ append_assoc (not_words d.negated) s.rest (word ∷ []);
        pattern = begun_more names s.rest word d.spot place d.pattern s.pattern is short stands;
      }
