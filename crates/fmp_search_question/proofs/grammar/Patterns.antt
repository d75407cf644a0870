-- The words of a pattern, one after the other.
use Rattle.std.proofs.Common.{◌≡◌, ℕ, eqb, ◌≤◌, Bool, true, false, not, ◌&&◌, ◌||◌, List, [], ◌∷◌, ◌++◌, length}
use Rattle.std.proofs.Common.{Option, Some, None, Ok, refl, sym, ap, ◌∙◌, arith, length-append, append_assoc}
use Rattle.std.specs.Prelude.{codes, option_and_then}
use Rattle.std.specs.List.{list_all, list_any}
use Rattle.std.specs.Str.{bytes_eq}
use Rattle.std.proofs.lemmas.Bool.{and_from, and_parts, le-leb, false≢true}
use Rattle.std.proofs.lemmas.Bool.Decides.{nat_tests}
use Rattle.std.proofs.lemmas.List.Folds.{list_all-append}
use Rattle.fmp_bytes.specs.Bytes.{space, pieces_of}
use Rattle.fmp_bytes.proofs.Words.{other_word, not_word}
use Rattle.fmp_names.specs.Names.{NameLists}
use Rattle.fmp_search_pattern.specs.declared.spot.Spot.{Spot}
use Rattle.fmp_search_pattern.specs.declared.items.Wanted.TheVariants as wanted
use Rattle.fmp_search_question.specs.Places.{last_spot, longer, next_spot, words_of}
use Rattle.fmp_search_question.specs.Reading.{Draft, after_word, with_word, wanted_by}
use Rattle.fmp_search_pattern.specs.Spots.{stepped}
use Rattle.fmp_search_pattern.specs.Words.{is_fine, is_printed, runs_of, star}
use Rattle.fmp_search_question.specs.Grammar.Grammar.{is_pattern_word, own_words, place_after, placed, spaced}
use Rattle.fmp_search_question.proofs.grammar.Led.{led_first}
use Rattle.fmp_search_question.proofs.grammar.Steps.{led}

-- ---- tests

pub or_parts : (a b : Bool) → (a || b) ≡ false → (a ≡ false) × (b ≡ false)
or_parts false b is = (refl, is)
or_parts true b is = absurd cc

pub not_parts : (a : Bool) → not a ≡ true → a ≡ false
not_parts false is = refl
not_parts true is = absurd cc

pub unless_parts : (a : Bool) → not a ≡ false → a ≡ true
unless_parts true is = refl
unless_parts false is = absurd cc

-- a word that is none of those of the language
pub record IsForeign (word : List ℕ) : Type 0 where
  pub no_and : bytes_eq word (codes "&") ≡ false
  pub no_or : bytes_eq word (codes "or") ≡ false
  pub no_not : bytes_eq word (codes "not") ≡ false
  pub no_refused : bytes_eq word (codes "refused") ≡ false
  pub no_without : bytes_eq word (codes "without") ≡ false
  pub no_then : bytes_eq word (codes "then") ≡ false
  pub no_times : bytes_eq word (codes "times") ≡ false

pub foreign : (word : List ℕ) → list_any (bytes_eq word) own_words ≡ false → IsForeign word
foreign word is =
    let a = or_parts (bytes_eq word (codes "&")) _ is in
    let b = or_parts (bytes_eq word (codes "or")) _ a.1 in
    let c = or_parts (bytes_eq word (codes "not")) _ b.1 in
    let d = or_parts (bytes_eq word (codes "refused")) _ c.1 in
    let e = or_parts (bytes_eq word (codes "without")) _ d.1 in
    let f = or_parts (bytes_eq word (codes "then")) _ e.1 in
    let g = or_parts (bytes_eq word (codes "times")) _ f.1 in
    record { no_and = a.0; no_or = b.0; no_not = c.0; no_refused = d.0; no_without = e.0; no_then = f.0; no_times = g.0 }

-- what a word of a pattern is
pub record IsOne (names : NameLists) (word : List ℕ) : Type 0 where
  pub printed : is_printed word ≡ true
  pub is_foreign : IsForeign word
  pub known : list_all (is_fine names) (runs_of word) ≡ true

pub one_parts : (names : NameLists) (word : List ℕ) → is_pattern_word names word ≡ true → IsOne names word
one_parts names word is =
    let p = and_parts (is_printed word) (not (list_any (bytes_eq word) own_words) && list_all (is_fine names) (runs_of word)) is in
    let q = and_parts (not (list_any (bytes_eq word) own_words)) (list_all (is_fine names) (runs_of word)) p.1 in
    record { printed = p.0; is_foreign = foreign word (not_parts (list_any (bytes_eq word) own_words) q.0); known = q.1 }

-- ---- one word more

module _ (names : NameLists) (d : Draft) (word : List ℕ) (place : Spot) where
  pub word_taken : is_pattern_word names word ≡ true → length (longer d.pattern word) ≤ 1024 → next_spot names d.pattern d.spot word ≡ Some place
      → after_word names d word ≡ Ok (record d { pattern = longer d.pattern word; spot = place })
  unfolding after_word with_word
  word_taken is short stands =
      let p = one_parts names word is in
      let f = p.is_foreign in
      let room = le-leb (length (longer d.pattern word)) 1024 short in
      let printed = p.printed in
      let a = f.no_and in
      let b = f.no_or in
      let c = f.no_not in
      let g = f.no_refused in
      let h = f.no_without in
      let i = f.no_then in
      let j = f.no_times in
      let known = p.known in
      rw (printed, a, b, c, g, h, i, j, known, room, stands) refl

-- ---- several words more

abbrev pub longer_by : List ℕ → List (List ℕ) → List ℕ
longer_by pattern [] = pattern
longer_by pattern (word ∷ words) = longer_by (longer pattern word) words

-- a list with an element has some length
pub some_length : {A : Type 0} (x : A) (xs : List A) → eqb (length (x ∷ xs)) 0 ≡ false
some_length x xs = grind (arith, nat_tests)

pub longer-more : (b : ℕ) (pattern word : List ℕ) → longer (b ∷ pattern) word ≡ ((b ∷ pattern) ++ word) ++ space ∷ []
longer-more b pattern word = let more = some_length b pattern in rw more refl

longer-following : (front word : List ℕ) → longer (front ++ space ∷ []) word ≡ (front ++ space ∷ word) ++ space ∷ []
longer-following [] word = longer-more space [] word
longer-following (b ∷ front) word = longer-more b (front ++ space ∷ []) word ∙ ap (λ (p : List ℕ). p ++ space ∷ []) (append_assoc (b ∷ front) (space ∷ []) word)

longer_by-following : (front : List ℕ) (words : List (List ℕ)) → longer_by (front ++ space ∷ []) words ≡ front ++ spaced words
longer_by-following front [] = refl
longer_by-following front (word ∷ words) =
    ap (λ (p : List ℕ). longer_by p words) (longer-following front word) ∙ longer_by-following (front ++ space ∷ word) words ∙ append_assoc front (space ∷ word) (spaced words)

pub longer_by-first : (word : List ℕ) (words : List (List ℕ)) → longer_by [] (word ∷ words) ≡ spaced (word ∷ words)
longer_by-first word words = longer_by-following (space ∷ word) words

longer-grows : (pattern word : List ℕ) → length pattern ≤ length (longer pattern word)
longer-grows [] word = omega arith
longer-grows (b ∷ pattern) word = omega (
  arith,
  ap length (longer-more b pattern word),
  length-append ((b ∷ pattern) ++ word) (space ∷ []),
  length-append (b ∷ pattern) word,
)

pub longer_by-grows : (pattern : List ℕ) (words : List (List ℕ)) → length pattern ≤ length (longer_by pattern words)
longer_by-grows pattern [] = omega arith
longer_by-grows pattern (word ∷ words) = omega (arith, longer-grows pattern word, longer_by-grows (longer pattern word) words)

-- ---- where words stand

module _ (names : NameLists) where
  -- one word more
  pub all_more : (words : List (List ℕ)) (word : List ℕ) → list_all (is_pattern_word names) words ≡ true → is_pattern_word names word ≡ true
      → list_all (is_pattern_word names) (words ++ word ∷ []) ≡ true
  all_more words word each is =
      list_all-append (is_pattern_word names) words (word ∷ []) ∙ and_from (list_all (is_pattern_word names) words) _ each (rw is refl)

  longer_by-more : (pattern : List ℕ) (words : List (List ℕ)) (word : List ℕ) → longer (longer_by pattern words) word ≡ longer_by pattern (words ++ word ∷ [])
  longer_by-more pattern [] word = refl
  longer_by-more pattern (first ∷ words) word = longer_by-more (longer pattern first) words word

  longer_by-all : (words : List (List ℕ)) (word : List ℕ) → longer_by [] (words ++ word ∷ []) ≡ spaced (words ++ word ∷ [])
  longer_by-all [] word = longer_by-first word []
  longer_by-all (first ∷ words) word = longer_by-first first (words ++ word ∷ [])

  -- where a word stands after the text of others is where it stands after these
  pub same_spot : (before : List (List ℕ)) (pattern word : List ℕ) (place : Spot) → pattern ≡ longer_by [] before
      → next_spot names pattern place word ≡ place_after names before place word
  same_spot before pattern word place so =
      ap (λ (text : List ℕ). stepped place (last_spot names (words_of text) word))
      (ap (λ (p : List ℕ). longer p word) so ∙ longer_by-more [] before word ∙ longer_by-all before word)

  -- the first word stands somewhere, and the others after it
  pub placed_parts : (before : List (List ℕ)) (from place : Spot) (word : List ℕ) (words : List (List ℕ)) → placed names before from (word ∷ words) ≡ Some place
      → (next : Spot) × (place_after names before from word ≡ Some next) × (placed names (before ++ word ∷ []) next words ≡ Some place)
  placed_parts before from place word words is = parts (place_after names before from word) refl is where
    parts : (o : Option Spot) → place_after names before from word ≡ o → option_and_then (λ next. placed names (before ++ word ∷ []) next words) o ≡ Some place
        → (next : Spot) × (place_after names before from word ≡ Some next) × (placed names (before ++ word ∷ []) next words ≡ Some place)
    parts None e rest = absurd cc
    parts (Some next) e rest = (next, e, rest)

  pub words_taken : (d : Draft) (before words : List (List ℕ)) (place : Spot) → d.pattern ≡ longer_by [] before → list_all (is_pattern_word names) words ≡ true → length (longer_by d.pattern words) ≤ 1024 → placed names before d.spot words ≡ Some place
      → led names d words ≡ Some (record d { pattern = longer_by d.pattern words; spot = place })
  words_taken d before [] place so each short stand = let same : d.spot ≡ place = cc in ap (λ (s : Spot). Some (record d { spot = s })) same
  words_taken d before (word ∷ words) place so each short stand =
      let e = and_parts (is_pattern_word names word) (list_all (is_pattern_word names) words) each in
      let p = placed_parts before d.spot place word words stand in
      let room : length (longer d.pattern word) ≤ 1024 = omega (arith, short, longer_by-grows (longer d.pattern word) words) in
      let step = same_spot before d.pattern word d.spot so ∙ p.1 in
      let following = ap (λ (text : List ℕ). longer text word) so ∙ longer_by-more [] before word in
      led_first (after_word names) d (record d { pattern = longer d.pattern word; spot = p.0 }) word words (word_taken names d word p.0 e.0 room step)
      ∙ words_taken (record d { pattern = longer d.pattern word; spot = p.0 }) (before ++ word ∷ []) words place following e.1 short p.2

-- ---- what the words ask for

-- bytes up to the first blank
first_word : (word rest front : List ℕ) → list_all (λ b. not (eqb b 32)) front ≡ true → word ++ 32 ∷ rest ≡ front ++ 32 ∷ [] → word ≡ front
first_word [] rest [] apart e = refl
first_word [] rest (b ∷ front) apart e =
    let same : b ≡ 32 = cc in
    absurd (false≢true (sym (ap (λ (c : ℕ). not (eqb c 32)) same) ∙ (and_parts (not (eqb b 32)) (list_all (λ b. not (eqb b 32)) front) apart).0))
first_word (a ∷ []) rest [] apart e = absurd cc
first_word (a ∷ b ∷ word) rest [] apart e = absurd cc
first_word (a ∷ word) rest (b ∷ front) apart e =
    let same : a ≡ b = cc in
    let others : word ++ 32 ∷ rest ≡ front ++ 32 ∷ [] = cc in
    let rest_same = first_word word rest front (and_parts (not (eqb b 32)) (list_all (λ b. not (eqb b 32)) front) apart).1 others in
    cc

-- after the first word a blank follows
abbrev pub after_first : List (List ℕ) → List ℕ
after_first [] = []
after_first (word ∷ words) = word ++ spaced words

pub spaced_begins : (words : List (List ℕ)) → spaced words ≡ space ∷ after_first words
spaced_begins [] = refl
spaced_begins (word ∷ words) = refl

-- only `refused` gives its pattern
pub other_wanted : (word : List ℕ) (words : List (List ℕ)) → bytes_eq word (codes "refused") ≡ false
    → wanted_by (spaced (word ∷ words)) ≡ wanted.Line (pieces_of star (spaced (word ∷ words)))
other_wanted word words other =
    let begins = spaced_begins words in
    let differs : bytes_eq (spaced (word ∷ words)) (codes " refused ") ≡ false = other_word (spaced (word ∷ words)) (codes " refused ") (λ e.
    not_word word (codes "refused") other (first_word word (after_first words) (codes "refused") refl (ap (λ (r : List ℕ). word ++ r) (sym begins) ∙ tail_same e))) in
    rw differs refl where
      tail_same : spaced (word ∷ words) ≡ codes " refused " → word ++ spaced words ≡ codes "refused" ++ 32 ∷ []
      tail_same e = cc
