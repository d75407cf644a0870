-- What is asked of what stays for ever is read.
use Rattle.std.proofs.Common.{◌≡◌, ℕ, ◌+◌, ◌<◌, ◌≤◌, ◌⊎◌, eqb, inl, inr, Bool, true, false, not, ◌&&◌, ◌||◌, cond, List, [], ◌∷◌, ◌++◌, length, Some, None, Result, Ok, refl, sym, ap, subst, ◌∙◌, arith, append_assoc}
use Rattle.std.specs.Prelude.{codes}
use Rattle.std.specs.List.{list_all}
use Rattle.std.specs.Str.{bytes_eq}
use Rattle.std.proofs.lemmas.Bool.{and_parts, cases_Bool, le-leb}
use Rattle.std.proofs.lemmas.List.Folds.{list_all-append}
use Rattle.fmp_bytes.specs.Bytes.{is_of, pieces_of, space}
use Rattle.fmp_bytes.proofs.Cutting.{pieces_of-join}
use Rattle.fmp_names.specs.Names.{NameLists}
use Rattle.fmp_search_pattern.specs.Items.{Item}
use Rattle.fmp_search_pattern.specs.Lasting.{Lasting}
use Rattle.fmp_search_pattern.specs.Words.{is_printed}
use Rattle.fmp_search_pattern.specs.Spots as spots
use Rattle.fmp_search_pattern.specs.declared.items.Wanted.{Wanted}
use Rattle.fmp_search_pattern.specs.declared.items.Wanted.TheVariants as wanted
use Rattle.fmp_search_question.specs.Places.{longer}
use Rattle.fmp_search_question.specs.declared.fault.QuestionFault.{QuestionFault}
use Rattle.fmp_search_question.specs.declared.stage.Stage.TheVariants as stage
use Rattle.fmp_search_question.specs.Reading.{Draft, nothing_read, with_pattern, with_refused}
use Rattle.fmp_search_question.specs.Reading as reading
use Rattle.fmp_search_question.specs.Lasting.{Parts, after_word, are_tasks, begins_so, ended, in_part, is_fresh, lasting_in, may_end, no_parts, written_in}
use Rattle.fmp_search_question.specs.Resolved.{resolved_lasting}
use Rattle.fmp_search_question.specs.WordByWord.{result_then}
use Rattle.fmp_search_question.specs.Waiting.{comma, waits_but}
use Rattle.fmp_search_question.specs.Grammar.Rows.{SpellsRow}
use Rattle.fmp_search_question.specs.Grammar.Grammar.{Negated, SpellsItem, SpellsPart, SpellsWanted, is_pattern_word}
use Rattle.fmp_search_question.specs.Grammar.ForEver.{AsksForEver, AsksForEverWords, SpellsLasting, WritesForEver, is_end}
use Rattle.fmp_search_question.proofs.grammar.Patterns.{or_parts, one_parts, some_length}
use Rattle.fmp_search_question.proofs.grammar.Led.{led_first, led_on, led_parts, words_led}
use Rattle.fmp_search_question.proofs.grammar.Steps.{fresh, led}
use Rattle.fmp_search_question.proofs.grammar.Taken.{Taken, and, count, negation, next, or, plain, refusal, taken, when_false, when_true, without}
use Rattle.fmp_search_question.proofs.grammar.LastingSteps.{led_to, parts_so}
use Rattle.fmp_search_question.proofs.grammar.Asked.{part_led}

-- ---- words of a moment

-- a word that goes on with a moment: none of those of other questions, nor one after a moment
pub record IsInner (word : List ℕ) : Type 0 where
  pub no_for : bytes_eq word (codes "for") ≡ false
  pub no_ever : bytes_eq word (codes "ever") ≡ false
  pub no_or : bytes_eq word (codes "or") ≡ false
  pub no_without : bytes_eq word (codes "without") ≡ false
  pub no_then : bytes_eq word (codes "then") ≡ false
  pub no_times : bytes_eq word (codes "times") ≡ false

-- something of the part was read
abbrev pub has_some : Draft → Bool
has_some d = not ((not d.negated && eqb (length d.items) 0) && eqb (length d.pattern) 0)

longer_some : (pattern word : List ℕ) → eqb (length (longer pattern word)) 0 ≡ false
longer_some pattern word = following (longer pattern word) (cond (eqb (length pattern) 0) (space ∷ []) pattern ++ word) refl
  where
    following : (whole front : List ℕ) → whole ≡ front ++ space ∷ [] → eqb (length whole) 0 ≡ false
    following whole [] is = rw is refl
    following whole (b ∷ front) is = rw is (some_length b (front ++ space ∷ []))

items_some : (items : List Item) (item : Item) → eqb (length (items ++ item ∷ [])) 0 ≡ false
items_some [] item = refl
items_some (first ∷ items) item = some_length first (items ++ item ∷ [])

pattern_some : (n a b : Bool) → b ≡ false → not ((not n && a) && b) ≡ true
pattern_some true a b is = refl
pattern_some false true b is = rw is refl
pattern_some false false b is = refl

items_read : (n a b : Bool) → a ≡ false → not ((not n && a) && b) ≡ true
items_read true a b is = refl
items_read false a b is = rw is refl

not_read : (n a b : Bool) → n ≡ true → not ((not n && a) && b) ≡ true
not_read n a b is = rw is refl

-- a word that is another is not this one
no_word : (word one : List ℕ) → bytes_eq word one ≡ false → word ≡ one → bytes_eq one one ≡ false
no_word word one differs is = subst (λ (w : List ℕ). bytes_eq w one ≡ false) is differs

-- with such a word something of the part was read
pub some_read : (names : NameLists) (d e : Draft) (word : List ℕ) → IsInner word → reading.after_word names d word ≡ Ok e → has_some e ≡ true
unfolding with_pattern
some_read names d e word inner is = go (taken names d e word is)
  where
    go : Taken names d word e → has_some e ≡ true
    go (and is_and ends) =
        let p = when_false (eqb (length d.pattern) 0 || not (spots.may_end d.spot)) _ e ends in
        let items : eqb (length e.items) 0 ≡ false = subst (λ (f : Draft). eqb (length f.items) 0 ≡ false) p.1 (items_some d.items _) in
        items_read e.negated (eqb (length e.items) 0) (eqb (length e.pattern) 0) items
    go (refusal is_refusal ends) =
        let p = when_true (eqb (length d.pattern) 0) _ e ends in
        let pattern : eqb (length e.pattern) 0 ≡ false = subst (λ (f : Draft). eqb (length f.pattern) 0 ≡ false) p.1 refl in
        pattern_some e.negated (eqb (length e.items) 0) (eqb (length e.pattern) 0) pattern
    go (plain place is_one short stands ends) =
        let pattern : eqb (length e.pattern) 0 ≡ false = subst (λ (f : Draft). eqb (length f.pattern) 0 ≡ false) (sym ends) (longer_some d.pattern word) in
        pattern_some e.negated (eqb (length e.items) 0) (eqb (length e.pattern) 0) pattern
    go (or is_or ends) = let bad = no_word word (codes "or") inner.no_or is_or in absurd cc
    go (negation is_not ends) =
        let p = when_true (eqb (length d.pattern) 0 && not d.negated) (record d { negated = true }) e ends in
        not_read e.negated (eqb (length e.items) 0) (eqb (length e.pattern) 0) (sym (ap (λ (f : Draft). f.negated) p.1))
    go (without is_without ends) = let bad = no_word word (codes "without") inner.no_without is_without in absurd cc
    go (next is_then ends) = let bad = no_word word (codes "then") inner.no_then is_then in absurd cc
    go (count is_times ends) = let bad = no_word word (codes "times") inner.no_times is_times in absurd cc

-- ---- the same words, as they are read of what stays for ever

printed_so : (names : NameLists) (d e : Draft) (word : List ℕ) → reading.after_word names d word ≡ Ok e → is_printed word ≡ true
unfolding reading.after_word
printed_so names d e word is = elim (cases_Bool (is_printed word)) [
  | inl t ↦ t
  | inr f ↦ let bad = rw f at is in absurd cc
]

-- where a word is no `deadlock` at the beginning it goes on with the moment
module _ (names : NameLists) (lasting : List Lasting) (d e : Draft) (word : List ℕ) (inner : IsInner word)
    (free : ((bytes_eq word (codes "deadlock") && is_fresh (parts_so lasting d stage.Words)) && eqb (length lasting) 0) ≡ false) (is : reading.after_word names d word ≡ Ok e) where
  goes_on : after_word names (parts_so lasting d stage.Words) word ≡ Ok (parts_so lasting e stage.Words)
  unfolding after_word in_part
  goes_on =
      let printed = printed_so names d e word is in
      let a = inner.no_for in
      let c = inner.no_then in
      let f = inner.no_without in
      let g = inner.no_times in
      let h = inner.no_or in
      let i = inner.no_ever in
      rw (printed, a, c, f, g, h, i, free, is) refl

-- ---- several words

abbrev pub AreInner : List (List ℕ) → Type 0
AreInner [] = Unit {0}
AreInner (word ∷ words) = IsInner word × AreInner words

-- the first word is no `deadlock` where that would stand for itself
abbrev pub IsFree : List Lasting → Draft → List (List ℕ) → Type 0
IsFree lasting d [] = Unit {0}
IsFree lasting d (word ∷ words) = ((bytes_eq word (codes "deadlock") && is_fresh (parts_so lasting d stage.Words)) && eqb (length lasting) 0) ≡ false

not_fresh : (fresh l n : Bool) → not fresh ≡ true → ((l && fresh) && n) ≡ false
not_fresh true l n is = absurd cc
not_fresh false true n is = refl
not_fresh false false n is = refl

free_after : (lasting : List Lasting) (d : Draft) (words : List (List ℕ)) → has_some d ≡ true → IsFree lasting d words
free_after lasting d [] some = tt
free_after lasting d (word ∷ words) some =
    not_fresh ((not d.negated && eqb (length d.items) 0) && eqb (length d.pattern) 0) (bytes_eq word (codes "deadlock")) (eqb (length lasting) 0) some

pub lifted : (names : NameLists) (lasting : List Lasting) (words : List (List ℕ)) (d e : Draft) → AreInner words → IsFree lasting d words
    → led names d words ≡ Some e → led_to names (parts_so lasting d stage.Words) words ≡ Some (parts_so lasting e stage.Words)
lifted names lasting [] d e inner free is = let same : d ≡ e = cc in ap (λ (x : Draft). Some (parts_so lasting x stage.Words)) same
lifted names lasting (word ∷ words) d e inner free is =
    let p = led_parts (reading.after_word names) d e word words is in
    let some = some_read names d p.0 word inner.0 p.1 in
    led_first (after_word names) (parts_so lasting d stage.Words) (parts_so lasting p.0 stage.Words) word words (goes_on names lasting d p.0 word inner.0 free p.1)
    ∙ lifted names lasting words p.0 e inner.1 (free_after lasting p.0 words some) p.2

-- ---- the words of a moment

inner_both : (xs ys : List (List ℕ)) → AreInner xs → AreInner ys → AreInner (xs ++ ys)
inner_both [] ys a b = b
inner_both (x ∷ xs) ys a b = (a.0, inner_both xs ys a.1 b)

not_so : (b : Bool) → not b ≡ true → b ≡ false
not_so false is = refl
not_so true is = absurd cc

word_inner : (names : NameLists) (word : List ℕ) → is_pattern_word names word ≡ true → not (is_end word) ≡ true → IsInner word
word_inner names word is simple =
    let f = (one_parts names word is).is_foreign in
    let ends = or_parts (bytes_eq word (codes "for")) (bytes_eq word (codes "ever")) (not_so (is_end word) simple) in
    record { no_for = ends.0; no_ever = ends.1; no_or = f.no_or; no_without = f.no_without; no_then = f.no_then; no_times = f.no_times }

words_inner : (names : NameLists) (words : List (List ℕ)) → list_all (is_pattern_word names) words ≡ true → list_all (λ w. not (is_end w)) words ≡ true → AreInner words
words_inner names [] each simple = tt
words_inner names (word ∷ words) each simple =
    let a = and_parts (is_pattern_word names word) (list_all (is_pattern_word names) words) each in
    let b = and_parts (not (is_end word)) (list_all (λ w. not (is_end w)) words) simple in
    (word_inner names word a.0 b.0, words_inner names words a.1 b.1)

refused_inner : IsInner (codes "refused")
refused_inner = record { no_for = refl; no_ever = refl; no_or = refl; no_without = refl; no_then = refl; no_times = refl }

not_inner : IsInner (codes "not")
not_inner = record { no_for = refl; no_ever = refl; no_or = refl; no_without = refl; no_then = refl; no_times = refl }

and_inner : IsInner (codes "&")
and_inner = record { no_for = refl; no_ever = refl; no_or = refl; no_without = refl; no_then = refl; no_times = refl }

wanted_inner : (names : NameLists) (words : List (List ℕ)) (asked : Wanted) → SpellsWanted names words asked → list_all (λ w. not (is_end w)) words ≡ true → AreInner words
wanted_inner names words wanted.Refused is simple = subst AreInner (sym is) (refused_inner, tt)
wanted_inner names words (wanted.Line pattern) s simple = words_inner names words s.each simple
wanted_inner names words wanted.End s simple = absurd s
wanted_inner names words (wanted.State pattern choice) s simple = absurd s

item_inner : (names : NameLists) (words : List (List ℕ)) (item : Item) → SpellsItem names words item → list_all (λ w. not (is_end w)) words ≡ true → AreInner words
item_inner names words item s simple = go item.negated s
  where
    go : (b : Bool) → Negated (λ rest. SpellsWanted names rest item.wanted) b words → AreInner words
    go false s = wanted_inner names words item.wanted s simple
    go true s =
        let whole : list_all (λ w. not (is_end w)) (codes "not" ∷ s.0) ≡ true = subst (λ (ws : List (List ℕ)). list_all (λ w. not (is_end w)) ws ≡ true) s.1 simple in
        let rest = and_parts (not (is_end (codes "not"))) (list_all (λ w. not (is_end w)) s.0) whole in
        subst AreInner (sym s.1) (not_inner, wanted_inner names s.0 item.wanted s.2 rest.1)

part_inner : (names : NameLists) (words : List (List ℕ)) (part : List Item) → SpellsPart names words part → list_all (λ w. not (is_end w)) words ≡ true → AreInner words
part_inner names words [] s simple = absurd s
part_inner names words (one ∷ []) s simple = item_inner names words one s simple
part_inner names words (one ∷ second ∷ more) s simple =
    let whole : list_all (λ w. not (is_end w)) (s.0 ++ (codes "&" ∷ s.1)) ≡ true = subst (λ (ws : List (List ℕ)). list_all (λ w. not (is_end w)) ws ≡ true) s.2 simple in
    let b = and_parts (list_all (λ w. not (is_end w)) s.0) _ (sym (list_all-append (λ w. not (is_end w)) s.0 (codes "&" ∷ s.1)) ∙ whole) in
    let c = and_parts (not (is_end (codes "&"))) (list_all (λ w. not (is_end w)) s.1) b.1 in
    subst AreInner (sym s.2) (inner_both s.0 (codes "&" ∷ s.1) (item_inner names s.0 one s.3 b.0) (and_inner, part_inner names s.1 (second ∷ more) s.4 c.1))

-- ---- a moment that stays

abbrev pub words_at : List Lasting → Parts
words_at lasting = parts_so lasting nothing_read stage.Words

abbrev pub ever_at : List Lasting → Parts
ever_at lasting = parts_so lasting nothing_read stage.Ever

module _ (names : NameLists) (lasting : List Lasting) where
  for_taken : (d : Draft) (part : List Item) → with_pattern d ≡ Some (fresh [] None None [] part)
      → after_word names (parts_so lasting d stage.Words) (codes "for") ≡ Ok (parts_so lasting (fresh [] None None [] part) stage.For)
  unfolding after_word in_part is_of
  for_taken d part is = rw is refl

  ever_taken : (part : List Item) → after_word names (parts_so lasting (fresh [] None None [] part) stage.For) (codes "ever") ≡ Ok (ever_at (lasting ++ (part ∷ []) ∷ []))
  unfolding after_word is_of
  ever_taken part = refl

  or_taken : after_word names (ever_at lasting) (codes "or") ≡ Ok (words_at lasting)
  unfolding after_word is_of
  or_taken = refl

  -- the words of a moment, and those after it
  moment_led : (front : List (List ℕ)) (part : List Item) → SpellsPart names front part → list_all (λ w. not (is_end w)) front ≡ true → IsFree lasting nothing_read front
      → led_to names (words_at lasting) (front ++ (codes "for" ∷ codes "ever" ∷ [])) ≡ Some (ever_at (lasting ++ (part ∷ []) ∷ []))
  moment_led front part s simple free =
      let read = part_led names [] None None [] [] front part s in
      let all = lifted names lasting front nothing_read read.0 (part_inner names front part s simple) free read.1 in
      led_on (after_word names) (words_at lasting) (parts_so lasting read.0 stage.Words) front (codes "for" ∷ codes "ever" ∷ []) all
      ∙ led_first (after_word names) (parts_so lasting read.0 stage.Words) (parts_so lasting (fresh [] None None [] part) stage.For) (codes "for") (codes "ever" ∷ [])
      (for_taken read.0 part read.2)
      ∙ led_first (after_word names) (parts_so lasting (fresh [] None None [] part) stage.For) (ever_at (lasting ++ (part ∷ []) ∷ [])) (codes "ever") [] (ever_taken part)

-- no `deadlock` stands where it would stand for itself
abbrev pub IsOpen : List Lasting → List (List ℕ) → Type 0
IsOpen lasting words = (eqb (length lasting) 0 ≡ false) ⊎ (begins_so words ≡ false)

open_front : (lasting : List Lasting) (words front rest : List (List ℕ)) → words ≡ front ++ rest → IsOpen lasting words → IsOpen lasting front
open_front lasting words front rest are (inl some) = inl some
open_front lasting words [] rest are (inr other) = inr refl
open_front lasting words (word ∷ front) rest are (inr other) = inr (subst (λ (ws : List (List ℕ)). begins_so ws ≡ false) are other)

no_both : (a b : Bool) → b ≡ false → (a && b) ≡ false
no_both true b is = is
no_both false b is = refl

free_open : (lasting : List Lasting) (d : Draft) (front : List (List ℕ)) → IsOpen lasting front → IsFree lasting d front
free_open lasting d [] is = tt
free_open lasting d (word ∷ front) (inl some) = no_both _ (eqb (length lasting) 0) some
free_open lasting d (word ∷ front) (inr other) = rw other refl

lasting_led : (names : NameLists) (lasting : List Lasting) (words : List (List ℕ)) (l : Lasting) → SpellsLasting names words l → IsOpen lasting words
    → led_to names (words_at lasting) words ≡ Some (ever_at (lasting ++ l ∷ []))
lasting_led names lasting words l s is_open =
    ap (led_to names (words_at lasting)) s.parts
    ∙ moment_led names lasting s.front s.part s.spelled s.inner
    (free_open lasting nothing_read s.front (open_front lasting words s.front (codes "for" ∷ codes "ever" ∷ []) s.parts is_open))
    ∙ ap (λ (m : Lasting). Some (ever_at (lasting ++ m ∷ []))) (sym s.is)

some_more : (lasting : List Lasting) (l : Lasting) → eqb (length (lasting ++ l ∷ [])) 0 ≡ false
some_more [] l = refl
some_more (first ∷ lasting) l = some_length first (lasting ++ l ∷ [])

row_led_to : (names : NameLists) (lasting : List Lasting) (words : List (List ℕ)) (row : List Lasting) → SpellsRow (SpellsLasting names) (codes "or") words row → IsOpen lasting words
    → led_to names (words_at lasting) words ≡ Some (ever_at (lasting ++ row))
row_led_to names lasting words [] s is_open = absurd s
row_led_to names lasting words (one ∷ []) s is_open = lasting_led names lasting words one s is_open
row_led_to names lasting words (one ∷ second ∷ more) s is_open =
    let following = lasting ++ one ∷ [] in
    ap (led_to names (words_at lasting)) s.2
    ∙ led_on (after_word names) (words_at lasting) (ever_at following) s.0 (codes "or" ∷ s.1) (lasting_led names lasting s.0 one s.3 (open_front lasting words s.0 (codes "or" ∷ s.1) s.2 is_open))
    ∙ led_first (after_word names) (ever_at following) (words_at following) (codes "or") s.1 (or_taken names following)
    ∙ row_led_to names following s.1 (second ∷ more) s.4 (inl (some_more lasting one))
    ∙ ap (λ (ls : List Lasting). Some (ever_at ls)) (append_assoc lasting (one ∷ []) (second ∷ more))

-- ---- `deadlock`

module _ (names : NameLists) where
  deadlock_led : led_to names no_parts (codes "deadlock" ∷ []) ≡ Some (parts_so (waits_but names []) nothing_read stage.Deadlock)
  unfolding after_word in_part is_of
  deadlock_led = refl

  but_led : led_to names no_parts (codes "deadlock" ∷ codes "but" ∷ []) ≡ Some (parts_so (waits_but names []) nothing_read stage.But)
  unfolding after_word in_part is_of
  but_led = refl

  list_taken : (list : List ℕ) → is_printed list ≡ true → are_tasks names list ≡ true → eqb (length (waits_but names (pieces_of comma list))) 0 ≡ false
      → after_word names (parts_so (waits_but names []) nothing_read stage.But) list ≡ Ok (parts_so (waits_but names (pieces_of comma list)) nothing_read stage.Named)
  unfolding after_word
  list_taken list printed tasks some = rw (printed, tasks, some) refl

-- ---- whole questions

-- what the words lead to may end a question
record LeadsToEnd (names : NameLists) (words : List (List ℕ)) (lasting : List Lasting) : Type 0 where
  end : Parts
  led_there : led_to names no_parts words ≡ Some end
  may : may_end end.stage ≡ true
  is : end.lasting ≡ lasting
  some : 0 < length words

first_word : (names : NameLists) (words : List (List ℕ)) (end : Parts) → led_to names no_parts words ≡ Some end → may_end end.stage ≡ true → 0 < length words
first_word names [] end is may = let same : no_parts ≡ end = cc in let bad = subst (λ (d : Parts). may_end d.stage ≡ true) (sym same) may in absurd cc
first_word names (word ∷ words) end is may = omega arith

left_some : {A : Type 0} (xs : List A) → 1 ≤ length xs → eqb (length xs) 0 ≡ false
left_some [] some = absurd (omega (arith, some))
left_some (x ∷ xs) some = some_length x xs

words_lead : (names : NameLists) (words : List (List ℕ)) (lasting : List Lasting) → AsksForEverWords names words lasting → LeadsToEnd names words lasting
words_lead names words lasting (inl (inl s)) =
    let there = ap (led_to names no_parts) s.0 ∙ deadlock_led names in
    record { end = parts_so (waits_but names []) nothing_read stage.Deadlock; led_there = there; may = refl; is = sym s.1; some = first_word names words _ there refl }
words_lead names words lasting (inl (inr s)) =
    let before = parts_so (waits_but names []) nothing_read stage.But in
    let end = parts_so (waits_but names (pieces_of comma s.0)) nothing_read stage.Named in
    let there : led_to names no_parts words ≡ Some end =
    ap (led_to names no_parts) s.1 ∙ led_on (after_word names) no_parts before (codes "deadlock" ∷ codes "but" ∷ []) (s.0 ∷ []) (but_led names)
    ∙ led_first (after_word names) before end s.0 []
    (list_taken names s.0 s.2 s.3 (ap (λ (ls : List Lasting). eqb (length ls) 0) (sym s.4) ∙ left_some lasting s.5)) in
    record { end = end; led_there = there; may = refl; is = sym s.4; some = first_word names words end there refl }
words_lead names words lasting (inr s) =
    let there = row_led_to names [] words lasting s.1 (inr s.0) in
    record { end = ever_at lasting; led_there = there; may = refl; is = refl; some = first_word names words (ever_at lasting) there refl }

ended_so : (bytes : ℕ) (d : Parts) → may_end d.stage ≡ true → length d.lasting ≤ 64 → ended bytes d ≡ Ok d.lasting
ended_so bytes d may few = let room = le-leb (length d.lasting) 64 few in rw (may, room) refl

written_is_read : (names : NameLists) (text : List ℕ) (lasting : List Lasting) → WritesForEver names text lasting → written_in names text ≡ Ok lasting
unfolding written_in
written_is_read names text lasting s =
    let leads = words_lead names s.words lasting s.asked in
    let pieces : pieces_of space text ≡ s.words = ap (pieces_of space) s.parts ∙ pieces_of-join space s.words leads.some s.cut in
    let all = words_led (after_word names) (length text) no_parts leads.end s.words leads.led_there in
    let ends = ended_so (length text) leads.end leads.may (subst (λ (ls : List Lasting). length ls ≤ 64) (sym leads.is) s.few) in
    let same = leads.is in
    rw (pieces, all, ends, same) refl

pub lasting_is_read : (names : NameLists) (text : List ℕ) (lasting : List Lasting) → AsksForEver names text lasting → lasting_in names text ≡ Ok lasting
unfolding lasting_in
lasting_is_read names text lasting s =
    ap (λ (r : Result (List Lasting) (QuestionFault × ℕ)). result_then (λ parts. Ok (resolved_lasting names parts)) r) (written_is_read names text s.0 s.1)
    ∙ ap (λ (ls : List Lasting). Ok ls) (sym s.2)

pub one_lasting : (names : NameLists) (text : List ℕ) (a b : List Lasting) → AsksForEver names text a → AsksForEver names text b → a ≡ b
one_lasting names text a b asked also = same_value (sym (lasting_is_read names text a asked) ∙ lasting_is_read names text b also) where
  same_value : ◌≡◌ {A = Result (List Lasting) (QuestionFault × ℕ)} (Ok a) (Ok b) → a ≡ b
  same_value e = cc
