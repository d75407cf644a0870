-- What one word of a question of what stays for ever does, where it is not at fault.
use Rattle.std.proofs.Common.{◌≡◌, ℕ, ◌⊎◌, eqb, inl, inr, Bool, true, false, cond, not, ◌&&◌, List, [], ◌∷◌, ◌++◌, length, Option, Some, None, Result, Ok, Err, refl, sym, ap, subst, ◌∙◌, append_assoc, append-nil}
use Rattle.std.specs.Prelude.{codes}
use Rattle.std.specs.List.{list_all}
use Rattle.std.specs.Str.{bytes_eq}
use Rattle.std.proofs.lemmas.Bool.{and_parts, and_from}
use Rattle.std.proofs.lemmas.List.Folds.{list_all-append}
use Rattle.fmp_bytes.proofs.Words.{is_word}
use Rattle.fmp_names.specs.Names.{NameLists}
use Rattle.fmp_search_pattern.specs.Items.{Item}
use Rattle.fmp_search_pattern.specs.Words.{is_printed}
use Rattle.fmp_search_question.specs.declared.fault.QuestionFault.{QuestionFault}
use Rattle.fmp_search_question.specs.declared.stage.Stage.TheVariants as stage
use Rattle.fmp_search_question.specs.Reading.{Draft, nothing_read, with_pattern}
use Rattle.fmp_search_question.specs.Reading as reading
use Rattle.fmp_search_question.specs.Waiting.{waits_but}
use Rattle.fmp_search_question.specs.Lasting.{Parts, after_word, before_ever, in_part, in_stage, is_elsewhere, is_fresh, with_draft}
use Rattle.fmp_search_question.specs.Grammar.Grammar.{SpellsItem}
use Rattle.fmp_search_question.specs.Grammar.ForEver.{is_end}
use Rattle.fmp_search_question.proofs.grammar.Begun.{HasItem, after_item, item_of, item_spelled, no_item, not_taken, refused_taken, word_taken}
use Rattle.fmp_search_question.proofs.grammar.Closed.{Closed, closed_more}
use Rattle.fmp_search_question.proofs.grammar.LastingAsked.{IsInner}
use Rattle.fmp_search_question.proofs.grammar.Patterns.{or_parts}
use Rattle.fmp_search_question.proofs.grammar.Taken.{Taken, and, following_word, count, negation, next, or, plain, refusal, taken, without}

-- ---- a word of a moment

-- which words were read of a moment
pub record IsMomentRead (names : NameLists) (words : List (List ℕ)) (d : Draft) : Type 0 where
  pub items : List (List ℕ)
  pub last : List (List ℕ)
  pub whole : words ≡ items ++ last
  pub are_items : Closed (SpellsItem names) (codes "&") items d.items
  pub has_item : HasItem names last d
  pub inner : list_all (λ w. not (is_end w)) words ≡ true
  pub bare : record d { items = []; negated = false; pattern = []; spot = nothing_read.spot } ≡ nothing_read

pub nothing_of_moment : (names : NameLists) → IsMomentRead names [] nothing_read
nothing_of_moment names = record {
  items = [];
  last = [];
  whole = refl;
  are_items = refl;
  has_item = no_item names nothing_read refl refl refl;
  inner = refl;
  bare = refl;
}

no_word : (word one : List ℕ) → bytes_eq word one ≡ false → word ≡ one → bytes_eq one one ≡ false
no_word word one differs is = subst (λ (w : List ℕ). bytes_eq w one ≡ false) is differs

pub all_more : {A : Type 0} (test : A → Bool) (xs : List A) (x : A) → list_all test xs ≡ true → test x ≡ true → list_all test (xs ++ x ∷ []) ≡ true
all_more test xs x all one = list_all-append test xs (x ∷ []) ∙ and_from (list_all test xs) _ all (rw one refl)

no_end : (word : List ℕ) → IsInner word → not (is_end word) ≡ true
no_end word inner = let a = inner.no_for in let b = inner.no_ever in rw (a, b) refl

module _ (names : NameLists) (words : List (List ℕ)) (d e : Draft) (word : List ℕ) (inner : IsInner word) (s : IsMomentRead names words d) where
  goes_on_so : (f : Draft) → f.items ≡ d.items → record f { items = []; negated = false; pattern = []; spot = nothing_read.spot } ≡ nothing_read
      → HasItem names (s.last ++ word ∷ []) f → IsMomentRead names (words ++ word ∷ []) f
  goes_on_so f items bare item = record {
    items = s.items;
    last = s.last ++ word ∷ [];
    whole = ap (λ (ws : List (List ℕ)). ws ++ word ∷ []) s.whole ∙ append_assoc s.items s.last (word ∷ []);
    are_items = subst (λ (is : List Item). Closed (SpellsItem names) (codes "&") s.items is) (sym items) s.are_items;
    has_item = item;
    inner = all_more (λ w. not (is_end w)) words word s.inner (no_end word inner);
    bare = bare;
  }

  ends_so : word ≡ codes "&" → with_pattern d ≡ Some e → IsMomentRead names (words ++ word ∷ []) e
  ends_so is_and ends =
      let p = item_spelled names s.last d e s.has_item ends in
      let joined : words ++ word ∷ [] ≡ (s.items ++ (s.last ++ codes "&" ∷ [])) ++ [] =
      ap (λ (ws : List (List ℕ)). ws ++ word ∷ []) s.whole ∙ append_assoc s.items s.last (word ∷ [])
      ∙ ap (λ (w : List ℕ). s.items ++ (s.last ++ w ∷ [])) is_and ∙ sym (append-nil (s.items ++ (s.last ++ codes "&" ∷ []))) in
      subst (λ (f : Draft). IsMomentRead names (words ++ word ∷ []) f) p.1 (record {
        items = s.items ++ (s.last ++ codes "&" ∷ []);
        last = [];
        whole = joined;
        are_items = closed_more (SpellsItem names) (codes "&") s.items s.last d.items (item_of d) s.are_items p.0;
        has_item = no_item names (after_item d) refl refl refl;
        inner = all_more (λ w. not (is_end w)) words word s.inner (no_end word inner);
        bare = s.bare;
      })

  pub moment_moves : reading.after_word names d word ≡ Ok e → IsMomentRead names (words ++ word ∷ []) e
  moment_moves is = go (taken names d e word is)
    where
      go : Taken names d word e → IsMomentRead names (words ++ word ∷ []) e
      go (and is_and ends) = ends_so is_and ends
      go (refusal is_refusal ends) =
          let p = refused_taken names s.last d e s.has_item ends in
          subst (λ (f : Draft). IsMomentRead names (words ++ word ∷ []) f) p.1
          (goes_on_so (record d { pattern = e.pattern; spot = e.spot }) refl s.bare
          (subst (λ (w : List ℕ). HasItem names (s.last ++ w ∷ []) (record d { pattern = e.pattern; spot = e.spot })) (sym is_refusal) p.0))
      go (plain place is_one short stands ends) =
          subst (λ (f : Draft). IsMomentRead names (words ++ word ∷ []) f) (sym ends)
          (goes_on_so (following_word d word place) refl s.bare (word_taken names s.last d e s.has_item word place is_one short stands))
      go (or is_or ends) = let bad = no_word word (codes "or") inner.no_or is_or in absurd cc
      go (negation is_not ends) =
          let p = not_taken names s.last d e s.has_item ends in
          subst (λ (f : Draft). IsMomentRead names (words ++ word ∷ []) f) p.1
          (goes_on_so (record d { negated = true }) refl s.bare
          (subst (λ (w : List ℕ). HasItem names (s.last ++ w ∷ []) (record d { negated = true })) (sym is_not) p.0))
      go (without is_without ends) = let bad = no_word word (codes "without") inner.no_without is_without in absurd cc
      go (next is_then ends) = let bad = no_word word (codes "then") inner.no_then is_then in absurd cc
      go (count is_times ends) = let bad = no_word word (codes "times") inner.no_times is_times in absurd cc

-- ---- a word where a moment stands

-- the word and what was read after it
pub data TakenIn (names : NameLists) (d : Parts) (word : List ℕ) (e : Parts) : Type 0 where
  before_end : word ≡ codes "for" → (f : Draft) → with_pattern d.draft ≡ Some f → record d { draft = f; stage = stage.For } ≡ e → TakenIn names d word e
  all_wait : word ≡ codes "deadlock" → is_fresh d ≡ true → eqb (length d.lasting) 0 ≡ true → record d { lasting = waits_but names []; stage = stage.Deadlock } ≡ e → TakenIn names d word e
  of_moment : IsInner word → ((bytes_eq word (codes "deadlock") && is_fresh d) && eqb (length d.lasting) 0) ≡ false
      → (f : Draft) → reading.after_word names d.draft word ≡ Ok f → record d { draft = f } ≡ e → TakenIn names d word e

pub choose_parts : (e : Parts) (test : Bool) (one other : Result Parts QuestionFault) → cond test one other ≡ Ok e → ((test ≡ true) × (one ≡ Ok e)) ⊎ ((test ≡ false) × (other ≡ Ok e))
choose_parts e true one other is = inl (refl, is)
choose_parts e false one other is = inr (refl, is)

module _ (names : NameLists) (d e : Parts) (word : List ℕ) where
  ended_moment : (o : Option Draft) → before_ever d o ≡ Ok e → (f : Draft) × (o ≡ Some f) × (record d { draft = f; stage = stage.For } ≡ e)
  ended_moment None is = absurd cc
  ended_moment (Some f) is = (f, refl, cc)

  in_draft : (r : Result Draft QuestionFault) → with_draft d r ≡ Ok e → (f : Draft) × (r ≡ Ok f) × (record d { draft = f } ≡ e)
  in_draft (Err fault) is = absurd cc
  in_draft (Ok f) is = (f, refl, cc)

  same_parts : (f : Parts) → ◌≡◌ {A = Result Parts QuestionFault} (Ok f) (Ok e) → f ≡ e
  same_parts f is = cc

  pub taken_in : in_part names d word ≡ Ok e → TakenIn names d word e
  unfolding in_part
  taken_in is =
      elim (choose_parts e (bytes_eq word (codes "for")) _ _ is) [
        | inl p ↦ let ends = ended_moment (with_pattern d.draft) p.1 in before_end (is_word word (codes "for") p.0) ends.0 ends.1 ends.2
        | inr a ↦ elim (choose_parts e (is_elsewhere word) _ _ a.1) [
          | inl p ↦ let bad = p.1 in absurd cc
          | inr c ↦ elim (choose_parts e ((bytes_eq word (codes "deadlock") && is_fresh d) && eqb (length d.lasting) 0) _ _ c.1) [
            | inl p ↦
                let first = and_parts (bytes_eq word (codes "deadlock") && is_fresh d) (eqb (length d.lasting) 0) p.0 in
                let second = and_parts (bytes_eq word (codes "deadlock")) (is_fresh d) first.0 in
                all_wait (is_word word (codes "deadlock") second.0) second.1 first.1 (same_parts _ p.1)
            | inr g ↦
                let h = or_parts _ (bytes_eq word (codes "ever")) c.0 in
                let i = or_parts _ (bytes_eq word (codes "or")) h.0 in
                let j = or_parts _ (bytes_eq word (codes "times")) i.0 in
                let k = or_parts (bytes_eq word (codes "then")) (bytes_eq word (codes "without")) j.0 in
                let rest = in_draft (reading.after_word names d.draft word) g.1 in
                of_moment (record { no_for = a.0; no_ever = h.1; no_or = i.1; no_without = k.1; no_then = k.0; no_times = j.1 }) g.0 rest.0 rest.1 rest.2
          ]
        ]
      ]

  -- a word is printed, and was taken as the stage says
  pub staged : after_word names d word ≡ Ok e → (is_printed word ≡ true) × (in_stage names d word d.stage ≡ Ok e)
  unfolding after_word
  staged is = elim (choose_parts e (is_printed word) _ _ is) [
    | inl p ↦ p
    | inr other ↦ let bad = other.1 in absurd cc
  ]
