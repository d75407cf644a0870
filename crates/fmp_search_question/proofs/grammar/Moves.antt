-- What one word more makes of what was read.
use Rattle.std.proofs.Common.{◌≡◌, ℕ, ◌≤◌, Bool, true, List, [], ◌∷◌, ◌++◌, length, Option, Some, None, Ok, refl, sym, ap, subst, ◌∙◌, append_assoc}
use Rattle.std.specs.Prelude.{codes, is_none}
use Rattle.fmp_names.specs.Names.{NameLists}
use Rattle.fmp_search_pattern.specs.declared.spot.Spot.{Spot}
use Rattle.fmp_search_pattern.specs.Items.{Item}
use Rattle.fmp_search_question.specs.Reading.{Draft, after_word, before_without, part_ended, with_moment, with_not, with_part}
use Rattle.fmp_search_question.specs.Reading.{with_pattern, with_read, with_refused, with_step, with_times}
use Rattle.fmp_search_question.specs.Grammar.Grammar.{SpellsItem, SpellsPart, is_pattern_word}
use Rattle.fmp_search_question.specs.Places.{longer, next_spot}
use Rattle.fmp_search_question.proofs.grammar.Closed.{Closed, closed_more}
use Rattle.fmp_search_question.proofs.grammar.Taken.{Taken, and, following_word, count, negation, next, or, plain, refusal, taken, then_parts, when_true, without}
use Rattle.fmp_search_question.proofs.grammar.Begun.{HasItem, after_item, item_of, item_spelled, no_item, not_taken, not_words, refused_taken, word_taken}
use Rattle.fmp_search_question.proofs.grammar.CountsRead.{after_times, count_read}
use Rattle.fmp_search_question.proofs.grammar.ReadSoFar.{HasCount, HasMoment, IsRead, SpellsCounted, after_items, after_last, after_moment, after_parts, after_steps}
use Rattle.fmp_search_question.proofs.grammar.ReadSoFar.{moment_of, moment_read, part_read, step_is_read, step_read, steps_are_read}

module _ (names : NameLists) (words : List (List ℕ)) (d e : Draft) (s : IsRead names words d) where
  -- the item that is being read goes on
  abbrev with_last : Bool → List ℕ → Spot → Draft
  with_last negated pattern place = record d { negated = negated; pattern = pattern; spot = place }

  item_goes_on : (word : List ℕ) (negated : Bool) (pattern : List ℕ) (place : Spot) → HasItem names (s.last ++ word ∷ []) (with_last negated pattern place)
      → IsRead names (words ++ word ∷ []) (with_last negated pattern place)
  item_goes_on word negated pattern place item =
      record {
        done = s.done;
        timed = s.timed;
        barred = s.barred;
        parts = s.parts;
        items = s.items;
        last = s.last ++ word ∷ [];
        row = s.row;
        whole = ap (λ (ws : List (List ℕ)). ws ++ word ∷ []) s.whole ∙ after_last s.done s.timed s.barred s.parts s.items s.last (word ∷ []);
        are_steps = s.are_steps;
        steps = s.steps;
        has_count = s.has_count;
        has_moment = s.has_moment;
        are_parts = s.are_parts;
        are_items = s.are_items;
        has_item = item;
      }

  not_moves : with_not d ≡ Some e → IsRead names (words ++ codes "not" ∷ []) e
  not_moves is =
      let p = not_taken names s.last d e s.has_item is in
      subst (λ (f : Draft). IsRead names (words ++ codes "not" ∷ []) f) p.1 (item_goes_on (codes "not") true d.pattern d.spot p.0)

  refused_moves : with_refused d ≡ Some e → IsRead names (words ++ codes "refused" ∷ []) e
  refused_moves is =
      let p = refused_taken names s.last d e s.has_item is in
      subst (λ (f : Draft). IsRead names (words ++ codes "refused" ∷ []) f) p.1 (item_goes_on (codes "refused") d.negated e.pattern e.spot p.0)

  plain_moves : (word : List ℕ) (place : Spot) → is_pattern_word names word ≡ true → length (longer d.pattern word) ≤ 1024 → next_spot names d.pattern d.spot word ≡ Some place
      → IsRead names (words ++ word ∷ []) (following_word d word place)
  plain_moves word place is short stands =
      item_goes_on word d.negated (longer d.pattern word) place (word_taken names s.last d e s.has_item word place is short stands)

  -- an item is complete
  and_moves : with_pattern d ≡ Some e → IsRead names (words ++ codes "&" ∷ []) e
  and_moves is =
      let p = item_spelled names s.last d e s.has_item is in
      subst (λ (f : Draft). IsRead names (words ++ codes "&" ∷ []) f) p.1 (record {
        done = s.done;
        timed = s.timed;
        barred = s.barred;
        parts = s.parts;
        items = s.items ++ (s.last ++ codes "&" ∷ []);
        last = [];
        row = s.row;
        whole = ap (λ (ws : List (List ℕ)). ws ++ codes "&" ∷ []) s.whole ∙ after_items s.done s.timed s.barred s.parts s.items s.last (codes "&" ∷ []);
        are_steps = s.are_steps;
        steps = s.steps;
        has_count = s.has_count;
        has_moment = s.has_moment;
        are_parts = s.are_parts;
        are_items = closed_more (SpellsItem names) (codes "&") s.items s.last d.items (item_of d) s.are_items p.0;
        has_item = no_item names (after_item d) refl refl refl;
      })

  -- a part is complete
  or_moves : with_part d ≡ Some e → IsRead names (words ++ codes "or" ∷ []) e
  or_moves is =
      let p = part_read names words d e s is in
      subst (λ (f : Draft). IsRead names (words ++ codes "or" ∷ []) f) p.1 (record {
        done = s.done;
        timed = s.timed;
        barred = s.barred;
        parts = s.parts ++ ((s.items ++ s.last) ++ codes "or" ∷ []);
        items = [];
        last = [];
        row = s.row;
        whole = ap (λ (ws : List (List ℕ)). ws ++ codes "or" ∷ []) s.whole ∙ after_parts s.done s.timed s.barred s.parts s.items s.last (codes "or" ∷ []);
        are_steps = s.are_steps;
        steps = s.steps;
        has_count = s.has_count;
        has_moment = s.has_moment;
        are_parts = closed_more (SpellsPart names) (codes "or") s.parts (s.items ++ s.last) d.parts (d.items ++ item_of d ∷ []) s.are_parts p.0;
        are_items = refl;
        has_item = no_item names (part_ended (after_item d)) refl refl refl;
      })

  -- a moment is complete, and `without` follows
  without_moves : with_moment d ≡ Some e → IsRead names (words ++ codes "without" ∷ []) e
  unfolding with_moment
  without_moves is =
      let t = then_parts before_without (with_part d) e is in
      let m = moment_read names words d t.0 s t.1 in
      let w = when_true (is_none d.moment) _ e (ap before_without m.1 ∙ t.2) in
      let none : s.barred ≡ [] = empty d.moment w.0 s.has_moment in
      let unbarred = ap (λ (ws : List (List ℕ)). s.done ++ (s.timed ++ (ws ++ (s.parts ++ (s.items ++ s.last))))) none in
      subst (λ (f : Draft). IsRead names (words ++ codes "without" ∷ []) f) w.1 (record {
        done = s.done;
        timed = s.timed;
        barred = (s.parts ++ (s.items ++ s.last)) ++ codes "without" ∷ [];
        parts = [];
        items = [];
        last = [];
        row = s.row;
        whole = ap (λ (ws : List (List ℕ)). ws ++ codes "without" ∷ []) (s.whole ∙ unbarred)
            ∙ after_moment s.done s.timed [] s.parts s.items s.last (codes "without" ∷ []);
        are_steps = s.are_steps;
        steps = s.steps;
        has_count = s.has_count;
        has_moment = (s.parts ++ (s.items ++ s.last), refl, m.0);
        are_parts = refl;
        are_items = refl;
        has_item = no_item names (record (part_ended (after_item d)) { moment = Some (moment_of names words d e s); parts = [] }) refl refl refl;
      }) where
        empty : (o : Option (List (List Item))) → is_none o ≡ true → HasMoment names s.barred o → s.barred ≡ []
        empty None h none = none
        empty (Some moment) h m = absurd cc

  -- a step is complete
  then_moves : with_step d ≡ Some e → IsRead names (words ++ codes "then" ∷ []) e
  then_moves is =
      let p = step_is_read names words d e s is in
      let all = steps_are_read names words d e s is in
      let last = s.timed ++ (s.barred ++ (s.parts ++ (s.items ++ s.last))) in
      subst (λ (f : Draft). IsRead names (words ++ codes "then" ∷ []) f) p.1 (record {
        done = s.done ++ (last ++ codes "then" ∷ []);
        timed = [];
        barred = [];
        parts = [];
        items = [];
        last = [];
        row = s.row ++ step_read names words d e s ∷ [];
        whole = ap (λ (ws : List (List ℕ)). ws ++ codes "then" ∷ []) s.whole ∙ after_steps s.done s.timed s.barred s.parts s.items s.last (codes "then" ∷ []);
        are_steps = closed_more (SpellsCounted names) (codes "then") s.done last s.row (step_read names words d e s) s.are_steps p.0;
        steps = ap (λ (f : Draft). f.steps) p.1 ∙ all;
        has_count = refl;
        has_moment = refl;
        are_parts = refl;
        are_items = refl;
        has_item = no_item names (with_read (part_ended (after_item d))) refl refl refl;
      })

  -- a number was read, and `times` follows
  times_moves : with_times d ≡ Some e → IsRead names (words ++ codes "times" ∷ []) e
  times_moves is =
      let item = s.has_item in
      let c = count_read names item.rest d e item.pattern is in
      let alone = c.4 in
      let timed : s.timed ≡ [] = subst (λ (n : Option ℕ). HasCount s.timed n) alone.times s.has_count in
      let barred : s.barred ≡ [] = subst (λ (m : Option (List (List Item))). HasMoment names s.barred m) alone.moment s.has_moment in
      let parts : s.parts ≡ [] = subst (λ (ps : List (List Item)). Closed (SpellsPart names) (codes "or") s.parts ps) alone.parts s.are_parts in
      let items : s.items ≡ [] = subst (λ (is : List Item). Closed (SpellsItem names) (codes "&") s.items is) alone.items s.are_items in
      let last : s.last ≡ c.1 ∷ [] = item.parts ∙ ap (λ (b : Bool). not_words b ++ item.rest) alone.negated ∙ c.2 in
      let rest : s.timed ++ (s.barred ++ (s.parts ++ (s.items ++ s.last))) ≡ c.1 ∷ [] = rw (timed, barred, parts, items) last in
      subst (λ (f : Draft). IsRead names (words ++ codes "times" ∷ []) f) c.5 (record {
        done = s.done;
        timed = c.1 ∷ codes "times" ∷ [];
        barred = [];
        parts = [];
        items = [];
        last = [];
        row = s.row;
        whole =
            ap (λ (ws : List (List ℕ)). ws ++ codes "times" ∷ []) (s.whole ∙ ap (λ (ws : List (List ℕ)). s.done ++ ws) rest)
            ∙ append_assoc s.done (c.1 ∷ []) (codes "times" ∷ []);
        are_steps = s.are_steps;
        steps = s.steps;
        has_count = (c.1, refl, c.3);
        has_moment = subst (λ (m : Option (List (List Item))). HasMoment names [] m) (sym alone.moment) refl;
        are_parts = subst (λ (ps : List (List Item)). Closed (SpellsPart names) (codes "or") [] ps) (sym alone.parts) refl;
        are_items = subst (λ (is : List Item). Closed (SpellsItem names) (codes "&") [] is) (sym alone.items) refl;
        has_item = no_item names (after_times d c.0) alone.negated refl refl;
      })

  at_word : (word own : List ℕ) → word ≡ own → IsRead names (words ++ own ∷ []) e → IsRead names (words ++ word ∷ []) e
  at_word word own is read = subst (λ (w : List ℕ). IsRead names (words ++ w ∷ []) e) (sym is) read

  moved : (word : List ℕ) → Taken names d word e → IsRead names (words ++ word ∷ []) e
  moved word (and is h) = at_word word (codes "&") is (and_moves h)
  moved word (or is h) = at_word word (codes "or") is (or_moves h)
  moved word (negation is h) = at_word word (codes "not") is (not_moves h)
  moved word (refusal is h) = at_word word (codes "refused") is (refused_moves h)
  moved word (without is h) = at_word word (codes "without") is (without_moves h)
  moved word (next is h) = at_word word (codes "then") is (then_moves h)
  moved word (count is h) = at_word word (codes "times") is (times_moves h)
  moved word (plain place is short stands same) = subst (λ (f : Draft). IsRead names (words ++ word ∷ []) f) (sym same) (plain_moves word place is short stands)

  pub moves : (word : List ℕ) → after_word names d word ≡ Ok e → IsRead names (words ++ word ∷ []) e
  moves word is = moved word (taken names d e word is)
