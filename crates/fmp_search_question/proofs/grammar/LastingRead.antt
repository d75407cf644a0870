-- What is read of what stays for ever is asked.
use Rattle.std.proofs.Common.{◌≡◌, ℕ, ◌≤◌, eqb, inl, inr, Bool, true, false, cond, leb, not, ◌&&◌, List, [], ◌∷◌, ◌++◌, length, Some, Result, Ok, Err, refl, sym, ap, subst, ◌∙◌, append_assoc, append-nil, arith}
use Rattle.std.specs.Prelude.{codes}
use Rattle.std.specs.List.{list_all}
use Rattle.std.specs.Str.{bytes_eq}
use Rattle.std.proofs.lemmas.Bool.{and_parts, leb-true}
use Rattle.fmp_bytes.specs.Bytes.{pieces_of, space}
use Rattle.fmp_bytes.proofs.Cutting.{apart-pieces_of, join-pieces_of}
use Rattle.fmp_bytes.proofs.Words.{is_word}
use Rattle.fmp_names.specs.Names.{NameLists}
use Rattle.fmp_search_pattern.specs.Items.{Item}
use Rattle.fmp_search_pattern.specs.Lasting.{Lasting}
use Rattle.fmp_search_pattern.specs.Words.{is_printed}
use Rattle.fmp_search_question.specs.declared.fault.QuestionFault.{QuestionFault}
use Rattle.fmp_search_question.specs.declared.fault.QuestionFault.TheVariants.{TooLong, BadForm}
use Rattle.fmp_search_question.specs.declared.stage.Stage.{Stage}
use Rattle.fmp_search_question.specs.declared.stage.Stage.TheVariants as stage
use Rattle.fmp_search_question.specs.Reading.{Draft, nothing_read, with_pattern}
use Rattle.fmp_search_question.specs.Waiting.{comma, waits_but}
use Rattle.fmp_search_question.specs.Lasting.{Parts, after_word, are_tasks, begins_so, ended, in_stage, is_fresh, lasting_in, may_end, no_parts, with_part, written_in}
use Rattle.fmp_search_question.specs.Resolved.{resolved_lasting}
use Rattle.fmp_search_question.specs.WordByWord.{after_words, result_then}
use Rattle.fmp_search_question.specs.Grammar.Rows.{SpellsRow}
use Rattle.fmp_search_question.specs.Grammar.Grammar.{SpellsItem, SpellsPart}
use Rattle.fmp_search_question.specs.Grammar.ForEver.{AsksForEver, AsksForEverWords, SpellsLasting, WritesForEver, is_end}
use Rattle.fmp_search_question.proofs.grammar.Begun.{after_item, empty_begun, item_of, item_spelled, not_words}
use Rattle.fmp_search_question.proofs.grammar.Closed.{Closed, closed_more, closed_row}
use Rattle.fmp_search_question.proofs.grammar.Led.{led_keeps, led_words}
use Rattle.fmp_search_question.proofs.grammar.LastingTaken.{IsMomentRead, TakenIn, all_wait, before_end, choose_parts, moment_moves, nothing_of_moment, of_moment, staged, taken_in}
use Rattle.fmp_search_question.proofs.grammar.Patterns.{not_parts, some_length}

-- the first word is not `deadlock`
record IsOpened (words : List (List ℕ)) : Type 0 where
  first : List ℕ
  others : List (List ℕ)
  are : words ≡ first ∷ others
  other : bytes_eq first (codes "deadlock") ≡ false

opened_more : (words more : List (List ℕ)) → IsOpened words → IsOpened (words ++ more)
opened_more words more o = record { first = o.first; others = o.others ++ more; are = ap (λ (ws : List (List ℕ)). ws ++ more) o.are; other = o.other }

opened_so : (words : List (List ℕ)) → IsOpened words → begins_so words ≡ false
opened_so words o = ap begins_so o.are ∙ o.other

-- which words were read, with what was kept of them
data IsSoFar (names : NameLists) (words : List (List ℕ)) (d : Parts) : Type 0 where
  at_start : words ≡ [] → d ≡ no_parts → IsSoFar names words d
  in_moment : (done rest : List (List ℕ)) → words ≡ done ++ rest → Closed (SpellsLasting names) (codes "or") done d.lasting → IsMomentRead names rest d.draft
      → IsOpened words → d.stage ≡ stage.Words → IsSoFar names words d
  at_for : (done front : List (List ℕ)) → words ≡ done ++ (front ++ codes "for" ∷ []) → Closed (SpellsLasting names) (codes "or") done d.lasting
      → SpellsPart names front d.draft.items → list_all (λ w. not (is_end w)) front ≡ true → record d.draft { items = [] } ≡ nothing_read → IsOpened words → d.stage ≡ stage.For → IsSoFar names words d
  at_ever : (done last : List (List ℕ)) (lasting : List Lasting) (l : Lasting) → words ≡ done ++ last → Closed (SpellsLasting names) (codes "or") done lasting → SpellsLasting names last l
      → d.lasting ≡ lasting ++ l ∷ [] → d.draft ≡ nothing_read → IsOpened words → d.stage ≡ stage.Ever → IsSoFar names words d
  at_deadlock : words ≡ codes "deadlock" ∷ [] → d.lasting ≡ waits_but names [] → d.stage ≡ stage.Deadlock → IsSoFar names words d
  at_but : words ≡ codes "deadlock" ∷ codes "but" ∷ [] → d.stage ≡ stage.But → IsSoFar names words d
  at_named : (list : List ℕ) → words ≡ codes "deadlock" ∷ codes "but" ∷ list ∷ [] → is_printed list ≡ true → are_tasks names list ≡ true
      → d.lasting ≡ waits_but names (pieces_of comma list) → 1 ≤ length d.lasting → d.stage ≡ stage.Named → IsSoFar names words d

-- ---- where nothing was read

none_long : {A : Type 0} (xs : List A) → eqb (length xs) 0 ≡ true → xs ≡ []
none_long [] is = refl
none_long (x ∷ xs) is = let bad = sym (some_length x xs) ∙ is in absurd cc

record FreshParts (d : Parts) : Type 0 where
  unnegated : d.draft.negated ≡ false
  items : d.draft.items ≡ []
  pattern : eqb (length d.draft.pattern) 0 ≡ true

fresh_parts : (d : Parts) → is_fresh d ≡ true → FreshParts d
fresh_parts d is =
    let a = and_parts (not d.draft.negated && eqb (length d.draft.items) 0) (eqb (length d.draft.pattern) 0) is in
    let b = and_parts (not d.draft.negated) (eqb (length d.draft.items) 0) a.0 in
    record { unnegated = not_parts d.draft.negated b.0; items = none_long d.draft.items b.1; pattern = a.1 }

some_left : {A : Type 0} (xs : List A) → eqb (length xs) 0 ≡ false → 1 ≤ length xs
some_left [] is = absurd cc
some_left (x ∷ xs) is = omega arith

closed_none : {A : Type 0} (Spells : List (List ℕ) → A → Type 0) (between : List ℕ) (words : List (List ℕ)) (row : List A) → row ≡ [] → Closed Spells between words row → words ≡ []
closed_none Spells between words [] none c = c
closed_none Spells between words (x ∷ row) none c = absurd cc

rest_none : (names : NameLists) (rest : List (List ℕ)) (d : Draft) → IsMomentRead names rest d → d.negated ≡ false → d.items ≡ [] → eqb (length d.pattern) 0 ≡ true → rest ≡ []
rest_none names rest d s unnegated items pattern =
    let none = closed_none (SpellsItem names) (codes "&") s.items d.items items s.are_items in
    let begun = empty_begun names s.has_item.rest d.pattern d.spot s.has_item.pattern pattern in
    let last : s.last ≡ [] = s.has_item.parts ∙ ap (λ (b : Bool). not_words b ++ s.has_item.rest) unnegated ∙ begun in
    s.whole ∙ ap (λ (ws : List (List ℕ)). ws ++ s.last) none ∙ last

-- ---- one word more

module _ (names : NameLists) (words : List (List ℕ)) (d e : Parts) (word : List ℕ) where
  abbrev So : Parts → Type 0
  So f = IsSoFar names (words ++ word ∷ []) f

  -- at the beginning
  from_start : words ≡ [] → TakenIn names no_parts word e → So e
  unfolding with_pattern
  from_start none (before_end is_for f ends same) = absurd cc
  from_start none (all_wait is_deadlock fresh empty same) =
      let are : words ++ word ∷ [] ≡ codes "deadlock" ∷ [] = ap (λ (ws : List (List ℕ)). ws ++ word ∷ []) none ∙ ap (λ (w : List ℕ). w ∷ []) is_deadlock in
      subst So same (at_deadlock are refl refl)
  from_start none (of_moment inner free f is same) =
      let are : words ++ word ∷ [] ≡ word ∷ [] = ap (λ (ws : List (List ℕ)). ws ++ word ∷ []) none in
      let moment = moment_moves names [] nothing_read f word inner (nothing_of_moment names) is in
      subst So same (in_moment [] (word ∷ []) are refl moment (record { first = word; others = []; are = are; other = not_first (bytes_eq word (codes "deadlock")) free }) refl)
    where
      not_first : (b : Bool) → ((b && true) && true) ≡ false → b ≡ false
      not_first true is = is
      not_first false is = refl

  -- in a moment
  module _ (done rest : List (List ℕ)) (are : words ≡ done ++ rest) (closed : Closed (SpellsLasting names) (codes "or") done d.lasting)
      (moment : IsMomentRead names rest d.draft) (opened : IsOpened words) (at : d.stage ≡ stage.Words) where
    longer : words ++ word ∷ [] ≡ done ++ (rest ++ word ∷ [])
    longer = ap (λ (ws : List (List ℕ)). ws ++ word ∷ []) are ∙ append_assoc done rest (word ∷ [])

    -- a part of one item more than the complete ones
    part_done : (f : Draft) → with_pattern d.draft ≡ Some f → SpellsPart names rest (d.draft.items ++ item_of d.draft ∷ []) × (after_item d.draft ≡ f)
    part_done f ends =
        let p = item_spelled names moment.last d.draft f moment.has_item ends in
        let row = closed_row (SpellsItem names) (codes "&") moment.items moment.last d.draft.items (item_of d.draft) moment.are_items p.0 in
        (subst (λ (ws : List (List ℕ)). SpellsPart names ws (d.draft.items ++ item_of d.draft ∷ [])) (sym moment.whole) row, p.1)

    from_moment : TakenIn names d word e → So e
    from_moment (before_end is_for f ends same) =
        let p = part_done f ends in
        subst So (ap (λ (x : Draft). record d { draft = x; stage = stage.For }) p.1 ∙ same)
        (at_for done rest (longer ∙ ap (λ (w : List ℕ). done ++ (rest ++ w ∷ [])) is_for) closed p.0 moment.inner moment.bare (opened_more words (word ∷ []) opened) refl)
    from_moment (all_wait is_deadlock fresh empty same) =
        let f = fresh_parts d fresh in
        let none = rest_none names rest d.draft moment f.unnegated f.items f.pattern in
        let before = closed_none (SpellsLasting names) (codes "or") done d.lasting (none_long d.lasting empty) closed in
        let nothing : words ≡ [] = are ∙ ap (λ (ws : List (List ℕ)). ws ++ rest) before ∙ none in
        let both : opened.first ∷ opened.others ≡ [] = sym opened.are ∙ nothing in
        absurd cc
    from_moment (of_moment inner free f is same) =
        let next = moment_moves names rest d.draft f word inner moment is in
        subst So same (in_moment done (rest ++ word ∷ []) longer closed next (opened_more words (word ∷ []) opened) at)

  same_so : (f : Parts) → ◌≡◌ {A = Result Parts QuestionFault} (Ok f) (Ok e) → f ≡ e
  same_so f is = cc

  -- after a moment
  from_for : (done front : List (List ℕ)) → words ≡ done ++ (front ++ codes "for" ∷ []) → Closed (SpellsLasting names) (codes "or") done d.lasting
      → SpellsPart names front d.draft.items → list_all (λ w. not (is_end w)) front ≡ true → record d.draft { items = [] } ≡ nothing_read
      → IsOpened words → in_stage names d word stage.For ≡ Ok e → So e
  from_for done front are closed part inner bare opened is = elim (choose_parts e (bytes_eq word (codes "ever")) _ _ is) [
    | inl p ↦
        let is_ever = is_word word (codes "ever") p.0 in
        let all : words ++ word ∷ [] ≡ done ++ (front ++ (codes "for" ∷ codes "ever" ∷ [])) =
        ap (λ (ws : List (List ℕ)). ws ++ word ∷ []) are ∙ append_assoc done (front ++ codes "for" ∷ []) (word ∷ [])
        ∙ ap (λ (ws : List (List ℕ)). done ++ ws) (append_assoc front (codes "for" ∷ []) (word ∷ [])) ∙ ap (λ (w : List ℕ). done ++ (front ++ (codes "for" ∷ w ∷ []))) is_ever in
        let l : Lasting = d.draft.items ∷ [] in
        let spelled : SpellsLasting names (front ++ (codes "for" ∷ codes "ever" ∷ [])) l = record { front = front; part = d.draft.items; parts = refl; spelled = part; inner = inner; is = refl } in
        subst So (same_so (with_part d) p.1)
        (at_ever done (front ++ (codes "for" ∷ codes "ever" ∷ [])) d.lasting l all closed spelled refl bare (opened_more words (word ∷ []) opened) refl)
    | inr other ↦ let bad = other.1 in absurd cc
  ]

  from_ever : (done last : List (List ℕ)) (lasting : List Lasting) (l : Lasting) → words ≡ done ++ last → Closed (SpellsLasting names) (codes "or") done lasting → SpellsLasting names last l
      → d.lasting ≡ lasting ++ l ∷ [] → d.draft ≡ nothing_read → IsOpened words → in_stage names d word stage.Ever ≡ Ok e → So e
  from_ever done last lasting l are closed spelled rest draft opened is = elim (choose_parts e (bytes_eq word (codes "or")) _ _ is) [
    | inl p ↦
        let is_or = is_word word (codes "or") p.0 in
        let whole = done ++ (last ++ codes "or" ∷ []) in
        let all : words ++ word ∷ [] ≡ whole ++ [] =
        ap (λ (ws : List (List ℕ)). ws ++ word ∷ []) are ∙ append_assoc done last (word ∷ []) ∙ ap (λ (w : List ℕ). done ++ (last ++ w ∷ [])) is_or
        ∙ sym (append-nil whole) in
        let more = closed_more (SpellsLasting names) (codes "or") done last lasting l closed spelled in
        subst So (same_so (record d { stage = stage.Words }) p.1)
        (in_moment whole [] all (subst (λ (ls : List Lasting). Closed (SpellsLasting names) (codes "or") whole ls) (sym rest) more)
        (subst (λ (x : Draft). IsMomentRead names [] x) (sym draft) (nothing_of_moment names)) (opened_more words (word ∷ []) opened) refl)
    | inr other ↦ let bad = other.1 in absurd cc
  ]

  from_deadlock : words ≡ codes "deadlock" ∷ [] → in_stage names d word stage.Deadlock ≡ Ok e → So e
  from_deadlock are is = elim (choose_parts e (bytes_eq word (codes "but")) _ _ is) [
    | inl p ↦
        let is_but = is_word word (codes "but") p.0 in
        subst So (same_so (record d { stage = stage.But }) p.1)
        (at_but (ap (λ (ws : List (List ℕ)). ws ++ word ∷ []) are ∙ ap (λ (w : List ℕ). codes "deadlock" ∷ w ∷ []) is_but) refl)
    | inr other ↦ let bad = other.1 in absurd cc
  ]

  from_but : words ≡ codes "deadlock" ∷ codes "but" ∷ [] → is_printed word ≡ true → in_stage names d word stage.But ≡ Ok e → So e
  from_but are printed is = elim (choose_parts e (are_tasks names word) _ _ is) [
    | inl p ↦ elim (choose_parts e (eqb (length (waits_but names (pieces_of comma word))) 0) _ _ p.1) [
      | inl none ↦ let bad = none.1 in absurd cc
      | inr some ↦
          subst So (same_so (record d { lasting = waits_but names (pieces_of comma word); stage = stage.Named }) some.1)
          (at_named word (ap (λ (ws : List (List ℕ)). ws ++ word ∷ []) are) printed p.0 refl (some_left (waits_but names (pieces_of comma word)) some.0) refl)
    ]
    | inr other ↦ let bad = other.1 in absurd cc
  ]

  moves : IsSoFar names words d → after_word names d word ≡ Ok e → So e
  moves so is = go so (staged names d e word is)
    where
      go : IsSoFar names words d → (is_printed word ≡ true) × (in_stage names d word d.stage ≡ Ok e) → So e
      go (at_start none start) took =
          let first : in_stage names no_parts word stage.Words ≡ Ok e = subst (λ (x : Parts). in_stage names x word x.stage ≡ Ok e) start took.1 in
          from_start none (taken_in names no_parts e word first)
      go (in_moment done rest are closed moment opened at) took =
          from_moment done rest are closed moment opened at (taken_in names d e word (subst (λ (s : Stage). in_stage names d word s ≡ Ok e) at took.1))
      go (at_for done front are closed part inner bare opened at) took =
          from_for done front are closed part inner bare opened (subst (λ (s : Stage). in_stage names d word s ≡ Ok e) at took.1)
      go (at_ever done last lasting l are closed spelled rest draft opened at) took =
          from_ever done last lasting l are closed spelled rest draft opened (subst (λ (s : Stage). in_stage names d word s ≡ Ok e) at took.1)
      go (at_deadlock are lasting at) took = from_deadlock are (subst (λ (s : Stage). in_stage names d word s ≡ Ok e) at took.1)
      go (at_but are at) took = from_but are took.0 (subst (λ (s : Stage). in_stage names d word s ≡ Ok e) at took.1)
      go (at_named list are printed tasks lasting left at) took = let bad = subst (λ (s : Stage). in_stage names d word s ≡ Ok e) at took.1 in absurd cc

-- ---- all words

not_there : (s t : Stage) → s ≡ t → may_end t ≡ false → may_end s ≡ true → ⊥
not_there s t is no_end may = let bad = sym no_end ∙ ap may_end (sym is) ∙ may in absurd cc

-- after the last word the question is complete
words_ask : (names : NameLists) (words : List (List ℕ)) (d : Parts) → IsSoFar names words d → may_end d.stage ≡ true → AsksForEverWords names words d.lasting
words_ask names words d (at_start none start) may = absurd (not_there d.stage stage.Words (ap (λ (x : Parts). x.stage) start) refl may)
words_ask names words d (in_moment done rest are closed moment opened at) may = absurd (not_there d.stage stage.Words at refl may)
words_ask names words d (at_for done front are closed part inner bare opened at) may = absurd (not_there d.stage stage.For at refl may)
words_ask names words d (at_ever done last lasting l are closed spelled rest draft opened at) may =
    let row = closed_row (SpellsLasting names) (codes "or") done last lasting l closed spelled in
    inr (
      opened_so words opened,
      subst (λ (ws : List (List ℕ)). SpellsRow (SpellsLasting names) (codes "or") ws d.lasting) (sym are)
          (subst (λ (ls : List Lasting). SpellsRow (SpellsLasting names) (codes "or") (done ++ last) ls) (sym rest) row),
    )
words_ask names words d (at_deadlock are lasting at) may = inl (inl (are, lasting))
words_ask names words d (at_but are at) may = absurd (not_there d.stage stage.But at refl may)
words_ask names words d (at_named list are printed tasks lasting left at) may = inl (inr (list, are, printed, tasks, lasting, left))

-- what was complete at the end
record IsEnd (d : Parts) (lasting : List Lasting) : Type 0 where
  may : may_end d.stage ≡ true
  is : d.lasting ≡ lasting
  few : length lasting ≤ 64

module _ (bytes : ℕ) (lasting : List Lasting) where
  few_end : (d : Parts) (test : Bool) → leb (length d.lasting) 64 ≡ test → may_end d.stage ≡ true → cond {A = Result (List Lasting) (QuestionFault × ℕ)} test (Ok d.lasting) (Err (TooLong, bytes)) ≡ Ok lasting → IsEnd d lasting
  few_end d true few may is =
      let same : d.lasting ≡ lasting = cc in
      record { may = may; is = same; few = subst (λ (ls : List Lasting). length ls ≤ 64) same (leb-true (length d.lasting) 64 few) }
  few_end d false few may is = absurd cc

  end_parts : (d : Parts) (test : Bool) → may_end d.stage ≡ test
      → cond {A = Result (List Lasting) (QuestionFault × ℕ)} test (cond (leb (length d.lasting) 64) (Ok d.lasting) (Err (TooLong, bytes))) (Err (BadForm, bytes)) ≡ Ok lasting → IsEnd d lasting
  end_parts d true may is = few_end d (leb (length d.lasting) 64) refl may is
  end_parts d false may is = absurd cc

  read_end : (r : Result Parts (QuestionFault × ℕ)) → result_then (ended bytes) r ≡ Ok lasting → (d : Parts) × (r ≡ Ok d) × IsEnd d lasting
  read_end (Ok d) is = (d, refl, end_parts d (may_end d.stage) refl is)
  read_end (Err fault) is = absurd cc

read_is_written : (names : NameLists) (text : List ℕ) (lasting : List Lasting) → written_in names text ≡ Ok lasting → WritesForEver names text lasting
unfolding written_in
read_is_written names text lasting is =
    let p = read_end (length text) lasting (after_words (after_word names) (length text) no_parts (pieces_of space text)) is in
    let end = p.2 in
    let led_so = led_words (after_word names) (length text) no_parts p.0 (pieces_of space text) p.1 in
    let all = led_keeps (after_word names) (IsSoFar names) (moves names) [] (pieces_of space text) no_parts p.0 (at_start refl refl) led_so in
    record {
      words = pieces_of space text;
      parts = sym (join-pieces_of space text);
      cut = apart-pieces_of space text;
      asked = subst (λ (ls : List Lasting). AsksForEverWords names (pieces_of space text) ls) end.is (words_ask names (pieces_of space text) p.0 all end.may);
      few = end.few;
    }

pub lasting_is_asked : (names : NameLists) (text : List ℕ) (lasting : List Lasting) → lasting_in names text ≡ Ok lasting → AsksForEver names text lasting
unfolding lasting_in
lasting_is_asked names text lasting is = go (written_in names text) refl is
  where
    go : (r : Result (List Lasting) (QuestionFault × ℕ)) → written_in names text ≡ r → result_then (λ parts. Ok (resolved_lasting names parts)) r ≡ Ok lasting
        → AsksForEver names text lasting
    go (Ok written) there on = let same : resolved_lasting names written ≡ lasting = cc in (written, read_is_written names text written there, sym same)
    go (Err fault) there on = absurd cc
