-- Classes: what is read is spelled, and what is spelled is read.
use Rattle.std.proofs.Common.{◌≡◌, ℕ, ◌-◌, ◌≤◌, ◌<◌, Bool, true, false, leb, eqb, List, [], ◌∷◌, map, Ok, refl, sym, ap, ◌∙◌, arith}
use Rattle.std.specs.Prelude.{slice_set, replicate}
use Rattle.std.specs.List.{list_all, list_any, AllByRecursion}
use Rattle.std.specs.Option.{ok_or}
use Rattle.std.proofs.lemmas.Bool.{and_parts, and_from, leb-true}
use Rattle.std.proofs.lemmas.Option.{cond_some}
use Rattle.fmp_bytes.proofs.Parsed.{ok_or_parts, tested_ok, bind_parts}
use Rattle.fmp_codes.specs.Numbers.{as_proc}
use Rattle.fmp_codes.specs.declared.numbers.Proc.{Proc}
use Rattle.fmp_config_statements.specs.declared.fault.ConfigKind.TheVariants.{BadClass}
use Rattle.fmp_config_statements.specs.Faults.{fault_in}
use Rattle.fmp_config_statements.specs.Folds.{each}
use Rattle.fmp_config_statements.specs.Pieces.{Pieces}
use Rattle.fmp_config_statements.specs.Words.{Word}
use Rattle.fmp_config.specs.Numbers.{value_at, numbered_processor, processor_at, number_step, member_step, all_numbers, members_in, sound_class, class_of}
use Rattle.fmp_setup.specs.declared.setup.Class.{Class}
use Rattle.fmp_setup.specs.Setup.{Setup}
use Rattle.fmp_setup.specs.Valid.{is_class_of}
use Rattle.fmp_law_config.specs.Stages.{SpellsNumber, SpellNumbers, is_processor}
use Rattle.fmp_law_config.specs.Meaning.{members_of}
use Rattle.fmp_law_config.proofs.Results.{ok_is, each-cons, each_parts, each-none}
use Rattle.fmp_law_config.proofs.Numerals.{AreNames, is_signed, most_numeral, value_at-spelled, value_at_is_spelled}
use Rattle.fmp_law_config.proofs.Members.{marked, same_place, marked-members, class-begins}

module _ (c : Setup) (few : c.processors ≤ 8) (named : AreNames c.names) where
  small : (n : ℕ) → is_processor c.processors n ≡ true → n < most_numeral
  small n is = let high = leb-true n c.processors (and_parts (leb 1 n) (leb n c.processors) is).1 in omega (arith, high, few)

  -- ---- one processor

  processor_at-spelled : (line : ℕ) (word : Word) (n : ℕ) → SpellsNumber c.names word.text n → is_processor c.processors n ≡ true → processor_at c line word ≡ Ok (as_proc n)
  unfolding processor_at numbered_processor
  processor_at-spelled line word n s is =
      let read = value_at-spelled c.names word n s in
      let parts = and_parts (leb 1 n) (leb n c.processors) is in
      let a = parts.0 in
      let b = parts.1 in
      rw read (rw (a, b) refl)

  pub processor_at_is_spelled : (line : ℕ) (word : Word) (p : Proc) → processor_at c line word ≡ Ok p → is_signed word.text ≡ false
      → (n : ℕ) × SpellsNumber c.names word.text n × (is_processor c.processors n ≡ true) × (as_proc n ≡ p)
  unfolding processor_at numbered_processor
  processor_at_is_spelled line word p e unsigned =
      let q = bind_parts (value_at c.names word) (λ n. ok_or (numbered_processor c.processors n) (fault_in BadClass line word)) p e in
      let t = cond_some (is_processor c.processors q.0) (as_proc q.0) p (ok_or_parts (numbered_processor c.processors q.0) (fault_in BadClass line word) p q.2) in
      (q.0, value_at_is_spelled c.names named word q.0 q.1 unsigned (small q.0 t.0), t.0, t.1)

  -- ---- a list of them

  members-spelled : (line : ℕ) (words : List Word) (numbers : List ℕ) (members : List Bool) → SpellNumbers c.names (map (λ w. w.text) words) numbers → list_all (is_processor c.processors) numbers ≡ true
      → each (member_step c line) members words ≡ Ok (marked members numbers)
  unfolding member_step
  members-spelled line [] [] members s all = each-none (member_step c line) members
  members-spelled line [] (n ∷ numbers) members s all = absurd s
  members-spelled line (w ∷ words) [] members s all = absurd s
  members-spelled line (w ∷ words) (n ∷ numbers) members s all =
      let each_is = and_parts (is_processor c.processors n) (list_all (is_processor c.processors) numbers) all in
      let here = processor_at-spelled line w n s.0 each_is.0 in
      let step : member_step c line members w ≡ Ok (slice_set members ((as_proc n).number - 1) true) = rw here refl in
      let place = ap (λ (i : ℕ). Ok (slice_set members i true)) (same_place c.processors n few each_is.0) in
      each-cons (member_step c line) members (slice_set members (n - 1) true) w words (step ∙ place) ∙ members-spelled line words numbers (slice_set members (n - 1) true) s.1 each_is.1

  numbers-spelled : (words : List Word) (numbers : List ℕ) → SpellNumbers c.names (map (λ w. w.text) words) numbers → each (number_step c) tt words ≡ Ok tt
  unfolding number_step
  numbers-spelled [] [] s = each-none (number_step c) tt
  numbers-spelled [] (n ∷ numbers) s = absurd s
  numbers-spelled (w ∷ words) [] s = absurd s
  numbers-spelled (w ∷ words) (n ∷ numbers) s =
      let here = value_at-spelled c.names w n s.0 in
      let step : number_step c tt w ≡ Ok tt = rw here refl in
      each-cons (number_step c) tt tt w words step ∙ numbers-spelled words numbers s.1

  abbrev pub Spelled : List (List ℕ) → List Bool → List Bool → Type 0
  Spelled words before after = (numbers : List ℕ) × SpellNumbers c.names words numbers × (list_all (is_processor c.processors) numbers ≡ true) × (marked before numbers ≡ after)

  members_are_spelled : (line : ℕ) (words : List Word) (before after : List Bool) → each (member_step c line) before words ≡ Ok after → AllByRecursion (λ w. is_signed w ≡ false) (map (λ w. w.text) words)
      → Spelled (map (λ w. w.text) words) before after
  unfolding member_step
  members_are_spelled line [] before after e unsigned = ([], tt, refl, ok_is before after (sym (each-none (member_step c line) before) ∙ e))
  members_are_spelled line (w ∷ words) before after e unsigned =
      let p = each_parts (member_step c line) before after w words e in
      let q = bind_parts (processor_at c line w) (λ p. Ok (slice_set before (p.number - 1) true)) p.0 p.1 in
      let n = processor_at_is_spelled line w q.0 q.1 unsigned.0 in
      let place = ap (λ (p : Proc). slice_set before (p.number - 1) true) n.3 in
      let same : slice_set before (n.0 - 1) true ≡ p.0 = ap (λ (i : ℕ). slice_set before i true) (sym (same_place c.processors n.0 few n.2)) ∙ place ∙ ok_is (slice_set before (q.0.number - 1) true) p.0 q.2 in
      let rest = members_are_spelled line words (slice_set before (n.0 - 1) true) after (ap (λ (ms : List Bool). each (member_step c line) ms words) same ∙ p.2) unsigned.1 in
      (n.0 ∷ rest.0, (n.1, rest.1), and_from (is_processor c.processors n.0) (list_all (is_processor c.processors) rest.0) n.2 rest.2, rest.3)

  -- ---- the class of a definition

  abbrev pub class : ℕ → List ℕ → Class
  class initial members = record { initial = as_proc initial; members = members_of members }

  pub class_of-spelled : (line : ℕ) (pieces : Pieces) (initial : ℕ) (members : List ℕ) → SpellsNumber c.names pieces.first.text initial → SpellNumbers c.names (map (λ w. w.text) pieces.series) members
      → is_processor c.processors initial ≡ true → list_all (is_processor c.processors) members ≡ true → list_any (λ n. eqb n initial) members ≡ true → class_of c line pieces ≡ Ok (class initial members)
  unfolding class_of sound_class all_numbers members_in
  class_of-spelled line pieces initial members first series initial_is members_are begins =
      let number = value_at-spelled c.names pieces.first initial first in
      let unit = numbers-spelled pieces.series members series in
      let processor = processor_at-spelled line pieces.first initial first initial_is in
      let listed = members-spelled line pieces.series members (replicate 8 false) series members_are ∙ ap (λ (ms : List Bool). Ok ms) (marked-members c.processors members few members_are) in
      let sound : is_class_of c.processors (class initial members) ≡ true = class-begins c.processors initial members few initial_is members_are ∙ begins in
      rw (number, unit, processor, listed, sound) refl

  pub record DefinedBy (pieces : Pieces) (found : Class) : Type 0 where
    pub initial : ℕ
    pub members : List ℕ
    pub initial_is : SpellsNumber c.names pieces.first.text initial
    pub members_are : SpellNumbers c.names (map (λ w. w.text) pieces.series) members
    pub initial_within : is_processor c.processors initial ≡ true
    pub members_within : list_all (is_processor c.processors) members ≡ true
    pub begins_within : list_any (λ n. eqb n initial) members ≡ true
    pub is : class initial members ≡ found

  pub class_of_is_spelled : (line : ℕ) (pieces : Pieces) (found : Class) → class_of c line pieces ≡ Ok found → is_signed pieces.first.text ≡ false → AllByRecursion (λ w. is_signed w ≡ false) (map (λ w. w.text) pieces.series)
      → DefinedBy pieces found
  unfolding class_of sound_class all_numbers members_in
  class_of_is_spelled line pieces found e unsigned all_unsigned =
      let a = bind_parts (value_at c.names pieces.first) _ found e in
      let b = bind_parts (each (number_step c) tt pieces.series) _ found a.2 in
      let i = bind_parts (processor_at c line pieces.first) _ found b.2 in
      let m = bind_parts (each (member_step c line) (replicate 8 false) pieces.series) _ found i.2 in
      let t = tested_ok (is_class_of c.processors (record { initial = i.0; members = m.0 })) (Ok (record { initial = i.0; members = m.0 })) (fault_in BadClass line pieces.first) found m.2 in
      let n = processor_at_is_spelled line pieces.first i.0 i.1 unsigned in
      let l = members_are_spelled line pieces.series (replicate 8 false) m.0 m.1 all_unsigned in
      let listed : members_of l.0 ≡ m.0 = sym (marked-members c.processors l.0 few l.2) ∙ l.3 in
      let initial_is = n.3 in
      let same : class n.0 l.0 ≡ record { initial = i.0; members = m.0 } = rw (initial_is, listed) refl in
      record {
        initial = n.0;
        members = l.0;
        initial_is = n.1;
        members_are = l.1;
        initial_within = n.2;
        members_within = l.2;
        begins_within = sym (class-begins c.processors n.0 l.0 few n.2 l.2) ∙ ap (is_class_of c.processors) same ∙ t.0;
        is = same ∙ ok_is (record { initial = i.0; members = m.0 }) found t.1;
      }
