-- A whole statement is at fault exactly where the table has a fault for its words.
use Rattle.std.proofs.Common.{◌≡◌, ℕ, ◌-◌, ◌^◌, ◌⊎◌, inl, inr, eqb, leb, ltb, find, Bool, true, false, cond, List, [], ◌∷◌, length, map, Option, Some, None, is_some, option_map, unwrap_or, Result, Ok, Err, refl, sym, ap, subst, ◌∙◌, arith}
use Rattle.std.specs.Prelude.{replicate}
use Rattle.std.specs.Option.{ok_or, option_map_or, option_or}
use Rattle.std.specs.Str.{bytes_eq}
use Rattle.fmp_codes.specs.Numbers.{as_proc}
use Rattle.fmp_setup.specs.declared.setup.Timer.TheVariants as timer
use Rattle.std.proofs.lemmas.Bool.{and_parts, eqb-false, false_from_ne_true, false≢true, leb-true, ltb-false, ltb-true}
use Rattle.fmp_bytes.specs.Numerals.{number_of}
use Rattle.fmp_bytes.specs.Results.{◌>>=◌}
use Rattle.fmp_bytes.specs.declared.numerals.Number.{Number}
use Rattle.fmp_bytes.proofs.Parsed.{and_then_parts, bind_parts, ok_or_parts, some_is, tested_ok}
use Rattle.fmp_bytes.proofs.Spelled.{number_of-spelled}
use Rattle.fmp_codes.specs.declared.kinds.NameKind.TheVariants.{Object}
use Rattle.fmp_codes.specs.declared.kinds.ObjectKind.{ObjectKind}
use Rattle.fmp_names.specs.Names.{NameLists, has_room, number_defined}
use Rattle.fmp_config.specs.declared.draft.OpenClass.{OpenClass}
use Rattle.fmp_config.specs.declared.numbers.Numbers.{Numbers}
use Rattle.fmp_config.specs.Drafts.{Draft}
use Rattle.fmp_config.specs.Judging.{begin_class, choose_timer, count_processors, define_class, judged, set_limits, timer_of}
use Rattle.fmp_config.specs.Numbers.{all_numbers, class_of, is_within, member_step, members_in, number_at, number_step, number_within, numbered_processor, numbers_of, processor_at, sound_class, value_at, value_of}
use Rattle.fmp_config.specs.Objects.{counts_fit, create, create_in, fields_in, fitting_counts, is_handled, new_name, served}
use Rattle.fmp_config.proofs.Defined.{new_and_room}
use Rattle.fmp_config_statements.specs.declared.attributes.Attribute.{Attribute}
use Rattle.fmp_config_statements.specs.declared.attributes.Attributes.{Attributes}
use Rattle.fmp_config_statements.specs.declared.fault.ConfigKind.{ConfigKind}
use Rattle.fmp_config_statements.specs.declared.fault.ConfigKind.TheVariants.{BadAttribute, BadClass, ForeignHandler, NameTaken, OutOfRange, OutsideClass, TooMany, UnknownClass}
use Rattle.fmp_config_statements.specs.declared.table.Range.{Range}
use Rattle.fmp_config_statements.specs.declared.table.StatementName.{StatementName}
use Rattle.fmp_config_statements.specs.declared.table.StatementName.TheVariants as statements
use Rattle.fmp_config_statements.specs.Attributes.{attribute_in, attribute_step, attributes_in, no_attributes, text_of}
use Rattle.fmp_config_statements.specs.Faults.{Fault, fault_at, fault_in, fault_of_line}
use Rattle.fmp_config_statements.specs.Folds.{each}
use Rattle.fmp_config_statements.specs.Forms.{Form}
use Rattle.fmp_config_statements.specs.Numbers.{numeral}
use Rattle.fmp_config_statements.specs.Pieces.{Pieces}
use Rattle.fmp_config_statements.specs.Table.{allowed_of, first_range, second_range}
use Rattle.fmp_config_statements.specs.Words.{Word}
use Rattle.fmp_setup.specs.declared.setup.Class.{Class}
use Rattle.fmp_setup.specs.Building.{class_named, is_refused}
use Rattle.fmp_setup.specs.Setup.{Setup}
use Rattle.fmp_setup.specs.Valid.{is_class_of}
use Rattle.fmp_law_config.specs.Meaning.{Says}
use Rattle.fmp_law_config.specs.Phrases.{Phrase}
use Rattle.fmp_law_config.specs.Stages.{SayNumbers, SpellNumbers, SpellsNumber, Stage, is_processor}
use Rattle.fmp_law_config.proofs.Attributed.{attributes_are_spelled, attributes_in-spelled}
use Rattle.fmp_law_config.proofs.Classes.{class_of-spelled}
use Rattle.fmp_law_config.proofs.Numerals.{number_within-spelled}
use Rattle.fmp_law_config.proofs.Results.{none_is, ok_is}
use Rattle.fmp_law_config.proofs.Stages.{IsBounded, numbers_of-spelled, phrase_of, stage_of}
use Rattle.fmp_law_faults.specs.StatementFaults.{AreNumbers, ClassFault, HasNoNumbers, IsNumber, ListsProcessors, ObjectFault, StatementFault}
use Rattle.fmp_law_faults.proofs.Errors.{bind_err, both_ways, err_same, kind_is, ok_err, ok_or_err, tested_err}

-- ---- numbers of whatever size

module _ (names : NameLists) where
  numeral_is : (word : List ℕ) (n : ℕ) → numeral word ≡ Some n → IsNumber names word
  unfolding numeral
  numeral_is word n e =
      let p = and_then_parts (number_of word) (λ r. cond r.zero_led None (Some (unwrap_or r.magnitude (2 ^ 64 - 1)))) n e in
      inl (p.0, p.1, led p.0.zero_led (unwrap_or p.0.magnitude (2 ^ 64 - 1)) p.2) where
        led : (b : Bool) (m : ℕ) → cond b None (Some m) ≡ Some n → b ≡ false
        led false m e = refl
        led true m e = absurd (none_is n e)

  numeral_read : (word : List ℕ) (r : Number) → number_of word ≡ Some r → r.zero_led ≡ false → (n : ℕ) × (numeral word ≡ Some n)
  unfolding numeral
  numeral_read word r is led = (unwrap_or r.magnitude (2 ^ 64 - 1), rw is (rw led refl))

  value_is : (word : Word) (n : ℕ) → value_at names word ≡ Ok n → IsNumber names word.text
  unfolding value_at value_of
  value_is word n e = by (numeral word.text) refl (ok_or_parts (option_or (numeral word.text) (number_defined names word.text)) (fault_at OutOfRange word) n e) where
    by : (m : Option ℕ) → numeral word.text ≡ m → option_or m (number_defined names word.text) ≡ Some n → IsNumber names word.text
    by (Some m) is e = numeral_is word.text m is
    by None is e = inr (ap is_some e)

  value_read : (word : Word) → IsNumber names word.text → (n : ℕ) × (value_at names word ≡ Ok n)
  unfolding value_at value_of
  value_read word (inl s) =
      let n = numeral_read word.text s.0 s.1 s.2 in
      let is = n.1 in
      (n.0, rw is refl)
  value_read word (inr s) = by (numeral word.text) (number_defined names word.text) s where
    by : (m defined : Option ℕ) → is_some defined ≡ true → (n : ℕ) × (ok_or (option_or m defined) (fault_at OutOfRange word) ≡ Ok n)
    by (Some m) defined some = (m, refl)
    by None (Some n) some = (n, refl)
    by None None some = absurd (false≢true some)

  spelled_is : (word : List ℕ) (n : ℕ) → SpellsNumber names word n → IsNumber names word
  spelled_is word n (inl s) = inl (record { negative = false; magnitude = Some n; zero_led = false }, number_of-spelled word false n s, refl)
  spelled_is word n (inr s) = inr (ap is_some s.1)

  spelled_are : (words : List (List ℕ)) (numbers : List ℕ) → SpellNumbers names words numbers → AreNumbers names words
  spelled_are [] [] s = tt
  spelled_are (word ∷ words) (n ∷ numbers) s = (spelled_is word n s.0, spelled_are words numbers s.1)
  spelled_are [] (n ∷ numbers) s = absurd s
  spelled_are (word ∷ words) [] s = absurd s

  -- ---- their faults

  value_err : (word : Word) (fault : Fault) → value_at names word ≡ Err fault → fault.kind ≡ OutOfRange
  unfolding value_at
  value_err word fault e = let p = ok_or_err (value_of names word.text) (fault_at OutOfRange word) fault e in kind_is (fault_at OutOfRange word) fault OutOfRange p.1 refl

  within_err : (range : Range) (word : Word) (fault : Fault) → number_within names range word ≡ Err fault → fault.kind ≡ OutOfRange
  unfolding number_within
  within_err range word fault e =
      elim (bind_err (value_at names word) _ fault e) [
        | inl a ↦ value_err word fault a
        | inr a ↦
            let p = tested_err (is_within range a.0) a.0 (fault_at OutOfRange word) fault a.2 in
            kind_is (fault_at OutOfRange word) fault OutOfRange p.1 refl
      ]

  number_err : (range : Option Range) (word : Word) (fault : Fault) → number_at names range word ≡ Err fault → fault.kind ≡ OutOfRange
  unfolding number_at
  number_err None word fault e = absurd (ok_err 0 fault e)
  number_err (Some range) word fault e = within_err range word fault e

numbers_err : (c : Setup) (name : StatementName) (pieces : Pieces) (fault : Fault) → numbers_of c name pieces ≡ Err fault → (fault.kind ≡ OutOfRange) × HasNoNumbers c name (phrase_of pieces)
unfolding numbers_of
numbers_err c name pieces fault e = (kind, λ n s. both_ways (numbers_of c name pieces) n fault (numbers_of-spelled c name pieces n s) e) where
  kind : fault.kind ≡ OutOfRange
  kind = elim (bind_err (number_at c.names (first_range name c.processors c.limits.priorities) pieces.first) _ fault e) [
    | inl a ↦ number_err c.names (first_range name c.processors c.limits.priorities) pieces.first fault a
    | inr a ↦ elim (bind_err (number_at c.names (second_range name) pieces.second) _ fault a.2) [
      | inl b ↦ number_err c.names (second_range name) pieces.second fault b
      | inr b ↦ absurd (ok_err _ fault b.2)
    ]
  ]

-- ---- names

new_err : (c : Setup) (room : Bool) (line : ℕ) (name : Word) (fault : Fault) → new_name c room line name ≡ Err fault
    → ((fault.kind ≡ NameTaken) × (is_refused c name.text ≡ true)) ⊎ ((fault.kind ≡ TooMany) × (is_refused c name.text ≡ false) × (room ≡ false))
unfolding new_name
new_err c room line name fault e = by (is_refused c name.text) refl e where
  by : (taken : Bool) → is_refused c name.text ≡ taken → cond {A = Result (Unit {0}) Fault} taken (Err (fault_at NameTaken name)) (cond {A = Result (Unit {0}) Fault} room (Ok tt) (Err (fault_in TooMany line name))) ≡ Err fault
      → ((fault.kind ≡ NameTaken) × (is_refused c name.text ≡ true)) ⊎ ((fault.kind ≡ TooMany) × (is_refused c name.text ≡ false) × (room ≡ false))
  by true is e = inl (kind_is (fault_at NameTaken name) fault NameTaken (err_same (fault_at NameTaken name) fault e) refl, is)
  by false is e = let p = tested_err room tt (fault_in TooMany line name) fault e in inr (kind_is (fault_in TooMany line name) fault TooMany p.1 refl, is, p.0)

-- ---- classes

module _ (c : Setup) (line : ℕ) where
  numbers_are : (words : List Word) → all_numbers c words ≡ Ok tt → AreNumbers c.names (map (λ w. w.text) words)
  unfolding all_numbers number_step each
  numbers_are [] e = tt
  numbers_are (word ∷ words) e =
      let p = bind_parts (number_step c tt word) (λ next. each (number_step c) next words) tt e in
      let q = bind_parts (value_at c.names word) (λ n. Ok tt) p.0 p.1 in
      (value_is c.names word q.0 q.1, numbers_are words p.2)

  numbers_read : (words : List Word) → AreNumbers c.names (map (λ w. w.text) words) → all_numbers c words ≡ Ok tt
  unfolding all_numbers number_step each
  numbers_read [] are = refl
  numbers_read (word ∷ words) are =
      let here = (value_read c.names word are.0).1 in
      rw here (numbers_read words are.1)

  numbers_kind : (words : List Word) (fault : Fault) → all_numbers c words ≡ Err fault → fault.kind ≡ OutOfRange
  unfolding all_numbers number_step each
  numbers_kind [] fault e = absurd (ok_err tt fault e)
  numbers_kind (word ∷ words) fault e =
      elim (bind_err (number_step c tt word) _ fault e) [
        | inl a ↦ elim (bind_err (value_at c.names word) _ fault a) [
          | inl b ↦ value_err c.names word fault b
          | inr b ↦ absurd (ok_err tt fault b.2)
        ]
        | inr a ↦ numbers_kind words fault a.2
      ]

  processor_err : (word : Word) (fault : Fault) → IsNumber c.names word.text → processor_at c line word ≡ Err fault → fault.kind ≡ BadClass
  unfolding processor_at
  processor_err word fault is e =
      let n = value_read c.names word is in
      elim (bind_err (value_at c.names word) _ fault e) [
        | inl a ↦ absurd (both_ways (value_at c.names word) n.0 fault n.1 a)
        | inr a ↦
            let p = ok_or_err (numbered_processor c.processors a.0) (fault_in BadClass line word) fault a.2 in
            kind_is (fault_in BadClass line word) fault BadClass p.1 refl
      ]

  members_err : (words : List Word) (members : List Bool) (fault : Fault) → AreNumbers c.names (map (λ w. w.text) words) → each (member_step c line) members words ≡ Err fault
      → fault.kind ≡ BadClass
  unfolding each member_step
  members_err [] members fault are e = absurd (ok_err members fault e)
  members_err (word ∷ words) members fault are e =
      elim (bind_err (member_step c line members word) _ fault e) [
        | inl a ↦ elim (bind_err (processor_at c line word) _ fault a) [
          | inl b ↦ processor_err word fault are.0 b
          | inr b ↦ absurd (ok_err _ fault b.2)
        ]
        | inr a ↦ members_err words a.0 fault are.1 a.2
      ]

class_err : (c : Setup) (bounded : IsBounded c) (line : ℕ) (pieces : Pieces) (fault : Fault) → class_of c line pieces ≡ Err fault
    → ((fault.kind ≡ OutOfRange) × ¬ (AreNumbers c.names (pieces.first.text ∷ map (λ w. w.text) pieces.series)))
    ⊎ (AreNumbers c.names (pieces.first.text ∷ map (λ w. w.text) pieces.series) × (fault.kind ≡ BadClass) × ¬ (ListsProcessors c (phrase_of pieces)))
unfolding class_of members_in sound_class
class_err c bounded line pieces fault e =
    elim (bind_err (value_at c.names pieces.first) _ fault e) [
      | inl a ↦ inl (value_err c.names pieces.first fault a, λ are. let n = value_read c.names pieces.first are.0 in both_ways (value_at c.names pieces.first) n.0 fault n.1 a)
      | inr a ↦ elim (bind_err (all_numbers c pieces.series) _ fault a.2) [
        | inl b ↦ inl (numbers_kind c line pieces.series fault b, λ are. both_ways (all_numbers c pieces.series) tt fault (numbers_read c line pieces.series are.1) b)
        | inr b ↦
            let first = value_is c.names pieces.first a.0 a.1 in
            let series = numbers_are c line pieces.series b.1 in
            inr ((first, series), kind first series b.2, none)
      ]
    ] where
      none : ¬ (ListsProcessors c (phrase_of pieces))
      none s = both_ways (class_of c line pieces) _ fault (class_of-spelled c bounded.processors bounded.named line pieces s.initial s.members s.initial_is s.members_are s.initial_within s.members_within s.begins_within) e

      kind : IsNumber c.names pieces.first.text → AreNumbers c.names (map (λ w. w.text) pieces.series)
          → (processor_at c line pieces.first >>= λ initial. members_in c line pieces.series >>= λ members. sound_class c.processors line pieces.first (record { initial = initial; members = members })) ≡ Err fault
          → fault.kind ≡ BadClass
      kind first series rest =
          elim (bind_err (processor_at c line pieces.first) _ fault rest) [
            | inl x ↦ processor_err c line pieces.first fault first x
            | inr x ↦ elim (bind_err (each (member_step c line) (replicate 8 false) pieces.series) _ fault x.2) [
              | inl y ↦ members_err c line pieces.series (replicate 8 false) fault series y
              | inr y ↦
                  let class : Class = record { initial = x.0; members = y.0 } in
                  let p = tested_err (is_class_of c.processors class) class (fault_in BadClass line pieces.first) fault y.2 in
                  kind_is (fault_in BadClass line pieces.first) fault BadClass p.1 refl
            ]
          ]

-- ---- what is said has no fault

pub says_none : (s next : Stage) (name : StatementName) (phrase : Phrase) → Says s name phrase next → (kind : ConfigKind) → ¬ (StatementFault s name phrase kind)
says_none s next statements.Include phrase says kind f = f
says_none s next statements.Processors phrase says kind f = f.1 says.0 says.1
says_none s next statements.Timer phrase (inl none) kind f = let some = f.1 in let empty = ap length none.0 in omega (arith, some, empty)
says_none s next statements.Timer phrase (inr says) kind f = false≢true (sym (f.2 says.0 says.1) ∙ says.2)
says_none s next statements.Limits phrase says kind f = f.1 says.0 says.1
says_none s next statements.DefClass phrase says kind f =
    elim f [
      | inl a ↦ false≢true (sym says.name_is_new ∙ a.1)
      | inr a ↦ elim a.1 [
        | inl b ↦ let many = b.1 in let few = says.few in omega (arith, many, few)
        | inr b ↦ elim b.1 [
          | inl d ↦ d.1 (spelled_is s.setup.names phrase.first says.initial says.initial_is, spelled_are s.setup.names phrase.series says.members says.members_are)
          | inr d ↦ d.2 (record {
            initial = says.initial;
            members = says.members;
            initial_is = says.initial_is;
            members_are = says.members_are;
            initial_within = says.initial_within;
            members_within = says.members_within;
            begins_within = says.begins_within;
          })
        ]
      ]
    ]
says_none s next statements.Class phrase says kind f = none_is says.0 (sym f.1 ∙ says.1)
says_none s next (statements.Create k) phrase says kind f =
    let same : f.0 ≡ says.class = some_is f.0 says.class (sym f.1 ∙ says.class_is) in
    elim f.2 [
      | inl a ↦ false≢true (sym says.name_is_new ∙ a.1)
      | inr a ↦ elim a.1 [
        | inl b ↦ false≢true (sym b.1 ∙ says.room)
        | inr b ↦ elim b.1 [
          | inl d ↦ false≢true (sym d.1 ∙ ap (λ (x : Class). is_handled s.setup.timer x k) same ∙ says.handled)
          | inr d ↦ elim d.1 [
            | inl g ↦ g.1 (says.attributes, says.attributes_are, says.allowed)
            | inr g ↦ false≢true (sym (g.2 says.numbers says.numbers_are) ∙ says.counts)
          ]
        ]
      ]
    ]

-- ---- a fault is that of the table

module _ (d : Draft) (bounded : IsBounded d.setup) (f : Form) (fault : Fault) where
  abbrev s : Stage
  s = stage_of d

  abbrev its_words : Phrase
  its_words = phrase_of f.pieces

  abbrev processors : Range
  processors = record { least = 1; most = d.setup.processors }

  timer_err : choose_timer d f ≡ Err fault → StatementFault s statements.Timer its_words fault.kind
  unfolding choose_timer timer_of
  timer_err e =
      elim (bind_err (timer_of d.setup f.pieces.first) _ fault e) [
        | inl a ↦ by (eqb (length f.pieces.first.text) 0) refl a
        | inr a ↦ absurd (ok_err _ fault a.2)
      ] where
        by : (none : Bool) → eqb (length f.pieces.first.text) 0 ≡ none
            → cond none (Ok timer.Local) (number_within d.setup.names processors f.pieces.first >>= λ n. Ok (timer.Global (as_proc n))) ≡ Err fault → StatementFault s statements.Timer its_words fault.kind
        by true is e = absurd (ok_err timer.Local fault e)
        by false is e =
            elim (bind_err (number_within d.setup.names processors f.pieces.first) _ fault e) [
              | inl b ↦ (
                within_err d.setup.names processors f.pieces.first fault b,
                (let some = eqb-false (length f.pieces.first.text) 0 is in omega (arith, some)),
                λ n spelled. false_from_ne_true (is_processor d.setup.processors n) (λ t.
                    let p = and_parts (leb 1 n) (leb n d.setup.processors) t in
                    both_ways (number_within d.setup.names processors f.pieces.first) n fault
                    (number_within-spelled d.setup.names processors f.pieces.first n spelled (leb-true 1 n p.0) (leb-true n d.setup.processors p.1)) b),
              )
              | inr b ↦ absurd (ok_err _ fault b.2)
            ]

  class_fault : define_class d f ≡ Err fault → ClassFault s its_words fault.kind
  unfolding define_class
  class_fault e =
      elim (bind_err (new_name d.setup (ltb (length d.setup.classes) 32) f.line f.pieces.name) _ fault e) [
        | inl a ↦ elim (new_err d.setup (ltb (length d.setup.classes) 32) f.line f.pieces.name fault a) [
          | inl x ↦ inl x
          | inr x ↦ inr (x.1, inl (x.0, ltb-false (length d.setup.classes) 32 x.2))
        ]
        | inr a ↦
            let new = new_and_room d.setup (ltb (length d.setup.classes) 32) f.line f.pieces.name a.1 in
            elim (bind_err (class_of d.setup f.line f.pieces) _ fault a.2) [
              | inl b ↦ inr (new.0, inr (ltb-true (length d.setup.classes) 32 new.1, class_err d.setup bounded f.line f.pieces fault b))
              | inr b ↦ absurd (ok_err _ fault b.2)
            ]
      ]

  attributes_err : (allowed : List Attribute) (words : List Word) (found : Attributes) → each (attribute_step allowed) found words ≡ Err fault → fault.kind ≡ BadAttribute
  unfolding each attribute_step attribute_in
  attributes_err allowed [] found e = absurd (ok_err found fault e)
  attributes_err allowed (word ∷ words) found e =
      elim (bind_err (attribute_step allowed found word) _ fault e) [
        | inl a ↦ elim (bind_err (attribute_in allowed word) _ fault a) [
          | inl b ↦ let p = ok_or_err (find (λ a. bytes_eq (text_of a) word.text) allowed) (fault_at BadAttribute word) fault b in kind_is (fault_at BadAttribute word) fault BadAttribute p.1 refl
          | inr b ↦ absurd (ok_err _ fault b.2)
        ]
        | inr a ↦ attributes_err allowed words a.0 a.2
      ]

  fields_err : (class : Class) (kind : ObjectKind) → fields_in d.setup class kind f ≡ Err fault → ObjectFault s class kind its_words fault.kind
  unfolding fields_in served fitting_counts attributes_in
  fields_err class kind e =
      let series = f.pieces.series in
      let first = f.pieces.first in
      elim (bind_err (new_name d.setup (has_room d.setup.names (Object kind)) f.line f.pieces.name) _ fault e) [
        | inl a ↦ elim (new_err d.setup (has_room d.setup.names (Object kind)) f.line f.pieces.name fault a) [
          | inl x ↦ inl x
          | inr x ↦ inr (x.1, inl (x.0, x.2))
        ]
        | inr a ↦
            let new = new_and_room d.setup (has_room d.setup.names (Object kind)) f.line f.pieces.name a.1 in
            inr (
              new.0,
              inr (
                new.1,
                elim (bind_err (served d.setup.timer class kind f.line f.pieces.name) _ fault a.2) [
                  | inl b ↦
                      let p = tested_err (is_handled d.setup.timer class kind) tt (fault_in ForeignHandler f.line f.pieces.name) fault b in
                      inl (kind_is (fault_in ForeignHandler f.line f.pieces.name) fault ForeignHandler p.1 refl, p.0)
                  | inr b ↦
                      let own = tested_ok (is_handled d.setup.timer class kind) (Ok tt) (fault_in ForeignHandler f.line f.pieces.name) b.0 b.1 in
                      inr (
                        own.0,
                        elim (bind_err (attributes_in (allowed_of kind) series) _ fault b.2) [
                          | inl g ↦ inl (
                            attributes_err (allowed_of kind) series no_attributes g,
                            λ s. both_ways (attributes_in (allowed_of kind) series) _ fault (attributes_in-spelled (allowed_of kind) s.0 series s.1 s.2) g,
                          )
                          | inr g ↦
                              let said = attributes_are_spelled (allowed_of kind) series g.0 g.1 in
                              let out : (fault.kind ≡ OutOfRange) × ((m : Numbers) → SayNumbers d.setup (statements.Create kind) its_words m → counts_fit kind m ≡ false) = elim (bind_err (numbers_of d.setup (statements.Create kind) f.pieces) _ fault g.2) [
                                | inl h ↦ let n = numbers_err d.setup (statements.Create kind) f.pieces fault h in (n.0, λ m s. absurd (n.1 m s))
                                | inr h ↦ elim (bind_err (fitting_counts kind h.0 first) _ fault h.2) [
                                  | inl i ↦
                                      let p = tested_err (counts_fit kind h.0) tt (fault_at OutOfRange first) fault i in (
                                        kind_is (fault_at OutOfRange first) fault OutOfRange p.1 refl,
                                        λ m s.
                                            let same : m ≡ h.0 = ok_is m h.0 (sym (numbers_of-spelled d.setup (statements.Create kind) f.pieces m s) ∙ h.1) in
                                            ap (counts_fit kind) same ∙ p.0,
                                      )
                                  | inr i ↦ absurd (ok_err _ fault i.2)
                                ]
                              ] in
                              inr ((said.0, said.1, said.2), out.0, out.1)
                        ],
                      )
                ],
              ),
            )
      ]

  create_err : (kind : ObjectKind) → is_some s.class ≡ true → create d kind f ≡ Err fault → StatementFault s (statements.Create kind) its_words fault.kind
  unfolding create create_in
  create_err kind some e = by d.open_class refl e where
    by : (o : Option OpenClass) → d.open_class ≡ o → option_map_or (λ o. create_in d o.class kind f) o (Err (fault_of_line OutsideClass f.line)) ≡ Err fault
        → StatementFault s (statements.Create kind) its_words fault.kind
    by None is e = absurd (false≢true (sym (ap (λ (x : Option OpenClass). is_some (option_map (λ o. o.class) x)) is) ∙ some))
    by (Some o) is e =
        elim (bind_err (fields_in d.setup o.class kind f) _ fault e) [
          | inl a ↦ (o.class, ap (λ (x : Option OpenClass). option_map (λ o. o.class) x) is, fields_err o.class kind a)
          | inr a ↦ absurd (ok_err _ fault a.2)
        ]

  begin_err : begin_class d f ≡ Err fault → StatementFault s statements.Class its_words fault.kind
  unfolding begin_class
  begin_err e =
      elim (bind_err (ok_or (class_named d.setup f.pieces.name.text) (fault_at UnknownClass f.pieces.name)) _ fault e) [
        | inl a ↦
            let p = ok_or_err (class_named d.setup f.pieces.name.text) (fault_at UnknownClass f.pieces.name) fault a in
            (kind_is (fault_at UnknownClass f.pieces.name) fault UnknownClass p.1 refl, p.0)
        | inr a ↦ absurd (ok_err _ fault a.2)
      ]

  processors_err : count_processors d f ≡ Err fault → StatementFault s statements.Processors its_words fault.kind
  unfolding count_processors
  processors_err e =
      elim (bind_err (numbers_of d.setup statements.Processors f.pieces) _ fault e) [
        | inl a ↦ numbers_err d.setup statements.Processors f.pieces fault a
        | inr a ↦ absurd (ok_err _ fault a.2)
      ]

  limits_err : set_limits d f ≡ Err fault → StatementFault s statements.Limits its_words fault.kind
  unfolding set_limits
  limits_err e =
      elim (bind_err (numbers_of d.setup statements.Limits f.pieces) _ fault e) [
        | inl a ↦ numbers_err d.setup statements.Limits f.pieces fault a
        | inr a ↦ absurd (ok_err _ fault a.2)
      ]

  -- an object is one of a class
  abbrev pub HasClass : StatementName → Type 0
  HasClass name = (kind : ObjectKind) → name ≡ statements.Create kind → is_some s.class ≡ true

  pub judged_err : (name : StatementName) → HasClass name → judged d name f ≡ Err fault → StatementFault s name its_words fault.kind
  unfolding judged
  judged_err statements.Include has e = absurd (ok_err d fault e)
  judged_err statements.Processors has e = processors_err e
  judged_err statements.Timer has e = timer_err e
  judged_err statements.Limits has e = limits_err e
  judged_err statements.DefClass has e = class_fault e
  judged_err statements.Class has e = begin_err e
  judged_err (statements.Create kind) has e = create_err kind (has kind refl) e

-- ---- one fault

one_class_fault : (s : Stage) (phrase : Phrase) (a b : ConfigKind) → ClassFault s phrase a → ClassFault s phrase b → a ≡ b
one_class_fault s phrase a b f g =
    elim f [
      | inl x ↦ elim g [ inl y ↦ x.0 ∙ sym y.0 | inr y ↦ absurd (false≢true (sym y.0 ∙ x.1)) ]
      | inr x ↦ elim g [
        | inl y ↦ absurd (false≢true (sym x.0 ∙ y.1))
        | inr y ↦ elim x.1 [
          | inl u ↦ elim y.1 [ inl v ↦ u.0 ∙ sym v.0 | inr v ↦ absurd (let many = u.1 in let few = v.0 in omega (arith, many, few)) ]
          | inr u ↦ elim y.1 [
            | inl v ↦ absurd (let many = v.1 in let few = u.0 in omega (arith, many, few))
            | inr v ↦ elim u.1 [
              | inl p ↦ elim v.1 [ inl q ↦ p.0 ∙ sym q.0 | inr q ↦ absurd (p.1 q.0) ]
              | inr p ↦ elim v.1 [ inl q ↦ absurd (q.1 p.0) | inr q ↦ p.1 ∙ sym q.1 ]
            ]
          ]
        ]
      ]
    ]

one_object_fault : (s : Stage) (class : Class) (kind : ObjectKind) (phrase : Phrase) (a b : ConfigKind) → ObjectFault s class kind phrase a → ObjectFault s class kind phrase b → a ≡ b
one_object_fault s class kind phrase a b f g =
    elim f [
      | inl x ↦ elim g [ inl y ↦ x.0 ∙ sym y.0 | inr y ↦ absurd (false≢true (sym y.0 ∙ x.1)) ]
      | inr x ↦ elim g [
        | inl y ↦ absurd (false≢true (sym x.0 ∙ y.1))
        | inr y ↦ elim x.1 [
          | inl u ↦ elim y.1 [ inl v ↦ u.0 ∙ sym v.0 | inr v ↦ absurd (false≢true (sym u.1 ∙ v.0)) ]
          | inr u ↦ elim y.1 [
            | inl v ↦ absurd (false≢true (sym v.1 ∙ u.0))
            | inr v ↦ elim u.1 [
              | inl p ↦ elim v.1 [ inl q ↦ p.0 ∙ sym q.0 | inr q ↦ absurd (false≢true (sym p.1 ∙ q.0)) ]
              | inr p ↦ elim v.1 [
                | inl q ↦ absurd (false≢true (sym q.1 ∙ p.0))
                | inr q ↦ elim p.1 [
                  | inl h ↦ elim q.1 [ inl i ↦ h.0 ∙ sym i.0 | inr i ↦ absurd (h.1 i.0) ]
                  | inr h ↦ elim q.1 [ inl i ↦ absurd (i.1 h.0) | inr i ↦ h.1 ∙ sym i.1 ]
                ]
              ]
            ]
          ]
        ]
      ]
    ]

pub one_statement_fault : (s : Stage) (name : StatementName) (phrase : Phrase) (a b : ConfigKind) → StatementFault s name phrase a → StatementFault s name phrase b → a ≡ b
one_statement_fault s statements.Include phrase a b f g = absurd f
one_statement_fault s statements.Processors phrase a b f g = f.0 ∙ sym g.0
one_statement_fault s statements.Timer phrase a b f g = f.0 ∙ sym g.0
one_statement_fault s statements.Limits phrase a b f g = f.0 ∙ sym g.0
one_statement_fault s statements.DefClass phrase a b f g = one_class_fault s phrase a b f g
one_statement_fault s statements.Class phrase a b f g = f.0 ∙ sym g.0
one_statement_fault s (statements.Create kind) phrase a b f g =
    let same = some_is f.0 g.0 (sym f.1 ∙ g.1) in
    one_object_fault s g.0 kind phrase a b (subst (λ (x : Class). ObjectFault s x kind phrase a) same f.2) g.2
