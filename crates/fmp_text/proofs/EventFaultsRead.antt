-- A line that has a fault of the table is read with that fault.
use Rattle.std.proofs.Common.{◌≡◌, ◌≢◌, ℕ, Bool, true, false, ◌||◌, cond, eqb, inl, inr, ◌⊎◌, List, [], ◌∷◌, length, Option, Some, None, Result, Ok, Err, is_some, refl, sym, ap, subst, ◌∙◌}
use Rattle.std.specs.Prelude.{codes}
use Rattle.std.specs.List.{list_all}
use Rattle.std.specs.Option.{ok_or, option_map_or, option_or}
use Rattle.std.specs.Str.{bytes_eq}
use Rattle.std.proofs.lemmas.Bool.{eq-eqb, eqb-true, false≢true, false_from_ne_true}
use Rattle.fmp_bytes.specs.Bytes.{is_of, after, following, is_identifier}
use Rattle.fmp_bytes.specs.Numerals.{number_of}
use Rattle.fmp_bytes.proofs.Spelled.{number_of-identifier}
use Rattle.fmp_bytes.specs.declared.classes.Class.TheVariants.{Blank}
use Rattle.fmp_bytes.specs.declared.numerals.Number.{Number}
use Rattle.fmp_bytes.proofs.Words.{same_word, other_word}
use Rattle.fmp_calls.specs.Table.{is_bare, kinds_of, name_of, text_of, named}
use Rattle.fmp_codes.specs.declared.kinds.ArgumentKind.{ArgumentKind}
use Rattle.fmp_codes.specs.declared.kinds.ArgumentKind.TheVariants as kinds
use Rattle.fmp_codes.specs.declared.kinds.Value.{Value}
use Rattle.fmp_calls.proofs.Matched.{is_bare-name_of, kinds_of-name_of, named-text_of, no_ipi, no_tick, text_of-named}
use Rattle.fmp_codes.specs.Numbers.{as_proc}
use Rattle.fmp_codes.specs.declared.calls.Call.{Call}
use Rattle.fmp_codes.specs.declared.numbers.Proc.{Proc}
use Rattle.fmp_names.specs.Names.{NameLists, AreValid, is_object, is_constant}
use Rattle.fmp_text.specs.Argument.{arguments_after, number_value, constant_of, object_of, named_value, judged_number, value_at}
use Rattle.fmp_text.specs.EventFaults.{first_word, following_word, AreEnclosed, ArgumentFault, ArgumentsFault, CallFault, HappeningFault, IsProcessorWord, NamesProcessor, CoreFault, EventFault}
use Rattle.fmp_text.specs.Grammar.{AreBlank, SpellsValue}
use Rattle.fmp_text.specs.Lines.{digits_of, processor_in, event_of, event_at, event_in, is_skipped, without_return, line_event}
use Rattle.fmp_text.specs.Reading.{named_call, values_at, call_with, call_after, call_at}
use Rattle.fmp_text.specs.declared.fault.TextKind.{TextKind}
use Rattle.fmp_text.specs.declared.fault.TextKind.TheVariants.{BadWord, UnknownName, WrongArguments, NumberOutOfRange}
use Rattle.fmp_text.proofs.EventFaults.{form_read, form_is, processor_fault}
use Rattle.fmp_text.proofs.Spelled.{value_at-spelled, value_is_spelled}
use Rattle.fmp_text.proofs.SpelledEvents.{processor_read, processor_spelled, digits_parts}
use Rattle.fmp_text.proofs.SpelledTexts.{nothing_spelled}

-- ---- the first argument at fault

abbrev NoValue : NameLists → ArgumentKind → List ℕ → Type 0
NoValue names kind token = (value : Value) → ¬ (SpellsValue names kind token value)

module _ (names : NameLists) (kind : ArgumentKind) (token : List ℕ) (none : NoValue names kind token) where
  no_value : (value : Value) → value_at names kind token ≡ Ok value → ⊥
  no_value value e = none value (value_is_spelled names kind token value e)

  named_reported : is_identifier token ≡ true → (wrong : Bool) → (is_constant token || is_object names token) ≡ wrong → value_at names kind token ≡ cond wrong (Err WrongArguments) (Err UnknownName)
  unfolding value_at named_value
  named_reported identifier wrong is =
      let number = number_of-identifier token identifier in
      let read : value_at names kind token ≡ option_map_or (λ (v : Value). Ok v) (option_or (constant_of kind token) (object_of names kind token)) (cond wrong (Err WrongArguments) (Err UnknownName)) = rw (number, is) refl in
      by (constant_of kind token) (object_of names kind token) read
    where
      by : (constant object : Option Value) → value_at names kind token ≡ option_map_or (λ (v : Value). Ok v) (option_or constant object) (cond wrong (Err WrongArguments) (Err UnknownName))
          → value_at names kind token ≡ cond wrong (Err WrongArguments) (Err UnknownName)
      by (Some v) object e = absurd (no_value v e)
      by None (Some v) e = absurd (no_value v e)
      by None None e = e

  judged_reported : (number : Number) → number_of token ≡ Some number → value_at names kind token ≡ judged_number kind number
  unfolding value_at
  judged_reported number is = rw is refl

mode_reported : (kind : ArgumentKind) (number : Number) → kind ≡ kinds.Mode → judged_number kind number ≡ Err WrongArguments
unfolding judged_number
mode_reported kind number is = rw is refl

range_reported : (kind : ArgumentKind) (number : Number) → kind ≢ kinds.Mode → judged_number kind number ≡ ok_or (number_value kind number) NumberOutOfRange
unfolding judged_number
range_reported kinds.Mode number other = absurd (other refl)
range_reported kind number other = refl

some_number : (found : Option Number) → is_some found ≡ true → (number : Number) × (found ≡ Some number)
some_number (Some number) e = (number, refl)
some_number None e = absurd (false≢true e)

argument_reported : (names : NameLists) (kind : ArgumentKind) (token : List ℕ) (fault : TextKind) → NoValue names kind token → ArgumentFault names kind token fault → value_at names kind token ≡ Err fault
argument_reported names kind token UnknownName none s =
    let constant = s.1 in let object = s.2 in
    named_reported names kind token none s.0 false (rw (constant, object) refl)
argument_reported names kind token WrongArguments none (inl s) =
    named_reported names kind token none s.0 true (elim s.1 [ inl c ↦ rw c refl | inr o ↦ either (is_constant token) (is_object names token) o ])
  where
    either : (a b : Bool) → b ≡ true → (a || b) ≡ true
    either true b e = refl
    either false b e = e
argument_reported names kind token WrongArguments none (inr s) =
    let n = some_number (number_of token) s.0 in
    judged_reported names kind token none n.0 n.1 ∙ mode_reported kind n.0 s.1
argument_reported names kind token NumberOutOfRange none s =
    let n = some_number (number_of token) s.0 in
    by (number_value kind n.0) (judged_reported names kind token none n.0 n.1 ∙ range_reported kind n.0 s.1)
  where
    by : (found : Option Value) → value_at names kind token ≡ ok_or found NumberOutOfRange → value_at names kind token ≡ Err NumberOutOfRange
    by (Some v) e = absurd (no_value names kind token none v e)
    by None e = e
argument_reported names kind token _ none s = absurd s

arguments_reported : (names : NameLists) (ks : List ArgumentKind) (tokens : List (List ℕ)) (fault : TextKind) → AreValid names → ArgumentsFault names ks tokens fault → values_at names ks tokens ≡ Err fault
arguments_reported names (kind ∷ ks) (token ∷ tokens) fault valid (inl s) = let here = argument_reported names kind token fault s.0 s.1 in rw here refl
arguments_reported names (kind ∷ ks) (token ∷ tokens) fault valid (inr s) =
    let here = (value_at-spelled names kind token s.0.0 valid s.0.1).1 in
    let rest = arguments_reported names ks tokens fault valid s.1 in
    rw (here, rest) refl
arguments_reported names [] tokens fault valid s = absurd s
arguments_reported names (kind ∷ ks) [] fault valid s = absurd s

-- ---- a call

call_reported : (names : NameLists) (call : Call) (text : List ℕ) (fault : TextKind) → AreValid names → CallFault names call text fault → call_after names call text ≡ Err fault
unfolding call_after call_with
call_reported names call text fault valid (inl s) = by (arguments_after 4 (is_bare call) text) refl
  where
    by : (found : Option (List (List ℕ))) → arguments_after 4 (is_bare call) text ≡ found → call_after names call text ≡ Err fault
    by None is = let wrong = s.0 in rw (is, wrong) refl
    by (Some tokens) is =
        let wrong = s.0 in
        let other = false_from_ne_true (eqb (length tokens) (length (kinds_of call))) (λ t. s.1 tokens (form_is call tokens text is (eqb-true (length tokens) (length (kinds_of call)) t)).0) in
        rw (is, other, wrong) refl
call_reported names call text fault valid (inr s) =
    let formed = form_read call s.0 text s.1 in
    let many = eq-eqb (length s.0) (length (kinds_of call)) s.1.0 in
    let bad = arguments_reported names (kinds_of call) s.0 fault valid s.2 in
    rw (formed, many, bad) refl

-- the same of a call's name
abbrev FormOf : Bool → List ArgumentKind → List (List ℕ) → List ℕ → Type 0
FormOf bare ks tokens text = (length tokens ≡ length ks) × (((bare ≡ true) × AreBlank text) ⊎ ((bare ≡ false) × AreEnclosed tokens text))

abbrev FaultOf : NameLists → Bool → List ArgumentKind → List ℕ → TextKind → Type 0
FaultOf names bare ks text fault =
    ((fault ≡ WrongArguments) × ((tokens : List (List ℕ)) → ¬ (FormOf bare ks tokens text)))
    ⊎ ((tokens : List (List ℕ)) × FormOf bare ks tokens text × ArgumentsFault names ks tokens fault)

named_reported_of : (names : NameLists) (call : Call) (text : List ℕ) (fault : TextKind) → CallFault names call text fault → CallFault names (name_of call) text fault
named_reported_of names call text fault s =
    subst (λ (b : Bool). FaultOf names b (kinds_of (name_of call)) text fault) (sym (is_bare-name_of call))
    (subst (λ (ks : List ArgumentKind). FaultOf names (is_bare call) ks text fault) (sym (kinds_of-name_of call)) s)

-- ---- a line

no_name : (word : List ℕ) → ((call : Call) → text_of call ≢ word) → named word ≡ None
no_name word none = by (named word) refl
  where
    by : (found : Option Call) → named word ≡ found → named word ≡ None
    by None is = is
    by (Some call) is = absurd (none call (text_of-named word call is))

happening_reported : (names : NameLists) (processor : Proc) (text : List ℕ) (fault : TextKind) → AreValid names → HappeningFault names text fault → event_of names processor (after Blank text) ≡ Err fault
unfolding event_of call_at named_call
happening_reported names processor text fault valid (inl s) =
    let tick = other_word (first_word text) (codes "tick") s.1 in
    let ipi = other_word (first_word text) (codes "ipi") s.2 in
    let none = no_name (first_word text) s.3 in
    let is = s.0 in
    rw (tick, ipi, none, is) refl
happening_reported names processor text fault valid (inr (inl s)) =
    let more = false_from_ne_true (list_all (is_of Blank) (following_word text)) s.2 in
    let is = s.0 in
    elim s.1 [
      | inl word ↦ let tick = same_word (first_word text) (codes "tick") word in rw (tick, more, is) refl
      | inr word ↦
          let tick : bytes_eq (first_word text) (codes "tick") ≡ false = ap (λ (w : List ℕ). bytes_eq w (codes "tick")) word in
          let ipi = same_word (first_word text) (codes "ipi") word in
          rw (tick, ipi, more, is) refl
    ]
happening_reported names processor text fault valid (inr (inr s)) =
    let word = s.1 in
    let tick : bytes_eq (first_word text) (codes "tick") ≡ false = ap (λ (w : List ℕ). bytes_eq w (codes "tick")) (sym word) ∙ no_tick s.0 in
    let ipi : bytes_eq (first_word text) (codes "ipi") ≡ false = ap (λ (w : List ℕ). bytes_eq w (codes "ipi")) (sym word) ∙ no_ipi s.0 in
    let name : named (first_word text) ≡ Some (name_of s.0) = ap (λ (w : List ℕ). named w) (sym word) ∙ named-text_of s.0 in
    let report = call_reported names (name_of s.0) (following_word text) fault valid (named_reported_of names s.0 (following_word text) fault s.2) in
    rw (tick, ipi, name, report) refl

bad_word : (names : NameLists) (word : List ℕ) → ¬ (IsProcessorWord word) → processor_in names word ≡ Err BadWord
unfolding processor_in digits_of
bad_word names word none = by (digits_of word) refl
  where
    by : (found : Option (List ℕ)) → digits_of word ≡ found → processor_in names word ≡ Err BadWord
    by None is = rw is refl
    by (Some digits) is = absurd (let d = digits_parts word digits (following 80 word) refl is in none (digits, d.0, d.1))

no_processor : (names : NameLists) (word : List ℕ) → AreValid names → IsProcessorWord word → ¬ (NamesProcessor names word) → processor_in names word ≡ Err NumberOutOfRange
no_processor names word valid some none = by (processor_in names word) refl
  where
    by : (read : Result Proc TextKind) → processor_in names word ≡ read → processor_in names word ≡ Err NumberOutOfRange
    by (Ok p) is = absurd (let w = processor_spelled names word p is in none (w.number, w.least, w.most, w.parts))
    by (Err kind) is =
        elim (processor_fault names word kind valid is) [
          | inl s ↦ absurd (s.1 some)
          | inr s ↦ is ∙ ap (λ (k : TextKind). Err k) s.1.0
        ]

core_reported : (names : NameLists) (text : List ℕ) (fault : TextKind) → AreValid names → CoreFault names text fault → event_in names text ≡ Err fault
unfolding event_in event_at
core_reported names text fault valid (inl s) = let is = s.0 in let bad = s.1 in rw (bad, is) refl
core_reported names text fault valid (inr (line, inl s)) = let is = s.0 in let word = bad_word names (first_word text) s.1 in rw (line, word, is) refl
core_reported names text fault valid (inr (line, inr (some, inl s))) = let is = s.0 in let word = no_processor names (first_word text) valid some s.1 in rw (line, word, is) refl
core_reported names text fault valid (inr (line, inr (some, inr (p, s)))) =
    let word : processor_in names (first_word text) ≡ Ok (as_proc p.0) = ap (processor_in names) p.3 ∙ processor_read names p.0 p.1 p.2 valid.most in
    let report = happening_reported names (as_proc p.0) (following_word text) fault valid s in
    rw (line, word, report) refl

pub event_reported : (names : NameLists) (line : List ℕ) (fault : TextKind) → AreValid names → EventFault names line fault → line_event names line ≡ Err fault
unfolding line_event
event_reported names line fault valid s =
    let some = false_from_ne_true (is_skipped (without_return line)) (λ t. s.0 (nothing_spelled line t)) in
    let report = core_reported names (without_return line) fault valid s.1 in
    rw (some, report) refl
