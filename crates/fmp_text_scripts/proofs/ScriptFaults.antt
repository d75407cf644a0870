-- A line of a script text is read with a fault exactly where the table of faults has it.
use Rattle.std.proofs.Common.{◌≡◌, ◌≢◌, ℕ, ℤ, ◌+◌, ◌≤◌, ◌==◌, ◌^◌, cond, Bool, true, false, ◌&&◌, ◌⊎◌, inl, inr, List, [], ◌∷◌, ◌++◌, length, drop, suc, Option, Some, None, Result, Ok, Err, is_some, refl, sym, ap, subst, ◌∙◌, arith}
use Rattle.std.specs.Prelude.{codes, nat_lt, decimal}
use Rattle.std.specs.List.{list_all, list_any, prefix_len}
use Rattle.std.specs.Option.{ok_or}
use Rattle.std.specs.Str.{bytes_eq}
use Rattle.std.proofs.lemmas.Bool.{cases_Bool, and_parts, false≢true, le-ltb, ltb-false, false_from_ne_true}
use Rattle.std.proofs.lemmas.Fmt.{decimal_digit}
use Rattle.fmp_bytes.specs.declared.classes.Class.TheVariants.{Argument, Blank, Word, Line}
use Rattle.fmp_bytes.specs.Bytes.{is_of, prefix, after, is_identifier}
use Rattle.fmp_bytes.proofs.Prefixes.{list_all-take_while}
use Rattle.fmp_bytes.proofs.Tokens.{identifier_bytes, identifier_words}
use Rattle.fmp_bytes.proofs.Parsed.{bind_parts}
use Rattle.fmp_bytes.proofs.Words.{same_word, is_word, other_word, not_word}
use Rattle.fmp_bytes.specs.Results.{◌>>=◌}
use Rattle.fmp_calls.specs.Table.{named, text_of}
use Rattle.fmp_codes.specs.declared.kinds.NameKind.TheVariants.{Function}
use Rattle.fmp_calls.proofs.Matched.{named-text_of, no_ipi, no_tick, text_of-named}
use Rattle.fmp_codes.specs.declared.calls.Call.{Call}
use Rattle.fmp_codes.specs.Numbers.{as_proc}
use Rattle.fmp_codes.specs.declared.records.Event.{Event}
use Rattle.fmp_codes.specs.declared.records.Event.TheVariants as event
use Rattle.fmp_names.specs.Names as names
use Rattle.fmp_names.specs.Names.{NameLists, AreValid, number_of}
use Rattle.fmp_names.proofs.Placed.{number_of-name_of, name_of-number_of}
use Rattle.fmp_text.specs.declared.fault.TextKind.{TextKind}
use Rattle.fmp_text.specs.declared.fault.TextKind.TheVariants.{BadByte, BadWord, NumberOutOfRange, UnknownName, WrongArguments, TooMany}
use Rattle.fmp_text.specs.EventFaults.{following_word, first_word, CallFault, CoreFault, EventFault, HappeningFault}
use Rattle.fmp_text.specs.Lines.{is_skipped, processor_in, without_return, event_in, event_at, event_of, line_event}
use Rattle.fmp_text.specs.Reading.{named_call, call_after, call_at, call_in}
use Rattle.fmp_text.proofs.EventFaults.{call_fault, err_is, ok_is_none}
use Rattle.fmp_text.proofs.EventFaultsRead.{event_reported}
use Rattle.fmp_text.specs.Grammar.{AreBlank, SpellsCall}
use Rattle.fmp_text.proofs.SpelledCalls.{call_in-spelled, call_is_spelled}
use Rattle.fmp_text.proofs.SpelledEvents.{blanks_stop, processor_read}
use Rattle.fmp_text.proofs.SpelledTexts.{core_of, nothing_read, nothing_spelled}
use Rattle.fmp_text_scripts.specs.declared.line.Said.TheVariants as said
use Rattle.fmp_text_scripts.specs.declared.line.Said.{Said}
use Rattle.fmp_text_scripts.specs.declared.ways.Pattern.{Pattern}
use Rattle.fmp_text_scripts.specs.declared.ways.Pattern.TheVariants as pattern
use Rattle.fmp_text_scripts.specs.declared.ways.Way.{Way}
use Rattle.fmp_bytes.specs.Bytes.{following, colon}
use Rattle.fmp_bytes.specs.Numerals.{signed_of}
use Rattle.fmp_bytes.specs.Numerals.{number_of as numeral}
use Rattle.fmp_bytes.specs.declared.numerals.Number.{Number}
use Rattle.fmp_bytes.proofs.Spelled.{number_of-spelled}
use Rattle.fmp_codes.specs.Codes as code
use Rattle.fmp_codes.specs.declared.codes.Code.{Code}
use Rattle.fmp_codes.specs.declared.codes.Code.TheVariants.{Accepted, Parameter, Identifier, Context, IllegalUse, ObjectState, QueueOverflow, WaitReleased, TimedOut}
use Rattle.fmp_text_scripts.specs.Linking.{has_label, linked}
use Rattle.fmp_text_scripts.specs.Lines.{name_in, label_in, function_in, begins, ends, asks, is_taken, code_in, value_in, pattern_of, valued, goal_in, turned, turn_with, turn_in, turns, goes, stands, other_said, are_line, said_by, said_in}
use Rattle.fmp_text_scripts.specs.Scripts.{Steps}
use Rattle.fmp_text_scripts.specs.Ways.{most_steps, most_labels, most_ways}
use Rattle.fmp_text_scripts.specs.ScriptGrammar.{SpellsPart}
use Rattle.fmp_text_scripts.specs.Sources.{Jumps}
use Rattle.fmp_text_scripts.specs.ScriptFaults.{HeadFault, EndFault, JumpFault, NameFault, GoalFault, SpellsData, ValueFault, IsNoCode, TurnFault, LabelFault, OtherFault, IsOneName, ScriptFault, StepFault, WordFault}
use Rattle.fmp_text_scripts.specs.Texts.{Open, Reading, ended, took, with_line}
use Rattle.fmp_text_scripts.proofs.SpelledLines.{blanks_no_word, by_word, first_word_of, word_stays, value_is, code_word, code_read, text_spelled, part_says, free_parts}
use Rattle.fmp_text_scripts.proofs.SpelledScripts.{reading}

-- ---- words

-- ---- the head of a script

-- there is one name exactly where the reader finds it
abbrev one_name : List ℕ → Bool
one_name text = is_identifier (first_word text) && list_all (is_of Blank) (following_word text)

name_found : (text : List ℕ) → one_name text ≡ true → IsOneName (first_word text) text
name_found text t =
    let parts = and_parts (is_identifier (first_word text)) (list_all (is_of Blank) (following_word text)) t in (
      record { before = prefix Blank text; following = following_word text; before_blank = list_all-take_while (is_of Blank) text; after_blank = parts.1; parts = by_word text (first_word text) refl },
      parts.0,
    )

name_is : (name text : List ℕ) → IsOneName name text → (first_word text ≡ name) × (one_name text ≡ true)
name_is name text (padded, identifier) =
    let here = first_word_of padded.before name padded.following text padded.before_blank (identifier_words name identifier) (identifier_bytes name identifier).0
    (blanks_no_word padded.following padded.after_blank) padded.parts in
    let word = here.0 in let following = here.1 in let blank = padded.after_blank in
    (word, rw (word, following, identifier, blank) refl)

-- what a head says after these scripts
abbrev headed : NameLists → ℕ → List Steps → List ℕ → Result Reading TextKind
headed lists n done text = (begins lists false text >>= λ s. took n (reading done None) s)

module _ (lists : NameLists) (valid : AreValid lists) (n : ℕ) (done : List Steps) (text : List ℕ) where
  head_fault : (kind : TextKind) → headed lists n done text ≡ Err kind → HeadFault lists done text kind
  unfolding begins function_in name_in
  head_fault kind e =
      elim (cases_Bool (one_name text)) [
        | inl t ↦ inr (first_word text, name_found text t, by (number_of lists Function (first_word text)) refl (rw t at e))
        | inr f ↦
            let wrong : kind ≡ WrongArguments = sym (err_is {A = Reading} WrongArguments kind (rw f at e)) in
            inl (wrong, λ name is. false≢true (sym f ∙ (name_is name text is).1))
      ]
    where
      by : (found : Option ℕ) → number_of lists Function (first_word text) ≡ found
          → (((Ok (first_word text) >>= λ name. ok_or (number_of lists Function name) UnknownName) >>= λ f. Ok (Some (said.Opens f))) >>= λ s. took n (reading done None) s) ≡ Err kind
          → ((kind ≡ UnknownName) × ((f : ℕ) → names.name_of lists Function f ≢ Some (first_word text)))
          ⊎ ((f : ℕ) × (names.name_of lists Function f ≡ Some (first_word text)) × (kind ≡ WrongArguments) × (list_any (λ (s : Steps). s.function == f) done ≡ true))
      by None is e2 =
          let unknown : kind ≡ UnknownName = sym (err_is {A = Reading} UnknownName kind (rw is at e2)) in
          inl (unknown, λ f named. absurd (let other = sym is ∙ number_of-name_of lists Function f (first_word text) valid named in cc))
      by (Some f) is e2 =
          elim (cases_Bool (list_any (λ (s : Steps). s.function == f) done)) [
            | inl t ↦ inr (f, name_of-number_of lists Function f (first_word text) is, sym (err_is {A = Reading} WrongArguments kind (rw (is, t) at e2)), t)
            | inr g ↦ absurd (let bad = rw (is, g) at e2 in cc)
          ]

  head_reported : (kind : TextKind) → HeadFault lists done text kind → headed lists n done text ≡ Err kind
  unfolding begins function_in name_in
  head_reported kind (inl (wrong, none)) =
      let f = false_from_ne_true (one_name text) (λ t. none (first_word text) (name_found text t)) in
      rw (f, wrong) refl
  head_reported kind (inr (name, is, inl (unknown, none))) =
      let here = name_is name text is in
      let t = here.1 in
      by (number_of lists Function (first_word text)) refl t
    where
      by : (found : Option ℕ) → number_of lists Function (first_word text) ≡ found → one_name text ≡ true → headed lists n done text ≡ Err kind
      by None number t = rw (t, number, unknown) refl
      by (Some f) number t = absurd (none f (name_of-number_of lists Function f (first_word text) number ∙ ap Some (name_is name text is).0))
  head_reported kind (inr (name, is, inr (f, named, wrong, has))) =
      let here = name_is name text is in
      let t = here.1 in let word = here.0 in
      let number : number_of lists Function (first_word text) ≡ Some f = ap (λ w. number_of lists Function w) word ∙ number_of-name_of lists Function f name valid named in
      rw (t, number, has, wrong) refl

-- ---- a step

-- what a call says after an open script
abbrev stepped : NameLists → ℕ → List Steps → Open → List ℕ → Result Reading TextKind
stepped lists n done o text = (asks lists true text >>= λ s. took n (reading done (Some o)) s)

module _ (lists : NameLists) (valid : AreValid lists) (text : List ℕ) (line : list_all (is_of Line) text ≡ true) where
  -- a name that is no call's
  no_call : named (first_word text) ≡ None → (call : Call) → text_of call ≢ first_word text
  no_call none call is = absurd (let other = ap (λ w. named w) (sym is) ∙ named-text_of call in let bad = sym none ∙ other in cc)

  none_named : ((call : Call) → text_of call ≢ first_word text) → named (first_word text) ≡ None
  none_named none = by (named (first_word text)) refl
    where
      by : (found : Option Call) → named (first_word text) ≡ found → named (first_word text) ≡ None
      by None is = is
      by (Some call) is = absurd (none call (text_of-named (first_word text) call is))

  -- a call with a fault: no name of a call, or a fault of that call
  abbrev CallFails : TextKind → Type 0
  CallFails kind = ((kind ≡ BadWord) × ((call : Call) → text_of call ≢ first_word text)) ⊎ ((call : Call) × (text_of call ≡ first_word text) × CallFault lists call (following_word text) kind)

  call_fails : (kind : TextKind) → call_in lists text ≡ Err kind → CallFails kind
  unfolding call_in call_at named_call
  call_fails kind e = by (named (first_word text)) refl (rw line at e)
    where
      by : (found : Option Call) → named (first_word text) ≡ found → (named_call (first_word text) >>= λ name. call_after lists name (following_word text)) ≡ Err kind → CallFails kind
      by None is e2 = inl (sym (err_is {A = Call} BadWord kind (rw is at e2)), no_call is)
      by (Some call) is e2 = inr (call, text_of-named (first_word text) call is, call_fault lists call (following_word text) kind valid (rw is at e2))

  step_fault : (n : ℕ) (done : List Steps) (o : Open) (kind : TextKind) → stepped lists n done o text ≡ Err kind → StepFault lists o text kind
  unfolding asks
  step_fault n done o kind e = by (call_in lists text) refl e
    where
      by : (read : Result Call TextKind) → call_in lists text ≡ read → ((read >>= λ call. Ok (Some (said.Asks call))) >>= λ s. took n (reading done (Some o)) s) ≡ Err kind → StepFault lists o text kind
      by (Err k) is e2 = inr (line, elim (call_fails kind (is ∙ ap (λ x. Err x) (err_is {A = Reading} k kind e2))) [ inl s ↦ inl s | inr s ↦ inr (inl s) ])
      by (Ok call) is e2 =
          elim (cases_Bool (nat_lt (length o.steps) most_steps)) [
            | inl t ↦ absurd (let bad = rw t at e2 in cc)
            | inr f ↦ inr (line, inr (inr ((call, call_is_spelled lists text call is), sym (err_is {A = Reading} TooMany kind (rw f at e2)), ltb-false (length o.steps) most_steps f)))
          ]

-- ---- names, goals and values

bind_err : {A B E : Type 0} (r : Result A E) (f : A → Result B E) (k : E) → (r >>= f) ≡ Err k → (r ≡ Err k) ⊎ ((a : A) × (r ≡ Ok a) × (f a ≡ Err k))
bind_err (Ok a) f k e = inr (a, refl, e)
bind_err (Err x) f k e = inl (let same : x ≡ k = cc in ap (λ y. Err y) same)

ok_or_err : {A : Type 0} (o : Option A) (fault k : TextKind) → ok_or o fault ≡ Err k → (o ≡ None) × (k ≡ fault)
ok_or_err None fault k e = (refl, cc)
ok_or_err (Some a) fault k e = absurd cc

not_ok : {A E : Type 0} (a : A) (k : E) → ◌≡◌ {A = Result A E} (Ok a) (Err k) → ⊥
not_ok a k e = absurd cc

label_err : (text : List ℕ) (kind : TextKind) → label_in text ≡ Err kind → NameFault text kind
unfolding label_in name_in
label_err text kind e =
    elim (cases_Bool (one_name text)) [
      | inl t ↦
          elim (cases_Bool (is_taken (first_word text))) [
            | inl taken ↦ inr (first_word text, name_found text t, sym (err_is {A = List ℕ} UnknownName kind (rw (t, taken) at e)), taken)
            | inr free ↦ absurd (not_ok {A = List ℕ} (first_word text) kind (rw (t, free) at e))
          ]
      | inr f ↦ inl (sym (err_is {A = List ℕ} WrongArguments kind (rw f at e)), λ name is. false≢true (sym f ∙ (name_is name text is).1))
    ]

label_reported : (text : List ℕ) (kind : TextKind) → NameFault text kind → label_in text ≡ Err kind
unfolding label_in name_in
label_reported text kind (inl (wrong, none)) =
    let f = false_from_ne_true (one_name text) (λ t. none (first_word text) (name_found text t)) in
    rw (f, wrong) refl
label_reported text kind (inr (name, is, unknown, taken)) =
    let here = name_is name text is in
    let t = here.1 in
    let taken2 : is_taken (first_word text) ≡ true = ap is_taken here.0 ∙ taken in
    rw (t, taken2, unknown) refl

goal_err : (text : List ℕ) (kind : TextKind) → goal_in text ≡ Err kind → GoalFault text kind
unfolding goal_in
goal_err text kind e =
    elim (cases_Bool (bytes_eq (first_word text) (codes "goto"))) [
      | inl t ↦ inr (is_word (first_word text) (codes "goto") t, label_err (following_word text) kind (rw t at e))
      | inr f ↦ inl (sym (err_is {A = List ℕ} WrongArguments kind (rw f at e)), not_word (first_word text) (codes "goto") f)
    ]

goal_reported : (text : List ℕ) (kind : TextKind) → GoalFault text kind → goal_in text ≡ Err kind
unfolding goal_in
goal_reported text kind (inl (wrong, other)) = let f = other_word (first_word text) (codes "goto") other in rw (f, wrong) refl
goal_reported text kind (inr (word, fault)) = let t = same_word (first_word text) (codes "goto") word in rw t (label_reported (following_word text) kind fault)

data_read : (token : List ℕ) (v : ℤ) → SpellsData token v → value_in token ≡ Ok v
unfolding value_in
data_read token v (negative, n, spelled, range) = let number = number_of-spelled token negative n spelled in rw (number, range) refl

value_kind : (token : List ℕ) (r : Number) (kind : TextKind) → numeral token ≡ Some r → value_in token ≡ Err kind → kind ≡ NumberOutOfRange
unfolding value_in
value_kind token r kind is e = by r.zero_led r.magnitude refl refl (rw is at e)
  where
    by : (led : Bool) (m : Option ℕ) → r.zero_led ≡ led → r.magnitude ≡ m
        → ((cond r.zero_led (Err NumberOutOfRange) (ok_or r.magnitude NumberOutOfRange)) >>= λ n. ok_or (signed_of (2 ^ 63) r.negative n) NumberOutOfRange) ≡ Err kind → kind ≡ NumberOutOfRange
    by true m led size e2 = sym (err_is {A = ℤ} NumberOutOfRange kind (rw led at e2))
    by false None led size e2 = sym (err_is {A = ℤ} NumberOutOfRange kind (rw (led, size) at e2))
    by false (Some n) led size e2 = (ok_or_err (signed_of (2 ^ 63) r.negative n) NumberOutOfRange kind (rw (led, size) at e2)).1

none_kind : (token : List ℕ) (kind : TextKind) → value_in token ≡ Err kind → numeral token ≡ None → kind ≡ WrongArguments
unfolding value_in
none_kind token kind e is = sym (err_is {A = ℤ} WrongArguments kind (rw is at e))

value_err : (token : List ℕ) (kind : TextKind) → value_in token ≡ Err kind → ValueFault token kind
value_err token kind e = by (numeral token) refl
  where
    by : (found : Option Number) → numeral token ≡ found → ValueFault token kind
    by None is = inl (none_kind token kind e is, is)
    by (Some r) is = inr (value_kind token r kind is e, ap is_some is, λ v s. not_ok {A = ℤ} v kind (sym (data_read token v s) ∙ e))

none_reported : (token : List ℕ) (kind : TextKind) → kind ≡ WrongArguments → numeral token ≡ None → value_in token ≡ Err kind
unfolding value_in
none_reported token kind wrong is = rw (is, wrong) refl

value_reported : (token : List ℕ) (kind : TextKind) → ValueFault token kind → value_in token ≡ Err kind
value_reported token kind (inl (wrong, none)) = none_reported token kind wrong none
value_reported token kind (inr (range, some, none)) = by (value_in token) refl
  where
    from_none : (k : TextKind) → ValueFault token k → value_in token ≡ Err k → value_in token ≡ Err kind
    from_none k (inl (wrong, nothing)) is = absurd (let bad : false ≡ true = ap is_some (sym nothing) ∙ some in cc)
    from_none k (inr rest) is = is ∙ ap (λ x. Err x) (rest.0 ∙ sym range)

    by : (read : Result ℤ TextKind) → value_in token ≡ read → value_in token ≡ Err kind
    by (Ok v) is = let n = value_is token v is in absurd (none v (n.negative, n.magnitude, n.spelled, n.in_range))
    by (Err k) is = from_none k (value_err token k is) is

-- ---- answers

no_code : (word : List ℕ) → code_in word ≡ None → IsNoCode word
no_code word none c is = let bad : None ≡ Some c = sym none ∙ ap code_in (sym is) ∙ (code_read c).code_is in absurd cc

code_none : (word : List ℕ) → IsNoCode word → code_in word ≡ None
code_none word none = by (code_in word) refl
  where
    by : (found : Option Code) → code_in word ≡ found → code_in word ≡ None
    by None is = is
    by (Some c) is = absurd (none c (sym (code_word word c is)))

turned_err : (answer : Result Pattern TextKind) (rest : List ℕ) (kind : TextKind) → turned answer rest ≡ Err kind → (answer ≡ Err kind) ⊎ ((a : Pattern) × (answer ≡ Ok a) × GoalFault rest kind)
turned_err answer rest kind e =
    elim (bind_err answer (λ a. goal_in rest >>= λ name. Ok (Some (said.Jumps a name))) kind e) [
      | inl s ↦ inl s
      | inr s ↦
          elim (bind_err (goal_in rest) (λ name. Ok (Some (said.Jumps s.0 name))) kind s.2) [
            | inl g ↦ inr (s.0, s.1, goal_err rest kind g)
            | inr g ↦ absurd (not_ok {A = Option Said} (Some (said.Jumps s.0 g.0)) kind g.2)
          ]
    ]

turned_reported : (answer : Result Pattern TextKind) (rest : List ℕ) (kind : TextKind) (a : Pattern) → answer ≡ Ok a → GoalFault rest kind → turned answer rest ≡ Err kind
turned_reported answer rest kind a is fault = let goal = goal_reported rest kind fault in rw (is, goal) refl

turn_err : (word rest : List ℕ) (o : Option (List ℕ)) (kind : TextKind) → turn_with word rest o ≡ Err kind → TurnFault word rest o kind
unfolding pattern_of valued
turn_err word rest None kind e =
    elim (cases_Bool (is_identifier word)) [
      | inr f ↦ inl (sym (err_is {A = Option Said} WrongArguments kind (rw f at e)), f)
      | inl t ↦
          inr (
            t,
            elim (cases_Bool (bytes_eq word (codes "refused"))) [
              | inl r ↦
                  elim (turned_err (Ok pattern.Refused) rest kind (rw (t, r) at e)) [
                    | inl s ↦ absurd (not_ok {A = Pattern} pattern.Refused kind s)
                    | inr s ↦ inr (inl (is_word word (codes "refused") r), s.2)
                  ]
              | inr g ↦ by g (code_in word) refl (rw (t, g) at e)
            ],
          )
    ]
  where
    by : bytes_eq word (codes "refused") ≡ false → (found : Option Code) → code_in word ≡ found → turned (ok_or (code_in word) UnknownName >>= λ c. Ok (pattern.Coded c)) rest ≡ Err kind
        → ((kind ≡ UnknownName) × (word ≢ codes "refused") × IsNoCode word) ⊎ (((word ≡ codes "refused") ⊎ ((c : Code) × (code.name_of c ≡ word))) × GoalFault rest kind)
    by g None is e2 = inl (sym (err_is {A = Option Said} UnknownName kind (rw is at e2)), not_word word (codes "refused") g, no_code word is)
    by g (Some c) is e2 =
        elim (turned_err (Ok (pattern.Coded c)) rest kind (rw is at e2)) [
          | inl s ↦ absurd (not_ok {A = Pattern} (pattern.Coded c) kind s)
          | inr s ↦ inr (inr (c, sym (code_word word c is)), s.2)
        ]
turn_err word rest (Some text) kind e =
    elim (cases_Bool (is_identifier word)) [
      | inr f ↦ inl (sym (err_is {A = Option Said} WrongArguments kind (rw f at e)), f)
      | inl t ↦ inr (t, by (code_in word) refl (rw t at e))
    ]
  where
    by : (found : Option Code) → code_in word ≡ found
        → turned (ok_or (code_in word) UnknownName >>= λ c. value_in (prefix Argument text) >>= λ v. Ok (pattern.Valued c v)) (after Argument text) ≡ Err kind
        → ((kind ≡ UnknownName) × IsNoCode word) ⊎ ((c : Code) × (code.name_of c ≡ word) × (ValueFault (prefix Argument text) kind ⊎ ((v : ℤ) × SpellsData (prefix Argument text) v × GoalFault (after Argument text) kind)))
    by None is e2 = inl (sym (err_is {A = Option Said} UnknownName kind (rw is at e2)), no_code word is)
    by (Some c) is e2 =
        inr (
          c,
          sym (code_word word c is),
          elim (turned_err (value_in (prefix Argument text) >>= λ v. Ok (pattern.Valued c v)) (after Argument text) kind (rw is at e2)) [
            | inl s ↦
                elim (bind_err (value_in (prefix Argument text)) (λ v. Ok (pattern.Valued c v)) kind s) [
                  | inl bad ↦ inl (value_err (prefix Argument text) kind bad)
                  | inr good ↦ absurd (not_ok {A = Pattern} (pattern.Valued c good.0) kind good.2)
                ]
            | inr s ↦ inr (goes_on c s)
          ],
        )
      where
        goes_on : (c : Code) → (a : Pattern) × ((value_in (prefix Argument text) >>= λ v. Ok (pattern.Valued c v)) ≡ Ok a) × GoalFault (after Argument text) kind → (v : ℤ) × SpellsData (prefix Argument text) v × GoalFault (after Argument text) kind
        goes_on c (a, is, goal) =
            let b = bind_parts (value_in (prefix Argument text)) (λ v. Ok (pattern.Valued c v)) a is in
            let n = value_is (prefix Argument text) b.0 b.1 in
            (b.0, (n.negative, n.magnitude, n.spelled, n.in_range), goal)

not_refused : (c : Code) → bytes_eq (code.name_of c) (codes "refused") ≡ false
not_refused Accepted = refl
not_refused Parameter = refl
not_refused Identifier = refl
not_refused Context = refl
not_refused IllegalUse = refl
not_refused ObjectState = refl
not_refused QueueOverflow = refl
not_refused WaitReleased = refl
not_refused TimedOut = refl

turn_reported : (word rest : List ℕ) (o : Option (List ℕ)) (kind : TextKind) → TurnFault word rest o kind → turn_with word rest o ≡ Err kind
unfolding pattern_of valued
turn_reported word rest None kind (inl (wrong, f)) = rw (f, wrong) refl
turn_reported word rest None kind (inr (t, inl (unknown, other, none))) =
    let g = other_word word (codes "refused") other in
    let is = code_none word none in
    rw (t, g, is, unknown) refl
turn_reported word rest None kind (inr (t, inr (inl refused, goal))) =
    let r = same_word word (codes "refused") refused in
    rw (t, r) (turned_reported (Ok pattern.Refused) rest kind pattern.Refused refl goal)
turn_reported word rest None kind (inr (t, inr (inr (c, name), goal))) =
    let g : bytes_eq word (codes "refused") ≡ false = ap (λ (w : List ℕ). bytes_eq w (codes "refused")) (sym name) ∙ not_refused c in
    let is : code_in word ≡ Some c = ap code_in (sym name) ∙ (code_read c).code_is in
    rw (t, g, is) (turned_reported (Ok (pattern.Coded c)) rest kind (pattern.Coded c) refl goal)
turn_reported word rest (Some text) kind (inl (wrong, f)) = rw (f, wrong) refl
turn_reported word rest (Some text) kind (inr (t, inl (unknown, none))) = let is = code_none word none in rw (t, is, unknown) refl
turn_reported word rest (Some text) kind (inr (t, inr (c, name, inl fault))) =
    let is : code_in word ≡ Some c = ap code_in (sym name) ∙ (code_read c).code_is in
    let value = value_reported (prefix Argument text) kind fault in
    rw (t, is, value) refl
turn_reported word rest (Some text) kind (inr (t, inr (c, name, inr (v, spells, goal)))) =
    let is : code_in word ≡ Some c = ap code_in (sym name) ∙ (code_read c).code_is in
    let value = data_read (prefix Argument text) v spells in
    rw (t, is, value) (turned_reported (Ok (pattern.Valued c v)) (after Argument text) kind (pattern.Valued c v) refl goal)

-- ---- what the table has of calls is read

module _ (lists : NameLists) (valid : AreValid lists) (text : List ℕ) (line : list_all (is_of Line) text ≡ true) where
  -- the same text as an event on the first processor
  abbrev on_first : List ℕ
  on_first = codes "P1 " ++ text

  first_is : (first_word on_first ≡ codes "P1") × (following_word on_first ≡ 32 ∷ text)
  unfolding is_of
  first_is = first_word_of [] (codes "P1") (32 ∷ text) on_first refl refl (omega arith) (blanks_stop (32 ∷ []) text refl (omega arith)) refl

  first_line : list_all (is_of Line) on_first ≡ true
  unfolding is_of
  first_line = line

  blank_first : after Blank (32 ∷ text) ≡ after Blank text
  unfolding is_of
  blank_first =
      let one : 1 + prefix_len (is_of Blank) text ≡ suc (prefix_len (is_of Blank) text) = omega arith in
      ap (λ i. drop i (32 ∷ text)) one

  first_stays : is_skipped on_first ≡ false
  first_stays = word_stays on_first (omega (arith, ap length first_is.0))

  first_kept : without_return on_first ≡ on_first
  first_kept = core_of on_first on_first (inl refl) first_line

  first_number : codes "P1" ≡ 80 ∷ decimal 1
  first_number = ap (λ d. 80 ∷ d) (sym (decimal_digit 1 (omega arith)))

  module _ (call : Call) (word : text_of call ≡ first_word text) where
    first_fault : (kind : TextKind) → CallFault lists call (following_word text) kind → EventFault lists on_first kind
    first_fault kind fault =
        let happening : HappeningFault lists (32 ∷ text) kind =
        inr (inr (call, word ∙ ap (prefix Word) (sym blank_first), subst (λ (t : List ℕ). CallFault lists call (after Word t) kind) (sym blank_first) fault)) in
        let core : CoreFault lists on_first kind = inr (
          first_line,
          inr (
            (codes "1", first_is.0, refl),
            inr ((1, omega arith, valid.least, first_is.0 ∙ first_number), subst (λ (t : List ℕ). HappeningFault lists t kind) (sym first_is.1) happening),
          ),
        ) in (
          λ nothing. false≢true (sym first_stays ∙ ap is_skipped (sym first_kept) ∙ nothing_read on_first nothing),
          subst (λ (t : List ℕ). CoreFault lists t kind) (sym first_kept) core,
        )

    call_reported : (kind : TextKind) → CallFault lists call (following_word text) kind → call_in lists text ≡ Err kind
    unfolding line_event event_in event_at event_of call_in
    call_reported kind fault =
        let e = event_reported lists on_first kind valid (first_fault kind fault) in
        let processor : processor_in lists (first_word on_first) ≡ Ok (as_proc 1) = ap (processor_in lists) (first_is.0 ∙ first_number) ∙ processor_read lists 1 (omega arith) valid.least valid.most in
        let tick : bytes_eq (first_word text) (codes "tick") ≡ false = ap (λ (w : List ℕ). bytes_eq w (codes "tick")) (sym word) ∙ no_tick call in
        let ipi : bytes_eq (first_word text) (codes "ipi") ≡ false = ap (λ (w : List ℕ). bytes_eq w (codes "ipi")) (sym word) ∙ no_ipi call in
        let following = first_is.1 in
        by (call_at lists (after Blank text)) refl (rw (first_kept, first_stays, first_line, processor, following, blank_first, tick, ipi) at e)
      where
        by : (read : Result Call TextKind) → call_at lists (after Blank text) ≡ read
            → ((read >>= λ c. Ok (event.Call (as_proc 1) c)) >>= λ happened. Ok (Some happened)) ≡ Err kind → call_in lists text ≡ Err kind
        by (Ok c) is e2 = absurd (ok_is_none (Some (event.Call (as_proc 1) c)) kind e2)
        by (Err k) is e2 = rw (line, is) (ap (λ x. Err x) (err_is {A = Option Event} k kind e2))

  name_reported : ((call : Call) → text_of call ≢ first_word text) → call_in lists text ≡ Err BadWord
  unfolding call_in call_at named_call
  name_reported none = let no_name = none_named lists valid text line none in rw (line, no_name) refl

-- ---- steps, labels and jumps of an open script

-- a call with a byte that no call has
bad_byte : (lists : NameLists) (n : ℕ) (done : List Steps) (o : Open) (text : List ℕ) (kind : TextKind) → list_all (is_of Line) text ≡ false → (asks lists true text >>= λ s. took n (reading done (Some o)) s) ≡ Err kind → kind ≡ BadByte
unfolding asks call_in
bad_byte lists n done o text kind line e = sym (err_is {A = Reading} BadByte kind (rw line at e))

abbrev said_more : ℕ → List Steps → Open → Result (Option Said) TextKind → Result Reading TextKind
said_more n done o said = (said >>= λ s. took n (reading done (Some o)) s)

module _ (lists : NameLists) (valid : AreValid lists) (n : ℕ) (done : List Steps) (o : Open) (text : List ℕ) where
  step_err : (kind : TextKind) → said_more n done o (asks lists true text) ≡ Err kind → StepFault lists o text kind
  step_err kind e = by (list_all (is_of Line) text) refl
    where
      by : (b : Bool) → list_all (is_of Line) text ≡ b → StepFault lists o text kind
      by true line = step_fault lists valid text line n done o kind e
      by false line = inl (byte_kind line, line)
        where
          byte_kind : list_all (is_of Line) text ≡ false → kind ≡ BadByte
          byte_kind no_line = bad_byte lists n done o text kind no_line e

  step_recorded : (kind : TextKind) → StepFault lists o text kind → said_more n done o (asks lists true text) ≡ Err kind
  unfolding asks call_in
  step_recorded kind (inl (bad, byte)) = rw (byte, bad) refl
  step_recorded kind (inr (line, fault)) = by fault
    where
      by : (((kind ≡ BadWord) × ((call : Call) → text_of call ≢ first_word text))
          ⊎ (((call : Call) × (text_of call ≡ first_word text) × CallFault lists call (following_word text) kind)
          ⊎ (((call : Call) × SpellsCall lists text call) × (kind ≡ TooMany) × (most_steps ≤ length o.steps)))) → said_more n done o (asks lists true text) ≡ Err kind
      by (inl (bad, none)) = ap (λ (c : Result Call TextKind). said_more n done o (c >>= λ call. Ok (Some (said.Asks call)))) (name_reported lists valid text line none) ∙ ap (λ x. Err x) (sym bad)
      by (inr (inl (call, word, fault2))) = ap (λ (c : Result Call TextKind). said_more n done o (c >>= λ x. Ok (Some (said.Asks x)))) (call_reported lists valid text line call word kind fault2)
      by (inr (inr ((call, spells), many, full))) =
          let test = le-ltb (length o.steps) most_steps full in
          ap (λ (c : Result Call TextKind). said_more n done o (c >>= λ x. Ok (Some (said.Asks x)))) (call_in-spelled lists text call valid spells) ∙ rw (test, many) refl

  label_fault : (name rest : List ℕ) (kind : TextKind) → said_more n done o (stands true name rest) ≡ Err kind → LabelFault o name rest kind
  unfolding stands
  label_fault name rest kind e =
      elim (cases_Bool (is_identifier name)) [
        | inr f ↦ inl (sym (err_is {A = Reading} WrongArguments kind (rw f at e)), inl f)
        | inl t ↦
            elim (cases_Bool (list_all (is_of Blank) rest)) [
              | inr more ↦ inl (sym (err_is {A = Reading} WrongArguments kind (rw (t, more) at e)), inr (λ blank. false≢true (sym more ∙ blank)))
              | inl blank ↦
                  elim (cases_Bool (has_label o.labels name)) [
                    | inl has ↦ inr (t, blank, inl (sym (err_is {A = Reading} WrongArguments kind (rw (t, blank, has) at e)), has))
                    | inr new ↦
                        elim (cases_Bool (nat_lt (length o.labels) most_labels)) [
                          | inl room ↦ absurd (let bad = rw (t, blank, new, room) at e in cc)
                          | inr full ↦ inr (t, blank, inr (sym (err_is {A = Reading} TooMany kind (rw (t, blank, new, full) at e)), new, ltb-false (length o.labels) most_labels full))
                        ]
                  ]
            ]
      ]

  label_fault_reported : (name rest : List ℕ) (kind : TextKind) → LabelFault o name rest kind → said_more n done o (stands true name rest) ≡ Err kind
  unfolding stands
  label_fault_reported name rest kind (inl (wrong, inl f)) = rw (f, wrong) refl
  label_fault_reported name rest kind (inl (wrong, inr more)) =
      let other = false_from_ne_true (list_all (is_of Blank) rest) more in
      elim (cases_Bool (is_identifier name)) [ inl t ↦ rw (t, other, wrong) refl | inr f ↦ rw (f, wrong) refl ]
  label_fault_reported name rest kind (inr (t, blank, inl (wrong, has))) = rw (t, blank, has, wrong) refl
  label_fault_reported name rest kind (inr (t, blank, inr (many, new, full))) = let test = le-ltb (length o.labels) most_labels full in rw (t, blank, new, test, many) refl

  other_fault : (found : Option (List ℕ)) (kind : TextKind) → said_more n done o (other_said lists true text found) ≡ Err kind → OtherFault lists o text found kind
  other_fault None kind e = step_err kind e
  other_fault (Some rest) kind e = label_fault (first_word text) rest kind e

  other_reported : (found : Option (List ℕ)) (kind : TextKind) → OtherFault lists o text found kind → said_more n done o (other_said lists true text found) ≡ Err kind
  other_reported None kind fault = step_recorded kind fault
  other_reported (Some rest) kind fault = label_fault_reported (first_word text) rest kind fault

  -- a jump that was read and may not stand there
  misplaced : (answer : Pattern) (name : List ℕ) (kind : TextKind) → took n (reading done (Some o)) (Some (said.Jumps answer name)) ≡ Err kind → JumpFault o kind
  misplaced answer name kind e = by o.following refl
    where
      by : (b : Bool) → o.following ≡ b → JumpFault o kind
      by true is =
          elim (cases_Bool (nat_lt (length o.jumps) most_ways)) [
            | inl room ↦ absurd (let bad = rw (is, room) at e in cc)
            | inr full ↦ inr (sym (err_is {A = Reading} TooMany kind (rw (is, full) at e)), is, ltb-false (length o.jumps) most_ways full)
          ]
      by false is = inl (sym (err_is {A = Reading} BadWord kind (rw is at e)), is)

  end_fault : (kind : TextKind) → said_more n done o (ends true (following_word text)) ≡ Err kind → EndFault o (following_word text) kind
  unfolding ends
  end_fault kind e =
      elim (cases_Bool (list_all (is_of Blank) (following_word text))) [
        | inr more ↦ inl (sym (err_is {A = Reading} WrongArguments kind (rw more at e)), λ blank. false≢true (sym more ∙ blank))
        | inl blank ↦ by blank (linked o.labels o.jumps) refl (rw blank at e)
      ]
    where
      by : AreBlank (following_word text) → (ways : Option (List Way)) → linked o.labels o.jumps ≡ ways → ended (reading done (Some o)) o (linked o.labels o.jumps) ≡ Err kind → EndFault o (following_word text) kind
      by blank None is e2 = inr (blank, sym (err_is {A = Reading} UnknownName kind (rw is at e2)), is)
      by blank (Some ways) is e2 = absurd (let bad = rw is at e2 in cc)

  end_reported : (kind : TextKind) → EndFault o (following_word text) kind → said_more n done o (ends true (following_word text)) ≡ Err kind
  unfolding ends
  end_reported kind (inl (wrong, more)) = let other = false_from_ne_true (list_all (is_of Blank) (following_word text)) more in rw (other, wrong) refl
  end_reported kind (inr (blank, unknown, none)) = rw (blank, none, unknown) refl

-- ---- a line by its first word

abbrev worded : NameLists → ℕ → List Steps → Option Open → List ℕ → Result Reading TextKind
worded lists n done unclosed text = (said_by lists (is_some unclosed) text >>= λ s. took n (reading done unclosed) s)

-- what a jump of a line was read as
jump_spelled : (lists : NameLists) (text : List ℕ) (what : Option Said) (answer : Pattern) (name : List ℕ) → said_by lists true text ≡ Ok what → what ≡ Some (said.Jumps answer name) → SpellsPart lists text (Jumps answer name)
jump_spelled lists text what answer name e is = (text_spelled lists true text (Some (said.Jumps answer name)) (e ∙ ap (λ x. Ok x) is)).1

module _ (lists : NameLists) (valid : AreValid lists) (n : ℕ) (done : List Steps) (text : List ℕ) where
  abbrev is_first : List ℕ → Bool
  is_first word = bytes_eq (first_word text) word

  outside_fault : (kind : TextKind) → worded lists n done None text ≡ Err kind → WordFault lists done None text kind
  unfolding said_by begins ends asks turns goes stands
  outside_fault kind e =
      elim (cases_Bool (is_first (codes "script"))) [
        | inl t ↦ inr (is_word (first_word text) (codes "script") t, head_fault lists valid n done (following_word text) kind (rw t at e))
        | inr f ↦ inl (bad f, not_word (first_word text) (codes "script") f)
      ]
    where
      other_bad : (found : Option (List ℕ)) → (other_said lists false text found >>= λ s. took n (reading done None) s) ≡ Err kind → kind ≡ BadWord
      other_bad None e2 = sym (err_is {A = Reading} BadWord kind e2)
      other_bad (Some rest) e2 = sym (err_is {A = Reading} BadWord kind e2)

      bad : is_first (codes "script") ≡ false → kind ≡ BadWord
      bad f =
          elim (cases_Bool (is_first (codes "end"))) [
            | inl t ↦ sym (err_is {A = Reading} BadWord kind (rw (f, t) at e))
            | inr g ↦
                elim (cases_Bool (is_first (codes "ret_hdr"))) [
                  | inl t ↦ sym (err_is {A = Reading} BadWord kind (rw (f, g, t) at e))
                  | inr h ↦
                      elim (cases_Bool (is_first (codes "on"))) [
                        | inl t ↦ sym (err_is {A = Reading} BadWord kind (rw (f, g, h, t) at e))
                        | inr i ↦
                            elim (cases_Bool (is_first (codes "goto"))) [
                              | inl t ↦ sym (err_is {A = Reading} BadWord kind (rw (f, g, h, i, t) at e))
                              | inr j ↦ other_bad (following colon (after Blank (following_word text))) (rw (f, g, h, i, j) at e)
                            ]
                      ]
                ]
          ]

  outside_reported : (kind : TextKind) → WordFault lists done None text kind → worded lists n done None text ≡ Err kind
  unfolding said_by begins ends asks turns goes stands
  outside_reported kind (inr (word, fault)) =
      let t = same_word (first_word text) (codes "script") word in
      let report = head_reported lists valid n done (following_word text) kind fault in
      rw t report
  outside_reported kind (inl (bad, other)) =
      let f = other_word (first_word text) (codes "script") other in
      elim (cases_Bool (is_first (codes "end"))) [
        | inl t ↦ rw (f, t, bad) refl
        | inr g ↦
            elim (cases_Bool (is_first (codes "ret_hdr"))) [
              | inl t ↦ rw (f, g, t, bad) refl
              | inr h ↦
                  elim (cases_Bool (is_first (codes "on"))) [
                    | inl t ↦ rw (f, g, h, t, bad) refl
                    | inr i ↦
                        elim (cases_Bool (is_first (codes "goto"))) [
                          | inl t ↦ rw (f, g, h, i, t, bad) refl
                          | inr j ↦ rw (f, g, h, i, j) (other_bad (following colon (after Blank (following_word text))))
                        ]
                  ]
            ]
      ]
    where
      other_bad : (found : Option (List ℕ)) → (other_said lists false text found >>= λ s. took n (reading done None) s) ≡ Err kind
      other_bad None = rw bad refl
      other_bad (Some rest) = rw bad refl

  module _ (o : Open) where
    -- a line of `on` or `goto`, by whether it was read
    jump_fault : (read : Result (Option Said) TextKind) (kind : TextKind) → said_by lists true text ≡ read → ((what : Option Said) → read ≡ Ok what → (answer : Pattern) × (name : List ℕ) × (what ≡ Some (said.Jumps answer name)))
        → said_more n done o read ≡ Err kind → (read ≡ Err kind) ⊎ ((answer : Pattern) × (name : List ℕ) × SpellsPart lists text (Jumps answer name) × JumpFault o kind)
    jump_fault (Err k) kind is jumps e = inl (ap (λ x. Err x) (err_is {A = Reading} k kind e))
    jump_fault (Ok what) kind is jumps e =
        let j = jumps what refl in
        let m = misplaced lists valid n done o text j.0 j.1 kind (ap (took n (reading done (Some o))) (sym j.2) ∙ e) in
        inr (j.0, j.1, jump_spelled lists text what j.0 j.1 is j.2, m)

    turn_jumps : (word rest : List ℕ) (found : Option (List ℕ)) (what : Option Said) → turn_with word rest found ≡ Ok what → (answer : Pattern) × (name : List ℕ) × (what ≡ Some (said.Jumps answer name))
    turn_jumps word rest None what e = as_jump (pattern_of word) rest what e
      where
        as_jump : (answer : Result Pattern TextKind) (rest2 : List ℕ) (what2 : Option Said) → turned answer rest2 ≡ Ok what2 → (a : Pattern) × (name : List ℕ) × (what2 ≡ Some (said.Jumps a name))
        as_jump answer rest2 what2 e2 =
            let b = bind_parts answer (λ a. goal_in rest2 >>= λ name. Ok (Some (said.Jumps a name))) what2 e2 in
            let d = bind_parts (goal_in rest2) (λ name. Ok (Some (said.Jumps b.0 name))) what2 b.2 in
            (b.0, d.0, (let e3 = d.2 in cc))
    turn_jumps word rest (Some text2) what e = as_jump (valued word (prefix Argument text2)) (after Argument text2) what e
      where
        as_jump : (answer : Result Pattern TextKind) (rest2 : List ℕ) (what2 : Option Said) → turned answer rest2 ≡ Ok what2 → (a : Pattern) × (name : List ℕ) × (what2 ≡ Some (said.Jumps a name))
        as_jump answer rest2 what2 e2 =
            let b = bind_parts answer (λ a. goal_in rest2 >>= λ name. Ok (Some (said.Jumps a name))) what2 e2 in
            let d = bind_parts (goal_in rest2) (λ name. Ok (Some (said.Jumps b.0 name))) what2 b.2 in
            (b.0, d.0, (let e3 = d.2 in cc))

    goto_jumps : (what : Option Said) → goes true (following_word text) ≡ Ok what → (answer : Pattern) × (name : List ℕ) × (what ≡ Some (said.Jumps answer name))
    unfolding goes
    goto_jumps what e =
        let b = bind_parts (label_in (following_word text)) (λ name. Ok (Some (said.Jumps pattern.Any name))) what e in
        (pattern.Any, b.0, (let e3 = b.2 in cc))

    goto_kind : (kind : TextKind) → goes true (following_word text) ≡ Err kind → NameFault (following_word text) kind
    unfolding goes
    goto_kind kind e =
        elim (bind_err (label_in (following_word text)) (λ name. Ok (Some (said.Jumps pattern.Any name))) kind e) [
          | inl s ↦ label_err (following_word text) kind s
          | inr s ↦ absurd (not_ok {A = Option Said} (Some (said.Jumps pattern.Any s.0)) kind s.2)
        ]

    inside_fault : (kind : TextKind) → worded lists n done (Some o) text ≡ Err kind → WordFault lists done (Some o) text kind
    unfolding said_by begins turns turn_in
    inside_fault kind e =
        elim (cases_Bool (is_first (codes "script"))) [
          | inl t ↦ inl (sym (err_is {A = Reading} BadWord kind (rw t at e)), inl (is_word (first_word text) (codes "script") t))
          | inr f ↦
              elim (cases_Bool (is_first (codes "end"))) [
                | inl t ↦ inr (inl (is_word (first_word text) (codes "end") t, end_fault lists valid n done o text kind (rw (f, t) at e)))
                | inr g ↦
                    elim (cases_Bool (is_first (codes "ret_hdr"))) [
                      | inl t ↦ inl (sym (err_is {A = Reading} BadWord kind (rw (f, g, t) at e)), inr (is_word (first_word text) (codes "ret_hdr") t))
                      | inr h ↦
                          elim (cases_Bool (is_first (codes "on"))) [
                            | inl t ↦
                                let word = first_word (following_word text) in
                                let rest = following_word (following_word text) in
                                let whole : said_by lists true text ≡ turn_with word rest (following colon rest) = rw (f, g, h, t) refl in
                                elim (jump_fault (turn_with word rest (following colon rest)) kind whole (λ what is. turn_jumps word rest (following colon rest) what is) (rw (f, g, h, t) at e)) [
                                  | inl s ↦ inr (inr (inl (is_word (first_word text) (codes "on") t, turn_err word rest (following colon rest) kind s)))
                                  | inr s ↦ inr (inr (inr (inr (inl s))))
                                ]
                            | inr i ↦
                                elim (cases_Bool (is_first (codes "goto"))) [
                                  | inl t ↦
                                      let whole : said_by lists true text ≡ goes true (following_word text) = rw (f, g, h, i, t) refl in
                                      elim (jump_fault (goes true (following_word text)) kind whole goto_jumps (rw (f, g, h, i, t) at e)) [
                                        | inl s ↦ inr (inr (inr (inl (is_word (first_word text) (codes "goto") t, goto_kind kind s))))
                                        | inr s ↦ inr (inr (inr (inr (inl s))))
                                      ]
                                  | inr j ↦
                                      let free : is_taken (first_word text) ≡ false = rw (f, g, h, i, j) refl in
                                      inr (inr (inr (inr (inr (free, other_fault lists valid n done o text (following colon (after Blank (following_word text))) kind (rw (f, g, h, i, j) at e))))))
                                ]
                          ]
                    ]
              ]
        ]

    inside_reported : (kind : TextKind) → WordFault lists done (Some o) text kind → worded lists n done (Some o) text ≡ Err kind
    unfolding said_by begins turns turn_in goes
    inside_reported kind (inl (bad, inl word)) = let t = same_word (first_word text) (codes "script") word in rw (t, bad) refl
    inside_reported kind (inl (bad, inr word)) =
        let f : is_first (codes "script") ≡ false = ap (λ (w : List ℕ). bytes_eq w (codes "script")) word in
        let g : is_first (codes "end") ≡ false = ap (λ (w : List ℕ). bytes_eq w (codes "end")) word in
        let t = same_word (first_word text) (codes "ret_hdr") word in
        rw (f, g, t, bad) refl
    inside_reported kind (inr (inl (word, fault))) =
        let f : is_first (codes "script") ≡ false = ap (λ (w : List ℕ). bytes_eq w (codes "script")) word in
        let t = same_word (first_word text) (codes "end") word in
        rw (f, t) (end_reported lists valid n done o text kind fault)
    inside_reported kind (inr (inr (inl (word, fault)))) =
        let f : is_first (codes "script") ≡ false = ap (λ (w : List ℕ). bytes_eq w (codes "script")) word in
        let g : is_first (codes "end") ≡ false = ap (λ (w : List ℕ). bytes_eq w (codes "end")) word in
        let h : is_first (codes "ret_hdr") ≡ false = ap (λ (w : List ℕ). bytes_eq w (codes "ret_hdr")) word in
        let t = same_word (first_word text) (codes "on") word in
        let report = turn_reported (first_word (following_word text)) (following_word (following_word text)) (following colon (following_word (following_word text))) kind fault in
        rw (f, g, h, t, report) refl
    inside_reported kind (inr (inr (inr (inl (word, fault))))) =
        let f : is_first (codes "script") ≡ false = ap (λ (w : List ℕ). bytes_eq w (codes "script")) word in
        let g : is_first (codes "end") ≡ false = ap (λ (w : List ℕ). bytes_eq w (codes "end")) word in
        let h : is_first (codes "ret_hdr") ≡ false = ap (λ (w : List ℕ). bytes_eq w (codes "ret_hdr")) word in
        let i : is_first (codes "on") ≡ false = ap (λ (w : List ℕ). bytes_eq w (codes "on")) word in
        let t = same_word (first_word text) (codes "goto") word in
        let report = label_reported (following_word text) kind fault in
        rw (f, g, h, i, t, report) refl
    inside_reported kind (inr (inr (inr (inr (inl (answer, name, spells, inl (bad, there))))))) =
        let says = (part_says lists text (Jumps answer name) valid spells).says in
        ap (said_more n done o) says ∙ rw (there, bad) refl
    inside_reported kind (inr (inr (inr (inr (inl (answer, name, spells, inr (many, there, full))))))) =
        let says = (part_says lists text (Jumps answer name) valid spells).says in
        let test = le-ltb (length o.jumps) most_ways full in
        ap (said_more n done o) says ∙ rw (there, test, many) refl
    inside_reported kind (inr (inr (inr (inr (inr (free, fault)))))) =
        let w = free_parts (first_word text) free in
        let f = w.no_script in let g = w.no_end in let h = w.no_return in let i = w.no_on in let j = w.no_goto in
        rw (f, g, h, i, j) (other_reported lists valid n done o text (following colon (after Blank (following_word text))) kind fault)

  word_fault : (unclosed : Option Open) (kind : TextKind) → worded lists n done unclosed text ≡ Err kind → WordFault lists done unclosed text kind
  word_fault None kind e = outside_fault kind e
  word_fault (Some o) kind e = inside_fault o kind e

  word_reported : (unclosed : Option Open) (kind : TextKind) → WordFault lists done unclosed text kind → worded lists n done unclosed text ≡ Err kind
  word_reported None kind fault = outside_reported kind fault
  word_reported (Some o) kind fault = inside_reported o kind fault

pub line_fault : (lists : NameLists) (n : ℕ) (r : Reading) (line : List ℕ) (kind : TextKind) → AreValid lists → with_line lists n r line ≡ Err kind → ScriptFault lists r.scripts r.unclosed line kind
unfolding said_in
line_fault lists n r line kind valid e =
    elim (cases_Bool (is_skipped (without_return line))) [
      | inl t ↦ absurd (let right = rw t at e in cc)
      | inr f ↦ (
        λ nothing. false≢true (sym f ∙ nothing_read line nothing),
        elim (cases_Bool (are_line (without_return line))) [
          | inl t ↦ inr (t, word_fault lists valid n r.scripts (without_return line) r.unclosed kind (rw (f, t) at e))
          | inr g ↦ inl (sym (err_is {A = Reading} BadByte kind (rw (f, g) at e)), g)
        ],
      )
    ]

pub line_reported : (lists : NameLists) (n : ℕ) (r : Reading) (line : List ℕ) (kind : TextKind) → AreValid lists → ScriptFault lists r.scripts r.unclosed line kind → with_line lists n r line ≡ Err kind
unfolding said_in
line_reported lists n r line kind valid (some, inl (bad, byte)) =
    let stays = false_from_ne_true (is_skipped (without_return line)) (λ t. some (nothing_spelled line t)) in
    rw (stays, byte, bad) refl
line_reported lists n r line kind valid (some, inr (bytes, fault)) =
    let stays = false_from_ne_true (is_skipped (without_return line)) (λ t. some (nothing_spelled line t)) in
    let report = word_reported lists valid n r.scripts (without_return line) r.unclosed kind fault in
    rw (stays, bytes) report
