-- The fault of a line is that of the table.
use Rattle.std.proofs.Common.{◌≡◌, ℕ, ◌<◌, ◌≤◌, ◌^◌, Bool, true, false, not, ◌||◌, ◌⊎◌, cond, eqb, inl, inr, List, [], ◌∷◌, ◌++◌, length, Option, Some, None, Result, Ok, Err, is_some, refl, sym, ap, subst, ◌∙◌, arith}
use Rattle.std.specs.Prelude.{codes}
use Rattle.std.specs.List.{list_all, join_with_byte}
use Rattle.std.specs.Option.{ok_or, option_map_or, option_or}
use Rattle.std.specs.Str.{bytes_eq}
use Rattle.std.proofs.lemmas.Bool.{cases_Bool, and_parts, and_from, or_cases, eq-eqb, eqb-true, le-leb, false≢true, or_parts}
use Rattle.std.proofs.lemmas.Option.{cond_some}
use Rattle.fmp_bytes.specs.Bytes.{is_of, prefix, after, following, pieces_of, is_identifier}
use Rattle.fmp_bytes.specs.Numerals.{are_digits, is_zero_led, number_of, signed_of, unsigned_limited}
use Rattle.fmp_bytes.specs.declared.classes.Class.TheVariants.{Blank, Word, Line}
use Rattle.fmp_bytes.specs.declared.numerals.Number.{Number}
use Rattle.fmp_bytes.proofs.Cutting.{pieces_of-join, join-pieces_of, some-pieces_of}
use Rattle.fmp_bytes.proofs.Parsed.{and_then_parts, ok_or_parts, some_is, bind_parts}
use Rattle.fmp_bytes.proofs.Prefixes.{list_all-join, list_all-weaker}
use Rattle.fmp_bytes.proofs.Spelled.{following-same}
use Rattle.fmp_bytes.proofs.Words.{is_word, not_word}
use Rattle.fmp_bytes.specs.Results.{◌>>=◌}
use Rattle.fmp_codes.specs.Kinds.{is_of_kind, are_of_kinds}
use Rattle.fmp_calls.specs.Table.{is_bare, kinds_of, call_of, named}
use Rattle.fmp_codes.specs.declared.kinds.ArgumentKind.{ArgumentKind}
use Rattle.fmp_codes.specs.declared.kinds.ArgumentKind.TheVariants as kinds
use Rattle.fmp_codes.specs.declared.kinds.ObjectKind.TheVariants as objects
use Rattle.fmp_codes.specs.declared.kinds.Value.{Value}
use Rattle.fmp_codes.specs.declared.kinds.Value.TheVariants as values
use Rattle.fmp_calls.proofs.Matched.{bare_alone, length-kinds_of-le, named-text_of, text_of-named}
use Rattle.fmp_codes.specs.declared.calls.Call.{Call}
use Rattle.fmp_codes.specs.declared.numbers.Proc.{Proc}
use Rattle.fmp_codes.specs.declared.records.Event.{Event}
use Rattle.fmp_codes.specs.declared.records.Event.TheVariants as events
use Rattle.fmp_names.specs.Constants.{constant_in, value_of}
use Rattle.fmp_names.specs.Names.{NameLists, AreValid, is_object, is_constant}
use Rattle.fmp_names.specs.declared.constants.Constant.{Constant}
use Rattle.fmp_names.specs.declared.constants.Constant.TheVariants.{TskSelf, TpriSelf, TpriIni, TprcIni, TmoPol, TmoFevr, TwfAndw, TwfOrw}
use Rattle.fmp_text.specs.Argument.{is_argument, tokens_in, arguments_in, enclosed_in, arguments_after, ranged, number_value, constant_of, object_of, named_value, judged_number, value_at}
use Rattle.fmp_text.specs.EventFaults.{first_word, following_word, ArePieces, AreArguments, HasForm, ArgumentFault, ArgumentsFault, CallFault, HappeningFault, IsProcessorWord, NamesProcessor, CoreFault, EventFault}
use Rattle.fmp_text.specs.Grammar.{AreBlank, SpellsValue}
use Rattle.fmp_text.specs.Lines.{digits_of, processor_numbered, processor_in, alone, event_of, event_at, event_in, is_skipped, without_return, line_event}
use Rattle.fmp_text.specs.Reading.{named_call, values_at, call_with, call_after, call_at}
use Rattle.fmp_text.specs.declared.fault.TextKind.{TextKind}
use Rattle.fmp_text.specs.declared.fault.TextKind.TheVariants.{BadByte, BadWord, UnknownName, WrongArguments, NumberOutOfRange}
use Rattle.fmp_text.proofs.Limited.{mapped}
use Rattle.fmp_text.proofs.Spelled.{value_at-spelled, value_is_spelled}
use Rattle.fmp_text.proofs.SpelledCalls.{inside, outside, token_bytes, not_all_blank, padded_read, padded_inside, token_is_padded, tokens_parts, list_all-all, enclosed_read, enclosed_spelled}
use Rattle.fmp_text.proofs.SpelledEvents.{processor_read, processor_spelled, digits_parts}
use Rattle.fmp_text.proofs.SpelledTexts.{nothing_read}

-- ---- results

pub err_is : {A : Type 0} (a b : TextKind) → ◌≡◌ {A = Result A TextKind} (Err a) (Err b) → a ≡ b
err_is a b e = cc

pub ok_is_none : {A : Type 0} (a : A) (b : TextKind) → ◌≡◌ {A = Result A TextKind} (Ok a) (Err b) → ⊥
ok_is_none a b e = absurd cc

-- reading on that had a fault had it first, or after
bind_fault : {A B : Type 0} (r : Result A TextKind) (f : A → Result B TextKind) (fault : TextKind) → (r >>= f) ≡ Err fault → (r ≡ Err fault) ⊎ ((a : A) × (r ≡ Ok a) × (f a ≡ Err fault))
bind_fault (Ok a) f fault e = inr (a, refl, e)
bind_fault (Err other) f fault e = inl (ap (λ (k : TextKind). Err k) (err_is other fault e))

-- what is not there has the fault
or_fault : {A : Type 0} (o : Option A) (kind fault : TextKind) → ok_or o kind ≡ Err fault → (o ≡ None) × (fault ≡ kind)
or_fault (Some a) kind fault e = absurd (ok_is_none a fault e)
or_fault None kind fault e = (refl, sym (err_is kind fault e))

some_none : {A : Type 0} (a : A) → Some a ≡ None → ⊥
some_none a e = absurd cc

-- ---- values are of their kinds

abbrev IsOfKind : ArgumentKind → Value → Type 0
IsOfKind kind value = is_of_kind kind value ≡ true

ranged_kind : (kind : ArgumentKind) (negative : Bool) (m : ℕ) (value : Value) → ranged kind negative m ≡ Some value → IsOfKind kind value
ranged_kind kinds.Pattern negative m value e = let p = mapped values.Pattern (unsigned_limited negative m) value e in subst (IsOfKind kinds.Pattern) p.2 refl
ranged_kind kinds.Data negative m value e = let p = mapped values.Data (signed_of (2 ^ 63) negative m) value e in subst (IsOfKind kinds.Data) p.2 refl
ranged_kind kinds.Mode negative m value e = absurd cc
ranged_kind (kinds.Object k) negative m value e = let p = mapped values.Number (signed_of (2 ^ 31) negative m) value e in subst (IsOfKind (kinds.Object k)) p.2 refl
ranged_kind kinds.Priority negative m value e = let p = mapped values.Number (signed_of (2 ^ 31) negative m) value e in subst (IsOfKind kinds.Priority) p.2 refl
ranged_kind kinds.Processor negative m value e = let p = mapped values.Number (signed_of (2 ^ 31) negative m) value e in subst (IsOfKind kinds.Processor) p.2 refl
ranged_kind kinds.Time negative m value e = let p = mapped values.Number (signed_of (2 ^ 31) negative m) value e in subst (IsOfKind kinds.Time) p.2 refl
ranged_kind kinds.Timeout negative m value e = let p = mapped values.Number (signed_of (2 ^ 31) negative m) value e in subst (IsOfKind kinds.Timeout) p.2 refl
ranged_kind kinds.Block negative m value e = let p = mapped values.Number (signed_of (2 ^ 31) negative m) value e in subst (IsOfKind kinds.Block) p.2 refl

constant_kind : (constant : Constant) (kind : ArgumentKind) (value : Value) → value_of constant kind ≡ Some value → IsOfKind kind value
constant_kind TskSelf (kinds.Object objects.Task) value e = subst (IsOfKind (kinds.Object objects.Task)) (some_is _ value e) refl
constant_kind TpriSelf kinds.Priority value e = subst (IsOfKind kinds.Priority) (some_is _ value e) refl
constant_kind TpriIni kinds.Priority value e = subst (IsOfKind kinds.Priority) (some_is _ value e) refl
constant_kind TprcIni kinds.Processor value e = subst (IsOfKind kinds.Processor) (some_is _ value e) refl
constant_kind TmoPol kinds.Timeout value e = subst (IsOfKind kinds.Timeout) (some_is _ value e) refl
constant_kind TmoFevr kinds.Timeout value e = subst (IsOfKind kinds.Timeout) (some_is _ value e) refl
constant_kind TwfAndw kinds.Mode value e = subst (IsOfKind kinds.Mode) (some_is _ value e) refl
constant_kind TwfOrw kinds.Mode value e = subst (IsOfKind kinds.Mode) (some_is _ value e) refl
constant_kind _ _ value e = absurd cc

pub value_kind : (names : NameLists) (kind : ArgumentKind) (token : List ℕ) (value : Value) → SpellsValue names kind token value → IsOfKind kind value
unfolding constant_of
value_kind names kind token value (inl s) = ranged_kind kind s.negative s.magnitude value s.in_range
value_kind names kind token value (inr (inl s)) = let p = and_then_parts (constant_in token) (λ c. value_of c kind) value s in constant_kind p.0 kind value p.2
value_kind names kind token value (inr (inr s)) =
    subst (λ (k : ArgumentKind). IsOfKind k value) (sym s.is_kind) (subst (IsOfKind (kinds.Object s.object)) (sym s.is_value) refl)

values_kinds : (names : NameLists) (ks : List ArgumentKind) (tokens : List (List ℕ)) (list : List Value) → length tokens ≡ length ks → values_at names ks tokens ≡ Ok list → are_of_kinds ks list ≡ true
values_kinds names [] [] list many e = by list e
  where
    by : (list : List Value) → ◌≡◌ {A = Result (List Value) TextKind} (Ok []) (Ok list) → are_of_kinds [] list ≡ true
    by [] e = refl
    by (v ∷ vs) e = absurd cc
values_kinds names [] (token ∷ tokens) list many e = absurd (omega (arith, many))
values_kinds names (kind ∷ ks) [] list many e = absurd (omega (arith, many))
values_kinds names (kind ∷ ks) (token ∷ tokens) list many e =
    by (λ others rest. values_kinds names ks tokens others (omega (arith, many)) rest) (value_at names kind token) refl (values_at names ks tokens) refl e
  where
    by : ((others : List Value) → values_at names ks tokens ≡ Ok others → are_of_kinds ks others ≡ true) → (one : Result Value TextKind) → value_at names kind token ≡ one → (rest : Result (List Value) TextKind)
        → values_at names ks tokens ≡ rest → (one >>= λ v. rest >>= λ vs. Ok (v ∷ vs)) ≡ Ok list → are_of_kinds (kind ∷ ks) list ≡ true
    by more (Err f) is rest rest_is e = absurd cc
    by more (Ok v) is (Err f) rest_is e = absurd cc
    by more (Ok v) is (Ok vs) rest_is e =
        let same : v ∷ vs ≡ list = cc in
        subst (λ (l : List Value). are_of_kinds (kind ∷ ks) l ≡ true) same
        (and_from (is_of_kind kind v) (are_of_kinds ks vs) (value_kind names kind token v (value_is_spelled names kind token v is)) (more vs rest_is))

-- ---- the first argument at fault

named_fault : (names : NameLists) (kind : ArgumentKind) (token : List ℕ) (fault : TextKind) (constant object : Option Value) → is_identifier token ≡ true
    → option_map_or (λ (v : Value). Ok v) (option_or constant object) (cond (is_constant token || is_object names token) (Err WrongArguments) (Err UnknownName)) ≡ Err fault → ArgumentFault names kind token fault
named_fault names kind token fault (Some v) object identifier e = absurd (ok_is_none v fault e)
named_fault names kind token fault None (Some v) identifier e = absurd (ok_is_none v fault e)
named_fault names kind token fault None None identifier e =
    elim (cases_Bool (is_constant token || is_object names token)) [
      | inl t ↦ subst (ArgumentFault names kind token) (err_is {A = Value} WrongArguments fault (rw t at e)) (inl (identifier, or_cases (is_constant token) (is_object names token) t))
      | inr f ↦
          let p = or_parts (is_constant token) (is_object names token) f in
          subst (ArgumentFault names kind token) (err_is {A = Value} UnknownName fault (rw f at e)) (identifier, p.0, p.1)
    ]

number_fault : (names : NameLists) (kind : ArgumentKind) (token : List ℕ) (number : Number) (fault : TextKind) → is_some (number_of token) ≡ true → judged_number kind number ≡ Err fault → ArgumentFault names kind token fault
unfolding judged_number
number_fault names kinds.Mode token number fault some e = subst (ArgumentFault names kinds.Mode token) (err_is {A = Value} WrongArguments fault e) (inr (some, refl))
number_fault names kind token number fault some e =
    let f = or_fault (number_value kind number) NumberOutOfRange fault e in
    subst (ArgumentFault names kind token) (sym f.1) (some, λ is. absurd cc)

argument_fault : (names : NameLists) (kind : ArgumentKind) (token : List ℕ) (fault : TextKind) → is_argument token ≡ true → value_at names kind token ≡ Err fault → ArgumentFault names kind token fault
unfolding value_at is_argument named_value
argument_fault names kind token fault form e = by (number_of token) refl e
  where
    by : (found : Option Number) → number_of token ≡ found → option_map_or (judged_number kind) found (named_value names kind token) ≡ Err fault → ArgumentFault names kind token fault
    by (Some number) is e = number_fault names kind token number fault (ap (λ (o : Option Number). is_some o) is) e
    by None is e =
        elim (or_cases (is_identifier token) (is_some (number_of token)) form) [
          | inl identifier ↦ named_fault names kind token fault (constant_of kind token) (object_of names kind token) identifier e
          | inr some ↦ absurd (false≢true (sym (ap (λ (o : Option Number). is_some o) is) ∙ some))
        ]

arguments_fault : (names : NameLists) (ks : List ArgumentKind) (tokens : List (List ℕ)) (fault : TextKind) → AreValid names → list_all is_argument tokens ≡ true → values_at names ks tokens ≡ Err fault → ArgumentsFault names ks tokens fault
arguments_fault names [] tokens fault valid forms e = absurd (ok_is_none [] fault e)
arguments_fault names (kind ∷ ks) [] fault valid forms e = absurd (ok_is_none [] fault e)
arguments_fault names (kind ∷ ks) (token ∷ tokens) fault valid forms e =
    let p = and_parts (is_argument token) (list_all is_argument tokens) forms in
    by p.0 (λ rest. arguments_fault names ks tokens fault valid p.1 rest) (value_at names kind token) refl e
  where
    by : is_argument token ≡ true → (values_at names ks tokens ≡ Err fault → ArgumentsFault names ks tokens fault) → (one : Result Value TextKind) → value_at names kind token ≡ one
        → (one >>= λ v. values_at names ks tokens >>= λ vs. Ok (v ∷ vs)) ≡ Err fault → ArgumentsFault names (kind ∷ ks) (token ∷ tokens) fault
    by form more (Err f) is e =
        inl ((λ value s. ok_is_none value f (sym (value_at-spelled names kind token value valid s).1 ∙ is)), argument_fault names kind token fault form (is ∙ ap (λ (k : TextKind). Err k) (err_is {A = List Value} f fault e)))
    by form more (Ok v) is e =
        inr ((v, value_is_spelled names kind token v is), elim (bind_fault (values_at names ks tokens) (λ vs. Ok (v ∷ vs)) fault e) [ inl rest ↦ more rest | inr bad ↦ absurd (ok_is_none (v ∷ bad.0) fault bad.2) ])

-- ---- the form of a call

pieces_formed : (tokens pieces : List (List ℕ)) → ArePieces tokens pieces → (tokens_in pieces ≡ Some tokens) × (length pieces ≡ length tokens) × (list_all (list_all inside) pieces ≡ true)
pieces_formed [] [] s = (refl, refl, refl)
pieces_formed (token ∷ tokens) (piece ∷ pieces) s =
    let one = padded_read token piece s.0 s.1 in
    let rest = pieces_formed tokens pieces s.2 in
    let formed = rest.0 in
    (rw (one, formed) refl, omega (arith, rest.1), and_from (list_all inside piece) (list_all (list_all inside) pieces) (padded_inside token piece s.0 s.1) rest.2)
pieces_formed [] (piece ∷ pieces) s = absurd s
pieces_formed (token ∷ tokens) [] s = absurd s

not_blank_joined : (token : List ℕ) (tokens pieces : List (List ℕ)) → ArePieces (token ∷ tokens) pieces → list_all (is_of Blank) (join_with_byte 44 pieces) ≡ true → ⊥
not_blank_joined token tokens [] s all = absurd s
not_blank_joined token tokens (piece ∷ []) s all =
    let padded = s.0 in
    not_all_blank padded.before token padded.following (token_bytes token s.1) (ap (list_all (is_of Blank)) (sym padded.parts) ∙ all)
not_blank_joined token tokens (piece ∷ next ∷ pieces) s all =
    let padded = s.0 in
    not_all_blank padded.before token padded.following (token_bytes token s.1) (ap (list_all (is_of Blank)) (sym padded.parts) ∙ first_blank piece (44 ∷ join_with_byte 44 (next ∷ pieces)) all)
  where
    first_blank : (xs ys : List ℕ) → list_all (is_of Blank) (xs ++ ys) ≡ true → list_all (is_of Blank) xs ≡ true
    first_blank [] ys all = refl
    first_blank (x ∷ xs) ys all = let p = and_parts (is_of Blank x) (list_all (is_of Blank) (xs ++ ys)) all in and_from (is_of Blank x) (list_all (is_of Blank) xs) p.0 (first_blank xs ys p.1)

arguments_formed : (tokens : List (List ℕ)) (inner : List ℕ) → length tokens ≤ 4 → AreArguments tokens inner → (arguments_in 4 inner ≡ Some tokens) × (list_all (λ b. not (eqb b 41)) inner ≡ true)
unfolding arguments_in is_of
arguments_formed [] inner few blank = (rw blank refl, list_all-weaker (is_of Blank) (λ b. not (eqb b 41)) (λ b h. outside 41 refl b (rw h refl)) inner blank)
arguments_formed (token ∷ tokens) inner few s =
    let pieces = s.0 in
    let read = pieces_formed (token ∷ tokens) pieces s.2 in
    let some : 0 < length pieces = omega (arith, read.1) in
    let not_blank : list_all (is_of Blank) inner ≡ false =
    elim (cases_Bool (list_all (is_of Blank) inner)) [ inl t ↦ absurd (not_blank_joined token tokens pieces s.2 (ap (list_all (is_of Blank)) (sym s.1) ∙ t)) | inr f ↦ f ] in
    let apart = list_all-all (list_all inside) (list_all (λ b. not (eqb b 44))) (λ piece h. list_all-weaker inside (λ b. not (eqb b 44)) (outside 44 refl) piece h) pieces read.2 in
    let cut : pieces_of 44 inner ≡ pieces = ap (pieces_of 44) s.1 ∙ pieces_of-join 44 pieces some apart in
    let formed = read.0 in
    let within = le-leb (length (token ∷ tokens)) 4 few in
    let unclosed = list_all-join (λ b. not (eqb b 41)) 44 pieces refl (list_all-all (list_all inside) (list_all (λ b. not (eqb b 41))) (λ piece h. list_all-weaker inside (λ b. not (eqb b 41)) (outside 41 refl) piece h) pieces read.2) in
    (rw (not_blank, cut, formed, within) refl, ap (list_all (λ b. not (eqb b 41))) s.1 ∙ unclosed)

no_tokens : (tokens : List (List ℕ)) → length tokens ≡ 0 → tokens ≡ []
no_tokens [] e = refl
no_tokens (t ∷ tokens) e = absurd (omega (arith, e))

pub form_read : (call : Call) (tokens : List (List ℕ)) (text : List ℕ) → HasForm call tokens text → arguments_after 4 (is_bare call) text ≡ Some tokens
unfolding arguments_after
form_read call tokens text (many, inl s) =
    let bare = s.0 in let blank = s.1 in
    let none = no_tokens tokens (many ∙ ap length (bare_alone call bare).0) in
    rw (bare, blank, none) refl
form_read call tokens text (many, inr s) =
    let bare = s.0 in let e = s.1 in let parts = e.parts in
    let few : length tokens ≤ 4 = omega (arith, many, length-kinds_of-le call) in
    let read = arguments_formed tokens e.inner few e.arguments in
    rw (bare, parts, enclosed_read e.between e.inner e.following e.between_blank read.1 e.after_blank) read.0

pieces_are : (pieces tokens : List (List ℕ)) → tokens_in pieces ≡ Some tokens → ArePieces tokens pieces × (list_all is_argument tokens ≡ true)
pieces_are [] tokens e = let none : [] ≡ tokens = cc in subst (λ (ts : List (List ℕ)). ArePieces ts [] × (list_all is_argument ts ≡ true)) none (tt, refl)
pieces_are (piece ∷ pieces) tokens e =
    let p = tokens_parts piece pieces tokens e in
    let padded = token_is_padded piece p.0 p.2 in
    let rest = pieces_are pieces p.1 p.3 in
    subst (λ (ts : List (List ℕ)). ArePieces ts (piece ∷ pieces) × (list_all is_argument ts ≡ true)) (sym p.4) ((padded.0, padded.1, rest.0), and_from (is_argument p.0) (list_all is_argument p.1) padded.1 rest.1)

arguments_are : (tokens : List (List ℕ)) (inner : List ℕ) → arguments_in 4 inner ≡ Some tokens → AreArguments tokens inner × (list_all is_argument tokens ≡ true)
unfolding arguments_in
arguments_are tokens inner e =
    elim (cases_Bool (list_all (is_of Blank) inner)) [
      | inl t ↦ subst (λ (ts : List (List ℕ)). AreArguments ts inner × (list_all is_argument ts ≡ true)) (some_is [] tokens (rw t at e)) (t, refl)
      | inr f ↦
          let p = and_then_parts (tokens_in (pieces_of 44 inner)) _ tokens (rw f at e) in
          let few = cond_some _ p.0 tokens p.2 in
          some_tokens tokens (p.1 ∙ ap (λ (ts : List (List ℕ)). Some ts) few.1)
    ]
  where
    some_tokens : (tokens : List (List ℕ)) → tokens_in (pieces_of 44 inner) ≡ Some tokens → AreArguments tokens inner × (list_all is_argument tokens ≡ true)
    some_tokens [] e = absurd (no_piece (pieces_of 44 inner) e (some-pieces_of 44 inner))
      where
        no_piece : (pieces : List (List ℕ)) → tokens_in pieces ≡ Some [] → 0 < length pieces → ⊥
        no_piece [] e some = omega (arith, some)
        no_piece (piece ∷ pieces) e some = let p = tokens_parts piece pieces [] e in omega (arith, ap length p.4)
    some_tokens (t ∷ tokens) e = let p = pieces_are (pieces_of 44 inner) (t ∷ tokens) e in ((pieces_of 44 inner, sym (join-pieces_of 44 inner), p.0), p.1)

pub form_is : (call : Call) (tokens : List (List ℕ)) (text : List ℕ) → arguments_after 4 (is_bare call) text ≡ Some tokens → length tokens ≡ length (kinds_of call) → HasForm call tokens text × (list_all is_argument tokens ≡ true)
unfolding arguments_after
form_is call tokens text e many =
    elim (cases_Bool (is_bare call)) [
      | inl bare ↦
          let t = cond_some (list_all (is_of Blank) text) [] tokens (rw bare at e) in
          ((many, inl (bare, t.0)), subst (λ (ts : List (List ℕ)). list_all is_argument ts ≡ true) t.1 refl)
      | inr long ↦
          let i = and_then_parts (enclosed_in text) (arguments_in 4) tokens (rw long at e) in
          let s = enclosed_spelled text i.0 i.1 in
          let a = arguments_are tokens i.0 i.2 in
          ((many, inr (long, record { between = s.between; inner = i.0; following = s.following; between_blank = s.between_blank; after_blank = s.after_blank; arguments = a.0; parts = s.parts })), a.1)
    ]

-- ---- a call

pub call_fault : (names : NameLists) (call : Call) (text : List ℕ) (fault : TextKind) → AreValid names → call_after names call text ≡ Err fault → CallFault names call text fault
unfolding call_after call_with
call_fault names call text fault valid e = by (arguments_after 4 (is_bare call) text) refl e
  where
    formed : (tokens : List (List ℕ)) → arguments_after 4 (is_bare call) text ≡ Some tokens → call_with names call tokens ≡ Err fault → CallFault names call text fault
    formed tokens is e =
        elim (cases_Bool (eqb (length tokens) (length (kinds_of call)))) [
          | inr f ↦
              inl (
                sym (err_is {A = Call} WrongArguments fault (rw f at e)),
                λ others form.
                    let same : tokens ≡ others = some_is tokens others (sym is ∙ form_read call others text form) in
                    false≢true (sym f ∙ eq-eqb (length tokens) (length (kinds_of call)) (ap length same ∙ form.0)),
              )
          | inl t ↦
              let many = eqb-true (length tokens) (length (kinds_of call)) t in
              let form = form_is call tokens text is many in
              inr (
                tokens,
                form.0,
                elim (bind_fault (values_at names (kinds_of call) tokens) (λ list. ok_or (call_of call list) WrongArguments) fault (rw t at e)) [
                  | inl bad ↦ arguments_fault names (kinds_of call) tokens fault valid form.1 bad
                  | inr good ↦
                      let fits = values_kinds names (kinds_of call) tokens good.0 many good.1 in
                      let e2 = rw fits at good.2 in
                      absurd cc
                ],
              )
        ]

    by : (found : Option (List (List ℕ))) → arguments_after 4 (is_bare call) text ≡ found → (ok_or found WrongArguments >>= λ tokens. call_with names call tokens) ≡ Err fault → CallFault names call text fault
    by None is e = inl (sym (err_is {A = Call} WrongArguments fault e), λ tokens form. some_none tokens (sym (form_read call tokens text form) ∙ is))
    by (Some tokens) is e = formed tokens is e

-- ---- a line

alone_fault : (event : Event) (text : List ℕ) (fault : TextKind) → alone event text ≡ Err fault → (fault ≡ WrongArguments) × ¬ (AreBlank text)
alone_fault event text fault e =
    elim (cases_Bool (list_all (is_of Blank) text)) [
      | inl t ↦ absurd (ok_is_none event fault (rw t at e))
      | inr f ↦ (sym (err_is {A = Event} WrongArguments fault (rw f at e)), λ blank. false≢true (sym f ∙ blank))
    ]

call_word : (names : NameLists) (text : List ℕ) (fault : TextKind) → AreValid names → bytes_eq (prefix Word (after Blank text)) (codes "tick") ≡ false → bytes_eq (prefix Word (after Blank text)) (codes "ipi") ≡ false
    → call_at names (after Blank text) ≡ Err fault → HappeningFault names text fault
unfolding call_at named_call
call_word names text fault valid tick ipi e =
    elim (bind_fault (ok_or (named (prefix Word (after Blank text))) BadWord) (λ name. call_after names name (after Word (after Blank text))) fault e) [
      | inl bad ↦
          let p = or_fault (named (prefix Word (after Blank text))) BadWord fault bad in
          inl (
            p.1,
            not_word (first_word text) (codes "tick") tick,
            not_word (first_word text) (codes "ipi") ipi,
            λ call is. some_none _ (sym (named-text_of call) ∙ ap (λ (w : List ℕ). named w) is ∙ p.0),
          )
      | inr good ↦
          inr (inr (good.0, text_of-named (prefix Word (after Blank text)) good.0 (ok_or_parts _ BadWord good.0 good.1), call_fault names good.0 (following_word text) fault valid good.2))
    ]

happening_fault : (names : NameLists) (processor : Proc) (text : List ℕ) (fault : TextKind) → AreValid names → event_of names processor (after Blank text) ≡ Err fault → HappeningFault names text fault
unfolding event_of
happening_fault names processor text fault valid e =
    elim (cases_Bool (bytes_eq (prefix Word (after Blank text)) (codes "tick"))) [
      | inl t ↦
          let a = alone_fault (events.Tick processor) (following_word text) fault (rw t at e) in
          inr (inl (a.0, inl (is_word (first_word text) (codes "tick") t), a.1))
      | inr f ↦
          elim (cases_Bool (bytes_eq (prefix Word (after Blank text)) (codes "ipi"))) [
            | inl t ↦
                let a = alone_fault (events.Ipi processor) (following_word text) fault (rw (f, t) at e) in
                inr (inl (a.0, inr (is_word (first_word text) (codes "ipi") t), a.1))
            | inr g ↦
                elim (bind_fault (call_at names (after Blank text)) (λ call. Ok (events.Call processor call)) fault (rw (f, g) at e)) [
                  | inl bad ↦ call_word names text fault valid f g bad
                  | inr good ↦ absurd (ok_is_none (events.Call processor good.0) fault good.2)
                ]
          ]
    ]

pub processor_fault : (names : NameLists) (word : List ℕ) (fault : TextKind) → AreValid names → processor_in names word ≡ Err fault
    → ((fault ≡ BadWord) × ¬ (IsProcessorWord word)) ⊎ (IsProcessorWord word × ((fault ≡ NumberOutOfRange) × ¬ (NamesProcessor names word)))
unfolding processor_in digits_of processor_numbered
processor_fault names word fault valid e =
    elim (bind_fault (ok_or (digits_of word) BadWord) (λ digits. cond (is_zero_led digits) (Err NumberOutOfRange) (ok_or (processor_numbered names digits) NumberOutOfRange)) fault e) [
      | inl bad ↦
          let p = or_fault (digits_of word) BadWord fault bad in
          inl (p.1, λ w. no_digits w.0 w.1 w.2 p.0)
      | inr good ↦
          let d = digits_parts word good.0 (following 80 word) refl (ok_or_parts (digits_of word) BadWord good.0 good.1) in
          inr (
            (good.0, d.0, d.1),
            (
              range (is_zero_led good.0) (processor_numbered names good.0) good.2,
              λ s.
                  ok_is_none _ fault (sym (processor_read names s.0 s.1 s.2 valid.most) ∙ ap (processor_in names) (sym s.3) ∙ e),
            ),
          )
    ]
  where
    range : (led : Bool) (found : Option Proc) → cond led (Err NumberOutOfRange) (ok_or found NumberOutOfRange) ≡ Err fault → fault ≡ NumberOutOfRange
    range true found e = sym (err_is {A = Proc} NumberOutOfRange fault e)
    range false found e = (or_fault found NumberOutOfRange fault e).1

    no_digits : (digits : List ℕ) → word ≡ 80 ∷ digits → are_digits 10 digits ≡ true → digits_of word ≡ None → ⊥
    no_digits digits is are none =
        let found : digits_of (80 ∷ digits) ≡ Some digits = rw (following-same 80 digits, are) refl in
        some_none digits (sym found ∙ ap digits_of (sym is) ∙ none)

processor_word : (names : NameLists) (word : List ℕ) (processor : Proc) → processor_in names word ≡ Ok processor → IsProcessorWord word
unfolding processor_in digits_of
processor_word names word processor e =
    let p = bind_parts (ok_or (digits_of word) BadWord) _ processor e in
    let d = digits_parts word p.0 (following 80 word) refl (ok_or_parts (digits_of word) BadWord p.0 p.1) in
    (p.0, d.0, d.1)

core_fault : (names : NameLists) (text : List ℕ) (fault : TextKind) → AreValid names → event_in names text ≡ Err fault → CoreFault names text fault
unfolding event_in event_at
core_fault names text fault valid e =
    elim (cases_Bool (list_all (is_of Line) text)) [
      | inr f ↦ inl (sym (err_is {A = Event} BadByte fault (rw f at e)), f)
      | inl t ↦
          elim (bind_fault (processor_in names (prefix Word (after Blank text))) (λ p. event_of names p (after Blank (after Word (after Blank text)))) fault (rw t at e)) [
            | inl bad ↦
                elim (processor_fault names (first_word text) fault valid bad) [
                  | inl s ↦ inr (t, inl s)
                  | inr s ↦ inr (t, inr (s.0, inl s.1))
                ]
            | inr good ↦
                let w = processor_spelled names (first_word text) good.0 good.1 in
                inr (t, inr (processor_word names (first_word text) good.0 good.1, inr ((w.number, w.least, w.most, w.parts), happening_fault names good.0 (following_word text) fault valid good.2)))
          ]
    ]

pub event_fault : (names : NameLists) (line : List ℕ) (fault : TextKind) → AreValid names → line_event names line ≡ Err fault → EventFault names line fault
unfolding line_event
event_fault names line fault valid e =
    elim (cases_Bool (is_skipped (without_return line))) [
      | inl t ↦ absurd (ok_is_none None fault (rw t at e))
      | inr f ↦ (
        (λ nothing. false≢true (sym f ∙ nothing_read line nothing)),
        elim (bind_fault (event_in names (without_return line)) (λ event. Ok (Some event)) fault (rw f at e)) [
          | inl bad ↦ core_fault names (without_return line) fault valid bad
          | inr good ↦ absurd (ok_is_none (Some good.0) fault good.2)
        ],
      )
    ]
