-- A call that is printed spells the call, so it is read as that call.
use Rattle.std.proofs.Common.{◌≡◌, ℕ, zero, suc, ◌+◌, ◌<◌, ◌≤◌, ◌^◌, ℤ, pos, negsuc, Bool, true, false, inl, inr, List, [], ◌∷◌, ◌++◌, length, length-append, take, Option, Some, None, option_map, Ok, refl, sym, ap, ◌∙◌, arith, add-one, append_assoc}
use Rattle.std.specs.Prelude.{decimal}
use Rattle.std.specs.Fmt.{signed_decimal}
use Rattle.std.specs.List.{list_all, prefix_len, join_with_byte}
use Rattle.std.specs.Option.{option_map_or}
use Rattle.std.proofs.lemmas.Bool.{cases_Bool, lt-ltb}
use Rattle.std.proofs.lemmas.List.{append-nil, take_at}
use Rattle.fmp_codes.specs.declared.calls.Call.{Call}
use Rattle.fmp_codes.specs.declared.calls.Mode.TheVariants as modes
use Rattle.fmp_bytes.specs.declared.classes.Class.TheVariants.{Blank, Word, Argument, Printed}
use Rattle.fmp_bytes.specs.Bytes.{is_of, prefix, after, cut_at}
use Rattle.fmp_bytes.specs.Numerals.{signed_of}
use Rattle.fmp_bytes.proofs.Cutting.{cut_at-append}
use Rattle.fmp_bytes.proofs.Prefixes.{prefix-append, stops-cons, list_all-weaker, list_all-both}
use Rattle.fmp_codes.specs.Records.{IsWithin}
use Rattle.fmp_calls.proofs.Matched.{is_identifier-text_of, named-text_of, is_bare-name_of}
use Rattle.fmp_calls.specs.Arguments.{CallInBits}
use Rattle.fmp_codes.specs.declared.kinds.ArgumentKind.{ArgumentKind}
use Rattle.fmp_codes.specs.declared.kinds.ArgumentKind.TheVariants as kinds
use Rattle.fmp_codes.specs.declared.kinds.NameKind.TheVariants as name_kinds
use Rattle.fmp_codes.specs.declared.kinds.ObjectKind.{ObjectKind}
use Rattle.fmp_codes.specs.declared.kinds.ObjectKind.TheVariants as objects
use Rattle.fmp_codes.specs.declared.kinds.Value.{Value}
use Rattle.fmp_codes.specs.declared.kinds.Value.TheVariants as values
use Rattle.fmp_calls.specs.Table as table
use Rattle.fmp_text.specs.Argument.{constant_of, ranged, number32}
use Rattle.fmp_text.specs.Grammar.{IsNumber, SpellsValue, SpellsPieces, SpellsArguments, FollowsName}
use Rattle.fmp_names.specs.Names.{NameLists, AreValid, name_of}
use Rattle.fmp_text.specs.Reading.{call_in}
use Rattle.fmp_text.proofs.Spelled.{value_at-spelled}
use Rattle.fmp_text.proofs.SpelledCalls.{call_in-spelled, token_bytes}
use Rattle.fmp_bytes.proofs.Tokens.{identifier_bytes, identifier_words}
use Rattle.fmp_trace.specs.Guess.{is_bare_name, cut_call}
use Rattle.fmp_trace.specs.Values.{named, object_text, value_text, arguments_from, after_name, call_text}
use Rattle.fmp_trace.proofs.Bytes.{other_than, inner, inner-argument, printed-inner}
use Rattle.fmp_trace.proofs.FittingArguments.{ArgumentFits, ArgumentsFit, call_arguments_fit}
use Rattle.fmp_trace.proofs.GuessedValues.{is_signed}

-- ---- joining

-- pieces, each after such a byte
abbrev pub led : ℕ → List (List ℕ) → List ℕ
led c [] = []
led c (piece ∷ pieces) = c ∷ (piece ++ led c pieces)

pub join-led : (c : ℕ) (piece : List ℕ) (pieces : List (List ℕ)) → join_with_byte c (piece ∷ pieces) ≡ piece ++ led c pieces
join-led c piece [] = sym (append-nil piece)
join-led c piece (next ∷ pieces) = ap (λ (r : List ℕ). piece ++ (c ∷ r)) (join-led c next pieces)

-- ---- values

-- a signed number is a value of the kind
signed_value : (limit : ℕ) (make : ℤ → Value) (kind : ArgumentKind) (z : ℤ) → limit ≤ 2 ^ 63 → IsWithin limit z → ((negative : Bool) (m : ℕ) → signed_of limit negative m ≡ Some z → ranged kind negative m ≡ Some (make z)) → IsNumber kind (signed_decimal z) (make z)
signed_value limit make kind z few fits step =
    let s = is_signed limit z few fits in
    record { negative = s.negative; magnitude = s.magnitude; spelled = s.spelled; in_range = step s.negative s.magnitude s.value }

number_value : (kind : ArgumentKind) (z : ℤ) → IsWithin (2 ^ 31) z → ((negative : Bool) (m : ℕ) → ranged kind negative m ≡ number32 negative m) → IsNumber kind (signed_decimal z) (values.Number z)
number_value kind z fits is32 =
    signed_value (2 ^ 31) values.Number kind z (omega arith) fits (λ negative m e. is32 negative m ∙ ap (option_map values.Number) e)

-- an object's number is printed as the object's name, or as a number
named_value : (names : NameLists) (kind : ObjectKind) (n : ℕ) (found : Option (List ℕ)) → n < 2 ^ 31 → name_of names (name_kinds.Object kind) n ≡ found → SpellsValue names (kinds.Object kind) (named names kind n) (values.Number (pos n))
unfolding named
named_value names kind n None fits e = rw e (inl (number_value (kinds.Object kind) (pos n) fits (λ negative m. refl)))
named_value names kind n (Some name) fits e = rw e (inr (inr (record { object = kind; number = n; is_kind = refl; is_name = e; is_value = refl })))

object_value : (names : NameLists) (kind : ObjectKind) (z : ℤ) → IsWithin (2 ^ 31) z → SpellsValue names (kinds.Object kind) (object_text names kind z) (values.Number z)
unfolding object_text constant_of
object_value names objects.Task (pos zero) fits = inr (inl refl)
object_value names objects.Task (pos (suc n)) fits = named_value names objects.Task (suc n) _ fits refl
object_value names objects.Semaphore (pos n) fits = named_value names objects.Semaphore n _ fits refl
object_value names objects.Eventflag (pos n) fits = named_value names objects.Eventflag n _ fits refl
object_value names objects.DataQueue (pos n) fits = named_value names objects.DataQueue n _ fits refl
object_value names objects.Pool (pos n) fits = named_value names objects.Pool n _ fits refl
object_value names objects.Cyclic (pos n) fits = named_value names objects.Cyclic n _ fits refl
object_value names objects.Alarm (pos n) fits = named_value names objects.Alarm n _ fits refl
object_value names objects.SpinLock (pos n) fits = named_value names objects.SpinLock n _ fits refl
object_value names kind (negsuc n) fits = inl (number_value (kinds.Object kind) (negsuc n) fits (λ negative m. refl))

pattern_value : (bits : ℕ) → bits < 2 ^ 32 → IsNumber kinds.Pattern (decimal bits) (values.Pattern bits)
pattern_value bits fits =
    let lt = lt-ltb bits (2 ^ 32) fits in
    record { negative = false; magnitude = bits; spelled = (omega (arith, fits), inl refl); in_range = rw lt refl }

pub value_spelled : (names : NameLists) (kind : ArgumentKind) (value : Value) → ArgumentFits kind value → SpellsValue names kind (value_text names kind value) value
unfolding value_text constant_of
value_spelled names (kinds.Object kind) (values.Number z) fits = object_value names kind z fits
value_spelled names kinds.Priority (values.Number z) fits = inl (number_value kinds.Priority z fits (λ negative m. refl))
value_spelled names kinds.Processor (values.Number z) fits = inl (number_value kinds.Processor z fits (λ negative m. refl))
value_spelled names kinds.Time (values.Number z) fits = inl (number_value kinds.Time z fits (λ negative m. refl))
value_spelled names kinds.Timeout (values.Number z) fits = inl (number_value kinds.Timeout z fits (λ negative m. refl))
value_spelled names kinds.Block (values.Number z) fits = inl (number_value kinds.Block z fits (λ negative m. refl))
value_spelled names kinds.Pattern (values.Pattern bits) fits = inl (pattern_value bits fits)
value_spelled names kinds.Data (values.Data z) fits = inl (signed_value (2 ^ 63) values.Data kinds.Data z (omega arith) fits (λ negative m e. ap (option_map values.Data) e))
value_spelled names kinds.Mode (values.Mode modes.Andw) fits = inr (inl refl)
value_spelled names kinds.Mode (values.Mode modes.Orw) fits = inr (inl refl)
value_spelled names (kinds.Object kind) (values.Pattern bits) fits = absurd fits
value_spelled names (kinds.Object kind) (values.Data z) fits = absurd fits
value_spelled names (kinds.Object kind) (values.Mode m) fits = absurd fits
value_spelled names kinds.Priority (values.Pattern bits) fits = absurd fits
value_spelled names kinds.Priority (values.Data z) fits = absurd fits
value_spelled names kinds.Priority (values.Mode m) fits = absurd fits
value_spelled names kinds.Processor (values.Pattern bits) fits = absurd fits
value_spelled names kinds.Processor (values.Data z) fits = absurd fits
value_spelled names kinds.Processor (values.Mode m) fits = absurd fits
value_spelled names kinds.Time (values.Pattern bits) fits = absurd fits
value_spelled names kinds.Time (values.Data z) fits = absurd fits
value_spelled names kinds.Time (values.Mode m) fits = absurd fits
value_spelled names kinds.Timeout (values.Pattern bits) fits = absurd fits
value_spelled names kinds.Timeout (values.Data z) fits = absurd fits
value_spelled names kinds.Timeout (values.Mode m) fits = absurd fits
value_spelled names kinds.Block (values.Pattern bits) fits = absurd fits
value_spelled names kinds.Block (values.Data z) fits = absurd fits
value_spelled names kinds.Block (values.Mode m) fits = absurd fits
value_spelled names kinds.Pattern (values.Number z) fits = absurd fits
value_spelled names kinds.Pattern (values.Data z) fits = absurd fits
value_spelled names kinds.Pattern (values.Mode m) fits = absurd fits
value_spelled names kinds.Data (values.Number z) fits = absurd fits
value_spelled names kinds.Data (values.Pattern bits) fits = absurd fits
value_spelled names kinds.Data (values.Mode m) fits = absurd fits
value_spelled names kinds.Mode (values.Number z) fits = absurd fits
value_spelled names kinds.Mode (values.Pattern bits) fits = absurd fits
value_spelled names kinds.Mode (values.Data z) fits = absurd fits

value_bytes : (names : NameLists) (kind : ArgumentKind) (value : Value) → AreValid names → ArgumentFits kind value → list_all (is_of Argument) (value_text names kind value) ≡ true
value_bytes names kind value valid fits =
    (token_bytes (value_text names kind value) (value_at-spelled names kind (value_text names kind value) value valid (value_spelled names kind value fits)).0).1

-- ---- arguments

-- the arguments after the first one, each after a blank
abbrev pub later : NameLists → List ArgumentKind → List Value → List (List ℕ)
later names [] values = []
later names (kind ∷ kinds) [] = []
later names (kind ∷ kinds) (value ∷ values) = (32 ∷ value_text names kind value) ∷ later names kinds values

arguments_from-later : (names : NameLists) (i : ℕ) (kinds : List ArgumentKind) (values : List Value) → arguments_from names (suc i) kinds values ≡ led 44 (later names kinds values)
arguments_from-later names i [] values = refl
arguments_from-later names i (kind ∷ kinds) [] = refl
arguments_from-later names i (kind ∷ kinds) (value ∷ values) =
    let rest : arguments_from names (suc i + 1) kinds values ≡ led 44 (later names kinds values) = rw add-one (arguments_from-later names (suc i) kinds values) in
    ap (λ (r : List ℕ). 44 ∷ (32 ∷ (value_text names kind value ++ r))) rest

later_spelled : (names : NameLists) (kinds : List ArgumentKind) (values : List Value) → ArgumentsFit kinds values → SpellsPieces names kinds values (later names kinds values)
unfolding is_of
later_spelled names [] [] fits = tt
later_spelled names (kind ∷ kinds) (value ∷ values) fits =
    ((value_text names kind value, record { before = 32 ∷ []; following = []; before_blank = refl; after_blank = refl; parts = sym (append-nil (32 ∷ value_text names kind value)) }, value_spelled names kind value fits.0), later_spelled names kinds values fits.1)
later_spelled names [] (value ∷ values) fits = absurd fits
later_spelled names (kind ∷ kinds) [] fits = absurd fits

arguments_spelled : (names : NameLists) (kinds : List ArgumentKind) (values : List Value) → ArgumentsFit kinds values → SpellsArguments names kinds values (arguments_from names 0 kinds values)
unfolding is_of
arguments_spelled names [] [] fits = (refl, refl)
arguments_spelled names (kind ∷ kinds) (value ∷ values) fits = (
  value_text names kind value ∷ later names kinds values,
  ap (λ (r : List ℕ). value_text names kind value ++ r) (arguments_from-later names 0 kinds values) ∙ sym (join-led 44 (value_text names kind value) (later names kinds values)),
  ((value_text names kind value, record { before = []; following = []; before_blank = refl; after_blank = refl; parts = sym (append-nil (value_text names kind value)) }, value_spelled names kind value fits.0), later_spelled names kinds values fits.1),
)
arguments_spelled names [] (value ∷ values) fits = absurd fits
arguments_spelled names (kind ∷ kinds) [] fits = absurd fits

later_bytes : (names : NameLists) (kinds : List ArgumentKind) (values : List Value) → AreValid names → ArgumentsFit kinds values → list_all inner (led 44 (later names kinds values)) ≡ true
unfolding is_of
later_bytes names [] [] valid fits = refl
later_bytes names (kind ∷ kinds) (value ∷ values) valid fits =
    list_all-both inner (value_text names kind value) (led 44 (later names kinds values)) (list_all-weaker (is_of Argument) inner inner-argument (value_text names kind value) (value_bytes names kind value valid fits.0)) (later_bytes names kinds values valid fits.1)
later_bytes names [] (value ∷ values) valid fits = absurd fits
later_bytes names (kind ∷ kinds) [] valid fits = absurd fits

arguments_bytes : (names : NameLists) (kinds : List ArgumentKind) (values : List Value) → AreValid names → ArgumentsFit kinds values → list_all inner (arguments_from names 0 kinds values) ≡ true
arguments_bytes names [] [] valid fits = refl
arguments_bytes names (kind ∷ kinds) (value ∷ values) valid fits =
    list_all-both inner (value_text names kind value) (arguments_from names 1 kinds values) (list_all-weaker (is_of Argument) inner inner-argument (value_text names kind value) (value_bytes names kind value valid fits.0))
    (ap (list_all inner) (arguments_from-later names 0 kinds values) ∙ later_bytes names kinds values valid fits.1)
arguments_bytes names [] (value ∷ values) valid fits = absurd fits
arguments_bytes names (kind ∷ kinds) [] valid fits = absurd fits

-- ---- calls

-- a call without its closing parenthesis
abbrev unclosed : NameLists → Call → List ℕ
unclosed names call = table.text_of call ++ (40 ∷ arguments_from names 0 (table.kinds_of call) (table.values_of call))

pub after_name-bare : (names : NameLists) (call : Call) → table.is_bare call ≡ true → after_name names call ≡ []
unfolding after_name
after_name-bare names call bare = rw bare refl

pub after_name-enclosed : (names : NameLists) (call : Call) → table.is_bare call ≡ false
    → after_name names call ≡ 40 ∷ (arguments_from names 0 (table.kinds_of call) (table.values_of call) ++ (41 ∷ []))
unfolding after_name
after_name-enclosed names call bare = rw bare refl

pub call_text-bare : (names : NameLists) (call : Call) → table.is_bare call ≡ true → call_text names call ≡ table.text_of call
unfolding call_text
call_text-bare names call bare = ap (λ (r : List ℕ). table.text_of call ++ r) (after_name-bare names call bare) ∙ append-nil (table.text_of call)

call_text-unclosed : (names : NameLists) (call : Call) → table.is_bare call ≡ false → call_text names call ≡ unclosed names call ++ (41 ∷ [])
unfolding call_text
call_text-unclosed names call bare =
    ap (λ (r : List ℕ). table.text_of call ++ r) (after_name-enclosed names call bare) ∙ sym (append_assoc (table.text_of call) (40 ∷ arguments_from names 0 (table.kinds_of call) (table.values_of call)) (41 ∷ []))

unclosed_bytes : (names : NameLists) (call : Call) → AreValid names → CallInBits call → list_all inner (unclosed names call) ≡ true
unfolding is_of
unclosed_bytes names call valid fits =
    let word = (identifier_bytes (table.text_of call) (is_identifier-text_of call)).1 in
    list_all-both inner (table.text_of call) (40 ∷ arguments_from names 0 (table.kinds_of call) (table.values_of call))
    (list_all-weaker (is_of Argument) inner inner-argument (table.text_of call) word)
    (arguments_bytes names (table.kinds_of call) (table.values_of call) valid (call_arguments_fit call fits))

name_followed : (names : NameLists) (call : Call) → CallInBits call → FollowsName names call (after_name names call)
name_followed names call fits =
    elim (cases_Bool (table.is_bare call)) [
      | inl t ↦ inl (t, ap (list_all (is_of Blank)) (after_name-bare names call t))
      | inr f ↦
          inr (f, record { between = []; inner = arguments_from names 0 (table.kinds_of call) (table.values_of call); following = []; between_blank = refl; after_blank = refl; arguments = arguments_spelled names (table.kinds_of call) (table.values_of call) (call_arguments_fit call fits); parts = after_name-enclosed names call f })
    ]

-- what stands after a name does not go on with it
name_ends : (names : NameLists) (call : Call) (rest : List ℕ) → prefix_len (is_of Word) (after_name names call ++ 32 ∷ rest) ≡ 0
unfolding is_of
name_ends names call rest =
    elim (cases_Bool (table.is_bare call)) [
      | inl t ↦ ap (λ (r : List ℕ). prefix_len (is_of Word) (r ++ 32 ∷ rest)) (after_name-bare names call t) ∙ stops-cons (is_of Word) 32 rest refl
      | inr f ↦
          ap (λ (r : List ℕ). prefix_len (is_of Word) (r ++ 32 ∷ rest)) (after_name-enclosed names call f)
          ∙ stops-cons (is_of Word) 40 ((arguments_from names 0 (table.kinds_of call) (table.values_of call) ++ (41 ∷ [])) ++ 32 ∷ rest) refl
    ]

pub call_read : (names : NameLists) (call : Call) → AreValid names → CallInBits call → call_in names (call_text names call) ≡ Ok call
unfolding call_text
call_read names call valid fits =
    call_in-spelled names (call_text names call) call valid
    (record { before = []; rest = after_name names call; before_blank = refl; follows = name_followed names call fits; parts = refl })

-- the first word of a printed call is its name
pub call_word : (names : NameLists) (call : Call) (rest : List ℕ)
    → (prefix Word (call_text names call ++ 32 ∷ rest) ≡ table.text_of call) × (after Word (call_text names call ++ 32 ∷ rest) ≡ after_name names call ++ 32 ∷ rest)
unfolding call_text
call_word names call rest =
    let whole = append_assoc (table.text_of call) (after_name names call) (32 ∷ rest) in
    let word = prefix-append Word (table.text_of call) (after_name names call ++ 32 ∷ rest) (identifier_words (table.text_of call) (is_identifier-text_of call)) (name_ends names call rest) in
    (ap (prefix Word) whole ∙ word.0, ap (after Word) whole ∙ word.1)

pub is_bare_name-text_of : (call : Call) → is_bare_name (table.text_of call) ≡ table.is_bare call
unfolding is_bare_name
is_bare_name-text_of call = ap (λ (found : Option Call). option_map_or table.is_bare found false) (named-text_of call) ∙ is_bare-name_of call

-- a printed call ends where it is cut
pub call_cut : (names : NameLists) (call : Call) (rest : List ℕ) → AreValid names → CallInBits call → cut_call (call_text names call ++ 32 ∷ rest) ≡ Some (call_text names call, 32 ∷ rest)
unfolding cut_call is_of
call_cut names call rest valid fits =
    let word = call_word names call rest in
    let bare_word : is_bare_name (prefix Word (call_text names call ++ 32 ∷ rest)) ≡ table.is_bare call = ap is_bare_name word.0 ∙ is_bare_name-text_of call in
    elim (cases_Bool (table.is_bare call)) [
      | inl t ↦
          let text = call_text-bare names call t in
          let follows : after Word (call_text names call ++ 32 ∷ rest) ≡ 32 ∷ rest = word.1 ∙ ap (λ (r : List ℕ). r ++ 32 ∷ rest) (after_name-bare names call t) in
          rw (bare_word ∙ t, word.0, follows, text) refl
      | inr f ↦
          let text = call_text-unclosed names call f in
          let whole : call_text names call ++ 32 ∷ rest ≡ unclosed names call ++ 41 ∷ (32 ∷ rest) = ap (λ (t : List ℕ). t ++ 32 ∷ rest) text ∙ append_assoc (unclosed names call) (41 ∷ []) (32 ∷ rest) in
          let cut : cut_at 41 (call_text names call ++ 32 ∷ rest) ≡ (unclosed names call, Some (32 ∷ rest)) =
          ap (cut_at 41) whole ∙ cut_at-append 41 (unclosed names call) (32 ∷ rest) (other_than inner 41 refl (unclosed names call) (unclosed_bytes names call valid fits)) in
          let long : length (call_text names call) ≡ length (unclosed names call) + 1 = ap length text ∙ length-append (unclosed names call) (41 ∷ []) in
          let taken : take (length (unclosed names call) + 1) (call_text names call ++ 32 ∷ rest) ≡ call_text names call = take_at (call_text names call) (32 ∷ rest) (length (unclosed names call) + 1) long in
          rw (bare_word ∙ f, cut, taken) refl
    ]

-- a printed call holds printed bytes
pub call_printed : (names : NameLists) (call : Call) → AreValid names → CallInBits call → list_all (is_of Printed) (call_text names call) ≡ true
unfolding is_of
call_printed names call valid fits =
    elim (cases_Bool (table.is_bare call)) [
      | inl t ↦
          let word = (identifier_bytes (table.text_of call) (is_identifier-text_of call)).1 in
          ap (list_all (is_of Printed)) (call_text-bare names call t) ∙ list_all-weaker (is_of Argument) (is_of Printed) (λ b h. printed-inner b (inner-argument b h)) (table.text_of call) word
      | inr f ↦
          ap (list_all (is_of Printed)) (call_text-unclosed names call f)
          ∙ list_all-both (is_of Printed) (unclosed names call) (41 ∷ []) (list_all-weaker inner (is_of Printed) printed-inner (unclosed names call) (unclosed_bytes names call valid fits)) refl
    ]
