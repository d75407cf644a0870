-- A call that is found at the front of a text is the one that the text is cut to.
use Rattle.std.proofs.Common.{◌≡◌, ℕ, ◌+◌, Bool, true, false, not, ◌⊎◌, eqb, inl, inr, List, [], ◌∷◌, ◌++◌, length, length-append, take, Some, Ok, refl, sym, ap, subst, ◌∙◌, append_assoc}
use Rattle.std.specs.Prelude.{codes}
use Rattle.std.specs.List.{list_all, prefix_len}
use Rattle.std.specs.Str.{bytes_eq}
use Rattle.std.proofs.lemmas.Bool.{and_from, and_parts, false≢true}
use Rattle.std.proofs.lemmas.List.{take_at}
use Rattle.fmp_codes.specs.declared.calls.Call.{Call}
use Rattle.fmp_codes.specs.declared.calls.Call.TheVariants as calls
use Rattle.fmp_codes.specs.declared.numbers.Proc.{Proc}
use Rattle.fmp_codes.specs.declared.records.Event.TheVariants as events
use Rattle.fmp_bytes.specs.declared.classes.Class.TheVariants.{Blank, Word, Argument}
use Rattle.fmp_bytes.specs.Bytes.{is_of, prefix, cut_at}
use Rattle.fmp_bytes.proofs.Cutting.{cut_at-append}
use Rattle.fmp_bytes.proofs.Included.{not_word-blank}
use Rattle.fmp_bytes.proofs.Prefixes.{prefix-append, stops-cons, stops-append, list_all-weaker, list_all-both, list_all-join}
use Rattle.fmp_bytes.proofs.Tokens.{identifier_bytes, identifier_words}
use Rattle.fmp_codes.specs.declared.kinds.ArgumentKind.{ArgumentKind}
use Rattle.fmp_codes.specs.declared.kinds.Value.{Value}
use Rattle.fmp_calls.specs.Table.{text_of, is_bare}
use Rattle.fmp_calls.proofs.Matched.{is_identifier-text_of, no_tick, no_ipi}
use Rattle.fmp_names.specs.Names.{NameLists, AreValid}
use Rattle.fmp_text.specs.Argument.{is_argument}
use Rattle.fmp_text.specs.Fronts.{IsFront}
use Rattle.fmp_text.specs.Grammar.{AreBlank, Padded, SpellsPieces, SpellsArguments, SpellsEnclosed, FollowsName, SpellsCall}
use Rattle.fmp_text.specs.Reading.{call_in}
use Rattle.fmp_text.proofs.Spelled.{value_at-spelled}
use Rattle.fmp_text.proofs.SpelledCalls.{call_in-spelled, not-word, token_bytes}
use Rattle.fmp_trace.specs.Guess.{is_bare_name, cut_call}
use Rattle.fmp_trace.specs.Heads.{called_event, event_at}
use Rattle.fmp_trace.proofs.Bytes.{other_than}
use Rattle.fmp_trace.proofs.GuessedCalls.{is_bare_name-text_of}

-- ---- no closing parenthesis stands before that of the call

-- a byte is no closing parenthesis
abbrev is_open : ℕ → Bool
is_open b = not (eqb b 41)

open_blanks : (bytes : List ℕ) → AreBlank bytes → list_all is_open bytes ≡ true
unfolding is_of
open_blanks bytes blank = other_than (is_of Blank) 41 refl bytes blank

open_name : (call : Call) → list_all is_open (text_of call) ≡ true
unfolding is_of
open_name call = other_than (is_of Argument) 41 refl (text_of call) (identifier_bytes (text_of call) (is_identifier-text_of call)).1

open_piece : (token piece : List ℕ) → is_argument token ≡ true → Padded token piece → list_all is_open piece ≡ true
unfolding is_of
open_piece token piece argument padded =
    ap (list_all is_open) padded.parts
    ∙ list_all-both is_open padded.before (token ++ padded.following) (open_blanks padded.before padded.before_blank)
    (list_all-both is_open token padded.following (other_than (is_of Argument) 41 refl token (token_bytes token argument).1) (open_blanks padded.following padded.after_blank))

open_pieces : (names : NameLists) (kinds : List ArgumentKind) (values : List Value) (pieces : List (List ℕ)) → AreValid names → SpellsPieces names kinds values pieces → list_all (list_all is_open) pieces ≡ true
open_pieces names [] [] [] valid spelled = refl
open_pieces names (kind ∷ kinds) (value ∷ values) (piece ∷ pieces) valid spelled =
    let one = spelled.0 in
    and_from (list_all is_open piece) (list_all (list_all is_open) pieces) (open_piece one.0 piece (value_at-spelled names kind one.0 value valid one.2).0 one.1) (open_pieces names kinds values pieces valid spelled.1)
open_pieces names [] [] (piece ∷ pieces) valid spelled = absurd spelled
open_pieces names [] (value ∷ values) pieces valid spelled = absurd spelled
open_pieces names (kind ∷ kinds) [] pieces valid spelled = absurd spelled
open_pieces names (kind ∷ kinds) (value ∷ values) [] valid spelled = absurd spelled

open_arguments : (names : NameLists) (kinds : List ArgumentKind) (values : List Value) (inner : List ℕ) → AreValid names → SpellsArguments names kinds values inner → list_all is_open inner ≡ true
open_arguments names [] values inner valid spelled = open_blanks inner spelled.0
open_arguments names (kind ∷ kinds) values inner valid spelled = ap (list_all is_open) spelled.1 ∙ list_all-join is_open 44 spelled.0 refl (open_pieces names (kind ∷ kinds) values spelled.0 valid spelled.2)

-- ---- a text that begins with a call

-- the first word of a text that begins with blanks, or with a name
first_word : (before name tail : List ℕ) → AreBlank before → list_all (is_of Word) name ≡ true → prefix_len (is_of Word) tail ≡ 0
    → (prefix Word (before ++ (name ++ tail)) ≡ name) ⊎ (prefix Word (before ++ (name ++ tail)) ≡ [])
first_word [] name tail blank word ends = inl (prefix-append Word name tail word ends).0
first_word (b ∷ bytes) name tail blank word ends =
    inr (prefix-append Word [] (b ∷ (bytes ++ (name ++ tail))) refl (stops-cons (is_of Word) b (bytes ++ (name ++ tail)) (not_word-blank b (and_parts (is_of Blank b) (list_all (is_of Blank) bytes) blank).0))).0

-- the word is no event's, and no bare call's
record WordReported (word : List ℕ) : Type 0 where
  tick : bytes_eq word (codes "tick") ≡ false
  ipi : bytes_eq word (codes "ipi") ≡ false
  other : is_bare_name word ≡ false

name_reported : (call : Call) → is_bare call ≡ false → WordReported (text_of call)
name_reported call bare = record { tick = no_tick call; ipi = no_ipi call; other = is_bare_name-text_of call ∙ bare }

none_reported : WordReported []
unfolding is_bare_name
none_reported = record { tick = refl; ipi = refl; other = refl }

module _ (names : NameLists) (valid : AreValid names) (text rest : List ℕ) (call : Call) (f : IsFront (SpellsCall names) text call rest) (bare : is_bare call ≡ false) (e : SpellsEnclosed names call f.spelled.rest) where
  -- the call without its closing parenthesis and what follows that
  unclosed : List ℕ
  unclosed = f.spelled.before ++ (text_of call ++ (e.between ++ (40 ∷ e.inner)))

  unclosed_open : list_all is_open unclosed ≡ true
  unfolding unclosed
  unclosed_open =
      list_all-both is_open f.spelled.before (text_of call ++ (e.between ++ (40 ∷ e.inner))) (open_blanks f.spelled.before f.spelled.before_blank)
      (list_all-both is_open (text_of call) (e.between ++ (40 ∷ e.inner)) (open_name call)
      (list_all-both is_open e.between (40 ∷ e.inner) (open_blanks e.between e.between_blank) (open_arguments names _ _ e.inner valid e.arguments)))

  whole : text ≡ unclosed ++ (41 ∷ (e.following ++ rest))
  unfolding unclosed
  whole =
      f.parts
      ∙ ap (λ (t : List ℕ). t ++ rest) (f.spelled.parts ∙ ap (λ (r : List ℕ). f.spelled.before ++ (text_of call ++ r)) e.parts)
      ∙ simp append_assoc

  closed : text ≡ (unclosed ++ (41 ∷ [])) ++ (e.following ++ rest)
  closed = whole ∙ sym (append_assoc unclosed (41 ∷ []) (e.following ++ rest))

  cut_there : cut_at 41 text ≡ (unclosed, Some (e.following ++ rest))
  cut_there = ap (cut_at 41) whole ∙ cut_at-append 41 unclosed (e.following ++ rest) unclosed_open

  taken : take (length unclosed + 1) text ≡ unclosed ++ (41 ∷ [])
  taken = ap (take (length unclosed + 1)) closed ∙ take_at (unclosed ++ (41 ∷ [])) (e.following ++ rest) (length unclosed + 1) (length-append unclosed (41 ∷ []))

  read_so : call_in names (unclosed ++ (41 ∷ [])) ≡ Ok call
  unfolding unclosed is_of
  read_so = call_in-spelled names (unclosed ++ (41 ∷ [])) call valid (record {
    before = f.spelled.before;
    rest = e.between ++ (40 ∷ (e.inner ++ (41 ∷ [])));
    before_blank = f.spelled.before_blank;
    follows = inr (bare, record { between = e.between; inner = e.inner; following = []; between_blank = e.between_blank; after_blank = refl; arguments = e.arguments; parts = refl });
    parts = simp append_assoc;
  })

  word_reported : WordReported (prefix Word text)
  unfolding is_of
  word_reported =
      let tail = e.between ++ (40 ∷ (e.inner ++ (41 ∷ (e.following ++ rest)))) in
      let parts : text ≡ f.spelled.before ++ (text_of call ++ tail) =
      f.parts ∙ ap (λ (t : List ℕ). t ++ rest) (f.spelled.parts ∙ ap (λ (r : List ℕ). f.spelled.before ++ (text_of call ++ r)) e.parts) ∙ simp append_assoc in
      let ends = stops-append (is_of Word) e.between 40 (e.inner ++ (41 ∷ (e.following ++ rest))) (list_all-weaker (is_of Blank) (λ b. not (is_of Word b)) not-word e.between e.between_blank) refl in
      elim (first_word f.spelled.before (text_of call) tail f.spelled.before_blank (identifier_words (text_of call) (is_identifier-text_of call)) ends) [
        | inl word ↦ subst WordReported (sym (ap (prefix Word) parts ∙ word)) (name_reported call bare)
        | inr none ↦ subst WordReported (sym (ap (prefix Word) parts ∙ none)) none_reported
      ]

  event_reported : (p : Proc) → event_at names p text ≡ Some (events.Call p call)
  unfolding event_at called_event cut_call
  event_reported p =
      let word = word_reported in
      let tick = word.tick in let ipi = word.ipi in let other = word.other in
      rw (tick, ipi, other, cut_there, taken, read_so) refl

followed : (names : NameLists) (valid : AreValid names) (text rest : List ℕ) (call : Call) (f : IsFront (SpellsCall names) text call rest) → is_bare call ≡ false → FollowsName names call f.spelled.rest → (p : Proc) → event_at names p text ≡ Some (events.Call p call)
followed names valid text rest call f bare (inl is) p = absurd (false≢true (sym bare ∙ is.0))
followed names valid text rest call f bare (inr is) p = event_reported names valid text rest call f bare is.1 p

-- a text that begins with a call in parentheses tells that call
pub front_call : (names : NameLists) (text rest : List ℕ) (call : Call) (p : Proc) → AreValid names → IsFront (SpellsCall names) text call rest → is_bare call ≡ false → event_at names p text ≡ Some (events.Call p call)
front_call names text rest call p valid f bare = followed names valid text rest call f bare f.spelled.follows p

-- ---- the call that is written without parentheses

pub return_reported : (names : NameLists) (text : List ℕ) (p : Proc) → AreValid names → prefix Word text ≡ codes "ret_hdr" → event_at names p text ≡ Some (events.Call p calls.RetHdr)
unfolding event_at called_event cut_call
return_reported names text p valid word =
    let bare : is_bare_name (codes "ret_hdr") ≡ true = is_bare_name-text_of calls.RetHdr in
    let spelled : SpellsCall names (codes "ret_hdr") calls.RetHdr = record { before = []; rest = []; before_blank = refl; follows = inl (refl, refl); parts = refl } in
    rw (word, bare, call_in-spelled names (codes "ret_hdr") calls.RetHdr valid spelled) refl
