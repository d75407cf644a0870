-- A call is read exactly where it is spelled.
use Rattle.std.proofs.Common.{◌≡◌, Option, ℕ, ◌<◌, ◌≤◌, Bool, true, false, not, ◌&&◌, ◌||◌, cond, eqb, ◌⊎◌, inl, inr, List, [], ◌∷◌, ◌++◌, length, Some, None, Ok, option_and_then, refl, sym, ap, ◌∙◌, arith}
use Rattle.std.specs.List.{list_all, prefix_len, join_with_byte}
use Rattle.std.specs.Option.{ok_or}
use Rattle.std.proofs.lemmas.Bool.{cases_Bool, and_parts, and_from, or_cases, eq-eqb, ne_eqb, le-leb, eqb-true, false≢true}
use Rattle.std.proofs.lemmas.Option.{cond_some}
use Rattle.fmp_codes.specs.declared.calls.Call.{Call}
use Rattle.fmp_bytes.specs.declared.classes.Class.TheVariants.{Blank, Word, Argument, Line}
use Rattle.fmp_bytes.specs.Bytes.{is_of, prefix, after, following, cut_at, pieces_of, is_identifier}
use Rattle.fmp_bytes.proofs.Prefixes.{prefix-append, prefix-after, list_all-take_while, stops-cons, stops-append, stops-all, list_all-weaker, list_all-both, list_all-parts, list_all-join}
use Rattle.fmp_bytes.proofs.Included.{line-blank, line-argument, not_argument-blank, not_word-blank, not_blank-argument}
use Rattle.fmp_bytes.proofs.Tokens.{AreOfArgument, identifier_bytes, identifier_words, number_bytes}
use Rattle.fmp_bytes.proofs.Spelled.{after_is, following-same}
use Rattle.fmp_bytes.proofs.Cutting.{cut_at-append, cut_at-parts, pieces_of-join, join-pieces_of, some-pieces_of}
use Rattle.fmp_codes.specs.declared.kinds.ArgumentKind.{ArgumentKind}
use Rattle.fmp_codes.specs.declared.kinds.Value.{Value}
use Rattle.fmp_text.specs.declared.fault.TextKind.TheVariants.{BadByte, BadWord, WrongArguments}
use Rattle.fmp_names.specs.Names.{NameLists, AreValid}
use Rattle.fmp_calls.specs.Table.{text_of, is_bare, kinds_of, name_of, values_of, call_of}
use Rattle.fmp_text.specs.Argument.{is_argument, token_in, tokens_in, arguments_in, before_close, enclosed_in, arguments_after, value_at}
use Rattle.fmp_text.specs.Reading.{named_call, values_at, call_with, call_after, call_at, call_in}
use Rattle.fmp_text.specs.Grammar.{AreBlank, Padded, SpellsPieces, SpellsArguments, SpellsEnclosed, FollowsName, SpellsCall}
use Rattle.fmp_text.proofs.Spelled.{value_at-spelled, value_is_spelled}
use Rattle.fmp_calls.proofs.Matched.{call_of-parts, call_of-agrees, call_of-same, named-text_of, text_of-named, is_bare-name_of, kinds_of-name_of, bare_alone, is_identifier-text_of, length-kinds_of-le}
use Rattle.fmp_bytes.proofs.Parsed.{and_then_parts, ok_or_parts, tested_ok, bind_parts}
use Rattle.fmp_bytes.specs.Results.{◌>>=◌}

-- ---- an argument with blanks around

-- a byte that may stand between the parentheses, but for the comma
abbrev pub inside : ℕ → Bool
inside b = is_of Blank b || is_of Argument b

line-inside : (b : ℕ) → inside b ≡ true → is_of Line b ≡ true
line-inside b h = elim (or_cases (is_of Blank b) (is_of Argument b) h) [ inl t ↦ line-blank b t | inr t ↦ line-argument b t ]

-- a byte that is neither blank nor of an argument is not inside
pub outside : (c : ℕ) → inside c ≡ false → (b : ℕ) → inside b ≡ true → not (eqb b c) ≡ true
outside c out b h =
    let other : eqb b c ≡ false = ne_eqb b c (λ e. false≢true (sym out ∙ ap inside (sym e) ∙ h)) in
    rw other refl

inside-blank : (b : ℕ) → is_of Blank b ≡ true → inside b ≡ true
inside-blank b h = rw h refl

inside-argument : (b : ℕ) → is_of Argument b ≡ true → inside b ≡ true
inside-argument b h = let blank = not_blank-argument b h in rw (blank, h) refl

not-blank : (b : ℕ) → is_of Blank b ≡ true → not (is_of Argument b) ≡ true
not-blank b h = let none = not_argument-blank b h in rw none refl

pub not-word : (b : ℕ) → is_of Blank b ≡ true → not (is_of Word b) ≡ true
not-word b h = let none = not_word-blank b h in rw none refl

pub token_bytes : (token : List ℕ) → is_argument token ≡ true → AreOfArgument token
unfolding is_argument
token_bytes token h = elim (or_cases (is_identifier token) _ h) [ inl t ↦ identifier_bytes token t | inr t ↦ number_bytes token t ]

-- an argument does not begin with a blank
pub token_first : (token rest : List ℕ) → AreOfArgument token → prefix_len (is_of Blank) (token ++ rest) ≡ 0
token_first [] rest bytes = absurd (omega (arith, bytes.0))
token_first (b ∷ token) rest bytes = stops-cons (is_of Blank) b (token ++ rest) (not_blank-argument b (and_parts (is_of Argument b) (list_all (is_of Argument) token) bytes.1).0)

-- a text with an argument is not blank
pub not_all_blank : (before token rest : List ℕ) → AreOfArgument token → list_all (is_of Blank) (before ++ (token ++ rest)) ≡ true → ⊥
not_all_blank before [] rest bytes all = absurd (omega (arith, bytes.0))
not_all_blank before (b ∷ token) rest bytes all =
    let tail = (list_all-parts (is_of Blank) before (b ∷ token ++ rest) all).1 in
    let blank = (and_parts (is_of Blank b) (list_all (is_of Blank) (token ++ rest)) tail).0 in
    false≢true (sym (not_blank-argument b (and_parts (is_of Argument b) (list_all (is_of Argument) token) bytes.1).0) ∙ blank)

pub padded_read : (token piece : List ℕ) → Padded token piece → is_argument token ≡ true → token_in piece ≡ Some token
unfolding token_in
padded_read token piece padded form =
    let bytes = token_bytes token form in
    let start = prefix-append Blank padded.before (token ++ padded.following) padded.before_blank (token_first token padded.following bytes) in
    let stop = stops-all (is_of Argument) padded.following (list_all-weaker (is_of Blank) (λ b. not (is_of Argument b)) not-blank padded.following padded.after_blank) in
    let whole = prefix-append Argument token padded.following bytes.1 stop in
    let skipped : after Blank piece ≡ token ++ padded.following = ap (after Blank) padded.parts ∙ start.1 in
    let one : prefix Argument (after Blank piece) ≡ token = ap (prefix Argument) skipped ∙ whole.0 in
    let rest : after Argument (after Blank piece) ≡ padded.following = ap (after Argument) skipped ∙ whole.1 in
    let blank = padded.after_blank in
    rw (one, rest, form, blank) refl

pub padded_inside : (token piece : List ℕ) → Padded token piece → is_argument token ≡ true → list_all inside piece ≡ true
padded_inside token piece padded form =
    ap (list_all inside) padded.parts
    ∙ list_all-both inside padded.before (token ++ padded.following) (list_all-weaker (is_of Blank) inside inside-blank padded.before padded.before_blank)
    (list_all-both inside token padded.following (list_all-weaker (is_of Argument) inside inside-argument token (token_bytes token form).1) (list_all-weaker (is_of Blank) inside inside-blank padded.following padded.after_blank))

pub token_is_padded : (piece token : List ℕ) → token_in piece ≡ Some token → Padded token piece × (is_argument token ≡ true)
unfolding token_in
token_is_padded piece token e =
    let t = cond_some (is_argument (prefix Argument (after Blank piece)) && list_all (is_of Blank) (after Argument (after Blank piece))) (prefix Argument (after Blank piece)) token e in
    let p = and_parts (is_argument (prefix Argument (after Blank piece))) (list_all (is_of Blank) (after Argument (after Blank piece))) t.0 in
    let whole : piece ≡ prefix Blank piece ++ (token ++ after Argument (after Blank piece)) = sym (prefix-after Blank piece) ∙ ap (λ (r : List ℕ). prefix Blank piece ++ r) (sym (prefix-after Argument (after Blank piece)) ∙ ap (λ (f : List ℕ). f ++ after Argument (after Blank piece)) t.1) in
    (record { before = prefix Blank piece; following = after Argument (after Blank piece); before_blank = list_all-take_while (is_of Blank) piece; after_blank = p.1; parts = whole }, ap is_argument (sym t.1) ∙ p.0)

-- ---- the pieces between commas

-- what reading gives of pieces that are spelled
pub record AreRead (names : NameLists) (kinds : List ArgumentKind) (values : List Value) (pieces : List (List ℕ)) : Type 0 where
  pub tokens : List (List ℕ)
  pub formed : tokens_in pieces ≡ Some tokens
  pub judged : values_at names kinds tokens ≡ Ok values
  pub as_many : length tokens ≡ length kinds
  pub pieces_many : length pieces ≡ length kinds
  pub inner : list_all (list_all inside) pieces ≡ true

pieces_read : (names : NameLists) (kinds : List ArgumentKind) (values : List Value) (pieces : List (List ℕ)) → AreValid names → SpellsPieces names kinds values pieces → AreRead names kinds values pieces
pieces_read names [] [] [] valid spelled = record { tokens = []; formed = refl; judged = refl; as_many = refl; pieces_many = refl; inner = refl }
pieces_read names (kind ∷ kinds) (value ∷ values) (piece ∷ pieces) valid spelled =
    let one = spelled.0 in
    let here = value_at-spelled names kind one.0 value valid one.2 in
    let token = padded_read one.0 piece one.1 here.0 in
    let rest = pieces_read names kinds values pieces valid spelled.1 in
    let formed = rest.formed in let judged = rest.judged in let value_read = here.1 in
    record {
      tokens = one.0 ∷ rest.tokens;
      formed = rw (token, formed) refl;
      judged = rw (value_read, judged) refl;
      as_many = omega (arith, rest.as_many);
      pieces_many = omega (arith, rest.pieces_many);
      inner = and_from (list_all inside piece) (list_all (list_all inside) pieces) (padded_inside one.0 piece one.1 here.0) rest.inner;
    }
pieces_read names [] [] (piece ∷ pieces) valid spelled = absurd spelled
pieces_read names [] (value ∷ values) pieces valid spelled = absurd spelled
pieces_read names (kind ∷ kinds) [] pieces valid spelled = absurd spelled
pieces_read names (kind ∷ kinds) (value ∷ values) [] valid spelled = absurd spelled

-- ---- the arguments

pub list_all-all : (p q : List ℕ → Bool) → ((x : List ℕ) → p x ≡ true → q x ≡ true) → (xs : List (List ℕ)) → list_all p xs ≡ true → list_all q xs ≡ true
list_all-all p q step [] all = refl
list_all-all p q step (x ∷ xs) all =
    let parts = and_parts (p x) (list_all p xs) all in
    and_from (q x) (list_all q xs) (step x parts.0) (list_all-all p q step xs parts.1)

-- a text whose first piece holds an argument is not blank
not_blank-joined : (names : NameLists) (kind : ArgumentKind) (kinds : List ArgumentKind) (values : List Value) (pieces : List (List ℕ)) → AreValid names → SpellsPieces names (kind ∷ kinds) values pieces
    → list_all (is_of Blank) (join_with_byte 44 pieces) ≡ false
not_blank-joined names kind kinds [] pieces valid spelled = absurd spelled
not_blank-joined names kind kinds (value ∷ values) [] valid spelled = absurd spelled
not_blank-joined names kind kinds (value ∷ values) (piece ∷ []) valid spelled =
    let one = spelled.0 in
    let bytes = token_bytes one.0 (value_at-spelled names kind one.0 value valid one.2).0 in
    elim (cases_Bool (list_all (is_of Blank) piece)) [
      | inl t ↦ absurd (not_all_blank one.1.before one.0 one.1.following bytes (ap (list_all (is_of Blank)) (sym one.1.parts) ∙ t))
      | inr f ↦ f
    ]
not_blank-joined names kind kinds (value ∷ values) (piece ∷ next ∷ pieces) valid spelled =
    let one = spelled.0 in
    let bytes = token_bytes one.0 (value_at-spelled names kind one.0 value valid one.2).0 in
    elim (cases_Bool (list_all (is_of Blank) (piece ++ (44 ∷ join_with_byte 44 (next ∷ pieces))))) [
      | inl t ↦ absurd (not_all_blank one.1.before one.0 one.1.following bytes (ap (list_all (is_of Blank)) (sym one.1.parts) ∙ (list_all-parts (is_of Blank) piece (44 ∷ join_with_byte 44 (next ∷ pieces)) t).0))
      | inr f ↦ f
    ]

-- what reading gives of arguments that are spelled
pub record InnerRead (names : NameLists) (kinds : List ArgumentKind) (values : List Value) (inner : List ℕ) : Type 0 where
  pub tokens : List (List ℕ)
  pub formed : arguments_in 4 inner ≡ Some tokens
  pub judged : values_at names kinds tokens ≡ Ok values
  pub as_many : length tokens ≡ length kinds
  pub in_line : list_all (is_of Line) inner ≡ true
  pub no_close : list_all (λ b. not (eqb b 41)) inner ≡ true

inner_read : (names : NameLists) (kinds : List ArgumentKind) (values : List Value) (inner : List ℕ) → AreValid names → length kinds ≤ 4 → SpellsArguments names kinds values inner → InnerRead names kinds values inner
unfolding arguments_in is_of
inner_read names [] values inner valid few spelled =
    let blank = spelled.0 in let none = spelled.1 in
    record {
      tokens = [];
      formed = rw blank refl;
      judged = rw none refl;
      as_many = refl;
      in_line = list_all-weaker (is_of Blank) (is_of Line) line-blank inner blank;
      no_close = list_all-weaker (is_of Blank) (λ b. not (eqb b 41)) (λ b h. outside 41 refl b (inside-blank b h)) inner blank;
    }
inner_read names (kind ∷ kinds) values inner valid few spelled =
    let pieces = spelled.0 in
    let read = pieces_read names (kind ∷ kinds) values pieces valid spelled.2 in
    let some : 0 < length pieces = omega (arith, read.pieces_many) in
    let not_blank : list_all (is_of Blank) inner ≡ false = ap (list_all (is_of Blank)) spelled.1 ∙ not_blank-joined names kind kinds values pieces valid spelled.2 in
    let apart = list_all-all (list_all inside) (list_all (λ b. not (eqb b 44))) (λ piece h. list_all-weaker inside (λ b. not (eqb b 44)) (outside 44 refl) piece h) pieces read.inner in
    let cut : pieces_of 44 inner ≡ pieces = ap (pieces_of 44) spelled.1 ∙ pieces_of-join 44 pieces some apart in
    let formed = read.formed in
    let within = le-leb (length read.tokens) 4 (omega (arith, read.as_many, few)) in
    let line = list_all-join (is_of Line) 44 pieces refl (list_all-all (list_all inside) (list_all (is_of Line)) (λ piece h. list_all-weaker inside (is_of Line) line-inside piece h) pieces read.inner) in
    let unclosed = list_all-join (λ b. not (eqb b 41)) 44 pieces refl (list_all-all (list_all inside) (list_all (λ b. not (eqb b 41))) (λ piece h. list_all-weaker inside (λ b. not (eqb b 41)) (outside 41 refl) piece h) pieces read.inner) in
    record {
      tokens = read.tokens;
      formed = rw (not_blank, cut, formed, within) refl;
      judged = read.judged;
      as_many = read.as_many;
      in_line = ap (list_all (is_of Line)) spelled.1 ∙ line;
      no_close = ap (list_all (λ b. not (eqb b 41))) spelled.1 ∙ unclosed;
    }

-- ---- what is spelled is read

pub enclosed_read : (between inner rest : List ℕ) → AreBlank between → list_all (λ b. not (eqb b 41)) inner ≡ true → AreBlank rest → enclosed_in (between ++ (40 ∷ (inner ++ (41 ∷ rest)))) ≡ Some inner
unfolding enclosed_in before_close is_of
enclosed_read between inner rest blank no_close ended =
    let start = prefix-append Blank between (40 ∷ (inner ++ (41 ∷ rest))) blank (stops-cons (is_of Blank) 40 (inner ++ (41 ∷ rest)) refl) in
    let skipped = start.1 in
    rw (skipped, following-same 40 (inner ++ (41 ∷ rest)), cut_at-append 41 inner rest no_close, ended) refl

pub blanks_in_line : (bytes : List ℕ) → AreBlank bytes → list_all (is_of Line) bytes ≡ true
blanks_in_line bytes blank = list_all-weaker (is_of Blank) (is_of Line) line-blank bytes blank

-- what reading gives of what follows a call's name
pub record RestRead (names : NameLists) (call : Call) (rest : List ℕ) : Type 0 where
  pub tokens : List (List ℕ)
  pub formed : arguments_after 4 (is_bare call) rest ≡ Some tokens
  pub judged : values_at names (kinds_of call) tokens ≡ Ok (values_of call)
  pub as_many : length tokens ≡ length (kinds_of call)
  pub in_line : list_all (is_of Line) rest ≡ true

bare_read : (names : NameLists) (call : Call) (rest : List ℕ) → is_bare call ≡ true → AreBlank rest → RestRead names call rest
unfolding arguments_after
bare_read names call rest bare blank =
    let alone = bare_alone call bare in
    let no_kinds = alone.0 in let no_values = alone.1 in
    record {
      tokens = [];
      formed = rw (bare, blank) refl;
      judged = rw (no_kinds, no_values) refl;
      as_many = rw no_kinds refl;
      in_line = blanks_in_line rest blank;
    }

enclosed_rest_read : (names : NameLists) (call : Call) (rest : List ℕ) → AreValid names → is_bare call ≡ false → SpellsEnclosed names call rest → RestRead names call rest
unfolding arguments_after is_of
enclosed_rest_read names call rest valid bare s =
    let read = inner_read names (kinds_of call) (values_of call) s.inner valid (length-kinds_of-le call) s.arguments in
    let formed = read.formed in let parts = s.parts in
    let inside_line = list_all-both (is_of Line) s.inner (41 ∷ s.following) read.in_line (and_from (is_of Line 41) (list_all (is_of Line) s.following) refl (blanks_in_line s.following s.after_blank)) in
    record {
      tokens = read.tokens;
      formed = rw (bare, parts, enclosed_read s.between s.inner s.following s.between_blank read.no_close s.after_blank) formed;
      judged = read.judged;
      as_many = read.as_many;
      in_line = rw parts (list_all-both (is_of Line) s.between (40 ∷ (s.inner ++ (41 ∷ s.following))) (blanks_in_line s.between s.between_blank) inside_line);
    }

rest_read : (names : NameLists) (call : Call) (rest : List ℕ) → AreValid names → FollowsName names call rest → RestRead names call rest
rest_read names call rest valid (inl s) = bare_read names call rest s.0 s.1
rest_read names call rest valid (inr s) = enclosed_rest_read names call rest valid s.0 s.1

-- what follows the name
after_read : (names : NameLists) (call : Call) (rest : List ℕ) → RestRead names call rest → call_after names (name_of call) rest ≡ Ok call
unfolding call_after call_with
after_read names call rest read =
    let kinds = kinds_of-name_of call in
    let formed : arguments_after 4 (is_bare (name_of call)) rest ≡ Some read.tokens = ap (λ (bare : Bool). arguments_after 4 bare rest) (is_bare-name_of call) ∙ read.formed in
    let judged : values_at names (kinds_of (name_of call)) read.tokens ≡ Ok (values_of call) = ap (λ (ks : List ArgumentKind). values_at names ks read.tokens) kinds ∙ read.judged in
    let test = eq-eqb (length read.tokens) (length (kinds_of (name_of call))) (read.as_many ∙ ap length (sym kinds)) in
    rw (formed, test, judged, call_of-parts call) refl

named_call-text_of : (call : Call) → named_call (text_of call) ≡ Ok (name_of call)
unfolding named_call
named_call-text_of call = ap (λ (found : Option Call). ok_or found BadWord) (named-text_of call)

-- a name ends where what follows it begins
no_word : (names : NameLists) (call : Call) (rest : List ℕ) → FollowsName names call rest → prefix_len (is_of Word) rest ≡ 0
unfolding is_of
no_word names call rest (inl s) = stops-all (is_of Word) rest (list_all-weaker (is_of Blank) (λ b. not (is_of Word b)) not-word rest s.1)
no_word names call rest (inr s) =
    let e = s.1 in
    ap (prefix_len (is_of Word)) e.parts ∙ stops-append (is_of Word) e.between 40 (e.inner ++ (41 ∷ e.following)) (list_all-weaker (is_of Blank) (λ b. not (is_of Word b)) not-word e.between e.between_blank) refl

-- the name is the first word
name_read : (names : NameLists) (call : Call) (rest : List ℕ) → FollowsName names call rest → (prefix Word (text_of call ++ rest) ≡ text_of call) × (after Word (text_of call ++ rest) ≡ rest)
name_read names call rest follows = prefix-append Word (text_of call) rest (identifier_words (text_of call) (is_identifier-text_of call)) (no_word names call rest follows)

-- the bytes of a call may stand in a line
pub line_of_call : (names : NameLists) (text : List ℕ) (call : Call) → AreValid names → SpellsCall names text call → list_all (is_of Line) text ≡ true
line_of_call names text call valid s =
    let read = rest_read names call s.rest valid s.follows in
    let word = list_all-weaker (is_of Argument) (is_of Line) line-argument (text_of call) (identifier_bytes (text_of call) (is_identifier-text_of call)).1 in
    ap (list_all (is_of Line)) s.parts ∙ list_all-both (is_of Line) s.before (text_of call ++ s.rest) (blanks_in_line s.before s.before_blank) (list_all-both (is_of Line) (text_of call) s.rest word read.in_line)

-- what follows the blanks before it
skipped_blanks : (names : NameLists) (text : List ℕ) (call : Call) (s : SpellsCall names text call) → after Blank text ≡ text_of call ++ s.rest
skipped_blanks names text call s =
    let bytes = identifier_bytes (text_of call) (is_identifier-text_of call) in
    let start = prefix-append Blank s.before (text_of call ++ s.rest) s.before_blank (token_first (text_of call) s.rest bytes) in
    ap (after Blank) s.parts ∙ start.1

pub word_of_call : (names : NameLists) (text : List ℕ) (call : Call) → SpellsCall names text call → prefix Word (after Blank text) ≡ text_of call
word_of_call names text call s = ap (prefix Word) (skipped_blanks names text call s) ∙ (name_read names call s.rest s.follows).0

-- after the blanks before it
pub call_at-spelled : (names : NameLists) (text : List ℕ) (call : Call) → AreValid names → SpellsCall names text call → call_at names (after Blank text) ≡ Ok call
unfolding call_at
call_at-spelled names text call valid s =
    let read = rest_read names call s.rest valid s.follows in
    let whole = name_read names call s.rest s.follows in
    let name = whole.0 in let follows = whole.1 in
    rw (skipped_blanks names text call s, name, follows, named_call-text_of call) (after_read names call s.rest read)

pub call_in-spelled : (names : NameLists) (text : List ℕ) (call : Call) → AreValid names → SpellsCall names text call → call_in names text ≡ Ok call
unfolding call_in
call_in-spelled names text call valid s =
    let line = line_of_call names text call valid s in
    rw line (call_at-spelled names text call valid s)

-- ---- what is read is spelled

pub tokens_parts : (piece : List ℕ) (pieces tokens : List (List ℕ)) → tokens_in (piece ∷ pieces) ≡ Some tokens → (token : List ℕ) × (others : List (List ℕ)) × (token_in piece ≡ Some token) × (tokens_in pieces ≡ Some others) × (tokens ≡ token ∷ others)
tokens_parts piece pieces tokens e =
    let p = and_then_parts (token_in piece) (λ token. option_and_then (λ others. Some (token ∷ others)) (tokens_in pieces)) tokens e in
    let q = and_then_parts (tokens_in pieces) (λ others. Some (p.0 ∷ others)) tokens p.2 in
    let same : p.0 ∷ q.0 ≡ tokens = let e2 = q.2 in cc in
    (p.0, q.0, p.1, q.1, sym same)

values_parts : (names : NameLists) (kind : ArgumentKind) (kinds : List ArgumentKind) (token : List ℕ) (tokens : List (List ℕ)) (values : List Value) → values_at names (kind ∷ kinds) (token ∷ tokens) ≡ Ok values
    → (value : Value) × (others : List Value) × (value_at names kind token ≡ Ok value) × (values_at names kinds tokens ≡ Ok others) × (values ≡ value ∷ others)
values_parts names kind kinds token tokens values e =
    let p = bind_parts (value_at names kind token) (λ value. values_at names kinds tokens >>= λ others. Ok (value ∷ others)) values e in
    let q = bind_parts (values_at names kinds tokens) (λ others. Ok (p.0 ∷ others)) values p.2 in
    let same : p.0 ∷ q.0 ≡ values = let e2 = q.2 in cc in
    (p.0, q.0, p.1, q.1, sym same)

pieces_spelled : (names : NameLists) (kinds : List ArgumentKind) (pieces tokens : List (List ℕ)) (values : List Value) → tokens_in pieces ≡ Some tokens → length tokens ≡ length kinds → values_at names kinds tokens ≡ Ok values → SpellsPieces names kinds values pieces
pieces_spelled names [] [] tokens values formed as_many judged = let none : [] ≡ values = cc in rw (← none) tt
pieces_spelled names (kind ∷ kinds) [] tokens values formed as_many judged = let none : [] ≡ tokens = cc in absurd (omega (arith, ap length none, as_many))
pieces_spelled names [] (piece ∷ pieces) tokens values formed as_many judged = let p = tokens_parts piece pieces tokens formed in absurd (omega (arith, ap length p.4, as_many))
pieces_spelled names (kind ∷ kinds) (piece ∷ pieces) tokens values formed as_many judged =
    let p = tokens_parts piece pieces tokens formed in
    let tokens_are = p.4 in
    let v = values_parts names kind kinds p.0 p.1 values (rw tokens_are at judged) in
    let padded = token_is_padded piece p.0 p.2 in
    let rest = pieces_spelled names kinds pieces p.1 v.1 p.3 (omega (arith, ap length tokens_are, as_many)) v.3 in
    let values_are = v.4 in
    rw values_are ((p.0, padded.0, value_is_spelled names kind p.0 v.0 v.2), rest)

-- some pieces have some arguments
pub no_pieces : (names : NameLists) (pieces tokens : List (List ℕ)) (values : List Value) → tokens_in pieces ≡ Some tokens → length tokens ≡ 0 → 0 < length pieces → ⊥
no_pieces names [] tokens values formed none some = omega (arith, some)
no_pieces names (piece ∷ pieces) tokens values formed none some = let p = tokens_parts piece pieces tokens formed in omega (arith, ap length p.4, none)

inner_spelled : (names : NameLists) (kinds : List ArgumentKind) (values : List Value) (inner : List ℕ) (tokens : List (List ℕ)) → arguments_in 4 inner ≡ Some tokens → length tokens ≡ length kinds → values_at names kinds tokens ≡ Ok values → SpellsArguments names kinds values inner
unfolding arguments_in
inner_spelled names [] values inner tokens formed as_many judged =
    elim (cases_Bool (list_all (is_of Blank) inner)) [
      | inl t ↦ let none : [] ≡ values = cc in (t, sym none)
      | inr f ↦
          let p = and_then_parts (tokens_in (pieces_of 44 inner)) _ tokens (rw f at formed) in
          let few = cond_some _ p.0 tokens p.2 in
          absurd (no_pieces names (pieces_of 44 inner) p.0 values p.1 (ap length few.1 ∙ as_many) (some-pieces_of 44 inner))
    ]
inner_spelled names (kind ∷ kinds) values inner tokens formed as_many judged =
    elim (cases_Bool (list_all (is_of Blank) inner)) [
      | inl t ↦ let e = rw t at formed in let none : [] ≡ tokens = cc in absurd (omega (arith, ap length none, as_many))
      | inr f ↦
          let p = and_then_parts (tokens_in (pieces_of 44 inner)) _ tokens (rw f at formed) in
          let few = cond_some _ p.0 tokens p.2 in
          let same = few.1 in
          (pieces_of 44 inner, sym (join-pieces_of 44 inner), pieces_spelled names (kind ∷ kinds) (pieces_of 44 inner) tokens values (p.1 ∙ ap (λ (ts : List (List ℕ)). Some ts) same) as_many judged)
    ]

-- the parts of what stands between parentheses
pub record Enclosed (text inner : List ℕ) : Type 0 where
  pub between : List ℕ
  pub following : List ℕ
  pub between_blank : AreBlank between
  pub after_blank : AreBlank following
  pub parts : text ≡ between ++ (40 ∷ (inner ++ (41 ∷ following)))

pub enclosed_spelled : (text inner : List ℕ) → enclosed_in text ≡ Some inner → Enclosed text inner
unfolding enclosed_in before_close
enclosed_spelled text inner e =
    let p = and_then_parts (following 40 (after Blank text)) before_close inner e in
    let q = and_then_parts (cut_at 41 p.0).1 (λ rest. cond (list_all (is_of Blank) rest) (Some (cut_at 41 p.0).0) None) inner p.2 in
    let t = cond_some (list_all (is_of Blank) q.0) (cut_at 41 p.0).0 inner q.2 in
    let opened : after Blank text ≡ 40 ∷ p.0 = after_is 40 (after Blank text) p.0 p.1 in
    let closed : p.0 ≡ inner ++ (41 ∷ q.0) = cut_at-parts 41 p.0 q.0 q.1 ∙ ap (λ (i : List ℕ). i ++ (41 ∷ q.0)) t.1 in
    record {
      between = prefix Blank text;
      following = q.0;
      between_blank = list_all-take_while (is_of Blank) text;
      after_blank = t.0;
      parts = sym (prefix-after Blank text) ∙ ap (λ (r : List ℕ). prefix Blank text ++ r) (opened ∙ ap (λ (r : List ℕ). 40 ∷ r) closed);
    }

-- what follows a name of these kinds and is read as these values
follows_spelled : (names : NameLists) (bare : Bool) (kinds : List ArgumentKind) (values : List Value) (rest : List ℕ) (tokens : List (List ℕ))
    → arguments_after 4 bare rest ≡ Some tokens → length tokens ≡ length kinds → values_at names kinds tokens ≡ Ok values
    → ((bare ≡ true) × AreBlank rest) ⊎ ((bare ≡ false) × ((inner : List ℕ) × Enclosed rest inner × SpellsArguments names kinds values inner))
unfolding arguments_after
follows_spelled names true kinds values rest tokens formed as_many judged = inl (refl, (cond_some (list_all (is_of Blank) rest) [] tokens formed).0)
follows_spelled names false kinds values rest tokens formed as_many judged =
    let i = and_then_parts (enclosed_in rest) (arguments_in 4) tokens formed in
    inr (refl, (i.0, enclosed_spelled rest i.0 i.1, inner_spelled names kinds values i.0 tokens i.2 as_many judged))

follows_name : (names : NameLists) (call : Call) (rest : List ℕ)
    → ((is_bare call ≡ true) × AreBlank rest) ⊎ ((is_bare call ≡ false) × ((inner : List ℕ) × Enclosed rest inner × SpellsArguments names (kinds_of call) (values_of call) inner))
    → FollowsName names call rest
follows_name names call rest (inl s) = inl s
follows_name names call rest (inr s) =
    let e = s.1.1 in
    inr (s.0, record { between = e.between; inner = s.1.0; following = e.following; between_blank = e.between_blank; after_blank = e.after_blank; arguments = s.1.2; parts = e.parts })

-- what follows the name of a call that was read
rest_spelled : (names : NameLists) (name call : Call) (rest : List ℕ) → call_after names name rest ≡ Ok call → FollowsName names call rest × (text_of call ≡ text_of name)
unfolding call_after call_with
rest_spelled names name call rest e =
    let a = bind_parts (ok_or (arguments_after 4 (is_bare name) rest) WrongArguments) _ call e in
    let w = tested_ok (eqb (length a.0) (length (kinds_of name))) _ WrongArguments call a.2 in
    let v = bind_parts (values_at names (kinds_of name) a.0) (λ values. ok_or (call_of name values) WrongArguments) call w.1 in
    let agrees = call_of-agrees name v.0 call (ok_or_parts _ WrongArguments call v.2) in
    let same = call_of-same name v.0 call (ok_or_parts _ WrongArguments call v.2) in
    let same_kinds = same.1 in let same_bare = same.2 in let same_values = agrees.1 in
    let spelled = follows_spelled names (is_bare name) (kinds_of name) v.0 rest a.0 (ok_or_parts _ WrongArguments a.0 a.1) (eqb-true (length a.0) (length (kinds_of name)) w.0) v.1 in
    (follows_name names call rest (rw (same_bare, same_kinds, same_values) spelled), same.0)

pub call_at_is_spelled : (names : NameLists) (text : List ℕ) (call : Call) → call_at names (after Blank text) ≡ Ok call → SpellsCall names text call
unfolding call_at named_call
call_at_is_spelled names text call e =
    let n = bind_parts (named_call (prefix Word (after Blank text))) (λ name. call_after names name (after Word (after Blank text))) call e in
    let word : text_of n.0 ≡ prefix Word (after Blank text) = text_of-named (prefix Word (after Blank text)) n.0 (ok_or_parts _ BadWord n.0 n.1) in
    let follows = rest_spelled names n.0 call (after Word (after Blank text)) n.2 in
    let named : after Blank text ≡ text_of call ++ after Word (after Blank text) =
    sym (prefix-after Word (after Blank text)) ∙ ap (λ (f : List ℕ). f ++ after Word (after Blank text)) (sym word ∙ sym follows.1) in
    record {
      before = prefix Blank text;
      rest = after Word (after Blank text);
      before_blank = list_all-take_while (is_of Blank) text;
      follows = follows.0;
      parts = sym (prefix-after Blank text) ∙ ap (λ (r : List ℕ). prefix Blank text ++ r) named;
    }

pub call_is_spelled : (names : NameLists) (text : List ℕ) (call : Call) → call_in names text ≡ Ok call → SpellsCall names text call
unfolding call_in
call_is_spelled names text call e = call_at_is_spelled names text call (tested_ok (list_all (is_of Line) text) (call_at names (after Blank text)) BadByte call e).1
