-- Tokens as they are spelled, and tests of single tokens.
use Rattle.std.proofs.Common.{◌≡◌, ℕ, Bool, true, false, not, ◌&&◌, ◌||◌, ◌⊎◌, eqb, inl, inr, List, [], ◌∷◌, refl, sym, ap, subst, ◌∙◌, arith}
use Rattle.std.specs.Prelude.{codes}
use Rattle.std.specs.List.{list_all}
use Rattle.std.specs.Str.{bytes_eq}
use Rattle.std.proofs.lemmas.Bool.{cases_Bool, false≢true, eqb-true, eq-eqb, and_parts, not-true}
use Rattle.std.proofs.lemmas.Bool.Decides.{nat_tests}
use Rattle.std.proofs.lemmas.Slice.Eq.{bytes_eq-Decides}
use Rattle.fmp_bytes.specs.declared.classes.Class.TheVariants.{Word, Letter, Digit}
use Rattle.fmp_bytes.specs.Bytes.{is_of, is_identifier}
use Rattle.fmp_config_statements.specs.declared.tokens.TokenKind.{TokenKind}
use Rattle.fmp_config_statements.specs.declared.tokens.TokenKind.TheVariants.{Identifier, Digits, Symbol, Text, Directive, DirectiveEnd}
use Rattle.fmp_config_statements.specs.Lexing.{Lexeme}
use Rattle.fmp_config_statements.specs.Parts.{is_barred}
use Rattle.fmp_config_statements.specs.Words.{is_one, is_mark, is_symbol_kind}
use Rattle.fmp_law_config.specs.Parts.{is_empty, is_number}
use Rattle.fmp_law_config.specs.Tokens.{Glyph, glyph_of}
use Rattle.fmp_law_config.proofs.Bytes.{word_no_letter}
use Rattle.fmp_law_config.specs.Elements.{symbol}
use Rattle.fmp_law_config.specs.Phrases.{may_be_free}
use Rattle.fmp_law_config.proofs.Numerals.{is_signed}

-- a token in a line
abbrev pub lexeme : Glyph → ℕ → Lexeme
lexeme g line = record { kind = g.kind; text = g.text; line = line }

-- one byte that is of no word
abbrev pub is_lone : List ℕ → Bool
is_lone [] = false
is_lone (b ∷ []) = not (is_of Word b)
is_lone (b ∷ c ∷ bytes) = false

abbrev pub is_spelled : TokenKind → List ℕ → Bool
is_spelled Identifier text = is_identifier text
is_spelled Digits text = is_number text
is_spelled Symbol text = is_lone text
is_spelled Text text = is_empty text
is_spelled Directive text = is_empty text
is_spelled DirectiveEnd text = is_empty text

-- a token of a text: its bytes are those of its kind
abbrev pub is_glyph : Glyph → Bool
is_glyph g = is_spelled g.kind g.text

-- ---- bytes

minus_letter : (b : ℕ) → is_of Letter b ≡ true → eqb b 45 ≡ false
unfolding is_of
minus_letter b letter = grind (arith, nat_tests)

minus_digit : (b : ℕ) → is_of Digit b ≡ true → eqb b 45 ≡ false
unfolding is_of
minus_digit b digit = grind (arith, nat_tests)

digit_letter : (b : ℕ) → is_of Digit b ≡ true → is_of Letter b ≡ false
unfolding is_of
digit_letter b digit = grind (arith, nat_tests)

-- ---- no token is a `-` and more

spelled_unsigned : (kind : TokenKind) (text : List ℕ) → is_spelled kind text ≡ true → is_signed text ≡ false
spelled_unsigned kind [] is = refl
spelled_unsigned kind (b ∷ []) is = refl
spelled_unsigned Identifier (b ∷ c ∷ bytes) is = minus_letter b (and_parts (is_of Letter b) (list_all (is_of Word) (c ∷ bytes)) is).0
spelled_unsigned Digits (b ∷ c ∷ bytes) is = minus_digit b (and_parts (is_of Digit b) (list_all (is_of Word) (c ∷ bytes)) is).0
spelled_unsigned Symbol (b ∷ c ∷ bytes) is = absurd (false≢true is)
spelled_unsigned Text (b ∷ c ∷ bytes) is = absurd (false≢true is)
spelled_unsigned Directive (b ∷ c ∷ bytes) is = absurd (false≢true is)
spelled_unsigned DirectiveEnd (b ∷ c ∷ bytes) is = absurd (false≢true is)

pub glyph_unsigned : (g : Glyph) → is_glyph g ≡ true → is_signed g.text ≡ false
glyph_unsigned g is = spelled_unsigned g.kind g.text is

-- ---- marks

pub is_one-same : (b : ℕ) → is_one b (b ∷ []) ≡ true
is_one-same b = eq-eqb b b refl

is_one-is : (b : ℕ) (text : List ℕ) → is_one b text ≡ true → text ≡ b ∷ []
is_one-is b [] e = absurd (false≢true e)
is_one-is b (c ∷ []) e = ap (λ (x : ℕ). x ∷ []) (eqb-true c b e)
is_one-is b (c ∷ d ∷ bytes) e = absurd (false≢true e)

symbol_is : (kind : TokenKind) → is_symbol_kind kind ≡ true → kind ≡ Symbol
symbol_is Identifier e = absurd (false≢true e)
symbol_is Digits e = absurd (false≢true e)
symbol_is Symbol e = refl
symbol_is Text e = absurd (false≢true e)
symbol_is Directive e = absurd (false≢true e)
symbol_is DirectiveEnd e = absurd (false≢true e)

pub is_mark-same : (byte line : ℕ) → is_mark byte (lexeme (symbol byte) line) ≡ true
is_mark-same byte line = is_one-same byte

pub is_mark-is : (byte : ℕ) (t : Lexeme) → is_mark byte t ≡ true → glyph_of t ≡ symbol byte
is_mark-is byte t e =
    let p = and_parts (is_symbol_kind t.kind) (is_one byte t.text) e in
    let kind = symbol_is t.kind p.0 in
    let text = is_one-is byte t.text p.1 in
    rw (kind, text) refl

differs : (xs ys : List ℕ) → (xs ≡ ys → ⊥) → bytes_eq xs ys ≡ false
differs xs ys other =
    elim (cases_Bool (bytes_eq xs ys)) [
      | inl t ↦ absurd (other ((bytes_eq-Decides xs ys).0 t))
      | inr f ↦ f
    ]

-- a text is a mark or not, also as bytes
pub cases_mark : (b : ℕ) (text : List ℕ) → (text ≡ b ∷ []) ⊎ ((is_one b text ≡ false) × (bytes_eq (b ∷ []) text ≡ false) × (bytes_eq text (b ∷ []) ≡ false))
cases_mark b text =
    elim (cases_Bool (is_one b text)) [
      | inl t ↦ inl (is_one-is b text t)
      | inr f ↦ inr (f, differs (b ∷ []) text (λ e. absurd (false≢true (sym f ∙ ap (is_one b) (sym e) ∙ is_one-same b))), differs text (b ∷ []) (λ e. absurd (false≢true (sym f ∙ ap (is_one b) e ∙ is_one-same b))))
    ]

lone_kind : (kind : TokenKind) (b : ℕ) → is_spelled kind (b ∷ []) ≡ true → is_identifier (b ∷ []) ≡ false → is_number (b ∷ []) ≡ false → kind ≡ Symbol
lone_kind Identifier b is word digit = absurd (false≢true (sym word ∙ is))
lone_kind Digits b is word digit = absurd (false≢true (sym digit ∙ is))
lone_kind Symbol b is word digit = refl
lone_kind Text b is word digit = absurd (false≢true is)
lone_kind Directive b is word digit = absurd (false≢true is)
lone_kind DirectiveEnd b is word digit = absurd (false≢true is)

-- a token of these bytes is a mark
pub lone_glyph : (b : ℕ) (g : Glyph) → is_glyph g ≡ true → g.text ≡ b ∷ [] → is_identifier (b ∷ []) ≡ false → is_number (b ∷ []) ≡ false → g ≡ symbol b
lone_glyph b g is text word digit =
    let kind : g.kind ≡ Symbol = lone_kind g.kind b (subst (λ (bytes : List ℕ). is_spelled g.kind bytes ≡ true) text is) word digit in
    rw (kind, text) refl

-- ---- a token may stand in a free field exactly where it is not barred

no_identifier : (b : ℕ) (text : List ℕ) → is_identifier (b ∷ []) ≡ false → is_identifier text ≡ true → bytes_eq text (b ∷ []) ≡ false
no_identifier b text none is = differs text (b ∷ []) (λ e. absurd (false≢true (sym none ∙ ap is_identifier (sym e) ∙ is)))

no_digit : (b c : ℕ) (bytes : List ℕ) → is_of Digit b ≡ false → is_of Digit c ≡ true → bytes_eq (c ∷ bytes) (b ∷ []) ≡ false
no_digit b c bytes none is = differs (c ∷ bytes) (b ∷ []) (λ e. let same : c ≡ b = cc in absurd (false≢true (sym none ∙ ap (is_of Digit) (sym same) ∙ is)))

barred_symbol : (text : List ℕ) → (is_one 123 text || is_one 125 text) ≡ not (not (bytes_eq text (codes "{") || bytes_eq text (codes "}")) && true)
barred_symbol text =
    elim (cases_mark 123 text) [
      | inl e ↦ rw e refl
      | inr open_brace ↦ elim (cases_mark 125 text) [
        | inl e ↦ rw e refl
        | inr close_brace ↦ let a = open_brace.0 in let b = open_brace.2 in let c = close_brace.0 in let d = close_brace.2 in rw (a, b, c, d) refl
      ]
    ]

spelled_barred : (kind : TokenKind) (text : List ℕ) (line : ℕ) → is_spelled kind text ≡ true → is_barred (record { kind = kind; text = text; line = line }) ≡ not (may_be_free (record { kind = kind; text = text }))
unfolding is_barred is_of
spelled_barred Identifier text line is =
    let x = no_identifier 123 text refl is in
    let y = no_identifier 125 text refl is in
    rw (is, x, y) refl
spelled_barred Digits [] line is = absurd (false≢true is)
spelled_barred Digits (b ∷ bytes) line is =
    let digit = (and_parts (is_of Digit b) (list_all (is_of Word) bytes) is).0 in
    let x = no_digit 123 b bytes refl digit in
    let y = no_digit 125 b bytes refl digit in
    let letter = digit_letter b digit in
    rw (x, y, letter) refl
spelled_barred Symbol [] line is = absurd (false≢true is)
spelled_barred Symbol (b ∷ []) line is =
    let letter = word_no_letter b (not-true (is_of Word b) is) in
    rw letter (barred_symbol (b ∷ []))
spelled_barred Symbol (b ∷ c ∷ bytes) line is = absurd (false≢true is)
spelled_barred Text [] line is = refl
spelled_barred Text (b ∷ bytes) line is = absurd (false≢true is)
spelled_barred Directive [] line is = refl
spelled_barred Directive (b ∷ bytes) line is = absurd (false≢true is)
spelled_barred DirectiveEnd [] line is = refl
spelled_barred DirectiveEnd (b ∷ bytes) line is = absurd (false≢true is)

pub is_barred-is : (g : Glyph) (line : ℕ) → is_glyph g ≡ true → is_barred (lexeme g line) ≡ not (may_be_free g)
is_barred-is g line is = spelled_barred g.kind g.text line is
