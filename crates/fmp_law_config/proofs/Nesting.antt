-- The tokens of a text: those between the beginning and the end of a directive, and the others.
use Rattle.std.proofs.Common.{◌≡◌, ℕ, Bool, true, false, not, ◌&&◌, ◌||◌, ◌⊎◌, cond, eqb, inl, inr, List, [], ◌∷◌, ◌++◌, map, flat_map, refl, sym, ap, subst, ◌∙◌}
use Rattle.std.specs.List.{list_all}
use Rattle.std.proofs.lemmas.Bool.{cases_Bool, false≢true, and_parts, and_from, not-true}
use Rattle.fmp_bytes.specs.declared.classes.Class.TheVariants.{Space, Word}
use Rattle.fmp_bytes.specs.Bytes.{is_of, is_identifier}
use Rattle.fmp_config_statements.specs.declared.modes.Place.{Place}
use Rattle.fmp_config_statements.specs.declared.modes.Place.TheVariants as places
use Rattle.fmp_config_statements.specs.declared.tokens.TokenKind.{TokenKind}
use Rattle.fmp_config_statements.specs.declared.tokens.TokenKind.TheVariants as kinds
use Rattle.fmp_config_statements.specs.Lexing.{Lexeme}
use Rattle.fmp_config_statements.specs.Steps.{following}
use Rattle.fmp_law_config.specs.Parts.{Part, Blank, BlockComment, LineComment, JoinedLine, Identifier, Digits, Symbol, Quoted, Hash, LineEnd, TextEnd, is_directive, is_line_start, is_empty, is_number, stands_alone, opens_comment, may_stand}
use Rattle.fmp_law_config.specs.Tokens.{Glyph, glyph_of, glyphs_of, place_after, SpellsParts, SpellsTokens}
use Rattle.fmp_law_config.specs.Elements.{is_plain}
use Rattle.fmp_law_config.proofs.Glyphs.{is_glyph}

-- in a directive or not, a token of this kind may stand
abbrev pub is_allowed : Bool → TokenKind → Bool
is_allowed within kinds.Directive = not within
is_allowed within kinds.DirectiveEnd = within
is_allowed within _ = true

-- what follows it is in a directive
abbrev pub is_within : Bool → TokenKind → Bool
is_within within kinds.Directive = true
is_within within kinds.DirectiveEnd = false
is_within within _ = within

-- directives begin outside directives, and each ends
abbrev pub is_nested : Bool → List Glyph → Bool
is_nested within [] = not within
is_nested within (g ∷ glyphs) = is_allowed within g.kind && is_nested (is_within within g.kind) glyphs

-- ---- those of a text

abbrev pub AreNested : Place → List Glyph → Type 0
AreNested place glyphs = (list_all is_glyph glyphs ≡ true) × (is_nested (is_directive place) glyphs ≡ true)

is_directive-following : (place : Place) → is_directive (following place) ≡ is_directive place
is_directive-following places.LineStart = refl
is_directive-following places.Code = refl
is_directive-following places.Directive = refl

line_start : (place : Place) → is_line_start place ≡ true → is_directive place ≡ false
line_start places.LineStart e = refl
line_start places.Code e = refl
line_start places.Directive e = absurd (false≢true e)

at_blank : (place : Place) (b : ℕ) → not (is_directive place && eqb b 10) ≡ true → is_directive (cond (eqb b 10) places.LineStart place) ≡ is_directive place
at_blank places.LineStart b e = elim (cases_Bool (eqb b 10)) [ inl t ↦ rw t refl | inr f ↦ rw f refl ]
at_blank places.Code b e = elim (cases_Bool (eqb b 10)) [ inl t ↦ rw t refl | inr f ↦ rw f refl ]
at_blank places.Directive b e = let f = not-true (eqb b 10) e in rw f refl

same_place : (before after : Place) (glyphs : List Glyph) → is_directive after ≡ is_directive before → AreNested after glyphs → AreNested before glyphs
same_place before after glyphs e n = (n.0, subst (λ (b : Bool). is_nested b glyphs ≡ true) e n.1)

one_more : (before after : Place) (g : Glyph) (glyphs : List Glyph) → is_glyph g ≡ true → is_allowed (is_directive before) g.kind ≡ true → is_directive after ≡ is_within (is_directive before) g.kind → AreNested after glyphs → AreNested before (g ∷ glyphs)
one_more before after g glyphs is allowed e n = (
  and_from (is_glyph g) (list_all is_glyph glyphs) is n.0,
  and_from (is_allowed (is_directive before) g.kind) (is_nested (is_within (is_directive before) g.kind) glyphs) allowed (subst (λ (b : Bool). is_nested b glyphs ≡ true) e n.1),
)

part_nested : (place : Place) (part : Part) (rest : List ℕ) (glyphs : List Glyph) → may_stand place part rest ≡ true → AreNested (place_after place part) glyphs → AreNested place (glyphs_of part ++ glyphs)
part_nested place (Blank b) rest glyphs may n = same_place place (cond (eqb b 10) places.LineStart place) glyphs (at_blank place b (and_parts (is_of Space b) _ may).1) n
part_nested place (BlockComment inner) rest glyphs may n = n
part_nested place (LineComment inner) rest glyphs may n = n
part_nested place JoinedLine rest glyphs may n = n
part_nested place (Identifier word) rest glyphs may n = one_more place (following place) (record { kind = kinds.Identifier; text = word }) glyphs (and_parts (is_identifier word) _ may).0 refl (is_directive-following place) n
part_nested place (Digits word) rest glyphs may n = one_more place (following place) (record { kind = kinds.Digits; text = word }) glyphs (and_parts (is_number word) _ may).0 refl (is_directive-following place) n
part_nested place (Symbol b) rest glyphs may n =
    let alone = not-true (is_of Word b || opens_comment b rest) (and_parts (stands_alone place b rest) _ may).1 in
    let word : not (is_of Word b) ≡ true = (elim (cases_Bool (is_of Word b)) [ inl t ↦ absurd (false≢true (sym (rw t at alone))) | inr f ↦ rw f refl ]) in
    one_more place (following place) (record { kind = kinds.Symbol; text = b ∷ [] }) glyphs word refl (is_directive-following place) n
part_nested place (Quoted inner) rest glyphs may n = one_more place places.Code (record { kind = kinds.Text; text = [] }) glyphs refl refl (sym (not-true (is_directive place) (and_parts (not (is_directive place)) _ may).0)) n
part_nested place Hash rest glyphs may n = let e = line_start place may in one_more place places.Directive (record { kind = kinds.Directive; text = [] }) glyphs refl (rw e refl) refl n
part_nested place LineEnd rest glyphs may n = one_more place places.LineStart (record { kind = kinds.DirectiveEnd; text = [] }) glyphs refl may refl n
part_nested place TextEnd rest glyphs may n = one_more place places.LineStart (record { kind = kinds.DirectiveEnd; text = [] }) glyphs refl (and_parts (is_directive place) (is_empty rest) may).0 refl n

parts_nested : (parts : List Part) (place : Place) (text : List ℕ) → SpellsParts place parts text → AreNested place (flat_map glyphs_of parts)
parts_nested [] place text s = let none = s.1 in (refl, rw none refl)
parts_nested (part ∷ parts) place text s = part_nested place part s.0 (flat_map glyphs_of parts) s.2 (parts_nested parts (place_after place part) s.0 s.3)

pub tokens_nested : (glyphs : List Glyph) (text : List ℕ) → SpellsTokens glyphs text → (list_all is_glyph glyphs ≡ true) × (is_nested false glyphs ≡ true)
tokens_nested glyphs text s = subst (λ (gs : List Glyph). AreNested places.LineStart gs) s.tokens (parts_nested s.parts places.LineStart text s.spelled)

-- ---- in blocks

-- a token outside directives, or a directive: its beginning, its words and its end
pub data Block : Type 0 where
  Outside : Lexeme → Block
  Whole : Lexeme → List Lexeme → Lexeme → Block

abbrev pub tokens_of : List Block → List Lexeme
tokens_of [] = []
tokens_of (Outside t ∷ blocks) = t ∷ tokens_of blocks
tokens_of (Whole hash words end ∷ blocks) = hash ∷ (words ++ (end ∷ tokens_of blocks))

abbrev pub IsWhole : Lexeme → List Lexeme → Lexeme → Type 0
IsWhole hash words end =
    (glyph_of hash ≡ record { kind = kinds.Directive; text = [] }) × (list_all is_plain (map glyph_of words) ≡ true) × (glyph_of end ≡ record { kind = kinds.DirectiveEnd; text = [] })

abbrev pub AreBlocks : List Block → Type 0
AreBlocks [] = Unit {0}
AreBlocks (Outside t ∷ blocks) = (is_plain (glyph_of t) ≡ true) × AreBlocks blocks
AreBlocks (Whole hash words end ∷ blocks) = IsWhole hash words end × AreBlocks blocks

abbrev pub Sort : Glyph → Type 0
Sort g = (is_plain g ≡ true) ⊎ ((g ≡ record { kind = kinds.Directive; text = [] }) ⊎ (g ≡ record { kind = kinds.DirectiveEnd; text = [] }))

sort_as : (kind : TokenKind) (text : List ℕ) → is_glyph (record { kind = kind; text = text }) ≡ true → Sort (record { kind = kind; text = text })
sort_as kinds.Identifier text is = inl refl
sort_as kinds.Digits text is = inl refl
sort_as kinds.Symbol text is = inl refl
sort_as kinds.Text text is = inl refl
sort_as kinds.Directive [] is = inr (inl refl)
sort_as kinds.Directive (b ∷ bytes) is = absurd (false≢true is)
sort_as kinds.DirectiveEnd [] is = inr (inr refl)
sort_as kinds.DirectiveEnd (b ∷ bytes) is = absurd (false≢true is)

plain_within : (kind : TokenKind) (within : Bool) → is_plain (record { kind = kind; text = [] }) ≡ true → is_within within kind ≡ within
plain_within kinds.Identifier within e = refl
plain_within kinds.Digits within e = refl
plain_within kinds.Symbol within e = refl
plain_within kinds.Text within e = refl
plain_within kinds.Directive within e = absurd (false≢true e)
plain_within kinds.DirectiveEnd within e = absurd (false≢true e)

plain_stays : (g : Glyph) (within : Bool) → is_plain g ≡ true → is_within within g.kind ≡ within
plain_stays g within e = plain_within g.kind within e

abbrev pub Blocked : List Lexeme → Type 0
Blocked tokens = (blocks : List Block) × (tokens ≡ tokens_of blocks) × AreBlocks blocks

abbrev pub EndsBlock : List Lexeme → Type 0
EndsBlock tokens =
    (words : List Lexeme) × (end : Lexeme) × (blocks : List Block) × (tokens ≡ words ++ (end ∷ tokens_of blocks)) × (list_all is_plain (map glyph_of words) ≡ true)
    × (glyph_of end ≡ record { kind = kinds.DirectiveEnd; text = [] }) × AreBlocks blocks

module _ (t : Lexeme) (tokens : List Lexeme) (outside : is_nested false (map glyph_of tokens) ≡ true → Blocked tokens) (inside : is_nested true (map glyph_of tokens) ≡ true → EndsBlock tokens) where
  begins : Sort (glyph_of t) → is_nested false (map glyph_of (t ∷ tokens)) ≡ true → Blocked (t ∷ tokens)
  begins sort e =
      let both = and_parts (is_allowed false t.kind) (is_nested (is_within false t.kind) (map glyph_of tokens)) e in
      elim sort [
        | inl plain ↦
            let rest = outside (subst (λ (b : Bool). is_nested b (map glyph_of tokens) ≡ true) (plain_stays (glyph_of t) false plain) both.1) in
            (Outside t ∷ rest.0, ap (λ (ts : List Lexeme). t ∷ ts) rest.1, (plain, rest.2))
        | inr (inl hash) ↦
            let kind = ap (λ (g : Glyph). g.kind) hash in
            let rest = inside (subst (λ (k : TokenKind). is_nested (is_within false k) (map glyph_of tokens) ≡ true) kind both.1) in
            (Whole t rest.0 rest.1 ∷ rest.2, ap (λ (ts : List Lexeme). t ∷ ts) rest.3, ((hash, rest.4, rest.5), rest.6))
        | inr (inr end) ↦ let kind = ap (λ (g : Glyph). g.kind) end in absurd (false≢true (ap (λ (k : TokenKind). is_allowed false k) (sym kind) ∙ both.0))
      ]

  goes_on : Sort (glyph_of t) → is_nested true (map glyph_of (t ∷ tokens)) ≡ true → EndsBlock (t ∷ tokens)
  goes_on sort e =
      let both = and_parts (is_allowed true t.kind) (is_nested (is_within true t.kind) (map glyph_of tokens)) e in
      elim sort [
        | inl plain ↦
            let rest = inside (subst (λ (b : Bool). is_nested b (map glyph_of tokens) ≡ true) (plain_stays (glyph_of t) true plain) both.1) in
            (t ∷ rest.0, rest.1, rest.2, ap (λ (ts : List Lexeme). t ∷ ts) rest.3, and_from (is_plain (glyph_of t)) (list_all is_plain (map glyph_of rest.0)) plain rest.4, rest.5, rest.6)
        | inr (inl hash) ↦ let kind = ap (λ (g : Glyph). g.kind) hash in absurd (false≢true (ap (λ (k : TokenKind). is_allowed true k) (sym kind) ∙ both.0))
        | inr (inr end) ↦
            let kind = ap (λ (g : Glyph). g.kind) end in
            let rest = outside (subst (λ (k : TokenKind). is_nested (is_within true k) (map glyph_of tokens) ≡ true) kind both.1) in
            ([], t, rest.0, ap (λ (ts : List Lexeme). t ∷ ts) rest.1, refl, end, rest.2)
      ]

both_blocked : (tokens : List Lexeme) → list_all is_glyph (map glyph_of tokens) ≡ true → (is_nested false (map glyph_of tokens) ≡ true → Blocked tokens) × (is_nested true (map glyph_of tokens) ≡ true → EndsBlock tokens)
both_blocked [] all = (λ e. ([], refl, tt), λ e. absurd (false≢true e))
both_blocked (t ∷ tokens) all =
    let parts = and_parts (is_glyph (glyph_of t)) (list_all is_glyph (map glyph_of tokens)) all in
    let rest = both_blocked tokens parts.1 in
    let sort = sort_as t.kind t.text parts.0 in
    (begins t tokens rest.0 rest.1 sort, goes_on t tokens rest.0 rest.1 sort)

pub blocked : (tokens : List Lexeme) → list_all is_glyph (map glyph_of tokens) ≡ true → is_nested false (map glyph_of tokens) ≡ true → Blocked tokens
blocked tokens all e = (both_blocked tokens all).0 e
