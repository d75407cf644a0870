-- Directives: what is read of their words is what they say.
use Rattle.std.proofs.Common.{◌≡◌, ℕ, ◌≤◌, ◌⊎◌, Bool, true, false, cond, leb, inl, inr, List, [], ◌∷◌, map, Option, Some, None, Result, Ok, Err, refl, sym, ap, subst, ◌∙◌, arith}
use Rattle.std.specs.Prelude.{codes}
use Rattle.std.specs.List.{list_all}
use Rattle.std.specs.Option.{option_map_or}
use Rattle.std.specs.Str.{bytes_eq}
use Rattle.std.proofs.lemmas.Bool.{cases_Bool, false≢true, and_parts, leb-true, le-leb}
use Rattle.std.proofs.lemmas.Slice.Eq.{bytes_eq-Decides}
use Rattle.std.proofs.lemmas.Option.{cond_some}
use Rattle.fmp_bytes.specs.Spelling.{SpellsUnsigned}
use Rattle.fmp_bytes.proofs.Parsed.{and_then_parts, tested_ok}
use Rattle.fmp_names.specs.Names.{is_name}
use Rattle.fmp_config_statements.specs.declared.tokens.TokenKind.{TokenKind}
use Rattle.fmp_config_statements.specs.declared.tokens.TokenKind.TheVariants as kinds
use Rattle.fmp_config_statements.specs.Lexing.{Lexeme}
use Rattle.fmp_config_statements.specs.declared.directive.Directive.{Directive}
use Rattle.fmp_config_statements.specs.declared.directive.Directive.TheVariants.{Marked, Naming, Numbering, Defining, Skipped}
use Rattle.fmp_config_statements.specs.declared.fault.ConfigKind.TheVariants.{Syntax}
use Rattle.fmp_config_statements.specs.Directives.{defined_number, named, named_number, numbered, next_directive}
use Rattle.fmp_config_statements.specs.Faults.{Fault, fault_of_line, unknown_directive}
use Rattle.fmp_config_statements.specs.Folds.{each}
use Rattle.fmp_config_statements.specs.Numbers.{numeral}
use Rattle.fmp_config_statements.specs.Words.{Word, word_of, is_identifier_kind}
use Rattle.fmp_law_config.specs.Tokens.{Glyph, glyph_of}
use Rattle.fmp_law_config.specs.Elements.{identifier, Defines, Skips, Included, Undefined}
use Rattle.fmp_law_config.proofs.Results.{ok_is, each-cons, each_parts, each-none}
use Rattle.fmp_law_config.proofs.Numerals.{numeral-spelled, numeral_is_spelled}
use Rattle.fmp_law_config.proofs.Glyphs.{is_glyph, glyph_unsigned}

-- ---- the number of a definition

defined_number-spelled : (t : Lexeme) (n : ℕ) → SpellsUnsigned t.text n → n ≤ 4294967295 → defined_number t ≡ Some n
unfolding defined_number
defined_number-spelled t n s most = let read = numeral-spelled t.text n s in let test = le-leb n 4294967295 most in rw read (rw test refl)

defined_number_is_spelled : (t : Lexeme) (n : ℕ) → is_glyph (glyph_of t) ≡ true → defined_number t ≡ Some n → SpellsUnsigned t.text n × (n ≤ 4294967295)
unfolding defined_number
defined_number_is_spelled t n is e =
    let p = and_then_parts (numeral t.text) (λ n. cond (leb n 4294967295) (Some n) None) n e in
    let q = cond_some (leb p.0 4294967295) p.0 n p.2 in
    let most : n ≤ 4294967295 = (let low = leb-true p.0 4294967295 q.0 in let same = q.1 in omega (arith, low, same)) in
    (numeral_is_spelled t.text n (glyph_unsigned (glyph_of t) is) (p.1 ∙ ap (λ (x : ℕ). Some x) q.1) (omega (arith, most)), most)

-- ---- what is read of the words

-- it says nothing
abbrev pub is_idle : Directive → Bool
is_idle (Naming line) = true
is_idle (Numbering line name) = true
is_idle Skipped = true
is_idle _ = false

abbrev pub read : Directive → List Lexeme → Result Directive Fault
read directive words = each next_directive directive words

skipping : (words : List Lexeme) → read Skipped words ≡ Ok Skipped
skipping [] = each-none next_directive Skipped
skipping (w ∷ words) = each-cons next_directive Skipped Skipped w words refl ∙ skipping words

identifier_kind : (kind : TokenKind) → is_identifier_kind kind ≡ true → kind ≡ kinds.Identifier
identifier_kind kinds.Identifier e = refl
identifier_kind kinds.Digits e = absurd (false≢true e)
identifier_kind kinds.Symbol e = absurd (false≢true e)
identifier_kind kinds.Text e = absurd (false≢true e)
identifier_kind kinds.Directive e = absurd (false≢true e)
identifier_kind kinds.DirectiveEnd e = absurd (false≢true e)

pub identifier_is : (t : Lexeme) (text : List ℕ) → is_identifier_kind t.kind ≡ true → t.text ≡ text → glyph_of t ≡ identifier text
identifier_is t text kind e = let k = identifier_kind t.kind kind in rw (k, e) refl

name_idle : (line : ℕ) (t : Lexeme) → is_idle (named_number line t) ≡ true
unfolding named_number
name_idle line t = elim (cases_Bool (is_name t.text)) [ inl found_so ↦ rw found_so refl | inr none ↦ rw none refl ]

at_include : (line : ℕ) (t : Lexeme) → glyph_of t ≡ identifier (codes "include") → named line t ≡ Ok Skipped
unfolding named
at_include line t e = let kind = ap (λ (g : Glyph). g.kind) e in let text = ap (λ (g : Glyph). g.text) e in rw (kind, text) refl

at_define : (line : ℕ) (t : Lexeme) → glyph_of t ≡ identifier (codes "define") → named line t ≡ Ok (Naming line)
unfolding named
at_define line t e = let kind = ap (λ (g : Glyph). g.kind) e in let text = ap (λ (g : Glyph). g.text) e in rw (kind, text) refl

abbrev pub Begins : ℕ → Lexeme → Directive → Type 0
Begins line t next = ((glyph_of t ≡ identifier (codes "include")) × (Skipped ≡ next)) ⊎ ((glyph_of t ≡ identifier (codes "define")) × (Naming line ≡ next))

pub begun : (line : ℕ) (t : Lexeme) (next : Directive) → named line t ≡ Ok next → Begins line t next
unfolding named
begun line t next e =
    let p = tested_ok (is_identifier_kind t.kind) (cond (bytes_eq t.text (codes "include")) (Ok Skipped) (cond (bytes_eq t.text (codes "define")) (Ok (Naming line)) (Err (unknown_directive line t.text)))) (fault_of_line Syntax line) next e in
    elim (cases_Bool (bytes_eq t.text (codes "include"))) [
      | inl found_so ↦ inl (identifier_is t (codes "include") p.0 ((bytes_eq-Decides t.text (codes "include")).0 found_so), ok_is Skipped next (rw found_so at p.1))
      | inr other ↦
          let q = tested_ok (bytes_eq t.text (codes "define")) (Ok (Naming line)) (unknown_directive line t.text) next (rw other at p.1) in
          inr (identifier_is t (codes "define") p.0 ((bytes_eq-Decides t.text (codes "define")).0 q.0), ok_is (Naming line) next q.1)
    ]

-- ---- a definition

abbrev pub Says : ℕ → List Glyph → Directive → Type 0
Says line words directive = ((name : Word) × (number : ℕ) × (directive ≡ Defining line name number) × Defines words name.text number) ⊎ (is_idle directive ≡ true)

number_says : (line : ℕ) (n num : Lexeme) (found : Option ℕ) → defined_number num ≡ found → is_name n.text ≡ true → is_glyph (glyph_of num) ≡ true
    → Says line (identifier (codes "define") ∷ glyph_of n ∷ glyph_of num ∷ []) (option_map_or (λ k. Defining line (word_of n) k) found Skipped)
number_says line n num None e name is = inr refl
number_says line n num (Some k) e name is =
    let s = defined_number_is_spelled num k is e in
    inl (word_of n, k, refl, record { named = glyph_of n; numeral = glyph_of num; name_is = refl; is_one = name; number_is = s.0; most = s.1; parts = refl })

two_say : (line : ℕ) (n num : Lexeme) → is_glyph (glyph_of num) ≡ true
    → (directive : Directive) × (read (Naming line) (n ∷ num ∷ []) ≡ Ok directive) × Says line (identifier (codes "define") ∷ glyph_of n ∷ glyph_of num ∷ []) directive
unfolding named_number numbered each
two_say line n num is =
    elim (cases_Bool (is_name n.text)) [
      | inl name ↦ (option_map_or (λ k. Defining line (word_of n) k) (defined_number num) Skipped, rw name refl, number_says line n num (defined_number num) refl name is)
      | inr none ↦ (Skipped, rw none refl, inr refl)
    ]

third : (found : Option ℕ) (line : ℕ) (word : Word) (t : Lexeme) → next_directive (option_map_or (λ k. Defining line word k) found Skipped) t ≡ Ok Skipped
third None line word t = refl
third (Some k) line word t = refl

more_say : (line : ℕ) (n num t : Lexeme) (words : List Lexeme) → read (Naming line) (n ∷ num ∷ t ∷ words) ≡ Ok Skipped
unfolding named_number numbered each
more_say line n num t words =
    elim (cases_Bool (is_name n.text)) [
      | inl name ↦ let next = third (defined_number num) line (word_of n) t in rw name (rw next (skipping words))
      | inr none ↦ rw none (skipping words)
    ]

-- what is read after `define`
pub defining : (line : ℕ) (words : List Lexeme) → list_all is_glyph (map glyph_of words) ≡ true
    → (directive : Directive) × (read (Naming line) words ≡ Ok directive) × Says line (identifier (codes "define") ∷ map glyph_of words) directive
unfolding each
defining line [] all = (Naming line, refl, inr refl)
defining line (n ∷ []) all = (named_number line n, refl, inr (name_idle line n))
defining line (n ∷ num ∷ []) all =
    let rest = (and_parts (is_glyph (glyph_of n)) (list_all is_glyph (map glyph_of (num ∷ []))) all).1 in
    two_say line n num (and_parts (is_glyph (glyph_of num)) true rest).0
defining line (n ∷ num ∷ t ∷ words) all = (Skipped, more_say line n num t words, inr refl)

-- ---- what is spelled is read

pub record DefinedIn (line : ℕ) (words : List Lexeme) (name : List ℕ) (number : ℕ) : Type 0 where
  pub word : Word
  pub text : word.text ≡ name
  pub is : read (Marked line) words ≡ Ok (Defining line word number)

three_read : (line : ℕ) (d n num : Lexeme) (name : List ℕ) (number : ℕ) → glyph_of d ≡ identifier (codes "define") → n.text ≡ name → is_name name ≡ true → SpellsUnsigned num.text number → number ≤ 4294967295
    → DefinedIn line (d ∷ n ∷ num ∷ []) name number
unfolding named_number numbered each
three_read line d n num name number e text is s most =
    let first = at_define line d e in
    let found_so : is_name n.text ≡ true = ap is_name text ∙ is in
    let found = defined_number-spelled num number s most in
    record { word = word_of n; text = text; is = rw first (rw found_so (rw found refl)) }

pub definition_read : (line : ℕ) (words : List Lexeme) (name : List ℕ) (number : ℕ) → Defines (map glyph_of words) name number → DefinedIn line words name number
definition_read line [] name number s = absurd (let e = s.parts in cc)
definition_read line (a ∷ []) name number s = absurd (let e = s.parts in cc)
definition_read line (a ∷ b ∷ []) name number s = absurd (let e = s.parts in cc)
definition_read line (a ∷ b ∷ c ∷ []) name number s =
    let e = s.parts in
    let first : glyph_of a ≡ identifier (codes "define") = cc in
    let second : glyph_of b ≡ s.named = cc in
    let third_is : glyph_of c ≡ s.numeral = cc in
    three_read line a b c name number first (ap (λ (g : Glyph). g.text) second ∙ s.name_is) s.is_one (subst (λ (g : Glyph). SpellsUnsigned g.text number) (sym third_is) s.number_is) s.most
definition_read line (a ∷ b ∷ c ∷ d ∷ words) name number s = absurd (let e = s.parts in cc)

abbrev pub Idle : ℕ → List Lexeme → Type 0
Idle line words = (directive : Directive) × (read (Marked line) words ≡ Ok directive) × (is_idle directive ≡ true)

no_definition : (line : ℕ) (d : Lexeme) (words : List Lexeme) → list_all is_glyph (map glyph_of words) ≡ true → glyph_of d ≡ identifier (codes "define")
    → ((name : List ℕ) (number : ℕ) → ¬ (Defines (glyph_of d ∷ map glyph_of words) name number)) → Idle line (d ∷ words)
no_definition line d words all e none =
    let next = defining line words all in
    elim next.2 [
      | inl some ↦ absurd (none some.0.text some.1 (subst (λ (g : Glyph). Defines (g ∷ map glyph_of words) some.0.text some.1) (sym e) some.3))
      | inr idle ↦ (next.0, each-cons next_directive (Marked line) (Naming line) d words (at_define line d e) ∙ next.1, idle)
    ]

pub skipped_read : (line : ℕ) (words : List Lexeme) → list_all is_glyph (map glyph_of words) ≡ true → Skips (map glyph_of words) → Idle line words
skipped_read line [] all (Included rest e) = absurd cc
skipped_read line [] all (Undefined rest e none) = absurd cc
skipped_read line (d ∷ words) all (Included rest e) =
    let first : glyph_of d ≡ identifier (codes "include") = cc in
    (Skipped, each-cons next_directive (Marked line) Skipped d words (at_include line d first) ∙ skipping words, refl)
skipped_read line (d ∷ words) all (Undefined rest e none) =
    let first : glyph_of d ≡ identifier (codes "define") = cc in
    no_definition line d words (and_parts (is_glyph (glyph_of d)) (list_all is_glyph (map glyph_of words)) all).1 first none

-- ---- what is read is spelled

abbrev pub Spelled : ℕ → List Lexeme → Directive → Type 0
Spelled line words directive =
    ((name : Word) × (number : ℕ) × (directive ≡ Defining line name number) × Defines (map glyph_of words) name.text number) ⊎ ((is_idle directive ≡ true) × Skips (map glyph_of words))

idle_skips : (line : ℕ) (d : Lexeme) (words : List Lexeme) (directive : Directive) → glyph_of d ≡ identifier (codes "define") → read (Marked line) (d ∷ words) ≡ Ok directive → is_idle directive ≡ true → Skips (map glyph_of (d ∷ words))
idle_skips line d words directive e is idle =
    Undefined (map glyph_of words) (ap (λ (g : Glyph). g ∷ map glyph_of words) e) (λ name number s.
    let found = definition_read line (d ∷ words) name number s in
    let same = ok_is directive (Defining line found.word number) (sym is ∙ found.is) in
    false≢true (ap is_idle (sym same) ∙ idle))

pub words_say : (line : ℕ) (words : List Lexeme) (directive : Directive) → list_all is_glyph (map glyph_of words) ≡ true → read (Marked line) words ≡ Ok directive → (directive ≡ Marked line → ⊥) → Spelled line words directive
words_say line [] directive all e some = absurd (some (sym (ok_is (Marked line) directive (sym (each-none next_directive (Marked line)) ∙ e))))
words_say line (d ∷ words) directive all e some =
    let rest_all = (and_parts (is_glyph (glyph_of d)) (list_all is_glyph (map glyph_of words)) all).1 in
    let p = each_parts next_directive (Marked line) directive d words e in
    elim (begun line d p.0 p.1) [
      | inl include ↦
          let same = ok_is Skipped directive (sym (skipping words) ∙ ap (λ (x : Directive). read x words) include.1 ∙ p.2) in
          inr (ap is_idle (sym same), Included (map glyph_of words) (ap (λ (g : Glyph). g ∷ map glyph_of words) include.0))
      | inr define ↦
          let next = defining line words rest_all in
          let same : next.0 ≡ directive = ok_is next.0 directive (sym next.1 ∙ ap (λ (x : Directive). read x words) define.1 ∙ p.2) in
          elim next.2 [
            | inl found ↦ inl (found.0, found.1, sym same ∙ found.2, subst (λ (g : Glyph). Defines (g ∷ map glyph_of words) found.0.text found.1) (sym define.0) found.3)
            | inr idle ↦ let quiet = ap is_idle (sym same) ∙ idle in inr (quiet, idle_skips line d words directive define.0 e quiet)
          ]
    ]
