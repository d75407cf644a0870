-- A token of a directive is at fault exactly where the table has a fault for it.
use Rattle.std.proofs.Common.{◌≡◌, ℕ, ◌≤◌, ◌⊎◌, eqb, inl, inr, Bool, true, false, cond, List, [], ◌∷◌, ◌++◌, length, map, Option, Some, None, Result, Ok, Err, refl, sym, ap, subst, ◌∙◌, arith}
use Rattle.std.specs.Prelude.{codes}
use Rattle.std.specs.List.{list_all}
use Rattle.std.specs.Option.{option_map_or}
use Rattle.std.specs.Str.{bytes_eq}
use Rattle.std.proofs.lemmas.Bool.{and_parts, eq-eqb, eqb-true, false≢true}
use Rattle.fmp_bytes.specs.Results.{◌>>=◌}
use Rattle.fmp_bytes.proofs.Parsed.{some_is}
use Rattle.fmp_bytes.proofs.Words.{is_word, not_word}
use Rattle.fmp_names.specs.Names.{has_room_to_define, is_name, number_defined}
use Rattle.fmp_config.specs.Drafts.{Draft}
use Rattle.fmp_setup.specs.Building.{is_refused, with_defined}
use Rattle.fmp_config.specs.Judging.{define, ended}
use Rattle.fmp_config.specs.Objects.{new_name}
use Rattle.fmp_config.specs.Reading.{State, at_start, code_token, directive_token, take_token}
use Rattle.fmp_config_statements.specs.declared.directive.Directive.{Directive}
use Rattle.fmp_config_statements.specs.declared.directive.Directive.TheVariants.{Defining, Marked, Naming, Numbering, Outside, Skipped}
use Rattle.fmp_config_statements.specs.declared.fault.ConfigKind.{ConfigKind}
use Rattle.fmp_config_statements.specs.declared.fault.ConfigKind.TheVariants.{NameTaken, Syntax, TooMany}
use Rattle.fmp_config_statements.specs.Directives.{defined_number, named, named_number, next_directive, numbered}
use Rattle.fmp_config_statements.specs.Faults.{Fault, fault_at, fault_in, fault_of_line, unknown_directive}
use Rattle.fmp_config_statements.specs.Folds.{each}
use Rattle.fmp_config_statements.specs.Forms.{Form}
use Rattle.fmp_config_statements.specs.Words.{Word, is_directive_kind, is_end_kind, is_identifier_kind, word_of}
use Rattle.fmp_config_statements.specs.Lexing.{Lexeme}
use Rattle.fmp_law_config.specs.Elements.{Defines, Skips, Included, Undefined, identifier, is_plain}
use Rattle.fmp_law_config.specs.FirstFaults.{HaveNoFault}
use Rattle.fmp_law_config.specs.Stages.{Stage}
use Rattle.fmp_law_config.specs.Tokens.{Glyph, glyph_of}
use Rattle.fmp_law_config.proofs.Directives.{definition_read, words_say}
use Rattle.fmp_law_config.proofs.Entries.{all_append, glyphs_append}
use Rattle.fmp_law_config.proofs.Glyphs.{is_glyph}
use Rattle.fmp_law_config.proofs.Nesting.{tokens_nested}
use Rattle.fmp_law_config.proofs.Results.{each-append, each-cons, each-none, none_is, ok_is}
use Rattle.fmp_law_config.proofs.Stages.{stage_of}
use Rattle.fmp_law_config.proofs.Steps.{no_directive, outside, state}
use Rattle.fmp_law_config.proofs.Wholes.{definition_ends, idle_ends, is_inside}
use Rattle.fmp_law_faults.specs.DirectiveFaults.{DefinitionFault, DirectiveFault, IsTaken, NameFault}
use Rattle.fmp_law_faults.specs.Statements.{AreSpelled, BeginDirective, HaveFault, IsAt, IsInDirective, between, end_of_directive, within}
use Rattle.fmp_law_faults.proofs.ComesBefore.{comes_before}
use Rattle.fmp_law_faults.proofs.Tokens.{fault_at_token, no_fault_at, tokens_lead}

-- ---- where the directive begins

record Placed (before : List Lexeme) (s : Stage) : Type 0 where
  draft : Draft
  form : Option Form
  read : each take_token at_start before ≡ Ok (outside draft form)
  stage : s ≡ stage_of draft

at_place : (before : List Lexeme) (s : Stage) → IsAt before s → Placed before s
at_place before s (between at) = let l = tokens_lead before s at in record { draft = l.draft; form = None; read = l.read; stage = l.stage }
at_place before s (within name glyphs at) =
    let on = at.goes_on in
    let c = comes_before before s name glyphs at on.0 on.1 on.2 on.3 in
    record { draft = c.draft; form = Some c.form; read = c.read; stage = c.stage }

-- ---- a token of a directive

abbrev is_marked : Directive → Bool
is_marked (Marked line) = true
is_marked _ = false

-- after the first word any other may follow
record Goes (directive : Directive) (t : Lexeme) : Type 0 where
  next : Directive
  is : next_directive directive t ≡ Ok next
  inside : is_inside next ≡ true
  unmarked : is_marked next ≡ false

number_goes : (line : ℕ) (name : Word) (t : Lexeme) (found : Option ℕ) → defined_number t ≡ found → Goes (Numbering line name) t
unfolding numbered
number_goes line name t None e = record { next = Skipped; is = rw e refl; inside = refl; unmarked = refl }
number_goes line name t (Some n) e = record { next = Defining line name n; is = rw e refl; inside = refl; unmarked = refl }

name_goes : (line : ℕ) (t : Lexeme) (is_one : Bool) → is_name t.text ≡ is_one → Goes (Naming line) t
unfolding named_number
name_goes line t true e = record { next = Numbering line (word_of t); is = rw e refl; inside = refl; unmarked = refl }
name_goes line t false e = record { next = Skipped; is = rw e refl; inside = refl; unmarked = refl }

next_goes : (directive : Directive) (t : Lexeme) → is_inside directive ≡ true → is_marked directive ≡ false → Goes directive t
next_goes Outside t inside unmarked = absurd (false≢true inside)
next_goes (Marked line) t inside unmarked = absurd (false≢true (sym unmarked))
next_goes (Naming line) t inside unmarked = name_goes line t (is_name t.text) refl
next_goes (Numbering line name) t inside unmarked = number_goes line name t (defined_number t) refl
next_goes (Defining line name number) t inside unmarked = record { next = Skipped; is = refl; inside = refl; unmarked = refl }
next_goes Skipped t inside unmarked = record { next = Skipped; is = refl; inside = refl; unmarked = refl }

include_goes : (line : ℕ) (t : Lexeme) → glyph_of t ≡ identifier (codes "include") → Goes (Marked line) t
unfolding named
include_goes line t e =
    let kind = ap (λ (g : Glyph). g.kind) e in
    let text = ap (λ (g : Glyph). g.text) e in
    record { next = Skipped; is = rw kind (rw text refl); inside = refl; unmarked = refl }

define_goes : (line : ℕ) (t : Lexeme) → glyph_of t ≡ identifier (codes "define") → Goes (Marked line) t
unfolding named
define_goes line t e =
    let kind = ap (λ (g : Glyph). g.kind) e in
    let text = ap (λ (g : Glyph). g.text) e in
    record { next = Naming line; is = rw kind (rw text refl); inside = refl; unmarked = refl }

module _ (d : Draft) (f : Option Form) where
  taken_inside : (directive : Directive) (t : Lexeme) → is_inside directive ≡ true → take_token (state d f directive) t ≡ directive_token (state d f directive) directive t
  unfolding take_token
  taken_inside Outside t e = absurd (false≢true e)
  taken_inside (Marked line) t e = refl
  taken_inside (Naming line) t e = refl
  taken_inside (Numbering line name) t e = refl
  taken_inside (Defining line name number) t e = refl
  taken_inside Skipped t e = refl

  word_taken : (directive : Directive) (t : Lexeme) → is_inside directive ≡ true → is_plain (glyph_of t) ≡ true
      → take_token (state d f directive) t ≡ (next_directive directive t >>= λ next. Ok (state d f next))
  unfolding directive_token
  word_taken directive t inside plain = let kind = (no_directive t plain).1 in taken_inside directive t inside ∙ rw kind refl

  hash_taken : (t : Lexeme) → is_directive_kind t.kind ≡ true → take_token (outside d f) t ≡ Ok (state d f (Marked t.line))
  unfolding take_token code_token
  hash_taken t e = rw e refl

  end_taken : (directive : Directive) (t : Lexeme) → is_inside directive ≡ true → is_end_kind t.kind ≡ true → take_token (state d f directive) t ≡ (ended d directive >>= λ after. Ok (outside after f))
  unfolding directive_token
  end_taken directive t inside e = taken_inside directive t inside ∙ rw e refl

  -- the words so far lead to this directive
  record Leads (directive : Directive) (words : List Lexeme) : Type 0 where
    last : Directive
    reads : each take_token (state d f directive) words ≡ Ok (state d f last)
    is : each next_directive directive words ≡ Ok last
    inside : is_inside last ≡ true
    unmarked : is_marked last ≡ false

  one_leads : (directive : Directive) (t : Lexeme) (words : List Lexeme) → is_inside directive ≡ true → is_plain (glyph_of t) ≡ true → (g : Goes directive t) → Leads g.next words → Leads directive (t ∷ words)
  one_leads directive t words inside plain g r =
      let next = g.is in
      let step : take_token (state d f directive) t ≡ Ok (state d f g.next) = word_taken directive t inside plain ∙ rw next refl in
      record {
        last = r.last;
        reads = each-cons take_token (state d f directive) (state d f g.next) t words step ∙ r.reads;
        is = each-cons next_directive directive g.next t words next ∙ r.is;
        inside = r.inside;
        unmarked = r.unmarked;
      }

  words_lead : (words : List Lexeme) (directive : Directive) → is_inside directive ≡ true → is_marked directive ≡ false → list_all is_plain (map glyph_of words) ≡ true → Leads directive words
  words_lead [] directive inside unmarked plain =
      record { last = directive; reads = each-none take_token (state d f directive); is = each-none next_directive directive; inside = inside; unmarked = unmarked }
  words_lead (t ∷ words) directive inside unmarked plain =
      let both = and_parts (is_plain (glyph_of t)) (list_all is_plain (map glyph_of words)) plain in
      let g = next_goes directive t inside unmarked in
      one_leads directive t words inside both.0 g (words_lead words g.next g.inside g.unmarked both.1)

-- ---- the first word

abbrev DirectiveAgrees : Stage → List Glyph → Glyph → Result State Fault → Type 0
DirectiveAgrees s words g (Err fault) = DirectiveFault s words g fault.kind
DirectiveAgrees s words g (Ok next) = (kind : ConfigKind) → ¬ (DirectiveFault s words g kind)

no_length : 1 ≤ length {A = Glyph} [] → ⊥
no_length some = omega (arith, some)

-- a directive of that name is none at fault
named_well : (s : Stage) (t : Lexeme) → is_identifier_kind t.kind ≡ true → (t.text ≡ codes "include") ⊎ (t.text ≡ codes "define") → (kind : ConfigKind) → ¬ (DirectiveFault s [] (glyph_of t) kind)
named_well s t word is kind (inr n) = no_length n.0
named_well s t word is kind (inl n) =
    elim n.1 [
      | inl bad ↦ false≢true (sym bad.1 ∙ word)
      | inr bad ↦ elim is [ inl include ↦ bad.2 include | inr define ↦ bad.3 define ]
    ]

module _ (s : Stage) (d : Draft) (f : Option Form) (line : ℕ) (t : Lexeme) where
  abbrev Judged : Result Directive Fault → Type 0
  Judged r = DirectiveAgrees s [] (glyph_of t) (r >>= λ next. Ok (state d f next))

  name_judged : Judged (named line t)
  unfolding named
  name_judged = by (is_identifier_kind t.kind) (bytes_eq t.text (codes "include")) (bytes_eq t.text (codes "define")) refl refl refl where
    by : (word include define : Bool) → is_identifier_kind t.kind ≡ word → bytes_eq t.text (codes "include") ≡ include → bytes_eq t.text (codes "define") ≡ define
        → Judged (cond word (cond include (Ok Skipped) (cond define (Ok (Naming line)) (Err (unknown_directive line t.text)))) (Err (fault_of_line Syntax line)))
    by false include define a b c = inl (refl, inl (refl, a))
    by true true define a b c = named_well s t a (inl (is_word t.text (codes "include") b))
    by true false true a b c = named_well s t a (inr (is_word t.text (codes "define") c))
    by true false false a b c = inl (refl, inr (a, refl, not_word t.text (codes "include") b, not_word t.text (codes "define") c))

-- ---- a definition

one_definition : (words : List Lexeme) (a b : List ℕ) (m n : ℕ) → Defines (map glyph_of words) a m → Defines (map glyph_of words) b n → (a ≡ b) × (m ≡ n)
one_definition words a b m n first second =
    let x = definition_read 0 words a m first in
    let y = definition_read 0 words b n second in
    let same = ok_is (Defining 0 x.word m) (Defining 0 y.word n) (sym x.is ∙ y.is) in
    let name : x.word ≡ y.word = cc in
    (sym x.text ∙ ap (λ (w : Word). w.text) name ∙ y.text, cc)

-- the rows of a definition
abbrev Case : Stage → List ℕ → ℕ → ConfigKind → Type 0
Case s name number kind =
    ((kind ≡ NameTaken) × IsTaken s name number)
    ⊎ (¬ (IsTaken s name number) × (kind ≡ TooMany) × (number_defined s.setup.names name ≡ None) × (has_room_to_define s.setup.names ≡ false))

case_of : (s : Stage) (words : List Lexeme) (a b : List ℕ) (m n : ℕ) (kind : ConfigKind) → Defines (map glyph_of words) a m → Defines (map glyph_of words) b n → Case s a m kind → Case s b n kind
case_of s words a b m n kind first second found =
    let same = one_definition words a b m n first second in
    subst (λ (k : ℕ). Case s b k kind) same.1 (subst (λ (w : List ℕ). Case s w m kind) same.0 found)

one_case : (s : Stage) (name : List ℕ) (number : ℕ) (a b : ConfigKind) → Case s name number a → Case s name number b → a ≡ b
one_case s name number a b (inl x) (inl y) = x.0 ∙ sym y.0
one_case s name number a b (inl x) (inr y) = absurd (y.0 x.1)
one_case s name number a b (inr x) (inl y) = absurd (x.0 y.1)
one_case s name number a b (inr x) (inr y) = x.1 ∙ sym y.1

one_name_fault : (g : Glyph) (a b : ConfigKind) → NameFault g a → NameFault g b → a ≡ b
one_name_fault g a b (inl x) (inl y) = x.0 ∙ sym y.0
one_name_fault g a b (inl x) (inr y) = absurd (false≢true (sym x.1 ∙ y.0))
one_name_fault g a b (inr x) (inl y) = absurd (false≢true (sym y.1 ∙ x.0))
one_name_fault g a b (inr x) (inr y) = x.1 ∙ sym y.1

none_and_some : {A : Type 0} (xs : List A) → xs ≡ [] → 1 ≤ length xs → ⊥
none_and_some xs none some = omega (arith, ap length none, some)

one_fault : (s : Stage) (words : List Lexeme) (g : Glyph) (a b : ConfigKind) → DirectiveFault s (map glyph_of words) g a → DirectiveFault s (map glyph_of words) g b → a ≡ b
one_fault s words g a b (inl x) (inl y) = one_name_fault g a b x.1 y.1
one_fault s words g a b (inl x) (inr y) = absurd (none_and_some (map glyph_of words) x.0 y.0)
one_fault s words g a b (inr x) (inl y) = absurd (none_and_some (map glyph_of words) y.0 x.0)
one_fault s words g a b (inr x) (inr y) =
    let f = x.2 in
    let h = y.2 in
    one_case s h.0 h.1 a b (case_of s words f.0 h.0 f.1 h.1 a f.2 h.2 f.3) h.3

module _ (d : Draft) (line : ℕ) (word : Word) (number : ℕ) (words : List Lexeme) (defines : Defines (map glyph_of words) word.text number) where
  abbrev s : Stage
  s = stage_of d

  abbrev Found : ConfigKind → Type 0
  Found kind = DefinitionFault s (map glyph_of words) kind

  abbrev DefinitionAgrees : Result Draft Fault → Type 0
  DefinitionAgrees (Err fault) = Found fault.kind
  DefinitionAgrees (Ok after) = (kind : ConfigKind) → ¬ (Found kind)

  -- a fault is one of this definition
  of_this : (kind : ConfigKind) → Found kind → Case s word.text number kind
  of_this kind found = case_of s words found.0 word.text found.1 number kind (found.2) defines found.3

  new_judged : number_defined s.setup.names word.text ≡ None
      → DefinitionAgrees (new_name d.setup (has_room_to_define d.setup.names) line word >>= λ unit. Ok (record d { setup = with_defined d.setup word.text number }))
  unfolding new_name
  new_judged none = by (is_refused d.setup word.text) (has_room_to_define d.setup.names) refl refl where
    by : (taken room : Bool) → is_refused d.setup word.text ≡ taken → has_room_to_define d.setup.names ≡ room
        → DefinitionAgrees (cond {A = Result (Unit {0}) Fault} taken (Err (fault_at NameTaken word)) (cond {A = Result (Unit {0}) Fault} room (Ok tt) (Err (fault_in TooMany line word)))
        >>= λ unit. Ok (record d { setup = with_defined d.setup word.text number }))
    by true room a b = (word.text, number, defines, inl (refl, inr (none, a)))
    by false false a b =
        let not_taken : ¬ (IsTaken s word.text number) = λ taken. elim taken [ inl t ↦ none_is t.0 (sym none ∙ t.1) | inr t ↦ false≢true (sym a ∙ t.1) ] in
        (word.text, number, defines, inr (not_taken, refl, none, b))
    by false true a b = λ kind found.
        elim (of_this kind found) [
          | inl t ↦ elim t.1 [ inl other ↦ none_is other.0 (sym none ∙ other.1) | inr refused ↦ false≢true (sym a ∙ refused.1) ]
          | inr many ↦ false≢true (sym many.3 ∙ b)
        ]

  define_judged : DefinitionAgrees (define d line word number)
  unfolding define
  define_judged = by (number_defined d.setup.names word.text) refl where
    same_number : (n : ℕ) → number_defined d.setup.names word.text ≡ Some n → (same : Bool) → eqb n number ≡ same → DefinitionAgrees (cond same (Ok d) (Err (fault_at NameTaken word)))
    same_number n is true e = λ kind found.
        elim (of_this kind found) [
          | inl t ↦ elim t.1 [ inl other ↦ other.2 (some_is other.0 n (sym other.1 ∙ is) ∙ eqb-true n number e) | inr refused ↦ none_is n (sym refused.0 ∙ is) ]
          | inr many ↦ none_is n (sym many.2 ∙ is)
        ]
    same_number n is false e = (word.text, number, defines, inl (refl, inl (n, is, λ same. false≢true (sym e ∙ eq-eqb n number same))))

    by : (o : Option ℕ) → number_defined d.setup.names word.text ≡ o
        → DefinitionAgrees (option_map_or (λ n. cond (eqb n number) (Ok d) (Err (fault_at NameTaken word))) o
        (new_name d.setup (has_room_to_define d.setup.names) line word >>= λ unit. Ok (record d { setup = with_defined d.setup word.text number })))
    by (Some n) is = same_number n is (eqb n number) refl
    by None is = new_judged is

-- ---- a token after some words

marked_ends : (d : Draft) (f : Option Form) (line : ℕ) → (ended d (Marked line) >>= λ after. Ok (outside after f)) ≡ Err (fault_of_line Syntax line)
unfolding ended
marked_ends d f line = refl

-- what is skipped defines nothing
defines_nothing : (words : List Glyph) → Skips words → (name : List ℕ) (number : ℕ) → Defines words name number → ⊥
defines_nothing words (Undefined rest e none) name number s = none name number s
defines_nothing words (Included rest e) name number s =
    let both = sym e ∙ s.parts in
    let first : identifier (codes "include") ≡ identifier (codes "define") = cc in
    not_word (codes "include") (codes "define") refl (ap (λ (g : Glyph). g.text) first)

record Outcome (before : List Lexeme) (hash : Lexeme) (words : List Lexeme) (t : Lexeme) (s : Stage) : Type 0 where
  at : State
  read : each take_token at_start (before ++ hash ∷ words) ≡ Ok at
  judged : DirectiveAgrees s (map glyph_of words) (glyph_of t) (take_token at t)

-- what follows the name of a directive
abbrev Named : List Lexeme → Lexeme → Type 0
Named words t = (is_plain (glyph_of t) ≡ true) ⊎ ((glyph_of t ≡ end_of_directive) × (list_all is_glyph (map glyph_of words) ≡ true))

module _ (before : List Lexeme) (hash : Lexeme) (t : Lexeme) (s : Stage) (p : Placed before s) (hash_is : is_directive_kind hash.kind ≡ true) where
  abbrev inside : Directive → State
  inside directive = state p.draft p.form directive

  abbrev marked : Directive
  marked = Marked hash.line

  read_to : (words : List Lexeme) (last : Directive) → each take_token (inside marked) words ≡ Ok (inside last) → each take_token at_start (before ++ hash ∷ words) ≡ Ok (inside last)
  read_to words last reads =
      let here = p.read in
      each-append take_token at_start before (hash ∷ words) ∙ rw here (each-cons take_token (outside p.draft p.form) (inside marked) hash words (hash_taken p.draft p.form hash hash_is) ∙ reads)

  agrees : (words : List Lexeme) (at : State) (r : Result State Fault) → take_token at t ≡ r → DirectiveAgrees s (map glyph_of words) (glyph_of t) r → DirectiveAgrees s (map glyph_of words) (glyph_of t) (take_token at t)
  agrees words at r e a = subst (λ (x : Result State Fault). DirectiveAgrees s (map glyph_of words) (glyph_of t) x) (sym e) a

  plain_end : is_plain (glyph_of t) ≡ true → glyph_of t ≡ end_of_directive → ⊥
  plain_end plain e = false≢true (sym (ap is_plain e) ∙ plain)

  -- right after the `#`
  first_outcome : (is_plain (glyph_of t) ≡ true) ⊎ (glyph_of t ≡ end_of_directive) → Outcome before hash [] t s
  first_outcome is = record { at = inside marked; read = read_to [] marked (each-none take_token (inside marked)); judged = by is } where
    by : (is_plain (glyph_of t) ≡ true) ⊎ (glyph_of t ≡ end_of_directive) → DirectiveAgrees s [] (glyph_of t) (take_token (inside marked) t)
    by (inl plain) = agrees [] (inside marked) (named hash.line t >>= λ next. Ok (inside next)) (word_taken p.draft p.form marked t refl plain) (name_judged s p.draft p.form hash.line t)
    by (inr end) =
        let kind = ap (λ (g : Glyph). g.kind) end in
        agrees [] (inside marked) (Err (fault_of_line Syntax hash.line)) (end_taken p.draft p.form marked t refl (ap is_end_kind kind) ∙ marked_ends p.draft p.form hash.line) (inl (refl, inl (refl, ap is_identifier_kind kind)))

  -- after more words
  module _ (w : Lexeme) (rest : List Lexeme) (l : Leads p.draft p.form marked (w ∷ rest)) where
    abbrev words : List Lexeme
    words = w ∷ rest

    some_words : 1 ≤ length (map glyph_of words)
    some_words = omega arith

    no_name : {kind : ConfigKind} → (map glyph_of words ≡ []) × NameFault (glyph_of t) kind → ⊥
    no_name f = none_and_some (map glyph_of words) f.0 some_words

    word_judged : is_plain (glyph_of t) ≡ true → DirectiveAgrees s (map glyph_of words) (glyph_of t) (take_token (inside l.last) t)
    word_judged plain =
        let g = next_goes l.last t l.inside l.unmarked in
        let is = g.is in
        agrees words (inside l.last) (Ok (inside g.next)) (word_taken p.draft p.form l.last t l.inside plain ∙ rw is refl) (λ kind found.
        elim found [ inl f ↦ no_name f | inr f ↦ plain_end plain f.1 ])

    of_definition : glyph_of t ≡ end_of_directive → (r : Result Draft Fault) → (name : Word) (number : ℕ) (defines : Defines (map glyph_of words) name.text number)
        → DefinitionAgrees p.draft hash.line name number words defines r → DirectiveAgrees (stage_of p.draft) (map glyph_of words) (glyph_of t) (r >>= λ after. Ok (outside after p.form))
    of_definition end (Err fault) name number defines a = inr (some_words, end, a)
    of_definition end (Ok after) name number defines a = λ kind found. elim found [ inl f ↦ no_name f | inr f ↦ a kind f.2 ]

    end_judged : glyph_of t ≡ end_of_directive → list_all is_glyph (map glyph_of words) ≡ true → DirectiveAgrees s (map glyph_of words) (glyph_of t) (take_token (inside l.last) t)
    end_judged end all =
        agrees words (inside l.last) (ended p.draft l.last >>= λ after. Ok (outside after p.form)) (end_taken p.draft p.form l.last t l.inside (ap (λ (g : Glyph). is_end_kind g.kind) end))
        (subst (λ (x : Stage). DirectiveAgrees x (map glyph_of words) (glyph_of t) (ended p.draft l.last >>= λ after. Ok (outside after p.form))) (sym p.stage) by_words) where
          unmarked : l.last ≡ marked → ⊥
          unmarked e = false≢true (sym l.unmarked ∙ ap is_marked e)

          by_words : DirectiveAgrees (stage_of p.draft) (map glyph_of words) (glyph_of t) (ended p.draft l.last >>= λ after. Ok (outside after p.form))
          by_words = elim (words_say hash.line words l.last all l.is unmarked) [
            | inl d ↦
                let is = ap (ended p.draft) d.2 ∙ definition_ends p.draft hash.line d.0 d.1 in
                subst (λ (r : Result Draft Fault). DirectiveAgrees (stage_of p.draft) (map glyph_of words) (glyph_of t) (r >>= λ after. Ok (outside after p.form))) (sym is)
                (of_definition end (define p.draft hash.line d.0 d.1) d.0 d.1 d.3 (define_judged p.draft hash.line d.0 d.1 words d.3))
            | inr idle ↦
                subst (λ (r : Result Draft Fault). DirectiveAgrees (stage_of p.draft) (map glyph_of words) (glyph_of t) (r >>= λ after. Ok (outside after p.form))) (sym (idle_ends p.draft l.last idle.0))
                (λ kind found. elim found [ inl f ↦ no_name f | inr f ↦ defines_nothing (map glyph_of words) idle.1 f.2.0 f.2.1 f.2.2 ])
          ]

    more_outcome : Named words t → Outcome before hash words t s
    more_outcome is =
        record {
          at = inside l.last;
          read = read_to words l.last l.reads;
          judged = (elim is [ inl plain ↦ word_judged plain | inr end ↦ end_judged end.0 end.1 ]);
        }

-- ---- all directives

leads_on : (d : Draft) (f : Option Form) (line : ℕ) (w : Lexeme) (rest : List Lexeme) → list_all is_plain (map glyph_of (w ∷ rest)) ≡ true → Goes (Marked line) w → Leads d f (Marked line) (w ∷ rest)
leads_on d f line w rest plain g =
    let both = and_parts (is_plain (glyph_of w)) (list_all is_plain (map glyph_of rest)) plain in
    one_leads d f (Marked line) w rest refl both.0 g (words_lead d f rest g.next g.inside g.unmarked both.1)

glyphs_of_words : (before : List Lexeme) (hash : Lexeme) (words : List Lexeme) (t : Lexeme) → AreSpelled ((before ++ hash ∷ words) ++ t ∷ []) → list_all is_glyph (map glyph_of words) ≡ true
glyphs_of_words before hash words t spelled =
    let all = (tokens_nested (map glyph_of ((before ++ hash ∷ words) ++ t ∷ [])) spelled.0 spelled.1).0 in
    let front = (all_append (map glyph_of (before ++ hash ∷ words)) (map glyph_of (t ∷ [])) (subst (λ (gs : List Glyph). list_all is_glyph gs ≡ true) (glyphs_append (before ++ hash ∷ words) (t ∷ [])) all)).0 in
    let back = (all_append (map glyph_of before) (map glyph_of (hash ∷ words)) (subst (λ (gs : List Glyph). list_all is_glyph gs ≡ true) (glyphs_append before (hash ∷ words)) front)).1 in
    (and_parts (is_glyph (glyph_of hash)) (list_all is_glyph (map glyph_of words)) back).1

outcome : (before : List Lexeme) (hash : Lexeme) (words : List Lexeme) (t : Lexeme) (s : Stage) → IsInDirective before hash words t s → Outcome before hash words t s
outcome before hash [] t s i =
    first_outcome before hash t s (at_place before s i.at) (ap (λ (g : Glyph). is_directive_kind g.kind) i.hash_is) (elim i.is [ inl plain ↦ inl plain | inr end ↦ inr end.0 ])
outcome before hash (w ∷ rest) t s i =
    let p = at_place before s i.at in
    let hash_is = ap (λ (g : Glyph). is_directive_kind g.kind) i.hash_is in
    more_outcome before hash t s p hash_is w rest (leads_on p.draft p.form hash.line w rest i.words_are (goes i.begins)) (elim i.is [ inl plain ↦ inl plain | inr end ↦ inr (end.0, glyphs_of_words before hash (w ∷ rest) t end.1) ]) where
      goes : BeginDirective (map glyph_of (w ∷ rest)) → Goes (Marked hash.line) w
      goes (inl none) = absurd cc
      goes (inr (others, inl e)) = let first : glyph_of w ≡ identifier (codes "include") = cc in include_goes hash.line w first
      goes (inr (others, inr e)) = let first : glyph_of w ≡ identifier (codes "define") = cc in define_goes hash.line w first

module _ (before : List Lexeme) (hash : Lexeme) (words : List Lexeme) (t : Lexeme) (s : Stage) (i : IsInDirective before hash words t s) where
  o : Outcome before hash words t s
  o = outcome before hash words t s i

  pub no_fault : ((kind : ConfigKind) → ¬ (DirectiveFault s (map glyph_of words) (glyph_of t) kind)) → HaveNoFault ((before ++ hash ∷ words) ++ t ∷ [])
  no_fault none = go (take_token o.at t) refl o.judged where
    go : (r : Result State Fault) → take_token o.at t ≡ r → DirectiveAgrees s (map glyph_of words) (glyph_of t) r → HaveNoFault ((before ++ hash ∷ words) ++ t ∷ [])
    go (Ok next) e agrees = no_fault_at (before ++ hash ∷ words) t o.at o.read next e
    go (Err fault) e agrees = absurd (none fault.kind agrees)

  pub a_fault : (kind : ConfigKind) → DirectiveFault s (map glyph_of words) (glyph_of t) kind → HaveFault ((before ++ hash ∷ words) ++ t ∷ []) kind
  a_fault kind found = go (take_token o.at t) refl o.judged where
    go : (r : Result State Fault) → take_token o.at t ≡ r → DirectiveAgrees s (map glyph_of words) (glyph_of t) r → HaveFault ((before ++ hash ∷ words) ++ t ∷ []) kind
    go (Ok next) e agrees = absurd (agrees kind found)
    go (Err fault) e agrees =
        let same = one_fault s words (glyph_of t) fault.kind kind agrees found in
        subst (λ (k : ConfigKind). HaveFault ((before ++ hash ∷ words) ++ t ∷ []) k) same (fault_at_token (before ++ hash ∷ words) t o.at o.read fault e)
