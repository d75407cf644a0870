-- A text can be cut before each of its tokens.
use Rattle.std.proofs.Common.{◌≡◌, ℕ, ◌+◌, true, false, ◌&&◌, ◌⊎◌, eqb, inl, inr, List, [], ◌∷◌, ◌++◌, refl, sym, ap, subst, ◌∙◌}
use Rattle.std.specs.List.{list_all}
use Rattle.std.proofs.lemmas.Bool.{cases_Bool, cond_both, and_parts}
use Rattle.std.specs.Char.{is_ascii_graphic}
use Rattle.std.proofs.Math.Bool.{and-false}
use Rattle.fmp_bytes.specs.declared.classes.Class.TheVariants as class
use Rattle.fmp_bytes.specs.declared.classes.Class.TheVariants.{Word}
use Rattle.fmp_bytes.specs.Bytes.{is_of, prefix, after}
use Rattle.fmp_bytes.proofs.Prefixes.{list_all-take_while, prefix-after}
use Rattle.fmp_config_statements.specs.declared.tokens.TokenKind.{TokenKind}
use Rattle.fmp_config_statements.specs.declared.tokens.TokenKind.TheVariants as kinds
use Rattle.fmp_config_statements.specs.declared.modes.Place.{Place}
use Rattle.fmp_config_statements.specs.declared.modes.Place.TheVariants as places
use Rattle.fmp_config_statements.specs.declared.modes.Mode.{Mode}
use Rattle.fmp_config_statements.specs.declared.modes.Mode.TheVariants as modes
use Rattle.fmp_config_statements.specs.declared.modes.Step.{Step}
use Rattle.fmp_config_statements.specs.declared.modes.Step.TheVariants.{Pass, Give, Stop}
use Rattle.fmp_config_statements.specs.Steps.{is_next, goes_on, at_line_end, single_in_code, single, begun, in_gap, in_line_comment, step_of, line_after}
use Rattle.fmp_config_statements.specs.Lexing.{Lexeme, Lexed, text_of, ended_at, ended_in, stepped, lexed, lexed_text}
use Rattle.fmp_law_config.specs.Cuts.{AreTokens, IsCutAfter}
use Rattle.fmp_law_config.proofs.Gaps.{prefix_more}

-- ---- what a step asks of the bytes after its own

abbrev SameHead : List ℕ → List ℕ → Type 0
SameHead (a ∷ xs) (b ∷ ys) = a ≡ b
SameHead _ _ = ⊥

-- no more than the first of them
same_after : (mode : Mode) (line b c : ℕ) (xs ys : List ℕ) → step_of mode line b (c ∷ xs) ≡ step_of mode line b (c ∷ ys)
unfolding step_of in_gap begun single in_line_comment
same_after (modes.Gap places.LineStart) line b c xs ys = refl
same_after (modes.Gap places.Code) line b c xs ys = refl
same_after (modes.Gap places.Directive) line b c xs ys = refl
same_after (modes.Word places.LineStart) line b c xs ys = refl
same_after (modes.Word places.Code) line b c xs ys = refl
same_after (modes.Word places.Directive) line b c xs ys = refl
same_after (modes.Quoted began) line b c xs ys = refl
same_after (modes.Escaped began) line b c xs ys = refl
same_after (modes.LineComment places.LineStart) line b c xs ys = refl
same_after (modes.LineComment places.Code) line b c xs ys = refl
same_after (modes.LineComment places.Directive) line b c xs ys = refl
same_after (modes.Opening place began) line b c xs ys = refl
same_after (modes.Block place began) line b c xs ys = refl
same_after (modes.Star place began) line b c xs ys = refl
same_after modes.Continued line b c xs ys = refl

same_step : (mode : Mode) (line b : ℕ) (xs ys : List ℕ) → SameHead xs ys → step_of mode line b xs ≡ step_of mode line b ys
same_step mode line b [] ys same = absurd same
same_step mode line b (x ∷ xs) [] same = absurd same
same_step mode line b (x ∷ xs) (y ∷ ys) same = ap (λ c. step_of mode line b (c ∷ xs)) same ∙ same_after mode line b y xs ys

-- a byte that gives a token gives it at the end of a text, too
module _ (kind : TokenKind) (l : ℕ) (next : Mode) where
  pass_no : (mode : Mode) → Pass mode ≡ Give kind l next → ⊥
  pass_no mode e = absurd cc

  single_alone : (place : Place) (line b : ℕ) (rest : List ℕ) → single place line b rest ≡ Give kind l next → single place line b [] ≡ Give kind l next
  unfolding single
  single_alone places.LineStart line b rest e = e
  single_alone places.Code line b rest e = e
  single_alone places.Directive line b rest e =
      elim (cases_Bool (eqb b 92 && is_next 10 rest)) [
        | inl t ↦ absurd (pass_no modes.Continued (rw t at e))
        | inr f ↦ let none = and-false (eqb b 92) in rw none (rw f at e)
      ]

  begun_alone : (place : Place) (line b : ℕ) (rest : List ℕ) → begun place line b rest ≡ Give kind l next → begun place line b [] ≡ Give kind l next
  unfolding begun
  begun_alone place line b rest e =
      elim (cases_Bool (is_of class.Letter b)) [
        | inl t ↦ rw t (rw t at e)
        | inr f ↦ elim (cases_Bool (is_of class.Digit b)) [ inl t ↦ rw (f, t) (rw (f, t) at e) | inr g ↦ rw (f, g) (single_alone place line b rest (rw (f, g) at e)) ]
      ]

  gap_alone : (place : Place) (line b : ℕ) (rest : List ℕ) → in_gap place line b rest ≡ Give kind l next → in_gap place line b [] ≡ Give kind l next
  unfolding in_gap
  gap_alone place line b rest e =
      elim (cases_Bool (eqb b 10)) [
        | inl t ↦ rw t (rw t at e)
        | inr f ↦
            elim (cases_Bool (is_of class.Space b)) [
              | inl t ↦ absurd (pass_no (modes.Gap place) (rw (f, t) at e))
              | inr g ↦
                  elim (cases_Bool (eqb b 47 && is_next 47 rest)) [
                    | inl t ↦ absurd (pass_no (modes.LineComment place) (rw (f, g, t) at e))
                    | inr h ↦
                        elim (cases_Bool (eqb b 47 && is_next 42 rest)) [
                          | inl t ↦ absurd (pass_no (modes.Opening place line) (rw (f, g, h, t) at e))
                          | inr i ↦ let none = and-false (eqb b 47) in rw (f, g, none) (begun_alone place line b rest (rw (f, g, h, i) at e))
                        ]
                  ]
            ]
      ]

  step_alone : (mode : Mode) (line b : ℕ) (rest : List ℕ) → step_of mode line b rest ≡ Give kind l next → step_of mode line b [] ≡ Give kind l next
  unfolding step_of in_line_comment
  step_alone (modes.Gap place) line b rest e = gap_alone place line b rest e
  step_alone (modes.Word place) line b rest e =
      elim (cases_Bool (is_of Word b)) [
        | inl t ↦ absurd (pass_no (modes.Word place) (rw t at e))
        | inr f ↦ rw f (gap_alone place line b rest (rw f at e))
      ]
  step_alone (modes.LineComment place) line b rest e =
      elim (cases_Bool (eqb b 10)) [
        | inl t ↦ rw t (rw t at e)
        | inr f ↦
            elim (cases_Bool (goes_on place b rest)) [
              | inl t ↦ absurd (pass_no modes.Continued (rw (f, t) at e))
              | inr g ↦ absurd (pass_no (modes.LineComment place) (rw (f, g) at e))
            ]
      ]
  step_alone (modes.Quoted began) line b rest e = e
  step_alone (modes.Escaped began) line b rest e = e
  step_alone (modes.Opening place began) line b rest e = e
  step_alone (modes.Block place began) line b rest e = e
  step_alone (modes.Star place began) line b rest e = e
  step_alone modes.Continued line b rest e = e

-- ---- words

abbrev IsWord : Mode → Type 0
IsWord (modes.Word place) = Unit {0}
IsWord other = ⊥

-- after the first byte of a word or number stands the rest of it
abbrev LeavesWord : TokenKind → Mode → Type 0
LeavesWord kinds.Identifier next = IsWord next
LeavesWord kinds.Digits next = IsWord next
LeavesWord kind next = Unit {0}

abbrev Leaves : Step → Type 0
Leaves (Give kind line next) = LeavesWord kind next
Leaves other = Unit {0}

line_end_leaves : (place : Place) (line : ℕ) → Leaves (at_line_end place line)
unfolding at_line_end
line_end_leaves places.LineStart line = tt
line_end_leaves places.Code line = tt
line_end_leaves places.Directive line = tt

code_leaves : (line b : ℕ) → Leaves (single_in_code line b)
unfolding single_in_code
code_leaves line b = cond_both (eqb b 34) _ _ Leaves (λ _. tt) (λ _. cond_both (is_ascii_graphic b) _ _ Leaves (λ _. tt) (λ _. tt))

single_leaves : (place : Place) (line b : ℕ) (rest : List ℕ) → Leaves (single place line b rest)
unfolding single
single_leaves places.LineStart line b rest = cond_both (eqb b 35) _ _ Leaves (λ _. tt) (λ _. code_leaves line b)
single_leaves places.Code line b rest = code_leaves line b
single_leaves places.Directive line b rest = cond_both (eqb b 92 && is_next 10 rest) _ _ Leaves (λ _. tt) (λ _. tt)

gap_leaves : (place : Place) (line b : ℕ) (rest : List ℕ) → Leaves (in_gap place line b rest)
unfolding in_gap begun
gap_leaves place line b rest =
    cond_both (eqb b 10) _ _ Leaves (λ _. line_end_leaves place line)
    (λ _. cond_both (is_of class.Space b) _ _ Leaves (λ _. tt)
    (λ _. cond_both (eqb b 47 && is_next 47 rest) _ _ Leaves (λ _. tt)
    (λ _. cond_both (eqb b 47 && is_next 42 rest) _ _ Leaves (λ _. tt)
    (λ _. cond_both (is_of class.Letter b) _ _ Leaves (λ _. tt) (λ _. cond_both (is_of class.Digit b) _ _ Leaves (λ _. tt) (λ _. single_leaves place line b rest))))))

step_leaves : (mode : Mode) (line b : ℕ) (rest : List ℕ) → Leaves (step_of mode line b rest)
unfolding step_of in_line_comment
step_leaves (modes.Gap place) line b rest = gap_leaves place line b rest
step_leaves (modes.Word place) line b rest = cond_both (is_of Word b) _ _ Leaves (λ _. tt) (λ _. gap_leaves place line b rest)
step_leaves (modes.Quoted began) line b rest = cond_both (eqb b 34) _ _ Leaves (λ _. tt) (λ _. cond_both (eqb b 92) _ _ Leaves (λ _. tt) (λ _. tt))
step_leaves (modes.Escaped began) line b rest = tt
step_leaves (modes.LineComment place) line b rest = cond_both (eqb b 10) _ _ Leaves (λ _. line_end_leaves place line) (λ _. cond_both (goes_on place b rest) _ _ Leaves (λ _. tt) (λ _. tt))
step_leaves (modes.Opening place began) line b rest = tt
step_leaves (modes.Block place began) line b rest = cond_both (eqb b 42) _ _ Leaves (λ _. tt) (λ _. tt)
step_leaves (modes.Star place began) line b rest = cond_both (eqb b 47) _ _ Leaves (λ _. tt) (λ _. cond_both (eqb b 42) _ _ Leaves (λ _. tt) (λ _. tt))
step_leaves modes.Continued line b rest = tt

-- what is left of a word, where nothing else follows, is passed
word_ends : (place : Place) (word : List ℕ) (line : ℕ) → list_all (is_of Word) word ≡ true → (later : ℕ) × (lexed (modes.Word place) line word ≡ ended_at place later)
unfolding lexed ended_in step_of
word_ends place [] line all = (line, refl)
word_ends place (b ∷ word) line all =
    let parts = and_parts (is_of Word b) (list_all (is_of Word) word) all in
    let one = parts.0 in
    let pass : step_of (modes.Word place) line b word ≡ Pass (modes.Word place) = rw one refl in
    let more = word_ends place word (line_after line b) parts.1 in
    (more.0, ap (λ (s : Step). stepped s (b ∷ word) (λ next. lexed next (line_after line b) word)) pass ∙ more.1)

-- ---- the cut

-- where a text is cut after some tokens, so that those are the tokens of its beginning
record Cut (mode : Mode) (line : ℕ) (bytes : List ℕ) (before : List Lexeme) : Type 0 where
  front : List ℕ
  following : List ℕ
  parts : bytes ≡ front ++ following
  tokens : AreTokens (lexed mode line front).lexemes before
  head : ((before ≡ []) × (front ≡ [])) ⊎ SameHead front bytes
  word : IsWord mode → prefix Word front ≡ prefix Word bytes

ended_tokens : (place : Place) (line : ℕ) → AreTokens (ended_at place line).lexemes []
ended_tokens places.LineStart line = inl refl
ended_tokens places.Code line = inl refl
ended_tokens places.Directive line = inr (record { kind = kinds.DirectiveEnd; text = []; line = line }, refl, refl)

mode_tokens : (mode : Mode) (line : ℕ) → AreTokens (ended_in mode line).lexemes []
unfolding ended_in
mode_tokens (modes.Gap place) line = ended_tokens place line
mode_tokens (modes.Word place) line = ended_tokens place line
mode_tokens (modes.Quoted began) line = inl refl
mode_tokens (modes.Escaped began) line = inl refl
mode_tokens (modes.LineComment place) line = ended_tokens place line
mode_tokens (modes.Opening place began) line = inl refl
mode_tokens (modes.Block place began) line = inl refl
mode_tokens (modes.Star place began) line = inl refl
mode_tokens modes.Continued line = ended_tokens places.Directive line

word_none : (b : ℕ) (bytes : List ℕ) → is_of Word b ≡ false → prefix Word (b ∷ bytes) ≡ []
word_none b bytes f = rw f refl

word_head : (bytes : List ℕ) → (prefix Word bytes ≡ []) ⊎ SameHead (prefix Word bytes) bytes
word_head [] = inl refl
word_head (b ∷ bytes) =
    elim (cases_Bool (is_of Word b)) [
      | inl t ↦ inr (subst (λ (w : List ℕ). SameHead w (b ∷ bytes)) (sym (prefix_more b bytes t)) refl)
      | inr f ↦ inl (word_none b bytes f)
    ]

word_twice : (bytes : List ℕ) → prefix Word (prefix Word bytes) ≡ prefix Word bytes
word_twice [] = refl
word_twice (b ∷ bytes) =
    elim (cases_Bool (is_of Word b)) [
      | inl t ↦ ap (prefix Word) (prefix_more b bytes t) ∙ prefix_more b (prefix Word bytes) t ∙ ap (λ (w : List ℕ). b ∷ w) (word_twice bytes) ∙ sym (prefix_more b bytes t)
      | inr f ↦ ap (prefix Word) (word_none b bytes f) ∙ sym (word_none b bytes f)
    ]

-- before all tokens
nothing : (mode : Mode) (line : ℕ) (bytes : List ℕ) → (IsWord mode → ⊥) → Cut mode line bytes []
unfolding lexed
nothing mode line bytes other = record { front = []; following = bytes; parts = refl; tokens = mode_tokens mode line; head = inl (refl, refl); word = λ is. absurd (other is) }

cut_first : (mode : Mode) (line : ℕ) (bytes : List ℕ) → Cut mode line bytes []
cut_first (modes.Word place) line bytes =
    let ends = word_ends place (prefix Word bytes) line (list_all-take_while (is_of Word) bytes) in
    record {
      front = prefix Word bytes;
      following = after Word bytes;
      parts = sym (prefix-after Word bytes);
      tokens = subst (λ (l : Lexed). AreTokens l.lexemes []) (sym ends.1) (ended_tokens place ends.0);
      head = elim (word_head bytes) [ inl none ↦ inl (refl, none) | inr there ↦ inr there ];
      word = λ _. word_twice bytes;
    }
cut_first (modes.Gap place) line bytes = nothing (modes.Gap place) line bytes (λ e. e)
cut_first (modes.Quoted began) line bytes = nothing (modes.Quoted began) line bytes (λ e. e)
cut_first (modes.Escaped began) line bytes = nothing (modes.Escaped began) line bytes (λ e. e)
cut_first (modes.LineComment place) line bytes = nothing (modes.LineComment place) line bytes (λ e. e)
cut_first (modes.Opening place began) line bytes = nothing (modes.Opening place began) line bytes (λ e. e)
cut_first (modes.Block place began) line bytes = nothing (modes.Block place began) line bytes (λ e. e)
cut_first (modes.Star place began) line bytes = nothing (modes.Star place began) line bytes (λ e. e)
cut_first modes.Continued line bytes = nothing modes.Continued line bytes (λ e. e)

-- one token more
with_token : (t x : Lexeme) (lexemes before : List Lexeme) → t ≡ x → AreTokens lexemes before → AreTokens (t ∷ lexemes) (x ∷ before)
with_token t x lexemes before same (inl is) = inl (ap (λ (u : Lexeme). u ∷ lexemes) same ∙ ap (λ (us : List Lexeme). x ∷ us) is)
with_token t x lexemes before same (inr (end, kind, is)) = inr (end, kind, ap (λ (u : Lexeme). u ∷ lexemes) same ∙ ap (λ (us : List Lexeme). x ∷ us) is)

more_word : (b : ℕ) (xs ys : List ℕ) → prefix Word xs ≡ prefix Word ys → prefix Word (b ∷ xs) ≡ prefix Word (b ∷ ys)
more_word b xs ys same =
    elim (cases_Bool (is_of Word b)) [
      | inl t ↦ prefix_more b xs t ∙ ap (λ (w : List ℕ). b ∷ w) same ∙ sym (prefix_more b ys t)
      | inr f ↦ word_none b xs f ∙ sym (word_none b ys f)
    ]

same_text : (kind : TokenKind) (next : Mode) (b : ℕ) (xs ys : List ℕ) → LeavesWord kind next → (IsWord next → prefix Word xs ≡ prefix Word ys) → text_of kind (b ∷ xs) ≡ text_of kind (b ∷ ys)
unfolding text_of
same_text kinds.Identifier next b xs ys is word = more_word b xs ys (word is)
same_text kinds.Digits next b xs ys is word = more_word b xs ys (word is)
same_text kinds.Symbol next b xs ys is word = refl
same_text kinds.Text next b xs ys is word = refl
same_text kinds.Directive next b xs ys is word = refl
same_text kinds.DirectiveEnd next b xs ys is word = refl

-- what follows a byte of a word is a byte of it, or no word goes on
word_step : (mode : Mode) (line b : ℕ) (bytes front : List ℕ) (next : Mode) → step_of mode line b bytes ≡ Pass next → (IsWord next → prefix Word front ≡ prefix Word bytes) → IsWord mode
    → prefix Word (b ∷ front) ≡ prefix Word (b ∷ bytes)
unfolding step_of
word_step (modes.Word place) line b bytes front next is word here =
    elim (cases_Bool (is_of Word b)) [
      | inl t ↦
          let same : modes.Word place ≡ next = let e = rw t at is in cc in
          more_word b front bytes (word (subst IsWord same tt))
      | inr f ↦ word_none b front f ∙ sym (word_none b bytes f)
    ]
word_step other line b bytes front next is word here = absurd here

word_token : (mode : Mode) (line b : ℕ) (bytes front : List ℕ) (kind : TokenKind) (l : ℕ) (next : Mode) → step_of mode line b bytes ≡ Give kind l next → IsWord mode → prefix Word (b ∷ front) ≡ prefix Word (b ∷ bytes)
unfolding step_of
word_token (modes.Word place) line b bytes front kind l next is here =
    elim (cases_Bool (is_of Word b)) [
      | inl t ↦ absurd (pass_no kind l next (modes.Word place) (rw t at is))
      | inr f ↦ word_none b front f ∙ sym (word_none b bytes f)
    ]
word_token other line b bytes front kind l next is here = absurd here

few_at_end : (mode : Mode) (line : ℕ) (x y : Lexeme) (xs : List Lexeme) → (ended_in mode line).lexemes ≡ x ∷ y ∷ xs → ⊥
few_at_end mode line x y xs e =
    elim (mode_tokens mode line) [
      | inl none ↦ absurd (let bad = sym none ∙ e in cc)
      | inr one ↦ absurd (let bad = sym one.2 ∙ e in cc)
    ]

cut : (bytes : List ℕ) (mode : Mode) (line : ℕ) (before : List Lexeme) (token : Lexeme) (rest : List Lexeme) → (lexed mode line bytes).lexemes ≡ before ++ (token ∷ rest) → Cut mode line bytes before
unfolding lexed
cut bytes mode line [] token rest e = cut_first mode line bytes
cut [] mode line (x ∷ []) token rest e = absurd (few_at_end mode line x token rest e)
cut [] mode line (x ∷ y ∷ before) token rest e = absurd (few_at_end mode line x y (before ++ (token ∷ rest)) e)
cut (b ∷ bytes) mode line (x ∷ before) token rest e = by (λ next front others more left. cut bytes next (line_after line b) front others more left) (step_of mode line b bytes) refl e
  where
    by : ((next : Mode) (front : List Lexeme) (first : Lexeme) (more : List Lexeme) → (lexed next (line_after line b) bytes).lexemes ≡ front ++ (first ∷ more) → Cut next (line_after line b) bytes front)
        → (step : Step) → step_of mode line b bytes ≡ step → (stepped step (b ∷ bytes) (λ next. lexed next (line_after line b) bytes)).lexemes ≡ x ∷ (before ++ (token ∷ rest)) → Cut mode line (b ∷ bytes) (x ∷ before)
    by others (Stop end) is e2 = absurd (let bad = e2 in cc)
    by following (Pass next) is e2 =
        let r = following next (x ∷ before) token rest e2 in
        let there : SameHead r.front bytes = elim r.head [ inl none ↦ absurd (let bad = none.0 in cc) | inr same ↦ same ] in
        let step = same_step mode line b r.front bytes there ∙ is in
        record {
          front = b ∷ r.front;
          following = r.following;
          parts = ap (λ (bs : List ℕ). b ∷ bs) r.parts;
          tokens = rw step r.tokens;
          head = inr refl;
          word = word_step mode line b bytes r.front next is r.word;
        }
    by following (Give kind l next) is e2 =
        let first : record { kind = kind; text = text_of kind (b ∷ bytes); line = l } ≡ x = cc in
        let others : (lexed next (line_after line b) bytes).lexemes ≡ before ++ (token ∷ rest) = cc in
        let r = following next before token rest others in
        let step : step_of mode line b r.front ≡ Give kind l next =
        elim r.head [
          | inl none ↦ let empty = none.1 in rw empty (step_alone kind l next mode line b bytes is)
          | inr there ↦ same_step mode line b r.front bytes there ∙ is
        ] in
        let leaves : LeavesWord kind next = subst Leaves is (step_leaves mode line b bytes) in
        let text = same_text kind next b r.front bytes leaves r.word in
        record {
          front = b ∷ r.front;
          following = r.following;
          parts = ap (λ (bs : List ℕ). b ∷ bs) r.parts;
          tokens = rw step (with_token _ x _ before (ap (λ (t : List ℕ). record { kind = kind; text = t; line = l }) text ∙ first) r.tokens);
          head = inr refl;
          word = word_token mode line b bytes r.front kind l next is;
        }

pub cut_before : (text : List ℕ) (before : List Lexeme) (token : Lexeme) (rest : List Lexeme) → (lexed_text text).lexemes ≡ before ++ (token ∷ rest) → IsCutAfter text before
unfolding lexed_text
cut_before text before token rest e =
    let c = cut text (modes.Gap places.LineStart) 1 before token rest e in
    record { front = c.front; following = c.following; parts = c.parts; tokens = c.tokens }
