-- Free fields: what the reader takes is balanced, and what is balanced it takes.
use Rattle.std.proofs.Common.{◌≡◌, ℕ, ◌+◌, ◌-◌, ◌≤◌, ◌<◌, true, false, not, ◌⊎◌, cond, eqb, inl, inr, List, [], ◌∷◌, ◌++◌, length, Some, refl, sym, ap, subst, ◌∙◌, arith}
use Rattle.std.specs.Prelude.{codes}
use Rattle.std.specs.List.{list_all}
use Rattle.std.specs.Str.{bytes_eq}
use Rattle.std.proofs.lemmas.Bool.{cases_Bool, cases_eq, false≢true, eq-eqb, ne_eqb, and_parts, and_from}
use Rattle.std.proofs.lemmas.List.Sums.{sum_by-cons}
use Rattle.std.proofs.Math.Bool.{and-false}
use Rattle.fmp_bytes.specs.Bytes.{is_of}
use Rattle.fmp_bytes.proofs.Parsed.{some_is}
use Rattle.fmp_names.specs.Names.{times}
use Rattle.fmp_config_statements.specs.declared.parts.Scan.{Scan}
use Rattle.fmp_config_statements.specs.declared.parts.Scan.TheVariants.{Free}
use Rattle.fmp_config_statements.specs.Parts.{is_barred, is_stop, next_free}
use Rattle.fmp_config_statements.specs.Words.{is_one, is_mark, is_symbol_kind}
use Rattle.fmp_law_config.specs.Tokens.{Glyph}
use Rattle.fmp_law_config.specs.Elements.{symbol}
use Rattle.fmp_law_config.specs.Phrases.{texts, may_be_free, IsFree}
use Rattle.fmp_law_config.proofs.Results.{none_is}
use Rattle.fmp_law_config.proofs.Glyphs.{lexeme, is_glyph, cases_mark, lone_glyph, is_barred-is}

abbrev pub opens : List Glyph → ℕ
opens tokens = times (codes "(") (texts tokens)

abbrev pub closes : List Glyph → ℕ
closes tokens = times (codes ")") (texts tokens)

-- balanced in so many parentheses that are open before
pub record Nested (depth : ℕ) (tokens : List Glyph) : Type 0 where
  pub allowed : list_all may_be_free tokens ≡ true
  pub prefixes : (prefix rest : List Glyph) → tokens ≡ prefix ++ rest → closes prefix ≤ depth + opens prefix
  pub balanced : depth + opens tokens ≡ closes tokens
  pub commas : (prefix rest : List Glyph) → tokens ≡ prefix ++ (symbol 44 ∷ rest) → closes prefix < depth + opens prefix

pub nested : (tokens : List Glyph) → IsFree tokens → Nested 0 tokens
nested tokens s = record {
  allowed = s.allowed;
  prefixes = λ prefix rest e. let h = s.prefixes prefix rest e in omega (arith, h);
  balanced = let h = s.balanced in omega (arith, h);
  commas = λ prefix rest e. let h = s.commas prefix rest e in omega (arith, h);
}

pub free : (tokens : List Glyph) → 1 ≤ length tokens → Nested 0 tokens → IsFree tokens
free tokens some s = record {
  some = some;
  allowed = s.allowed;
  prefixes = λ prefix rest e. let h = s.prefixes prefix rest e in omega (arith, h);
  balanced = let h = s.balanced in omega (arith, h);
  commas = λ prefix rest e. let h = s.commas prefix rest e in omega (arith, h);
}

-- how a token changes the depth
pub record Turns (token : Glyph) (opened closed : ℕ) : Type 0 where
  pub open_count : (tokens : List Glyph) → opens (token ∷ tokens) ≡ opened + opens tokens
  pub close_count : (tokens : List Glyph) → closes (token ∷ tokens) ≡ closed + closes tokens

turns : (token : Glyph) → Turns token (cond (bytes_eq (codes "(") token.text) 1 0) (cond (bytes_eq (codes ")") token.text) 1 0)
turns token = record {
  open_count = λ tokens. sum_by-cons (λ other. cond (bytes_eq (codes "(") other) 1 0) token.text (texts tokens);
  close_count = λ tokens. sum_by-cons (λ other. cond (bytes_eq (codes ")") other) 1 0) token.text (texts tokens);
}

-- ---- one token

module _ (depth following opened closed : ℕ) (token : Glyph) (tokens : List Glyph) (turn : Turns token opened closed) (moves : following + closed ≡ depth + opened) where
  -- what follows the token is balanced after it
  pub nested_after : Nested depth (token ∷ tokens) → Nested following tokens
  nested_after s = record {
    allowed = (and_parts (may_be_free token) (list_all may_be_free tokens) s.allowed).1;
    prefixes = λ prefix rest e. let h = s.prefixes (token ∷ prefix) rest (ap (λ (ts : List Glyph). token ∷ ts) e) in omega (arith, h, turn.open_count prefix, turn.close_count prefix, moves);
    balanced = let h = s.balanced in omega (arith, h, turn.open_count tokens, turn.close_count tokens, moves);
    commas = λ prefix rest e. let h = s.commas (token ∷ prefix) rest (ap (λ (ts : List Glyph). token ∷ ts) e) in omega (arith, h, turn.open_count prefix, turn.close_count prefix, moves);
  }

  prefixes_before : Nested following tokens → (prefix rest : List Glyph) → token ∷ tokens ≡ prefix ++ rest → closes prefix ≤ depth + opens prefix
  prefixes_before s [] rest e = omega arith
  prefixes_before s (t ∷ prefix) rest e =
      let same : token ≡ t = cc in
      let others : tokens ≡ prefix ++ rest = cc in
      let h = s.prefixes prefix rest others in
      rw (← same) (omega (arith, h, turn.open_count prefix, turn.close_count prefix, moves))

  commas_before : Nested following tokens → (token ≡ symbol 44 → 1 ≤ depth) → (prefix rest : List Glyph) → token ∷ tokens ≡ prefix ++ (symbol 44 ∷ rest) → closes prefix < depth + opens prefix
  commas_before s inside [] rest e = let same : token ≡ symbol 44 = cc in let h = inside same in omega (arith, h)
  commas_before s inside (t ∷ prefix) rest e =
      let same : token ≡ t = cc in
      let others : tokens ≡ prefix ++ (symbol 44 ∷ rest) = cc in
      let h = s.commas prefix rest others in
      rw (← same) (omega (arith, h, turn.open_count prefix, turn.close_count prefix, moves))

  -- and before it
  pub nested_before : may_be_free token ≡ true → (token ≡ symbol 44 → 1 ≤ depth) → Nested following tokens → Nested depth (token ∷ tokens)
  nested_before allowed inside s = record {
    allowed = and_from (may_be_free token) (list_all may_be_free tokens) allowed s.allowed;
    prefixes = prefixes_before s;
    balanced = let h = s.balanced in omega (arith, h, turn.open_count tokens, turn.close_count tokens, moves);
    commas = commas_before s inside;
  }

-- ---- what the reader does at a token

pub record Plain (token : Glyph) : Type 0 where
  pub not_open : is_mark 40 (lexeme token 0) ≡ false
  pub not_close : is_mark 41 (lexeme token 0) ≡ false
  pub not_comma : is_mark 44 (lexeme token 0) ≡ false
  pub turn : Turns token 0 0
  pub other : token ≡ symbol 44 → ⊥

abbrev pub Sort : Glyph → Type 0
Sort token = (token ≡ symbol 40) ⊎ ((token ≡ symbol 41) ⊎ ((token ≡ symbol 44) ⊎ Plain token))

no_mark : (byte : ℕ) (token : Glyph) → is_one byte token.text ≡ false → is_mark byte (lexeme token 0) ≡ false
no_mark byte token e = rw e (and-false (is_symbol_kind token.kind))

sort : (token : Glyph) → is_glyph token ≡ true → Sort token
unfolding is_of
sort token is =
    elim (cases_mark 40 token.text) [
      | inl e ↦ inl (lone_glyph 40 token is e refl refl)
      | inr a ↦ elim (cases_mark 41 token.text) [
        | inl e ↦ inr (inl (lone_glyph 41 token is e refl refl))
        | inr b ↦ elim (cases_mark 44 token.text) [
          | inl e ↦ inr (inr (inl (lone_glyph 44 token is e refl refl)))
          | inr c ↦
              let x = a.1 in let y = b.1 in
              let turn : Turns token 0 0 = rw (x, y) at (turns token) in
              inr (inr (inr (record {
                not_open = no_mark 40 token a.0;
                not_close = no_mark 41 token b.0;
                not_comma = no_mark 44 token c.0;
                turn = turn;
                other = λ e. false≢true (sym c.0 ∙ ap (λ (g : Glyph). is_one 44 g.text) e);
              })))
        ]
      ]
    ]

-- the reader goes on at this depth, after which the rest is balanced
abbrev pub Steps : ℕ → Glyph → ℕ → List Glyph → Type 0
Steps depth token line tokens = (following : ℕ) × (next_free depth (lexeme token line) ≡ Some (Free following true)) × Nested following tokens

module _ (depth : ℕ) (line : ℕ) (tokens : List Glyph) where
  open_steps : Nested depth (symbol 40 ∷ tokens) → Steps depth (symbol 40) line tokens
  unfolding next_free is_barred is_stop is_of
  open_steps s = let none = and-false (eqb depth 0) in (depth + 1, rw none refl, nested_after depth (depth + 1) 1 0 (symbol 40) tokens (turns (symbol 40)) (omega arith) s)

  close_steps : Nested depth (symbol 41 ∷ tokens) → Steps depth (symbol 41) line tokens
  unfolding next_free is_barred is_stop is_of
  close_steps s =
      let some : 1 ≤ depth = (let h = s.prefixes (symbol 41 ∷ []) tokens refl in omega (arith, h, (turns (symbol 41)).open_count [], (turns (symbol 41)).close_count [])) in
      let test : eqb depth 0 ≡ false = ne_eqb depth 0 (λ e. omega (arith, e, some)) in
      (depth - 1, rw test refl, nested_after depth (depth - 1) 0 1 (symbol 41) tokens (turns (symbol 41)) (omega (arith, some)) s)

  comma_steps : Nested depth (symbol 44 ∷ tokens) → Steps depth (symbol 44) line tokens
  unfolding next_free is_barred is_stop is_of
  comma_steps s =
      let some : 1 ≤ depth = (let h = s.commas [] tokens refl in omega (arith, h)) in
      let test : eqb depth 0 ≡ false = ne_eqb depth 0 (λ e. omega (arith, e, some)) in
      (depth, rw test refl, nested_after depth depth 0 0 (symbol 44) tokens (turns (symbol 44)) (omega arith) s)

  plain_steps : (token : Glyph) → is_glyph token ≡ true → Plain token → Nested depth (token ∷ tokens) → Steps depth token line tokens
  unfolding next_free is_stop
  plain_steps token is plain s =
      let none = and-false (eqb depth 0) in
      let allowed = (and_parts (may_be_free token) (list_all may_be_free tokens) s.allowed).0 in
      let barred : is_barred (lexeme token line) ≡ false = is_barred-is token line is ∙ ap not allowed in
      let a = plain.not_open in let b = plain.not_close in let c = plain.not_comma in
      (depth, rw (barred, c, b, none, a) refl, nested_after depth depth 0 0 token tokens plain.turn (omega arith) s)

  pub steps : (token : Glyph) → is_glyph token ≡ true → Nested depth (token ∷ tokens) → Steps depth token line tokens
  steps token is s =
      elim (sort token is) [
        | inl e ↦ subst (λ (t : Glyph). Nested depth (t ∷ tokens) → Steps depth t line tokens) (sym e) open_steps s
        | inr (inl e) ↦ subst (λ (t : Glyph). Nested depth (t ∷ tokens) → Steps depth t line tokens) (sym e) close_steps s
        | inr (inr (inl e)) ↦ subst (λ (t : Glyph). Nested depth (t ∷ tokens) → Steps depth t line tokens) (sym e) comma_steps s
        | inr (inr (inr plain)) ↦ plain_steps token is plain s
      ]

-- where the reader goes on, what is balanced after the token is balanced with it
abbrev pub Stepped : ℕ → Glyph → Scan → Type 0
Stepped depth token next = (following : ℕ) × (next ≡ Free following true) × ((tokens : List Glyph) → Nested following tokens → Nested depth (token ∷ tokens))

abbrev pub GoesOn : ℕ → Glyph → ℕ → Scan → Type 0
GoesOn depth token line next = next_free depth (lexeme token line) ≡ Some next → Stepped depth token next

differ : (a b : ℕ) (c : symbol a ≡ symbol b) → eqb a b ≡ false → ⊥
differ a b c none = let texts_are = ap (λ (g : Glyph). g.text) c in let same : a ≡ b = cc in false≢true (sym none ∙ eq-eqb a b same)

module _ (depth : ℕ) (line : ℕ) (next : Scan) where
  open_stepped : GoesOn depth (symbol 40) line next
  unfolding next_free is_barred is_stop is_of
  open_stepped e =
      let none = and-false (eqb depth 0) in
      let e2 = rw none at e in
      let same : Free (depth + 1) true ≡ next = some_is _ next e2 in
      (depth + 1, sym same, λ tokens s. nested_before depth (depth + 1) 1 0 (symbol 40) tokens (turns (symbol 40)) (omega arith) refl (λ comma. absurd (differ 40 44 comma refl)) s)

  close_stepped : GoesOn depth (symbol 41) line next
  unfolding next_free is_barred is_stop is_of
  close_stepped e =
      elim (cases_Bool (eqb depth 0)) [
        | inl t ↦ let e2 = rw t at e in absurd (none_is next e2)
        | inr f ↦
            let e2 = rw f at e in
            let same : Free (depth - 1) true ≡ next = some_is _ next e2 in
            let some : 1 ≤ depth = (elim (cases_eq depth 0) [ inl z ↦ absurd (false≢true (sym f ∙ eq-eqb depth 0 z)) | inr more ↦ omega (arith, more) ]) in
            (depth - 1, sym same, λ tokens s. nested_before depth (depth - 1) 0 1 (symbol 41) tokens (turns (symbol 41)) (omega (arith, some)) refl (λ comma. absurd (differ 41 44 comma refl)) s)
      ]

  comma_stepped : GoesOn depth (symbol 44) line next
  unfolding next_free is_barred is_stop is_of
  comma_stepped e =
      elim (cases_Bool (eqb depth 0)) [
        | inl t ↦ let e2 = rw t at e in absurd (none_is next e2)
        | inr f ↦
            let e2 = rw f at e in
            let same : Free depth true ≡ next = some_is _ next e2 in
            let some : 1 ≤ depth = (elim (cases_eq depth 0) [ inl z ↦ absurd (false≢true (sym f ∙ eq-eqb depth 0 z)) | inr more ↦ omega (arith, more) ]) in
            (depth, sym same, λ tokens s. nested_before depth depth 0 0 (symbol 44) tokens (turns (symbol 44)) (omega arith) refl (λ c. some) s)
      ]

  plain_stepped : (token : Glyph) → is_glyph token ≡ true → Plain token → GoesOn depth token line next
  unfolding next_free is_stop
  plain_stepped token is plain e =
      let none = and-false (eqb depth 0) in
      let a = plain.not_open in let b = plain.not_close in let c = plain.not_comma in
      elim (cases_Bool (may_be_free token)) [
        | inl t ↦
            let barred : is_barred (lexeme token line) ≡ false = is_barred-is token line is ∙ ap not t in
            let e2 = rw (barred, c, b, none, a) at e in
            let same : Free depth true ≡ next = some_is _ next e2 in
            (depth, sym same, λ tokens s. nested_before depth depth 0 0 token tokens plain.turn (omega arith) t (λ comma. absurd (plain.other comma)) s)
        | inr f ↦
            let barred : is_barred (lexeme token line) ≡ true = is_barred-is token line is ∙ ap not f in
            let e2 = rw barred at e in absurd (none_is next e2)
      ]

  pub stepped : (token : Glyph) → is_glyph token ≡ true → GoesOn depth token line next
  stepped token is =
      elim (sort token is) [
        | inl e ↦ subst (λ (t : Glyph). GoesOn depth t line next) (sym e) open_stepped
        | inr (inl e) ↦ subst (λ (t : Glyph). GoesOn depth t line next) (sym e) close_stepped
        | inr (inr (inl e)) ↦ subst (λ (t : Glyph). GoesOn depth t line next) (sym e) comma_stepped
        | inr (inr (inr plain)) ↦ plain_stepped token is plain
      ]
