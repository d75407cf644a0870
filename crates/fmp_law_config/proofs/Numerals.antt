-- Numbers: what is read is spelled, and what is spelled is read.
use Rattle.std.proofs.Common.{◌≡◌, ℕ, ◌-◌, ◌^◌, ◌≤◌, ◌<◌, Bool, true, false, eqb, cond, inl, inr, List, [], ◌∷◌, Option, Some, None, Ok, unwrap_or, leb, refl, sym, ap, ◌∙◌, arith, length}
use Rattle.std.specs.Option.{option_or}
use Rattle.std.proofs.lemmas.Bool.{and_parts, leb-true, le-leb, false≢true}
use Rattle.fmp_bytes.specs.Bytes.{following, is_identifier}
use Rattle.fmp_bytes.specs.Numerals.{number_of, unsigned_of, hexadecimal_of}
use Rattle.fmp_bytes.specs.Spelling.{SpellsUnsigned, SpellsNumber as SpellsSigned}
use Rattle.fmp_bytes.proofs.Spelled.{number_of-spelled, number_of-identifier, number_is_spelled}
use Rattle.fmp_bytes.proofs.Parsed.{and_then_parts, ok_or_parts, tested_ok, some_is, bind_parts}
use Rattle.fmp_names.specs.Names.{NameLists, is_name, number_defined}
use Rattle.fmp_config_statements.specs.declared.fault.ConfigKind.TheVariants.{OutOfRange}
use Rattle.fmp_config_statements.specs.declared.table.Range.{Range}
use Rattle.fmp_config_statements.specs.Faults.{fault_at}
use Rattle.fmp_config_statements.specs.Numbers.{numeral}
use Rattle.fmp_config_statements.specs.Words.{Word}
use Rattle.fmp_config.specs.Numbers.{value_of, value_at, is_within, number_within, number_at}
use Rattle.fmp_law_config.specs.Stages.{SpellsNumber, SaysNumber}
use Rattle.fmp_law_config.proofs.Results.{none_is, ok_is}

-- a `-` and more
abbrev pub is_signed : List ℕ → Bool
is_signed [] = false
is_signed (a ∷ []) = false
is_signed (a ∷ b ∷ bytes) = eqb a 45

-- less than any numeral that counts as less than it is
abbrev pub most_numeral : ℕ
most_numeral = 2 ^ 64 - 1

-- ---- numerals

pub numeral-spelled : (text : List ℕ) (n : ℕ) → SpellsUnsigned text n → numeral text ≡ Some n
unfolding numeral
numeral-spelled text n s = rw (number_of-spelled text false n s) refl

nothing : numeral [] ≡ None
unfolding numeral number_of following unsigned_of hexadecimal_of
nothing = refl

-- no numeral has no bytes
pub no_bytes : (text : List ℕ) (n : ℕ) → SpellsUnsigned text n → text ≡ [] → ⊥
no_bytes text n s e = none_is n (sym nothing ∙ ap numeral (sym e) ∙ numeral-spelled text n s)

some_bytes : (text unsigned : List ℕ) (n : ℕ) → text ≡ 45 ∷ unsigned → SpellsUnsigned unsigned n → is_signed text ≡ true
some_bytes text [] n e s = absurd (no_bytes [] n s refl)
some_bytes text (b ∷ bytes) n e s = ap is_signed e

unsigned_spelled : (text : List ℕ) (negative : Bool) (n : ℕ) → SpellsSigned text negative n → is_signed text ≡ false → SpellsUnsigned text n
unsigned_spelled text true n s plus = absurd (false≢true (sym plus ∙ some_bytes text s.0 n s.1 s.2))
unsigned_spelled text false n s plus = s

not_led : (led : Bool) (m : Option ℕ) (most n : ℕ) → cond led None (Some (unwrap_or m most)) ≡ Some n → n < most → (led ≡ false) × (m ≡ Some n)
not_led true m most n e less = absurd (none_is n e)
not_led false None most n e less = absurd (let same = some_is most n e in omega (arith, same, less))
not_led false (Some m) most n e less = (refl, e)

pub numeral_is_spelled : (text : List ℕ) (n : ℕ) → is_signed text ≡ false → numeral text ≡ Some n → n < most_numeral → SpellsUnsigned text n
unfolding numeral
numeral_is_spelled text n plus e less =
    let p = and_then_parts (number_of text) (λ r. cond r.zero_led None (Some (unwrap_or r.magnitude most_numeral))) n e in
    let q = not_led p.0.zero_led p.0.magnitude most_numeral n p.2 less in
    unsigned_spelled text p.0.negative n (number_is_spelled text p.0 n p.1 q.0 q.1) plus

-- ---- words

no_numeral : (text : List ℕ) → is_name text ≡ true → numeral text ≡ None
unfolding is_name numeral
no_numeral text is = let none = number_of-identifier text (and_parts (is_identifier text) (leb (length text) 64) is).0 in rw none refl

-- what stands for a number is a name
abbrev pub AreNames : NameLists → Type 0
AreNames names = (word : List ℕ) (n : ℕ) → number_defined names word ≡ Some n → is_name word ≡ true

pub name_some : (text : List ℕ) → is_name text ≡ true → text ≡ [] → ⊥
unfolding is_name
name_some text is e = false≢true (ap is_name (sym e) ∙ is)

pub number_some : (names : NameLists) (text : List ℕ) (n : ℕ) → SpellsNumber names text n → text ≡ [] → ⊥
number_some names text n s =
    elim s [
      | inl u ↦ no_bytes text n u
      | inr d ↦ name_some text d.0
    ]

module _ (names : NameLists) where
  value_of-spelled : (text : List ℕ) (n : ℕ) → SpellsNumber names text n → value_of names text ≡ Some n
  unfolding value_of
  value_of-spelled text n s =
      elim s [
        | inl u ↦ let read = numeral-spelled text n u in rw read refl
        | inr d ↦ let none = no_numeral text d.0 in let found = d.1 in rw (none, found) refl
      ]

  value_was_spelled : AreNames names → (text : List ℕ) (n : ℕ) (m : Option ℕ) → numeral text ≡ m → option_or m (number_defined names text) ≡ Some n → is_signed text ≡ false → n < most_numeral → SpellsNumber names text n
  value_was_spelled named text n None none e plus less = inr (named text n e, e)
  value_was_spelled named text n (Some m) some e plus less = inl (numeral_is_spelled text n plus (some ∙ e) less)

  value_is_spelled : AreNames names → (text : List ℕ) (n : ℕ) → value_of names text ≡ Some n → is_signed text ≡ false → n < most_numeral → SpellsNumber names text n
  unfolding value_of
  value_is_spelled named text n e plus less = value_was_spelled named text n (numeral text) refl e plus less

  pub value_at-spelled : (word : Word) (n : ℕ) → SpellsNumber names word.text n → value_at names word ≡ Ok n
  unfolding value_at
  value_at-spelled word n s = let read = value_of-spelled word.text n s in rw read refl

  pub value_at_is_spelled : AreNames names → (word : Word) (n : ℕ) → value_at names word ≡ Ok n → is_signed word.text ≡ false → n < most_numeral → SpellsNumber names word.text n
  unfolding value_at
  value_at_is_spelled named word n e plus less = value_is_spelled named word.text n (ok_or_parts (value_of names word.text) (fault_at OutOfRange word) n e) plus less

  -- ---- numbers of a range

  pub number_within-spelled : (range : Range) (word : Word) (n : ℕ) → SpellsNumber names word.text n → range.least ≤ n → n ≤ range.most → number_within names range word ≡ Ok n
  unfolding number_within
  number_within-spelled range word n s low high =
      let read = value_at-spelled word n s in
      let a = le-leb range.least n low in
      let b = le-leb n range.most high in
      rw read (rw (a, b) refl)

  pub number_within_parts : (range : Range) (word : Word) (n : ℕ) → number_within names range word ≡ Ok n → (value_at names word ≡ Ok n) × (range.least ≤ n) × (n ≤ range.most)
  unfolding number_within
  number_within_parts range word n e =
      let p = bind_parts (value_at names word) _ n e in
      let q = tested_ok (is_within range p.0) (Ok p.0) (fault_at OutOfRange word) n p.2 in
      let same : p.0 ≡ n = ok_is p.0 n q.1 in
      let tests = and_parts (leb range.least p.0) (leb p.0 range.most) q.0 in
      let low = leb-true range.least p.0 tests.0 in
      let high = leb-true p.0 range.most tests.1 in
      (p.1 ∙ ap (λ (x : ℕ). Ok x) same, omega (arith, low, same), omega (arith, high, same))

  pub number_at-spelled : (range : Option Range) (word : Word) (n : ℕ) → SaysNumber names range word.text n → number_at names range word ≡ Ok n
  unfolding number_at
  number_at-spelled None word n s = ap (λ (x : ℕ). Ok x) (sym s)
  number_at-spelled (Some range) word n s = number_within-spelled range word n s.0 s.1 s.2

  pub number_at_is_spelled : AreNames names → (range : Option Range) (word : Word) (n : ℕ) → number_at names range word ≡ Ok n → is_signed word.text ≡ false → n < most_numeral → SaysNumber names range word.text n
  unfolding number_at
  number_at_is_spelled named None word n e plus less = sym (ok_is 0 n e)
  number_at_is_spelled named (Some range) word n e plus less =
      let p = number_within_parts range word n e in
      (value_at_is_spelled named word n p.0 plus less, p.1, p.2)
