-- The last line of a text.
use Rattle.std.proofs.Common.{rules, ◌≡◌, ℕ, zero, suc, ◌+◌, ◌<◌, ◌≤◌, ◌^◌, true, false, not, ◌&&◌, eqb, inl, inr, List, [], ◌∷◌, ◌++◌, length, take, drop, Option, Some, None, refl, sym, ap, subst, ◌∙◌, arith, append_assoc, length-append}
use Rattle.std.specs.Prelude.{codes, decimal}
use Rattle.std.specs.Char.{is_digit}
use Rattle.std.specs.List.{list_all}
use Rattle.std.proofs.lemmas.Fmt.{decimal_is_IsNumeral}
use Rattle.fmp_bytes.proofs.Spelled.{list_all-digits}
use Rattle.std.proofs.lemmas.Bool.{false≢true, cases_Bool, lt-ltb}
use Rattle.std.proofs.lemmas.List.{take-append-drop, drop-append-le, length-take-le}
use Rattle.std.proofs.lemmas.List.Folds.{list_all-append}
use Rattle.std.proofs.Math.Seq.{drop-append_seam}
use Rattle.memchr.specs.Find.{Nowhere, Passes, is_byte}
use Rattle.fmp_bytes.proofs.Spelled.{number_of-spelled}
use Rattle.fmp_trace.specs.Prints.{IsUnended}
use Rattle.fmp_trace.proofs.Bytes.{other_than}
use Rattle.fmp_run_partial.specs.Endings.{AreLines, number_in}

-- where no byte from a place on is a line feed
none_from : (text : List ℕ) (i : ℕ) → Nowhere (Passes (is_byte 10) text) i (length text) → IsUnended (drop i text)
none_from [] zero none = refl
none_from [] (suc i) none = refl
none_from (b ∷ text) (suc i) none = none_from text i (λ k low high found. none (suc k) (omega (arith, low)) (omega (arith, high)) found)
none_from (b ∷ text) zero none =
    elim (cases_Bool (eqb b 10)) [
      | inl is ↦ absurd (none zero (omega arith) (omega arith) is)
      | inr other ↦ let rest = none_from text zero (λ k low high found. none (suc k) (omega arith) (omega (arith, high)) found) in rw other rest
    ]

pub none_after : (text : List ℕ) (i : ℕ) → Nowhere (Passes (is_byte 10) text) i (length text) → IsUnended (drop i text)
none_after = none_from

-- a text with a line feed in it
has_one : (front rest : List ℕ) → IsUnended (front ++ 10 ∷ rest) → ⊥
has_one front rest unended =
    elim (cases_Bool (list_all (λ b. not (eqb b 10)) front)) [
      | inl t ↦ false≢true (sym (list_all-append (λ b. not (eqb b 10)) front (10 ∷ rest) ∙ ap (λ x. x && false) t) ∙ unended)
      | inr f ↦ false≢true (sym (list_all-append (λ b. not (eqb b 10)) front (10 ∷ rest) ∙ ap (λ x. x && false) f) ∙ unended)
    ]

-- no line feed stands from a place on that is in the lines before
not_before : (body line : List ℕ) (s : ℕ) → AreLines body → s < length body → IsUnended (drop s (body ++ line)) → ⊥
not_before body line s (inl empty) low unended = let none : length body ≡ 0 = ap length empty in omega (arith, low, none)
not_before body line s (inr (front, is)) low unended =
    let long : length body ≡ length front + 1 = ap length is ∙ length-append front (10 ∷ []) in
    let parts : drop s (body ++ line) ≡ drop s front ++ 10 ∷ line =
    ap (λ (xs : List ℕ). drop s (xs ++ line)) is ∙ ap (drop s) (append_assoc front (10 ∷ []) line) ∙ drop-append-le s front (10 ∷ line) (omega (arith, low, long)) in
    has_one (drop s front) line (rw parts at unended)

-- so a text is lines and a line without a line feed in one way
pub one_start : (text body line : List ℕ) (s : ℕ) → s ≤ length text → AreLines (take s text) → IsUnended (drop s text) → text ≡ body ++ line → AreLines body → IsUnended line → drop s text ≡ line
one_start text body line s within before unended parts lines line_unended =
    let split : take s text ++ drop s text ≡ text = take-append-drop s text in
    let long : length (take s text) ≡ s = length-take-le s text within in
    let low : s < length body → ⊥ = λ lt. not_before body line s lines lt (subst (λ (xs : List ℕ). IsUnended (drop s xs)) parts unended) in
    let whole : take s text ++ drop s text ≡ body ++ line = split ∙ parts in
    let cut : drop (length body) (take s text ++ drop s text) ≡ line = ap (drop (length body)) whole ∙ drop-append_seam body line in
    let high : length body < s → ⊥ = λ lt. not_before (take s text) (drop s text) (length body) before (omega (arith, lt, long)) (rw cut line_unended) in
    let same : s ≡ length body = omega (arith, low, high) in
    ap (λ (k : ℕ). drop k text) same ∙ ap (drop (length body)) parts ∙ drop-append_seam body line

pub number_after : (digits : List ℕ) (n : ℕ) → n < 2 ^ 32 → digits ≡ decimal n → number_in digits ≡ Some n
unfolding number_in
number_after digits n small is =
    let read = number_of-spelled digits false n (omega (arith, small), inl is) in
    let test = lt-ltb n (2 ^ 32) small in
    rw (read, test) refl

-- a byte that is no digit is in no number
pub digits_are_other : (c n : ℕ) → is_digit c 10 ≡ false → n < 2 ^ 32 → list_all (λ b. not (eqb b c)) (decimal n) ≡ true
digits_are_other c n out small =
    let numeral = decimal_is_IsNumeral n (omega (arith, small)) in
    other_than (λ b. is_digit b 10) c out (decimal n) (list_all-digits 10 (decimal n) numeral.0.1)

pub unended : (n : ℕ) → n < 2 ^ 32 → IsUnended (codes "ends " ++ decimal n)
unended n small = digits_are_other 10 n refl small

pub some_not_none : (n : ℕ) → ◌≡◌ {A = Option ℕ} (Some n) None → ⊥
some_not_none n e = absurd (search rules)
