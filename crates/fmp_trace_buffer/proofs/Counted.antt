-- The digits of one number more, where the last digit is no nine.
use Rattle.std.proofs.Common.{◌≡◌, ℕ, ◌+◌, ◌-◌, ◌≤◌, ◌/◌, ◌%◌, ◌<◌, ◌^◌, inl, inr, List, [], ◌∷◌, ◌++◌, length, take, get_or, set, sym, ap, ◌∙◌, arith}
use Rattle.std.specs.Prelude.{decimal}
use Rattle.std.proofs.lemmas.Bool.{cases_lt}
use Rattle.std.proofs.lemmas.Fmt.{decimal_step, decimal_digit}
use Rattle.std.proofs.lemmas.List.{same_from_push, take_more, take_more_set}

-- a number's digits are these and a last one, and those of the next number begin with these too, where the last is no nine
record IsLed (n : ℕ) : Type 0 where
  front : List ℕ
  here : decimal n ≡ front ++ ((48 + n % 10) ∷ [])
  next : n % 10 < 9 → decimal (n + 1) ≡ front ++ ((48 + n % 10 + 1) ∷ [])

one_digit : (n : ℕ) → n < 10 → IsLed n
one_digit n few = record {
  front = [];
  here =
      let same : n ≡ n % 10 = omega (arith, few) in
      decimal_digit n few ∙ ap (λ (d : ℕ). (48 + d) ∷ []) same;
  next = λ less.
      let below : n + 1 < 10 = omega (arith, few, less) in
      let same : 48 + (n + 1) ≡ 48 + n % 10 + 1 = omega (arith, few, less) in
      decimal_digit (n + 1) below ∙ ap (λ (d : ℕ). d ∷ []) same;
}

more_digits : (n : ℕ) → 10 < n + 1 → n + 1 < 2 ^ 64 → IsLed n
more_digits n many small = record {
  front = decimal (n / 10);
  here = decimal_step n (omega (arith, many)) (omega (arith, small));
  next = λ less.
      let led : (n + 1) / 10 ≡ n / 10 = omega (arith, less) in
      let same : 48 + (n + 1) % 10 ≡ 48 + n % 10 + 1 = omega (arith, less) in
      decimal_step (n + 1) (omega (arith, many)) small ∙ ap (λ (m : ℕ). decimal m ++ ((48 + (n + 1) % 10) ∷ [])) led ∙ ap (λ (d : ℕ). decimal (n / 10) ++ (d ∷ [])) same;
}

led : (n : ℕ) → n + 1 < 2 ^ 64 → IsLed n
led n small = elim (cases_lt n 10) [ inl few ↦ one_digit n few | inr many ↦ more_digits n (omega (arith, many)) small ]

-- the digits of one number more: the last one is one more
next_last : (n k d : ℕ) (digits : List ℕ) → n + 1 < 2 ^ 64 → k < length digits → take (k + 1) digits ≡ decimal n → d ≡ get_or digits k 0 → d < 57
    → take (k + 1) (set digits k (d + 1)) ≡ decimal (n + 1)
next_last n k d digits small within digits_of is less =
    let l = led n small in
    let parts = same_from_push (take k digits) l.front (get_or digits k 0) (48 + n % 10) (sym (take_more digits k 0 within) ∙ digits_of ∙ l.here) in
    let last : d ≡ 48 + n % 10 = is ∙ parts.1 in
    take_more_set digits k (d + 1) within
    ∙ ap (λ (front : List ℕ). front ++ ((d + 1) ∷ [])) parts.0 ∙ ap (λ (b : ℕ). l.front ++ ((b + 1) ∷ [])) last
    ∙ sym (l.next (omega (arith, last, less)))

pub next_digits : (n m d : ℕ) (digits : List ℕ) → n + 1 < 2 ^ 64 → 0 < m → m ≤ length digits → take m digits ≡ decimal n → d ≡ get_or digits (m - 1) 0 → d < 57
    → take m (set digits (m - 1) (d + 1)) ≡ decimal (n + 1)
next_digits n m d digits small some within digits_of is less =
    let on : m - 1 + 1 ≡ m = omega (arith, some) in
    let changed = set digits (m - 1) (d + 1) in
    sym (ap (λ (i : ℕ). take i changed) on)
    ∙ next_last n (m - 1) d digits small (omega (arith, some, within)) (ap (λ (i : ℕ). take i digits) on ∙ digits_of) is less
