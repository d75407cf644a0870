use Rattle.std.proofs.Common.{◌≡◌, ℕ, Option, Some, ap, sym, ◌∙◌, drop, decimal}
use Rattle.std.proofs.lemmas.Bool.{false≢true}
use Rattle.std.proofs.lemmas.Slice.Eq.{bytes_eq-Decides}
use Rattle.fmp_run_partial.proofs.Lasts.{number_after, some_not_none}
use Rattle.fmp_run_partial.proofs.ending.log_line.Goals as goal

pub returns-in_err-number-clause-none : goal.returns-in_err-number-clause-none
returns-in_err-number-clause-none c = λ is n small e.
    let digits : c.in_ok-digits.digits.now ≡ decimal n = c.in_ok-digits.ensures.cases.1 ∙ rw c.as_slice.ensures (ap (drop 5) e) in
    some_not_none n (sym (number_after c.in_ok-digits.digits.now n small digits) ∙ sym c.number_in.ensures ∙ c.in_err-number.was)

pub returns-else-eq-clause-none : goal.returns-else-eq-clause-none
returns-else-eq-clause-none c = λ is n small e.
    let digits : c.in_ok-digits.digits.now ≡ decimal n = c.in_ok-digits.ensures.cases.1 ∙ rw c.as_slice.ensures (ap (drop 5) e) in
    let read : ◌≡◌ {A = Option ℕ} (Some c.in_ok-number.number) (Some n) = sym c.in_ok-number.was ∙ c.number_in.ensures ∙ number_after c.in_ok-digits.digits.now n small digits in
    let number : c.in_ok-number.number ≡ n = cc in
    let text : c.as_bytes.result.now ≡ c.in_ok-digits.digits.now = c.as_bytes.ensures.value ∙ c.format.ensures.text ∙ ap decimal number ∙ sym digits in
    false≢true (sym c.if-eq.false ∙ c.eq.ensures ∙ (bytes_eq-Decides c.as_bytes.result.now c.in_ok-digits.digits.now).1 text)
