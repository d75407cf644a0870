-- What was begun of two pieces was begun of both together.
use Rattle.std.proofs.Common.{◌≡◌, ℕ, ◌+◌, List, ◌++◌, length, take, refl, sym, ap, ◌∙◌, inl, inr, arith, append_assoc}
use Rattle.std.proofs.lemmas.Bool.{cases_lt}
use Rattle.std.proofs.lemmas.List.{take_all, take_at, take-append-le}
use Rattle.std.proofs.Math.Seq.{take-append-add}
use Rattle.fmp_run_devices.specs.Devices.{BeginsWith}

pub begun_first : (old first second new : List ℕ) → BeginsWith old first new → BeginsWith old (first ++ second) new
begun_first old first second new (n, e) =
    elim (cases_lt n (length first)) [
      | inl lt ↦ (n, e ∙ ap (λ (bytes : List ℕ). old ++ bytes) (sym (take-append-le n first second (omega arith))))
      | inr le ↦ (length first, e ∙ ap (λ (bytes : List ℕ). old ++ bytes) (take_all n first le ∙ sym (take_at first second (length first) refl)))
    ]

pub begun_second : (old first second between new : List ℕ) → between ≡ old ++ first → BeginsWith between second new → BeginsWith old (first ++ second) new
begun_second old first second between new whole (n, e) =
    (length first + n, e ∙ ap (λ (bytes : List ℕ). bytes ++ take n second) whole ∙ append_assoc old first (take n second) ∙ ap (λ (bytes : List ℕ). old ++ bytes) (sym (take-append-add first second n)))
