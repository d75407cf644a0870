-- Numbers in two halves.
use Rattle.std.proofs.Common.{◌≡◌, ◌∙◌, ℕ, ◌+◌, ◌*◌, ◌/◌, ◌%◌, ◌^◌, ap, sym}
use Rattle.std.proofs.Math.Nat.{mod-add-div'}

-- a number is known by its halves
pub halves_same : (m n : ℕ) → m / 2 ^ 32 ≡ n / 2 ^ 32 → m % 2 ^ 32 ≡ n % 2 ^ 32 → m ≡ n
halves_same m n upper lower =
    sym (mod-add-div' m (2 ^ 32)) ∙ ap (λ k. k + m / 2 ^ 32 * 2 ^ 32) lower ∙ ap (λ k. n % 2 ^ 32 + k * 2 ^ 32) upper ∙ mod-add-div' n (2 ^ 32)
