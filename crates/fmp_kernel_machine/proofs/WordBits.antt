-- What the bits of a word say of the ready tasks.
use Rattle.std.proofs.Common.{◌≡◌, ◌≤◌, ◌<◌, ℕ, ◌+◌, ◌*◌, ◌/◌, ◌^◌, List, [], ◌∷◌, not, false, nat_eq, arith, refl, sym, subst, ◌∙◌}
use Rattle.std.proofs.Math.Nat.{lt-div-mul-add}
use Rattle.std.proofs.lemmas.Nat.{pow_pos}
use Rattle.std.proofs.lemmas.Nat.Bits.{bit_at_above}
use Rattle.std.specs.Int.{bit_at}
use Rattle.fmp_codes.specs.declared.numbers.Task.{Task}
use Rattle.fmp_ready.specs.Queues.{bit_of}

no_bit : (ts : List Task) → bit_of ts ≡ 0 → ts ≡ []
no_bit [] none = refl
no_bit (t ∷ ts) none = cc

below : (word n : ℕ) → word / 2 ^ n ≡ 0 → word < 2 ^ n
below word n over = let lt = subst (λ x. word < x * 2 ^ n + 2 ^ n) over (lt-div-mul-add (pow_pos n)) in omega (arith, lt)

none_left : (n : ℕ) → not (nat_eq n 0) ≡ false → n ≡ 0
none_left n h = search (arith, h)

-- where a word has no bit from a place on, no list of a later bit has tasks
pub none_over : (word n i : ℕ) (ts : List Task) → not (nat_eq (word / 2 ^ n) 0) ≡ false → n ≤ i → bit_at word i ≡ bit_of ts → ts ≡ []
none_over word n i ts over later is = no_bit ts (sym is ∙ bit_at_above word n i (below word n (none_left _ over)) later)
