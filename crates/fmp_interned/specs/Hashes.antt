-- A number made of others, in their order, or of one.
use Rattle.std.specs.Prelude.{ℕ, ◌*◌, ◌/◌, ◌%◌, ◌^◌, List, [], ◌∷◌, bit_xor}

-- one number more
unfoldable pub mixed : ℕ → ℕ → ℕ
mixed sum word =
    let product = bit_xor sum word * 5871781006564002453 % 2 ^ 64 in
    bit_xor product (product / 2 ^ 32)

abbrev pub mixed_all : List ℕ → ℕ → ℕ
mixed_all [] sum = sum
mixed_all (word ∷ words) sum = mixed_all words (mixed sum word)

unfoldable pub hash_of : List ℕ → ℕ
hash_of words = mixed_all words 11400714819323198485

unfoldable pub hash_of_number : ℕ → ℕ
hash_of_number number = number * 11400714819323198485 % 2 ^ 64 / 2 ^ 32
