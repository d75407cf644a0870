-- Lists of numbers that are kept as trees of pairs: each has one key, and is the only one of its length that has it.
use Rattle.std.proofs.Common.{◌≡◌, ◌∙◌, ℕ, ◌<◌, ◌≤◌, ◌/◌, ◌+◌, List, [], ◌∷◌, ◌++◌, drop, length, take, get_or, refl, ap, ap₂, sym, subst, arith}
use Rattle.std.specs.Prelude.{Some, replicate, slice_get, slice_index}
use Rattle.std.proofs.lemmas.Grind.{common_steps}
use Rattle.std.proofs.lemmas.List.{length-drop, length-take-le, take-append-drop}
use Rattle.std.proofs.lemmas.Option.{same_Some, slice_get_within}
use Rattle.fmp_interned.specs.Values.{AreDistinct, IsBeginning}
use Rattle.fmp_interned.specs.Trees.{HasTree, IsTree, fork, leaf}
use Rattle.fmp_interned.proofs.Numbers.{begins_through, number_stays}

-- a tree stays one where pairs are added
pub tree_stays : (pairs more : List (List ℕ)) (xs : List ℕ) (key : ℕ) → IsBeginning pairs more → IsTree pairs xs key → IsTree more xs key
tree_stays pairs more xs key begins (leaf _ _ few is) = leaf xs key few is
tree_stays pairs more xs key begins (fork _ _ left right many is first rest) =
    fork xs key left right many (number_stays pairs more key (left ∷ right ∷ []) begins is) (tree_stays pairs more (take (length xs / 2) xs) left begins first)
    (tree_stays pairs more (drop (length xs / 2) xs) right begins rest)

-- a list has one key, where no two pairs are the same
pub one_tree : (pairs : List (List ℕ)) (xs : List ℕ) (k m : ℕ) → AreDistinct pairs → IsTree pairs xs k → IsTree pairs xs m → k ≡ m
one_tree pairs xs k m distinct (leaf _ _ few is) (leaf _ _ few' is') = is ∙ sym is'
one_tree pairs xs k m distinct (leaf _ _ few is) (fork _ _ left right many is' first rest) = absurd (omega (arith, few, many))
one_tree pairs xs k m distinct (fork _ _ left right many is first rest) (leaf _ _ few is') = absurd (omega (arith, few, many))
one_tree pairs xs k m distinct (fork _ _ left right many is first rest) (fork _ _ left' right' many' is' first' rest') =
    let one : left ≡ left' = one_tree pairs (take (length xs / 2) xs) left left' distinct first first' in
    let other : right ≡ right' = one_tree pairs (drop (length xs / 2) xs) right right' distinct rest rest' in
    distinct k m (left ∷ right ∷ []) is (is' ∙ ap₂ (λ (x y : ℕ). Some (x ∷ y ∷ [])) (sym one) (sym other))

same_pair : (a b x y : ℕ) → Some (a ∷ x ∷ []) ≡ Some (b ∷ y ∷ []) → (a ≡ b) × (x ≡ y)
same_pair a b x y is = (cc, cc)

-- a list of no more than one number is told by it
same_short : (xs ys : List ℕ) → length xs ≡ length ys → length xs < 2 → slice_index xs 0 ≡ slice_index ys 0 → xs ≡ ys
same_short [] [] long few is = refl
same_short [] (y ∷ ys) long few is = absurd (grind (arith, common_steps, long))
same_short (x ∷ xs) [] long few is = absurd (grind (arith, common_steps, long))
same_short (x ∷ []) (y ∷ []) long few is = ap (λ (z : ℕ). z ∷ []) is
same_short (x ∷ []) (y ∷ z ∷ ys) long few is = absurd (grind (arith, common_steps, long))
same_short (x ∷ w ∷ xs) (y ∷ ys) long few is = absurd (grind (arith, common_steps, few))

-- lists of which the first numbers and the rest are the same
same_halves : (n m : ℕ) (xs ys : List ℕ) → take n xs ≡ take m ys → drop n xs ≡ drop m ys → xs ≡ ys
same_halves n m xs ys first rest = sym (take-append-drop n xs) ∙ ap₂ (λ (us vs : List ℕ). us ++ vs) first rest ∙ take-append-drop m ys

first_long : (n m : ℕ) (xs ys : List ℕ) → n ≡ m → length xs ≡ length ys → length (take n xs) ≡ length (take m ys)
first_long n m xs ys same long = grind (arith, common_steps, same, long)

rest_long : (n m : ℕ) (xs ys : List ℕ) → n ≡ m → length xs ≡ length ys → length (drop n xs) ≡ length (drop m ys)
rest_long n m xs ys same long = grind (arith, common_steps, same, long)

-- a key has one list of each length
pub tree_list : (pairs : List (List ℕ)) (xs ys : List ℕ) (key : ℕ) → length xs ≡ length ys → IsTree pairs xs key → IsTree pairs ys key → xs ≡ ys
tree_list pairs xs ys key long (leaf _ _ few is) (leaf _ _ few' is') = same_short xs ys long few (sym is ∙ is')
tree_list pairs xs ys key long (leaf _ _ few is) (fork _ _ left right many is' first rest) = absurd (omega (arith, few, many, long))
tree_list pairs xs ys key long (fork _ _ left right many is first rest) (leaf _ _ few is') = absurd (omega (arith, few, many, long))
tree_list pairs xs ys key long (fork _ _ left right many is first rest) (fork _ _ left' right' many' is' first' rest') =
    let same = same_pair left left' right right' (sym is ∙ is') in
    let half : length xs / 2 ≡ length ys / 2 = ap (λ n. n / 2) long in
    let of_first = tree_list pairs (take (length xs / 2) xs) (take (length ys / 2) ys) left (first_long _ _ xs ys half long) first
    (subst (λ n. IsTree pairs (take (length ys / 2) ys) n) (sym same.0) first') in
    let of_rest = tree_list pairs (drop (length xs / 2) xs) (drop (length ys / 2) ys) right (rest_long _ _ xs ys half long) rest
    (subst (λ n. IsTree pairs (drop (length ys / 2) ys) n) (sym same.1) rest') in
    same_halves (length xs / 2) (length ys / 2) xs ys of_first of_rest

-- the halves of a list that is kept as a tree, of whose key this is the pair
record AreHalves (pairs : List (List ℕ)) (xs pair : List ℕ) : Type 0 where
  first : IsTree pairs (take (length xs / 2) xs) (get_or pair 0 0)
  rest : IsTree pairs (drop (length xs / 2) xs) (get_or pair 1 0)

halves : (pairs : List (List ℕ)) (xs pair : List ℕ) (key : ℕ) → 2 ≤ length xs → slice_get pairs key ≡ Some pair → IsTree pairs xs key → AreHalves pairs xs pair
halves pairs xs pair key many at (leaf _ _ few is) = absurd (omega (arith, few, many))
halves pairs xs pair key many at (fork _ _ left right _ is first rest) =
    subst (λ (p : List ℕ). AreHalves pairs xs p) (same_Some _ _ (sym is ∙ at)) (record { first = first; rest = rest })

-- the halves of a list have the keys of the pair
pub tree_apart : (pairs : List (List ℕ)) (xs first rest pair : List ℕ) (key half : ℕ) → 2 ≤ length xs → half ≡ length xs / 2 → first ≡ take half xs → rest ≡ drop half xs → slice_get pairs key ≡ Some pair →
    IsTree pairs xs key → IsTree pairs first (get_or pair 0 0) × IsTree pairs rest (get_or pair 1 0)
tree_apart pairs xs first rest pair key half many half_is first_is rest_is at is =
    let parts = halves pairs xs pair key many at is in (
      subst (λ (ys : List ℕ). IsTree pairs ys (get_or pair 0 0)) (sym (first_is ∙ ap (λ n. take n xs) half_is)) parts.first,
      subst (λ (ys : List ℕ). IsTree pairs ys (get_or pair 1 0)) (sym (rest_is ∙ ap (λ n. drop n xs) half_is)) parts.rest,
    )

-- the key of a list of more than one number is the number of a pair
pub tree_pair : (pairs : List (List ℕ)) (count key : ℕ) → 2 ≤ count → HasTree pairs count key → key < length pairs
tree_pair pairs count key many (xs, long, leaf _ _ few is) = absurd (omega (arith, few, many, long))
tree_pair pairs count key many (xs, long, fork _ _ left right _ is first rest) = slice_get_within pairs key (left ∷ right ∷ []) is

-- whose numbers are the keys of the halves
pub tree_halves : (pairs : List (List ℕ)) (pair : List ℕ) (count key half left : ℕ) → 2 ≤ count → half ≡ count / 2 → left + half ≡ count → slice_get pairs key ≡ Some pair → HasTree pairs count key →
    HasTree pairs half (get_or pair 0 0) × HasTree pairs left (get_or pair 1 0)
tree_halves pairs pair count key half left many half_is left_is at (xs, long, is) =
    let parts = halves pairs xs pair key (omega (arith, many, long)) at is in
    let half_of : half ≡ length xs / 2 = half_is ∙ ap (λ n. n / 2) (sym long) in
    let within : half ≤ length xs = omega (arith, half_is, long) in
    let first_count : length (take (length xs / 2) xs) ≡ half = ap (λ n. length (take n xs)) (sym half_of) ∙ length-take-le half xs within in
    let rest_count = length-drop (length xs / 2) xs in
    ((take (length xs / 2) xs, first_count, parts.first), (drop (length xs / 2) xs, omega (arith, rest_count, half_of, left_is, long), parts.rest))

-- where both halves are written the list is
pub tree_written : (pairs : List (List ℕ)) (xs pair first rest : List ℕ) (key half left : ℕ) → 2 ≤ length xs → half ≡ length xs / 2 → left + half ≡ length xs → slice_get pairs key ≡ Some pair → IsTree pairs xs key →
    ((ys : List ℕ) → length ys ≡ half → IsTree pairs ys (get_or pair 0 0) → first ≡ ys) → ((ys : List ℕ) → length ys ≡ left → IsTree pairs ys (get_or pair 1 0) → rest ≡ ys) → first ++ rest ≡ xs
tree_written pairs xs pair first rest key half left many half_is left_is at is first_put rest_put =
    let parts = halves pairs xs pair key many at is in
    let within : half ≤ length xs = omega (arith, half_is) in
    let first_count : length (take (length xs / 2) xs) ≡ half = ap (λ n. length (take n xs)) (sym half_is) ∙ length-take-le half xs within in
    let rest_count = length-drop (length xs / 2) xs in
    ap₂ (λ (us vs : List ℕ). us ++ vs) (first_put (take (length xs / 2) xs) first_count parts.first)
    (rest_put (drop (length xs / 2) xs) (omega (arith, rest_count, half_is, left_is)) parts.rest)
    ∙ take-append-drop (length xs / 2) xs

-- a list of no more than one number is written by its key
pub short_written : (pairs : List (List ℕ)) (xs : List ℕ) (key : ℕ) → length xs < 2 → IsTree pairs xs key → replicate (length xs) key ≡ xs
short_written pairs [] key few is = refl
short_written pairs (x ∷ []) key few (leaf _ _ _ is) = ap (λ (y : ℕ). y ∷ []) is
short_written pairs (x ∷ []) key few (fork _ _ left right many is first rest) = absurd (omega (arith, few, many))
short_written pairs (x ∷ y ∷ xs) key few is = absurd (grind (arith, common_steps, few))

-- a list of more than one has the key of the pair of those of its halves
pub tree_more : (pairs some all : List (List ℕ)) (xs first rest : List ℕ) (left right key half : ℕ) → 2 ≤ length xs → half ≡ length xs / 2 → first ≡ take half xs → rest ≡ drop half xs → IsBeginning pairs some → IsBeginning some all →
    IsTree pairs first left → IsTree some rest right → slice_get all key ≡ Some (left ∷ right ∷ []) → IsTree all xs key
tree_more pairs some all xs first rest left right key half many half_is first_is rest_is begins then left_is right_is at =
    fork xs key left right many at
    (subst (λ (ys : List ℕ). IsTree all ys left) (first_is ∙ ap (λ n. take n xs) half_is) (tree_stays pairs all first left (begins_through pairs some all begins then) left_is))
    (subst (λ (ys : List ℕ). IsTree all ys right) (rest_is ∙ ap (λ n. drop n xs) half_is) (tree_stays some all rest right then right_is))
