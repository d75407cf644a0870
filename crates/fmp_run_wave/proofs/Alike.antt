-- What is shown of one more, in a list that grows or in the place of what was shown before.
use Rattle.std.proofs.Common.{◌≡◌, ℕ, ◌+◌, ◌-◌, ◌≤◌, ◌<◌, List, [], ◌∷◌, ◌++◌, length, take, drop, get_or, set, map, refl, sym, ap, ap₂, ◌∙◌, add-one, append_assoc, arith}
use Rattle.std.proofs.lemmas.List.{drop-drop, drop_all, drop_at, drop_more, get_or-append_right, get_or-drop, length-append, set_split, take-append-drop, take_all, take_at}
use Rattle.std.proofs.lemmas.List.FromFn.{length-map-range_with_len, map-range_with_len_more}
use Rattle.std.specs.List.{range_with_len}
use Rattle.fmp_rules.specs.World.{item}

-- what was found of the first n, and of one more
pub one_more : {X : Type 0} (f : ℕ → X) (n : ℕ) (x : X) (before after : List X) → before ≡ map f (range_with_len 1 n) → x ≡ f (n + 1) → after ≡ before ++ (x ∷ []) → after ≡ map f (range_with_len 1 (n + 1))
one_more {X} f n x before after so_far is here =
    here ∙ ap₂ (λ (xs : List X) (y : X). xs ++ (y ∷ [])) so_far is ∙ sym (map-range_with_len_more f 1 n (n + 1) (omega arith))

module _ {X : Type 0} where
  -- an item in a list that goes on after it, and one at its end
  pub item_put : (xs : List X) (i : ℕ) (x : X) → i < length xs → set xs i x ≡ take i xs ++ (x ∷ drop (i + 1) xs)
  item_put xs i x inside = rw (add-one) (set_split xs i x inside)

  -- the item that stands there
  pub item_stays : (xs : List X) (i : ℕ) (blank x : X) → i < length xs → get_or xs i blank ≡ x → xs ≡ take i xs ++ (x ∷ drop (i + 1) xs)
  item_stays xs i blank x inside is =
      sym (take-append-drop i xs) ∙ ap (λ (ys : List X). take i xs ++ ys) (drop_more xs i blank inside ∙ ap (λ (y : X). y ∷ drop (i + 1) xs) is)

module _ {X : Type 0} (f : ℕ → X) where
  -- what is shown where the first n are shown anew
  abbrev pub renewed : List X → ℕ → List X
  renewed old n = map f (range_with_len 1 n) ++ drop n old

  count_of : (n : ℕ) → length (map f (range_with_len 1 n)) ≡ n
  count_of n = length-map-range_with_len f 1 n

  module _ (old xs : List X) (n : ℕ) (so_far : xs ≡ renewed old n) where
    front : take n xs ≡ map f (range_with_len 1 n)
    front = ap (take n) so_far ∙ take_at (map f (range_with_len 1 n)) (drop n old) n (count_of n)

    rest : drop n xs ≡ drop n old
    rest = ap (drop n) so_far ∙ drop_at (map f (range_with_len 1 n)) (drop n old) n (count_of n)

    rest_more : drop (n + 1) xs ≡ drop (n + 1) old
    rest_more = sym (drop-drop 1 n xs) ∙ ap (drop 1) rest ∙ drop-drop 1 n old

    pub renewed_more : (ys : List X) → ys ≡ take n xs ++ (f (n + 1) ∷ drop (n + 1) xs) → ys ≡ renewed old (n + 1)
    renewed_more ys here =
        here ∙ ap₂ (λ (a b : List X). a ++ (f (n + 1) ∷ b)) front rest_more
        ∙ sym (ap (λ (zs : List X). zs ++ drop (n + 1) old) (map-range_with_len_more f 1 n (n + 1) (omega arith))
        ∙ append_assoc (map f (range_with_len 1 n)) (f (n + 1) ∷ []) (drop (n + 1) old))

    -- the others are shown as before
    pub as_before : (blank : X) → get_or xs n blank ≡ item blank old (n + 1)
    as_before blank =
        ap (λ (zs : List X). get_or zs n blank) so_far
        ∙ get_or-append_right (map f (range_with_len 1 n)) (drop n old) n n blank (count_of n) (omega arith)
        ∙ get_or-drop n old (n - n) blank ∙ ap (λ (k : ℕ). get_or old k blank) (omega arith)

    pub long_enough : n ≤ length xs
    long_enough =
        let both = ap (λ (ys : List X). length ys) so_far ∙ length-append (map f (range_with_len 1 n)) (drop n old) in
        let count = count_of n in
        omega (arith, both, count)

    pub all_renewed : (ys : List X) → ys ≡ take n xs → ys ≡ map f (range_with_len 1 n)
    all_renewed ys is = is ∙ front
