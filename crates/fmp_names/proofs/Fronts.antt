-- Pieces of names, while names are added.
use Rattle.std.proofs.Common.{◌≡◌, ℕ, ◌+◌, ◌*◌, ◌-◌, ◌<◌, inl, inr, List, [], ◌∷◌, ◌++◌, length, set, get_or, Some, slice_get, ap, ◌∙◌, arith, length-append, map, sym, take, eqb, false}
use Rattle.std.proofs.lemmas.Bool.{cases_eq, ne_eqb}
use Rattle.std.proofs.lemmas.List.{length-map, get_or-map, get_or-set_same, get_or-set_other, get_or_append_left}
use Rattle.std.proofs.Math.Seq.{get_or-append_seam}
use Rattle.std.proofs.lemmas.Option.{slice_get-get_or, slice_get_within, get_or_from_slice_get}
use Rattle.fmp_names.specs.declared.pieces.Piece.{Piece}
use Rattle.fmp_codes.specs.declared.kinds.ObjectKind.{ObjectKind}
use Rattle.fmp_codes.specs.declared.kinds.NameKind.TheVariants.{Object}
use Rattle.fmp_codes.specs.Kinds.{place_of}
use Rattle.std.specs.Global.{Vec}
use Rattle.fmp_names.specs.Names.{NameLists, name_of, texts}
use Rattle.fmp_names.specs.Pieces.{AreExtended, AreFronts, IsPieceSet}

-- pieces with no bytes are no claim
pub fronts_extended : (objects : List (List (List ℕ))) (before after : List Piece) → AreFronts objects before → AreExtended before after → AreFronts objects after
fronts_extended objects before after fronts extended place number p few there some = fronts place number p few (extended (place * 128 + number) p there some) some

-- a place of a list that grows has what it had
kept_at : (xs more : List (List ℕ)) (i : ℕ) (t : List ℕ) → slice_get xs i ≡ Some t → slice_get (xs ++ more) i ≡ Some t
kept_at xs more i t there =
    let inside = slice_get_within xs i t there in
    slice_get-get_or (xs ++ more) i [] (omega (arith, inside, length-append xs more))
    ∙ ap (λ (l : List ℕ). Some l) (get_or_append_left xs more [] i inside ∙ get_or_from_slice_get xs i t [] there)

last_at : (xs : List (List ℕ)) (t : List ℕ) → slice_get (xs ++ t ∷ []) (length xs) ≡ Some t
last_at xs t = slice_get-get_or (xs ++ t ∷ []) (length xs) [] (omega (arith, length-append xs (t ∷ []))) ∙ ap (λ (l : List ℕ). Some l) (get_or-append_seam xs t [] [])

-- one more name at a place, with its piece
module _ (objects : List (List (List ℕ))) (place number : ℕ) (name : List ℕ) (before after : List Piece) (within : place < length objects) (small : number < 128)
    (next : number ≡ length (get_or objects place []) + 1) (fronts : AreFronts objects before) (is : IsPieceSet before (place * 128 + number) name after) where
  abbrev pub grown : List (List (List ℕ))
  grown = set objects place (get_or objects place [] ++ name ∷ [])

  still_there : (q i : ℕ) (t : List ℕ) → slice_get (get_or objects q []) i ≡ Some t → slice_get (get_or grown q []) i ≡ Some t
  still_there q i t there =
      elim (cases_eq q place) [
        | inl e ↦ rw (e, get_or-set_same objects place (get_or objects place [] ++ name ∷ []) [] within) (kept_at (get_or objects place []) (name ∷ []) i t (rw e at there))
        | inr differs ↦ rw (get_or-set_other objects place q (get_or objects place [] ++ name ∷ []) [] differs) there
      ]

  pub front_added : AreFronts grown after
  front_added q n p few there some =
      elim (cases_eq (q * 128 + n) (place * 128 + number)) [
        | inl e ↦
            let same_place : q ≡ place = omega (arith, e, few, small) in
            let here : n - 1 ≡ length (get_or objects place []) = omega (arith, e, few, small, next) in
            let piece = (is (q * 128 + n) p there).0 e some in
            (piece.0, omega (arith, e, few, small, next), rw (same_place, here, get_or-set_same objects place (get_or objects place [] ++ name ∷ []) [] within, piece.1) (last_at (get_or objects place []) name))
        | inr differs ↦
            let old = fronts q n p few ((is (q * 128 + n) p there).1 differs) some in
            (old.0, old.1, still_there q (n - 1) _ old.2)
      ]

-- the piece of an object is its name
pub front_name : (lists : NameLists) (kind : ObjectKind) (place n : ℕ) (pieces : List Piece) (p : Piece) → place ≡ place_of kind → AreFronts lists.objects pieces → n < 128
    → slice_get pieces (place * 128 + n) ≡ Some p → 0 < p.length → name_of lists (Object kind) n ≡ Some (take p.length p.bytes)
unfolding name_of
front_name lists kind place n pieces p placed fronts few there some =
    let front = fronts place n p few there some in
    let test : eqb n 0 ≡ false = ne_eqb n 0 (λ e. omega (arith, front.1, e)) in
    rw (test, ← placed) front.2

-- how many names a kind has, by its list of names
pub names_at : (objects : List (Vec (Vec ℕ))) (place : ℕ) (names : Vec (Vec ℕ)) → place < length (map texts objects) → names ≡ get_or objects place names
    → length (get_or (map texts objects) place []) ≡ length names.items
names_at objects place names within is =
    ap (λ (l : List (List ℕ)). length l) (get_or-map texts objects place names [] (omega (arith, within, length-map objects texts)))
    ∙ ap (λ (s : Vec (Vec ℕ)). length (texts s)) (sym is) ∙ length-map names.items (λ (v : Vec ℕ). v.items)
