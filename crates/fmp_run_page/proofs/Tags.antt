-- Escaped bytes begin no tag, and are read as what they were.
use Rattle.std.proofs.Common.{ℕ, List, [], ◌∷◌, ◌++◌, refl, eqb, inl, inr}
use Rattle.std.proofs.lemmas.Bool.{cases_Bool, eqb-true}
use Rattle.fmp_run_page.specs.Escapes.{escaped, escaped_byte, HasNoTag, Reads, Stands}

pub no_tag : (bytes : List ℕ) → HasNoTag (escaped bytes)
no_tag [] = refl
no_tag (b ∷ bytes) =
    elim (cases_Bool (eqb b 60)) [
      | inl t ↦ rw t (no_tag bytes)
      | inr f ↦ elim (cases_Bool (eqb b 38)) [
        | inl t ↦ rw (f, t) (no_tag bytes)
        | inr g ↦ rw (f, g, f) (no_tag bytes)
      ]
    ]

stands : (b : ℕ) (rest : List ℕ) → Stands (escaped_byte b ++ rest) b rest
stands b rest =
    elim (cases_Bool (eqb b 60)) [
      | inl t ↦ inl (eqb-true b 60 t, rw t refl)
      | inr f ↦ elim (cases_Bool (eqb b 38)) [
        | inl t ↦ inr (inl (eqb-true b 38 t, rw (f, t) refl))
        | inr g ↦ inr (inr (g, rw (f, g) refl))
      ]
    ]

pub reads : (bytes : List ℕ) → Reads (escaped bytes) bytes
reads [] = refl
reads (b ∷ bytes) = (escaped bytes, stands b (escaped bytes), reads bytes)
