-- The releases from one on, where it is read by its place.
use Rattle.std.proofs.Common.{◌≡◌, ℕ, suc, ◌+◌, ◌<◌, Some, List, ◌∷◌, ◌++◌, length, drop, drop-cons, add-one, ap, sym, ◌∙◌, append_assoc}
use Rattle.std.specs.Prelude.{slice_get}
use Rattle.std.proofs.lemmas.Option.{slice_get_within, get_or_from_slice_get}
use Rattle.fmp_codes.specs.declared.records.Release.{Release}
use Rattle.fmp_names.specs.Names.{NameLists}
use Rattle.fmp_trace.specs.Lines.{release_text, releases_text}

-- the rest begins with what stands at its place
pub drop-slice_get : (rs : List Release) (i : ℕ) (r : Release) → slice_get rs i ≡ Some r → drop i rs ≡ r ∷ drop (i + 1) rs
drop-slice_get rs i r e =
    let within : i < length rs = slice_get_within rs i r e in
    rw (add-one) (drop-cons rs i r within ∙ ap (λ x. x ∷ drop (suc i) rs) (get_or_from_slice_get rs i r r e))

-- what was printed, with one more release, before the text of the others
pub one_more : (lists : NameLists) (rs : List Release) (i : ℕ) (r : Release) (out all : List ℕ) → slice_get rs i ≡ Some r →
    out ++ releases_text lists (drop i rs) ≡ all → (out ++ release_text lists r) ++ releases_text lists (drop (i + 1) rs) ≡ all
one_more lists rs i r out all there made =
    append_assoc out (release_text lists r) (releases_text lists (drop (i + 1) rs))
    ∙ ap (λ ts. out ++ releases_text lists ts) (sym (drop-slice_get rs i r there)) ∙ made
