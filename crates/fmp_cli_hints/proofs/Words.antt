-- The words of a text and their lengths.
use Rattle.std.proofs.Common.{◌≡◌, ℕ, ◌+◌, true, false, List, [], ◌∷◌, length, length-append, Option, Some, None, refl, ap, arith}
use Rattle.std.specs.Option.{option_map_or}
use Rattle.fmp_bytes.specs.Bytes.{cut_at}
use Rattle.fmp_bytes.proofs.Cutting.{no_cut, cut_at-parts, pieces_of-cut}
use Rattle.fmp_cli_hints.specs.Places.{going, stuck}
use Rattle.fmp_cli_hints.specs.Traces.{fits_with, wanted_after, words}
use Rattle.fmp_cli_hints.specs.declared.fits.Form.{Form}
use Rattle.fmp_cli_hints.specs.declared.wanted.Wanted.{Wanted}
use Rattle.fmp_names.specs.Names.{NameLists}

-- what stands before a byte, the byte and what follows it are the whole text
pub cut_lengths : (c : ℕ) (text : List ℕ) (rest : Option (List ℕ)) → (cut_at c text).1 ≡ rest → length (cut_at c text).0 + option_map_or (λ r. length r + 1) rest 0 ≡ length text
cut_lengths c text None e = omega (arith, ap length (no_cut c text e))
cut_lengths c text (Some rest) e = omega (arith, ap length (cut_at-parts c text rest e), length-append (cut_at c text).0 (c ∷ rest))

-- the words from the answer on: each that fits has another behind it or is the last, and one that does not fit is at fault
pub next_word : (form : Form) (names : NameLists) (n : ℕ) (line text rest : List ℕ) (wanted : Wanted) → fits_with form names n line text [] ≡ true → (cut_at 32 text).1 ≡ Some rest → words form names n line text wanted ≡ words form names n line rest (wanted_after form).1
unfolding words
next_word form names n line text rest wanted so more = rw (pieces_of-cut 32 text, so, more) refl

pub last_word : (form : Form) (names : NameLists) (n : ℕ) (line text : List ℕ) (wanted : Wanted) → fits_with form names n line text [] ≡ true → (cut_at 32 text).1 ≡ None → words form names n line text wanted ≡ going []
unfolding words
last_word form names n line text wanted so none = rw (pieces_of-cut 32 text, so, none) refl

pub no_word : (form : Form) (names : NameLists) (n : ℕ) (line text : List ℕ) (wanted : Wanted) → fits_with form names n line text [] ≡ false → words form names n line text wanted ≡ stuck text wanted
unfolding words
no_word form names n line text wanted not_so = rw (pieces_of-cut 32 text, not_so) refl
