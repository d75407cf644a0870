-- Going over the words of a line, and over the releases of a record, as a loop does.
use Rattle.std.proofs.Common.{◌≡◌, ℕ, zero, suc, ◌+◌, List, [], ◌∷◌, ◌++◌, drop, add-one, Option, Some, None, refl, sym, ap, ◌∙◌, append_assoc}
use Rattle.std.specs.Prelude.{slice_get, unwrap_or}
use Rattle.fmp_bytes.specs.Bytes.{cut_at, pieces_of}
use Rattle.fmp_bytes.proofs.Cutting.{pieces_left, pieces_of-cut}
use Rattle.fmp_codes.specs.declared.records.Release.{Release}
use Rattle.fmp_names.specs.Names.{NameLists}
use Rattle.fmp_trace.proofs.Releases.{drop-slice_get}
use Rattle.fmp_trace_partial.specs.Marks.{is_keyed, ends_answer, filled_led, filled_words, with_mark, with_marks}
use Rattle.fmp_trace_partial.specs.Partial.{kept_release_text, next_kept, later_kept, kept_each}
use Rattle.fmp_trace_partial.specs.declared.codes_kept.CodeKept.{CodeKept}
use Rattle.fmp_trace_partial.specs.declared.codes_kept.CodeKept.TheVariants as of_code
use Rattle.fmp_trace_partial.specs.declared.marks.Marks.{Marks}

-- ---- words

-- one word more, before those that are left
pub one_filled : (text out added all : List ℕ) → added ≡ out ++ filled_led (ends_answer (pieces_left 32 (cut_at 32 text).1)) (cut_at 32 text).0 → out ++ filled_words (pieces_of 32 text) ≡ all → added ++ filled_words (pieces_left 32 (cut_at 32 text).1) ≡ all
one_filled text out added all word so_far =
    let left = filled_words (pieces_left 32 (cut_at 32 text).1) in
    ap (λ (t : List ℕ). t ++ left) word
    ∙ append_assoc out (filled_led (ends_answer (pieces_left 32 (cut_at 32 text).1)) (cut_at 32 text).0) left
    ∙ ap (λ (words : List (List ℕ)). out ++ filled_words words) (sym (pieces_of-cut 32 text))
    ∙ so_far

-- whether the words of a text may follow an answer is told by the first
pub first_ends : (text : List ℕ) → is_keyed (cut_at 32 text).0 ≡ ends_answer (pieces_of 32 text)
first_ends text = rw (pieces_of-cut 32 text) refl

module _ (m : Marks) (text : List ℕ) (total : Option Marks) (so_far : with_marks m (pieces_of 32 text) ≡ total) where
  pub one_mark : (next : Marks) → with_mark m (cut_at 32 text).0 ≡ Some next → with_marks next (pieces_left 32 (cut_at 32 text).1) ≡ total
  one_mark next here =
      let one : with_marks m (pieces_of 32 text) ≡ with_marks next (pieces_left 32 (cut_at 32 text).1) = rw (pieces_of-cut 32 text, here) refl in
      sym one ∙ so_far

  pub no_mark : with_mark m (cut_at 32 text).0 ≡ None → None ≡ total
  no_mark here =
      let one : with_marks m (pieces_of 32 text) ≡ None = rw (pieces_of-cut 32 text, here) refl in
      sym one ∙ so_far

-- ---- releases

-- how much is kept of the code at a place
kept_at : (kept : List CodeKept) (i : ℕ) → next_kept (drop i kept) ≡ unwrap_or (slice_get kept i) of_code.Whole
kept_at [] zero = refl
kept_at [] (suc i) = refl
kept_at (k ∷ kept) zero = refl
kept_at (k ∷ kept) (suc i) = kept_at kept i

kept_after : (kept : List CodeKept) (i : ℕ) → later_kept (drop i kept) ≡ drop (suc i) kept
kept_after [] zero = refl
kept_after [] (suc i) = refl
kept_after (k ∷ kept) zero = refl
kept_after (k ∷ kept) (suc i) = kept_after kept i

-- one release more, before those that are left
pub one_release : (names : NameLists) (kept : List CodeKept) (rs : List Release) (i : ℕ) (r : Release) (out added all : List ℕ) → slice_get rs i ≡ Some r
    → added ≡ out ++ kept_release_text names (unwrap_or (slice_get kept i) of_code.Whole) r → out ++ kept_each names (drop i kept) (drop i rs) ≡ all
    → added ++ kept_each names (drop (i + 1) kept) (drop (i + 1) rs) ≡ all
one_release names kept rs i r out added all there is_added so_far =
    let left = kept_each names (drop (i + 1) kept) (drop (i + 1) rs) in
    let first = kept_at kept i in
    let after : later_kept (drop i kept) ≡ drop (i + 1) kept = rw add-one (kept_after kept i) in
    let here : kept_each names (drop i kept) (drop i rs) ≡ kept_release_text names (unwrap_or (slice_get kept i) of_code.Whole) r ++ left =
    rw (drop-slice_get rs i r there, first, after) refl in
    ap (λ (t : List ℕ). t ++ left) is_added
    ∙ append_assoc out (kept_release_text names (unwrap_or (slice_get kept i) of_code.Whole) r) left
    ∙ ap (λ (t : List ℕ). out ++ t) (sym here) ∙ so_far
