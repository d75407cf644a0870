-- The ends of waits from one on, as the loop puts in what is left out of them.
use Rattle.std.proofs.Common.{◌≡◌, ℕ, ◌+◌, List, [], ◌∷◌, ◌++◌, drop, Some, sym, ap, ◌∙◌, append_assoc}
use Rattle.std.specs.Prelude.{slice_get, unwrap_or}
use Rattle.fmp_codes.specs.declared.records.Release.{Release}
use Rattle.fmp_trace.proofs.Releases.{drop-slice_get}
use Rattle.fmp_trace_partial.specs.declared.codes_kept.CodeKept.{CodeKept}
use Rattle.fmp_trace_partial.specs.declared.codes_kept.CodeKept.TheVariants as of_code
use Rattle.fmp_run_partial.specs.Filling.{filled_from, filled_release}

-- one more, before those that are left
pub one_filled : (kept : List CodeKept) (own said : List Release) (i : ℕ) (r : Release) (all added total : List Release) → slice_get said i ≡ Some r
    → added ≡ all ++ filled_release (unwrap_or (slice_get kept i) of_code.Whole) r (slice_get own i) ∷ [] → all ++ filled_from kept own i (drop i said) ≡ total
    → added ++ filled_from kept own (i + 1) (drop (i + 1) said) ≡ total
one_filled kept own said i r all added total there is_added so_far =
    let one = filled_release (unwrap_or (slice_get kept i) of_code.Whole) r (slice_get own i) in
    let left = filled_from kept own (i + 1) (drop (i + 1) said) in
    ap (λ (xs : List Release). xs ++ left) is_added
    ∙ append_assoc all (one ∷ []) left
    ∙ ap (λ (rs : List Release). all ++ filled_from kept own i rs) (sym (drop-slice_get said i r there))
    ∙ so_far
