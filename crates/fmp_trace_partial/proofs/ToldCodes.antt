-- What a line tells of the codes of a record, and how much of them it writes.
use Rattle.std.proofs.Common.{◌≡◌, ℕ, ◌≤◌, List, [], ◌∷◌, ◌++◌, length, None, refl, ap, arith}
use Rattle.fmp_codes.specs.Records.{ValueFits, AnswerFits}
use Rattle.fmp_codes.specs.declared.codes.Code.TheVariants.{Accepted}
use Rattle.fmp_codes.specs.declared.records.Answer.{Answer}
use Rattle.fmp_codes.specs.declared.records.Answer.TheVariants as answers
use Rattle.fmp_codes.specs.declared.records.Release.{Release}
use Rattle.fmp_names.specs.Names.{NameLists}
use Rattle.fmp_trace.specs.Fits.{ReleasesFit}
use Rattle.fmp_trace_partial.specs.Partial.{kept_answer_text, kept_release_text, next_kept, later_kept, kept_each, kept_releases_text}
use Rattle.fmp_trace_partial.specs.declared.codes_kept.AnswerKept.{AnswerKept}
use Rattle.fmp_trace_partial.specs.declared.codes_kept.AnswerKept.TheVariants as of_answer
use Rattle.fmp_trace_partial.specs.declared.codes_kept.CodeKept.{CodeKept}
use Rattle.fmp_trace_partial.specs.declared.codes_kept.CodeKept.TheVariants as of_code

-- ---- answers

abbrev pub bare_answer : Answer → Answer
bare_answer (answers.Done c value) = answers.Done c None
bare_answer other = other

-- what is told of an answer
abbrev pub told_answer : AnswerKept → Answer → Answer
told_answer of_answer.Whole a = a
told_answer of_answer.NoValue a = bare_answer a
told_answer of_answer.Happened a = answers.Nothing
told_answer of_answer.Open a = answers.Nothing

abbrev pub bare_written : Answer → AnswerKept
bare_written (answers.Done c value) = of_answer.NoValue
bare_written other = of_answer.Whole

-- how much of it is written
abbrev pub answer_written : AnswerKept → Answer → AnswerKept
answer_written of_answer.Whole a = of_answer.Whole
answer_written of_answer.NoValue a = bare_written a
answer_written of_answer.Happened a = of_answer.Happened
answer_written of_answer.Open a = of_answer.Open

-- what is told is written as it was
pub answer_again : (kept : AnswerKept) (a : Answer) → kept_answer_text (answer_written kept a) (told_answer kept a) ≡ kept_answer_text kept a
answer_again of_answer.Whole a = refl
answer_again of_answer.NoValue (answers.Done c value) = refl
answer_again of_answer.NoValue other = refl
answer_again of_answer.Happened a = refl
answer_again of_answer.Open a = refl

-- and so is the answer itself
pub answer_whole : (kept : AnswerKept) (a : Answer) → kept_answer_text (answer_written kept a) a ≡ kept_answer_text kept a
answer_whole of_answer.Whole a = refl
answer_whole of_answer.NoValue (answers.Done c value) = refl
answer_whole of_answer.NoValue other = refl
answer_whole of_answer.Happened a = refl
answer_whole of_answer.Open a = refl

pub answer_fits : (kept : AnswerKept) (a : Answer) → AnswerFits a → AnswerFits (told_answer kept a)
answer_fits of_answer.Whole a fits = fits
answer_fits of_answer.NoValue (answers.Done c value) fits = tt
answer_fits of_answer.NoValue other fits = tt
answer_fits of_answer.Happened a fits = tt
answer_fits of_answer.Open a fits = tt

-- ---- releases

-- what is told of a release
abbrev pub told_release : CodeKept → Release → Release
told_release of_code.Whole r = r
told_release of_code.NoValue r = record r { value = None }
told_release of_code.Nothing r = record r { code = Accepted; value = None }

abbrev pub told_each : List CodeKept → List Release → List Release
told_each kept [] = []
told_each kept (r ∷ rs) = told_release (next_kept kept) r ∷ told_each (later_kept kept) rs

abbrev pub told_releases : List CodeKept → List Release → List Release
told_releases [] rs = []
told_releases (kept ∷ others) rs = told_each (kept ∷ others) rs

-- how much of each code is written
abbrev pub written_each : List CodeKept → List Release → List CodeKept
written_each kept [] = []
written_each kept (r ∷ rs) = next_kept kept ∷ written_each (later_kept kept) rs

abbrev pub written_releases : List CodeKept → List Release → List CodeKept
written_releases [] rs = []
written_releases (kept ∷ others) rs = written_each (kept ∷ others) rs

release_again : (names : NameLists) (kept : CodeKept) (r : Release) → kept_release_text names kept (told_release kept r) ≡ kept_release_text names kept r
unfolding kept_release_text
release_again names of_code.Whole r = refl
release_again names of_code.NoValue r = refl
release_again names of_code.Nothing r = refl

each_again : (names : NameLists) (kept : List CodeKept) (rs : List Release) → kept_each names (written_each kept rs) (told_each kept rs) ≡ kept_each names kept rs
each_again names kept [] = refl
each_again names kept (r ∷ rs) =
    let one = release_again names (next_kept kept) r in
    let others = each_again names (later_kept kept) rs in
    rw (one, others) refl

each_whole : (names : NameLists) (kept : List CodeKept) (rs : List Release) → kept_each names (written_each kept rs) rs ≡ kept_each names kept rs
each_whole names kept [] = refl
each_whole names kept (r ∷ rs) = ap (λ (t : List ℕ). kept_release_text names (next_kept kept) r ++ t) (each_whole names (later_kept kept) rs)

pub releases_again : (names : NameLists) (kept : List CodeKept) (rs : List Release) → kept_releases_text names (written_releases kept rs) (told_releases kept rs) ≡ kept_releases_text names kept rs
releases_again names [] rs = refl
releases_again names (kept ∷ others) [] = refl
releases_again names (kept ∷ others) (r ∷ rs) = each_again names (kept ∷ others) (r ∷ rs)

pub releases_whole : (names : NameLists) (kept : List CodeKept) (rs : List Release) → kept_releases_text names (written_releases kept rs) rs ≡ kept_releases_text names kept rs
releases_whole names [] rs = refl
releases_whole names (kept ∷ others) [] = refl
releases_whole names (kept ∷ others) (r ∷ rs) = each_whole names (kept ∷ others) (r ∷ rs)

value_fits : (kept : CodeKept) (r : Release) → ValueFits r.value → ValueFits (told_release kept r).value
value_fits of_code.Whole r fits = fits
value_fits of_code.NoValue r fits = tt
value_fits of_code.Nothing r fits = tt

pub same_task : (kept : CodeKept) (r : Release) → (told_release kept r).task ≡ r.task
same_task of_code.Whole r = refl
same_task of_code.NoValue r = refl
same_task of_code.Nothing r = refl

each_fit : (names : NameLists) (kept : List CodeKept) (rs : List Release) → ReleasesFit names rs → ReleasesFit names (told_each kept rs)
each_fit names kept [] fits = tt
each_fit names kept (r ∷ rs) fits =
    let task = same_task (next_kept kept) r in
    (rw task fits.0, value_fits (next_kept kept) r fits.1, each_fit names (later_kept kept) rs fits.2)

pub releases_fit : (names : NameLists) (kept : List CodeKept) (rs : List Release) → ReleasesFit names rs → ReleasesFit names (told_releases kept rs)
releases_fit names [] rs fits = tt
releases_fit names (kept ∷ others) rs fits = each_fit names (kept ∷ others) rs fits

each_long : (kept : List CodeKept) (rs : List Release) → length (told_each kept rs) ≡ length rs
each_long kept [] = refl
each_long kept (r ∷ rs) = let others = each_long (later_kept kept) rs in omega (arith, others)

pub releases_few : (kept : List CodeKept) (rs : List Release) → length rs ≤ 64 → length (told_releases kept rs) ≤ 64
releases_few [] rs few = omega arith
releases_few (kept ∷ others) rs few = let long = each_long (kept ∷ others) rs in omega (arith, few, long)
