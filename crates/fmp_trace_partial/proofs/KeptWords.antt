-- The words of a line from its answer on, and their bytes.
use Rattle.std.proofs.Common.{◌≡◌, ℕ, ℤ, Bool, true, not, ◌||◌, eqb, inl, inr, List, [], ◌∷◌, ◌++◌, sym, ◌≤◌, length, Option, Some, None, arith, refl, ap, ◌∙◌, append_assoc}
use Rattle.std.specs.Prelude.{codes, decimal, map}
use Rattle.std.specs.List.{list_all}
use Rattle.std.proofs.lemmas.Bool.{and_from, and_parts, or_cases, eqb-true}
use Rattle.std.proofs.lemmas.List.{append-nil}
use Rattle.std.proofs.lemmas.List.Folds.{list_all-append}
use Rattle.fmp_codes.specs.Codes.{name_of}
use Rattle.fmp_codes.specs.Records.{ValueFits, AnswerFits}
use Rattle.fmp_codes.specs.declared.codes.Code.{Code}
use Rattle.fmp_codes.specs.declared.kinds.ObjectKind.TheVariants as objects
use Rattle.fmp_codes.specs.declared.records.Answer.{Answer}
use Rattle.fmp_codes.specs.declared.records.Answer.TheVariants as answers
use Rattle.fmp_codes.specs.declared.records.Record.{Record}
use Rattle.fmp_codes.specs.declared.records.Release.{Release}
use Rattle.fmp_bytes.specs.declared.classes.Class.TheVariants.{Argument, Printed}
use Rattle.fmp_bytes.specs.Bytes.{is_of}
use Rattle.fmp_bytes.proofs.Prefixes.{list_all-both, list_all-weaker}
use Rattle.fmp_names.specs.Names.{NameLists, AreValid}
use Rattle.fmp_trace.specs.Fits.{ReleasesFit, FitsNames}
use Rattle.fmp_trace.specs.Lines.{task_text, tail_text, answer_text}
use Rattle.fmp_trace.proofs.Bytes.{other_than, solid, solid-argument, printed-solid, of_words, code_words, decimal_bytes}
use Rattle.fmp_trace.proofs.GuessedCalls.{led}
use Rattle.fmp_trace.proofs.GuessedTails.{release_word, lost_words, run_words, request_words, tail-led, tail_solid, answer_solid}
use Rattle.fmp_trace.proofs.GuessedValues.{name_bytes}
use Rattle.fmp_trace_partial.specs.Marks.{ends_answer, filled_words, with_marks}
use Rattle.fmp_trace_partial.specs.Partial.{kept_code_text, kept_answer_text, kept_release_text, next_kept, later_kept, kept_each, kept_releases_text, IsBound}
use Rattle.fmp_trace_partial.specs.declared.codes_kept.AnswerKept.{AnswerKept}
use Rattle.fmp_trace_partial.specs.declared.codes_kept.AnswerKept.TheVariants as of_answer
use Rattle.fmp_trace_partial.specs.declared.codes_kept.CodeKept.{CodeKept}
use Rattle.fmp_trace_partial.specs.declared.codes_kept.CodeKept.TheVariants as of_code
use Rattle.fmp_trace_partial.specs.declared.marks.Marks.{Marks}
use Rattle.fmp_trace_partial.proofs.FilledLines.{AreApart, led-append}
use Rattle.fmp_trace_partial.proofs.FilledWords.{kept_release_word, kept_each_words, kept_release_words, releases_told, releases_marked, AllUnmarked, others_unmarked, unmarked_filled, unmarked_marks, unmarked_end, bound_words, bound_filled, bound_marked, bound_end, ends_both, releases_end}
use Rattle.fmp_trace_partial.proofs.ToldCodes.{told_releases, written_releases}

-- ---- words

-- what stands after the releases of a record
abbrev pub other_words : NameLists → Record → List (List ℕ)
other_words names q = lost_words q.lost ++ (run_words names q.run_change ++ request_words q.requests)

release-led : (names : NameLists) (kept : CodeKept) (r : Release) → kept_release_text names kept r ≡ 32 ∷ kept_release_word names kept r
unfolding kept_release_text
release-led names kept r = simp append_assoc

each-led : (names : NameLists) (kept : List CodeKept) (rs : List Release) → kept_each names kept rs ≡ led 32 (kept_each_words names kept rs)
each-led names kept [] = refl
each-led names kept (r ∷ rs) =
    let one = release-led names (next_kept kept) r in
    rw one (ap (λ (t : List ℕ). 32 ∷ (kept_release_word names (next_kept kept) r ++ t)) (each-led names (later_kept kept) rs))

pub releases-led : (names : NameLists) (kept : List CodeKept) (rs : List Release) → kept_releases_text names kept rs ≡ led 32 (kept_release_words names kept rs)
releases-led names [] rs = refl
releases-led names (kept ∷ others) rs = each-led names (kept ∷ others) rs

-- the same record without releases
abbrev bare : Record → Record
bare q = record q { releases = [] }

pub others-led : (names : NameLists) (q : Record) → tail_text names (bare q) ≡ led 32 (other_words names q)
others-led names q = tail-led names (bare q)

-- ---- what they say

module _ (names : NameLists) (q : Record) (valid : AreValid names) (fits : FitsNames names q) where
  unmarked : AllUnmarked (other_words names q)
  unmarked = others_unmarked names q.lost q.run_change q.requests valid fits.lost fits.run_change

  front_told : (kept : List CodeKept) (rs : List Release) (more : List (List ℕ)) → ReleasesFit names rs → filled_words (kept_release_words names kept rs ++ more) ≡ led 32 (map (release_word names) (told_releases kept rs)) ++ filled_words more
  front_told [] rs more releases = refl
  front_told (kept ∷ later) rs more releases = releases_told names valid (kept ∷ later) rs more releases

  pub words_told : (kept : List CodeKept) (rs : List Release) (bound : Option ℕ) → ReleasesFit names rs
      → filled_words (kept_release_words names kept rs ++ (other_words names q ++ bound_words bound)) ≡ led 32 (map (release_word names) (told_releases kept rs) ++ other_words names q)
  words_told kept rs bound releases =
      let front = map (release_word names) (told_releases kept rs) in
      let none = bound_filled bound in
      front_told kept rs (other_words names q ++ bound_words bound) releases
      ∙ ap (λ (t : List ℕ). led 32 front ++ t) (unmarked_filled (other_words names q) (bound_words bound) unmarked ∙ rw none (append-nil (led 32 (other_words names q))))
      ∙ sym (led-append 32 front (other_words names q))

  front_marked : (answer : AnswerKept) (kept : List CodeKept) (rs : List Release) (more : List (List ℕ)) → ReleasesFit names rs → length rs ≤ 64
      → with_marks (record { answer = answer; releases = []; bound = None }) (kept_release_words names kept rs ++ more) ≡ with_marks (record { answer = answer; releases = written_releases kept rs; bound = None }) more
  front_marked answer [] rs more releases few = refl
  front_marked answer (kept ∷ later) rs more releases few = releases_marked names valid (record { answer = answer; releases = []; bound = None }) (kept ∷ later) rs more releases (omega (arith, few))

  pub words_marked : (n : ℕ) (answer : AnswerKept) (kept : List CodeKept) (rs : List Release) (bound : Option ℕ) → ReleasesFit names rs → length rs ≤ 64 → IsBound n bound
      → with_marks (record { answer = answer; releases = []; bound = None }) (kept_release_words names kept rs ++ (other_words names q ++ bound_words bound)) ≡ Some (record { answer = answer; releases = written_releases kept rs; bound = bound })
  words_marked n answer kept rs bound releases few is_bound =
      let m : Marks = record { answer = answer; releases = written_releases kept rs; bound = None } in
      front_marked answer kept rs (other_words names q ++ bound_words bound) releases few
      ∙ unmarked_marks m (other_words names q) (bound_words bound) unmarked
      ∙ bound_marked n m bound refl is_bound

  front_end : (kept : List CodeKept) (rs : List Release) → ends_answer (kept_release_words names kept rs) ≡ true
  front_end [] rs = refl
  front_end (kept ∷ later) rs = releases_end names (kept ∷ later) rs

  pub words_end : (kept : List CodeKept) (rs : List Release) (bound : Option ℕ) → ends_answer (kept_release_words names kept rs ++ (other_words names q ++ bound_words bound)) ≡ true
  words_end kept rs bound =
      ends_both (kept_release_words names kept rs) (other_words names q ++ bound_words bound) (front_end kept rs)
      (ends_both (other_words names q) (bound_words bound) (unmarked_end (other_words names q) unmarked) (bound_end bound))

-- ---- their bytes

-- a byte of such a word: one of a line of a trace, `*` or `?`
abbrev pub marked_byte : ℕ → Bool
marked_byte b = solid b || (eqb b 42 || eqb b 63)

marked-solid : (b : ℕ) → solid b ≡ true → marked_byte b ≡ true
marked-solid b h = rw h refl

pub printed-marked : (b : ℕ) → marked_byte b ≡ true → is_of Printed b ≡ true
unfolding is_of
printed-marked b h =
    elim (or_cases (solid b) (eqb b 42 || eqb b 63) h) [
      | inl t ↦ printed-solid b t
      | inr t ↦ elim (or_cases (eqb b 42) (eqb b 63) t) [ inl e ↦ rw (eqb-true b 42 e) refl | inr e ↦ rw (eqb-true b 63 e) refl ]
    ]

abbrev pub IsMarked : List ℕ → Type 0
IsMarked text = list_all marked_byte text ≡ true

abbrev pub AreMarked : List (List ℕ) → Type 0
AreMarked words = list_all (list_all marked_byte) words ≡ true

of_solid : (text : List ℕ) → list_all solid text ≡ true → IsMarked text
of_solid text all = list_all-weaker solid marked_byte marked-solid text all

of_argument : (text : List ℕ) → list_all (is_of Argument) text ≡ true → IsMarked text
of_argument text all = of_solid text (list_all-weaker (is_of Argument) solid solid-argument text all)

bare_bytes : (c : Code) → IsMarked (name_of c ++ codes ":*")
unfolding is_of
bare_bytes c = list_all-both marked_byte (name_of c) (codes ":*") (of_argument (name_of c) (of_words (name_of c) (code_words c))) refl

code_bytes : (kept : CodeKept) (c : Code) (value : Option ℤ) → ValueFits value → IsMarked (kept_code_text kept c value)
unfolding is_of
code_bytes of_code.Whole c value fits = of_solid (answer_text (answers.Done c value)) (answer_solid (answers.Done c value) fits)
code_bytes of_code.NoValue c value fits = bare_bytes c
code_bytes of_code.Nothing c value fits = refl

pub answer_bytes : (kept : AnswerKept) (a : Answer) → AnswerFits a → IsMarked (kept_answer_text kept a)
unfolding is_of
answer_bytes of_answer.Whole a fits = of_solid (answer_text a) (answer_solid a fits)
answer_bytes of_answer.NoValue (answers.Done c value) fits = bare_bytes c
answer_bytes of_answer.NoValue other fits = refl
answer_bytes of_answer.Happened a fits = refl
answer_bytes of_answer.Open a fits = refl

each_bytes : (names : NameLists) (kept : List CodeKept) (rs : List Release) → AreValid names → ReleasesFit names rs → AreMarked (kept_each_words names kept rs)
unfolding is_of
each_bytes names kept [] valid fits = refl
each_bytes names kept (r ∷ rs) valid fits =
    and_from (list_all marked_byte (kept_release_word names (next_kept kept) r)) (list_all (list_all marked_byte) (kept_each_words names (later_kept kept) rs))
    (list_all-both marked_byte (task_text names r.task) (58 ∷ kept_code_text (next_kept kept) r.code r.value) (of_argument (task_text names r.task) (name_bytes names objects.Task r.task.number valid fits.0)) (code_bytes (next_kept kept) r.code r.value fits.1))
    (each_bytes names (later_kept kept) rs valid fits.2)

releases_bytes : (names : NameLists) (kept : List CodeKept) (rs : List Release) → AreValid names → ReleasesFit names rs → AreMarked (kept_release_words names kept rs)
releases_bytes names [] rs valid fits = refl
releases_bytes names (kept ∷ others) rs valid fits = each_bytes names (kept ∷ others) rs valid fits

all_solid : (words : List (List ℕ)) → list_all (list_all solid) words ≡ true → AreMarked words
all_solid [] all = refl
all_solid (word ∷ words) all =
    let parts = and_parts (list_all solid word) (list_all (list_all solid) words) all in
    and_from (list_all marked_byte word) (list_all (list_all marked_byte) words) (of_solid word parts.0) (all_solid words parts.1)

bound_bytes : (n : ℕ) (bound : Option ℕ) → IsBound n bound → AreMarked (bound_words bound)
unfolding is_of
bound_bytes n None is_bound = refl
bound_bytes n (Some last) is_bound = and_from (list_all marked_byte (codes "by" ++ 61 ∷ decimal last)) true (of_argument (decimal last) (decimal_bytes last (omega (arith, is_bound.1)))) refl

both_bytes : (xs ys : List (List ℕ)) → AreMarked xs → AreMarked ys → AreMarked (xs ++ ys)
both_bytes xs ys a b = list_all-append (list_all marked_byte) xs ys ∙ and_from (list_all (list_all marked_byte) xs) (list_all (list_all marked_byte) ys) a b

pub words_bytes : (names : NameLists) (q : Record) (n : ℕ) (kept : List CodeKept) (rs : List Release) (bound : Option ℕ) → AreValid names → FitsNames names q → ReleasesFit names rs → IsBound n bound
    → AreMarked (kept_release_words names kept rs ++ (other_words names q ++ bound_words bound))
words_bytes names q n kept rs bound valid fits releases is_bound =
    both_bytes (kept_release_words names kept rs) (other_words names q ++ bound_words bound) (releases_bytes names kept rs valid releases)
    (both_bytes (other_words names q) (bound_words bound) (all_solid (other_words names q) (tail_solid names (bare q) valid tt fits.lost fits.run_change)) (bound_bytes n bound is_bound))

pub marked_apart : (words : List (List ℕ)) → AreMarked words → AreApart words
unfolding is_of
marked_apart [] all = refl
marked_apart (word ∷ words) all =
    let parts = and_parts (list_all marked_byte word) (list_all (list_all marked_byte) words) all in
    and_from (list_all (λ b. not (eqb b 32)) word) (list_all (list_all (λ b. not (eqb b 32))) words) (other_than marked_byte 32 refl word parts.0) (marked_apart words parts.1)

pub marked_printed : (words : List (List ℕ)) → AreMarked words → list_all (is_of Printed) (led 32 words) ≡ true
unfolding is_of
marked_printed [] all = refl
marked_printed (word ∷ words) all =
    let parts = and_parts (list_all marked_byte word) (list_all (list_all marked_byte) words) all in
    list_all-both (is_of Printed) word (led 32 words) (list_all-weaker marked_byte (is_of Printed) printed-marked word parts.0) (marked_printed words parts.1)
