-- What is put into the words of a line, and what they leave out.
use Rattle.std.proofs.Common.{◌≡◌, ℕ, ◌+◌, ◌<◌, ◌≤◌, ◌^◌, ℤ, Bool, true, false, not, eqb, List, [], ◌∷◌, ◌++◌, length, length-append, Option, Some, None, option_map, inl, inr, refl, sym, ap, ◌∙◌, arith, append_assoc}
use Rattle.std.specs.Prelude.{codes, decimal, map, is_some}
use Rattle.std.specs.Fmt.{signed_decimal}
use Rattle.std.specs.List.{list_all, prefix_len}
use Rattle.std.specs.Option.{option_map_or}
use Rattle.std.specs.Str.{bytes_eq}
use Rattle.std.proofs.lemmas.Bool.{cases_Bool, and_parts, le-ltb, lt-ltb, ne_eqb, false≢true}
use Rattle.std.proofs.lemmas.List.{append-nil}
use Rattle.std.proofs.lemmas.Slice.Eq.{bytes_eq-Decides}
use Rattle.fmp_codes.specs.Codes.{name_of}
use Rattle.fmp_codes.specs.Records.{ValueFits, AnswerFits}
use Rattle.fmp_codes.specs.declared.codes.Code.{Code}
use Rattle.fmp_codes.specs.declared.codes.Code.TheVariants.{Accepted, Parameter, Identifier, Context, IllegalUse, ObjectState, QueueOverflow, WaitReleased, TimedOut}
use Rattle.fmp_codes.specs.declared.kinds.ObjectKind.TheVariants as objects
use Rattle.fmp_codes.specs.declared.numbers.Proc.{Proc}
use Rattle.fmp_codes.specs.declared.numbers.Task.{Task}
use Rattle.fmp_codes.specs.declared.records.Answer.{Answer}
use Rattle.fmp_codes.specs.declared.records.Answer.TheVariants as answers
use Rattle.fmp_codes.specs.declared.records.Release.{Release}
use Rattle.fmp_bytes.specs.declared.classes.Class.TheVariants.{Argument, Line}
use Rattle.fmp_bytes.specs.Bytes.{is_of, cut_at}
use Rattle.fmp_bytes.proofs.Cutting.{cut_at-append}
use Rattle.fmp_bytes.proofs.Spelled.{number_of-spelled}
use Rattle.fmp_bytes.proofs.Included.{line-argument}
use Rattle.fmp_bytes.proofs.Prefixes.{prefix_len-all, list_all-weaker, list_all-both}
use Rattle.fmp_names.specs.Names.{NameLists, AreValid}
use Rattle.fmp_trace.specs.Fits.{IsNamed, ReleasesFit, RunningFits, RunChangeFits}
use Rattle.fmp_trace.specs.Lines.{after_code, code_text, answer_text, task_text, running_text}
use Rattle.fmp_trace.proofs.Bytes.{other_than, of_words, code_words, decimal_bytes}
use Rattle.fmp_trace.proofs.GuessedTails.{release_word, lost_words, run_words, request_words, numbers}
use Rattle.fmp_trace.proofs.GuessedCalls.{led}
use Rattle.fmp_trace.proofs.GuessedValues.{signed_bytes, name_bytes}
use Rattle.fmp_trace_partial.specs.Marks.{code_kept_in, filled_code, answer_kept_in, filled_answer, filled_part, filled_word, is_bound, filled_led, ends_answer, filled_words, with_code, bound_in, with_bound, with_part, with_mark, with_marks}
use Rattle.fmp_trace_partial.specs.Partial.{kept_code_text, bare_code_text, kept_answer_text, next_kept, later_kept, IsBound}
use Rattle.fmp_trace_partial.specs.declared.codes_kept.AnswerKept.{AnswerKept}
use Rattle.fmp_trace_partial.specs.declared.codes_kept.AnswerKept.TheVariants as of_answer
use Rattle.fmp_trace_partial.specs.declared.codes_kept.CodeKept.{CodeKept}
use Rattle.fmp_trace_partial.specs.declared.codes_kept.CodeKept.TheVariants as of_code
use Rattle.fmp_trace_partial.specs.declared.marks.Marks.{Marks}
use Rattle.fmp_trace_partial.proofs.ToldCodes.{told_answer, answer_written, told_release, told_each, written_each, same_task}

-- ---- texts in which nothing is left out

-- a text without such a byte is not cut
pub cut_none : (c : ℕ) (text : List ℕ) → list_all (λ b. not (eqb b c)) text ≡ true → cut_at c text ≡ (text, None)
unfolding cut_at
cut_none c text apart =
    let none = ap (prefix_len (λ b. not (eqb b c))) (sym (append-nil text)) ∙ prefix_len-all (λ b. not (eqb b c)) text [] apart refl in
    let test = le-ltb (length text) (length text) (omega arith) in
    rw (none, test) refl

-- a text of bytes of a class is no other text
not_text : (p : ℕ → Bool) (text other : List ℕ) → list_all p text ≡ true → list_all p other ≡ false → bytes_eq text other ≡ false
not_text p text other all out =
    elim (cases_Bool (bytes_eq text other)) [
      | inl t ↦ absurd (false≢true (sym out ∙ ap (list_all p) (sym ((bytes_eq-Decides text other).0 t)) ∙ all))
      | inr f ↦ f
    ]

-- bytes that may stand before an answer
abbrev pub IsPlain : List ℕ → Type 0
IsPlain text = list_all (is_of Line) text ≡ true

pub plain_argument : (text : List ℕ) → list_all (is_of Argument) text ≡ true → IsPlain text
plain_argument text all = list_all-weaker (is_of Argument) (is_of Line) line-argument text all

plain_equals : (text : List ℕ) → IsPlain text → cut_at 61 text ≡ (text, None)
unfolding is_of
plain_equals text plain = cut_none 61 text (other_than (is_of Line) 61 refl text plain)

pub plain_colon : (text : List ℕ) → IsPlain text → cut_at 58 text ≡ (text, None)
unfolding is_of
plain_colon text plain = cut_none 58 text (other_than (is_of Line) 58 refl text plain)

pub plain_led : (word : List ℕ) → IsPlain word → filled_led false word ≡ 32 ∷ word
unfolding filled_led is_bound filled_word
plain_led word plain = rw (plain_equals word plain) refl

-- ---- codes

-- no code is a mark, nor the word for an answer that is left out
no_star : (c : Code) (rest : List ℕ) → bytes_eq (name_of c ++ rest) (codes "*") ≡ false
no_star Accepted rest = refl
no_star Parameter rest = refl
no_star Identifier rest = refl
no_star Context rest = refl
no_star IllegalUse rest = refl
no_star ObjectState rest = refl
no_star QueueOverflow rest = refl
no_star WaitReleased rest = refl
no_star TimedOut rest = refl

no_question : (c : Code) (rest : List ℕ) → bytes_eq (name_of c ++ rest) (codes "?") ≡ false
no_question Accepted rest = refl
no_question Parameter rest = refl
no_question Identifier rest = refl
no_question Context rest = refl
no_question IllegalUse rest = refl
no_question ObjectState rest = refl
no_question QueueOverflow rest = refl
no_question WaitReleased rest = refl
no_question TimedOut rest = refl

no_open : (c : Code) (rest : List ℕ) → bytes_eq (name_of c ++ rest) (codes "open") ≡ false
no_open Accepted rest = refl
no_open Parameter rest = refl
no_open Identifier rest = refl
no_open Context rest = refl
no_open IllegalUse rest = refl
no_open ObjectState rest = refl
no_open QueueOverflow rest = refl
no_open WaitReleased rest = refl
no_open TimedOut rest = refl

-- a code's name ends at the colon after it, if there is one
coded_cut : (c : Code) (rest : List ℕ) → cut_at 58 (name_of c ++ 58 ∷ rest) ≡ (name_of c, Some rest)
unfolding is_of
coded_cut c rest = cut_at-append 58 (name_of c) rest (other_than (is_of Argument) 58 refl (name_of c) (of_words (name_of c) (code_words c)))

valued_cut : (c : Code) (value : Option ℤ) → cut_at 58 (code_text c value) ≡ (name_of c, option_map signed_decimal value)
unfolding code_text
valued_cut c None = ap (cut_at 58) (append-nil (name_of c)) ∙ plain_colon (name_of c) (plain_argument (name_of c) (of_words (name_of c) (code_words c)))
valued_cut c (Some v) = coded_cut c (signed_decimal v)

no_mark : (value : Option ℤ) → ValueFits value → option_map_or (λ v. bytes_eq v (codes "*")) (option_map signed_decimal value) false ≡ false
unfolding is_of
no_mark None fits = refl
no_mark (Some v) fits = not_text (is_of Argument) (signed_decimal v) (codes "*") (signed_bytes v fits) refl

-- how much is written of a code is seen
pub code_seen : (kept : CodeKept) (c : Code) (value : Option ℤ) → ValueFits value → code_kept_in (kept_code_text kept c value) ≡ kept
unfolding code_kept_in code_text
code_seen of_code.Whole c value fits = rw (no_star c _, valued_cut c value, no_mark value fits) refl
code_seen of_code.NoValue c value fits = rw (no_star c _, coded_cut c (codes "*")) refl
code_seen of_code.Nothing c value fits = refl

-- and the rest is put in
whole_told : (c : Code) (value : Option ℤ) → ValueFits value → filled_code (code_text c value) ≡ code_text c value
unfolding filled_code
whole_told c value fits = let seen = code_seen of_code.Whole c value fits in rw seen refl

bare_told : (c : Code) → filled_code (bare_code_text c) ≡ code_text c None
unfolding filled_code code_text
bare_told c =
    let seen = code_seen of_code.NoValue c None tt in
    rw seen (ap (λ (p : List ℕ × Option (List ℕ)). p.0) (coded_cut c (codes "*")) ∙ sym (append-nil (name_of c)))

code_told : (kept : CodeKept) (r : Release) → ValueFits r.value → filled_code (kept_code_text kept r.code r.value) ≡ code_text (told_release kept r).code (told_release kept r).value
unfolding filled_code code_kept_in code_text
code_told of_code.Whole r fits = whole_told r.code r.value fits
code_told of_code.NoValue r fits = bare_told r.code
code_told of_code.Nothing r fits = refl

-- ---- the answer

-- no answer has a `=`
bare_equals : (c : Code) → cut_at 61 (bare_code_text c) ≡ (bare_code_text c, None)
unfolding cut_at
bare_equals Accepted = refl
bare_equals Parameter = refl
bare_equals Identifier = refl
bare_equals Context = refl
bare_equals IllegalUse = refl
bare_equals ObjectState = refl
bare_equals QueueOverflow = refl
bare_equals WaitReleased = refl
bare_equals TimedOut = refl

value_equals : (value : Option ℤ) → ValueFits value → list_all (λ b. not (eqb b 61)) (after_code value) ≡ true
unfolding is_of
value_equals None fits = refl
value_equals (Some v) fits = other_than (is_of Argument) 61 refl (signed_decimal v) (signed_bytes v fits)

code_equals : (c : Code) (value : Option ℤ) → ValueFits value → cut_at 61 (code_text c value) ≡ (code_text c value, None)
unfolding code_text is_of
code_equals c value fits =
    cut_none 61 (name_of c ++ after_code value)
    (list_all-both (λ b. not (eqb b 61)) (name_of c) (after_code value) (other_than (is_of Argument) 61 refl (name_of c) (of_words (name_of c) (code_words c))) (value_equals value fits))

pub answer_equals : (kept : AnswerKept) (a : Answer) → AnswerFits a → cut_at 61 (kept_answer_text kept a) ≡ (kept_answer_text kept a, None)
unfolding cut_at
answer_equals of_answer.Whole (answers.Done c value) fits = code_equals c value fits
answer_equals of_answer.NoValue (answers.Done c value) fits = bare_equals c
answer_equals of_answer.Whole other fits = refl
answer_equals of_answer.NoValue other fits = refl
answer_equals of_answer.Happened a fits = refl
answer_equals of_answer.Open a fits = refl

-- how much is written of an answer is seen
pub answer_seen : (kept : AnswerKept) (a : Answer) → AnswerFits a → answer_kept_in (kept_answer_text kept a) ≡ answer_written kept a
unfolding answer_kept_in code_kept_in code_text cut_at
answer_seen of_answer.Whole (answers.Done c value) fits = let seen = code_seen of_code.Whole c value fits in rw (no_question c _, no_open c _, seen) refl
answer_seen of_answer.NoValue (answers.Done c value) fits = let seen = code_seen of_code.NoValue c None tt in rw (no_question c _, no_open c _, seen) refl
answer_seen of_answer.Whole other fits = refl
answer_seen of_answer.NoValue other fits = refl
answer_seen of_answer.Happened a fits = refl
answer_seen of_answer.Open a fits = refl

-- and the rest is put in
answer_filled : (kept : AnswerKept) (a : Answer) → AnswerFits a → filled_answer (kept_answer_text kept a) ≡ answer_text (told_answer kept a)
unfolding filled_answer filled_code code_kept_in code_text cut_at
answer_filled of_answer.Whole (answers.Done c value) fits = let told = whole_told c value fits in rw (no_question c _, no_open c _) told
answer_filled of_answer.NoValue (answers.Done c value) fits = let told = bare_told c in rw (no_question c _, no_open c _) told
answer_filled of_answer.Whole other fits = refl
answer_filled of_answer.NoValue other fits = refl
answer_filled of_answer.Happened a fits = refl
answer_filled of_answer.Open a fits = refl

pub answer_told : (kept : AnswerKept) (a : Answer) → AnswerFits a → filled_led true (kept_answer_text kept a) ≡ 32 ∷ answer_text (told_answer kept a)
unfolding filled_led is_bound filled_word
answer_told kept a fits = let apart = answer_equals kept a fits in rw apart (ap (λ (t : List ℕ). 32 ∷ t) (answer_filled kept a fits))

-- ---- the words after it

led_more : (word : List ℕ) (words : List (List ℕ)) (more : List ℕ) → 32 ∷ (word ++ (led 32 words ++ more)) ≡ led 32 (word ∷ words) ++ more
led_more word words more = ap (λ (t : List ℕ). 32 ∷ t) (sym (append_assoc word (led 32 words) more))

-- a release without the blank before it
abbrev pub kept_release_word : NameLists → CodeKept → Release → List ℕ
kept_release_word names kept r = codes "rel" ++ 61 ∷ (task_text names r.task ++ 58 ∷ kept_code_text kept r.code r.value)

abbrev pub kept_each_words : NameLists → List CodeKept → List Release → List (List ℕ)
kept_each_words names kept [] = []
kept_each_words names kept (r ∷ rs) = kept_release_word names (next_kept kept) r ∷ kept_each_words names (later_kept kept) rs

abbrev pub kept_release_words : NameLists → List CodeKept → List Release → List (List ℕ)
kept_release_words names [] rs = []
kept_release_words names (kept ∷ others) rs = kept_each_words names (kept ∷ others) rs

module _ (names : NameLists) (valid : AreValid names) where
  task_cut : (r : Release) (rest : List ℕ) → IsNamed names objects.Task r.task.number → cut_at 58 (task_text names r.task ++ 58 ∷ rest) ≡ (task_text names r.task, Some rest)
  unfolding is_of
  task_cut r rest is_named = cut_at-append 58 (task_text names r.task) rest (other_than (is_of Argument) 58 refl (task_text names r.task) (name_bytes names objects.Task r.task.number valid is_named))

  release_told : (last : Bool) (kept : CodeKept) (r : Release) → IsNamed names objects.Task r.task.number → ValueFits r.value
      → filled_led last (kept_release_word names kept r) ≡ 32 ∷ release_word names (told_release kept r)
  unfolding filled_led is_bound filled_word filled_part
  release_told last kept r is_named fits =
      let key = cut_at-append 61 (codes "rel") (task_text names r.task ++ 58 ∷ kept_code_text kept r.code r.value) refl in
      let task = task_cut r (kept_code_text kept r.code r.value) is_named in
      let told = code_told kept r fits in
      let code = code_text (told_release kept r).code (told_release kept r).value in
      rw (key, task, told)
      (ap (λ (t : List ℕ). 32 ∷ 114 ∷ 101 ∷ 108 ∷ 61 ∷ t) (append_assoc (task_text names r.task) (58 ∷ []) code ∙ ap (λ (t : Task). task_text names t ++ 58 ∷ code) (sym (same_task kept r))))

  release_marked : (m : Marks) (kept : CodeKept) (r : Release) → IsNamed names objects.Task r.task.number → ValueFits r.value → length m.releases < 64
      → with_mark m (kept_release_word names kept r) ≡ Some (record m { releases = m.releases ++ kept ∷ [] })
  unfolding with_mark with_part with_code
  release_marked m kept r is_named fits few =
      let key = cut_at-append 61 (codes "rel") (task_text names r.task ++ 58 ∷ kept_code_text kept r.code r.value) refl in
      let task = task_cut r (kept_code_text kept r.code r.value) is_named in
      let seen = code_seen kept r.code r.value fits in
      let room = ne_eqb (length m.releases) 64 (λ e. omega (arith, few, e)) in
      rw (key, task, seen, room) refl

  pub releases_told : (kept : List CodeKept) (rs : List Release) (more : List (List ℕ)) → ReleasesFit names rs
      → filled_words (kept_each_words names kept rs ++ more) ≡ led 32 (map (release_word names) (told_each kept rs)) ++ filled_words more
  releases_told kept [] more fits = refl
  releases_told kept (r ∷ rs) more fits =
      let word = release_word names (told_release (next_kept kept) r) in
      let one = release_told (ends_answer (kept_each_words names (later_kept kept) rs ++ more)) (next_kept kept) r fits.0 fits.1 in
      let others = releases_told (later_kept kept) rs more fits.2 in
      rw (one, others) (led_more word (map (release_word names) (told_each (later_kept kept) rs)) (filled_words more))

  pub releases_marked : (m : Marks) (kept : List CodeKept) (rs : List Release) (words : List (List ℕ)) → ReleasesFit names rs → length m.releases + length rs ≤ 64
      → with_marks m (kept_each_words names kept rs ++ words) ≡ with_marks (record m { releases = m.releases ++ written_each kept rs }) words
  releases_marked m kept [] words fits few = ap (λ (all : List CodeKept). with_marks (record m { releases = all }) words) (sym (append-nil m.releases))
  releases_marked m kept (r ∷ rs) words fits few =
      let one = release_marked m (next_kept kept) r fits.0 fits.1 (omega (arith, few)) in
      let rest = releases_marked (record m { releases = m.releases ++ next_kept kept ∷ [] }) (later_kept kept) rs words fits.2 (omega (arith, few, length-append m.releases (next_kept kept ∷ []))) in
      rw one (rest ∙ ap (λ (all : List CodeKept). with_marks (record m { releases = all }) words) (append_assoc m.releases (next_kept kept ∷ []) (written_each (later_kept kept) rs)))

-- ---- words that leave out nothing

pub record IsUnmarked (word : List ℕ) : Type 0 where
  pub filled : (last : Bool) → filled_led last word ≡ 32 ∷ word
  pub marks : (m : Marks) → with_mark m word ≡ Some m
  pub keyed : is_some (cut_at 61 word).1 ≡ true

abbrev pub AllUnmarked : List (List ℕ) → Type 0
AllUnmarked [] = Unit {0}
AllUnmarked (word ∷ words) = IsUnmarked word × AllUnmarked words

keyed : (key text : List ℕ) → list_all (λ b. not (eqb b 61)) key ≡ true → bytes_eq key (codes "by") ≡ false → list_all (λ b. not (eqb b 58)) text ≡ true → IsUnmarked (key ++ 61 ∷ text)
unfolding filled_led is_bound filled_word filled_part with_mark with_part
keyed key text apart other none =
    let key_cut = cut_at-append 61 key text apart in
    let text_cut = cut_none 58 text none in
    record {
      filled = λ last. rw (key_cut, other, text_cut) (ap (λ (t : List ℕ). 32 ∷ t) (append_assoc key (61 ∷ []) text));
      marks = λ m. rw (key_cut, other, text_cut) refl;
      keyed = rw key_cut refl;
    }

no_colon : (text : List ℕ) → list_all (is_of Argument) text ≡ true → list_all (λ b. not (eqb b 58)) text ≡ true
unfolding is_of
no_colon text all = other_than (is_of Argument) 58 refl text all

lost_unmarked : (lost : Option ℤ) → ValueFits lost → AllUnmarked (lost_words lost)
lost_unmarked None fits = tt
lost_unmarked (Some v) fits = (keyed (codes "lost") (signed_decimal v) refl refl (no_colon (signed_decimal v) (signed_bytes v fits)), tt)

running_colon : (names : NameLists) (running : Option Task) → AreValid names → RunningFits names running → list_all (λ b. not (eqb b 58)) (running_text names running) ≡ true
running_colon names None valid fits = refl
running_colon names (Some t) valid fits = no_colon (task_text names t) (name_bytes names objects.Task t.number valid fits)

run_unmarked : (names : NameLists) (change : Option (Option Task)) → AreValid names → RunChangeFits names change → AllUnmarked (run_words names change)
run_unmarked names None valid fits = tt
run_unmarked names (Some running) valid fits = (keyed (codes "run") (running_text names running) refl refl (running_colon names running valid fits), tt)

numbers_colon : (ps : List Proc) → list_all (λ b. not (eqb b 58)) (led 44 (numbers ps)) ≡ true
numbers_colon [] = refl
numbers_colon (p ∷ ps) =
    list_all-both (λ b. not (eqb b 58)) (decimal p.number) (led 44 (numbers ps)) (no_colon (decimal p.number) (decimal_bytes p.number (omega (arith, p.most)))) (numbers_colon ps)

requests_unmarked : (ps : List Proc) → AllUnmarked (request_words ps)
requests_unmarked [] = tt
requests_unmarked (p ∷ ps) = (keyed (codes "ipi") (decimal p.number ++ led 44 (numbers ps)) refl refl (numbers_colon (p ∷ ps)), tt)

both_unmarked : (xs ys : List (List ℕ)) → AllUnmarked xs → AllUnmarked ys → AllUnmarked (xs ++ ys)
both_unmarked [] ys none others = others
both_unmarked (x ∷ xs) ys all others = (all.0, both_unmarked xs ys all.1 others)

pub others_unmarked : (names : NameLists) (lost : Option ℤ) (change : Option (Option Task)) (ps : List Proc) → AreValid names → ValueFits lost → RunChangeFits names change
    → AllUnmarked (lost_words lost ++ (run_words names change ++ request_words ps))
others_unmarked names lost change ps valid lost_fits change_fits =
    both_unmarked (lost_words lost) (run_words names change ++ request_words ps) (lost_unmarked lost lost_fits)
    (both_unmarked (run_words names change) (request_words ps) (run_unmarked names change valid change_fits) (requests_unmarked ps))

pub unmarked_filled : (words more : List (List ℕ)) → AllUnmarked words → filled_words (words ++ more) ≡ led 32 words ++ filled_words more
unmarked_filled [] more all = refl
unmarked_filled (word ∷ words) more all =
    let one = all.0.filled (ends_answer (words ++ more)) in
    let others = unmarked_filled words more all.1 in
    rw (one, others) (led_more word words (filled_words more))

pub unmarked_marks : (m : Marks) (words more : List (List ℕ)) → AllUnmarked words → with_marks m (words ++ more) ≡ with_marks m more
unmarked_marks m [] more all = refl
unmarked_marks m (word ∷ words) more all = let one = all.0.marks m in rw one (unmarked_marks m words more all.1)

-- ---- the bound

abbrev pub bound_words : Option ℕ → List (List ℕ)
bound_words None = []
bound_words (Some last) = (codes "by" ++ 61 ∷ decimal last) ∷ []

pub bound_filled : (bound : Option ℕ) → filled_words (bound_words bound) ≡ []
unfolding filled_led is_bound
bound_filled None = refl
bound_filled (Some last) = let key = cut_at-append 61 (codes "by") (decimal last) refl in rw key refl

number_found : (last : ℕ) → last < 2 ^ 32 → bound_in (decimal last) ≡ Some last
unfolding bound_in
number_found last small =
    let test = lt-ltb last (2 ^ 32) small in
    rw (number_of-spelled (decimal last) false last (omega (arith, small), inl refl), test) refl

pub bound_marked : (n : ℕ) (m : Marks) (bound : Option ℕ) → m.bound ≡ None → IsBound n bound → with_marks m (bound_words bound) ≡ Some (record m { bound = bound })
unfolding with_mark with_part with_bound
bound_marked n m None none is = ap (λ (b : Option ℕ). Some (record m { bound = b })) none
bound_marked n m (Some last) none is =
    let key = cut_at-append 61 (codes "by") (decimal last) refl in
    let found = number_found last is.1 in
    rw (key, found) refl

-- ---- words that follow the answer

pub ends_both : (xs ys : List (List ℕ)) → ends_answer xs ≡ true → ends_answer ys ≡ true → ends_answer (xs ++ ys) ≡ true
ends_both [] ys none others = others
ends_both (x ∷ xs) ys first others = first

pub releases_end : (names : NameLists) (kept : List CodeKept) (rs : List Release) → ends_answer (kept_each_words names kept rs) ≡ true
releases_end names kept [] = refl
releases_end names kept (r ∷ rs) = let key = cut_at-append 61 (codes "rel") (task_text names r.task ++ 58 ∷ kept_code_text (next_kept kept) r.code r.value) refl in rw key refl

pub unmarked_end : (words : List (List ℕ)) → AllUnmarked words → ends_answer words ≡ true
unmarked_end [] all = refl
unmarked_end (word ∷ words) all = all.0.keyed

pub bound_end : (bound : Option ℕ) → ends_answer (bound_words bound) ≡ true
bound_end None = refl
bound_end (Some last) = let key = cut_at-append 61 (codes "by") (decimal last) refl in rw key refl

-- ---- words before the answer

abbrev pub AllPlain : List (List ℕ) → Type 0
AllPlain words = list_all (list_all (is_of Line)) words ≡ true

-- a word that is followed by such a word, or by the answer, is no answer
plain_next : (words : List (List ℕ)) (answer : List ℕ) (others : List (List ℕ)) → AllPlain words → cut_at 61 answer ≡ (answer, None) → ends_answer (words ++ answer ∷ others) ≡ false
plain_next [] answer others all apart = rw apart refl
plain_next (word ∷ words) answer others all apart =
    let equals = plain_equals word (and_parts (list_all (is_of Line) word) (list_all (list_all (is_of Line)) words) all).0 in
    rw equals refl

pub plain_words : (words : List (List ℕ)) (answer : List ℕ) (others : List (List ℕ)) → AllPlain words → cut_at 61 answer ≡ (answer, None)
    → filled_words (words ++ answer ∷ others) ≡ led 32 words ++ (filled_led (ends_answer others) answer ++ filled_words others)
plain_words [] answer others all apart = refl
plain_words (word ∷ words) answer others all apart =
    let parts = and_parts (list_all (is_of Line) word) (list_all (list_all (is_of Line)) words) all in
    let next = plain_next words answer others parts.1 apart in
    let one = plain_led word parts.0 in
    let rest = plain_words words answer others parts.1 apart in
    rw (next, one, rest) (led_more word words (filled_led (ends_answer others) answer ++ filled_words others))

-- the answer is the last word without a `=`
pub answer_marked : (m : Marks) (words : List (List ℕ)) (answer : List ℕ) (others : List (List ℕ)) → AllPlain words → cut_at 61 answer ≡ (answer, None)
    → with_marks m (words ++ answer ∷ others) ≡ with_marks (record m { answer = answer_kept_in answer }) others
unfolding with_mark
answer_marked m [] answer others all apart = rw apart refl
answer_marked m (word ∷ words) answer others all apart =
    let parts = and_parts (list_all (is_of Line) word) (list_all (list_all (is_of Line)) words) all in
    let equals = plain_equals word parts.0 in
    let rest = answer_marked (record m { answer = answer_kept_in word }) words answer others parts.1 apart in
    rw equals rest
