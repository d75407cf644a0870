-- What is printed after the answer is guessed right, word by word.
use Rattle.std.proofs.Common.{◌≡◌, ℕ, suc, ◌+◌, ◌<◌, ◌≤◌, Bool, true, not, eqb, List, [], ◌∷◌, ◌++◌, length, length-append, Option, Some, None, refl, sym, ap, ◌∙◌, arith, add-one, append_assoc}
use Rattle.std.specs.Prelude.{ℤ, codes, decimal, map}
use Rattle.std.specs.Fmt.{signed_decimal}
use Rattle.std.specs.List.{list_all}
use Rattle.std.proofs.lemmas.Bool.{lt-ltb, ne_eqb, and_from}
use Rattle.std.proofs.lemmas.List.{append-nil}
use Rattle.std.proofs.lemmas.List.Folds.{list_all-append}
use Rattle.fmp_codes.specs.Codes as code
use Rattle.fmp_codes.specs.declared.codes.Code.{Code}
use Rattle.fmp_codes.specs.declared.numbers.Proc.{Proc}
use Rattle.fmp_codes.specs.declared.numbers.Task.{Task}
use Rattle.fmp_codes.specs.declared.records.Event.{Event}
use Rattle.fmp_codes.specs.declared.records.Runner.{Runner}
use Rattle.fmp_codes.specs.declared.records.Answer.{Answer}
use Rattle.fmp_codes.specs.declared.records.Answer.TheVariants as answers
use Rattle.fmp_codes.specs.declared.records.Release.{Release}
use Rattle.fmp_codes.specs.declared.records.Record.{Record}
use Rattle.fmp_bytes.specs.declared.classes.Class.TheVariants.{Argument}
use Rattle.fmp_bytes.specs.Bytes.{is_of, pieces_of}
use Rattle.fmp_bytes.proofs.Cutting.{cut_at-append, pieces_of-join}
use Rattle.fmp_bytes.proofs.Prefixes.{list_all-weaker, list_all-both}
use Rattle.fmp_codes.specs.declared.kinds.ObjectKind.TheVariants as objects
use Rattle.fmp_names.specs.Names.{NameLists, AreValid}
use Rattle.fmp_codes.specs.Records.{ValueFits, AnswerFits, Ascend}
use Rattle.fmp_trace.specs.Fits.{IsNamed, ReleasesFit, RunningFits, RunChangeFits}
use Rattle.fmp_trace.specs.Guess.{with_release, with_lost, with_run_change, with_requests, with_part, with_word, with_words}
use Rattle.fmp_trace.specs.GuessParts.{release_in, request_in, requests_in}
use Rattle.fmp_trace.specs.Lines.{code_text, answer_text, task_text, release_text, releases_text, lost_text, running_text, run_change_text, requests_from, tail_text}
use Rattle.fmp_trace.proofs.Bytes.{other_than, solid, solid-argument, decimal_bytes, of_words, code_words}
use Rattle.fmp_trace.proofs.GuessedCalls.{led, join-led}
use Rattle.fmp_trace.proofs.GuessedValues.{signed_guessed, signed_bytes, processor_guessed, task_guessed, name_bytes, running_guessed, coded_guessed}

-- ---- the words of a line

abbrev pub release_word : NameLists → Release → List ℕ
release_word names r = (114 ∷ 101 ∷ 108 ∷ []) ++ 61 ∷ (task_text names r.task ++ 58 ∷ code_text r.code r.value)

abbrev pub lost_words : Option ℤ → List (List ℕ)
lost_words None = []
lost_words (Some v) = (codes "lost" ++ 61 ∷ signed_decimal v) ∷ []

abbrev pub run_words : NameLists → Option (Option Task) → List (List ℕ)
run_words names None = []
run_words names (Some running) = (codes "run" ++ 61 ∷ running_text names running) ∷ []

-- the numbers of processors
abbrev pub numbers : List Proc → List (List ℕ)
numbers [] = []
numbers (p ∷ ps) = decimal p.number ∷ numbers ps

abbrev pub request_words : List Proc → List (List ℕ)
request_words [] = []
request_words (p ∷ ps) = (codes "ipi" ++ 61 ∷ (decimal p.number ++ led 44 (numbers ps))) ∷ []

abbrev pub tail_words : NameLists → Record → List (List ℕ)
tail_words names r = map (release_word names) r.releases ++ (lost_words r.lost ++ (run_words names r.run_change ++ request_words r.requests))

led-append : (c : ℕ) (xs ys : List (List ℕ)) → led c (xs ++ ys) ≡ led c xs ++ led c ys
led-append c [] ys = refl
led-append c (x ∷ xs) ys = ap (λ (r : List ℕ). c ∷ (x ++ r)) (led-append c xs ys) ∙ ap (λ (r : List ℕ). c ∷ r) (sym (append_assoc x (led c xs) (led c ys)))

release-led : (names : NameLists) (r : Release) → release_text names r ≡ 32 ∷ release_word names r
unfolding release_text
release-led names r = simp append_assoc

releases-led : (names : NameLists) (rs : List Release) → releases_text names rs ≡ led 32 (map (release_word names) rs)
releases-led names [] = refl
releases-led names (r ∷ rs) = rw (release-led names r) (ap (λ (t : List ℕ). 32 ∷ (release_word names r ++ t)) (releases-led names rs))

lost-led : (lost : Option ℤ) → lost_text lost ≡ led 32 (lost_words lost)
lost-led None = refl
lost-led (Some v) = sym (append-nil (lost_text (Some v)))

run-led : (names : NameLists) (change : Option (Option Task)) → run_change_text names change ≡ led 32 (run_words names change)
run-led names None = refl
run-led names (Some running) = sym (append-nil (run_change_text names (Some running)))

numbers-led : (i : ℕ) (ps : List Proc) → requests_from (suc i) ps ≡ led 44 (numbers ps)
numbers-led i [] = refl
numbers-led i (p ∷ ps) =
    let rest : requests_from (suc i + 1) ps ≡ led 44 (numbers ps) = rw add-one (numbers-led (suc i) ps) in
    ap (λ (t : List ℕ). 44 ∷ (decimal p.number ++ t)) rest

requests-led : (ps : List Proc) → requests_from 0 ps ≡ led 32 (request_words ps)
requests-led [] = refl
requests-led (p ∷ ps) = ap (λ (t : List ℕ). (codes " ipi=" ++ decimal p.number) ++ t) (numbers-led 0 ps) ∙ sym (append-nil ((codes " ipi=" ++ decimal p.number) ++ led 44 (numbers ps)))

pub tail-led : (names : NameLists) (r : Record) → tail_text names r ≡ led 32 (tail_words names r)
unfolding tail_text
tail-led names r =
    let a = releases-led names r.releases in let b = lost-led r.lost in let c = run-led names r.run_change in let d = requests-led r.requests in
    rw (a, b, c, d, led-append, led-append, led-append) (simp append_assoc)

-- ---- guessing them

key_word : (names : NameLists) (r : Record) (key text : List ℕ) → list_all (λ b. not (eqb b 61)) key ≡ true → with_word names r (key ++ 61 ∷ text) ≡ with_part names r key text
unfolding with_word
key_word names r key text apart = rw (cut_at-append 61 key text apart) refl

release_guessed : (names : NameLists) (r : Record) (q : Release) → AreValid names → IsNamed names objects.Task q.task.number → ValueFits q.value → length r.releases < 64
    → with_word names r (release_word names q) ≡ Some (record r { releases = r.releases ++ q ∷ [] })
unfolding with_part with_release release_in is_of
release_guessed names r q valid is_named fits few =
    let task = task_guessed names q.task valid is_named in
    let apart = other_than (is_of Argument) 58 refl (task_text names q.task) (name_bytes names objects.Task q.task.number valid is_named) in
    let room = ne_eqb (length r.releases) 64 (λ e. omega (arith, few, e)) in
    key_word names r (codes "rel") (task_text names q.task ++ 58 ∷ code_text q.code q.value) refl
    ∙ rw (cut_at-append 58 (task_text names q.task) (code_text q.code q.value) apart, task, coded_guessed q.code q.value fits, room) refl

releases_guessed : (names : NameLists) (r : Record) (rs : List Release) (words : List (List ℕ)) → AreValid names → ReleasesFit names rs → length r.releases + length rs ≤ 64
    → with_words names r (map (release_word names) rs ++ words) ≡ with_words names (record r { releases = r.releases ++ rs }) words
releases_guessed names r [] words valid fits few =
    let same = append-nil r.releases in
    ap (λ (rs : List Release). with_words names (record r { releases = rs }) words) (sym same)
releases_guessed names r (q ∷ rs) words valid fits few =
    let one = release_guessed names r q valid fits.0 fits.1 (omega (arith, few)) in
    let rest = releases_guessed names (record r { releases = r.releases ++ q ∷ [] }) rs words valid fits.2 (omega (arith, few, length-append r.releases (q ∷ []))) in
    rw one (rest ∙ ap (λ (all : List Release). with_words names (record r { releases = all }) words) (append_assoc r.releases (q ∷ []) rs))

-- a record with these parts
abbrev pub made : Event → Option Runner → Answer → List Release → Option ℤ → Option (Option Task) → List Proc → Record
made e runner a releases lost change requests = record { event = e; runner = runner; answer = a; releases = releases; lost = lost; run_change = change; requests = requests }

module _ (names : NameLists) (e : Event) (runner : Option Runner) (a : Answer) (releases : List Release) (words : List (List ℕ)) where
  lost_guessed : (lost : Option ℤ) → ValueFits lost → with_words names (made e runner a releases None None []) (lost_words lost ++ words) ≡ with_words names (made e runner a releases lost None []) words
  unfolding with_part with_lost
  lost_guessed None fits = refl
  lost_guessed (Some v) fits =
      let value = signed_guessed v fits in
      rw (key_word names (made e runner a releases None None []) (codes "lost") (signed_decimal v) refl, value) refl

  run_guessed : (lost : Option ℤ) (change : Option (Option Task)) → AreValid names → RunChangeFits names change → with_words names (made e runner a releases lost None []) (run_words names change ++ words) ≡ with_words names (made e runner a releases lost change []) words
  unfolding with_part with_run_change
  run_guessed lost None valid fits = refl
  run_guessed lost (Some running) valid fits =
      let found = running_guessed names running valid fits in
      rw (key_word names (made e runner a releases lost None []) (codes "run") (running_text names running) refl, found) refl

request_guessed : (names : NameLists) (least : ℕ) (p : Proc) → least < p.number → p.number ≤ names.processors → request_in names least (decimal p.number) ≡ Some p
unfolding request_in
request_guessed names least p above most =
    let found = processor_guessed names p most in
    let test = lt-ltb least p.number above in
    rw (found, test) refl

numbers_guessed : (names : NameLists) (least : ℕ) (prefix ps : List Proc) → Ascend names.processors least ps → requests_in names least prefix (numbers ps) ≡ Some (prefix ++ ps)
numbers_guessed names least prefix [] fits = ap (λ (ps : List Proc). Some ps) (sym (append-nil prefix))
numbers_guessed names least prefix (p ∷ ps) fits =
    let one = request_guessed names least p fits.0 fits.1 in
    let rest = numbers_guessed names p.number (prefix ++ p ∷ []) ps fits.2 in
    rw one (rest ∙ ap (λ (all : List Proc). Some all) (append_assoc prefix (p ∷ []) ps))

numbers_apart : (ps : List Proc) → list_all (list_all (λ b. not (eqb b 44))) (numbers ps) ≡ true
unfolding is_of
numbers_apart [] = refl
numbers_apart (p ∷ ps) =
    and_from (list_all (λ b. not (eqb b 44)) (decimal p.number)) (list_all (list_all (λ b. not (eqb b 44))) (numbers ps)) (other_than (is_of Argument) 44 refl (decimal p.number) (decimal_bytes p.number (omega (arith, p.most)))) (numbers_apart ps)

requests_guessed : (names : NameLists) (e : Event) (runner : Option Runner) (a : Answer) (releases : List Release) (lost : Option ℤ) (change : Option (Option Task)) (ps : List Proc) → Ascend names.processors 0 ps
    → with_words names (made e runner a releases lost change []) (request_words ps) ≡ Some (made e runner a releases lost change ps)
unfolding with_part with_requests
requests_guessed names e runner a releases lost change [] fits = refl
requests_guessed names e runner a releases lost change (p ∷ ps) fits =
    let pieces : pieces_of 44 (decimal p.number ++ led 44 (numbers ps)) ≡ numbers (p ∷ ps) = ap (pieces_of 44) (sym (join-led 44 (decimal p.number) (numbers ps))) ∙ pieces_of-join 44 (numbers (p ∷ ps)) (omega arith) (numbers_apart (p ∷ ps)) in
    let found = numbers_guessed names 0 [] (p ∷ ps) fits in
    rw (key_word names (made e runner a releases lost change []) (codes "ipi") (decimal p.number ++ led 44 (numbers ps)) refl, pieces, found) refl

pub tail_guessed : (names : NameLists) (r : Record) → AreValid names → ReleasesFit names r.releases → length r.releases ≤ 64 → ValueFits r.lost → RunChangeFits names r.run_change → Ascend names.processors 0 r.requests
    → with_words names (made r.event r.runner r.answer [] None None []) (tail_words names r) ≡ Some r
tail_guessed names r valid releases few lost change requests =
    releases_guessed names (made r.event r.runner r.answer [] None None []) r.releases (lost_words r.lost ++ (run_words names r.run_change ++ request_words r.requests)) valid releases (omega (arith, few))
    ∙ lost_guessed names r.event r.runner r.answer r.releases (run_words names r.run_change ++ request_words r.requests) r.lost lost
    ∙ run_guessed names r.event r.runner r.answer r.releases (request_words r.requests) r.lost r.run_change valid change
    ∙ requests_guessed names r.event r.runner r.answer r.releases r.lost r.run_change r.requests requests

-- ---- their bytes

abbrev pub AreSolid : List ℕ → Type 0
AreSolid text = list_all solid text ≡ true

of_argument : (text : List ℕ) → list_all (is_of Argument) text ≡ true → AreSolid text
of_argument text all = list_all-weaker (is_of Argument) solid solid-argument text all

code_solid : (c : Code) (value : Option ℤ) → ValueFits value → AreSolid (code_text c value)
unfolding code_text is_of
code_solid c None fits = list_all-both solid (code.name_of c) [] (of_argument (code.name_of c) (of_words (code.name_of c) (code_words c))) refl
code_solid c (Some v) fits = list_all-both solid (code.name_of c) (58 ∷ signed_decimal v) (of_argument (code.name_of c) (of_words (code.name_of c) (code_words c))) (of_argument (signed_decimal v) (signed_bytes v fits))

pub answer_solid : (a : Answer) → AnswerFits a → AreSolid (answer_text a)
unfolding is_of
answer_solid (answers.Done c value) fits = code_solid c value fits
answer_solid answers.Wait fits = refl
answer_solid answers.Spin fits = refl
answer_solid answers.Gone fits = refl
answer_solid answers.Idle fits = refl
answer_solid answers.Held fits = refl
answer_solid answers.Taken fits = refl
answer_solid answers.Nothing fits = refl

abbrev pub AllSolid : List (List ℕ) → Type 0
AllSolid words = list_all (list_all solid) words ≡ true

releases_solid : (names : NameLists) (rs : List Release) → AreValid names → ReleasesFit names rs → AllSolid (map (release_word names) rs)
unfolding is_of
releases_solid names [] valid fits = refl
releases_solid names (r ∷ rs) valid fits =
    and_from (list_all solid (release_word names r)) (list_all (list_all solid) (map (release_word names) rs))
    (list_all-both solid (task_text names r.task) (58 ∷ code_text r.code r.value) (of_argument (task_text names r.task) (name_bytes names objects.Task r.task.number valid fits.0)) (code_solid r.code r.value fits.1))
    (releases_solid names rs valid fits.2)

lost_solid : (lost : Option ℤ) → ValueFits lost → AllSolid (lost_words lost)
unfolding is_of
lost_solid None fits = refl
lost_solid (Some v) fits = and_from (list_all solid (codes "lost" ++ 61 ∷ signed_decimal v)) true (of_argument (signed_decimal v) (signed_bytes v fits)) refl

running_solid : (names : NameLists) (running : Option Task) → AreValid names → RunningFits names running → AreSolid (running_text names running)
unfolding is_of
running_solid names None valid fits = refl
running_solid names (Some t) valid fits = of_argument (task_text names t) (name_bytes names objects.Task t.number valid fits)

run_solid : (names : NameLists) (change : Option (Option Task)) → AreValid names → RunChangeFits names change → AllSolid (run_words names change)
unfolding is_of
run_solid names None valid fits = refl
run_solid names (Some running) valid fits = and_from (list_all solid (codes "run" ++ 61 ∷ running_text names running)) true (running_solid names running valid fits) refl

numbers_solid : (ps : List Proc) → AreSolid (led 44 (numbers ps))
unfolding is_of
numbers_solid [] = refl
numbers_solid (p ∷ ps) = list_all-both solid (decimal p.number) (led 44 (numbers ps)) (of_argument (decimal p.number) (decimal_bytes p.number (omega (arith, p.most)))) (numbers_solid ps)

requests_solid : (ps : List Proc) → AllSolid (request_words ps)
unfolding is_of
requests_solid [] = refl
requests_solid (p ∷ ps) =
    and_from (list_all solid (codes "ipi" ++ 61 ∷ (decimal p.number ++ led 44 (numbers ps)))) true
    (list_all-both solid (decimal p.number) (led 44 (numbers ps)) (of_argument (decimal p.number) (decimal_bytes p.number (omega (arith, p.most)))) (numbers_solid ps)) refl

all-append : (p : List ℕ → Bool) (xs ys : List (List ℕ)) → list_all p xs ≡ true → list_all p ys ≡ true → list_all p (xs ++ ys) ≡ true
all-append p xs ys a b = list_all-append p xs ys ∙ and_from (list_all p xs) (list_all p ys) a b

pub tail_solid : (names : NameLists) (r : Record) → AreValid names → ReleasesFit names r.releases → ValueFits r.lost → RunChangeFits names r.run_change → AllSolid (tail_words names r)
tail_solid names r valid releases lost change =
    all-append (list_all solid) (map (release_word names) r.releases) (lost_words r.lost ++ (run_words names r.run_change ++ request_words r.requests)) (releases_solid names r.releases valid releases)
    (all-append (list_all solid) (lost_words r.lost) (run_words names r.run_change ++ request_words r.requests) (lost_solid r.lost lost)
    (all-append (list_all solid) (run_words names r.run_change) (request_words r.requests) (run_solid names r.run_change valid change) (requests_solid r.requests)))
