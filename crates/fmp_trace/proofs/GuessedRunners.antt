-- The runner that is printed is guessed right: no two objects have one name, of whatever kinds.
use Rattle.std.proofs.Common.{◌≡◌, ◌≢◌, ℕ, ◌-◌, ◌<◌, ◌≤◌, true, false, inl, inr, List, [], length, get_or, set, Option, Some, None, option_map, refl, sym, ap, ◌∙◌, arith}
use Rattle.std.specs.Prelude.{codes}
use Rattle.std.specs.List.{list_all, sum_by}
use Rattle.std.specs.Str.{bytes_eq}
use Rattle.std.proofs.lemmas.Bool.{cases_Bool, false≢true}
use Rattle.std.proofs.lemmas.Slice.Eq.{bytes_eq-Decides}
use Rattle.std.proofs.lemmas.List.{get_or-set_other, length-set}
use Rattle.std.proofs.lemmas.List.Sums.{sum_by-set}
use Rattle.fmp_codes.specs.Numbers.{as_task, as_object}
use Rattle.fmp_codes.specs.declared.records.Runner.{Runner}
use Rattle.fmp_codes.specs.declared.records.Runner.TheVariants as runners
use Rattle.fmp_bytes.specs.declared.classes.Class.TheVariants.{Word, Argument}
use Rattle.fmp_bytes.specs.Bytes.{is_of}
use Rattle.fmp_codes.specs.Kinds.{place_of}
use Rattle.fmp_codes.specs.declared.kinds.NameKind.TheVariants as kinds
use Rattle.fmp_codes.specs.declared.kinds.ObjectKind.{ObjectKind}
use Rattle.fmp_codes.specs.declared.kinds.ObjectKind.TheVariants as objects
use Rattle.fmp_names.specs.Names.{NameLists, AreValid, names_of, name_of, times}
use Rattle.fmp_names.specs.Names.{number_of as number_of_name}
use Rattle.fmp_names.proofs.Placed.{name_of-number_of, numbered, once_at}
use Rattle.fmp_names.proofs.Valid.{place_of-lt}
use Rattle.fmp_trace.specs.Fits.{IsNamed, RunnerFits}
use Rattle.fmp_trace.specs.GuessParts.{task_in, object_in, named_runner, runner_in}
use Rattle.fmp_trace.specs.Lines.{runner_text}
use Rattle.fmp_trace.specs.Values.{named}
use Rattle.fmp_trace.proofs.GuessedValues.{printed_name, task_guessed, object_guessed, name_bytes}

-- ---- names of two kinds

twice : (f : List (List ℕ) → ℕ) (lists : List (List (List ℕ))) (i j : ℕ) → f [] ≡ 0 → i ≢ j → i < length lists → j < length lists → 1 ≤ f (get_or lists i []) → 1 ≤ f (get_or lists j []) → 2 ≤ sum_by f lists
twice f lists i j none apart within_i within_j here there =
    let without = sum_by-set f lists i [] [] within_i in
    let rest = sum_by-set f (set lists i []) j [] [] (omega (arith, length-set lists i [], within_j)) in
    let stays = ap f (get_or-set_other lists i j [] [] (λ e. apart (sym e))) in
    omega (arith, without, rest, stays, none, here, there)

-- a name of one kind is none of another
other_kind : (names : NameLists) (kind other : ObjectKind) (n : ℕ) (name : List ℕ) (found : Option ℕ) → AreValid names → place_of kind ≢ place_of other → name_of names (kinds.Object kind) n ≡ Some name → number_of_name names (kinds.Object other) name ≡ found → found ≡ None
other_kind names kind other n name None valid apart is_name found = refl
other_kind names kind other n name (Some m) valid apart is_name found =
    let here = once_at name (names_of names (kinds.Object kind)) (n - 1) (numbered names (kinds.Object kind) n name is_name).1 in
    let there = once_at name (names_of names (kinds.Object other)) (m - 1) (numbered names (kinds.Object other) m name (name_of-number_of names (kinds.Object other) m name found)).1 in
    let kinds_are = valid.kinds in
    let more = twice (times name) names.objects (place_of kind) (place_of other) refl apart (omega (arith, kinds_are, place_of-lt kind)) (omega (arith, kinds_are, place_of-lt other)) here there in
    absurd (omega (arith, more, valid.distinct name))

-- an object's name is made of the bytes of words
pub printed_words : (names : NameLists) (kind : ObjectKind) (n : ℕ) (name : List ℕ) → AreValid names → name_of names (kinds.Object kind) n ≡ Some name → list_all (is_of Word) name ≡ true
printed_words names kind n name valid e =
    let p = printed_name names kind n valid (name, e) in
    let found : ◌≡◌ {A = Option (List ℕ)} (Some p.name) (Some name) = sym p.is_name ∙ e in
    let same : p.name ≡ name = cc in
    ap (list_all (is_of Word)) (sym same) ∙ p.words

-- ---- runners

not_task : (names : NameLists) (kind : ObjectKind) (n : ℕ) → AreValid names → place_of kind ≢ 0 → IsNamed names kind n → task_in names (named names kind n) ≡ None
unfolding task_in
not_task names kind n valid apart is_named =
    let p = printed_name names kind n valid is_named in
    let printed = p.printed in
    rw printed (ap (option_map as_task) (other_kind names kind objects.Task n p.name _ valid apart p.is_name refl))

not_alarm : (names : NameLists) (n : ℕ) → AreValid names → IsNamed names objects.Cyclic n → object_in names objects.Alarm (named names objects.Cyclic n) ≡ None
unfolding object_in
not_alarm names n valid is_named =
    let p = printed_name names objects.Cyclic n valid is_named in
    let printed = p.printed in
    rw printed (ap (option_map as_object) (other_kind names objects.Cyclic objects.Alarm n p.name _ valid (λ e. omega (arith, e)) p.is_name refl))

-- no name is a dash
not_dash : (names : NameLists) (kind : ObjectKind) (n : ℕ) → AreValid names → IsNamed names kind n → bytes_eq (named names kind n) (codes "-") ≡ false
unfolding is_of
not_dash names kind n valid is_named =
    let p = printed_name names kind n valid is_named in
    elim (cases_Bool (bytes_eq p.name (codes "-"))) [
      | inl t ↦ absurd (false≢true (ap (list_all (is_of Word)) (sym ((bytes_eq-Decides p.name (codes "-")).0 t)) ∙ p.words))
      | inr f ↦ ap (λ (text : List ℕ). bytes_eq text (codes "-")) p.printed ∙ f
    ]

pub runner_guessed : (names : NameLists) (runner : Option Runner) → AreValid names → RunnerFits names runner → runner_in names (runner_text names runner) ≡ Some runner
unfolding runner_in named_runner
runner_guessed names None valid fits = refl
runner_guessed names (Some (runners.Task t)) valid fits =
    let found = task_guessed names t valid fits in
    rw (not_dash names objects.Task t.number valid fits, found) refl
runner_guessed names (Some (runners.Alarm a)) valid fits =
    let found = object_guessed names objects.Alarm a valid fits in
    rw (not_dash names objects.Alarm a.number valid fits, not_task names objects.Alarm a.number valid (λ e. omega (arith, e)) fits, found) refl
runner_guessed names (Some (runners.Cyclic c)) valid fits =
    let found = object_guessed names objects.Cyclic c valid fits in
    rw (not_dash names objects.Cyclic c.number valid fits, not_task names objects.Cyclic c.number valid (λ e. omega (arith, e)) fits, not_alarm names c.number valid fits, found) refl

pub runner_bytes : (names : NameLists) (runner : Option Runner) → AreValid names → RunnerFits names runner → list_all (is_of Argument) (runner_text names runner) ≡ true
unfolding is_of
runner_bytes names None valid fits = refl
runner_bytes names (Some (runners.Task t)) valid fits = name_bytes names objects.Task t.number valid fits
runner_bytes names (Some (runners.Alarm a)) valid fits = name_bytes names objects.Alarm a.number valid fits
runner_bytes names (Some (runners.Cyclic c)) valid fits = name_bytes names objects.Cyclic c.number valid fits
