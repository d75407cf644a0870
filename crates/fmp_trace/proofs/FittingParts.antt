-- What is guessed of a part of a line fits the names, whatever the part is.
use Rattle.std.proofs.Common.{◌≡◌, ◌⊎◌, ℕ, zero, suc, ◌-◌, ◌≤◌, ◌^◌, ℤ, Bool, true, false, ◌&&◌, cond, leb, inl, inr, List, Option, Some, None, option_map, Ok, ap, subst, ◌∙◌, arith}
use Rattle.std.specs.Prelude.{codes}
use Rattle.std.specs.Option.{option_or}
use Rattle.std.specs.Str.{bytes_eq}
use Rattle.std.proofs.lemmas.Bool.{and_parts, leb-true}
use Rattle.std.proofs.lemmas.Option.{slice_get_within, cond_some}
use Rattle.fmp_codes.specs.Numbers.{as_proc, as_task, as_object}
use Rattle.fmp_codes.specs.declared.calls.Call.{Call}
use Rattle.fmp_codes.specs.declared.codes.Code.{Code}
use Rattle.fmp_codes.specs.declared.numbers.Proc.{Proc}
use Rattle.fmp_codes.specs.declared.numbers.Task.{Task}
use Rattle.fmp_codes.specs.declared.numbers.Object.{Object}
use Rattle.fmp_codes.specs.declared.records.Answer.{Answer}
use Rattle.fmp_codes.specs.declared.records.Answer.TheVariants as answers
use Rattle.fmp_codes.specs.declared.records.Runner.{Runner}
use Rattle.fmp_codes.specs.declared.records.Runner.TheVariants as runners
use Rattle.fmp_bytes.specs.Bytes.{cut_at}
use Rattle.fmp_bytes.specs.Numerals.{magnitude_of, number_of}
use Rattle.fmp_codes.specs.Kinds.{most_of}
use Rattle.fmp_codes.specs.declared.kinds.NameKind.TheVariants as name_kinds
use Rattle.fmp_codes.specs.declared.kinds.ObjectKind.{ObjectKind}
use Rattle.fmp_codes.specs.declared.kinds.ObjectKind.TheVariants as objects
use Rattle.fmp_text.specs.Lines.{in_processors, processor_numbered}
use Rattle.fmp_names.specs.Names.{NameLists, AreValid, names_of, name_of}
use Rattle.fmp_names.specs.Names.{number_of as number_of_name}
use Rattle.fmp_text.specs.Reading.{call_in}
use Rattle.fmp_text.proofs.Limited.{mapped, signed_within, call_in_bits}
use Rattle.fmp_bytes.proofs.Parsed.{and_then_parts}
use Rattle.fmp_names.proofs.Placed.{name_of-number_of, numbered}
use Rattle.fmp_text.proofs.SpelledCalls.{call_is_spelled}
use Rattle.fmp_codes.specs.Records.{IsWithin, ValueFits, AnswerFits}
use Rattle.fmp_calls.specs.Arguments.{CallInBits}
use Rattle.fmp_trace.specs.Fits.{IsNamed, RunnerFits, RunningFits}
use Rattle.fmp_trace.specs.GuessParts.{signed_in, task_in, object_in, code_in, value_in, coded_in, done_in, word_answer, answer_in, named_runner, runner_in, running_in}

-- ---- numbers

pub signed_in-fits : (text : List ℕ) (z : ℤ) → signed_in text ≡ Some z → IsWithin (2 ^ 63) z
unfolding signed_in
signed_in-fits text z e =
    let p = and_then_parts (number_of text) _ z e in
    let q = and_then_parts p.0.magnitude _ z p.2 in
    signed_within (2 ^ 63) p.0.negative q.0 z (omega arith) q.2

in_processors-fits : (most : ℕ) (found : Option ℕ) (p : Proc) → most ≤ 8 → in_processors most found ≡ Some p → p.number ≤ most
unfolding in_processors
in_processors-fits most None p few e = absurd cc
in_processors-fits most (Some n) p few e =
    let t = cond_some (leb 1 n && leb n most) (as_proc n) p e in
    let parts = and_parts (leb 1 n) (leb n most) t.0 in
    let number = ap (λ (q : Proc). q.number) t.1 in
    omega (arith, number, leb-true 1 n parts.0, leb-true n most parts.1, few)

pub processor_numbered-fits : (names : NameLists) (digits : List ℕ) (p : Proc) → AreValid names → processor_numbered names digits ≡ Some p → p.number ≤ names.processors
unfolding processor_numbered
processor_numbered-fits names digits p valid e = in_processors-fits names.processors (magnitude_of 10 digits) p valid.most e

-- ---- names

not_zero : (names : NameLists) (kind : ObjectKind) (n : ℕ) (name : List ℕ) → name_of names (name_kinds.Object kind) n ≡ Some name → 1 ≤ n
unfolding name_of
not_zero names kind zero name e = absurd cc
not_zero names kind (suc n) name e = omega arith

-- the number of an object's name
number_fits : (names : NameLists) (kind : ObjectKind) (word : List ℕ) (n : ℕ) → AreValid names → number_of_name names (name_kinds.Object kind) word ≡ Some n → IsNamed names kind n × (1 ≤ n) × (n ≤ most_of kind)
number_fits names kind word n valid e =
    let named = name_of-number_of names (name_kinds.Object kind) n word e in
    let within = slice_get_within (names_of names (name_kinds.Object kind)) (n - 1) word (numbered names (name_kinds.Object kind) n word named).1 in
    let least = not_zero names kind n word named in
    ((word, named), least, omega (arith, within, least, valid.limits kind))

pub task_in-fits : (names : NameLists) (word : List ℕ) (t : Task) → AreValid names → task_in names word ≡ Some t → IsNamed names objects.Task t.number
unfolding task_in
task_in-fits names word t valid e =
    let m = mapped as_task (number_of_name names (name_kinds.Object objects.Task) word) t e in
    let n = number_fits names objects.Task word m.0 valid m.1 in
    let number : m.0 ≡ t.number = let same = ap (λ (u : Task). u.number) m.2 in omega (arith, same, n.1, n.2) in
    subst (IsNamed names objects.Task) number n.0

object_in-fits : (names : NameLists) (kind : ObjectKind) (word : List ℕ) (o : Object) → AreValid names → most_of kind ≤ 32 → object_in names kind word ≡ Some o → IsNamed names kind o.number
unfolding object_in
object_in-fits names kind word o valid few e =
    let m = mapped as_object (number_of_name names (name_kinds.Object kind) word) o e in
    let n = number_fits names kind word m.0 valid m.1 in
    let number : m.0 ≡ o.number = let same = ap (λ (u : Object). u.number) m.2 in omega (arith, same, n.1, n.2, few) in
    subst (IsNamed names kind) number n.0

running_parts : (names : NameLists) (word : List ℕ) (idle : Bool) (running : Option Task) → AreValid names → cond idle (Some None) (option_map Some (task_in names word)) ≡ Some running → RunningFits names running
running_parts names word idle None valid e = tt
running_parts names word true (Some t) valid e = absurd cc
running_parts names word false (Some t) valid e =
    let m = mapped (λ (u : Task). Some u) (task_in names word) (Some t) e in
    let same : m.0 ≡ t = let e2 = m.2 in cc in
    task_in-fits names word t valid (m.1 ∙ ap (λ (u : Task). Some u) same)

pub running_in-fits : (names : NameLists) (word : List ℕ) (running : Option Task) → AreValid names → running_in names word ≡ Some running → RunningFits names running
unfolding running_in
running_in-fits names word running valid e = running_parts names word (bytes_eq word (codes "idle")) running valid e

or_parts_of : {A : Type 0} (first second : Option A) (a : A) → option_or first second ≡ Some a → (first ≡ Some a) ⊎ (second ≡ Some a)
or_parts_of None second a e = inr e
or_parts_of (Some b) second a e = inl e

task_runner : (names : NameLists) (word : List ℕ) (r : Runner) → AreValid names → option_map runners.Task (task_in names word) ≡ Some r → RunnerFits names (Some r)
task_runner names word r valid e =
    let m = mapped runners.Task (task_in names word) r e in
    subst (λ (q : Runner). RunnerFits names (Some q)) m.2 (task_in-fits names word m.0 valid m.1)

alarm_runner : (names : NameLists) (word : List ℕ) (r : Runner) → AreValid names → option_map runners.Alarm (object_in names objects.Alarm word) ≡ Some r → RunnerFits names (Some r)
alarm_runner names word r valid e =
    let m = mapped runners.Alarm (object_in names objects.Alarm word) r e in
    subst (λ (q : Runner). RunnerFits names (Some q)) m.2 (object_in-fits names objects.Alarm word m.0 valid (omega arith) m.1)

cyclic_runner : (names : NameLists) (word : List ℕ) (r : Runner) → AreValid names → option_map runners.Cyclic (object_in names objects.Cyclic word) ≡ Some r → RunnerFits names (Some r)
cyclic_runner names word r valid e =
    let m = mapped runners.Cyclic (object_in names objects.Cyclic word) r e in
    subst (λ (q : Runner). RunnerFits names (Some q)) m.2 (object_in-fits names objects.Cyclic word m.0 valid (omega arith) m.1)

named_runner-fits : (names : NameLists) (word : List ℕ) (r : Runner) → AreValid names → named_runner names word ≡ Some r → RunnerFits names (Some r)
unfolding named_runner
named_runner-fits names word r valid e =
    elim (or_parts_of (option_map runners.Task (task_in names word)) _ r e) [
      | inl t ↦ task_runner names word r valid t
      | inr others ↦ elim (or_parts_of (option_map runners.Alarm (object_in names objects.Alarm word)) _ r others) [
        | inl a ↦ alarm_runner names word r valid a
        | inr c ↦ cyclic_runner names word r valid c
      ]
    ]

runner_parts : (names : NameLists) (word : List ℕ) (none : Bool) (runner : Option Runner) → AreValid names → cond none (Some None) (option_map Some (named_runner names word)) ≡ Some runner → RunnerFits names runner
runner_parts names word none None valid e = tt
runner_parts names word true (Some r) valid e = absurd cc
runner_parts names word false (Some r) valid e =
    let m = mapped (λ (u : Runner). Some u) (named_runner names word) (Some r) e in
    let same : m.0 ≡ r = let e2 = m.2 in cc in
    named_runner-fits names word r valid (m.1 ∙ ap (λ (u : Runner). Some u) same)

pub runner_in-fits : (names : NameLists) (word : List ℕ) (runner : Option Runner) → AreValid names → runner_in names word ≡ Some runner → RunnerFits names runner
unfolding runner_in
runner_in-fits names word runner valid e = runner_parts names word (bytes_eq word (codes "-")) runner valid e

-- ---- answers

value_in-fits : (text : Option (List ℕ)) (value : Option ℤ) → value_in text ≡ Some value → ValueFits value
value_in-fits text None e = tt
value_in-fits None (Some v) e = absurd cc
value_in-fits (Some text) (Some v) e =
    let m = mapped (λ (z : ℤ). Some z) (signed_in text) (Some v) e in
    let same : m.0 ≡ v = let e2 = m.2 in cc in
    signed_in-fits text v (m.1 ∙ ap (λ (z : ℤ). Some z) same)

pub coded_in-fits : (text : List ℕ) (coded : Code × Option ℤ) → coded_in text ≡ Some coded → ValueFits coded.1
unfolding coded_in
coded_in-fits text coded e =
    let p = and_then_parts (code_in (cut_at 58 text).0) _ coded e in
    let q = and_then_parts (value_in (cut_at 58 text).1) _ coded p.2 in
    let same : ◌≡◌ {A = Code × Option ℤ} (p.0, q.0) coded = let e2 = q.2 in cc in
    subst (λ (x : Code × Option ℤ). ValueFits x.1) same (value_in-fits (cut_at 58 text).1 q.0 q.1)

done_in-fits : (text : List ℕ) (a : Answer) → done_in text ≡ Some a → AnswerFits a
unfolding done_in
done_in-fits text a e =
    let p = and_then_parts (coded_in text) _ a e in
    let same : answers.Done p.0.0 p.0.1 ≡ a = let e2 = p.2 in cc in
    subst AnswerFits same (coded_in-fits text p.0 p.1)

either : (b : Bool) (x a : Answer) (rest : Option Answer) → AnswerFits x → (rest ≡ Some a → AnswerFits a) → cond b (Some x) rest ≡ Some a → AnswerFits a
either true x a rest fits others e = let same : x ≡ a = cc in subst AnswerFits same fits
either false x a rest fits others e = others e

no_answer : (a : Answer) → ◌≡◌ {A = Option Answer} None (Some a) → AnswerFits a
no_answer a e = absurd cc

word_answer-fits : (text : List ℕ) (a : Answer) → word_answer text ≡ Some a → AnswerFits a
unfolding word_answer
word_answer-fits text a e =
    either _ answers.Wait a _ tt (either _ answers.Spin a _ tt (either _ answers.Gone a _ tt (either _ answers.Idle a _ tt (either _ answers.Held a _ tt (either _ answers.Taken a _ tt (either _ answers.Nothing a _ tt (no_answer a))))))) e

pub answer_in-fits : (text : List ℕ) (a : Answer) → answer_in text ≡ Some a → AnswerFits a
unfolding answer_in
answer_in-fits text a e =
    elim (or_parts_of (word_answer text) (done_in text) a e) [
      | inl t ↦ word_answer-fits text a t
      | inr t ↦ done_in-fits text a t
    ]

-- ---- calls

pub call-fits : (names : NameLists) (text : List ℕ) (call : Call) → AreValid names → call_in names text ≡ Ok call → CallInBits call
call-fits names text call valid e = call_in_bits names text call valid (call_is_spelled names text call e)
