-- No printed line has a line feed within it, whatever the record.
use Rattle.std.proofs.Common.{◌≡◌, ℕ, zero, suc, ◌+◌, ◌/◌, ◌%◌, ℤ, pos, negsuc, true, false, not, eqb, ltb, inl, inr, List, [], ◌∷◌, ◌++◌, Option, Some, None, refl, arith}
use Rattle.std.specs.Prelude.{codes, decimal}
use Rattle.std.specs.Fmt.{signed_decimal, digits, digits_onto, digit_glyph}
use Rattle.std.specs.List.{list_all}
use Rattle.std.proofs.lemmas.Bool.{cases_Bool, cond_both, ne_eqb, and_from}
use Rattle.fmp_codes.specs.Codes as code
use Rattle.fmp_codes.specs.declared.calls.Call.{Call}
use Rattle.fmp_codes.specs.declared.calls.Mode.{Mode}
use Rattle.fmp_codes.specs.declared.calls.Mode.TheVariants as modes
use Rattle.fmp_codes.specs.declared.codes.Code.{Code}
use Rattle.fmp_codes.specs.declared.numbers.Proc.{Proc}
use Rattle.fmp_codes.specs.declared.numbers.Task.{Task}
use Rattle.fmp_codes.specs.declared.records.Answer.{Answer}
use Rattle.fmp_codes.specs.declared.records.Answer.TheVariants as answers
use Rattle.fmp_codes.specs.declared.records.Event.{Event}
use Rattle.fmp_codes.specs.declared.records.Event.TheVariants as events
use Rattle.fmp_codes.specs.declared.records.Release.{Release}
use Rattle.fmp_codes.specs.declared.records.Record.{Record}
use Rattle.fmp_codes.specs.declared.records.Runner.{Runner}
use Rattle.fmp_codes.specs.declared.records.Runner.TheVariants as runners
use Rattle.fmp_bytes.specs.declared.classes.Class.TheVariants.{Argument}
use Rattle.fmp_bytes.specs.Bytes.{is_of}
use Rattle.fmp_bytes.proofs.Prefixes.{list_all-both}
use Rattle.fmp_bytes.proofs.Tokens.{identifier_bytes}
use Rattle.fmp_calls.proofs.Matched.{is_identifier-text_of}
use Rattle.fmp_calls.specs.Table as table
use Rattle.fmp_codes.specs.declared.kinds.ArgumentKind.{ArgumentKind}
use Rattle.fmp_codes.specs.declared.kinds.ArgumentKind.TheVariants as kinds
use Rattle.fmp_codes.specs.declared.kinds.NameKind.TheVariants as name_kinds
use Rattle.fmp_codes.specs.declared.kinds.ObjectKind.{ObjectKind}
use Rattle.fmp_codes.specs.declared.kinds.ObjectKind.TheVariants as objects
use Rattle.fmp_codes.specs.declared.kinds.Value.{Value}
use Rattle.fmp_codes.specs.declared.kinds.Value.TheVariants as values
use Rattle.fmp_names.specs.Names.{NameLists, AreValid, name_of}
use Rattle.fmp_codes.specs.Records.{processor_of}
use Rattle.fmp_trace.specs.Lines.{event_text, task_text, runner_text, code_text, answer_text, release_text, releases_text, lost_text, run_change_text, request_lead, requests_from, head_text, tail_text, core_text}
use Rattle.fmp_trace.specs.Prints.{IsUnended}
use Rattle.fmp_trace.specs.Values.{named, object_text, mode_text, value_text, separator, arguments_from, after_name, call_text}
use Rattle.fmp_trace.proofs.Bytes.{other_than, of_words, code_words}
use Rattle.fmp_trace.proofs.GuessedRunners.{printed_words}

both : (xs ys : List ℕ) → IsUnended xs → IsUnended ys → IsUnended (xs ++ ys)
both xs ys a b = list_all-both (λ b. not (eqb b 10)) xs ys a b

-- the same as a record, from which the text can be read off
record HasNone (text : List ℕ) : Type 0 where
  none : IsUnended text

has : (text : List ℕ) → IsUnended text → HasNone text
has text e = record { none = e }

join : {xs ys : List ℕ} → HasNone xs → HasNone ys → HasNone (xs ++ ys)
join {xs = xs} {ys = ys} a b = record { none = list_all-both (λ b. not (eqb b 10)) xs ys a.none b.none }

of_argument : (xs : List ℕ) → list_all (is_of Argument) xs ≡ true → IsUnended xs
unfolding is_of
of_argument xs all = other_than (is_of Argument) 10 refl xs all

-- ---- numbers

glyph_is : (d : ℕ) → not (eqb (digit_glyph false d) 10) ≡ true
glyph_is d =
    elim (cases_Bool (ltb d 10)) [
      | inl t ↦ let other : eqb (48 + d) 10 ≡ false = ne_eqb (48 + d) 10 (λ e. omega (arith, e)) in rw (t, other) refl
      | inr f ↦ let other : eqb (87 + d) 10 ≡ false = ne_eqb (87 + d) 10 (λ e. omega (arith, e)) in rw (f, other) refl
    ]

digits_are : (k n : ℕ) (acc : List ℕ) → IsUnended acc → IsUnended (digits_onto k 10 false n acc)
digits_are zero n acc rest = rest
digits_are (suc k) n acc rest =
    let more = and_from (not (eqb (digit_glyph false (n % 10)) 10)) (list_all (λ b. not (eqb b 10)) acc) (glyph_is (n % 10)) rest in
    elim (cases_Bool (eqb (n / 10) 0)) [
      | inl t ↦ rw t more
      | inr f ↦ rw f (digits_are k (n / 10) (digit_glyph false (n % 10) ∷ acc) more)
    ]

decimal_is : (n : ℕ) → IsUnended (decimal n)
unfolding digits
decimal_is n = digits_are 64 n [] refl

signed_is : (z : ℤ) → IsUnended (signed_decimal z)
signed_is (pos n) = decimal_is n
signed_is (negsuc n) = decimal_is (suc n)

-- ---- names and calls

module _ (names : NameLists) (valid : AreValid names) where
  named_found : (kind : ObjectKind) (n : ℕ) (found : Option (List ℕ)) → name_of names (name_kinds.Object kind) n ≡ found → IsUnended (named names kind n)
  unfolding named
  named_found kind n None e = rw e (decimal_is n)
  named_found kind n (Some name) e = rw e (of_argument name (of_words name (printed_words names kind n name valid e)))

  named_is : (kind : ObjectKind) (n : ℕ) → IsUnended (named names kind n)
  named_is kind n = named_found kind n (name_of names (name_kinds.Object kind) n) refl

  object_is : (kind : ObjectKind) (z : ℤ) → IsUnended (object_text names kind z)
  unfolding object_text
  object_is objects.Task (pos zero) = refl
  object_is objects.Task (pos (suc n)) = named_is objects.Task (suc n)
  object_is kind (negsuc n) = signed_is (negsuc n)
  object_is objects.Semaphore (pos n) = named_is objects.Semaphore n
  object_is objects.Eventflag (pos n) = named_is objects.Eventflag n
  object_is objects.DataQueue (pos n) = named_is objects.DataQueue n
  object_is objects.Pool (pos n) = named_is objects.Pool n
  object_is objects.Cyclic (pos n) = named_is objects.Cyclic n
  object_is objects.Alarm (pos n) = named_is objects.Alarm n
  object_is objects.SpinLock (pos n) = named_is objects.SpinLock n

  mode_is : (m : Mode) → IsUnended (mode_text m)
  mode_is modes.Andw = refl
  mode_is modes.Orw = refl

  value_is : (kind : ArgumentKind) (value : Value) → IsUnended (value_text names kind value)
  unfolding value_text
  value_is (kinds.Object kind) (values.Number z) = object_is kind z
  value_is kinds.Priority (values.Number z) = signed_is z
  value_is kinds.Processor (values.Number z) = signed_is z
  value_is kinds.Time (values.Number z) = signed_is z
  value_is kinds.Timeout (values.Number z) = signed_is z
  value_is kinds.Pattern (values.Number z) = signed_is z
  value_is kinds.Data (values.Number z) = signed_is z
  value_is kinds.Mode (values.Number z) = signed_is z
  value_is kinds.Block (values.Number z) = signed_is z
  value_is (kinds.Object kind) (values.Pattern bits) = decimal_is bits
  value_is (kinds.Object kind) (values.Data z) = signed_is z
  value_is (kinds.Object kind) (values.Mode m) = mode_is m
  value_is _ (values.Pattern bits) = decimal_is bits
  value_is _ (values.Data z) = signed_is z
  value_is _ (values.Mode m) = mode_is m

  separator_is : (i : ℕ) → IsUnended (separator i)
  separator_is zero = refl
  separator_is (suc i) = refl

  arguments_are : (i : ℕ) (kinds : List ArgumentKind) (values : List Value) → IsUnended (arguments_from names i kinds values)
  arguments_are i [] values = refl
  arguments_are i (kind ∷ kinds) [] = refl
  arguments_are i (kind ∷ kinds) (value ∷ values) = both (separator i ++ value_text names kind value) (arguments_from names (i + 1) kinds values) (both (separator i) (value_text names kind value) (separator_is i) (value_is kind value)) (arguments_are (i + 1) kinds values)

  after_name_is : (call : Call) → IsUnended (after_name names call)
  unfolding after_name
  after_name_is call =
      let arguments = has (arguments_from names 0 (table.kinds_of call) (table.values_of call)) (arguments_are 0 (table.kinds_of call) (table.values_of call)) in
      cond_both (table.is_bare call) [] _ IsUnended (λ _. refl) (λ _. (join (join (has (codes "(") refl) arguments) (has (codes ")") refl)).none)

  call_is : (call : Call) → IsUnended (call_text names call)
  unfolding call_text
  call_is call =
      let word = of_argument (table.text_of call) (identifier_bytes (table.text_of call) (is_identifier-text_of call)).1 in
      both (table.text_of call) (after_name names call) word (after_name_is call)

  -- ---- the parts of a line

  event_is : (e : Event) → IsUnended (event_text names e)
  event_is (events.Call p call) = call_is call
  event_is (events.Tick p) = refl
  event_is (events.Ipi p) = refl

  runner_is : (runner : Option Runner) → IsUnended (runner_text names runner)
  runner_is None = refl
  runner_is (Some (runners.Task t)) = named_is objects.Task t.number
  runner_is (Some (runners.Alarm a)) = named_is objects.Alarm a.number
  runner_is (Some (runners.Cyclic c)) = named_is objects.Cyclic c.number

  code_is : (c : Code) (value : Option ℤ) → IsUnended (code_text c value)
  unfolding code_text
  code_is c None = both (code.name_of c) [] (of_argument (code.name_of c) (of_words (code.name_of c) (code_words c))) refl
  code_is c (Some v) = both (code.name_of c) (58 ∷ signed_decimal v) (of_argument (code.name_of c) (of_words (code.name_of c) (code_words c))) (signed_is v)

  answer_is : (a : Answer) → IsUnended (answer_text a)
  answer_is (answers.Done c value) = code_is c value
  answer_is answers.Wait = refl
  answer_is answers.Spin = refl
  answer_is answers.Gone = refl
  answer_is answers.Idle = refl
  answer_is answers.Held = refl
  answer_is answers.Taken = refl
  answer_is answers.Nothing = refl

  releases_are : (rs : List Release) → IsUnended (releases_text names rs)
  unfolding release_text
  releases_are [] = refl
  releases_are (r ∷ rs) =
      (join (join (join (join (has (codes " rel=") refl) (has (task_text names r.task) (named_is objects.Task r.task.number))) (has (codes ":") refl)) (has (code_text r.code r.value) (code_is r.code r.value))) (has (releases_text names rs) (releases_are rs))).none

  lost_is : (lost : Option ℤ) → IsUnended (lost_text lost)
  lost_is None = refl
  lost_is (Some v) = signed_is v

  run_is : (change : Option (Option Task)) → IsUnended (run_change_text names change)
  run_is None = refl
  run_is (Some None) = refl
  run_is (Some (Some t)) = named_is objects.Task t.number

  lead_is : (i : ℕ) → IsUnended (request_lead i)
  lead_is zero = refl
  lead_is (suc i) = refl

  requests_are : (i : ℕ) (ps : List Proc) → IsUnended (requests_from i ps)
  requests_are i [] = refl
  requests_are i (p ∷ ps) = (join (join (has (request_lead i) (lead_is i)) (has (decimal p.number) (decimal_is p.number))) (has (requests_from (i + 1) ps) (requests_are (i + 1) ps))).none

  pub line_is : (n : ℕ) (r : Record) → IsUnended (core_text names n r)
  unfolding core_text head_text tail_text
  line_is n r =
      let blank = has (codes " ") refl in
      let processor = join (join (has (decimal n) (decimal_is n)) (has (codes " P") refl)) (has (decimal (processor_of r.event).number) (decimal_is (processor_of r.event).number)) in
      let runner = join (join (join processor blank) (has (runner_text names r.runner) (runner_is r.runner))) blank in
      let answer = join (join (join runner (has (event_text names r.event) (event_is r.event))) blank) (has (answer_text r.answer) (answer_is r.answer)) in
      let run = join (join (has (releases_text names r.releases) (releases_are r.releases)) (has (lost_text r.lost) (lost_is r.lost))) (has (run_change_text names r.run_change) (run_is r.run_change)) in
      (join answer (join run (has (requests_from 0 r.requests) (requests_are 0 r.requests)))).none
