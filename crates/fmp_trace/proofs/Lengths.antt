-- How long the line of a record can be, whatever numbers it tells: no number has more than 64 digits.
use Rattle.std.proofs.Common.{◌≡◌, ℕ, zero, suc, ◌+◌, ◌*◌, ◌/◌, ◌%◌, ◌≤◌, ℤ, pos, negsuc, false, eqb, inl, inr, List, [], ◌∷◌, ◌++◌, length, Option, Some, None, refl, ap, arith, length-append}
use Rattle.std.specs.Prelude.{codes, decimal}
use Rattle.std.specs.List.{sum_by}
use Rattle.std.specs.Fmt.{signed_decimal, digits, digits_onto, digit_glyph}
use Rattle.std.proofs.lemmas.Fmt.{decimal_digit}
use Rattle.std.proofs.lemmas.List.Sums.{sum_by-cons}
use Rattle.std.proofs.lemmas.Bool.{cases_Bool, cond_both, and_parts, leb-true}
use Rattle.fmp_codes.specs.Codes as code
use Rattle.fmp_codes.specs.Records.{processor_of, Ascend}
use Rattle.fmp_codes.specs.declared.calls.Call.{Call}
use Rattle.fmp_codes.specs.declared.calls.Call.TheVariants as calls
use Rattle.fmp_codes.specs.declared.calls.TaskCall.TheVariants as task
use Rattle.fmp_codes.specs.declared.calls.SyncCall.TheVariants as sync
use Rattle.fmp_codes.specs.declared.calls.BufferCall.TheVariants as buffer
use Rattle.fmp_codes.specs.declared.calls.TimeCall.TheVariants as time
use Rattle.fmp_codes.specs.declared.calls.SystemCall.TheVariants as system
use Rattle.fmp_codes.specs.declared.calls.SpinCall.TheVariants as spin
use Rattle.fmp_codes.specs.declared.calls.Mode.{Mode}
use Rattle.fmp_codes.specs.declared.calls.Mode.TheVariants as modes
use Rattle.fmp_codes.specs.declared.codes.Code.{Code}
use Rattle.fmp_codes.specs.declared.codes.Code.TheVariants.{Accepted, Parameter, Identifier, Context, IllegalUse, ObjectState, QueueOverflow, WaitReleased, TimedOut}
use Rattle.fmp_codes.specs.declared.numbers.Proc.{Proc}
use Rattle.fmp_codes.specs.declared.numbers.Task.{Task}
use Rattle.fmp_codes.specs.declared.records.Answer.{Answer}
use Rattle.fmp_codes.specs.declared.records.Answer.TheVariants as answers
use Rattle.fmp_codes.specs.declared.records.Event.{Event}
use Rattle.fmp_codes.specs.declared.records.Event.TheVariants as events
use Rattle.fmp_codes.specs.declared.records.Release.{Release}
use Rattle.fmp_codes.specs.declared.records.Record.{Record}
use Rattle.fmp_codes.specs.declared.records.Runner.{Runner}
use Rattle.fmp_codes.specs.declared.records.Runner.TheVariants as runners
use Rattle.fmp_calls.proofs.Matched.{length-kinds_of-le}
use Rattle.fmp_calls.specs.Table as table
use Rattle.fmp_codes.specs.declared.kinds.ArgumentKind.{ArgumentKind}
use Rattle.fmp_codes.specs.declared.kinds.ArgumentKind.TheVariants as kinds
use Rattle.fmp_codes.specs.declared.kinds.NameKind.TheVariants as name_kinds
use Rattle.fmp_codes.specs.declared.kinds.ObjectKind.{ObjectKind}
use Rattle.fmp_codes.specs.declared.kinds.ObjectKind.TheVariants as objects
use Rattle.fmp_codes.specs.declared.kinds.Value.{Value}
use Rattle.fmp_codes.specs.declared.kinds.Value.TheVariants as values
use Rattle.fmp_names.specs.Names.{NameLists, AreValid, name_of, is_name}
use Rattle.fmp_names.proofs.Placed.{object_name}
use Rattle.fmp_trace.specs.Lines.{event_text, runner_text, code_text, answer_text, release_text, releases_text, lost_text, run_change_text, request_lead, requests_from, head_text, tail_text, core_text, line_text, lines_from, most_line_bytes}
use Rattle.fmp_trace.specs.Fits.{FitsNames, AllFit}
use Rattle.fmp_trace.specs.Values.{named, object_text, mode_text, value_text, separator, arguments_from, after_name, call_text}

-- the text has at most so many bytes
record HasMost (most : ℕ) (text : List ℕ) : Type 0 where
  few : length text ≤ most

has : {most : ℕ} {text : List ℕ} → length text ≤ most → HasMost most text
has few = record { few = few }

join : {m n : ℕ} {xs ys : List ℕ} → HasMost m xs → HasMost n ys → HasMost (m + n) (xs ++ ys)
join {xs = xs} {ys = ys} a b = record { few = omega (arith, a.few, b.few, length-append xs ys) }

-- ---- numbers and codes

digits_few : (k n : ℕ) (acc : List ℕ) → length (digits_onto k 10 false n acc) ≤ k + length acc
digits_few zero n acc = omega arith
digits_few (suc k) n acc =
    elim (cases_Bool (eqb (n / 10) 0)) [
      | inl t ↦ rw t (omega arith)
      | inr f ↦ rw f (omega (arith, digits_few k (n / 10) (digit_glyph false (n % 10) ∷ acc)))
    ]

decimal_few : (n : ℕ) → length (decimal n) ≤ 64
unfolding digits
decimal_few n = omega (arith, digits_few 64 n [])

signed_few : (z : ℤ) → length (signed_decimal z) ≤ 65
signed_few (pos n) = omega (arith, decimal_few n)
signed_few (negsuc n) = omega (arith, decimal_few (suc n))

name_of_few : (c : Code) → length (code.name_of c) ≤ 7
name_of_few Accepted = omega arith
name_of_few Parameter = omega arith
name_of_few Identifier = omega arith
name_of_few Context = omega arith
name_of_few IllegalUse = omega arith
name_of_few ObjectState = omega arith
name_of_few QueueOverflow = omega arith
name_of_few WaitReleased = omega arith
name_of_few TimedOut = omega arith

code_few : (c : Code) (value : Option ℤ) → length (code_text c value) ≤ 73
unfolding code_text
code_few c None = omega (arith, name_of_few c, length-append (code.name_of c) [])
code_few c (Some v) = omega (arith, name_of_few c, signed_few v, length-append (code.name_of c) (58 ∷ signed_decimal v))

answer_few : (a : Answer) → length (answer_text a) ≤ 73
answer_few (answers.Done c value) = code_few c value
answer_few answers.Wait = omega arith
answer_few answers.Spin = omega arith
answer_few answers.Gone = omega arith
answer_few answers.Idle = omega arith
answer_few answers.Held = omega arith
answer_few answers.Taken = omega arith
answer_few answers.Nothing = omega arith

lost_few : (lost : Option ℤ) → length (lost_text lost) ≤ 71
lost_few None = omega arith
lost_few (Some v) = omega (arith, signed_few v)

-- the name of a call
text_of_few : (call : Call) → length (table.text_of call) ≤ 9
text_of_few (calls.Task task.ExtTsk) = omega arith
text_of_few (calls.Sync (sync.SigSem x)) = omega arith
text_of_few (calls.Buffer (buffer.GetMpf x)) = omega arith
text_of_few (calls.Time (time.StaCyc x)) = omega arith
text_of_few (calls.System system.GetTid) = omega arith
text_of_few (calls.Spin (spin.LocSpn x)) = omega arith
text_of_few _ = omega arith

-- ---- requests

lead_few : (i : ℕ) → length (request_lead i) ≤ 5
lead_few zero = omega arith
lead_few (suc i) = omega arith

requests_few : (i : ℕ) (ps : List Proc) → length (requests_from i ps) ≤ 69 * length ps
requests_few i [] = omega arith
requests_few i (p ∷ ps) =
    let here = join (join (has (lead_few i)) (has (decimal_few p.number))) (has (requests_few (i + 1) ps)) in
    omega (arith, here.few)

-- processors in ascending order
pub ascend_few : (most least : ℕ) (ps : List Proc) → least ≤ most → Ascend most least ps → least + length ps ≤ most
ascend_few most least [] low up = omega (arith, low)
ascend_few most least (p ∷ ps) low up = omega (arith, up.0, up.1, ascend_few most p.number ps up.1 up.2)

-- of processors below the tenth
digits_few_in : (most : ℕ) → most ≤ 9 → (i least : ℕ) (ps : List Proc) → Ascend most least ps → length (requests_from i ps) ≤ 6 * length ps
digits_few_in most low i least [] up = omega arith
digits_few_in most low i least (p ∷ ps) up =
    let one = ap (λ (xs : List ℕ). length xs) (decimal_digit p.number (omega (arith, up.1, low))) in
    let digit = has {most = 1} {text = decimal p.number} (omega (arith, one)) in
    let here = join (join (has (lead_few i)) digit) (has (digits_few_in most low (i + 1) p.number ps up.2)) in
    omega (arith, here.few)

-- ---- names and calls

module _ (names : NameLists) (valid : AreValid names) where
  named_found : (kind : ObjectKind) (n : ℕ) (found : Option (List ℕ)) → name_of names (name_kinds.Object kind) n ≡ found → length (named names kind n) ≤ 64
  unfolding named is_name
  named_found kind n None e = rw e (decimal_few n)
  named_found kind n (Some name) e =
      let known = object_name names kind n name valid e in
      rw e (leb-true (length name) 64 (and_parts _ _ known.0).1)

  named_few : (kind : ObjectKind) (n : ℕ) → length (named names kind n) ≤ 64
  named_few kind n = named_found kind n (name_of names (name_kinds.Object kind) n) refl

  named_in : (kind : ObjectKind) (n : ℕ) → length (named names kind n) ≤ 65
  named_in kind n = omega (arith, named_few kind n)

  object_few : (kind : ObjectKind) (z : ℤ) → length (object_text names kind z) ≤ 65
  unfolding object_text
  object_few objects.Task (pos zero) = omega arith
  object_few objects.Task (pos (suc n)) = named_in objects.Task (suc n)
  object_few kind (negsuc n) = signed_few (negsuc n)
  object_few objects.Semaphore (pos n) = named_in objects.Semaphore n
  object_few objects.Eventflag (pos n) = named_in objects.Eventflag n
  object_few objects.DataQueue (pos n) = named_in objects.DataQueue n
  object_few objects.Pool (pos n) = named_in objects.Pool n
  object_few objects.Cyclic (pos n) = named_in objects.Cyclic n
  object_few objects.Alarm (pos n) = named_in objects.Alarm n
  object_few objects.SpinLock (pos n) = named_in objects.SpinLock n

  pattern_few : (bits : ℕ) → length (decimal bits) ≤ 65
  pattern_few bits = omega (arith, decimal_few bits)

  mode_few : (m : Mode) → length (mode_text m) ≤ 65
  mode_few modes.Andw = omega arith
  mode_few modes.Orw = omega arith

  value_few : (kind : ArgumentKind) (value : Value) → length (value_text names kind value) ≤ 65
  unfolding value_text
  value_few (kinds.Object kind) (values.Number z) = object_few kind z
  value_few kinds.Priority (values.Number z) = signed_few z
  value_few kinds.Processor (values.Number z) = signed_few z
  value_few kinds.Time (values.Number z) = signed_few z
  value_few kinds.Timeout (values.Number z) = signed_few z
  value_few kinds.Pattern (values.Number z) = signed_few z
  value_few kinds.Data (values.Number z) = signed_few z
  value_few kinds.Mode (values.Number z) = signed_few z
  value_few kinds.Block (values.Number z) = signed_few z
  value_few (kinds.Object kind) (values.Pattern bits) = pattern_few bits
  value_few (kinds.Object kind) (values.Data z) = signed_few z
  value_few (kinds.Object kind) (values.Mode m) = mode_few m
  value_few _ (values.Pattern bits) = pattern_few bits
  value_few _ (values.Data z) = signed_few z
  value_few _ (values.Mode m) = mode_few m

  separator_few : (i : ℕ) → length (separator i) ≤ 2
  separator_few zero = omega arith
  separator_few (suc i) = omega arith

  arguments_few : (i : ℕ) (kinds : List ArgumentKind) (values : List Value) → length (arguments_from names i kinds values) ≤ 67 * length kinds
  arguments_few i [] values = omega arith
  arguments_few i (kind ∷ kinds) [] = omega arith
  arguments_few i (kind ∷ kinds) (value ∷ values) =
      let here = join (join (has (separator_few i)) (has (value_few kind value))) (has (arguments_few (i + 1) kinds values)) in
      omega (arith, here.few)

  after_few : (call : Call) → length (after_name names call) ≤ 270
  unfolding after_name
  after_few call =
      let arguments : HasMost 268 (arguments_from names 0 (table.kinds_of call) (table.values_of call)) =
      has (omega (arith, arguments_few 0 (table.kinds_of call) (table.values_of call), length-kinds_of-le call)) in
      let whole = join (join (has {most = 1} {text = codes "("} (omega arith)) arguments) (has {most = 1} {text = codes ")"} (omega arith)) in
      cond_both (table.is_bare call) [] _ (λ (text : List ℕ). length text ≤ 270) (λ _. omega arith) (λ _. whole.few)

  event_few : (e : Event) → length (event_text names e) ≤ 279
  unfolding call_text
  event_few (events.Call p call) = (join (has (text_of_few call)) (has (after_few call))).few
  event_few (events.Tick p) = omega arith
  event_few (events.Ipi p) = omega arith

  -- ---- the parts of a line

  runner_few : (runner : Option Runner) → length (runner_text names runner) ≤ 64
  runner_few None = omega arith
  runner_few (Some (runners.Task t)) = named_few objects.Task t.number
  runner_few (Some (runners.Alarm a)) = named_few objects.Alarm a.number
  runner_few (Some (runners.Cyclic c)) = named_few objects.Cyclic c.number

  releases_few : (rs : List Release) → length (releases_text names rs) ≤ 143 * length rs
  unfolding release_text
  releases_few [] = omega arith
  releases_few (r ∷ rs) =
      let lead = has {most = 5} {text = codes " rel="} (omega arith) in
      let mark = has {most = 1} {text = codes ":"} (omega arith) in
      let here = join (join (join (join lead (has (named_few objects.Task r.task.number))) mark) (has (code_few r.code r.value))) (has (releases_few rs)) in
      omega (arith, here.few)

  run_few : (change : Option (Option Task)) → length (run_change_text names change) ≤ 69
  run_few None = omega arith
  run_few (Some None) = omega arith
  run_few (Some (Some t)) = omega (arith, named_few objects.Task t.number)

  -- a line, where its requests have at most so many bytes
  line_with : (most n : ℕ) (r : Record) → length (requests_from 0 r.requests) ≤ most → length (line_text names n r) ≤ 690 + (143 * length r.releases + most)
  unfolding line_text core_text head_text tail_text
  line_with most n r requests =
      let blank = has {most = 1} {text = codes " "} (omega arith) in
      let processor = join (join (has (decimal_few n)) (has {most = 2} {text = codes " P"} (omega arith))) (has (decimal_few (processor_of r.event).number)) in
      let runner = join (join (join processor blank) (has (runner_few r.runner))) blank in
      let answer = join (join (join runner (has (event_few r.event))) blank) (has (answer_few r.answer)) in
      let run = join (join (has (releases_few r.releases)) (has (lost_few r.lost))) (has (run_few r.run_change)) in
      let line = join (join answer (join run (has requests))) (has {most = 1} {text = codes "\n"} (omega arith)) in
      omega (arith, line.few)

  pub line_few : (n : ℕ) (r : Record) → length r.releases ≤ 64 → length r.requests ≤ 8 → length (line_text names n r) ≤ most_line_bytes
  line_few n r releases requests = omega (arith, line_with (69 * length r.requests) n r (requests_few 0 r.requests), releases, requests)

  -- a line that fits the names has few bytes but for its releases
  fitting_few : (n : ℕ) (r : Record) → FitsNames names r → length (line_text names n r) ≤ 738 + 143 * length r.releases
  fitting_few n r fits =
      let few = ascend_few names.processors 0 r.requests (omega arith) fits.requests in
      let most = valid.most in
      omega (arith, line_with (6 * length r.requests) n r (digits_few_in names.processors (omega (arith, most)) 0 0 r.requests fits.requests), few, most)

  pub lines_few : (n : ℕ) (rs : List Record) → AllFit names rs → length (lines_from names n rs) ≤ 738 * length rs + 143 * sum_by (λ (x : Record). length x.releases) rs
  lines_few n [] fit = omega arith
  lines_few n (r ∷ rs) fit =
      omega (arith, fitting_few n r fit.0, lines_few (n + 1) rs fit.1, length-append (line_text names n r) (lines_from names (n + 1) rs), sum_by-cons (λ (x : Record). length x.releases) r rs)
