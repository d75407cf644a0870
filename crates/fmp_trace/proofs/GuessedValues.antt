-- Numbers, names, codes and answers that are printed are guessed right.
use Rattle.std.proofs.Common.{◌≡◌, ℕ, ◌<◌, ◌≤◌, ◌^◌, ℤ, pos, negsuc, suc, Bool, true, false, ◌||◌, inl, List, Option, Some, None, option_map, refl, ap, ◌∙◌, arith}
use Rattle.std.specs.Prelude.{codes, decimal}
use Rattle.std.specs.Fmt.{signed_decimal}
use Rattle.std.specs.List.{list_all}
use Rattle.std.specs.Str.{bytes_eq}
use Rattle.std.proofs.lemmas.Bool.{or_parts, le-leb, lt-ltb, and_parts}
use Rattle.std.proofs.lemmas.Fmt.{decimal_is_IsNumeral}
use Rattle.fmp_codes.specs.Codes as code
use Rattle.fmp_codes.specs.declared.codes.Code.{Code}
use Rattle.fmp_codes.specs.declared.codes.Code.TheVariants.{Accepted, Parameter, Identifier, Context, IllegalUse, ObjectState, QueueOverflow, WaitReleased, TimedOut}
use Rattle.fmp_codes.specs.declared.numbers.Proc.{Proc}
use Rattle.fmp_codes.specs.declared.numbers.Task.{Task}
use Rattle.fmp_codes.specs.declared.numbers.Object.{Object}
use Rattle.fmp_codes.specs.declared.records.Answer.{Answer}
use Rattle.fmp_codes.specs.declared.records.Answer.TheVariants as answers
use Rattle.fmp_bytes.specs.declared.classes.Class.TheVariants.{Word, Argument}
use Rattle.fmp_bytes.specs.Bytes.{is_of, cut_at}
use Rattle.fmp_bytes.specs.Numerals.{magnitude_of, signed_of}
use Rattle.fmp_bytes.specs.Spelling.{SpellsNumber}
use Rattle.fmp_bytes.proofs.Cutting.{cut_at-append}
use Rattle.fmp_bytes.proofs.Spelled.{number_of-spelled, magnitude_of-small}
use Rattle.fmp_bytes.proofs.Tokens.{identifier_words}
use Rattle.fmp_codes.specs.declared.kinds.NameKind.TheVariants as kinds
use Rattle.fmp_codes.specs.declared.kinds.ObjectKind.{ObjectKind}
use Rattle.fmp_codes.specs.declared.kinds.ObjectKind.TheVariants as objects
use Rattle.fmp_text.specs.Lines.{in_processors, processor_numbered}
use Rattle.fmp_names.specs.Names.{NameLists, AreValid, name_of, is_reserved, is_processor_word, is_constant}
use Rattle.fmp_names.specs.Names.{number_of as number_of_name}
use Rattle.fmp_names.specs.Names as names
use Rattle.fmp_names.proofs.Placed.{number_of-name_of, object_name}
use Rattle.fmp_codes.specs.Records.{IsWithin, ValueFits, AnswerFits}
use Rattle.fmp_codes.proofs.Same.{as_proc-number, as_task-number, as_object-number}
use Rattle.fmp_trace.specs.Fits.{IsNamed, RunningFits}
use Rattle.fmp_trace.specs.GuessParts.{signed_in, task_in, object_in, code_in, value_in, coded_in, done_in, word_answer, answer_in, running_in}
use Rattle.fmp_trace.specs.Lines.{code_text, answer_text, task_text, running_text}
use Rattle.fmp_trace.specs.Values.{named}
use Rattle.fmp_trace.proofs.Bytes.{other_than, decimal_bytes, of_words, code_words}

-- ---- numbers

-- how a signed number is spelled
pub record IsSigned (limit : ℕ) (z : ℤ) : Type 0 where
  pub negative : Bool
  pub magnitude : ℕ
  pub spelled : SpellsNumber (signed_decimal z) negative magnitude
  pub value : signed_of limit negative magnitude ≡ Some z

pub is_signed : (limit : ℕ) (z : ℤ) → limit ≤ 2 ^ 63 → IsWithin limit z → IsSigned limit z
is_signed limit (pos n) few fits =
    let lt = lt-ltb n limit fits in
    record { negative = false; magnitude = n; spelled = (omega (arith, few, fits), inl refl); value = rw lt refl }
is_signed limit (negsuc n) few fits =
    let le = le-leb (suc n) limit (omega (arith, fits)) in
    record { negative = true; magnitude = suc n; spelled = (decimal (suc n), refl, (omega (arith, few, fits), inl refl)); value = rw le refl }

pub signed_guessed : (z : ℤ) → IsWithin (2 ^ 63) z → signed_in (signed_decimal z) ≡ Some z
unfolding signed_in
signed_guessed z fits =
    let s = is_signed (2 ^ 63) z (omega arith) fits in
    let value = s.value in
    rw (number_of-spelled (signed_decimal z) s.negative s.magnitude s.spelled) value

pub signed_bytes : (z : ℤ) → IsWithin (2 ^ 63) z → list_all (is_of Argument) (signed_decimal z) ≡ true
unfolding is_of
signed_bytes (pos n) fits = decimal_bytes n (omega (arith, fits))
signed_bytes (negsuc n) fits = decimal_bytes (suc n) (omega (arith, fits))

pub processor_guessed : (names : NameLists) (p : Proc) → p.number ≤ names.processors → processor_numbered names (decimal p.number) ≡ Some p
unfolding processor_numbered in_processors
processor_guessed names p most =
    let lt : p.number < 2 ^ 64 = omega (arith, p.most) in
    let numeral = decimal_is_IsNumeral p.number lt in
    let size : magnitude_of 10 (decimal p.number) ≡ Some p.number = magnitude_of-small 10 (decimal p.number) (omega (arith, numeral.1, lt)) ∙ ap (λ (m : ℕ). Some m) numeral.1 in
    let low = le-leb 1 p.number p.least in let high = le-leb p.number names.processors most in
    rw (size, low, high) (ap (λ (q : Proc). Some q) (as_proc-number p))

-- ---- names

-- the name of an object: how it is printed, and what is known of it
pub record IsPrintedName (names : NameLists) (kind : ObjectKind) (n : ℕ) : Type 0 where
  pub name : List ℕ
  pub printed : named names kind n ≡ name
  pub is_name : name_of names (kinds.Object kind) n ≡ Some name
  pub number : number_of_name names (kinds.Object kind) name ≡ Some n
  pub words : list_all (is_of Word) name ≡ true
  pub free : is_reserved name ≡ false

pub printed_name : (names : NameLists) (kind : ObjectKind) (n : ℕ) → AreValid names → IsNamed names kind n → IsPrintedName names kind n
unfolding named names.is_name
printed_name names kind n valid is_named =
    let known = object_name names kind n is_named.0 valid is_named.1 in
    let there = is_named.1 in
    record {
      name = is_named.0;
      printed = rw there refl;
      is_name = is_named.1;
      number = number_of-name_of names (kinds.Object kind) n is_named.0 valid is_named.1;
      words = identifier_words is_named.0 (and_parts _ _ known.0).0;
      free = known.1;
    }

pub task_guessed : (names : NameLists) (t : Task) → AreValid names → IsNamed names objects.Task t.number → task_in names (task_text names t) ≡ Some t
unfolding task_in
task_guessed names t valid is_named =
    let p = printed_name names objects.Task t.number valid is_named in
    let printed = p.printed in let number = p.number in
    rw (printed, number) (ap (λ (u : Task). Some u) (as_task-number t))

pub object_guessed : (names : NameLists) (kind : ObjectKind) (o : Object) → AreValid names → IsNamed names kind o.number → object_in names kind (named names kind o.number) ≡ Some o
unfolding object_in
object_guessed names kind o valid is_named =
    let p = printed_name names kind o.number valid is_named in
    let printed = p.printed in let number = p.number in
    rw (printed, number) (ap (λ (u : Object). Some u) (as_object-number o))

pub name_bytes : (names : NameLists) (kind : ObjectKind) (n : ℕ) → AreValid names → IsNamed names kind n → list_all (is_of Argument) (named names kind n) ≡ true
name_bytes names kind n valid is_named =
    let p = printed_name names kind n valid is_named in
    ap (list_all (is_of Argument)) p.printed ∙ of_words p.name p.words

reserved_parts : (word : List ℕ) → is_reserved word ≡ false → bytes_eq word (codes "idle") ≡ false
unfolding is_reserved
reserved_parts word free =
    (or_parts (bytes_eq word (codes "idle")) (is_processor_word word) (or_parts (bytes_eq word (codes "idle") || is_processor_word word) (is_constant word) free).0).0

-- no object is called idle
not_idle : (names : NameLists) (kind : ObjectKind) (n : ℕ) → AreValid names → IsNamed names kind n → bytes_eq (named names kind n) (codes "idle") ≡ false
not_idle names kind n valid is_named =
    let p = printed_name names kind n valid is_named in
    ap (λ (text : List ℕ). bytes_eq text (codes "idle")) p.printed ∙ reserved_parts p.name p.free

pub running_guessed : (names : NameLists) (running : Option Task) → AreValid names → RunningFits names running → running_in names (running_text names running) ≡ Some running
unfolding running_in
running_guessed names None valid fits = refl
running_guessed names (Some t) valid fits =
    let named_so = task_guessed names t valid fits in
    rw (not_idle names objects.Task t.number valid fits, named_so) refl

-- ---- codes and answers

code_guessed : (c : Code) → code_in (code.name_of c) ≡ Some c
unfolding code_in
code_guessed Accepted = refl
code_guessed Parameter = refl
code_guessed Identifier = refl
code_guessed Context = refl
code_guessed IllegalUse = refl
code_guessed ObjectState = refl
code_guessed QueueOverflow = refl
code_guessed WaitReleased = refl
code_guessed TimedOut = refl

code_alone : (c : Code) → cut_at 58 (code_text c None) ≡ (code.name_of c, None)
unfolding code_text cut_at
code_alone Accepted = refl
code_alone Parameter = refl
code_alone Identifier = refl
code_alone Context = refl
code_alone IllegalUse = refl
code_alone ObjectState = refl
code_alone QueueOverflow = refl
code_alone WaitReleased = refl
code_alone TimedOut = refl

-- a code's name ends at the colon after it, if there is one
code_cut : (c : Code) (value : Option ℤ) → cut_at 58 (code_text c value) ≡ (code.name_of c, option_map signed_decimal value)
unfolding code_text is_of
code_cut c None = code_alone c
code_cut c (Some v) = cut_at-append 58 (code.name_of c) (signed_decimal v) (other_than (is_of Argument) 58 refl (code.name_of c) (of_words (code.name_of c) (code_words c)))

value_guessed : (value : Option ℤ) → ValueFits value → value_in (option_map signed_decimal value) ≡ Some value
value_guessed None fits = refl
value_guessed (Some v) fits = ap (option_map (λ (z : ℤ). Some z)) (signed_guessed v fits)

pub coded_guessed : (c : Code) (value : Option ℤ) → ValueFits value → coded_in (code_text c value) ≡ Some (c, value)
unfolding coded_in
coded_guessed c value fits = rw (code_cut c value, code_guessed c, value_guessed value fits) refl

-- no code is one of the words for other answers
code_only : (c : Code) (value : Option ℤ) → word_answer (code_text c value) ≡ None
unfolding word_answer code_text
code_only Accepted value = refl
code_only Parameter value = refl
code_only Identifier value = refl
code_only Context value = refl
code_only IllegalUse value = refl
code_only ObjectState value = refl
code_only QueueOverflow value = refl
code_only WaitReleased value = refl
code_only TimedOut value = refl

pub answer_guessed : (a : Answer) → AnswerFits a → answer_in (answer_text a) ≡ Some a
unfolding answer_in done_in word_answer
answer_guessed (answers.Done c value) fits = rw (code_only c value, coded_guessed c value fits) refl
answer_guessed answers.Wait fits = refl
answer_guessed answers.Spin fits = refl
answer_guessed answers.Gone fits = refl
answer_guessed answers.Idle fits = refl
answer_guessed answers.Held fits = refl
answer_guessed answers.Taken fits = refl
answer_guessed answers.Nothing fits = refl
