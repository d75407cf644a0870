-- A fact is read of its own word.
use Rattle.std.proofs.Common.{◌≡◌, ◌∙◌, ℕ, ◌+◌, ◌≤◌, ℤ, pos, negsuc, Bool, true, false, not, eqb, leb, inl, inr, List, [], ◌∷◌, ◌++◌, length, Option, Some, None, refl, sym, ap, subst, arith, decimal}
use Rattle.std.specs.Prelude.{if◌then◌else◌, option_map, unwrap_or, codes}
use Rattle.std.specs.Fmt.{signed_decimal}
use Rattle.std.specs.List.{list_all}
use Rattle.std.specs.Option.{option_or}
use Rattle.fmp_facts.specs.declared.facts.Key.{Key}
use Rattle.fmp_facts.specs.declared.facts.Key.TheVariants as keys
use Rattle.std.specs.Str.{bytes_eq}
use Rattle.std.proofs.lemmas.Bool.{and_parts, cases_Bool, eqb-true, false_from_ne_true, false≢true, ne_eqb}
use Rattle.std.proofs.lemmas.Slice.Eq.{bytes_eq-Decides}
use Rattle.fmp_bytes.specs.declared.classes.Class.TheVariants.{Word}
use Rattle.fmp_bytes.specs.Bytes.{cut_at, following, is_identifier, is_of}
use Rattle.fmp_bytes.proofs.Cutting.{cut_at-append, cut_at-parts}
use Rattle.fmp_bytes.proofs.Parsed.{some_is}
use Rattle.fmp_bytes.proofs.Prefixes.{list_all-weaker}
use Rattle.fmp_bytes.proofs.Tokens.{identifier_words}
use Rattle.fmp_codes.specs.declared.kinds.NameKind.TheVariants as name
use Rattle.fmp_codes.specs.declared.kinds.ObjectKind.{ObjectKind}
use Rattle.fmp_codes.specs.declared.kinds.ObjectKind.TheVariants as objects
use Rattle.fmp_codes.specs.Numbers.{as_object, as_task}
use Rattle.fmp_codes.specs.declared.numbers.Object.{Object}
use Rattle.fmp_codes.specs.declared.numbers.Proc.{Proc}
use Rattle.fmp_codes.specs.declared.numbers.Task.{Task}
use Rattle.fmp_codes.specs.declared.records.Runner.{Runner}
use Rattle.fmp_codes.specs.declared.records.Runner.TheVariants as runner
use Rattle.fmp_codes.proofs.Same.{as_object-number, as_task-number}
use Rattle.fmp_names.specs.Names.{AreValid, NameLists, is_name, number_of}
use Rattle.fmp_names.proofs.Placed.{name_of-number_of, number_of-name_of, object_name}
use Rattle.fmp_facts.specs.declared.facts.Fact.{Fact}
use Rattle.fmp_facts.specs.declared.facts.Fact.TheVariants as fact
use Rattle.fmp_facts.specs.declared.facts.WaitKind.{WaitKind}
use Rattle.fmp_facts.specs.declared.facts.WaitKind.TheVariants as waiting
use Rattle.fmp_fact_words.specs.Reading.{cut_fact, fact_named, handler_in, key_fact, key_rows, number_in, object_in, plain_fact, processor_in, row_of, running_fact, task_in, valued_fact, value_in, waited_for, word_fact}
use Rattle.fmp_fact_words.specs.Told.{IsAlone, IsNamed, IsRunnerTold, IsTold, IsValueTold, IsWaitTold, IsWord, is_waited}
use Rattle.fmp_fact_words.specs.Words.{called, key_word, processor_word, runner_word, wait_word, word_of}
use Rattle.fmp_fact_words.proofs.Numbers.{number_read, processor_digit, processor_read, value_read}

-- ---- words without a `=`

abbrev is_apart : ℕ → Bool
is_apart b = not (eqb b 61)

has_equals : (front rest : List ℕ) → list_all is_apart (front ++ 61 ∷ rest) ≡ true → ⊥
has_equals [] rest h = false≢true (and_parts false (list_all is_apart rest) h).0
has_equals (b ∷ front) rest h = has_equals front rest (and_parts (is_apart b) (list_all is_apart (front ++ 61 ∷ rest)) h).1

uncut : (word : List ℕ) → list_all is_apart word ≡ true → (o : Option (List ℕ)) → (cut_at 61 word).1 ≡ o → (cut_at 61 word).1 ≡ None
uncut word apart None is = is
uncut word apart (Some rest) is =
    absurd (has_equals (cut_at 61 word).0 rest (subst (λ (w : List ℕ). list_all is_apart w ≡ true) (cut_at-parts 61 word rest is) apart))

word_apart : (b : ℕ) → is_of Word b ≡ true → is_apart b ≡ true
unfolding is_of
word_apart b h = elim (cases_Bool (eqb b 61)) [
  | inl is ↦ absurd (false≢true (subst (λ c. is_of Word c ≡ true) (eqb-true b 61 is) h))
  | inr other ↦ ap not other
]

is_named : (word : List ℕ) → is_name word ≡ true → is_identifier word ≡ true
unfolding is_name
is_named word h = (and_parts (is_identifier word) (leb (length word) 64) h).0

module _ (names : NameLists) where
  whole : (word : List ℕ) (p : List ℕ × Option (List ℕ)) → p.1 ≡ None → cut_fact names word p ≡ option_or (option_map fact.On (processor_in names.processors word)) (plain_fact names word)
  whole word (key, None) is = refl
  whole word (key, Some value) is = absurd cc

  plain_read : (word : List ℕ) → list_all is_apart word ≡ true → fact_named names word ≡ option_or (option_map fact.On (processor_in names.processors word)) (plain_fact names word)
  unfolding fact_named
  plain_read word apart = whole word (cut_at 61 word) (uncut word apart (cut_at 61 word).1 refl)

  -- ---- words with a `=`

  key_read : (key value : List ℕ) → list_all is_apart key ≡ true → fact_named names (key ++ 61 ∷ value) ≡ valued_fact names value (row_of key_rows key)
  unfolding fact_named
  key_read key value apart = ap (cut_fact names (key ++ 61 ∷ value)) (cut_at-append 61 key value apart)

  -- what a key and its value say is said, whether or not the value is a star
  said : (value : List ℕ) (key : Key) (f : Fact) → key_fact names value key ≡ Some f → valued_fact names value (Some key) ≡ Some f
  said value key f is = ap (λ (o : Option Fact). option_or o (if bytes_eq value (codes "*") then Some (fact.Has key) else None)) is

  -- a star alone, where it is no value
  starred : (key : Key) → key_fact names (codes "*") key ≡ None → valued_fact names (codes "*") (Some key) ≡ Some (fact.Has key)
  starred key none = ap (λ (o : Option Fact). option_or o (Some (fact.Has key))) none

  module _ (valid : AreValid names) where
    -- ---- names

    number_is : (kind : ObjectKind) (n : ℕ) (it : IsNamed names kind n) → number_of names (name.Object kind) it.word ≡ Some n
    number_is kind n it = number_of-name_of names (name.Object kind) n it.word valid it.is

    pub called_is : (kind : ObjectKind) (n : ℕ) (it : IsNamed names kind n) → called names kind n ≡ it.word
    called_is kind n it = ap (λ (o : Option (List ℕ)). unwrap_or o (decimal n)) it.is

    pub task_read : (t : Task) (it : IsNamed names objects.Task t.number) → task_in names (called names objects.Task t.number) ≡ Some t
    task_read t it =
        ap (task_in names) (called_is objects.Task t.number it) ∙ ap (option_map as_task) (number_is objects.Task t.number it) ∙ ap (λ (u : Task). Some u) (as_task-number t)

    pub object_read : (kind : ObjectKind) (o : Object) (it : IsNamed names kind o.number) → object_in names kind (called names kind o.number) ≡ Some o
    object_read kind o it =
        ap (object_in names kind) (called_is kind o.number it) ∙ ap (option_map as_object) (number_is kind o.number it) ∙ ap (λ (u : Object). Some u) (as_object-number o)

    pub other_read : (kind other : ObjectKind) (n : ℕ) (it : IsNamed names kind n) → number_of names (name.Object other) it.word ≡ None → object_in names other (called names kind n) ≡ None
    other_read kind other n it none = ap (object_in names other) (called_is kind n it) ∙ ap (option_map as_object) none

    pub name_is : (kind : ObjectKind) (n : ℕ) (it : IsNamed names kind n) → is_name it.word ≡ true
    name_is kind n it = (object_name names kind n it.word valid it.is).0

    -- a task is not called `-`
    pub dash : (word : List ℕ) → is_name word ≡ true → bytes_eq word (codes "-") ≡ false
    unfolding is_name is_of
    dash word named = false_from_ne_true _ (λ h. false≢true (subst (λ (w : List ℕ). is_name w ≡ true) ((bytes_eq-Decides word (codes "-")).0 h) named))

    running_read : (t : Task) (it : IsNamed names objects.Task t.number) → running_fact names (called names objects.Task t.number) ≡ Some (fact.Runs t)
    running_read t it =
        let other : bytes_eq (called names objects.Task t.number) (codes "-") ≡ false =
        ap (λ (w : List ℕ). bytes_eq w (codes "-")) (called_is objects.Task t.number it) ∙ dash it.word (name_is objects.Task t.number it) in
        rw other (ap (option_map fact.Runs) (task_read t it))

    due_read : (r : Runner) → IsRunnerTold names r → handler_in names (runner_word names r) ≡ Some r
    due_read (runner.Task t) told = absurd told
    due_read (runner.Alarm a) told =
        let none = other_read objects.Alarm objects.Cyclic a.number told.0 (told.1 objects.Cyclic (λ same. absurd cc)) in
        let some = object_read objects.Alarm a told.0 in
        rw (none, some) refl
    due_read (runner.Cyclic c) told = rw (object_read objects.Cyclic c told) refl

    value_told : (v : ℤ) → IsValueTold names v → value_in (signed_decimal v) ≡ Some v
    value_told (pos n) lt = value_read (pos n) (λ m is. let same : n ≡ m = cc in omega (arith, same, lt)) (λ m is. absurd cc)
    value_told (negsuc n) lt = value_read (negsuc n) (λ m is. absurd cc) (λ m is. let same : n ≡ m = cc in omega (arith, same, lt))

    -- ---- objects that tasks wait for

    waited_read : (kind : ObjectKind) (o : Object) → (it : IsNamed names kind o.number) → is_waited kind ≡ true → IsAlone names kind it.word
        → waited_for names (called names kind o.number) ≡ Some (fact.WaitsAt kind o)
    unfolding waited_for
    waited_read objects.Semaphore o it is alone = rw (object_read objects.Semaphore o it) refl
    waited_read objects.Eventflag o it is alone =
        let a = other_read objects.Eventflag objects.Semaphore o.number it (alone objects.Semaphore (λ same. absurd cc)) in
        rw (a, object_read objects.Eventflag o it) refl
    waited_read objects.DataQueue o it is alone =
        let a = other_read objects.DataQueue objects.Semaphore o.number it (alone objects.Semaphore (λ same. absurd cc)) in
        let b = other_read objects.DataQueue objects.Eventflag o.number it (alone objects.Eventflag (λ same. absurd cc)) in
        rw (a, b, object_read objects.DataQueue o it) refl
    waited_read objects.Pool o it is alone =
        let a = other_read objects.Pool objects.Semaphore o.number it (alone objects.Semaphore (λ same. absurd cc)) in
        let b = other_read objects.Pool objects.Eventflag o.number it (alone objects.Eventflag (λ same. absurd cc)) in
        let d = other_read objects.Pool objects.DataQueue o.number it (alone objects.DataQueue (λ same. absurd cc)) in
        rw (a, b, d, object_read objects.Pool o it) refl
    waited_read objects.Task o it is alone = absurd cc
    waited_read objects.Cyclic o it is alone = absurd cc
    waited_read objects.Alarm o it is alone = absurd cc
    waited_read objects.SpinLock o it is alone = absurd cc

    at_read : (kind : ObjectKind) (o : Object) → IsWaitTold names kind o.number → fact_named names (called names kind o.number) ≡ Some (fact.WaitsAt kind o)
    unfolding plain_fact
    at_read kind o told =
        let it = told.0 in
        let same = called_is kind o.number it in
        let apart : list_all is_apart it.word ≡ true = list_all-weaker (is_of Word) is_apart word_apart it.word (identifier_words it.word (is_named it.word (name_is kind o.number it))) in
        let read = ap (waited_for names) (sym same) ∙ waited_read kind o it told.1 told.2 in
        ap (fact_named names) same ∙ plain_read it.word apart ∙ rw (told.5, told.3, told.4) read

    -- ---- words as they are

    word_read : (word : List ℕ) (f : Fact) → list_all is_apart word ≡ true → processor_in names.processors word ≡ None → word_fact word ≡ Some f → IsWord names word
        → fact_named names word ≡ Some f
    unfolding plain_fact
    word_read word f apart none row free = plain_read word apart ∙ rw (none, free, row) refl

    wait_read : (kind : WaitKind) → IsWord names (wait_word kind) → fact_named names (wait_word kind) ≡ Some (fact.WaitsFor kind)
    wait_read waiting.Sleep told = word_read (codes "slp") (fact.WaitsFor waiting.Sleep) refl refl refl told
    wait_read waiting.Delay told = word_read (codes "dly") (fact.WaitsFor waiting.Delay) refl refl refl told
    wait_read waiting.Semaphore told = word_read (codes "sem") (fact.WaitsFor waiting.Semaphore) refl refl refl told
    wait_read waiting.Eventflag told = word_read (codes "flg") (fact.WaitsFor waiting.Eventflag) refl refl refl told
    wait_read waiting.Send told = word_read (codes "sdtq") (fact.WaitsFor waiting.Send) refl refl refl told
    wait_read waiting.Receive told = word_read (codes "rdtq") (fact.WaitsFor waiting.Receive) refl refl refl told
    wait_read waiting.Pool told = word_read (codes "mpf") (fact.WaitsFor waiting.Pool) refl refl refl told

    on_read : (p : Proc) → p.number ≤ names.processors → fact_named names (processor_word p) ≡ Some (fact.On p)
    on_read p few =
        let other : eqb (48 + p.number) 61 ≡ false = ne_eqb (48 + p.number) 61 (λ e. let most = p.most in omega (arith, e, most)) in
        let apart : list_all is_apart (processor_word p) ≡ true = rw (processor_digit p, other) refl in
        plain_read (processor_word p) apart ∙ rw (processor_read names.processors p few) refl

    -- ---- a star after a key: no object is called so

    no_star : (kind : ObjectKind) (o : Option ℕ) → number_of names (name.Object kind) (codes "*") ≡ o → o ≡ None
    unfolding is_name is_of
    no_star kind None is = refl
    no_star kind (Some n) is = absurd (false≢true (object_name names kind n (codes "*") valid (name_of-number_of names (name.Object kind) n (codes "*") is)).0)

    unstarred : (kind : ObjectKind) → number_of names (name.Object kind) (codes "*") ≡ None
    unstarred kind = no_star kind (number_of names (name.Object kind) (codes "*")) refl

    star_read : (key : Key) → fact_named names (key_word key ++ codes "=*") ≡ Some (fact.Has key)
    unfolding number_in value_in following
    star_read keys.Run = key_read (codes "run") (codes "*") refl ∙ starred keys.Run (rw (unstarred objects.Task) refl)
    star_read keys.Ready = key_read (codes "ready") (codes "*") refl ∙ starred keys.Ready (rw (unstarred objects.Task) refl)
    star_read keys.Due = key_read (codes "due") (codes "*") refl ∙ starred keys.Due (rw (unstarred objects.Cyclic, unstarred objects.Alarm) refl)
    star_read keys.Left = key_read (codes "left") (codes "*") refl
    star_read keys.Priority = key_read (codes "pri") (codes "*") refl
    star_read keys.Activations = key_read (codes "act") (codes "*") refl
    star_read keys.Wakeups = key_read (codes "wup") (codes "*") refl
    star_read keys.Count = key_read (codes "count") (codes "*") refl
    star_read keys.Pattern = key_read (codes "pattern") (codes "*") refl
    star_read keys.Values = key_read (codes "values") (codes "*") refl
    star_read keys.FreeBlocks = key_read (codes "free") (codes "*") refl
    star_read keys.Held = key_read (codes "held") (codes "*") refl

    -- ---- each fact

    pub fact_read : (f : Fact) → IsTold names f → fact_named names (word_of names f) ≡ Some f
    unfolding word_of
    fact_read (fact.Runs t) told = key_read (codes "run") (called names objects.Task t.number) refl ∙ said (called names objects.Task t.number) keys.Run (fact.Runs t) (running_read t told)
    fact_read fact.RunsNone told = key_read (codes "run") (codes "-") refl
    fact_read (fact.HasReady t) told = key_read (codes "ready") (called names objects.Task t.number) refl ∙ said (called names objects.Task t.number) keys.Ready (fact.HasReady t) (ap (option_map fact.HasReady) (task_read t told))
    fact_read fact.Locked told = word_read (codes "locked") fact.Locked refl refl refl told
    fact_read fact.Disabled told = word_read (codes "disabled") fact.Disabled refl refl refl told
    fact_read fact.Latched told = word_read (codes "latch") fact.Latched refl refl refl told
    fact_read (fact.HasDue r) told = key_read (codes "due") (runner_word names r) refl ∙ said (runner_word names r) keys.Due (fact.HasDue r) (ap (option_map fact.HasDue) (due_read r told))
    fact_read fact.Dormant told = word_read (codes "dormant") fact.Dormant refl refl refl told
    fact_read fact.Running told = word_read (codes "running") fact.Running refl refl refl told
    fact_read fact.Ready told = word_read (codes "ready") fact.Ready refl refl refl told
    fact_read (fact.On p) told = on_read p told
    fact_read fact.Suspended told = word_read (codes "suspended") fact.Suspended refl refl refl told
    fact_read fact.Waits told = word_read (codes "waits") fact.Waits refl refl refl told
    fact_read (fact.WaitsFor kind) told = wait_read kind told
    fact_read (fact.WaitsAt kind o) told = at_read kind o told
    fact_read (fact.Left n) told = key_read (codes "left") (decimal n) refl ∙ said (decimal n) keys.Left (fact.Left n) (ap (option_map fact.Left) (number_read n told))
    fact_read (fact.Priority n) told = key_read (codes "pri") (decimal n) refl ∙ said (decimal n) keys.Priority (fact.Priority n) (ap (option_map fact.Priority) (number_read n told))
    fact_read (fact.Activations n) told = key_read (codes "act") (decimal n) refl ∙ said (decimal n) keys.Activations (fact.Activations n) (ap (option_map fact.Activations) (number_read n told))
    fact_read (fact.Wakeups n) told = key_read (codes "wup") (decimal n) refl ∙ said (decimal n) keys.Wakeups (fact.Wakeups n) (ap (option_map fact.Wakeups) (number_read n told))
    fact_read (fact.Count n) told = key_read (codes "count") (decimal n) refl ∙ said (decimal n) keys.Count (fact.Count n) (ap (option_map fact.Count) (number_read n told))
    fact_read (fact.Pattern n) told = key_read (codes "pattern") (decimal n) refl ∙ said (decimal n) keys.Pattern (fact.Pattern n) (ap (option_map fact.Pattern) (number_read n told))
    fact_read fact.Empty told = word_read (codes "empty") fact.Empty refl refl refl told
    fact_read (fact.HasValue v) told = key_read (codes "values") (signed_decimal v) refl ∙ said (signed_decimal v) keys.Values (fact.HasValue v) (ap (option_map fact.HasValue) (value_told v told))
    fact_read (fact.FreeBlocks n) told = key_read (codes "free") (decimal n) refl ∙ said (decimal n) keys.FreeBlocks (fact.FreeBlocks n) (ap (option_map fact.FreeBlocks) (number_read n told))
    fact_read fact.Stopped told = word_read (codes "stopped") fact.Stopped refl refl refl told
    fact_read fact.Due told = word_read (codes "due") fact.Due refl refl refl told
    fact_read fact.Free told = word_read (codes "free") fact.Free refl refl refl told
    fact_read (fact.HeldBy p) told = key_read (codes "held") (processor_word p) refl ∙ said (processor_word p) keys.Held (fact.HeldBy p) (ap (option_map fact.HeldBy) (processor_read names.processors p told))
    fact_read (fact.Has key) told = star_read key

    -- no two facts have one word
    pub one_fact : (f g : Fact) → IsTold names f → IsTold names g → word_of names f ≡ word_of names g → f ≡ g
    one_fact f g told_f told_g same = some_is f g (sym (fact_read f told_f) ∙ ap (fact_named names) same ∙ fact_read g told_g)
