-- The fact that a word of a pattern stands for.
use Rattle.std.specs.Prelude.{ℕ, ℤ, ◌+◌, ◌-◌, ◌^◌, ◌==◌, ◌&&◌, nat_le, not, true, false, List, [], ◌∷◌, map, Option, None, Some, option_map, is_none, if◌then◌else◌, codes}
use Rattle.std.specs.Option.{option_and_then, option_map_or, option_or}
use Rattle.std.specs.Str.{bytes_eq}
use Rattle.fmp_codes.specs.Numbers.{as_object, as_proc, as_task}
use Rattle.fmp_codes.specs.declared.numbers.Object.{Object}
use Rattle.fmp_codes.specs.declared.numbers.Proc.{Proc}
use Rattle.fmp_codes.specs.declared.numbers.Task.{Task}
use Rattle.fmp_codes.specs.declared.records.Runner.{Runner}
use Rattle.fmp_codes.specs.declared.records.Runner.TheVariants as runner
use Rattle.fmp_bytes.specs.Bytes.{cut_at, equals_sign, following, letter_p, minus_sign}
use Rattle.fmp_bytes.specs.Numerals.{are_digits, is_zero_led, magnitude_of, signed_of}
use Rattle.fmp_codes.specs.declared.kinds.NameKind.TheVariants as name
use Rattle.fmp_codes.specs.declared.kinds.ObjectKind.{ObjectKind}
use Rattle.fmp_codes.specs.declared.kinds.ObjectKind.TheVariants as objects
use Rattle.fmp_names.specs.Names.{NameLists, is_object, number_of}
use Rattle.fmp_facts.specs.declared.facts.Fact.{Fact}
use Rattle.fmp_facts.specs.declared.facts.Fact.TheVariants as fact
use Rattle.fmp_facts.specs.declared.facts.Key.{Key}
use Rattle.fmp_facts.specs.declared.facts.Key.TheVariants as keys
use Rattle.fmp_facts.specs.declared.facts.WaitKind.TheVariants as waiting
use Rattle.fmp_fact_words.specs.declared.rows.TheConstants.{WORDS}
use Rattle.fmp_fact_words.specs.declared.rows.Plain.{Plain}
use Rattle.fmp_fact_words.specs.declared.rows.Plain.TheVariants as plain
use Rattle.fmp_fact_words.specs.declared.rows.TheConstants.{KEYS}

-- what stands beside a word in the first of these rows that has it
abbrev pub row_of : {A : Type 0} → List (List ℕ × A) → List ℕ → Option A
row_of [] word = None
row_of (row ∷ rows) word = if bytes_eq row.0 word then Some row.1 else row_of rows word

abbrev pub words : List (List ℕ × Plain)
words = map (λ row. (row.0.now, row.1)) WORDS

abbrev pub fact_of : Plain → Fact
fact_of plain.Locked = fact.Locked
fact_of plain.Disabled = fact.Disabled
fact_of plain.Latch = fact.Latched
fact_of plain.Dormant = fact.Dormant
fact_of plain.Running = fact.Running
fact_of plain.Ready = fact.Ready
fact_of plain.Suspended = fact.Suspended
fact_of plain.Waits = fact.Waits
fact_of plain.Sleep = fact.WaitsFor waiting.Sleep
fact_of plain.Delay = fact.WaitsFor waiting.Delay
fact_of plain.Semaphore = fact.WaitsFor waiting.Semaphore
fact_of plain.Eventflag = fact.WaitsFor waiting.Eventflag
fact_of plain.Send = fact.WaitsFor waiting.Send
fact_of plain.Receive = fact.WaitsFor waiting.Receive
fact_of plain.Pool = fact.WaitsFor waiting.Pool
fact_of plain.Empty = fact.Empty
fact_of plain.Stopped = fact.Stopped
fact_of plain.Due = fact.Due
fact_of plain.Free = fact.Free

-- the fact of a word as it is
abbrev pub word_fact : List ℕ → Option Fact
word_fact word = option_map fact_of (row_of words word)

abbrev pub key_rows : List (List ℕ × Key)
key_rows = map (λ row. (row.0.now, row.1)) KEYS

-- `P` and the number of a processor, of so many
abbrev pub processor_in : ℕ → List ℕ → Option Proc
processor_in n (p ∷ d ∷ []) = if p == letter_p && (nat_le 49 d && nat_le d (48 + n)) then Some (as_proc (d - 48)) else None
processor_in n other = None

-- a number in decimal, without a zero that it does not need
unfoldable pub number_in : List ℕ → Option ℕ
number_in value = if are_digits 10 value && not (is_zero_led value) then magnitude_of 10 value else None

-- the same of 64 bits with a sign, after a `-` or not
unfoldable pub value_in : List ℕ → Option ℤ
value_in value =
    option_map_or (λ digits. option_and_then (signed_of (2 ^ 63) true) (number_in digits)) (following minus_sign value)
    (option_and_then (signed_of (2 ^ 63) false) (number_in value))

module _ (names : NameLists) where
  abbrev pub task_in : List ℕ → Option Task
  task_in word = option_map as_task (number_of names (name.Object objects.Task) word)

  abbrev pub object_in : ObjectKind → List ℕ → Option Object
  object_in kind word = option_map as_object (number_of names (name.Object kind) word)

  abbrev pub handler_in : List ℕ → Option Runner
  handler_in word = option_or (option_map runner.Cyclic (object_in objects.Cyclic word)) (option_map runner.Alarm (object_in objects.Alarm word))

  -- an object that a task may wait for
  abbrev pub waited_in : ObjectKind → List ℕ → Option Fact
  waited_in kind word = option_map (fact.WaitsAt kind) (object_in kind word)

  unfoldable pub waited_for : List ℕ → Option Fact
  waited_for word =
      option_or (waited_in objects.Semaphore word) (option_or (waited_in objects.Eventflag word)
      (option_or (waited_in objects.DataQueue word) (waited_in objects.Pool word)))

  -- a word as it is. One that is also a name has to be written with a star, and is none of these
  unfoldable pub plain_fact : List ℕ → Option Fact
  plain_fact word = if is_object names word then (if is_none (row_of words word) then waited_for word else None) else word_fact word

  abbrev pub running_fact : List ℕ → Option Fact
  running_fact value = if bytes_eq value (codes "-") then Some fact.RunsNone else option_map fact.Runs (task_in value)

  -- what stands before a `=` with what stands after it
  abbrev pub key_fact : List ℕ → Key → Option Fact
  key_fact value keys.Run = running_fact value
  key_fact value keys.Ready = option_map fact.HasReady (task_in value)
  key_fact value keys.Due = option_map fact.HasDue (handler_in value)
  key_fact value keys.Left = option_map fact.Left (number_in value)
  key_fact value keys.Priority = option_map fact.Priority (number_in value)
  key_fact value keys.Activations = option_map fact.Activations (number_in value)
  key_fact value keys.Wakeups = option_map fact.Wakeups (number_in value)
  key_fact value keys.Count = option_map fact.Count (number_in value)
  key_fact value keys.Pattern = option_map fact.Pattern (number_in value)
  key_fact value keys.Values = option_map fact.HasValue (value_in value)
  key_fact value keys.FreeBlocks = option_map fact.FreeBlocks (number_in value)
  key_fact value keys.Held = option_map fact.HeldBy (processor_in names.processors value)

  -- a star stands for anything that could be there
  abbrev pub valued_fact : List ℕ → Option Key → Option Fact
  valued_fact value None = None
  valued_fact value (Some key) = option_or (key_fact value key) (if bytes_eq value (codes "*") then Some (fact.Has key) else None)

  abbrev pub cut_fact : List ℕ → List ℕ × Option (List ℕ) → Option Fact
  cut_fact word (key, None) = option_or (option_map fact.On (processor_in names.processors word)) (plain_fact word)
  cut_fact word (key, Some value) = valued_fact value (row_of key_rows key)

  -- the fact that a word stands for, if it stands for one
  unfoldable pub fact_named : List ℕ → Option Fact
  fact_named word = cut_fact word (cut_at equals_sign word)
