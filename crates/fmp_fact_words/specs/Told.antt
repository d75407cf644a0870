-- Facts whose words are theirs alone: names are those of one object, and no name is also a word of a pattern.
use Rattle.std.specs.Prelude.{◌≡◌, ℕ, ℤ, pos, negsuc, ◌<◌, ◌≤◌, ◌^◌, Bool, true, false, List, None, Some}
use Rattle.fmp_codes.specs.declared.records.Runner.{Runner}
use Rattle.fmp_codes.specs.declared.records.Runner.TheVariants as runner
use Rattle.fmp_codes.specs.declared.kinds.NameKind.TheVariants as name
use Rattle.fmp_codes.specs.declared.kinds.ObjectKind.{ObjectKind}
use Rattle.fmp_codes.specs.declared.kinds.ObjectKind.TheVariants as objects
use Rattle.fmp_names.specs.Names.{NameLists, is_object, name_of, number_of}
use Rattle.fmp_facts.specs.declared.facts.Fact.{Fact}
use Rattle.fmp_facts.specs.declared.facts.Fact.TheVariants as fact
use Rattle.fmp_fact_words.specs.Reading.{processor_in, row_of, words}
use Rattle.fmp_fact_words.specs.Words.{wait_word, word_of}

-- a task may wait for an object of this kind
abbrev pub is_waited : ObjectKind → Bool
is_waited objects.Semaphore = true
is_waited objects.Eventflag = true
is_waited objects.DataQueue = true
is_waited objects.Pool = true
is_waited other = false

module _ (names : NameLists) where
  -- an object has a name
  pub record IsNamed (kind : ObjectKind) (n : ℕ) : Type 0 where
    pub word : List ℕ
    pub is : name_of names (name.Object kind) n ≡ Some word

  -- no other object has it
  abbrev pub IsAlone : ObjectKind → List ℕ → Type 0
  IsAlone kind word = (other : ObjectKind) → (other ≡ kind → ⊥) → number_of names (name.Object other) word ≡ None

  -- no object is called so
  abbrev pub IsWord : List ℕ → Type 0
  IsWord word = is_object names word ≡ false

  abbrev pub IsRunnerTold : Runner → Type 0
  IsRunnerTold (runner.Task t) = ⊥
  IsRunnerTold (runner.Alarm a) = (named : IsNamed objects.Alarm a.number) × IsAlone objects.Alarm named.word
  IsRunnerTold (runner.Cyclic c) = IsNamed objects.Cyclic c.number

  -- the name of an object that a task waits for is no word of a pattern, and it is the name of an object
  abbrev pub IsWaitTold : ObjectKind → ℕ → Type 0
  IsWaitTold kind n =
      (named : IsNamed kind n) × (is_waited kind ≡ true) × IsAlone kind named.word × (is_object names named.word ≡ true) × (row_of words named.word ≡ None)
      × (processor_in names.processors named.word ≡ None)

  abbrev pub IsValueTold : ℤ → Type 0
  IsValueTold (pos n) = n < 2 ^ 63
  IsValueTold (negsuc n) = n < 2 ^ 63

  -- the word of a fact is its own
  abbrev pub IsTold : Fact → Type 0
  IsTold (fact.Runs t) = IsNamed objects.Task t.number
  IsTold fact.RunsNone = Unit {0}
  IsTold (fact.HasReady t) = IsNamed objects.Task t.number
  IsTold (fact.HasDue r) = IsRunnerTold r
  IsTold (fact.On p) = p.number ≤ names.processors
  IsTold (fact.WaitsFor kind) = IsWord (wait_word kind)
  IsTold (fact.WaitsAt kind o) = IsWaitTold kind o.number
  IsTold (fact.Left n) = n < 2 ^ 64
  IsTold (fact.Priority n) = n < 2 ^ 64
  IsTold (fact.Activations n) = n < 2 ^ 64
  IsTold (fact.Wakeups n) = n < 2 ^ 64
  IsTold (fact.Count n) = n < 2 ^ 64
  IsTold (fact.Pattern n) = n < 2 ^ 64
  IsTold (fact.HasValue v) = IsValueTold v
  IsTold (fact.FreeBlocks n) = n < 2 ^ 64
  IsTold (fact.HeldBy p) = p.number ≤ names.processors
  IsTold (fact.Has key) = Unit {0}
  IsTold other = IsWord (word_of names other)
