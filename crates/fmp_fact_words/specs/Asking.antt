-- What a row of words asks of a state.
use Rattle.std.specs.Prelude.{ℕ, ◌==◌, Bool, List, [], ◌∷◌, ◌++◌, Option, None, Some, option_map, if◌then◌else◌}
use Rattle.std.specs.List.{list_all, list_any}
use Rattle.std.specs.Option.{option_or}
use Rattle.fmp_codes.specs.declared.kinds.ObjectKind.TheVariants as objects
use Rattle.fmp_bytes.specs.Bytes.{asterisk}
use Rattle.fmp_names.specs.Names.{NameLists}
use Rattle.fmp_facts.specs.Asking.{Asked}
use Rattle.fmp_facts.specs.declared.facts.Fact.{Fact}
use Rattle.fmp_facts.specs.declared.facts.Fact.TheVariants as fact
use Rattle.fmp_facts.specs.declared.facts.Key.{Key}
use Rattle.fmp_facts.specs.declared.facts.Key.TheVariants as keys
use Rattle.fmp_facts.specs.declared.facts.Kind.{Kind}
use Rattle.fmp_facts.specs.declared.facts.Kind.TheVariants as kind
use Rattle.fmp_facts.specs.declared.facts.Subject.TheVariants as subject
use Rattle.fmp_facts.specs.declared.facts.Thing.{Thing}
use Rattle.fmp_facts.specs.declared.facts.Thing.TheVariants as thing
use Rattle.fmp_fact_words.specs.Reading.{fact_named, object_in, processor_in, task_in}

-- the kinds of things that have something after a key
abbrev pub kinds_with : Key → List Kind
kinds_with keys.Run = kind.Processor ∷ []
kinds_with keys.Ready = kind.Processor ∷ []
kinds_with keys.Due = kind.Processor ∷ []
kinds_with keys.Left = kind.Task ∷ kind.Cyclic ∷ kind.Alarm ∷ []
kinds_with keys.Priority = kind.Task ∷ []
kinds_with keys.Activations = kind.Task ∷ []
kinds_with keys.Wakeups = kind.Task ∷ []
kinds_with keys.Count = kind.Semaphore ∷ []
kinds_with keys.Pattern = kind.Eventflag ∷ []
kinds_with keys.Values = kind.DataQueue ∷ []
kinds_with keys.FreeBlocks = kind.Pool ∷ []
kinds_with keys.Held = kind.SpinLock ∷ []

-- the kinds of things of which a fact may be so
abbrev pub kinds_of : Fact → List Kind
kinds_of (fact.Left n) = kind.Task ∷ kind.Cyclic ∷ kind.Alarm ∷ []
kinds_of fact.Stopped = kind.Cyclic ∷ kind.Alarm ∷ []
kinds_of fact.Due = kind.Cyclic ∷ kind.Alarm ∷ []
kinds_of (fact.Runs t) = kind.Processor ∷ []
kinds_of fact.RunsNone = kind.Processor ∷ []
kinds_of (fact.HasReady t) = kind.Processor ∷ []
kinds_of fact.Locked = kind.Processor ∷ []
kinds_of fact.Disabled = kind.Processor ∷ []
kinds_of fact.Latched = kind.Processor ∷ []
kinds_of (fact.HasDue r) = kind.Processor ∷ []
kinds_of (fact.Count n) = kind.Semaphore ∷ []
kinds_of (fact.Pattern n) = kind.Eventflag ∷ []
kinds_of fact.Empty = kind.DataQueue ∷ []
kinds_of (fact.HasValue v) = kind.DataQueue ∷ []
kinds_of (fact.FreeBlocks n) = kind.Pool ∷ []
kinds_of fact.Free = kind.SpinLock ∷ []
kinds_of (fact.HeldBy p) = kind.SpinLock ∷ []
kinds_of (fact.Has key) = kinds_with key
kinds_of other = kind.Task ∷ []

abbrev pub place_of : Kind → ℕ
place_of kind.Processor = 0
place_of kind.Task = 1
place_of kind.Semaphore = 2
place_of kind.Eventflag = 3
place_of kind.DataQueue = 4
place_of kind.Pool = 5
place_of kind.Cyclic = 6
place_of kind.Alarm = 7
place_of kind.SpinLock = 8

abbrev pub may_be : Kind → Fact → Bool
may_be k f = list_any (λ other. place_of other == place_of k) (kinds_of f)

abbrev pub may_all_be : List Fact → Kind → Bool
may_all_be facts k = list_all (may_be k) facts

abbrev pub kind_of : Thing → Kind
kind_of (thing.Processor p) = kind.Processor
kind_of (thing.Task t) = kind.Task
kind_of (thing.Semaphore o) = kind.Semaphore
kind_of (thing.Eventflag o) = kind.Eventflag
kind_of (thing.DataQueue o) = kind.DataQueue
kind_of (thing.Pool o) = kind.Pool
kind_of (thing.Cyclic o) = kind.Cyclic
kind_of (thing.Alarm o) = kind.Alarm
kind_of (thing.SpinLock o) = kind.SpinLock

-- that all of these facts are so of something of one of these kinds, as far as they may be
abbrev pub asked_of_kinds : List Fact → List Kind → List Asked
asked_of_kinds facts [] = []
asked_of_kinds facts (k ∷ ks) =
    if may_all_be facts k then record { subject = subject.Any k; facts = facts } ∷ asked_of_kinds facts ks else asked_of_kinds facts ks

-- without a subject: of the kinds of which the first fact may be so
abbrev pub asked_of_any : List Fact → List Asked
asked_of_any [] = []
asked_of_any (f ∷ fs) = asked_of_kinds (f ∷ fs) (kinds_of f)

abbrev pub asked_of_one : Thing → List Fact → List Asked
asked_of_one x [] = []
asked_of_one x (f ∷ fs) = if may_all_be (f ∷ fs) (kind_of x) then record { subject = subject.One x; facts = f ∷ fs } ∷ [] else []

abbrev pub asked_of : Option Thing → List Fact → List Asked
asked_of None facts = asked_of_any facts
asked_of (Some x) facts = asked_of_one x facts

abbrev pub asked_if : Option Thing → Option (List Fact) → List Asked
asked_if x None = []
asked_if x (Some facts) = asked_of x facts

abbrev pub joined : Option (List Fact) → Option (List Fact) → Option (List Fact)
joined None others = None
joined (Some fs) None = None
joined (Some fs) (Some gs) = Some (fs ++ gs)

-- a word of stars alone says nothing
abbrev pub is_star : List ℕ → Bool
is_star word = list_all (λ b. b == asterisk) word

module _ (names : NameLists) where
  -- the thing of a name, or a processor. Names are distinct, so there is one at most
  unfoldable pub thing_in : List ℕ → Option Thing
  thing_in word =
      option_or (option_map thing.Processor (processor_in names.processors word)) (option_or (option_map thing.Task (task_in names word))
      (option_or (option_map thing.Semaphore (object_in names objects.Semaphore word)) (option_or (option_map thing.Eventflag (object_in names objects.Eventflag word))
      (option_or (option_map thing.DataQueue (object_in names objects.DataQueue word)) (option_or (option_map thing.Pool (object_in names objects.Pool word))
      (option_or (option_map thing.Cyclic (object_in names objects.Cyclic word)) (option_or (option_map thing.Alarm (object_in names objects.Alarm word))
      (option_map thing.SpinLock (object_in names objects.SpinLock word)))))))))

  -- the facts that a word stands for: none where it is a star, else one, if there is one
  abbrev pub word_facts : List ℕ → Option (List Fact)
  word_facts word = if is_star word then Some [] else option_map (λ f. f ∷ []) (fact_named names word)

  -- the facts of a row of words, where each stands for some
  abbrev pub facts_in : List (List ℕ) → Option (List Fact)
  facts_in [] = Some []
  facts_in (word ∷ words) = joined (word_facts word) (facts_in words)

  abbrev pub after_subject : Option Thing → List ℕ → List (List ℕ) → List Asked
  after_subject None word words = asked_if None (facts_in (word ∷ words))
  after_subject (Some x) word words = asked_if (Some x) (facts_in words)

  -- what a row of words asks of a state, if it asks anything: one of these. Else it is a pattern of the record
  unfoldable pub asked_by : List (List ℕ) → List Asked
  asked_by [] = []
  asked_by (word ∷ words) = after_subject (thing_in word) word words
