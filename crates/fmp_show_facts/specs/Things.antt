-- The word of a thing that has facts, and things whose words are theirs alone.
use Rattle.std.specs.Prelude.{◌≡◌, ℕ, ◌≤◌, List, [], ◌∷◌, None}
use Rattle.fmp_codes.specs.declared.kinds.ObjectKind.{ObjectKind}
use Rattle.fmp_codes.specs.declared.kinds.ObjectKind.TheVariants as objects
use Rattle.fmp_names.specs.Names.{NameLists}
use Rattle.fmp_facts.specs.declared.facts.Fact.{Fact}
use Rattle.fmp_facts.specs.declared.facts.Thing.{Thing}
use Rattle.fmp_facts.specs.declared.facts.Thing.TheVariants as thing
use Rattle.fmp_fact_words.specs.Reading.{processor_in}
use Rattle.fmp_fact_words.specs.Told.{IsAlone, IsNamed, IsTold}
use Rattle.fmp_fact_words.specs.Words.{called, processor_word}

module _ (names : NameLists) where
  abbrev pub thing_word : Thing → List ℕ
  thing_word (thing.Processor p) = processor_word p
  thing_word (thing.Task t) = called names objects.Task t.number
  thing_word (thing.Semaphore o) = called names objects.Semaphore o.number
  thing_word (thing.Eventflag o) = called names objects.Eventflag o.number
  thing_word (thing.DataQueue o) = called names objects.DataQueue o.number
  thing_word (thing.Pool o) = called names objects.Pool o.number
  thing_word (thing.Cyclic o) = called names objects.Cyclic o.number
  thing_word (thing.Alarm o) = called names objects.Alarm o.number
  thing_word (thing.SpinLock o) = called names objects.SpinLock o.number

  -- an object has a name, which no other object has, and which is no processor's
  abbrev pub IsObjectTold : ObjectKind → ℕ → Type 0
  IsObjectTold kind n = (named : IsNamed names kind n) × IsAlone names kind named.word × (processor_in names.processors named.word ≡ None)

  abbrev pub IsThingTold : Thing → Type 0
  IsThingTold (thing.Processor p) = p.number ≤ names.processors
  IsThingTold (thing.Task t) = IsObjectTold objects.Task t.number
  IsThingTold (thing.Semaphore o) = IsObjectTold objects.Semaphore o.number
  IsThingTold (thing.Eventflag o) = IsObjectTold objects.Eventflag o.number
  IsThingTold (thing.DataQueue o) = IsObjectTold objects.DataQueue o.number
  IsThingTold (thing.Pool o) = IsObjectTold objects.Pool o.number
  IsThingTold (thing.Cyclic o) = IsObjectTold objects.Cyclic o.number
  IsThingTold (thing.Alarm o) = IsObjectTold objects.Alarm o.number
  IsThingTold (thing.SpinLock o) = IsObjectTold objects.SpinLock o.number

  -- and the words of several facts
  abbrev pub AreTold : List Fact → Type 0
  AreTold [] = Unit {0}
  AreTold (f ∷ fs) = IsTold names f × AreTold fs
