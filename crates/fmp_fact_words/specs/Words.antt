-- The word of a pattern that stands for a fact, as the lines of a state have it. docs/FORMATS.md has these lines.
use Rattle.std.specs.Prelude.{ℕ, List, ◌++◌, unwrap_or, codes, decimal}
use Rattle.std.specs.Fmt.{signed_decimal}
use Rattle.fmp_codes.specs.declared.numbers.Proc.{Proc}
use Rattle.fmp_codes.specs.declared.records.Runner.{Runner}
use Rattle.fmp_codes.specs.declared.records.Runner.TheVariants as runner
use Rattle.fmp_codes.specs.declared.kinds.NameKind.TheVariants as name
use Rattle.fmp_codes.specs.declared.kinds.ObjectKind.{ObjectKind}
use Rattle.fmp_codes.specs.declared.kinds.ObjectKind.TheVariants as objects
use Rattle.fmp_names.specs.Names.{NameLists, name_of}
use Rattle.fmp_facts.specs.declared.facts.Fact.{Fact}
use Rattle.fmp_facts.specs.declared.facts.Fact.TheVariants as fact
use Rattle.fmp_facts.specs.declared.facts.Key.{Key}
use Rattle.fmp_facts.specs.declared.facts.Key.TheVariants as keys
use Rattle.fmp_facts.specs.declared.facts.WaitKind.{WaitKind}
use Rattle.fmp_facts.specs.declared.facts.WaitKind.TheVariants as waiting

abbrev pub processor_word : Proc → List ℕ
processor_word p = codes "P" ++ decimal p.number

abbrev pub wait_word : WaitKind → List ℕ
wait_word waiting.Sleep = codes "slp"
wait_word waiting.Delay = codes "dly"
wait_word waiting.Semaphore = codes "sem"
wait_word waiting.Eventflag = codes "flg"
wait_word waiting.Send = codes "sdtq"
wait_word waiting.Receive = codes "rdtq"
wait_word waiting.Pool = codes "mpf"

abbrev pub key_word : Key → List ℕ
key_word keys.Run = codes "run"
key_word keys.Ready = codes "ready"
key_word keys.Due = codes "due"
key_word keys.Left = codes "left"
key_word keys.Priority = codes "pri"
key_word keys.Activations = codes "act"
key_word keys.Wakeups = codes "wup"
key_word keys.Count = codes "count"
key_word keys.Pattern = codes "pattern"
key_word keys.Values = codes "values"
key_word keys.FreeBlocks = codes "free"
key_word keys.Held = codes "held"

module _ (names : NameLists) where
  -- an object by its name, or by its number where no object has it
  abbrev pub called : ObjectKind → ℕ → List ℕ
  called kind n = unwrap_or (name_of names (name.Object kind) n) (decimal n)

  abbrev pub runner_word : Runner → List ℕ
  runner_word (runner.Task t) = called objects.Task t.number
  runner_word (runner.Alarm a) = called objects.Alarm a.number
  runner_word (runner.Cyclic c) = called objects.Cyclic c.number

  unfoldable pub word_of : Fact → List ℕ
  word_of (fact.Runs t) = codes "run=" ++ called objects.Task t.number
  word_of fact.RunsNone = codes "run=-"
  word_of (fact.HasReady t) = codes "ready=" ++ called objects.Task t.number
  word_of fact.Locked = codes "locked"
  word_of fact.Disabled = codes "disabled"
  word_of fact.Latched = codes "latch"
  word_of (fact.HasDue r) = codes "due=" ++ runner_word r
  word_of fact.Dormant = codes "dormant"
  word_of fact.Running = codes "running"
  word_of fact.Ready = codes "ready"
  word_of (fact.On p) = processor_word p
  word_of fact.Suspended = codes "suspended"
  word_of fact.Waits = codes "waits"
  word_of (fact.WaitsFor kind) = wait_word kind
  word_of (fact.WaitsAt kind o) = called kind o.number
  word_of (fact.Left n) = codes "left=" ++ decimal n
  word_of (fact.Priority n) = codes "pri=" ++ decimal n
  word_of (fact.Activations n) = codes "act=" ++ decimal n
  word_of (fact.Wakeups n) = codes "wup=" ++ decimal n
  word_of (fact.Count n) = codes "count=" ++ decimal n
  word_of (fact.Pattern n) = codes "pattern=" ++ decimal n
  word_of fact.Empty = codes "empty"
  word_of (fact.HasValue v) = codes "values=" ++ signed_decimal v
  word_of (fact.FreeBlocks n) = codes "free=" ++ decimal n
  word_of fact.Stopped = codes "stopped"
  word_of fact.Due = codes "due"
  word_of fact.Free = codes "free"
  word_of (fact.HeldBy p) = codes "held=" ++ processor_word p
  word_of (fact.Has key) = key_word key ++ codes "=*"
