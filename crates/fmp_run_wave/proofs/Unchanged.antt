-- Of what is the same no lines are told.
use Rattle.std.proofs.Common.{◌≡◌, ℕ, zero, suc, Bool, true, false, Option, List, [], ◌++◌, length, refl, sym, ap, ap₂, ◌∙◌, append-nil}
use Rattle.std.proofs.lemmas.Bool.{eq-eqb}
use Rattle.std.proofs.lemmas.Slice.Eq.{bytes_eq-Decides}
use Rattle.fmp_out.specs.Putting.{Adds, Putting}
use Rattle.fmp_codes.specs.Numbers.{as_task}
use Rattle.fmp_codes.specs.declared.numbers.Proc.{Proc}
use Rattle.fmp_codes.specs.declared.numbers.Task.{Task}
use Rattle.fmp_rules.specs.World.{item}
use Rattle.fmp_rules.specs.declared.machine.Wait.{Wait}
use Rattle.fmp_rules.specs.declared.states.TaskState.{TaskState}
use Rattle.fmp_names.specs.Names.{NameLists}
use Rattle.fmp_trace.specs.Lines.{runner_text, running_text}
use Rattle.fmp_run_wave.specs.declared.resource.Resource.{Resource}
use Rattle.fmp_run_wave.specs.declared.signal.Signal.{Signal}
use Rattle.fmp_run_wave.specs.declared.signal.Signal.TheVariants as signals
use Rattle.fmp_run_wave.specs.declared.snapshot.ShownProcessor.{ShownProcessor}
use Rattle.fmp_run_wave.specs.declared.snapshot.ShownTask.{ShownTask}
use Rattle.fmp_run_wave.specs.declared.snapshot.TaskNumbers.{TaskNumbers}
use Rattle.fmp_run_wave.specs.Changes.{bit_change, counts_change, flag_changes, if_other, number_change, number_told, processor_changes, state_change, task_changes, task_told, told_of, wait_change}
use Rattle.fmp_run_wave.specs.Listing.{each}
use Rattle.fmp_run_wave.specs.Resources.{signal_of}
use Rattle.fmp_run_wave.specs.Shown.{no_task_shown}
use Rattle.fmp_run_wave.specs.Values.{due_value, running_value, state_value, state_word, wait_text, wait_value}

-- a text is not another than itself
pub none_of_same : (old new line : List ℕ) → old ≡ new → if_other old new line ≡ []
none_of_same old new line same = let equal = (bytes_eq-Decides new new).1 refl in rw (same, equal) refl

-- nothing after what was written
nothing_more : (out : Putting) (line : List ℕ) → line ≡ [] → Adds line out out
nothing_more out line none whole = (whole, sym (ap (λ (xs : List ℕ). out.bytes ++ xs) none ∙ append-nil out.bytes))

both_nothing : (xs ys : List ℕ) → xs ≡ [] → ys ≡ [] → xs ++ ys ≡ []
both_nothing xs ys = λ first second. ap₂ (λ (a b : List ℕ). a ++ b) first second

none_of_each : (f : ℕ → List ℕ) (n : ℕ) → ((k : ℕ) → f k ≡ []) → each f n ≡ []
unfolding each
none_of_each f zero none = refl
none_of_each f (suc n) none = both_nothing (each f n) (f (suc n)) (none_of_each f n none) (none (suc n))

same_bit : (signal : Signal) (n : ℕ) (bit : Bool) → bit_change signal n bit bit ≡ []
same_bit signal n true = refl
same_bit signal n false = refl

same_flags : (p : Proc) (x : ShownProcessor) → flag_changes p x x ≡ []
unfolding flag_changes
same_flags p x = rw (same_bit _ p.number x.locked, same_bit _ p.number x.disabled, same_bit _ p.number x.latch) refl

same_processor : (lists : NameLists) (p : Proc) (x : ShownProcessor) → processor_changes lists p x x ≡ []
unfolding processor_changes
same_processor lists p x =
    rw (
      none_of_same (running_text lists x.running) (running_text lists x.running) (running_value lists p x.running) refl,
      same_flags p x,
      none_of_same (runner_text lists x.due) (runner_text lists x.due) (due_value lists p x.due) refl,
    ) refl

pub no_processor_lines : (lists : NameLists) (p : Proc) (x y : ShownProcessor) (out : Putting) → x ≡ y → Adds (processor_changes lists p x y) out out
no_processor_lines lists p x y out same = rw same (nothing_more out _ (same_processor lists p y))

same_state : (t : Task) (x y : TaskState) → x ≡ y → state_change t x y ≡ []
same_state t x y same = none_of_same (state_word x) (state_word y) (state_value t y) (ap state_word same)

same_wait : (lists : NameLists) (t : Task) (x y : Option Wait) → x ≡ y → wait_change lists t x y ≡ []
same_wait lists t x y same = none_of_same (wait_text lists x) (wait_text lists y) (wait_value lists t y) (ap (λ (w : Option Wait). wait_text lists w) same)

no_change : (signal : Signal) (n number : ℕ) → number_change signal n number number ≡ []
no_change signal n number = let same = eq-eqb number number refl in rw same refl

same_counts : (t : Task) (x y : TaskNumbers) → x ≡ y → counts_change t x y ≡ []
unfolding counts_change
same_counts t x y same =
    rw same
    (both_nothing _ _ (both_nothing _ _ (no_change signals.Priority t.number y.priority) (no_change signals.Activations t.number y.activations))
    (no_change signals.Wakeups t.number y.wakeups))

same_task : (lists : NameLists) (t : Task) (x : ShownTask) → task_changes lists t x x ≡ []
unfolding task_changes
same_task lists t x =
    both_nothing _ _ (both_nothing _ _ (same_state t x.state x.state refl) (same_wait lists t x.wait x.wait refl)) (same_counts t x.numbers x.numbers refl)

pub no_task_lines : (lists : NameLists) (t : Task) (x y : ShownTask) (out : Putting) → x ≡ y → Adds (task_changes lists t x y) out out
no_task_lines lists t x y out same = rw same (nothing_more out _ (same_task lists t y))

-- of a list that is the same
same_told : {X : Type 0} (told : ℕ → X → X → List ℕ) (blank : X) (xs : List X) → ((n : ℕ) (x : X) → told n x x ≡ []) → told_of told blank xs xs ≡ []
same_told {X} told blank xs same = none_of_each (λ (n : ℕ). told n (item blank xs n) (item blank xs n)) (length xs) (λ n. same n (item blank xs n))

pub no_tasks_told : (lists : NameLists) (xs : List ShownTask) (out : Putting) → Adds (told_of (task_told lists) no_task_shown xs xs) out out
no_tasks_told lists xs out = nothing_more out _ (same_told (task_told lists) no_task_shown xs (λ n x. same_task lists (as_task n) x))

pub no_numbers_told : (r : Resource) (xs : List ℕ) (out : Putting) → Adds (told_of (number_told r) 0 xs xs) out out
no_numbers_told r xs out = nothing_more out _ (same_told (number_told r) 0 xs (λ n x. no_change (signal_of r) n x))
