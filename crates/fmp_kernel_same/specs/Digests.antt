-- What a digest is after a record of the machine was added.
use Rattle.std.specs.Prelude.{ℕ, ◌+◌, ◌*◌, ◌%◌, ◌^◌, Option, None, Some, bit_or, bit_xor}
use Rattle.std.specs.Int.{w64, cast_unsigned, from_bool}
use Rattle.fmp_codes.specs.declared.records.Runner.{Runner}
use Rattle.fmp_codes.specs.declared.records.Runner.TheVariants as runner
use Rattle.fmp_codes.specs.declared.numbers.Proc.{Proc}
use Rattle.fmp_rules.specs.declared.machine.Wait.{Wait}
use Rattle.fmp_rules.specs.declared.machine.Wait.TheVariants as wait
use Rattle.fmp_rules.specs.declared.machine.TaskRecord.{TaskRecord}
use Rattle.fmp_rules.specs.declared.machine.Processor.{Processor}
use Rattle.fmp_kernel_parts.specs.Digests.{added, added_task}

abbrev pub added_option : {X : Type 0} → (X → ℕ → ℕ) → Option X → ℕ → ℕ
added_option f None sum = added sum 0
added_option f (Some x) sum = f x sum

abbrev pub added_proc : Proc → ℕ → ℕ
added_proc p sum = added sum p.number

abbrev pub added_runner : Runner → ℕ → ℕ
added_runner (runner.Task t) sum = added sum t.number
added_runner (runner.Alarm a) sum = added sum (64 + a.number)
added_runner (runner.Cyclic c) sum = added sum (128 + c.number)

abbrev pub added_wait : Wait → ℕ → ℕ
added_wait wait.Sleep sum = added sum 1
added_wait wait.Delay sum = added sum 2
added_wait (wait.Semaphore s) sum = added sum (3 + 8 * s.number)
added_wait (wait.Eventflag f bits mode) sum = added sum (4 + 8 * f.number + 1024 * bits)
added_wait (wait.Send d value) sum = added sum (bit_xor d.number (cast_unsigned w64 value))
added_wait (wait.Receive d) sum = added sum (5 + 8 * d.number)
added_wait (wait.Pool m) sum = added sum (6 + 8 * m.number)

-- the numbers and the flags of a task, each at its place
unfoldable pub numbers_of : TaskRecord → ℕ
numbers_of r =
    bit_or (bit_or
    (bit_or (bit_or (bit_or r.assigned.number (r.priority.number * 2 ^ 8 % 2 ^ 64)) (from_bool r.active * 2 ^ 16 % 2 ^ 64)) (from_bool r.suspended * 2 ^ 17 % 2 ^ 64))
    (r.activations * 2 ^ 24 % 2 ^ 64)) (r.wakeups * 2 ^ 32 % 2 ^ 64)

-- of what the configuration says of it, which never changes, nothing is added
abbrev pub added_record : TaskRecord → ℕ → ℕ
added_record r sum = added_option added_proc r.kept (added_option added_wait r.wait (added sum (numbers_of r)))

unfoldable pub flags_of : Processor → ℕ
flags_of p = bit_or (bit_or (from_bool p.locked) (from_bool p.disabled * 2 ^ 1 % 2 ^ 64)) (from_bool p.latch * 2 ^ 2 % 2 ^ 64)

abbrev pub added_processor : Processor → ℕ → ℕ
added_processor p sum = added (added_option added_task p.running sum) (flags_of p)
