-- A memory pool as an object: what the configuration says of it, which blocks are handed out, and its wait queue.
use Rattle.std.specs.Prelude.{ℕ, ℤ, pos, negsuc, not, Bool, false, List, map, take, Option, slice_index_or}
use Rattle.std.specs.List.{position}
use Rattle.fmp_codes.specs.declared.numbers.Task.{Task}
use Rattle.fmp_rules.specs.declared.machine.Pool.{Pool}
use Rattle.fmp_kernel_parts.specs.Digests.{added}
use Rattle.fmp_rules.specs.World.{first}
use Rattle.fmp_waitq.specs.Queue.{Waiter, task_of, added_waiters}
use Rattle.fmp_mpf.specs.Marks.{word_of}

pub record MemoryPool : Type 0 where
  pub pool : Pool
  pub waiters : List Waiter

-- what a digest is after it was added, with nothing of what the configuration says of it
unfoldable pub added_pool : MemoryPool → ℕ → ℕ
added_pool m sum = added_waiters m.waiters (added sum (word_of m.pool.handed))

-- the least block that is not handed out
abbrev pub free_block : MemoryPool → Option ℕ
free_block m = position not (take m.pool.setup.blocks m.pool.handed)

-- the number is that of a block that is handed out
abbrev pub is_handed : MemoryPool → ℤ → Bool
is_handed m (pos b) = slice_index_or (take m.pool.setup.blocks m.pool.handed) b false
is_handed m (negsuc b) = false

-- the first task that waits for a block
abbrev pub waiter : MemoryPool → Option Task
waiter m = first (map task_of m.waiters)
