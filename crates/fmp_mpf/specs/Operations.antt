-- What an operation does to a memory pool, and what it answers; and when nobody waits for what is to be had.
use Rattle.std.specs.Prelude.{◌≡◌, ℕ, ℤ, Bool, true, false, Option, None, Some, slice_set, if◌then◌else◌}
use Rattle.fmp_codes.specs.declared.numbers.Task.{Task}
use Rattle.fmp_rules.specs.BufferCalls.{block_of}
use Rattle.fmp_waitq.specs.Queue.{has_waiter, left_by}
use Rattle.fmp_mpf.specs.MemoryPool.{MemoryPool, free_block, is_handed, waiter}
use Rattle.fmp_mpf.specs.declared.operations.Given.{Given}
use Rattle.fmp_mpf.specs.declared.operations.Given.TheVariants as given

abbrev pub with_handed : MemoryPool → ℕ → Bool → MemoryPool
with_handed m b handed = record m { pool = record m.pool { handed = slice_set m.pool.handed b handed } }

-- the block is handed out, if there is one
abbrev pub without_block : MemoryPool → Option ℕ → MemoryPool
without_block m None = m
without_block m (Some b) = with_handed m b true

-- the first waiter is released with the block, or else it is free
abbrev pub give_to : MemoryPool → ℕ → Option Task → MemoryPool × Given
give_to m b (Some t) = (record m { waiters = left_by t m.waiters }, given.To t)
give_to m b None = (with_handed m b false, given.Free)

-- a block that is not handed out cannot come back
abbrev pub give : MemoryPool → ℤ → MemoryPool × Given
give m b = if is_handed m b then give_to m (block_of b) (waiter m) else (m, given.Stranger)

-- tasks wait only where no block is free
pub record IsServed (m : MemoryPool) : Type 0 where
  pub get : (t : Task) → has_waiter t m.waiters ≡ true → free_block m ≡ None
