pub mod Marks  -- The marks of 64 blocks in a word: a bit for each, the lowest for block 0, set where the block is handed out.
pub mod MemoryPool  -- A memory pool as an object
pub mod Operations  -- What an operation does to a memory pool, and what it answers; and when nobody waits for what is to be had.
