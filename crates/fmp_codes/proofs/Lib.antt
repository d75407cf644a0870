pub mod Listed  -- The lists of the codes and of the answers that have a word have each of them.
pub mod Same  -- Of one number there is one processor, task, object and priority.
pub mod Counters  -- Lists of counters: all zero at first, and one set.
