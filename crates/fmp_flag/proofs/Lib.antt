pub mod Served  -- What was done after other releases.
pub mod Unmet  -- Tasks that wait only for what is not set do so after the pattern or the queue has changed.
