pub mod Window  -- What a ring holds after an item is added after the others, and after the first one goes.
