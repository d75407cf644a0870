pub mod Asking  -- What a pattern asks of a state.
