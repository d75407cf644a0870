pub mod Found  -- What is found of what stays, and told.
pub mod Known  -- Why not all calls are known that are made.
