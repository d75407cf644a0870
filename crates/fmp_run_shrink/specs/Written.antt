pub mod Telling  -- What is written of events, and what a reader of it gives.
