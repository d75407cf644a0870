pub mod ReadBack  -- What is written of events is read back as these events.
