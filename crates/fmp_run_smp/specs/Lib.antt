pub mod Scripted  -- What a run of processors that follow scripts does.
